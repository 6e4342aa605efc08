-- Runs joined by what their files hold.
use Rattle.std.proofs.Common.{ℕ, inl, inr, Bool, true, List, [], ◌∷◌, ◌++◌, refl, sym, subst}
use Rattle.fax_call.specs.Writings.{Writing}
use Rattle.fax_gateway.specs.Restored.{CallPage}
use Rattle.fax_gateway.specs.Lives.{Life}
use Rattle.fax_spool.specs.RecordOctets as spool
use Rattle.fax_spool.specs.Calls.{CrashesLeaveWhatWaits, NewSpoolsTellNone, Rests}
use Rattle.fax_spool.specs.Spools.{MayLeaveBoth}
use Rattle.fax_spool.specs.Stopped.{StoppedOpeningsLeaveWhatWaits}
use Rattle.fax_spool.specs.declared.spool.Spool.{Spool}
use Rattle.fax_queue.specs.Jobs.{WaitSo}
use Rattle.fax_queue.specs.Queues.{QueueValue}
use Rattle.fax_queue.specs.Restorations.{Restores}
use Rattle.fax_queue.specs.Histories.{BeginsRun, HasPast, LeavesRun, OpeningsFindWhatWaits, RunsMakeHistory, WasOpened}
use Rattle.fax_runs.specs.restarts.Runs.{OneRun, WasRun}
use Rattle.fax_runs.specs.restarts.Crossings.{HasLives, HasPastOver, LeavesOver, NewFilesHaveNoPast, RunsCross, RunsGoOn, RunsJoin, RunsLead, StoppedOpeningsLeaveThePast}

pub new_files : NewSpoolsTellNone → NewFilesHaveNoPast
new_files none writes line older newer older_tells newer_tells = record {
  pages = [];
  tell = none older newer older_tells newer_tells;
  past = record { actions = []; state = record { waits = []; notes = true; pages = [] }; done = (refl, refl); there = refl; are = record { traces = tt; same = refl }; put = refl };
}

pub stopped : StoppedOpeningsLeaveWhatWaits → StoppedOpeningsLeaveThePast
stopped stop writes line lives puts times older newer last_older last_newer past openings =
    record { pages = past.pages; tell = stop times older newer last_older last_newer past.pages past.tell openings; past = past.past }

module _ {D : Type 0} (seen : D → List ℕ) (may_leave : D → List ℕ → Type 0) (is_usable : D → Bool) where
  crash_over : CrashesLeaveWhatWaits seen may_leave is_usable → (writes : Writing) (line : List ℕ) (lives : List Life) (puts : List CallPage) (now : Spool D)
      → WaitSo seen may_leave is_usable now (HasPast writes line lives puts) → (older newer : List ℕ) → MayLeaveBoth may_leave now older newer → HasPastOver writes line lives puts older newer
  crash_over leave writes line lives puts now (inl wait) older newer left =
      let it = leave now wait.0 wait.1 older newer left in record { pages = it.0; tell = it.1; past = subst (HasPast writes line lives puts) (sym it.2) wait.2 }
  crash_over leave writes line lives puts now (inr refuses) older newer left = let it = refuses.1 older newer left in record { pages = it.0; tell = it.1; past = it.2 }

  module _ {K : Type 0} (queues_of : K → List QueueValue) (spool_of : K → Spool D) where
    pub begins : (line : List ℕ) (pages : List spool.PageValue) (run : OneRun D K) → WasOpened seen may_leave is_usable run.opened pages → WasRun seen may_leave is_usable queues_of spool_of line run
        → BeginsRun seen may_leave is_usable run.number line pages run.setup run.begun (queues_of run.before) (spool_of run.before)
    begins line pages run found was = record {
      waits = subst (λ (s : Spool D). Rests seen may_leave is_usable s pages) (sym was.spool_is) found.wait;
      restored = was.restored;
      restores = subst (λ (l : List spool.PageValue). Restores line l was.restored) found.told was.restores;
      place = was.place;
      there = was.there;
      begins = was.begins;
      fresh = was.fresh;
      set = was.set;
      queued = was.queued;
      as_many = was.as_many;
      alone = was.alone;
    }

    pub runs_cross : OpeningsFindWhatWaits seen may_leave is_usable → RunsMakeHistory seen may_leave is_usable queues_of spool_of → CrashesLeaveWhatWaits seen may_leave is_usable → RunsCross seen may_leave is_usable queues_of spool_of
    runs_cross find history leave writes line lives puts older newer one other run writing past both is was =
        let found : WasOpened seen may_leave is_usable run.opened past.pages = find older newer one other past.pages run.opened past.tell both is in
        let left : LeavesRun seen may_leave is_usable writes run.number line lives puts run.setup run.settled run.left (spool_of run.after) =
        history writes run.number line past.pages lives puts run.setup run.done run.settled run.begun run.left run.before run.after writing past.past
        (begins line past.pages run found was) was.ran in
        record {
          life = record { setup = run.setup; trace = left.trace };
          kept = left.kept;
          is_life = record { setup = refl; place = left.place; there = left.there; reached = left.reached; are_stored = left.are_stored; leg = left.leg; did = left.did; on_leg = left.on_leg };
          left = crash_over leave writes line (record { setup = run.setup; trace = left.trace } ∷ lives) (puts ++ left.kept) (spool_of run.after) left.past;
        }

pub runs_join : NewSpoolsTellNone → StoppedOpeningsLeaveWhatWaits → RunsJoin
runs_join none stop writes line [] last joined =
    let new : HasPastOver writes line [] [] joined.0.older joined.0.newer = new_files none writes line joined.0.older joined.0.newer joined.2 joined.3 in
    record { lives = []; puts = []; are = refl; past = stopped stop writes line [] [] joined.1 joined.0.older joined.0.newer last.older last.newer new joined.4 }
runs_join none stop writes line (step ∷ earlier) last joined =
    let had : HasLives writes line earlier step.held = runs_join none stop writes line earlier step.held joined.4 in
    let led = joined.2 had.lives had.puts had.past in
    record {
      lives = led.0 ∷ had.lives;
      puts = had.puts ++ led.1;
      are = (had.puts, led.1, led.2, had.are, refl);
      past = stopped stop writes line (led.0 ∷ had.lives) (had.puts ++ led.1) joined.1 joined.0.older joined.0.newer last.older last.newer led.3 joined.3;
    }

module _ {D K : Type 0} (seen : D → List ℕ) (may_leave : D → List ℕ → Type 0) (is_usable : D → Bool) (queues_of : K → List QueueValue) (spool_of : K → Spool D) where
  pub runs_lead : RunsCross seen may_leave is_usable queues_of spool_of → RunsLead seen may_leave is_usable queues_of spool_of
  runs_lead cross writes line before after one other run writing both is was left lives puts past =
      let over : LeavesOver may_leave spool_of writes line lives puts run = cross writes line lives puts before.older before.newer one other run writing past both is was in
      (over.life, over.kept, over.is_life, over.left after.older after.newer left)

  pub runs_go_on : RunsJoin → RunsCross seen may_leave is_usable queues_of spool_of → RunsGoOn seen may_leave is_usable queues_of spool_of
  runs_go_on join cross writes line steps last one other run writing joined both is was =
      let after : HasLives writes line steps last = join writes line steps last joined in
      record { after = after; leaves = cross writes line after.lives after.puts last.older last.newer one other run writing after.past both is was }
