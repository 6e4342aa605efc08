-- Runs whose puts and ends all answered Ok, joined by what their files hold.
use Rattle.std.proofs.Common.{ℕ, inl, inr, Bool, List, [], ◌∷◌, ◌++◌, refl, sym, subst}
use Rattle.fax_call.specs.Writings.{Writing}
use Rattle.fax_gateway.specs.Restored.{CallPage}
use Rattle.fax_gateway.specs.Lives.{Life}
use Rattle.fax_spool.specs.RecordOctets as spool
use Rattle.fax_spool.specs.Calls.{CrashesLeaveWhatWaits, NewSpoolsTellNone}
use Rattle.fax_spool.specs.Spools.{MayLeaveBoth}
use Rattle.fax_spool.specs.declared.spool.Spool.{Spool}
use Rattle.fax_queue.specs.Jobs.{WaitSo}
use Rattle.fax_queue.specs.Queues.{QueueValue}
use Rattle.fax_queue.specs.Restorations.{Restores}
use Rattle.fax_queue.specs.Histories.{OpeningsFindWhatWaits, WasOpened}
use Rattle.fax_queue.specs.NotedRuns.{HasWholePast, LeavesWhole, NewLinesHaveWholePasts, RestartsFindWhatIsLeft, RunsNoteAll}
use Rattle.fax_runs.specs.restarts.WholePasts.{HasWholePastOver, NewFilesHaveWholePasts, OpeningsFindWhatIsLeft, WholeRunsCross}
use Rattle.fax_runs.proofs.restarts.Crossings.{begins}

pub new_files_whole : NewSpoolsTellNone → NewLinesHaveWholePasts → NewFilesHaveWholePasts
new_files_whole none new writes line older newer older_tells newer_tells = record { pages = []; tell = none older newer older_tells newer_tells; past = new writes line [] refl }

module _ {D : Type 0} (seen : D → List ℕ) (may_leave : D → List ℕ → Type 0) (is_usable : D → Bool) where
  crash_whole : CrashesLeaveWhatWaits seen may_leave is_usable → (writes : Writing) (line : List ℕ) (lives : List Life) (puts : List CallPage) (now : Spool D)
      → WaitSo seen may_leave is_usable now (HasWholePast writes line lives puts) → (older newer : List ℕ) → MayLeaveBoth may_leave now older newer → HasWholePastOver writes line lives puts older newer
  crash_whole leave writes line lives puts now (inl wait) older newer left =
      let it = leave now wait.0 wait.1 older newer left in record { pages = it.0; tell = it.1; past = subst (HasWholePast writes line lives puts) (sym it.2) wait.2 }
  crash_whole leave writes line lives puts now (inr refuses) older newer left = let it = refuses.1 older newer left in record { pages = it.0; tell = it.1; past = it.2 }

  pub openings_find_what_is_left : OpeningsFindWhatWaits seen may_leave is_usable → RestartsFindWhatIsLeft → OpeningsFindWhatIsLeft seen may_leave is_usable
  openings_find_what_is_left find restart writes line lives puts older newer one other opened restored past both is restores =
      let found : WasOpened seen may_leave is_usable opened past.pages = find older newer one other past.pages opened past.tell both is in
      restart writes line lives puts past.pages restored past.past (subst (λ (l : List spool.PageValue). Restores line l restored) found.told restores)

  module _ {K : Type 0} (queues_of : K → List QueueValue) (spool_of : K → Spool D) where
    pub whole_runs_cross : OpeningsFindWhatWaits seen may_leave is_usable → RunsNoteAll seen may_leave is_usable queues_of spool_of → CrashesLeaveWhatWaits seen may_leave is_usable
        → WholeRunsCross seen may_leave is_usable queues_of spool_of
    whole_runs_cross find note leave writes line lives puts older newer one other run writing past both is ran =
        let found : WasOpened seen may_leave is_usable run.opened past.pages = find older newer one other past.pages run.opened past.tell both is in
        let it : LeavesWhole seen may_leave is_usable writes run.number line lives puts run.setup run.settled run.left (spool_of run.after) =
        note writes run.number line past.pages lives puts run.setup run.done run.settled run.begun run.left run.before run.after writing past.past
        (begins seen may_leave is_usable queues_of spool_of line past.pages run found ran.was) ran.oks in
        let left = it.leaves in
        record {
          life = record { setup = run.setup; trace = left.trace };
          kept = left.kept;
          is_life = record { setup = refl; place = left.place; there = left.there; reached = left.reached; are_stored = left.are_stored; leg = left.leg; did = left.did; on_leg = left.on_leg };
          left = crash_whole leave writes line (record { setup = run.setup; trace = left.trace } ∷ lives) (puts ++ left.kept) (spool_of run.after) it.whole;
        }
