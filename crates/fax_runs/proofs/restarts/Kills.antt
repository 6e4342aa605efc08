-- Runs that were killed.
use Rattle.std.proofs.Common.{◌≡◌, ℕ, Bool, List, [], ◌∷◌, ◌++◌, refl, ap, sym, subst}
use Rattle.fax_line.specs.StoredRuns.{IsRun}
use Rattle.fax_line.specs.Places.{PlaceValue}
use Rattle.fax_line.specs.Runs.{AskedOf, DoneOrder, Stored, Turned, Woken}
use Rattle.fax_line.specs.declared.settling.LineReport.{LineReport}
use Rattle.fax_line.specs.declared.settling.PageToStore.{PageToStore}
use Rattle.fax_line.specs.declared.settling.PutResult.{PutResult}
use Rattle.fax_spool.specs.Opened.{IsOpened}
use Rattle.fax_spool.specs.declared.opening.OpenedSpool.{OpenedSpool}
use Rattle.fax_spool.specs.declared.spool.Spool.{Spool}
use Rattle.fax_queue.specs.Histories.{RanOnDisk}
use Rattle.fax_queue.specs.Queues.{QueueValue}
use Rattle.fax_runs.specs.restarts.Crossings.{RunsCross}
use Rattle.fax_runs.specs.restarts.Kills.{KilledRunsCross, RunsCanBeCut}
use Rattle.fax_runs.specs.restarts.Runs.{OneRun}

module _ {K : Type 0} (same : K → K → Type 0) (puts : List PageToStore → Bool → K → K → Type 0) (notes : ℕ → ℕ → K → K → Type 0) (ends : List LineReport → K → K → Type 0) where
  -- how far a run had come after these of its orders
  record SoFar (earlier : List DoneOrder) (settled : List PutResult) (old : List PlaceValue) (before : K) : Type 0 where
    later : List PutResult
    ended : List PutResult
    are : settled ≡ later ++ ended
    left : List PlaceValue
    after : K
    ran : IsRun same puts notes ends earlier ended old left before after

  so_far : (later earlier : List DoneOrder) (settled : List PutResult) (old new : List PlaceValue) (before after : K) → IsRun same puts notes ends (later ++ earlier) settled old new before after → SoFar earlier settled old before
  so_far [] earlier settled old new before after ran = record { later = []; ended = settled; are = refl; left = new; after = after; ran = ran }
  so_far (Turned now visits ∷ later) earlier settled old new before after ran = so_far later earlier settled old ran.0 before after ran.2
  so_far (Stored visits ∷ later) earlier [] old new before after ran = absurd ran
  so_far (Stored visits ∷ later) earlier (end ∷ settled) old new before after ran =
      let it : SoFar earlier settled old before = so_far later earlier settled old ran.0 before ran.2 ran.3 in
      record { later = end ∷ it.later; ended = it.ended; are = ap (λ (l : List PutResult). end ∷ l) it.are; left = it.left; after = it.after; ran = it.ran }
  so_far (AskedOf line now what answer ∷ later) earlier settled old new before after ran = so_far later earlier settled old ran.0 before after ran.1
  so_far (Woken line ∷ later) earlier settled old new before after ran = so_far later earlier settled old ran.0 before after ran.1

module _ {D K : Type 0} (seen : D → List ℕ) (may_leave : D → List ℕ → Type 0) (is_usable : D → Bool) (queues_of : K → List QueueValue) (spool_of : K → Spool D) where
  pub runs_can_be_cut : RunsCanBeCut seen may_leave is_usable queues_of spool_of
  runs_can_be_cut line run later earlier was done =
      let whole : RanOnDisk seen may_leave is_usable queues_of spool_of (later ++ earlier) run.settled run.begun run.left run.before run.after =
      subst (λ (d : List DoneOrder). RanOnDisk seen may_leave is_usable queues_of spool_of d run.settled run.begun run.left run.before run.after) done was.ran in
      let it = so_far _ _ _ _ later earlier run.settled run.begun run.left run.before run.after whole in
      let cut : OneRun D K = record {
        opened = run.opened;
        number = run.number;
        setup = run.setup;
        done = earlier;
        settled = it.ended;
        begun = run.begun;
        left = it.left;
        before = run.before;
        after = it.after;
      } in (
        cut,
        record { opened = refl; number = refl; setup = refl; begun = refl; before = refl; done = refl; ends = it.later; settled = it.are },
        record {
          spool_is = was.spool_is;
          restored = was.restored;
          restores = was.restores;
          place = was.place;
          there = was.there;
          begins = was.begins;
          fresh = was.fresh;
          set = was.set;
          queued = was.queued;
          as_many = was.as_many;
          alone = was.alone;
          ran = it.ran;
        },
      )

  pub killed_runs_cross : RunsCross seen may_leave is_usable queues_of spool_of → KilledRunsCross seen may_leave is_usable queues_of spool_of
  killed_runs_cross cross writes line lives puts older newer one other run later earlier writing past both is was done =
      let it = runs_can_be_cut line run later earlier was done in
      (it.0, it.1, cross writes line lives puts older newer one other it.0 writing past both (subst (λ (o : OpenedSpool D). IsOpened seen may_leave is_usable one other o) (sym it.1.opened) is) it.2)
