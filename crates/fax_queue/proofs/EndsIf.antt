-- The end of a job, noted or not, by its answer.
use Rattle.std.proofs.Common.{◌≡◌, ◌<◌, ℕ, Bool, true, false, List, length, Some, slice_get, Result, Ok, Err, OnOk, OnErr, IsErr, refl}
use Rattle.std.specs.Prelude.{IfErr}
use Rattle.fax_jobs.specs.declared.report.Report.{Report}
use Rattle.fax_spool.specs.Calls.{Accepts, Refuses}
use Rattle.fax_spool.specs.declared.spool.Spool.{Spool}
use Rattle.fax_queue.specs.EndFaults.{IsWhyAt}
use Rattle.fax_queue.specs.Jobs.{EndsJobAt}
use Rattle.fax_queue.specs.Storing.{Agree, HaveOwnNames}
use Rattle.fax_queue.specs.Refusals.{EndsSomehowAt, notes_of}
use Rattle.fax_queue.specs.Queues.{QueueValue}
use Rattle.fax_queue.specs.SpoolStorage.{EndsJobIf}
use Rattle.fax_queue.specs.declared.end_fault.EndFault.{EndFault}

module _ {D : Type 0} (seen : D → List ℕ) (may_leave : D → List ℕ → Type 0) (is_usable : D → Bool) where
  pub ends_if : (answer : Result (Unit {0}) EndFault) (line : ℕ) (report : Report) (olds news : List QueueValue) (before after : Spool D)
      → OnOk answer (HaveOwnNames olds → Agree seen may_leave is_usable before olds → Accepts after → Agree seen may_leave is_usable after news)
      → OnOk answer (EndsJobAt seen may_leave is_usable report.pages line olds news before after)
      → OnOk answer ((queue : QueueValue) → slice_get olds line ≡ Some queue → notes_of before queue ≡ true)
      → IfErr answer (λ fault. IsWhyAt fault report.pages line olds after)
      → OnErr answer (line < length olds → EndsSomehowAt seen may_leave is_usable report.pages line olds news before after)
      → (Refuses before → IsErr answer × (after ≡ before)) → EndsJobIf seen may_leave is_usable line report olds news before after
  ends_if (Ok u) line report olds news before after agree ends sure why left refuses = record {
    noted = true;
    ends = λ yes. ends;
    why = λ no. absurd (cc);
    left = λ no. absurd (cc);
    agree = λ yes. agree;
    sure = λ yes. sure;
    refuses = λ is. let no = (refuses is).0 in absurd (cc);
  }
  ends_if (Err e) line report olds news before after agree ends sure why left refuses = record {
    noted = false;
    ends = λ yes. absurd (cc);
    why = λ no. (e, why);
    left = λ no. left;
    agree = λ yes. absurd (cc);
    sure = λ yes. absurd (cc);
    refuses = λ is. (refl, (refuses is).1);
  }
