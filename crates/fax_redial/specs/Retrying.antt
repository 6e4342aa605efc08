-- When a job that could not be delivered is tried again. Moments are Unix seconds. (This project's profile.)
use Rattle.std.specs.Prelude.{ℕ, ◌+◌, ◌-◌, ◌&&◌, Bool, true, false, nat_eq, nat_le, List, slice_get, Option, Some, None, if◌then◌else◌}
use Rattle.fax_jobs.specs.declared.outcome.Outcome.{Outcome}
use Rattle.fax_jobs.specs.declared.outcome.Outcome.TheVariants.{Delivered, FineLacking, HungUp, NoAnswer, NoReply, NotPlaced, NotReceiver, PageRefused, RatesSpent, WidthLacking}

-- ANOTHER TRY MAY MEND what lies in the call, or in a machine that can be put right; not what the machine lacks.
abbrev pub may_mend : Outcome → Bool
may_mend NoAnswer = true
may_mend NoReply = true
may_mend HungUp = true
may_mend NotPlaced = true
may_mend RatesSpent = true
may_mend PageRefused = true
may_mend Delivered = false
may_mend NotReceiver = false
may_mend WidthLacking = false
may_mend FineLacking = false

-- the span after so many tries: the first of them after the first
abbrev pub span_after : ℕ → List ℕ → Option ℕ
span_after tries spans = if nat_eq tries 0 then None else slice_get spans (tries - 1)

abbrev pub has_come : Option ℕ → (ended_at now : ℕ) → Bool
has_come None ended_at now = false
has_come (Some span) ended_at now = nat_le (ended_at + span) now

-- A JOB IS TRIED AGAIN that long after its last end, where another try may mend it, and there is a span for it.
abbrev pub is_due : Outcome → (tries ended_at now : ℕ) → List ℕ → Bool
is_due outcome tries ended_at now spans =
    may_mend outcome && has_come (span_after tries spans) ended_at now
