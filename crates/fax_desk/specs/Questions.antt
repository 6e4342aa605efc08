-- Calls of jobs that clients are asked for (this project's profile).
use Rattle.std.specs.Prelude.{ℕ, ◌+◌, ◌-◌, ◌*◌, ◌/◌, ◌^◌, min, Bool, true, false, List, codes}
use Rattle.fax_desk.specs.declared.questions.Cause.{Cause}
use Rattle.fax_desk.specs.declared.questions.Cause.TheVariants as cause
use Rattle.fax_desk.specs.Tags.{tag_text}

-- Time goes on by so much: where a client hears events meanwhile, they are heard for so much longer.
abbrev pub heard_after : Bool → ℕ → ℕ → ℕ
heard_after true more heard = min (heard + more) (2 ^ 64 - 1)
heard_after false more heard = heard

-- A question that is asked when events were heard for so many milliseconds is open for so many seconds in which they are heard.
abbrev pub open_until : ℕ → ℕ → ℕ
open_until heard seconds = min (heard + 1000 * seconds) (2 ^ 64 - 1)

-- for how many seconds it is open still; one that has begun counts
abbrev pub seconds_left : ℕ → ℕ → ℕ
seconds_left until heard = min ((until - heard + 999) / 1000) (2 ^ 32 - 1)

-- the cause that a client said, or that nobody answered
abbrev pub cause_text : Cause → List ℕ
cause_text (cause.Said tag) = tag_text tag
cause_text cause.Unanswered = codes "unanswered"
