-- A GOOD JOB GETS THROUGH: a job of any pages, each of its format, in one call of two of our machines. (ITU-T T.30, figures 5-1 and 5-2:
-- MPS between pages of one format, EOM where the next is of another, EOP after the last; how many rounds it takes is this project's
-- profile.)
use Rattle.std.specs.Prelude.{◌≡◌, true, false, ℕ, ◌+◌, ◌*◌, ◌/◌, ◌<◌, ◌≤◌, ◌^◌, List, [], ◌∷◌, length, reverse, Some}
use Rattle.fax_runcodes.specs.declared.format.Coding.TheVariants.{Mr}
use Rattle.fax_pagestore.specs.Pages.{PageValue}
use Rattle.fax_jobs.specs.declared.outcome.Outcome.TheVariants as outcomes
use Rattle.fax_jobs.specs.Jobs.{JobValue, IsJob}
use Rattle.fax_answer.specs.Calls.{AnswererCore, rung}
use Rattle.fax_answer.specs.Sent.{pages_confirmed}
use Rattle.fax_answer.specs.Replies.{ConfirmedPage}
use Rattle.fax_answer.specs.declared.state.State.TheVariants as answering
use Rattle.fax_call.specs.Calls.{CallerCore}
use Rattle.fax_call.specs.declared.state.State.TheVariants as calling
use Rattle.fax_call.specs.Writings.{Writing, IsWriting}
use Rattle.fax_gateway.specs.Setups.{Setup}
use Rattle.fax_gateway.specs.CallingLegs as answers
use Rattle.fax_gateway.specs.CalledLegs as calls
use Rattle.fax_laws.specs.delivery.Datagrams.{Legs, legs_begun, legs_rounds}
use Rattle.fax_laws.specs.delivery.Links.{Reader, IsReader, Link, begun, rounds}
use Rattle.fax_laws.specs.delivery.Delivered.{MayBegin, most_rounds}

-- these pages were confirmed after others, each once, in their order, the last of them at EOP and no other
abbrev pub all_kept : List PageValue → List ConfirmedPage → List ConfirmedPage
all_kept [] kept = kept
all_kept (page ∷ []) kept = record { page = page; closes = true } ∷ kept
all_kept (page ∷ next ∷ rest) kept =
    all_kept (next ∷ rest) (record { page = page; closes = false } ∷ kept)

-- The call is over at both ends. The caller tells that its job was delivered, with all its pages, and the answerer gave MCF with just
-- these.
pub record AreDelivered (job : JobValue) (l : Link) : Type 0 where
  pub caller_over : l.caller.state ≡ calling.Idle
  pub outcome : l.caller.outcome ≡ Some outcomes.Delivered
  pub delivered : l.caller.counts.delivered ≡ length job.pages
  pub answerer_over : l.answerer.state ≡ answering.Idle
  pub kept : l.kept ≡ all_kept job.pages []

-- The call has a round for each 72 octets of the pages' texts, and at most 350 more for the first page and 450 for each other one: after
-- an EOM the answerer waits for T2 before it identifies itself again, and there is another training.
abbrev pub more_rounds : Writing → List PageValue → ℕ
more_rounds writes [] = 0
more_rounds writes (page ∷ pages) = length (writes page Mr 0) / 72 + 450 + more_rounds writes pages

abbrev pub rounds_of_pages : Writing → List PageValue → ℕ
rounds_of_pages writes [] = 0
rounds_of_pages writes (page ∷ pages) = most_rounds writes page + more_rounds writes pages

-- Whichever the pages, their formats, the pauses and the calls before: after so many rounds, and ever after, they are delivered.
abbrev pub JobsGetThrough : Type 0
JobsGetThrough = (writes : Writing) (reads : Reader) (job : JobValue)
    (start many : ℕ) (caller : CallerCore) (answerer : AnswererCore) → IsWriting writes
    → IsReader reads → IsJob job → MayBegin caller.pace start → MayBegin answerer.pace start
    → rounds_of_pages writes job.pages ≤ many → start + 40 * many + 1 < 2 ^ 64
    → AreDelivered job (rounds writes reads job many start (begun job caller answerer start))

-- ---- BY DATAGRAMS: each machine is as a gateway is on its leg. (ITU-T T.38, UDPTL with redundancy.) So a gateway's called leg delivers
-- each job that its book hands it, and its calling leg takes each.

-- The call is over at both ends. The caller tells that its job was delivered, with all its pages; and the pages that the answerer
-- confirmed are these, in their order.
pub record AreAllPassed (writes : Writing) (job : JobValue) (l : Legs) : Type 0 where
  pub caller_over : (calls.core_of writes l.caller).state ≡ calling.Idle
  pub outcome : (calls.core_of writes l.caller).outcome ≡ Some outcomes.Delivered
  pub delivered : (calls.core_of writes l.caller).counts.delivered ≡ length job.pages
  pub answerer_over : (answers.core_of l.answerer).state ≡ answering.Idle
  pub pages : pages_confirmed (rung l.answerer.before l.answerer.begun) l.answerer.events
      ≡ reverse job.pages

-- Whichever the pages, their formats, the redundancy and the pause of each machine: after so many rounds, and ever after, they are
-- delivered.
abbrev pub JobsPass : Type 0
JobsPass =
    (setup other : Setup) (writes : Writing) (reads : Reader) (job : JobValue) (start many : ℕ)
    → IsWriting writes → IsReader reads → IsJob job
    → rounds_of_pages writes job.pages ≤ many → start + 40 * many + 1 < 2 ^ 64 → AreAllPassed writes
    job (legs_rounds setup other writes reads many start (legs_begun setup other writes job start))
