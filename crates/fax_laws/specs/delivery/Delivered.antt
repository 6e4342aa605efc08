-- A GOOD PAGE GETS THROUGH. (ITU-T T.30, figures 5-1 and 5-2; how many rounds it takes is this project's profile.)
use Rattle.std.specs.Prelude.{◌≡◌, true, ℕ, ◌+◌, ◌*◌, ◌/◌, ◌<◌, ◌≤◌, ◌^◌, [], ◌∷◌, length, Some}
use Rattle.fax_runcodes.specs.declared.format.Coding.TheVariants.{Mr}
use Rattle.fax_timers.specs.Paces.{PaceValue, IsPause, allowed_from, new_pace}
use Rattle.fax_pagestore.specs.Pages.{PageValue, IsPage}
use Rattle.fax_jobs.specs.declared.outcome.Outcome.TheVariants as outcomes
use Rattle.fax_jobs.specs.Books.{job_of}
use Rattle.fax_answer.specs.Calls.{AnswererCore}
use Rattle.fax_answer.specs.declared.state.State.TheVariants as answering
use Rattle.fax_call.specs.Calls.{CallerCore}
use Rattle.fax_call.specs.Delivery.{is_over}
use Rattle.fax_call.specs.declared.state.State.TheVariants as calling
use Rattle.fax_call.specs.Writings.{Writing, IsWriting}
use Rattle.fax_laws.specs.delivery.Links.{Reader, IsReader, Link, begun, rounds}

-- The call is over at both ends. The caller tells that its job was delivered, with one page, and the answerer gave MCF with this
-- page, once, at EOP, and with no other.
pub record IsDelivered (page : PageValue) (l : Link) : Type 0 where
  pub caller_over : l.caller.state ≡ calling.Idle
  pub outcome : l.caller.outcome ≡ Some outcomes.Delivered
  pub delivered : l.caller.counts.delivered ≡ 1
  pub answerer_over : l.answerer.state ≡ answering.Idle
  pub kept : l.kept ≡ record { page = page; closes = true } ∷ []

-- a machine that may begin a call now: its pause is within its limits, and its last packet was long enough ago
pub record MayBegin (pace : PaceValue) (now : ℕ) : Type 0 where
  pub pause : IsPause pace.pause
  pub allowed : allowed_from pace.last ≤ now

-- Our machines agree on two-dimensional lines and 14,400 bits a second, so that a packet of a page's text has 72 octets. The call has
-- a round for each of these, and at most 350 more: for tones, frames, the training check, and the pauses after six preambles.
abbrev pub most_rounds : Writing → PageValue → ℕ
most_rounds writes page = length (writes page Mr 0) / 72 + 350

-- Whichever the page, its format, the pauses and the calls before: after so many rounds, and ever after, it is delivered. (Moments have
-- 64 bits.)
abbrev pub PagesGetThrough : Type 0
PagesGetThrough = (writes : Writing) (reads : Reader) (page : PageValue)
    (number start many : ℕ) (caller : CallerCore) (answerer : AnswererCore) → IsWriting writes
    → IsReader reads → IsPage page → MayBegin caller.pace start → MayBegin answerer.pace start
    → most_rounds writes page ≤ many → start + 40 * many + 1 < 2 ^ 64 → IsDelivered page (rounds
    writes reads (job_of number page) many start (begun (job_of number page) caller answerer start))

-- There are such calls: a function that reads images rightly, and machines that may begin at any moment, since no call was on.
abbrev pub ReadersAre : Type 0
ReadersAre = (reads : Reader) × IsReader reads

abbrev pub NewMachinesMayBegin : Type 0
NewMachinesMayBegin = (pause now : ℕ) → IsPause pause → MayBegin (new_pace pause) now

-- And as soon as the caller's call is over it is delivered: no page is told so before the answerer has it, and no other end is told.
abbrev pub OverIsDelivered : Type 0
OverIsDelivered = (writes : Writing) (reads : Reader)
    (page : PageValue) (number start many : ℕ) (caller : CallerCore) (answerer : AnswererCore)
    → IsWriting writes → IsReader reads → IsPage page → MayBegin caller.pace start
    → MayBegin answerer.pace start → start + 40 * (most_rounds writes page + many) + 1 < 2 ^ 64
    → is_over (rounds writes reads (job_of number page)
    many start (begun (job_of number page) caller answerer start)).caller.state ≡ true
    → IsDelivered page (rounds
    writes reads (job_of number page) many start (begun (job_of number page) caller answerer start))
