-- A GOOD PAGE GETS THROUGH, BY DATAGRAMS: a machine that calls and one that is called, each as a gateway is on its leg, are joined so
-- that each datagram that the one gives comes to the other, once and in order. (ITU-T T.38, UDPTL with redundancy; T.30. That rounds
-- are 40 ms apart, and their order, is this project's profile.) Lists have the newest first.
use Rattle.std.specs.Prelude.{◌≡◌, ℕ, zero, suc, ◌+◌, ◌*◌, ◌<◌, ◌≤◌, ◌^◌, List, [], ◌∷◌, Option, Some, None, if◌then◌else◌}
use Rattle.fax_udptl.specs.Datagrams.{datagram_of}
use Rattle.fax_pagestore.specs.Pages.{PageValue, IsPage}
use Rattle.fax_jobs.specs.declared.outcome.Outcome.TheVariants as outcomes
use Rattle.fax_jobs.specs.Books.{job_of}
use Rattle.fax_jobs.specs.Jobs.{JobValue}
use Rattle.fax_answer.specs.Calls.{new_answering, rung}
use Rattle.fax_answer.specs.Sent.{pages_confirmed}
use Rattle.fax_answer.specs.declared.state.State.TheVariants as answering
use Rattle.fax_call.specs.declared.state.State.TheVariants as calling
use Rattle.fax_call.specs.Writings.{Writing, IsWriting}
use Rattle.fax_gateway.specs.Setups.{Setup}
use Rattle.fax_gateway.specs.CallingLegs as answers
use Rattle.fax_gateway.specs.CallingLegs.{CallingLeg, is_idle, question, rung_leg}
use Rattle.fax_gateway.specs.CalledLegs as calls
use Rattle.fax_gateway.specs.CalledLegs.{CalledLeg, begun_leg, core_left, hears, with_tick}
use Rattle.fax_laws.specs.delivery.Links.{Reader, IsReader, read_by}
use Rattle.fax_laws.specs.delivery.Delivered.{most_rounds}

-- both machines, and the datagram that the answerer gave in the last round
pub record Legs : Type 0 where
  pub caller : CalledLeg
  pub answerer : CallingLeg
  pub reply : Option (List ℕ)

-- a datagram comes, where there is one
abbrev pub caller_with : Writing → ℕ → Option (List ℕ) → CalledLeg → CalledLeg
caller_with writes now None l = l
caller_with writes now (Some octets) l = hears writes octets now l

abbrev pub answerer_with : Reader → ℕ → Option (List ℕ) → CallingLeg → CallingLeg
answerer_with reads now None l = l
answerer_with reads now (Some octets) l = if is_idle (answers.core_of l).state then l
    else answers.leg_with l now (read_by reads (question (Some l) now octets)) (datagram_of octets)

-- the datagrams that their ticks give
abbrev pub by_caller : Setup → Writing → ℕ → CalledLeg → Option (List ℕ)
by_caller setup writes now l = calls.told_by setup l.given (calls.calls writes l now).given

abbrev pub by_answerer : Setup → ℕ → CallingLeg → Option (List ℕ)
by_answerer other now l = answers.told_by other l.given (answers.answers l now).given

-- A ROUND: to the caller comes what the answerer gave in the last one, and time goes on; to the answerer comes what the caller has just
-- given, and time goes on.
unfoldable pub legs_round : Setup → Setup → Writing → Reader → ℕ → Legs → Legs
legs_round setup other writes reads now l =
    let c : CalledLeg = caller_with writes now l.reply l.caller
    in let a : CallingLeg = answerer_with reads now (by_caller setup writes now c) l.answerer
    in record {
      caller = with_tick (calls.calls writes c now) now c;
      answerer = answers.leg_ticked a now;
      reply = by_answerer other now a;
    }

unfoldable pub legs_rounds : Setup → Setup → Writing → Reader → (many : ℕ) → (now : ℕ) → Legs → Legs
legs_rounds setup other writes reads zero now l = l
legs_rounds setup other writes reads (suc many) now l =
    legs_rounds setup other writes reads many (now + 40) (legs_round setup other writes reads now l)

-- both are new: the one calls with a job, and the other one is rung
abbrev pub legs_begun : Setup → Setup → Writing → JobValue → ℕ → Legs
legs_begun setup other writes job now =
    record {
      caller = begun_leg job (core_left setup writes None) now;
      answerer = rung_leg (new_answering other.pause) now 0;
      reply = None;
    }

-- The call is over at both ends. The caller tells that its job was delivered, with one page; and the pages that the answerer confirmed
-- are this one.
pub record ArePassed (writes : Writing) (page : PageValue) (l : Legs) : Type 0 where
  pub caller_over : (calls.core_of writes l.caller).state ≡ calling.Idle
  pub outcome : (calls.core_of writes l.caller).outcome ≡ Some outcomes.Delivered
  pub delivered : (calls.core_of writes l.caller).counts.delivered ≡ 1
  pub answerer_over : (answers.core_of l.answerer).state ≡ answering.Idle
  pub pages :
      pages_confirmed (rung l.answerer.before l.answerer.begun) l.answerer.events ≡ page ∷ []

-- Whichever the page, its format, the redundancy and the pause of each machine: after so many rounds, and ever after, it is delivered.
abbrev pub DatagramsGetThrough : Type 0
DatagramsGetThrough = (setup other : Setup)
    (writes : Writing) (reads : Reader) (page : PageValue) (number start many : ℕ)
    → IsWriting writes → IsReader reads → IsPage page → most_rounds writes page ≤ many
    → start + 40 * many + 1 < 2 ^ 64 → ArePassed writes page (legs_rounds
    setup other writes reads many start (legs_begun setup other writes (job_of number page) start))
