-- What is told of the calls of terminals. (This project's profile.) Lists have the newest first.
use Rattle.std.specs.Prelude.{◌≡◌, ℕ, ◌≤◌, Bool, true, List, [], ◌∷◌, flat_map, length, Option, Some, None}
use Rattle.fax_pagestore.specs.Pages.{PageValue}
use Rattle.fax_jobs.specs.Jobs.{JobValue}
use Rattle.fax_answer.specs.declared.state.State.TheVariants as answerer_state
use Rattle.fax_answer.specs.Calls as answering
use Rattle.fax_answer.specs.Confirmation.{AreRead}
use Rattle.fax_answer.specs.Sent.{pages_confirmed}
use Rattle.fax_call.specs.declared.state.State.TheVariants.{Idle}
use Rattle.fax_call.specs.Writings.{Writing, IsWriting}
use Rattle.fax_call.specs.Calls.{CallerCore, CallEvent, new_calling, started, after_events}
use Rattle.fax_gateway.specs.declared.settings.Settings.{Settings}
use Rattle.fax_gateway.specs.CalledLegs.{CalledLeg, core_of}
use Rattle.fax_gateway.specs.CallingLegs.{CallingLeg, idle_after}
use Rattle.fax_gateway.specs.Driving.{most_datagrams}
use Rattle.fax_gateway.specs.Reached.{given_on}
use Rattle.fax_gateway.specs.Setups.{HasSettings, Setup}
use Rattle.fax_gateway.specs.Wires.{Grows}
use Rattle.fax_terminal.specs.declared.sending.SentJob.{SentJob}
use Rattle.fax_terminal.specs.Ends.{EndTraffic}
use Rattle.fax_terminal.specs.Stores.{AreGiven}
use Rattle.fax_terminal.specs.Terminals.{AreCame, ReadDatagram, begins, called_turned, called_with, calling_turned, datagrams_of, octets_of, pages_on}

-- ---- A TERMINAL THAT CALLS. What is told of a call that is over is what a caller tells then: its outcome, and how many pages the
-- called machine confirmed.
pub record TellsCore (core : CallerCore) (sent : SentJob) : Type 0 where
  pub over : core.state ≡ Idle
  pub outcome : core.outcome ≡ Some sent.outcome
  pub delivered : core.counts.delivered ≡ sent.delivered

abbrev pub TellsLeg : Writing → CalledLeg → SentJob → Type 0
TellsLeg writes l sent = TellsCore (core_of writes l) sent

-- the caller, whose pause after a preamble is set, after these events of the call of a job
abbrev pub core_after : Writing → (pause : ℕ) → JobValue → (start : ℕ) → List CallEvent → CallerCore
core_after writes pause job start events =
    after_events writes job (started (new_calling pause job.format) job start) events

-- What is told of a call of a job is what a caller tells that some events of it led to its end.
pub record TellsCall (pause : ℕ) (job : JobValue) (sent : SentJob) : Type 0 where
  pub after : (writes : Writing) → IsWriting writes → (start : ℕ)
      × (events : List CallEvent) × TellsCore (core_after writes pause job start events) sent

-- a turn: its moment, and the datagrams that came
pub record CallerTurn : Type 0 where
  pub now : ℕ
  pub came : List (List ℕ)

abbrev pub caller_after : Setup → Writing → JobValue → (start : ℕ) → List CallerTurn → CalledLeg
caller_after setup writes job start [] = begins setup writes job start
caller_after setup writes job start (turn ∷ earlier) =
    calling_turned writes turn.now turn.came (caller_after setup writes job start earlier)

abbrev pub AreFew : List CallerTurn → Type 0
AreFew [] = Unit {0}
AreFew (turn ∷ earlier) = (length turn.came ≤ most_datagrams) × AreFew earlier

-- these turns led a terminal from its beginning to this, over an end that was so and is so now: it heard what came over it, and handed
-- over the datagrams of the packets that it gave, and nothing else
pub record CallsOver (setup : Setup) (writes : Writing) (job : JobValue)
    (before after : EndTraffic) (start : ℕ) (turns : List CallerTurn) : Type 0 where
  pub few : AreFew turns
  pub received : Grows (flat_map (λ turn. turn.came) turns) before.received after.received
  pub sent : Grows (datagrams_of setup (caller_after setup writes job start turns).given)
      before.sent after.sent

-- THE CALL OF A JOB over an end, until it was over
pub record SendsOver (setup : Setup) (writes : Writing) (job : JobValue)
    (before after : EndTraffic) (sent : SentJob) : Type 0 where
  pub start : ℕ
  pub turns : List CallerTurn
  pub over_end : CallsOver setup writes job before after start turns
  pub tells : TellsLeg writes (caller_after setup writes job start turns) sent

-- so it is of a terminal with these settings, whatever gives the texts of pages
abbrev pub SendsJob : Settings → JobValue → (before after : EndTraffic) → SentJob → Type 0
SendsJob settings job before after sent = (setup : Setup) (writes : Writing)
    → HasSettings setup settings → IsWriting writes → SendsOver setup writes job before after sent

-- ---- A TERMINAL THAT IS CALLED. The answerer, whose pause after a preamble is set, that was rung at this moment, and whose leg no
-- call was on before
abbrev pub rung_at : (pause : ℕ) → (start : ℕ) → answering.AnswererCore
rung_at pause start = answering.rung (answering.new_answering pause) start

-- What a store was given in a call are the pages that the ticks of an answerer confirmed in it, each one and in their
-- order, after some events of the call, each image of it rightly read. It kept all of them, or all but the last.
pub record StoresConfirmed {K : Type 0} (keeps : PageValue → Bool → K → K → Type 0)
    (pause : ℕ) (all_stored : Bool) (old new : K) : Type 0 where
  pub start : ℕ
  pub events : List answering.CallEvent
  pub right : AreRead (rung_at pause start) events
  pub given : AreGiven keeps all_stored (pages_confirmed (rung_at pause start) events) old new

-- the same, of a call that is over, with all of them kept
pub record StoresWholeCall {K : Type 0} (keeps : PageValue → Bool → K → K → Type 0)
    (pause : ℕ) (old new : K) : Type 0 where
  pub kept : StoresConfirmed keeps pause true old new
  pub over :
      (answering.after_events (rung_at pause kept.start) kept.events).state ≡ answerer_state.Idle

-- a turn: its moment, and the datagrams that came
pub record AnswererTurn : Type 0 where
  pub now : ℕ
  pub came : List ReadDatagram

-- the leg of a terminal that this datagram reached first, at this moment, after turns
abbrev pub answerer_after : Setup → (start : ℕ) → (first : ReadDatagram) → List AnswererTurn
    → Option CallingLeg
answerer_after setup start first [] = called_with setup start (first ∷ []) None
answerer_after setup start first (turn ∷ earlier) =
    called_turned setup turn.now turn.came (answerer_after setup start first earlier)

-- each image was rightly read
abbrev pub AreHeard : Setup → (start : ℕ) → (first : ReadDatagram) → List AnswererTurn → Type 0
AreHeard setup start first [] = AreCame setup start (first ∷ []) None
AreHeard setup start first (turn ∷ earlier) = (length turn.came ≤ most_datagrams)
    × AreCame setup turn.now turn.came (answerer_after setup start first earlier)
    × AreHeard setup start first earlier

-- these turns led a terminal from its first datagram to this, over an end that was so and is so now: it heard what came over it, gave a
-- store the pages that it confirmed, which kept each, and handed over the datagrams of the packets that it gave, and nothing else
pub record AnswersOver {K : Type 0} (keeps : PageValue → Bool → K → K → Type 0) (setup : Setup)
    (start : ℕ) (first : ReadDatagram) (turns : List AnswererTurn)
    (before after : EndTraffic) (old new : K) : Type 0 where
  pub heard : AreHeard setup start first turns
  pub received :
      Grows (flat_map (λ turn. octets_of turn.came) turns) before.received after.received
  pub given : AreGiven keeps true (pages_on (answerer_after setup start first turns)) old new
  pub sent : Grows (datagrams_of setup (given_on (answerer_after setup start first turns)))
      before.sent after.sent

-- A CALL THAT WAS ANSWERED over an end, until it was over
pub record AnswersCallOver {K : Type 0} (keeps : PageValue → Bool → K → K → Type 0)
    (setup : Setup) (octets : List ℕ)
    (before after : EndTraffic) (old new : K) : Type 0 where
  pub start : ℕ
  pub first : ReadDatagram
  pub first_is : first.octets ≡ octets
  pub turns : List AnswererTurn
  pub over_end : AnswersOver keeps setup start first turns before after old new
  pub over : idle_after (answerer_after setup start first turns) ≡ true

-- so it is of a terminal with these settings
abbrev pub AnswersCall : {K : Type 0} → (keeps : PageValue → Bool → K → K → Type 0) → Settings
    → List ℕ → (before after : EndTraffic) → (old new : K) → Type 0
AnswersCall keeps settings octets before after old new = (setup : Setup)
    → HasSettings setup settings → AnswersCallOver keeps setup octets before after old new
