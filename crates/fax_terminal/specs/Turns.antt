-- What turns make of terminals. (This project's profile.) Lists have the newest first.
use Rattle.std.specs.Prelude.{◌≡◌, ◌⊎◌, ℕ, ◌≤◌, Bool, true, false, List, [], ◌++◌, is_some, length, Option, Some, Result, Ok, Err}
use Rattle.fax_pagestore.specs.Pages.{PageValue}
use Rattle.fax_jobs.specs.Jobs.{JobValue}
use Rattle.fax_answer.specs.Confirmation.{IsRead}
use Rattle.fax_answer.specs.Table.{Reading}
use Rattle.fax_call.specs.Writings.{IsWriting, Writing}
use Rattle.fax_gateway.specs.declared.caller_endpoint.CallerEndpoint.{CallerEndpoint}
use Rattle.fax_gateway.specs.CalledLegs.{CalledLeg, calls}
use Rattle.fax_gateway.specs.CalledLegs as called_legs
use Rattle.fax_gateway.specs.CallingLegs.{CallingLeg, question, told_calling}
use Rattle.fax_gateway.specs.Driving.{most_datagrams}
use Rattle.fax_gateway.specs.Reached.{CallingValue, IsCalled, IsCalling, confirmed_on, heard_on}
use Rattle.fax_gateway.specs.Setups.{Setup}
use Rattle.fax_gateway.specs.Wires.{Grows}
use Rattle.fax_terminal.specs.declared.fault.TerminalFault.{TerminalFault}
use Rattle.fax_terminal.specs.declared.fault.TerminalFault.TheVariants as faults
use Rattle.fax_terminal.specs.Ends.{EndTraffic, handed}
use Rattle.fax_terminal.specs.Stores.{AreGiven, pages_of}
use Rattle.fax_terminal.specs.Terminals.{AreCame, ReadDatagram, called_turned, called_with, calling_turned, calling_with, octets_of, page_given, rung_once}

-- ---- THE TERMINAL THAT CALLS. At most so many datagrams came over its end, and led on
pub record CallerHears (setup : Setup) (writes : Writing) (l : CalledLeg)
    (now most : ℕ) (before after : EndTraffic) (endpoint : CallerEndpoint) : Type 0 where
  pub came : List (List ℕ)
  pub few : length came ≤ most
  pub received : Grows came before.received after.received
  pub called : IsCalled setup writes (Some (calling_with writes now came l)) endpoint

-- A turn: what came over its end is heard, then time goes on, once, and what that gives is handed over, and nothing else.
pub record CallerTurns (setup : Setup) (writes : Writing)
    (l : CalledLeg) (now : ℕ) (before after : EndTraffic) (endpoint : CallerEndpoint) : Type 0 where
  pub came : List (List ℕ)
  pub few : length came ≤ most_datagrams
  pub received : Grows came before.received after.received
  pub sent : Grows (handed (called_legs.told_by setup (calling_with writes now came l).given
      (calls writes (calling_with writes now came l) now).given)) before.sent after.sent
  pub called : IsCalled setup writes (Some (calling_turned writes now came l)) endpoint

-- this is so of each setup, writing and call that led to it
abbrev pub EachCall : CallerEndpoint → (Setup → Writing → CalledLeg → Type 0) → Type 0
EachCall endpoint IsSo = (setup : Setup) (writes : Writing) (l : CalledLeg)
    → IsCalled setup writes (Some l) endpoint → IsSo setup writes l

-- and of each call of this job, where pages are written as a right writing has them
abbrev pub EachCallOf : JobValue → CallerEndpoint → (Setup → Writing → CalledLeg → Type 0) → Type 0
EachCallOf job endpoint IsSo = (setup : Setup) (writes : Writing) (l : CalledLeg)
    → IsWriting writes → l.job ≡ job
    → IsCalled setup writes (Some l) endpoint → IsSo setup writes l

-- ---- THE TERMINAL THAT IS CALLED: its endpoint, the redundancy of its call, and whether it was rung
pub record ReceivingValue : Type 0 where
  pub endpoint : CallingValue
  pub redundancy : ℕ
  pub has_rung : Bool

-- its call led to it
pub record IsAnswering (setup : Setup) (leg : Option CallingLeg) (terminal : ReceivingValue) :
    Type 0 where
  pub set : terminal.redundancy ≡ setup.redundancy
  pub calling : IsCalling setup leg terminal.endpoint
  pub rung : terminal.has_rung ≡ is_some leg

-- this is so of each setup and call that led to it
abbrev pub EachAnswering : ReceivingValue → (Setup → Option CallingLeg → Type 0) → Type 0
EachAnswering terminal IsSo = (setup : Setup) (leg : Option CallingLeg)
    → IsAnswering setup leg terminal → IsSo setup leg

-- a datagram came
pub record AnswererListens (setup : Setup)
    (l : CallingLeg) (now : ℕ) (octets : List ℕ) (terminal : ReceivingValue) : Type 0 where
  pub read : Reading
  pub right : IsRead (question (Some l) now octets) read
  pub answering : IsAnswering setup (heard_on setup (Some l) now octets read) terminal

-- at most so many datagrams came over its end, and led on
pub record AnswererHears (setup : Setup) (leg : Option CallingLeg)
    (now most : ℕ) (before after : EndTraffic) (terminal : ReceivingValue) : Type 0 where
  pub came : List ReadDatagram
  pub few : length came ≤ most
  pub read : AreCame setup now came leg
  pub received : Grows (octets_of came) before.received after.received
  pub answering : IsAnswering setup (called_with setup now came leg) terminal

-- It is as this call left it, or it was rung at this moment besides, where that was its first datagram.
abbrev pub MayBeRung : Setup → Option CallingLeg → (now : ℕ) → ReceivingValue → Type 0
MayBeRung setup leg now terminal = IsAnswering setup leg terminal
    ⊎ IsAnswering setup (Some (rung_once setup now leg)) terminal

-- WHERE MEMORY IS WANTED so many of the datagrams that came over its end led on, at most, and one more may have been received, which is
-- lost.
pub record AnswererStops (setup : Setup) (leg : Option CallingLeg)
    (now most : ℕ) (before after : EndTraffic) (terminal : ReceivingValue) : Type 0 where
  pub came : List ReadDatagram
  pub few : length came ≤ most
  pub read : AreCame setup now came leg
  pub lost : List (List ℕ)
  pub one : length lost ≤ 1
  pub received : Grows (lost ++ octets_of came) before.received after.received
  pub left : MayBeRung setup (called_with setup now came leg) now terminal

-- what is handed over where all pages were stored; where one was not, nothing is
abbrev pub handed_if : (all_stored : Bool) → Option (List ℕ) → List (List ℕ)
handed_if true given = handed given
handed_if false given = []

-- A turn: what came over its end is heard, then time goes on, once, the page that this confirms is given to a store, and then what it
-- gives is handed over, and nothing else. Where the page is not stored, nothing is.
pub record AnswererTurns {K : Type 0} (keeps : PageValue → Bool → K → K → Type 0)
    (all_stored : Bool) (setup : Setup) (leg : Option CallingLeg) (now : ℕ)
    (before after : EndTraffic) (old new : K) (terminal : ReceivingValue) : Type 0 where
  pub came : List ReadDatagram
  pub few : length came ≤ most_datagrams
  pub read : AreCame setup now came leg
  pub received : Grows (octets_of came) before.received after.received
  pub given : AreGiven keeps all_stored
      (pages_of (page_given (confirmed_on (called_with setup now came leg) now))) old new
  pub sent : Grows
      (handed_if all_stored (told_calling setup (called_with setup now came leg) now))
      before.sent after.sent
  pub answering : IsAnswering setup (called_turned setup now came leg) terminal

-- by what came of it: it answers the page that was confirmed; where memory was wanted, time did not go on, none was given to a store, and
-- nothing was sent
abbrev pub AnswererTurned : {K : Type 0} → (keeps : PageValue → Bool → K → K → Type 0)
    → Result (Option PageValue) TerminalFault → Setup → Option CallingLeg → (now : ℕ)
    → (before after : EndTraffic) → (old new : K) → ReceivingValue → Type 0
AnswererTurned keeps (Ok page) setup leg now before after old new terminal =
    (turn : AnswererTurns keeps true setup leg now before after old new terminal)
    × (page ≡ page_given (confirmed_on (called_with setup now turn.came leg) now))
AnswererTurned keeps (Err faults.Storing) setup leg now before after old new terminal =
    AnswererTurns keeps false setup leg now before after old new terminal
AnswererTurned keeps (Err faults.Clock) setup leg now before after old new terminal = ⊥
AnswererTurned keeps (Err faults.NoMemory) setup leg now before after old new terminal =
    (new ≡ old) × Grows [] before.sent after.sent
    × AnswererStops setup leg now most_datagrams before after terminal
