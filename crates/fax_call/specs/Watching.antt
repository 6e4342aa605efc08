-- What is told of a call while it goes on: of each piece that comes what it was taken as, and of a tick which timer acts.
-- (This project's profile.)
use Rattle.std.specs.Prelude.{◌≡◌, ℕ, Bool, List, [], ◌∷◌, Option, Some, None, if◌then◌else◌}
use Rattle.fax_ifp.specs.Pieces as pieces
use Rattle.fax_timers.specs.Moments.{is_due}
use Rattle.fax_call.specs.declared.acting.ActingTimer.{ActingTimer}
use Rattle.fax_call.specs.declared.acting.ActingTimer.TheVariants.{T1, T4}
use Rattle.fax_call.specs.declared.decision.Decision.{Decision}
use Rattle.fax_call.specs.declared.decision.Decision.TheVariants as decisions
use Rattle.fax_call.specs.declared.state.State.{State}
use Rattle.fax_call.specs.declared.state.State.TheVariants.{Idle, AwaitDis, AwaitCfr, AwaitMcf, Closing}
use Rattle.fax_call.specs.Replies.{waits}
use Rattle.fax_call.specs.Table.{Move, Stays, Trains, Sends, AsksAgain, Turns, Closes, HangsUp, gives_up_dis, tries_again, asks_again}
use Rattle.fax_call.specs.Calls.{CallerCore, came, heard, moved, timed}

-- a move without its terms
abbrev pub decision_of : Move → Decision
decision_of Stays = decisions.PassOver
decision_of (Trains dis dcs c) = decisions.Train
decision_of (Sends dis dcs c) = decisions.Send
decision_of (AsksAgain c) = decisions.AskAgain
decision_of (Turns format t1 c) = decisions.Turn
decision_of (Closes outcome c) = decisions.Close outcome
decision_of HangsUp = decisions.HangUp

-- of a piece: the state before it, whether a packet waited, and what was decided at it
pub record Telling : Type 0 where
  pub state : State
  pub waits : Bool
  pub piece : pieces.Piece
  pub verdict : Decision

abbrev pub telling : CallerCore → pieces.Piece → ℕ → Telling
telling a piece now = record {
  state = a.state;
  waits = waits a.waiting;
  piece = piece;
  verdict = decision_of (heard a piece now);
}

-- a lost slot is not told of: nothing is decided at it
abbrev pub telling_with : pieces.Piece → Telling → List Telling → List Telling
telling_with pieces.Gap t more = more
telling_with (pieces.Frame octets) t more = t ∷ more
telling_with (pieces.Start kind) t more = t ∷ more
telling_with (pieces.Octets octets) t more = t ∷ more
telling_with (pieces.End whole) t more = t ∷ more

-- of the pieces of a datagram, in the order of time
abbrev pub tellings : CallerCore → List pieces.Piece → ℕ → List Telling
tellings a [] now = []
tellings a (piece ∷ more) now =
    telling_with piece (telling a piece now) (tellings (came a piece now) more now)

-- A watcher was told just this, one after another, by what telling it makes of it.
abbrev pub Watches : {W : Type 0}
    → (tells : Telling → W → W → Type 0) → (old new : W) → List Telling → Type 0
Watches tells old new [] = new ≡ old
Watches {W} tells old new (t ∷ more) =
    (between : W) × tells t old between × Watches tells between new more

-- nothing was told
abbrev pub TellsNothing : List Telling → Type 0
TellsNothing told = told ≡ []

-- WHAT IS TOLD IS WHAT WAS DONE: a piece at which nothing was decided changes nothing, and each that changes the call is told so.
abbrev pub IfPassedOver : Decision → Type 0 → Type 0
IfPassedOver decisions.PassOver P = P
IfPassedOver decision P = Unit {0}

abbrev pub TellsWhatIsDone : Type 0
TellsWhatIsDone = (a : CallerCore) (piece : pieces.Piece) (now : ℕ)
    → IfPassedOver (telling a piece now).verdict (came a piece now ≡ a)

-- TIMERS. The one that acts in a tick, where no packet waits
abbrev pub acting_in : State → (t1_due : Bool) → (t4_due : Bool) → Option ActingTimer
acting_in Idle t1_due t4_due = None
acting_in (Closing outcome) t1_due t4_due = None
acting_in AwaitDis t1_due t4_due = if t1_due then Some T1 else None
acting_in (AwaitCfr dis dcs) t1_due t4_due = if t4_due then Some T4 else None
acting_in (AwaitMcf dis dcs) t1_due t4_due = if t4_due then Some T4 else None

abbrev pub acting : CallerCore → ℕ → Option ActingTimer
acting a now =
    if waits a.waiting then None else acting_in a.state (is_due a.t1 now) (is_due a.t4 now)

-- what it does: T1 ends the call, T4 gives the training or the command again, or ends it
abbrev pub moves_by_t4 : State → CallerCore → Move
moves_by_t4 (AwaitCfr dis dcs) a = tries_again dis dcs a.counts
moves_by_t4 (AwaitMcf dis dcs) a = asks_again a.counts
moves_by_t4 state a = Stays

abbrev pub acted_by : Option ActingTimer → CallerCore → CallerCore
acted_by None a = a
acted_by (Some T1) a = moved a (gives_up_dis a.counts)
acted_by (Some T4) a = moved a (moves_by_t4 a.state a)

-- What acts is what is told of it, in every state.
abbrev pub TellsWhatActs : Type 0
TellsWhatActs = (a : CallerCore) (now : ℕ) → timed a now ≡ acted_by (acting a now) a
