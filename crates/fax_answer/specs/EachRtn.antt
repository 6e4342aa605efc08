-- What each RTN answers.
use Rattle.std.specs.Prelude.{◌≡◌, ℕ, false, List, [], ◌∷◌, ◌++◌, Some}
use Rattle.fax_frames.specs.declared.writing.Plain.TheVariants.{Rtn}
use Rattle.fax_frames.specs.Written.{written_plain}
use Rattle.fax_ifp.specs.Pieces as pieces
use Rattle.fax_answer.specs.declared.command.Command.{Command}
use Rattle.fax_answer.specs.declared.command.Order.TheVariants.{Judge}
use Rattle.fax_answer.specs.Orders.{order_of}
use Rattle.fax_answer.specs.History.{Entry, Decision, PassesOver, GivesRtn}
use Rattle.fax_answer.specs.Replies.{WaitingPacket, frame_packet}
use Rattle.fax_answer.specs.Calls.{AnswererCore, rung, CallEvent, after_events, ticked}
use Rattle.fax_answer.specs.Confirmation.{AreRead}
use Rattle.fax_answer.specs.EachCommand.{IsJudged}

-- the packet of the RTN frame
abbrev pub rtn_packet : List ℕ
rtn_packet = frame_packet (written_plain Rtn false)

-- frames that were passed over, and other pieces
abbrev pub IsPassed : pieces.Piece → Decision → Type 0
IsPassed (pieces.Frame octets) d = d ≡ PassesOver
IsPassed piece d = Unit {0}

abbrev pub ArePassed : List Entry → Type 0
ArePassed [] = Unit {0}
ArePassed (e ∷ before) = IsPassed e.piece e.decision × ArePassed before

-- in this history a command stands that was answered by RTN, and each frame after it was passed over
pub record IsRefusedIn (history : List Entry) : Type 0 where
  pub later : List Entry
  pub octets : List ℕ
  pub before : List Entry
  pub split :
      history ≡ later ++ record { piece = pieces.Frame octets; decision = GivesRtn } ∷ before
  pub command : Command
  pub order : order_of octets ≡ Judge command
  pub last : ArePassed later

-- In every call, each tick that gives the RTN frame refuses the last command, which was judged as each is: where one image had
-- nothing after it, the image means no page.
abbrev pub EachRtnRefuses : Type 0
EachRtnRefuses = (core : AnswererCore) (start now : ℕ) (events : List CallEvent) (w : WaitingPacket)
    → AreRead (rung core start) events
    → (ticked (after_events (rung core start) events) now).given ≡ Some w
    → w.packet ≡ rtn_packet → (r : IsRefusedIn (after_events (rung core start) events).history)
    × IsJudged (after_events (rung core start) events).history r.before r.command GivesRtn
