-- TWO MACHINES ON A GOOD LINK: each packet that the one gives comes to the other, once and in order. Both are the tables of this
-- project, played in rounds 40 ms apart. (ITU-T T.30 and T.38; that a round is so long, and its order, is this project's profile.)
-- Lists have the newest first.
use Rattle.std.specs.Prelude.{ℕ, zero, suc, ◌+◌, Bool, true, false, List, [], ◌∷◌, drop, length, Option, Some, None, option_map}
use Rattle.fax_ifp.specs.Elements.{Slot}
use Rattle.fax_ifp.specs.Pieces.{Piece, pieces}
use Rattle.fax_jobs.specs.Jobs.{JobValue}
use Rattle.fax_answer.specs.Calls as answer
use Rattle.fax_answer.specs.Calls.{AnswererCore}
use Rattle.fax_answer.specs.Confirmation.{IsRight}
use Rattle.fax_answer.specs.Replies.{ConfirmedPage}
use Rattle.fax_answer.specs.Shown.{confirmed_in, packet_in}
use Rattle.fax_answer.specs.Table.{Question, Reading}
use Rattle.fax_call.specs.Calls as call
use Rattle.fax_call.specs.Calls.{CallerCore}
use Rattle.fax_call.specs.Delivery.{is_over}
use Rattle.fax_call.specs.Replies.{Packet, written}
use Rattle.fax_call.specs.Writings.{Writing}
use Rattle.fax_gateway.specs.CallingLegs.{is_idle}

-- a function that reads images, and one that reads them rightly: each as the page that its octets mean, or as none
abbrev pub Reader : Type 0
Reader = Question → Reading

abbrev pub IsReader : Reader → Type 0
IsReader reads = (question : Question) → IsRight question (reads question)

abbrev pub read_by : Reader → Option Question → Reading
read_by reads None = None
read_by reads (Some question) = reads question

-- Both machines, the packets that came to each, the packet that the answerer gave in the last round, which is still to come to the
-- caller, and the pages with which the answerer gave MCF, each with whether its command was EOP
pub record Link : Type 0 where
  pub caller : CallerCore
  pub to_caller : List Slot
  pub answerer : AnswererCore
  pub to_answerer : List Slot
  pub reply : Option (List ℕ)
  pub kept : List ConfirmedPage

-- A packet comes: it is the next slot, and brings the pieces that all slots have after those of the slots before. To a machine whose
-- call is over none comes.
abbrev pub slots_with : Option (List ℕ) → (over : Bool) → List Slot → List Slot
slots_with None over before = before
slots_with (Some packet) true before = before
slots_with (Some packet) false before = Some packet ∷ before

unfoldable pub pieces_with : Option (List ℕ) → (over : Bool) → List Slot → List Piece
pieces_with None over before = []
pieces_with (Some packet) true before = []
pieces_with (Some packet) false before =
    drop (length (pieces before)) (pieces (Some packet ∷ before))

-- the caller's turn: what the answerer gave comes, and time goes on
unfoldable pub caller_turned : Writing → JobValue → ℕ → Link → call.TickResult
caller_turned writes job now l = call.ticked writes
    job (call.came_all l.caller (pieces_with l.reply (is_over l.caller.state) l.to_caller) now) now

-- the answerer's turn: this packet comes, if one was given, and time goes on
unfoldable pub answerer_turned : Reader → ℕ → Option (List ℕ) → Link → answer.TickResult
answerer_turned reads now packet l =
    let came : List Piece = pieces_with packet (is_idle l.answerer.state) l.to_answerer
    in answer.ticked (answer.came_all
    (read_by reads (answer.first_asked l.answerer came now)) l.answerer came now) now

-- A ROUND: the caller has its turn, and then the answerer, to which comes what the caller has just given.
abbrev pub packet_given : Option Packet → Option (List ℕ)
packet_given given = option_map written given

abbrev pub kept_with : Option ConfirmedPage → List ConfirmedPage → List ConfirmedPage
kept_with None kept = kept
kept_with (Some confirmed) kept = confirmed ∷ kept

abbrev pub turned : Link → call.TickResult → answer.TickResult → Link
turned l c a = record {
  caller = c.core;
  to_caller = slots_with l.reply (is_over l.caller.state) l.to_caller;
  answerer = a.core;
  to_answerer = slots_with (packet_given c.given) (is_idle l.answerer.state) l.to_answerer;
  reply = packet_in a.given;
  kept = kept_with (confirmed_in a.given) l.kept;
}

unfoldable pub round : Writing → Reader → JobValue → ℕ → Link → Link
round writes reads job now l =
    let c : call.TickResult = caller_turned writes job now l in
    turned l c (answerer_turned reads now (packet_given c.given) l)

-- so many rounds, the first of them at this moment
unfoldable pub rounds : Writing → Reader → JobValue → (many : ℕ) → (now : ℕ) → Link → Link
rounds writes reads job zero now l = l
rounds writes reads job (suc many) now l =
    rounds writes reads job many (now + 40) (round writes reads job now l)

-- a call begins: the caller starts that of a job, and the answerer is rung
abbrev pub begun : JobValue → CallerCore → AnswererCore → (now : ℕ) → Link
begun job caller answerer now = record {
  caller = call.started caller job now;
  to_caller = [];
  answerer = answer.rung answerer now;
  to_answerer = [];
  reply = None;
  kept = [];
}
