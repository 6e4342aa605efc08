-- What is kept of a call, in place of the core that it stands for. No law speaks of this module.
use Rattle.std.specs.Prelude.{◌≡◌, ℕ, ◌+◌, ◌-◌, ◌<◌, nat_le, Bool, true, false, List, [], ◌∷◌, length, take, replicate, if◌then◌else◌}
use Rattle.fax_frames.specs.declared.dcs.Dcs.{Dcs}
use Rattle.fax_frames.specs.declared.writing.Plain.{Plain}
use Rattle.fax_frames.specs.declared.writing.Plain.TheVariants.{Dcn}
use Rattle.fax_frames.specs.Capabilities.{IsScanTime}
use Rattle.fax_frames.specs.Rates.{kind_of, training_of}
use Rattle.fax_frames.specs.Written.{written_plain, written_dcs}
use Rattle.fax_ifp.specs.declared.codes.Indicator.TheVariants.{Cng, V21Preamble}
use Rattle.fax_ifp.specs.Codes.{indicator_code}
use Rattle.fax_timers.specs.Moments.{moment_after}
use Rattle.fax_timers.specs.Spans as spans
use Rattle.fax_call.specs.declared.counts.Counts as code_counts
use Rattle.fax_call.specs.declared.pending.Message.{Message}
use Rattle.fax_call.specs.declared.pending.Message.TheVariants as messages
use Rattle.fax_call.specs.declared.pending.Pending.{Pending}
use Rattle.fax_call.specs.declared.pending.Pending.TheVariants.{Nothing, Tone, Preamble, Frame, Training, Check, Image, Text}
use Rattle.fax_call.specs.declared.state.State.{State}
use Rattle.fax_call.specs.declared.state.State.TheVariants.{AwaitDis, AwaitCfr, AwaitMcf}
use Rattle.fax_call.specs.declared.table.Move as code_moves
use Rattle.fax_call.specs.declared.table.Move.TheVariants as moves
use Rattle.fax_call.specs.Replies as replies
use Rattle.fax_call.specs.Replies.{Packet, Signals, Tells, Part, Due, One, part_length, parts_of, check_length, training_check, calling_tone, frame_reply, command}
use Rattle.fax_call.specs.Table.{Counts, Move, Stays, Trains, Sends, AsksAgain, Turns, Closes, HangsUp}

abbrev pub counts_shown : code_counts.Counts → Counts
counts_shown c = record {
  page = c.page;
  step = c.step;
  tries = c.tries;
  refused = c.refused;
  delivered = c.delivered;
}

-- a move at some moment
abbrev pub move_shown : (now : ℕ) → code_moves.Move → Move
move_shown now moves.Stay = Stays
move_shown now (moves.Train dis dcs c) = Trains dis dcs (counts_shown c)
move_shown now (moves.Send dis dcs c) = Sends dis dcs (counts_shown c)
move_shown now (moves.AskAgain c) = AsksAgain (counts_shown c)
move_shown now (moves.Turn format c) = Turns format (moment_after now spans.t1) (counts_shown c)
move_shown now (moves.Close outcome c) = Closes outcome (counts_shown c)
move_shown now moves.HangUp = HangsUp

-- the octets of a frame
abbrev pub frame_text : Message → List ℕ
frame_text (messages.Dcs dcs) = written_dcs dcs
frame_text (messages.Plain plain) = written_plain plain true

-- what is left of a training check
abbrev pub check_after : Dcs → ℕ → List Due
check_after dcs given = parts_of (check_length dcs
    - given) (kind_of dcs.rate) (part_length dcs) (replicate (check_length dcs - given) 0)

abbrev pub training_after : Dcs → List Due
training_after dcs = One (Signals (training_of dcs.rate true)) ∷ training_check dcs

abbrev pub framed : Message → List Due
framed (messages.Dcs dcs) = One (Tells (written_dcs dcs)) ∷ training_after dcs
framed (messages.Plain plain) = One (Tells (written_plain plain true)) ∷ []

-- the packets that wait, where this page is due, with this command after it, and so many octets of its text were given
abbrev pub waiting_of : Pending → (asks : Plain) → (page : ℕ) → (from : ℕ) → List Due
waiting_of Nothing asks page from = []
waiting_of Tone asks page from = calling_tone
waiting_of (Preamble message) asks page from =
    One (Signals (indicator_code V21Preamble)) ∷ framed message
waiting_of (Frame message) asks page from = framed message
waiting_of (Training dcs) asks page from = training_after dcs
waiting_of (Check dcs given) asks page from = check_after dcs given
waiting_of (Image dcs) asks page from =
    One (Signals (training_of dcs.rate false)) ∷ replies.Text page dcs 0 ∷ command asks
waiting_of (Text dcs plain) asks page from = replies.Text page dcs from ∷ command plain

-- the next packet of a training check, of which so many octets were given, and of a text, of which these octets are left
abbrev pub check_part : Dcs → ℕ → Packet
check_part dcs given =
    if nat_le (check_length dcs - given) (part_length dcs)
    then Part (kind_of dcs.rate) true (replicate (check_length dcs - given) 0)
    else Part (kind_of dcs.rate) false (replicate (part_length dcs) 0)

abbrev pub text_part : Dcs → List ℕ → Packet
text_part dcs text =
    if nat_le (length text) (part_length dcs) then Part (kind_of dcs.rate) true text
    else Part (kind_of dcs.rate) false (take (part_length dcs) text)

-- the next packet, where it is none of a text
abbrev pub packet_of : Pending → Packet
packet_of Nothing = Signals 0
packet_of Tone = Signals (indicator_code Cng)
packet_of (Preamble message) = Signals (indicator_code V21Preamble)
packet_of (Frame message) = Tells (frame_text message)
packet_of (Training dcs) = Signals (training_of dcs.rate true)
packet_of (Check dcs given) = check_part dcs given
packet_of (Image dcs) = Signals (training_of dcs.rate false)
packet_of (Text dcs plain) = Signals 0

-- what waits after it, where it may be the last packet of a text, and this is the command after the page due
abbrev pub frame_after : Message → Pending
frame_after (messages.Dcs dcs) = Training dcs
frame_after (messages.Plain plain) = Nothing

abbrev pub pending_after : Pending → (asks : Plain) → (last : Bool) → Pending
pending_after Nothing asks last = Nothing
pending_after Tone asks last = Nothing
pending_after (Preamble message) asks last = Frame message
pending_after (Frame message) asks last = frame_after message
pending_after (Training dcs) asks last = Check dcs 0
pending_after (Check dcs given) asks last = if nat_le (check_length dcs - given) (part_length dcs)
    then Nothing else Check dcs (given + part_length dcs)
pending_after (Image dcs) asks last = Text dcs asks
pending_after (Text dcs plain) asks last =
    if last then Preamble (messages.Plain plain) else Text dcs plain

-- what waits after a move, where nothing waited, and this is the command after the page due
abbrev pub pending_of : (asks : Plain) → code_moves.Move → Pending
pending_of asks moves.Stay = Nothing
pending_of asks (moves.Train dis dcs c) = Preamble (messages.Dcs dcs)
pending_of asks (moves.Send dis dcs c) = Image dcs
pending_of asks (moves.AskAgain c) = Preamble (messages.Plain asks)
pending_of asks (moves.Turn format c) = Nothing
pending_of asks (moves.Close outcome c) = Preamble (messages.Plain Dcn)
pending_of asks moves.HangUp = Nothing

-- A DCS that was chosen can be written, at one of at most six steps; a page that is awaited is the one after those that
-- were delivered.
pub record HasTerms (dcs : Dcs) (counts : code_counts.Counts) : Type 0 where
  pub scan_time : IsScanTime dcs.scan_ms
  pub step : counts.step < 6
  pub delivered : counts.delivered ≡ counts.page

abbrev pub FitsState : State → code_counts.Counts → Type 0
FitsState AwaitDis counts = (counts.step ≡ 0) × (counts.delivered ≡ counts.page)
FitsState (AwaitCfr dis dcs) counts = HasTerms dcs counts
FitsState (AwaitMcf dis dcs) counts = HasTerms dcs counts
FitsState state counts = Unit {0}

abbrev pub FitsMessage : Message → Type 0
FitsMessage (messages.Dcs dcs) = IsScanTime dcs.scan_ms
FitsMessage (messages.Plain plain) = Unit {0}

abbrev pub FitsPending : Pending → Type 0
FitsPending (Preamble message) = FitsMessage message
FitsPending (Frame message) = FitsMessage message
FitsPending (Check dcs given) = given < check_length dcs
FitsPending pending = Unit {0}

-- a page and its command go out or went out
abbrev pub AwaitsMcf : State → Type 0
AwaitsMcf (AwaitMcf dis dcs) = Unit {0}
AwaitsMcf state = ⊥

-- the same of a move in a state, while this page is due
abbrev pub FitsMove : (pages page : ℕ) → State → code_moves.Move → Type 0
FitsMove pages page state moves.Stay = Unit {0}
FitsMove pages page state (moves.Train dis dcs c) = HasTerms dcs c × (c.page < pages)
FitsMove pages page state (moves.Send dis dcs c) = HasTerms dcs c × (c.page < pages)
FitsMove pages page state (moves.AskAgain c) =
    AwaitsMcf state × FitsState state c × (c.page ≡ page) × (c.page < pages)
FitsMove pages page state (moves.Turn format c) =
    (c.step ≡ 0) × (c.delivered ≡ c.page) × (c.page < pages)
FitsMove pages page state (moves.Close outcome c) = c.page < pages
FitsMove pages page state moves.HangUp = Unit {0}
