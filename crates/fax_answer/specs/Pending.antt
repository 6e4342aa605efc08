-- What waits, by the packet that is given next. No law speaks of this module.
use Rattle.std.specs.Prelude.{ℕ, false, List, [], ◌∷◌, Option}
use Rattle.fax_frames.specs.Capabilities.{our_dis}
use Rattle.fax_frames.specs.Written.{written_plain, written_dis}
use Rattle.fax_answer.specs.declared.pending.Reply.{Reply}
use Rattle.fax_answer.specs.declared.pending.Reply.TheVariants.{Dis, Plain}
use Rattle.fax_answer.specs.declared.pending.Pending.{Pending}
use Rattle.fax_answer.specs.declared.pending.Pending.TheVariants.{Nothing, Tone, Preamble, Frame}
use Rattle.fax_answer.specs.Replies.{ConfirmedPage, WaitingPacket, silent, called_tone, preamble, frame_packet}

abbrev pub frame_text : Reply → List ℕ
frame_text Dis = written_dis our_dis
frame_text (Plain plain) = written_plain plain false

abbrev pub packet_text : Pending → List ℕ
packet_text Nothing = []
packet_text Tone = called_tone
packet_text (Preamble reply) = preamble
packet_text (Frame reply) = frame_packet (frame_text reply)

-- the packets that wait, where the last of them confirms this
abbrev pub framed : Reply → Option ConfirmedPage → List WaitingPacket
framed reply confirmed =
    record { packet = frame_packet (frame_text reply); confirmed = confirmed } ∷ []

abbrev pub waiting_of : Pending → Option ConfirmedPage → List WaitingPacket
waiting_of Nothing confirmed = []
waiting_of Tone confirmed = silent called_tone ∷ silent preamble ∷ framed Dis confirmed
waiting_of (Preamble reply) confirmed = silent preamble ∷ framed reply confirmed
waiting_of (Frame reply) confirmed = framed reply confirmed
