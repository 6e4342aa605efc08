-- What holds of packets that are written and read.
use Rattle.std.specs.Prelude.{◌≡◌, ℕ, ◌+◌, ◌≤◌, Bool, List, ◌++◌, length, Ok}
use Rattle.fax_ifp.specs.Packets.{FieldText, Packet, Indicator, Message, packet_of}
use Rattle.fax_ifp.specs.WrittenPackets.{written_indicator, written_message, IsWritable, frame_fields, image_fields}

-- an indicator that is written is read back
abbrev pub IndicatorsAreReadBack : Type 0
IndicatorsAreReadBack = (code : ℕ)
    → code ≤ 15 → packet_of (written_indicator code) ≡ Ok (Indicator code)

-- data that are written are read back
abbrev pub MessagesAreReadBack : Type 0
MessagesAreReadBack = (kind : ℕ) (fields : List FieldText)
    → IsWritable kind fields → packet_of (written_message kind fields) ≡ Ok (Message kind fields)

-- octets after a packet are not read
abbrev pub OctetsAfterAreNotRead : Type 0
OctetsAfterAreNotRead = (octets more : List ℕ) (packet : Packet)
    → packet_of octets ≡ Ok packet → packet_of (octets ++ more) ≡ Ok packet

-- how many octets packets have: that of an indicator one, those of a frame and of an image's octets so many more than these
abbrev pub IndicatorsHaveOneOctet : Type 0
IndicatorsHaveOneOctet = (code : ℕ) → length (written_indicator code) ≡ 1

abbrev pub FramesHaveSixMore : Type 0
FramesHaveSixMore = (frame : List ℕ)
    → length (written_message 0 (frame_fields frame)) ≡ 6 + length frame

abbrev pub ImagesHaveFiveMore : Type 0
ImagesHaveFiveMore = (kind : ℕ) (last : Bool) (octets : List ℕ)
    → length (written_message kind (image_fields last octets)) ≡ 5 + length octets
