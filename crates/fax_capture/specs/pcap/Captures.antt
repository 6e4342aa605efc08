-- CAPTURES: the records of a file, one after the other, and the datagrams in them. (pcap savefiles: pcap-savefile(5) of
-- libpcap, version 2.4; pcapng: draft-ietf-opsawg-pcapng. Options other than the unit and the offset of time are not read: this
-- project's profile.)
use Rattle.std.specs.Prelude.{◌≡◌, ◌⊎◌, ℕ, zero, suc, ◌+◌, ◌-◌, ◌*◌, ◌/◌, ◌%◌, ◌^◌, ◌==◌, ◌&&◌, ◌||◌, not, nat_lt, min, Bool, true, false, List, [], ◌∷◌, ◌++◌, take, drop, length, slice_index, slice_get, Option, Some, None, is_some, Result, Ok, Err, if◌then◌else◌}
use Rattle.fax_capture.specs.declared.pcap.fields.ByteOrder.{ByteOrder}
use Rattle.fax_capture.specs.declared.pcap.fields.ByteOrder.TheVariants.{Big, Little}
use Rattle.fax_capture.specs.declared.pcap.link.LinkType.{LinkType}
use Rattle.fax_capture.specs.declared.pcap.frame.FrameFault.{FrameFault}
use Rattle.fax_capture.specs.declared.pcap.frame.FrameFault.TheVariants.{Other, Short}
use Rattle.fax_capture.specs.declared.pcap.fault.CaptureFault.{CaptureFault}
use Rattle.fax_capture.specs.declared.pcap.fault.CaptureFault.TheVariants.{NoCapture, Cut, Snapped, Damaged, NoMemory}
use Rattle.fax_capture.specs.declared.pcap.interface.Interface.{Interface}
use Rattle.fax_capture.specs.declared.pcap.interface.Times.{Times}
use Rattle.fax_capture.specs.declared.pcap.pcap.PcapFile.{PcapFile}
use Rattle.fax_capture.specs.declared.pcap.capture.FileKind.{FileKind}
use Rattle.fax_capture.specs.declared.pcap.capture.FileKind.TheVariants.{Unopened, Pcap, Pcapng}
use Rattle.fax_capture.specs.pcap.Fields.{◌>>=◌, front_of, number_16, number_32, number_64}
use Rattle.fax_capture.specs.declared.pcap.found.Found.{Found}
use Rattle.fax_capture.specs.declared.pcap.found.Found.TheVariants.{Datagram, Fragment}
use Rattle.fax_capture.specs.pcap.Frames.{FrameRead, frame_at, link_of}

-- A packet: when it was captured, in nanoseconds, where that is told; its link; whether fewer of its octets were captured
-- than it had; and those that were.
pub record PacketValue : Type 0 where
  pub time : Option ℕ
  pub link : LinkType
  pub is_cut : Bool
  pub octets : List ℕ

-- a datagram, or a fragment of one, and when it was captured
pub record TimedPacket : Type 0 where
  pub time : Option ℕ
  pub found : Found

-- What was told of a capture so far: by its head, and in pcapng by the head of the last section and the interfaces after it.
pub record HeadValue : Type 0 where
  pub kind : FileKind
  pub order : ByteOrder
  pub interfaces : List Interface

-- nothing
abbrev pub untold_head : HeadValue
untold_head = record { kind = Unopened; order = Big; interfaces = [] }

-- No packet and no block has more octets (this project's profile).
abbrev pub most_of_record : ℕ
most_of_record = 16777216

-- ---- pcap

-- The first four octets of a pcap file, in its byte order, are a magic number, which tells the unit of fractions of a second:
-- so many nanoseconds.
unfoldable pub unit_of_magic : ℕ → Option ℕ
unit_of_magic magic =
    if magic == 2712847316 then Some 1000 else if magic == 2712812621 then Some 1 else None

-- the head of a pcap file: the magic number, the version, four octets that mean nothing, four more, the most octets of a
-- packet, and the link type, in 16 bits
unfoldable pub pcap_of : ByteOrder → ℕ → List ℕ → Result (HeadValue × List ℕ) CaptureFault
pcap_of order unit octets = do
  parts ← front_of Cut 24 octets
  if (number_16 order parts.0 4 == 2) && (number_16 order parts.0 6 == 4)
      then Ok (
        record {
          kind = Pcap (record { order = order; link = link_of (number_32 order parts.0 20 % 65536); unit = unit });
          order = order;
          interfaces = [];
        },
        parts.1,
      )
      else Err NoCapture

-- a record: seconds, a fraction of a second, the octets captured of the packet, those that it had; and the octets
abbrev pub pcap_packet_of : PcapFile → List ℕ → List ℕ → PacketValue
pcap_packet_of file header octets = record {
  time = Some (1000000000
      * number_32 file.order header 0 + file.unit * number_32 file.order header 4);
  link = file.link;
  is_cut = nat_lt (number_32 file.order header 8) (number_32 file.order header 12);
  octets = octets;
}

unfoldable pub pcap_packet_at : PcapFile → List ℕ → Result (PacketValue × List ℕ) CaptureFault
pcap_packet_at file octets =
    front_of Cut 16 octets >>= λ parts. if nat_lt most_of_record (number_32 file.order parts.0 8)
    then Err Damaged else (front_of Cut (number_32 file.order parts.0 8) parts.1 >>= λ packet.
    Ok (pcap_packet_of file parts.0 packet.0, packet.1))

-- ---- pcapng

-- a block: its type and its body
pub record BlockValue : Type 0 where
  pub kind : ℕ
  pub body : List ℕ

-- A block is its type, its length, its body, and its length again, which is a multiple of four.
unfoldable pub block_of : ByteOrder → ℕ → ℕ → List ℕ → Result (BlockValue × List ℕ) CaptureFault
block_of order kind count octets =
    if nat_lt count 12 || (not (count % 4 == 0) || nat_lt most_of_record count)
    then Err Damaged else (front_of Cut (count - 12) octets >>= λ body.
    front_of Cut 4 body.1 >>= λ last. if number_32 order last.0 0 == count
    then Ok (record { kind = kind; body = body.0 }, last.1) else Err Damaged)

unfoldable pub block_at : ByteOrder → List ℕ → Result (BlockValue × List ℕ) CaptureFault
block_at order octets = do
  parts ← front_of Cut 8 octets
  block_of order (number_32 order parts.0 0) (number_32 order parts.0 4) parts.1

-- The body of a section's head begins with a magic number in the section's byte order.
unfoldable pub section_order_at : List ℕ → Result ByteOrder CaptureFault
section_order_at octets = do
  parts ← front_of Cut 12 octets
  if number_32 Big parts.0 8 == 439041101 then Ok Big else if number_32 Little parts.0 8 == 439041101 then Ok Little else Err Damaged

-- After it stand the version, of which the first number is 1, and the section's length, which is not read.
unfoldable pub section_at : List ℕ → Result (ByteOrder × List ℕ) CaptureFault
section_at octets = do
  order ← section_order_at octets
  block ← block_at order octets
  parts ← front_of Damaged 16 block.0.body
  if number_16 order parts.0 4 == 1 then Ok (order, block.1) else Err Damaged

-- an option: its code, the octets of its value, and those after the value, which fills up to a multiple of four
pub record OptionValue : Type 0 where
  pub code : ℕ
  pub value : List ℕ
  pub after : List ℕ

unfoldable pub option_at : ByteOrder → List ℕ → Result OptionValue CaptureFault
option_at order octets = do
  parts ← front_of Damaged 4 octets
  value ← front_of Damaged (4 * ((number_16 order parts.0 2 + 3) / 4)) parts.1
  Ok (record { code = number_16 order parts.0 0; value = take (number_16 order parts.0 2) value.0; after = value.1 })

unfoldable pub first_octet : List ℕ → Result ℕ CaptureFault
first_octet value = front_of Damaged 1 value >>= λ parts. Ok (slice_index parts.0 0)

unfoldable pub first_eight : ByteOrder → List ℕ → Result ℕ CaptureFault
first_eight order value = front_of Damaged 8 value >>= λ parts. Ok (number_64 order parts.0 0)

-- What one option tells of an interface's times: if_tsresol, of code 9, their unit, an octet; if_tsoffset, of code 14, the
-- seconds that are added to them, in 64 bits.
unfoldable pub times_with : ByteOrder → OptionValue → Times → Result Times CaptureFault
times_with order option times = if option.code == 9
    then (first_octet option.value >>= λ unit. Ok (record times { resolution = unit }))
    else if option.code == 14 then (first_eight order option.value >>= λ seconds.
    Ok (record times { offset = seconds })) else Ok times

-- what the options tell, one by one, of which one of code 0 is the last
unfoldable pub times_in : (most : ℕ) → ByteOrder → List ℕ → Times → Result Times CaptureFault
times_in zero order octets times = Ok times
times_in (suc most) order octets times =
    if nat_lt (length octets) 4 then Ok times
    else (option_at order octets >>= λ option.
    if option.code == 0 then Ok times
    else (times_with order option times >>= λ told. times_in most order option.after told))

-- where no option tells it: microseconds, and nothing is added
abbrev pub untold : Times
untold = record { resolution = 6; offset = 0 }

-- an interface: its link type, two octets that mean nothing, the most octets of a packet, and options
unfoldable pub interface_in : ByteOrder → List ℕ → Result Interface CaptureFault
interface_in order body = do
  parts ← front_of Damaged 8 body
  times ← times_in (length parts.1) order parts.1 untold
  Ok (record { link = link_of (number_16 order parts.0 0); most_octets = number_32 order parts.0 4; times = times })

-- A time counts units since 1970: below 128 that many decimal places of a second, else so many binary ones.
unfoldable pub nanoseconds : ℕ → ℕ → ℕ
nanoseconds resolution count =
    if nat_lt resolution 128 then (1000000000 * count) / (10 ^ resolution)
    else (1000000000 * count) / (2 ^ (resolution - 128))

-- Seconds with a sign, as two's complement, are added to a time, which lies in 1970 at the earliest (this project's profile).
unfoldable pub moved_by : ℕ → ℕ → ℕ
moved_by offset time = if nat_lt offset 9223372036854775808
    then time + 1000000000 * offset else time - 1000000000 * (18446744073709551616 - offset)

-- the moment, in nanoseconds since 1970, that a count of units says
abbrev pub moment_of : Times → ℕ → ℕ
moment_of times count = moved_by times.offset (nanoseconds times.resolution count)

unfoldable pub interface_at : List Interface → ℕ → Result Interface CaptureFault
interface_at interfaces number =
    elim (slice_get interfaces number) [ Some interface ↦ Ok interface | None ↦ Err Damaged ]

-- after the four octets of a packet's interface: its time in two numbers, the high one first, the octets captured of it, those
-- that it had; and the octets
unfoldable pub timed_packet : ByteOrder
    → Interface → List ℕ → List ℕ → Result PacketValue CaptureFault
timed_packet order interface header octets = do
  packet ← front_of Damaged (number_32 order header 12) octets
  Ok (record {
    time = Some (moment_of interface.times (4294967296 * number_32 order header 4 + number_32 order header 8));
    link = interface.link;
    is_cut = nat_lt (number_32 order header 12) (number_32 order header 16);
    octets = packet.0;
  })

-- an enhanced packet: the number of its interface has 32 bits
unfoldable pub enhanced_in : ByteOrder → List Interface → List ℕ → Result PacketValue CaptureFault
enhanced_in order interfaces body = do
  parts ← front_of Damaged 20 body
  interface ← interface_at interfaces (number_32 order parts.0 0)
  timed_packet order interface parts.0 parts.1

-- a packet as older files have it: the number of its interface has 16 bits, and how many packets were lost has as many
unfoldable pub old_packet_in : ByteOrder → List Interface → List ℕ → Result PacketValue CaptureFault
old_packet_in order interfaces body = do
  parts ← front_of Damaged 20 body
  interface ← interface_at interfaces (number_16 order parts.0 0)
  timed_packet order interface parts.0 parts.1

-- How many octets are captured of a packet that had so many; 0 sets no bound.
unfoldable pub captured_of : Interface → ℕ → ℕ
captured_of interface count =
    if interface.most_octets == 0 then count else min count interface.most_octets

-- a simple packet, of the first interface: the octets that it had, and those that were captured. It has no time.
unfoldable pub simple_in : ByteOrder → List Interface → List ℕ → Result PacketValue CaptureFault
simple_in order interfaces body = do
  parts ← front_of Damaged 4 body
  interface ← interface_at interfaces 0
  packet ← front_of Damaged (captured_of interface (number_32 order parts.0 0)) parts.1
  Ok (record {
    time = None;
    link = interface.link;
    is_cut = nat_lt (captured_of interface (number_32 order parts.0 0)) (number_32 order parts.0 0);
    octets = packet.0;
  })

-- ---- records

-- what a record adds: what it tells of the capture, and a packet, where it has one
pub record RecordValue : Type 0 where
  pub packet : Option PacketValue
  pub head : HeadValue

-- a block of a section: interface description 1, packet 2 (which is obsolete), simple packet 3, enhanced packet 6; others are
-- passed over
unfoldable pub block_record : HeadValue → BlockValue → Result RecordValue CaptureFault
block_record head block =
    if block.kind == 1 then (interface_in head.order block.body >>= λ interface. Ok (record {
      packet = None;
      head = record head { interfaces = head.interfaces ++ interface ∷ [] };
    }))
    else if block.kind == 2 then (old_packet_in head.order head.interfaces block.body >>= λ packet.
    Ok (record { packet = Some packet; head = head }))
    else if block.kind == 3 then (simple_in head.order head.interfaces block.body >>= λ packet.
    Ok (record { packet = Some packet; head = head })) else if block.kind == 6
    then (enhanced_in head.order head.interfaces block.body >>= λ packet. Ok (record {
      packet = Some packet;
      head = head;
    })) else Ok (record { packet = None; head = head })

-- what is there once a section has begun, of either byte order
abbrev pub section_head : ByteOrder → HeadValue
section_head order = record { kind = Pcapng; order = order; interfaces = [] }

unfoldable pub section_record : List ℕ → Result (RecordValue × List ℕ) CaptureFault
section_record octets = section_at octets >>= λ section.
    Ok (record { packet = None; head = section_head section.0 }, section.1)

unfoldable pub pcap_record : ByteOrder → ℕ → List ℕ → Result (RecordValue × List ℕ) CaptureFault
pcap_record order unit octets =
    pcap_of order unit octets >>= λ file. Ok (record { packet = None; head = file.0 }, file.1)

-- The head of a file is its first record: of pcap in either byte order, or that of the first section of pcapng.
unfoldable pub head_record : List ℕ → Result (RecordValue × List ℕ) CaptureFault
head_record octets = front_of Cut 4 octets >>= λ parts. if number_32 Big parts.0 0 == 168627466
    then section_record octets else elim (unit_of_magic (number_32 Big parts.0 0)) [
      | Some unit
          ↦ pcap_record Big unit octets
      | None ↦ elim (unit_of_magic (number_32 Little parts.0 0))
          [ Some unit ↦ pcap_record Little unit octets | None ↦ Err NoCapture ]
    ]

-- a packet of pcap
unfoldable pub packet_record : HeadValue
    → PcapFile → List ℕ → Result (RecordValue × List ℕ) CaptureFault
packet_record head file octets = pcap_packet_at file octets >>= λ packet.
    Ok (record { packet = Some packet.0; head = head }, packet.1)

-- a section's head, or a block of the section
unfoldable pub pcapng_record : HeadValue → List ℕ → Result (RecordValue × List ℕ) CaptureFault
pcapng_record head octets =
    front_of Cut 4 octets >>= λ parts. if number_32 Big parts.0 0 == 168627466
    then section_record octets else (block_at head.order octets >>= λ block.
    block_record head block.0 >>= λ told. Ok (told, block.1))

unfoldable pub record_of_kind : FileKind
    → HeadValue → List ℕ → Result (RecordValue × List ℕ) CaptureFault
record_of_kind Unopened head octets = head_record octets
record_of_kind (Pcap file) head octets = packet_record head file octets
record_of_kind Pcapng head octets = pcapng_record head octets

-- what stands at the front of octets, and those after it
abbrev pub record_at : HeadValue → List ℕ → Result (RecordValue × List ℕ) CaptureFault
record_at head octets = record_of_kind head.kind head octets

-- ---- what a capture means

-- A datagram whose header counts more octets than its packet has is none, where all of the packet was captured; of the first of
-- fragments others have them.
abbrev pub lacks_octets : Found → Bool
lacks_octets (Datagram datagram) = not datagram.is_whole && not (is_some datagram.fragments)
lacks_octets (Fragment fragment) = false

-- What a frame tells of its packet: a datagram, or a fragment of one, or none. Of a packet that was captured in part, and in the first
-- of fragments, a datagram may be there in part; where its headers are not there, whose it is is not known, and the capture is a cut
-- one.
unfoldable pub found_in_frame : Option ℕ
    → Bool → FrameRead → Result (Option TimedPacket) CaptureFault
found_in_frame time is_cut (Ok found) = if lacks_octets found && not is_cut
    then Ok None else Ok (Some (record { time = time; found = found }))
found_in_frame time is_cut (Err Other) = Ok None
found_in_frame time true (Err Short) = Err Snapped
found_in_frame time false (Err Short) = Ok None

abbrev pub found_in_packet : PacketValue → Result (Option TimedPacket) CaptureFault
found_in_packet packet =
    found_in_frame packet.time packet.is_cut (frame_at packet.link packet.octets)

-- what was read: a datagram or a fragment, where the record has one, and what is told of the capture then
pub record ReadValue : Type 0 where
  pub found : Option TimedPacket
  pub head : HeadValue

unfoldable pub read_of_record : RecordValue → Result ReadValue CaptureFault
read_of_record told =
    elim told.packet [
      | Some packet ↦ found_in_packet packet >>= λ found. Ok (record {
        found = found;
        head = told.head;
      })
      | None ↦ Ok (record { found = None; head = told.head })
    ]

-- a block is read so, or not
abbrev pub ReadsBlock : Result RecordValue CaptureFault → Option TimedPacket → HeadValue → Type 0
ReadsBlock told found head = told >>= read_of_record ≡ Ok (record { found = found; head = head })

abbrev pub FailsBlock : Result RecordValue CaptureFault → CaptureFault → Type 0
FailsBlock told fault = (fault ≡ NoMemory) ⊎ (told >>= read_of_record ≡ Err fault)

unfoldable pub read_of : Result (RecordValue × List ℕ) CaptureFault
    → Result (ReadValue × List ℕ) CaptureFault
read_of recorded = recorded >>= λ told. read_of_record told.0 >>= λ read. Ok (read, told.1)

-- what is read at the front of octets, and those after it
abbrev pub read_at : HeadValue → List ℕ → Result (ReadValue × List ℕ) CaptureFault
read_at head octets = read_of (record_at head octets)

-- a record is read so: this was found, this is told of the capture then, and these octets stand after it
abbrev pub ReadsAs : Result (RecordValue × List ℕ) CaptureFault
    → Option TimedPacket → HeadValue → List ℕ → Type 0
ReadsAs recorded found head after =
    read_of recorded ≡ Ok (record { found = found; head = head }, after)

-- or not, for want of memory or for this fault
abbrev pub FailsAs : Result (RecordValue × List ℕ) CaptureFault → CaptureFault → Type 0
FailsAs recorded fault = (fault ≡ NoMemory) ⊎ (read_of recorded ≡ Err fault)

-- One record after the other, from octets to those after them, this is found.
abbrev pub Follow : HeadValue → List ℕ → List (Option TimedPacket) → HeadValue → List ℕ → Type 0
Follow old octets [] new after = (new ≡ old) × (after ≡ octets)
Follow old octets (found ∷ more) new after = (head : HeadValue) × (rest : List ℕ)
    × ReadsAs (record_at old octets) found head rest × Follow head rest more new after

-- What is wrong where a capture ends before a record did: fewer than four octets are no capture.
unfoldable pub fault_of_end : FileKind → List ℕ → Option CaptureFault
fault_of_end Unopened left = if nat_lt (length left) 4 then Some NoCapture else Some Cut
fault_of_end (Pcap file) left = if length left == 0 then None else Some Cut
fault_of_end Pcapng left = if length left == 0 then None else Some Cut
