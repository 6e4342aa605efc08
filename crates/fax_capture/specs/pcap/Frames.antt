-- FRAMES: where a UDP datagram, or a fragment of one, stands in what was captured of a link. (IEEE 802.3 and 802.1Q;
-- LINKTYPE_LINUX_SLL and LINKTYPE_LINUX_SLL2, LINKTYPE_NULL and LINKTYPE_LOOP of the registry of link types; RFC 791, RFC 8200,
-- RFC 768. Of headers of extension that of a fragment alone is read: this project's profile.)
use Rattle.std.specs.Prelude.{ℕ, min, ◌-◌, ◌*◌, ◌/◌, ◌%◌, ◌==◌, ◌&&◌, ◌||◌, not, nat_lt, Bool, List, take, drop, length, slice_index, Option, Some, None, Result, Ok, Err, if◌then◌else◌}
use Rattle.fax_capture.specs.declared.pcap.fields.ByteOrder.TheVariants.{Big, Little}
use Rattle.fax_capture.specs.declared.pcap.link.LinkType.{LinkType}
use Rattle.fax_capture.specs.declared.pcap.link.LinkType.TheVariants.{Ethernet, LinuxCooked, LinuxCooked2, Loopback, RawIp, Unread}
use Rattle.fax_capture.specs.declared.pcap.found.Found.{Found}
use Rattle.fax_capture.specs.declared.pcap.found.Found.TheVariants.{Datagram, Fragment}
use Rattle.fax_capture.specs.declared.pcap.frame.FrameFault.{FrameFault}
use Rattle.fax_capture.specs.declared.pcap.frame.FrameFault.TheVariants.{Other, Short}
use Rattle.fax_capture.specs.declared.pcap.part.Part.{Part}
use Rattle.fax_capture.specs.pcap.Datagrams.{EndpointValue}
use Rattle.fax_capture.specs.pcap.Fields.{◌>>=◌, front_of, number_16, number_32}

-- A datagram, or a fragment of one; or traffic of another kind; or the octets end inside of a header.
abbrev pub FrameRead : Type 0
FrameRead = Result Found FrameFault

-- the numbers of link types that are read: LINKTYPE_ETHERNET, _LINUX_SLL, _LINUX_SLL2, _NULL and _LOOP, and _RAW, _IPV4 and
-- _IPV6; 12 and 14 are what some systems have for _RAW
unfoldable pub link_of : ℕ → LinkType
link_of number = if number == 1 then Ethernet else if number == 113 then LinuxCooked
    else if number == 276 then LinuxCooked2 else if number == 0 || number == 108 then Loopback
    else if number == 12 || (number == 14 || (number == 101 || (number == 228 || number == 229)))
    then RawIp else Unread

-- the data of UDP: its length counts the eight octets of the header too
unfoldable pub data_at : EndpointValue → EndpointValue → Option ℕ → ℕ → List ℕ → FrameRead
data_at source destination fragments count octets =
    if nat_lt count 8 then Err Other
    else Ok (Datagram (record {
      source = source;
      destination = destination;
      fragments = fragments;
      length = count - 8;
      is_whole = not (nat_lt (length octets) (count - 8));
      octets = take (count - 8) octets;
    }))

-- UDP (RFC 768): the ports of both ends, the length and a checksum, which is not read
unfoldable pub udp_at : List ℕ → List ℕ → Option ℕ → List ℕ → FrameRead
udp_at source destination fragments octets = do
  parts ← front_of Short 8 octets
  data_at (record { host = source; port = number_16 Big parts.0 0 }) (record { host = destination; port = number_16 Big parts.0 2 })
      fragments (number_16 Big parts.0 4) parts.1

-- A datagram that is not alone is the first of fragments, which share a number.
abbrev pub fragments_of : Part → Option ℕ
fragments_of part = if part.is_followed then Some part.number else None

-- UDP from its front on; or a fragment after the first one. Places count eight octets each, and the first eight are the header of UDP.
unfoldable pub part_at : List ℕ → List ℕ → Part → List ℕ → FrameRead
part_at source destination part octets =
    if part.place == 0 then udp_at source destination (fragments_of part) octets
    else Ok (Fragment (record {
      source = source;
      destination = destination;
      number = part.number;
      place = 8 * (part.place - 1);
      is_last = not part.is_followed;
      octets = octets;
    }))

-- The first 20 octets of a datagram of IPv4 (RFC 791) say that it carries UDP: its version, a header of 20 octets or more, which
-- the total length counts, and the protocol;
unfoldable pub is_udp_4 : List ℕ → Bool
is_udp_4 header = (slice_index header 0 / 16 == 4) && (not (nat_lt (slice_index header 0 % 16) 5)
    && (not (nat_lt (number_16 Big header 2) (4 * (slice_index header 0 % 16)))
    && (slice_index header 9 == 17)))

-- and which part of it: its identification, 13 bits of an offset, and, by one more bit, whether more fragments follow
unfoldable pub part_4 : List ℕ → Part
part_4 header = record {
  number = number_16 Big header 4;
  place = number_16 Big header 6 % 8192;
  is_followed = (number_16 Big header 6 / 8192) % 2 == 1;
}

-- Where the headers of a first fragment are not there, whose it is is not known. Of another one that is not known anyway.
abbrev pub fault_of_part : Part → FrameFault
fault_of_part part = if part.place == 0 then Short else Other

unfoldable pub ip_4_at : List ℕ → FrameRead
ip_4_at octets = do
  parts ← front_of Short 20 octets
  if is_udp_4 parts.0 then (front_of (fault_of_part (part_4 parts.0)) (4 * (slice_index parts.0 0 % 16) - 20) parts.1 >>= λ options.
      part_at (take 4 (drop 12 parts.0)) (take 4 (drop 16 parts.0)) (part_4 parts.0) (take (number_16 Big parts.0 2 - 4 * (slice_index parts.0 0 % 16)) options.1))
      else Err Other

-- The 40 octets of a header of IPv6 (RFC 8200) say what stands after it: their version, and the next header.
abbrev pub is_next_6 : List ℕ → ℕ → Bool
is_next_6 header next = (slice_index header 0 / 16 == 6) && (slice_index header 6 == next)

-- The eight octets of the header of a fragment (RFC 8200, 4.5) say which part of a datagram it is: 13 bits of an offset, one that
-- tells whether more fragments follow, and the identification.
unfoldable pub part_6 : List ℕ → Part
part_6 header = record {
  number = number_32 Big header 4;
  place = number_16 Big header 2 / 8;
  is_followed = number_16 Big header 2 % 2 == 1;
}

unfoldable pub fragment_6_at : List ℕ → List ℕ → List ℕ → FrameRead
fragment_6_at source destination octets = do
  parts ← front_of Short 8 octets
  if slice_index parts.0 0 == 17 then part_at source destination (part_6 parts.0) parts.1 else Err Other

-- UDP after the header, or after that of a fragment
unfoldable pub after_ip_6 : List ℕ → List ℕ → FrameRead
after_ip_6 header octets = if is_next_6 header 17
    then udp_at (take 16 (drop 8 header)) (take 16 (drop 24 header)) None octets
    else if is_next_6 header 44
    then fragment_6_at (take 16 (drop 8 header)) (take 16 (drop 24 header)) octets else Err Other

unfoldable pub ip_6_at : List ℕ → FrameRead
ip_6_at octets = do
  parts ← front_of Short 40 octets
  after_ip_6 parts.0 (take (number_16 Big parts.0 4) parts.1)

-- IP of either version, which its first four bits tell
unfoldable pub ip_at : List ℕ → FrameRead
ip_at octets = do
  parts ← front_of Short 1 octets
  if slice_index parts.0 0 / 16 == 4 then ip_4_at octets else ip_6_at octets

-- a type of protocol, and the octets that it names; after a tag of IEEE 802.1Q, where there is one, the type within
unfoldable pub untagged : ℕ → List ℕ → Result (ℕ × List ℕ) FrameFault
untagged protocol octets = if protocol == 33024 || protocol == 34984
    then (front_of Short 4 octets >>= λ parts. Ok (number_16 Big parts.0 2, parts.1))
    else Ok (protocol, octets)

-- two tags at most: IPv4 or IPv6 after them
unfoldable pub protocol_at : ℕ → List ℕ → FrameRead
protocol_at protocol octets = do
  outer ← untagged protocol octets
  inner ← untagged outer.0 outer.1
  if inner.0 == 2048 then ip_4_at inner.1 else if inner.0 == 34525 then ip_6_at inner.1 else Err Other

-- the header of a link, and the type of protocol at its place in it
unfoldable pub after_header : ℕ → ℕ → List ℕ → FrameRead
after_header count place octets =
    front_of Short count octets >>= λ parts. protocol_at (number_16 Big parts.0 place) parts.1

-- the families of addresses of loopback interfaces: 2 is IPv4; 24, 28 and 30 are IPv6
unfoldable pub family_at : ℕ → List ℕ → FrameRead
family_at family octets =
    if family == 2 then ip_4_at octets
    else if family == 24 || (family == 28 || family == 30) then ip_6_at octets
    else Err Other

-- the header of a loopback interface: a family in 32 bits, in the byte order of the host that captured, whichever it was, so
-- that it is the smaller of both numbers
unfoldable pub loopback_at : List ℕ → FrameRead
loopback_at octets = front_of Short 4 octets >>= λ parts.
    family_at (min (number_32 Big parts.0 0) (number_32 Little parts.0 0)) parts.1

unfoldable pub frame_at : LinkType → List ℕ → FrameRead
frame_at Ethernet octets = after_header 14 12 octets
frame_at LinuxCooked octets = after_header 16 14 octets
frame_at LinuxCooked2 octets = after_header 20 0 octets
frame_at Loopback octets = loopback_at octets
frame_at RawIp octets = ip_at octets
frame_at Unread octets = Err Other
