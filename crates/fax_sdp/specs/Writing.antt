-- What is told of our media: the lines of an offer or an answer (RFC 8866, 5; RFC 3264, 5 and 6; RFC 3551, 6; T.38, annex D).
use Rattle.std.specs.Prelude.{ℕ, ◌^◌, ◌<◌, ◌≤◌, ◌≢◌, List, [], ◌∷◌, ◌++◌, length, map, codes, decimal, Some, All}
use Rattle.std.specs.List.{AllByRecursion, flat_map, join_with_byte}
use Rattle.std.specs.Net.Addr.{IsIpv4Addr, IsIpv6Addr, MatchIp}
use Rattle.std.specs.Net.Text.{ip_text}
use Rattle.std.specs.declared.net.ip_addr.IpAddr.{IpAddr}
use Rattle.std.specs.declared.net.ip_addr.IpAddr.TheVariants.{V4, V6}
use Rattle.fax_sdp.specs.declared.medium.Direction.TheVariants.{SendReceive}
use Rattle.fax_sdp.specs.declared.medium.ErrorCorrection.TheVariants.{Redundancy}
use Rattle.fax_sdp.specs.declared.medium.Medium.{Medium}
use Rattle.fax_sdp.specs.declared.medium.RateManagement.TheVariants.{Transferred}
use Rattle.fax_sdp.specs.declared.medium.Terms.{Terms}
use Rattle.fax_sdp.specs.declared.writing.AudioFormats.{AudioFormats}
use Rattle.fax_sdp.specs.declared.writing.AudioFormats.TheVariants.{Pcmu, Pcma, Both}
use Rattle.fax_sdp.specs.declared.writing.AudioSection.{AudioSection}
use Rattle.fax_sdp.specs.declared.writing.FaxSection.{FaxSection}
use Rattle.fax_sdp.specs.declared.writing.Origin.{Origin}
use Rattle.fax_sdp.specs.declared.writing.Section.{Section}
use Rattle.fax_sdp.specs.declared.writing.Section.TheVariants.{Fax, Audio, Refused}
use Rattle.fax_sdp.specs.Sessions.{MediumText, no_terms}

-- a line with its end
abbrev pub ended : List ℕ → List ℕ
ended line = line ++ 13 ∷ 10 ∷ []

-- the text of lines, each with its end
abbrev pub text_of : List (List ℕ) → List ℕ
text_of lines = flat_map ended lines

-- words with one space between
abbrev pub spaced : List (List ℕ) → List ℕ
spaced words = join_with_byte 32 words

abbrev pub address_kind : IpAddr → List ℕ
address_kind (V4 ip) = codes "IP4"
address_kind (V6 ip) = codes "IP6"

-- whose session it is, by its number and version
abbrev pub origin_line : Origin → List ℕ
origin_line origin = spaced (codes "o=-" ∷ decimal origin.session
    ∷ decimal origin.version ∷ codes "IN" ∷ address_kind origin.host ∷ ip_text origin.host ∷ [])

-- where it is heard
abbrev pub connection_line : IpAddr → List ℕ
connection_line host = spaced (codes "c=IN" ∷ address_kind host ∷ ip_text host ∷ [])

-- the lines before the media: the version, whose session it is, its name, which is none, where it is heard, and no time
abbrev pub session_lines : Origin → List (List ℕ)
session_lines origin = codes "v=0"
    ∷ origin_line origin ∷ codes "s=-" ∷ connection_line origin.host ∷ codes "t=0 0" ∷ []

-- a medium: its name, port, transport and formats
abbrev pub medium_line : List ℕ → ℕ → List ℕ → List ℕ → List ℕ
medium_line name port transport formats =
    spaced ((codes "m=" ++ name) ∷ decimal port ∷ transport ∷ formats ∷ [])

-- T.38 over UDPTL: version 0, 14,400 bits a second, the TCF transferred, redundancy, and two bounds
abbrev pub fax_lines : FaxSection → List (List ℕ)
fax_lines fax =
    medium_line (codes "image") fax.port (codes "udptl") (codes "t38")
    ∷ codes "a=T38FaxVersion:0"
    ∷ codes "a=T38MaxBitRate:14400"
    ∷ codes "a=T38FaxRateManagement:transferredTCF"
    ∷ (codes "a=T38FaxMaxBuffer:" ++ decimal fax.max_buffer)
    ∷ (codes "a=T38FaxMaxDatagram:" ++ decimal fax.max_datagram)
    ∷ codes "a=T38FaxUdpEC:t38UDPRedundancy"
    ∷ []

-- the numbers of the formats, with one space between
abbrev pub numbers_of : AudioFormats → List ℕ
numbers_of Pcmu = codes "0"
numbers_of Pcma = codes "8"
numbers_of Both = codes "0 8"

-- what each number stands for
abbrev pub format_lines : AudioFormats → List (List ℕ)
format_lines Pcmu = codes "a=rtpmap:0 PCMU/8000" ∷ []
format_lines Pcma = codes "a=rtpmap:8 PCMA/8000" ∷ []
format_lines Both = codes "a=rtpmap:0 PCMU/8000" ∷ codes "a=rtpmap:8 PCMA/8000" ∷ []

-- audio over RTP
abbrev pub audio_lines : AudioSection → List (List ℕ)
audio_lines audio =
    medium_line (codes "audio") audio.port (codes "RTP/AVP") (numbers_of audio.formats)
    ∷ format_lines audio.formats

-- a medium that is refused: at the port 0, what it was offered as
abbrev pub refused_lines : Medium → List (List ℕ)
refused_lines medium = medium_line medium.name.now 0 medium.transport.now medium.formats.now ∷ []

abbrev pub section_lines : Section → List (List ℕ)
section_lines (Fax fax) = fax_lines fax
section_lines (Audio audio) = audio_lines audio
section_lines (Refused medium) = refused_lines medium

-- the lines of a description
abbrev pub description_lines : Origin → List Section → List (List ℕ)
description_lines origin sections = session_lines origin ++ flat_map section_lines sections

-- the terms of T.38 that the lines tell
abbrev pub told_terms : FaxSection → Terms
told_terms fax = record {
  version = Some 0;
  bit_rate = Some 14400;
  rate_management = Some Transferred;
  error_correction = Some Redundancy;
  max_buffer = Some fax.max_buffer;
  max_datagram = Some fax.max_datagram;
}

-- the medium that a section tells
abbrev pub told_medium : List ℕ → Section → MediumText
told_medium host (Fax fax) = record {
  name = codes "image";
  port = fax.port;
  transport = codes "udptl";
  formats = codes "t38";
  host = Some host;
  direction = SendReceive;
  terms = told_terms fax;
}
told_medium host (Audio audio) = record {
  name = codes "audio";
  port = audio.port;
  transport = codes "RTP/AVP";
  formats = numbers_of audio.formats;
  host = Some host;
  direction = SendReceive;
  terms = no_terms;
}
told_medium host (Refused medium) = record {
  name = medium.name.now;
  port = 0;
  transport = medium.transport.now;
  formats = medium.formats.now;
  host = Some host;
  direction = SendReceive;
  terms = no_terms;
}

-- the media that a description tells
abbrev pub told_media : Origin → List Section → List MediumText
told_media origin sections = map (told_medium (ip_text origin.host)) sections

-- the text stands in one line
abbrev pub IsInLine : List ℕ → Type 0
IsInLine text = All (λ octet. octet ≢ 10) text

-- the text is one word of a line
abbrev pub IsInWord : List ℕ → Type 0
IsInWord text = IsInLine text × All (λ octet. octet ≢ 32) text

-- What a section tells fits its lines: numbers are those of their types, and the texts of a medium that is refused are as lines have them.
abbrev pub FitsLines : Section → Type 0
FitsLines (Fax fax) = (fax.port < 2 ^ 16) × (fax.max_buffer < 2 ^ 32) × (fax.max_datagram < 2 ^ 32)
FitsLines (Audio audio) = audio.port < 2 ^ 16
FitsLines (Refused medium) =
    IsInWord medium.name.now × IsInWord medium.transport.now × IsInLine medium.formats.now

-- A description can be told: it has eight media and 65,535 octets at most, and what each medium tells fits its lines.
pub record CanBeTold (origin : Origin) (sections : List Section) : Type 0 where
  pub few : length sections ≤ 8
  pub short : length (text_of (description_lines origin sections)) ≤ 65535
  pub each : AllByRecursion FitsLines sections
  pub session : origin.session < 2 ^ 64
  pub version : origin.version < 2 ^ 64
  pub host : MatchIp origin.host IsIpv4Addr IsIpv6Addr
