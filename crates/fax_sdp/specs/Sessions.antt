-- What a session description says (RFC 8866, 5; RFC 3264): its media, in their order.
use Rattle.std.specs.Prelude.{ℕ, ◌^◌, ◌||◌, nat_lt, if◌then◌else◌, List, [], ◌∷◌, ◌++◌, length, codes, Option, None, Some, option_map, Result, Ok, Err}
use Rattle.std.specs.Str.{bytes_eq, is_utf8}
use Rattle.std.specs.Option.{option_and_then}
use Rattle.fax_sdp.specs.declared.fault.SdpFault.{SdpFault}
use Rattle.fax_sdp.specs.declared.fault.SdpFault.TheVariants.{TooLong, NoText, NoVersion, BadMedium, BadConnection, TooManyMedia}
use Rattle.fax_sdp.specs.declared.medium.Direction.{Direction}
use Rattle.fax_sdp.specs.declared.medium.Direction.TheVariants.{SendReceive}
use Rattle.fax_sdp.specs.declared.medium.Terms.{Terms}
use Rattle.fax_sdp.specs.declared.medium.Medium.{Medium}
use Rattle.fax_sdp.specs.declared.attribute.Attribute.{Attribute}
use Rattle.fax_sdp.specs.declared.attribute.Attribute.TheVariants as says
use Rattle.fax_sdp.specs.Attributes.{attribute}
use Rattle.fax_sdp.specs.Texts.{cut_at, is_word, lines_of, number}

-- a medium, apart from where its texts lie
pub record MediumText : Type 0 where
  pub name : List ℕ
  pub port : ℕ
  pub transport : List ℕ
  pub formats : List ℕ
  pub host : Option (List ℕ)
  pub direction : Direction
  pub terms : Terms

abbrev pub medium_text : Medium → MediumText
medium_text medium = record {
  name = medium.name.now;
  port = medium.port;
  transport = medium.transport.now;
  formats = medium.formats.now;
  host = option_map (λ host. host.now) medium.host;
  direction = medium.direction;
  terms = medium.terms;
}

-- what has been said up to a line: of the session, of the media that are whole, and of the one that is on
pub record Reading : Type 0 where
  pub host : Option (List ℕ)
  pub direction : Direction
  pub whole : List MediumText
  pub current : Option MediumText

abbrev pub nothing_said : Reading
nothing_said = record { host = None; direction = SendReceive; whole = []; current = None }

-- terms of which nothing is said
abbrev pub no_terms : Terms
no_terms = record {
  version = None;
  bit_rate = None;
  rate_management = None;
  error_correction = None;
  max_buffer = None;
  max_datagram = None;
}

-- the part of a word before a slash
abbrev pub before_slash : List ℕ → Option (List ℕ × List ℕ) → List ℕ
before_slash word None = word
before_slash word (Some parts) = parts.0

-- a number below 2 ^ 16
abbrev pub short : Option ℕ → Option ℕ
short None = None
short (Some n) = if nat_lt n (2 ^ 16) then Some n else None

-- the port of a medium; a count of ports may follow it after a slash
abbrev pub port_of : List ℕ → Option ℕ
port_of word = short (number (before_slash word (cut_at 47 word)))

-- a medium as its line says it: a name, a port, a transport and formats, with one space between
abbrev pub medium_of : Option (List ℕ) → Direction → List ℕ → Option MediumText
medium_of host direction text = option_and_then
    (λ name. option_and_then (λ port. option_and_then (λ transport. option_map (λ number. record {
      name = name.0;
      port = number;
      transport = transport.0;
      formats = transport.1;
      host = host;
      direction = direction;
      terms = no_terms;
    }) (port_of port.0)) (cut_at 32 port.1))
    (cut_at 32 name.1)) (cut_at 32 text)

-- the host of a connection: `IN`, `IP4` or `IP6`, and an address, which a slash ends
abbrev pub host_of : List ℕ → Option (List ℕ)
host_of text = option_and_then (λ net. option_and_then (λ kind. if is_word net.0 (codes "IN")
    then (if is_word kind.0 (codes "IP4") || is_word kind.0 (codes "IP6")
    then Some (before_slash kind.1 (cut_at 47 kind.1)) else None)
    else None) (cut_at 32 net.1)) (cut_at 32 text)

-- the media with one more after them, of which there are eight at most
abbrev pub kept : List MediumText → Option MediumText → Result (List MediumText) SdpFault
kept whole None = Ok whole
kept whole (Some medium) =
    if nat_lt (length whole) 8 then Ok (whole ++ medium ∷ []) else Err TooManyMedia

-- a new medium is on
abbrev pub begun : Reading
    → MediumText → Result (List MediumText) SdpFault → Result Reading SdpFault
begun reading medium (Ok whole) = Ok (record reading { whole = whole; current = Some medium })
begun reading medium (Err fault) = Err fault

abbrev pub with_medium : Reading → Option MediumText → Result Reading SdpFault
with_medium reading None = Err BadMedium
with_medium reading (Some medium) = begun reading medium (kept reading.whole reading.current)

-- a host is that of the medium that is on, or of the session before the first medium
abbrev pub hosted : Reading → List ℕ → Option MediumText → Reading
hosted reading host None = record reading { host = Some host }
hosted reading host (Some medium) =
    record reading { current = Some (record medium { host = Some host }) }

abbrev pub with_host : Reading → Option (List ℕ) → Result Reading SdpFault
with_host reading None = Err BadConnection
with_host reading (Some host) = Ok (hosted reading host reading.current)

-- what an attribute says of T.38; the last that says it holds
abbrev pub with_term : Terms → Attribute → Terms
with_term terms (says.Goes direction) = terms
with_term terms (says.Version n) = record terms { version = Some n }
with_term terms (says.BitRate n) = record terms { bit_rate = Some n }
with_term terms (says.Management management) = record terms { rate_management = Some management }
with_term terms (says.Correction correction) = record terms { error_correction = Some correction }
with_term terms (says.MaxBuffer n) = record terms { max_buffer = Some n }
with_term terms (says.MaxDatagram n) = record terms { max_datagram = Some n }
with_term terms says.Other = terms

-- which way it goes
abbrev pub turned : Direction → Attribute → Direction
turned direction (says.Goes other) = other
turned direction (says.Version n) = direction
turned direction (says.BitRate n) = direction
turned direction (says.Management management) = direction
turned direction (says.Correction correction) = direction
turned direction (says.MaxBuffer n) = direction
turned direction (says.MaxDatagram n) = direction
turned direction says.Other = direction

-- an attribute is of the medium that is on; one of the session tells which way its media go
abbrev pub with_attribute : Reading → Attribute → Option MediumText → Reading
with_attribute reading said None = record reading { direction = turned reading.direction said }
with_attribute reading said (Some medium) = record reading {
  current = Some (record medium {
    direction = turned medium.direction said;
    terms = with_term medium.terms said;
  });
}

-- what a line says, by its letter; a line of another letter, or of none, says nothing
abbrev pub said : Reading → Option (List ℕ × List ℕ) → Result Reading SdpFault
said reading None = Ok reading
said reading (Some parts) = if bytes_eq parts.0 (codes "m")
    then with_medium reading (medium_of reading.host reading.direction parts.1)
    else if bytes_eq parts.0 (codes "c")
    then with_host reading (host_of parts.1) else if bytes_eq parts.0 (codes "a")
    then Ok (with_attribute reading (attribute parts.1) reading.current) else Ok reading

abbrev pub with_line : Reading → List ℕ → Result Reading SdpFault
with_line reading line = said reading (cut_at 61 line)

-- an answer, seen so
abbrev pub seen : {A B : Type 0} → (A → B) → Result A SdpFault → Result B SdpFault
seen view (Ok x) = Ok (view x)
seen view (Err fault) = Err fault

-- and on, where there was no fault
infixl 10 ◌>>=◌
abbrev pub ◌>>=◌ : {A B : Type 0} → Result A SdpFault → (A → Result B SdpFault) → Result B SdpFault
(Ok x) >>= f = f x
(Err fault) >>= f = Err fault

-- what the lines say after what has been said, each in its turn
unfoldable pub read_on : Reading → List (List ℕ) → Result Reading SdpFault
read_on reading [] = Ok reading
read_on reading (line ∷ lines) = with_line reading line >>= (λ next. read_on next lines)

-- the media of which the lines after the first tell
abbrev pub media_of_lines : List (List ℕ) → Result (List MediumText) SdpFault
media_of_lines lines =
    read_on nothing_said lines >>= (λ reading. kept reading.whole reading.current)

-- the first line tells the version, which is 0
abbrev pub described : List (List ℕ) → Result (List MediumText) SdpFault
described [] = Err NoVersion
described (line ∷ lines) =
    if bytes_eq line (codes "v=0") then media_of_lines lines else Err NoVersion

-- The media that octets describe, or why they describe none.
abbrev pub media_of : List ℕ → Result (List MediumText) SdpFault
media_of octets =
    if nat_lt 65535 (length octets) then Err TooLong else
    if is_utf8 octets then described (lines_of octets) else Err NoText
