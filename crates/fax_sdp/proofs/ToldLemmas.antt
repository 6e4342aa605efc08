-- What is written is read back.
use Rattle.std.proofs.Common.{◌≡◌, ◌≢◌, ℕ, zero, suc, ◌+◌, ◌<◌, ◌≤◌, ◌^◌, Bool, true, false, cond, List, [], ◌∷◌, ◌++◌, length, get_or, map, drop, nat_lt, codes, decimal, flat_map, Option, None, Some, Result, Ok, Err, refl, sym, ◌∙◌, ap, subst, append_assoc, append-nil, length-append, All, inl, inr, arith}
use Rattle.std.proofs.lemmas.Bool.Decides.{Decides-ltb, nat_tests}
use Rattle.std.proofs.lemmas.Fmt.{decimal_is_IsNumeral, decimal_nonempty, digits_decimal, digits_value-decimal}
use Rattle.std.proofs.lemmas.List.Elements.{All-cons, All-weaker}
use Rattle.std.proofs.lemmas.Str.Parse.{IsNumeralModel, digit_at, not_in_digits, numerals_by_value, tells_all_ascii_digits}
use Rattle.std.proofs.NetLemmas.Alphabet.{All-hex_groups_text, All-ipv4_text, IsDigitOrDot, IsHexOrColon}
use Rattle.std.proofs.NetLemmas.Texts.{AllSegments-drop}
use Rattle.std.specs.Char.{is_ascii_whitespace}
use Rattle.std.specs.Int.{IsInRange}
use Rattle.std.specs.List.{AllByRecursion, prefix_len}
use Rattle.std.specs.Net.Addr.{IsIpv4Addr, IsIpv6Addr, MatchIp, ipv4_octets, ipv6_segments, octets_of}
use Rattle.std.specs.Net.Text.{hex_groups_text, ip_text, ipv4_text, ipv6_text}
use Rattle.std.specs.Str.{IsUtf8, all_ascii_digits}
use Rattle.std.specs.Str.Parse.{digits_value}
use Rattle.std.specs.declared.net.ip_addr.IpAddr.{IpAddr}
use Rattle.std.specs.declared.net.ip_addr.IpAddr.TheVariants.{V4, V6}
use Rattle.fax_sdp.specs.declared.attribute.Attribute.{Attribute}
use Rattle.fax_sdp.specs.declared.attribute.Attribute.TheVariants as says
use Rattle.fax_sdp.specs.declared.fault.SdpFault.{SdpFault}
use Rattle.fax_sdp.specs.declared.fault.SdpFault.TheVariants.{TooManyMedia}
use Rattle.fax_sdp.specs.declared.medium.Direction.{Direction}
use Rattle.fax_sdp.specs.declared.medium.Direction.TheVariants.{SendReceive}
use Rattle.fax_sdp.specs.declared.medium.ErrorCorrection.TheVariants.{Redundancy}
use Rattle.fax_sdp.specs.declared.medium.Medium.{Medium}
use Rattle.fax_sdp.specs.declared.medium.RateManagement.TheVariants.{Transferred}
use Rattle.fax_sdp.specs.declared.writing.AudioFormats.{AudioFormats}
use Rattle.fax_sdp.specs.declared.writing.AudioFormats.TheVariants.{Pcmu, Pcma, Both}
use Rattle.fax_sdp.specs.declared.writing.AudioSection.{AudioSection}
use Rattle.fax_sdp.specs.declared.writing.FaxSection.{FaxSection}
use Rattle.fax_sdp.specs.declared.writing.Origin.{Origin}
use Rattle.fax_sdp.specs.declared.writing.Section.{Section}
use Rattle.fax_sdp.specs.declared.writing.Section.TheVariants.{Fax, Audio, Refused}
use Rattle.fax_sdp.specs.Attributes.{attribute, bound}
use Rattle.fax_sdp.specs.Sessions.{MediumText, Reading, before_slash, begun, described, kept, media_of, medium_of, no_terms, nothing_said, port_of, read_on, short, turned, with_attribute, with_line, with_medium, with_term, ◌>>=◌}
use Rattle.fax_sdp.specs.Texts.{cut_at, is_word, lines_of, number, without_space}
use Rattle.fax_sdp.specs.Writing.{CanBeTold, FitsLines, IsInLine, address_kind, audio_lines, description_lines, fax_lines, connection_line, format_lines, medium_line, numbers_of, origin_line, refused_lines, section_lines, session_lines, spaced, text_of, told_media, told_medium}
use Rattle.fax_sdp.proofs.ReadLemmas.{media_of_text}
use Rattle.fax_sdp.proofs.TextLemmas.{Lacks, all_digits, cut_at_after, cut_at_none, number_of_digits}
use Rattle.fax_sdp.proofs.WriteLemmas.{Lacks-append, Lacks-by_test, lacks, lines_of_text}

-- ---- numbers

own : IsNumeralModel (λ ds. all_ascii_digits ds ≡ true) (digits_value 10)
own = numerals_by_value _ tells_all_ascii_digits

Lacks-decimal : (mark n : ℕ) → n < 2 ^ 64 → (IsInRange 48 57 mark → ⊥) → Lacks mark (decimal n)
Lacks-decimal mark n small other = not_in_digits own (decimal n) mark (digits_decimal own n small) other

number_decimal : (n : ℕ) → n < 2 ^ 32 → number (decimal n) ≡ Some n
number_decimal n small =
    let value : digits_value 10 (decimal n) ≡ n = digits_value-decimal own n (omega arith) in
    let fits : digits_value 10 (decimal n) < 2 ^ 32 = subst (λ (k : ℕ). k < 2 ^ 32) (sym value) small in
    number_of_digits (decimal n) (all_digits (decimal n) ∙ digits_decimal own n (omega arith)) (decimal_nonempty n (omega arith)) fits ∙ ap Some value

short_step : (b : Bool) (n : ℕ) → b ≡ true → cond b (Some n) None ≡ Some n
short_step true n e = refl
short_step false n e = cc

port_of_decimal : (port : ℕ) → port < 2 ^ 16 → port_of (decimal port) ≡ Some port
port_of_decimal port small =
    let whole : cut_at 47 (decimal port) ≡ None = cut_at_none 47 (decimal port) (Lacks-decimal 47 port (omega arith) (λ r. omega (arith, r.0, r.1))) in
    ap (λ cut. short (number (before_slash (decimal port) cut))) whole ∙ ap short (number_decimal port (omega arith))
    ∙ short_step (nat_lt port (2 ^ 16)) port ((Decides-ltb port (2 ^ 16)).1 small)

no_space : (x : ℕ) → IsInRange 48 57 x → is_ascii_whitespace x ≡ false
no_space x r = grind (arith, nat_tests)

without_space_step : (b : Bool) (x : ℕ) (xs : List ℕ) → b ≡ false → drop (cond b (1 + prefix_len is_ascii_whitespace xs) 0) (x ∷ xs) ≡ x ∷ xs
without_space_step true x xs e = cc
without_space_step false x xs e = refl

without_space_digits : (text : List ℕ) → 0 < length text → IsInRange 48 57 (get_or text 0 0) → without_space text ≡ text
unfolding without_space
without_space_digits [] some r = absurd (omega arith)
without_space_digits (x ∷ xs) some r = without_space_step (is_ascii_whitespace x) x xs (no_space x r)

-- ---- one line

line_m : (reading : Reading) (text : List ℕ) → with_line reading (109 ∷ 61 ∷ text) ≡ with_medium reading (medium_of reading.host reading.direction text)
unfolding cut_at
line_m reading text = refl

line_a : (reading : Reading) (text : List ℕ) → with_line reading (97 ∷ 61 ∷ text) ≡ Ok (with_attribute reading (attribute text) reading.current)
unfolding cut_at
line_a reading text = refl

abbrev bare : Option (List ℕ) → Direction → List ℕ → ℕ → List ℕ → List ℕ → MediumText
bare host direction name port transport formats = record {
  name = name;
  port = port;
  transport = transport;
  formats = formats;
  host = host;
  direction = direction;
  terms = no_terms;
}

medium_told : (host : Option (List ℕ)) (direction : Direction) (name digits transport formats : List ℕ) (port : ℕ) → Lacks 32 name → Lacks 32 digits → Lacks 32 transport → port_of digits ≡ Some port
    → medium_of host direction (name ++ 32 ∷ (digits ++ 32 ∷ (transport ++ 32 ∷ formats))) ≡ Some (bare host direction name port transport formats)
medium_told host direction name digits transport formats port p q r is =
    let first = cut_at_after 32 name (digits ++ 32 ∷ (transport ++ 32 ∷ formats)) p in
    let second = cut_at_after 32 digits (transport ++ 32 ∷ formats) q in
    let third = cut_at_after 32 transport formats r in
    rw (first, second, third, is) refl

-- of a session only the host is said, with these whole media and this one
abbrev on : List ℕ → List MediumText → Option MediumText → Reading
on host whole current = record { host = Some host; direction = SendReceive; whole = whole; current = current }

medium_begun : (reading : Reading) (medium : MediumText) (whole : List MediumText) → kept reading.whole reading.current ≡ Ok whole
    → with_medium reading (Some medium) ≡ Ok (record reading { whole = whole; current = Some medium })
medium_begun reading medium whole e = ap (begun reading medium) e

-- a medium, once an attribute is told of it
abbrev after : MediumText → Attribute → MediumText
after medium told = record medium { direction = turned medium.direction told; terms = with_term medium.terms told }

attribute_read : (host : List ℕ) (whole : List MediumText) (medium : MediumText) (text : List ℕ) (told : Attribute) → attribute text ≡ told
    → with_line (on host whole (Some medium)) (97 ∷ 61 ∷ text) ≡ Ok (on host whole (Some (after medium told)))
attribute_read host whole medium text told e = line_a (on host whole (Some medium)) text ∙ ap (λ told. Ok (with_attribute (on host whole (Some medium)) told (Some medium))) e

read_step : (reading next : Reading) (line : List ℕ) (lines : List (List ℕ)) → with_line reading line ≡ Ok next → read_on reading (line ∷ lines) ≡ read_on next lines
unfolding read_on
read_step reading next line lines e = ap (λ (read : Result Reading SdpFault). read >>= (λ next. read_on next lines)) e

-- ---- attributes

says_version : attribute (codes "T38FaxVersion:0") ≡ says.Version 0
unfolding cut_at is_word number without_space
says_version = refl

says_bit_rate : attribute (codes "T38MaxBitRate:14400") ≡ says.BitRate 14400
unfolding cut_at is_word number without_space
says_bit_rate = refl

says_management : attribute (codes "T38FaxRateManagement:transferredTCF") ≡ says.Management Transferred
unfolding cut_at is_word number without_space
says_management = refl

says_correction : attribute (codes "T38FaxUdpEC:t38UDPRedundancy") ≡ says.Correction Redundancy
unfolding cut_at is_word number without_space
says_correction = refl

says_pcmu : attribute (codes "rtpmap:0 PCMU/8000") ≡ says.Other
unfolding cut_at is_word number without_space
says_pcmu = refl

says_pcma : attribute (codes "rtpmap:8 PCMA/8000") ≡ says.Other
unfolding cut_at is_word number without_space
says_pcma = refl

number_told : (n : ℕ) → n < 2 ^ 32 → number (without_space (decimal n)) ≡ Some n
number_told n small =
    let some : 0 < length (decimal n) = decimal_nonempty n (omega arith) in
    let first : IsInRange 48 57 (get_or (decimal n) 0 0) = digit_at (decimal n) 0 (decimal_is_IsNumeral n (omega arith)).0.1 some in
    ap number (without_space_digits (decimal n) some first) ∙ number_decimal n small

says_max_buffer : (n : ℕ) → n < 2 ^ 32 → attribute (codes "T38FaxMaxBuffer:" ++ decimal n) ≡ says.MaxBuffer n
unfolding cut_at is_word
says_max_buffer n small = ap (bound (codes "T38FaxMaxBuffer")) (number_told n small)

says_max_datagram : (n : ℕ) → n < 2 ^ 32 → attribute (codes "T38FaxMaxDatagram:" ++ decimal n) ≡ says.MaxDatagram n
unfolding cut_at is_word
says_max_datagram n small = ap (bound (codes "T38FaxMaxDatagram")) (number_told n small)

-- ---- a section

medium_read : (host : List ℕ) (whole done : List MediumText) (current : Option MediumText) (name digits transport formats : List ℕ) (port : ℕ)
    → kept whole current ≡ Ok done → Lacks 32 name → Lacks 32 digits → Lacks 32 transport → port_of digits ≡ Some port
    → with_line (on host whole current) (109 ∷ 61 ∷ (name ++ 32 ∷ (digits ++ 32 ∷ (transport ++ 32 ∷ formats)))) ≡ Ok (on host done (Some (bare (Some host) SendReceive name port transport formats)))
medium_read host whole done current name digits transport formats port e p q r is =
    let text : List ℕ = name ++ 32 ∷ (digits ++ 32 ∷ (transport ++ 32 ∷ formats)) in
    let before : Reading = on host whole current in
    line_m before text ∙ ap (with_medium before) (medium_told (Some host) SendReceive name digits transport formats port p q r is)
    ∙ medium_begun before (bare (Some host) SendReceive name port transport formats) done e

fax_read : (host : List ℕ) (whole done : List MediumText) (current : Option MediumText) (fax : FaxSection) (rest : List (List ℕ))
    → kept whole current ≡ Ok done → FitsLines (Fax fax) → read_on (on host whole current) (fax_lines fax ++ rest) ≡ read_on (on host done (Some (told_medium host (Fax fax)))) rest
fax_read host whole done current fax rest e fits =
    let m0 : MediumText = bare (Some host) SendReceive (codes "image") fax.port (codes "udptl") (codes "t38") in
    let m1 : MediumText = after m0 (says.Version 0) in
    let m2 : MediumText = after m1 (says.BitRate 14400) in
    let m3 : MediumText = after m2 (says.Management Transferred) in
    let m4 : MediumText = after m3 (says.MaxBuffer fax.max_buffer) in
    let m5 : MediumText = after m4 (says.MaxDatagram fax.max_datagram) in
    let m6 : MediumText = after m5 (says.Correction Redundancy) in
    let l6 : List (List ℕ) = codes "a=T38FaxUdpEC:t38UDPRedundancy" ∷ rest in
    let l5 : List (List ℕ) = (codes "a=T38FaxMaxDatagram:" ++ decimal fax.max_datagram) ∷ l6 in
    let l4 : List (List ℕ) = (codes "a=T38FaxMaxBuffer:" ++ decimal fax.max_buffer) ∷ l5 in
    let l3 : List (List ℕ) = codes "a=T38FaxRateManagement:transferredTCF" ∷ l4 in
    let l2 : List (List ℕ) = codes "a=T38MaxBitRate:14400" ∷ l3 in
    let l1 : List (List ℕ) = codes "a=T38FaxVersion:0" ∷ l2 in
    read_step (on host whole current) (on host done (Some m0)) _ l1 (medium_read host whole done current (codes "image") (decimal fax.port) (codes "udptl") (codes "t38") fax.port e (Lacks-by_test 32 (codes "image") refl) (Lacks-decimal 32 fax.port (omega (arith, fits.0)) (λ r. omega (arith, r.0, r.1))) (Lacks-by_test 32 (codes "udptl") refl) (port_of_decimal fax.port fits.0))
    ∙ read_step (on host done (Some m0)) (on host done (Some m1)) _ l2 (attribute_read host done m0 (codes "T38FaxVersion:0") (says.Version 0) says_version)
    ∙ read_step (on host done (Some m1)) (on host done (Some m2)) _ l3 (attribute_read host done m1 (codes "T38MaxBitRate:14400") (says.BitRate 14400) says_bit_rate)
    ∙ read_step (on host done (Some m2)) (on host done (Some m3)) _ l4 (attribute_read host done m2 (codes "T38FaxRateManagement:transferredTCF") (says.Management Transferred) says_management)
    ∙ read_step (on host done (Some m3)) (on host done (Some m4)) _ l5 (attribute_read host done m3 (codes "T38FaxMaxBuffer:" ++ decimal fax.max_buffer) (says.MaxBuffer fax.max_buffer) (says_max_buffer fax.max_buffer fits.1))
    ∙ read_step (on host done (Some m4)) (on host done (Some m5)) _ l6 (attribute_read host done m4 (codes "T38FaxMaxDatagram:" ++ decimal fax.max_datagram) (says.MaxDatagram fax.max_datagram) (says_max_datagram fax.max_datagram fits.2))
    ∙ read_step (on host done (Some m5)) (on host done (Some m6)) _ rest (attribute_read host done m5 (codes "T38FaxUdpEC:t38UDPRedundancy") (says.Correction Redundancy) says_correction)

format_read : (host : List ℕ) (done : List MediumText) (medium : MediumText) (formats : AudioFormats) (rest : List (List ℕ))
    → read_on (on host done (Some medium)) (format_lines formats ++ rest) ≡ read_on (on host done (Some medium)) rest
format_read host done medium Pcmu rest = read_step (on host done (Some medium)) (on host done (Some medium)) _ rest (attribute_read host done medium (codes "rtpmap:0 PCMU/8000") says.Other says_pcmu)
format_read host done medium Pcma rest = read_step (on host done (Some medium)) (on host done (Some medium)) _ rest (attribute_read host done medium (codes "rtpmap:8 PCMA/8000") says.Other says_pcma)
format_read host done medium Both rest =
    read_step (on host done (Some medium)) (on host done (Some medium)) _ (codes "a=rtpmap:8 PCMA/8000" ∷ rest) (attribute_read host done medium (codes "rtpmap:0 PCMU/8000") says.Other says_pcmu)
    ∙ read_step (on host done (Some medium)) (on host done (Some medium)) _ rest (attribute_read host done medium (codes "rtpmap:8 PCMA/8000") says.Other says_pcma)

audio_read : (host : List ℕ) (whole done : List MediumText) (current : Option MediumText) (audio : AudioSection) (rest : List (List ℕ))
    → kept whole current ≡ Ok done → FitsLines (Audio audio) → read_on (on host whole current) (audio_lines audio ++ rest) ≡ read_on (on host done (Some (told_medium host (Audio audio)))) rest
audio_read host whole done current audio rest e fits =
    let medium : MediumText = told_medium host (Audio audio) in
    read_step (on host whole current) (on host done (Some medium)) _ (format_lines audio.formats ++ rest) (medium_read host whole done current (codes "audio") (decimal audio.port) (codes "RTP/AVP") (numbers_of audio.formats) audio.port e (Lacks-by_test 32 (codes "audio") refl) (Lacks-decimal 32 audio.port (omega (arith, fits)) (λ r. omega (arith, r.0, r.1))) (Lacks-by_test 32 (codes "RTP/AVP") refl) (port_of_decimal audio.port fits))
    ∙ format_read host done medium audio.formats rest

refused_read : (host : List ℕ) (whole done : List MediumText) (current : Option MediumText) (medium : Medium) (rest : List (List ℕ))
    → kept whole current ≡ Ok done → FitsLines (Refused medium) → read_on (on host whole current) (refused_lines medium ++ rest) ≡ read_on (on host done (Some (told_medium host (Refused medium)))) rest
refused_read host whole done current medium rest e fits =
    read_step (on host whole current) (on host done (Some (told_medium host (Refused medium)))) _ rest (medium_read host whole done current medium.name.now (decimal 0) medium.transport.now medium.formats.now 0 e (λ i h. fits.0.1 i 0 h) (Lacks-decimal 32 0 (omega arith) (λ r. omega (arith, r.0, r.1))) (λ i h. fits.1.1 i 0 h) (port_of_decimal 0 (omega arith)))

section_read : (host : List ℕ) (whole done : List MediumText) (current : Option MediumText) (section : Section) (rest : List (List ℕ))
    → kept whole current ≡ Ok done → FitsLines section → read_on (on host whole current) (section_lines section ++ rest) ≡ read_on (on host done (Some (told_medium host section))) rest
section_read host whole done current (Fax fax) rest e fits = fax_read host whole done current fax rest e fits
section_read host whole done current (Audio audio) rest e fits = audio_read host whole done current audio rest e fits
section_read host whole done current (Refused medium) rest e fits = refused_read host whole done current medium rest e fits

-- ---- all sections

kept_more : (b : Bool) (done : List MediumText) (medium : MediumText) → b ≡ true → cond b (Ok (done ++ medium ∷ [])) (Err TooManyMedia) ≡ Ok (done ++ medium ∷ [])
kept_more true done medium e = refl
kept_more false done medium e = cc

sections_read : (sections : List Section) (host : List ℕ) (whole done : List MediumText) (current : Option MediumText)
    → kept whole current ≡ Ok done → AllByRecursion FitsLines sections → length done + length sections ≤ 8
    → (read_on (on host whole current) (flat_map section_lines sections) >>= (λ reading. kept reading.whole reading.current)) ≡ Ok (done ++ map (told_medium host) sections)
unfolding read_on
sections_read [] host whole done current e fits few = e ∙ ap Ok (sym (append-nil done))
sections_read (section ∷ sections) host whole done current e fits few =
    let told : MediumText = told_medium host section in
    let more : List MediumText = done ++ told ∷ [] in
    let room : length done < 8 = omega arith in
    let kept_told : kept done (Some told) ≡ Ok more = kept_more (nat_lt (length done) 8) done told ((Decides-ltb (length done) 8).1 room) in
    ap (λ (read : Result Reading SdpFault). read >>= (λ reading. kept reading.whole reading.current)) (section_read host whole done current section (flat_map section_lines sections) e fits.0)
    ∙ sections_read sections host done more (Some told) kept_told fits.1 (omega (arith, length-append done (told ∷ [])))
    ∙ ap Ok (append_assoc done (told ∷ []) (map (told_medium host) sections))

-- ---- the lines before the media

host_said : (host : IpAddr) (text : List ℕ) → Lacks 47 text → with_line nothing_said (spaced (codes "c=IN" ∷ address_kind host ∷ text ∷ [])) ≡ Ok (on text [] None)
unfolding cut_at is_word
host_said (V4 ip) text none = ap (λ cut. Ok (on (before_slash text cut) [] None)) (cut_at_none 47 text none)
host_said (V6 ip) text none = ap (λ cut. Ok (on (before_slash text cut) [] None)) (cut_at_none 47 text none)

line_o : (reading : Reading) (text : List ℕ) → with_line reading (111 ∷ 61 ∷ text) ≡ Ok reading
unfolding cut_at
line_o reading text = refl

line_s : (reading : Reading) (text : List ℕ) → with_line reading (115 ∷ 61 ∷ text) ≡ Ok reading
unfolding cut_at
line_s reading text = refl

line_t : (reading : Reading) (text : List ℕ) → with_line reading (116 ∷ 61 ∷ text) ≡ Ok reading
unfolding cut_at
line_t reading text = refl

described_told : (origin : Origin) (sections : List Section) → CanBeTold origin sections → Lacks 47 (ip_text origin.host) → described (description_lines origin sections) ≡ Ok (told_media origin sections)
described_told origin sections can none =
    let host : List ℕ = ip_text origin.host in
    let rest : List (List ℕ) = flat_map section_lines sections in
    let connection : List ℕ = spaced (codes "c=IN" ∷ address_kind origin.host ∷ host ∷ []) in
    let l3 : List (List ℕ) = codes "t=0 0" ∷ rest in
    let l2 : List (List ℕ) = connection ∷ l3 in
    let l1 : List (List ℕ) = codes "s=-" ∷ l2 in
    let whose : List ℕ = spaced (codes "-" ∷ decimal origin.session ∷ decimal origin.version ∷ codes "IN" ∷ address_kind origin.host ∷ host ∷ []) in
    let read : read_on nothing_said ((111 ∷ 61 ∷ whose) ∷ l1) ≡ read_on (on host [] None) rest =
    read_step nothing_said nothing_said (111 ∷ 61 ∷ whose) l1 (line_o nothing_said whose)
    ∙ read_step nothing_said nothing_said (codes "s=-") l2 (line_s nothing_said (codes "-"))
    ∙ read_step nothing_said (on host [] None) connection l3 (host_said origin.host host none)
    ∙ read_step (on host [] None) (on host [] None) (codes "t=0 0") rest (line_t (on host [] None) (codes "0 0")) in
    ap (λ (read : Result Reading SdpFault). read >>= (λ reading. kept reading.whole reading.current)) read
    ∙ sections_read sections host [] [] None refl can.each (omega (arith, can.few))

-- ---- what stands in one line

record InLine (text : List ℕ) : Type 0 where
  lacks : Lacks 10 text

both : {xs ys : List ℕ} → InLine xs → InLine ys → InLine (xs ++ ys)
both {xs} {ys} p q = record { lacks = Lacks-append 10 xs ys p.lacks q.lacks }

literal : (xs : List ℕ) → lacks 10 xs ≡ true → InLine xs
literal xs e = record { lacks = Lacks-by_test 10 xs e }

digits_in_line : (n : ℕ) → n < 2 ^ 64 → InLine (decimal n)
digits_in_line n small = record { lacks = Lacks-decimal 10 n small (λ r. omega (arith, r.0, r.1)) }

given_in_line : (text : List ℕ) → IsInLine text → InLine text
given_in_line text whole = record { lacks = λ i h. whole i 0 h }

kind_in_line : (host : IpAddr) → InLine (address_kind host)
kind_in_line (V4 ip) = literal (codes "IP4") refl
kind_in_line (V6 ip) = literal (codes "IP6") refl

session_in_line : (origin : Origin) → origin.session < 2 ^ 64 → origin.version < 2 ^ 64 → InLine (ip_text origin.host) → AllByRecursion (Lacks 10) (session_lines origin)
session_in_line origin session version host =
    let space : InLine (32 ∷ []) = literal (32 ∷ []) refl in
    let at : InLine (address_kind origin.host ++ (32 ∷ ip_text origin.host)) = both (kind_in_line origin.host) (both space host) in
    let whose : InLine (origin_line origin) =
    both (literal (codes "o=- ") refl) (both (digits_in_line origin.session session) (both space (both (digits_in_line origin.version version) (both (literal (codes " IN ") refl) at)))) in
    let heard : InLine (connection_line origin.host) = both (literal (codes "c=IN ") refl) at in
    (Lacks-by_test 10 (codes "v=0") refl, (whose.lacks, (Lacks-by_test 10 (codes "s=-") refl, (heard.lacks, (Lacks-by_test 10 (codes "t=0 0") refl, tt)))))

fax_in_line : (fax : FaxSection) → FitsLines (Fax fax) → AllByRecursion (Lacks 10) (fax_lines fax)
fax_in_line fax fits =
    let first : InLine (medium_line (codes "image") fax.port (codes "udptl") (codes "t38")) =
    both (literal (codes "m=image ") refl) (both (digits_in_line fax.port (omega (arith, fits.0))) (literal (codes " udptl t38") refl)) in
    let buffer : InLine (codes "a=T38FaxMaxBuffer:" ++ decimal fax.max_buffer) = both (literal (codes "a=T38FaxMaxBuffer:") refl) (digits_in_line fax.max_buffer (omega (arith, fits.1))) in
    let datagram : InLine (codes "a=T38FaxMaxDatagram:" ++ decimal fax.max_datagram) = both (literal (codes "a=T38FaxMaxDatagram:") refl) (digits_in_line fax.max_datagram (omega (arith, fits.2))) in
    let correction = Lacks-by_test 10 (codes "a=T38FaxUdpEC:t38UDPRedundancy") refl in
    let management = Lacks-by_test 10 (codes "a=T38FaxRateManagement:transferredTCF") refl in
    let rate = Lacks-by_test 10 (codes "a=T38MaxBitRate:14400") refl in
    let version = Lacks-by_test 10 (codes "a=T38FaxVersion:0") refl in
    (first.lacks, (version, (rate, (management, (buffer.lacks, (datagram.lacks, (correction, tt)))))))

numbers_in_line : (formats : AudioFormats) → InLine (numbers_of formats)
numbers_in_line Pcmu = literal (codes "0") refl
numbers_in_line Pcma = literal (codes "8") refl
numbers_in_line Both = literal (codes "0 8") refl

formats_in_line : (formats : AudioFormats) → AllByRecursion (Lacks 10) (format_lines formats)
formats_in_line Pcmu = (Lacks-by_test 10 (codes "a=rtpmap:0 PCMU/8000") refl, tt)
formats_in_line Pcma = (Lacks-by_test 10 (codes "a=rtpmap:8 PCMA/8000") refl, tt)
formats_in_line Both = (Lacks-by_test 10 (codes "a=rtpmap:0 PCMU/8000") refl, (Lacks-by_test 10 (codes "a=rtpmap:8 PCMA/8000") refl, tt))

audio_in_line : (audio : AudioSection) → FitsLines (Audio audio) → AllByRecursion (Lacks 10) (audio_lines audio)
audio_in_line audio fits =
    let first : InLine (medium_line (codes "audio") audio.port (codes "RTP/AVP") (numbers_of audio.formats)) =
    both (literal (codes "m=audio ") refl) (both (digits_in_line audio.port (omega (arith, fits))) (both (literal (codes " RTP/AVP ") refl) (numbers_in_line audio.formats))) in
    (first.lacks, formats_in_line audio.formats)

refused_in_line : (medium : Medium) → FitsLines (Refused medium) → AllByRecursion (Lacks 10) (refused_lines medium)
refused_in_line medium fits =
    let space : InLine (32 ∷ []) = literal (32 ∷ []) refl in
    let line : InLine (medium_line medium.name.now 0 medium.transport.now medium.formats.now) =
    both (both (literal (codes "m=") refl) (given_in_line medium.name.now fits.0.0))
    (both space (both (digits_in_line 0 (omega arith)) (both space (both (given_in_line medium.transport.now fits.1.0) (both space (given_in_line medium.formats.now fits.2)))))) in
    (line.lacks, tt)

section_in_line : (section : Section) → FitsLines section → AllByRecursion (Lacks 10) (section_lines section)
section_in_line (Fax fax) fits = fax_in_line fax fits
section_in_line (Audio audio) fits = audio_in_line audio fits
section_in_line (Refused medium) fits = refused_in_line medium fits

lines_append : (lines others : List (List ℕ)) → AllByRecursion (Lacks 10) lines → AllByRecursion (Lacks 10) others → AllByRecursion (Lacks 10) (lines ++ others)
lines_append [] others p q = q
lines_append (line ∷ lines) others p q = (p.0, lines_append lines others p.1 q)

sections_in_line : (sections : List Section) → AllByRecursion FitsLines sections → AllByRecursion (Lacks 10) (flat_map section_lines sections)
sections_in_line [] fits = tt
sections_in_line (section ∷ sections) fits = lines_append (section_lines section) (flat_map section_lines sections) (section_in_line section fits.0) (sections_in_line sections fits.1)

-- ---- the text of an address

-- no slash, nor the end of a line
abbrev IsHostOctet : ℕ → Type 0
IsHostOctet c = (46 ≤ c) × (c ≢ 47)

octets_small : (segments : List ℕ) → ((k : ℕ) → get_or segments k 0 < 2 ^ 16) → (k : ℕ) → get_or (octets_of segments) k 0 < 2 ^ 8
octets_small [] small k = omega arith
octets_small (s ∷ segments) small zero = omega (arith, small 0)
octets_small (s ∷ segments) small (suc zero) = omega arith
octets_small (s ∷ segments) small (suc (suc k)) = octets_small segments (λ j. small (suc j)) k

dotted_octet : (c : ℕ) → IsDigitOrDot c → IsHostOctet c
dotted_octet c is = elim is [ inl r ↦ (omega (arith, r.0), λ e. omega (arith, r.0, e)) | inr e ↦ (omega (arith, e), λ f. omega (arith, e, f)) ]

hex_octet : (c : ℕ) → IsHexOrColon c → IsHostOctet c
hex_octet c is = elim is [ inl r ↦ (omega (arith, r.0), λ e. omega (arith, r.0, e)) | inr r ↦ (omega (arith, r.0), λ e. omega (arith, r.0, e)) ]

dotted_octets : (octets : List ℕ) → ((k : ℕ) → get_or octets k 0 < 2 ^ 8) → All IsHostOctet (ipv4_text octets)
dotted_octets octets small = All-weaker IsDigitOrDot IsHostOctet dotted_octet (ipv4_text octets) (All-ipv4_text octets small)

prefix_octet : (c : ℕ) (text : List ℕ) → 48 ≤ c → All IsHostOctet text → All IsHostOctet (c ∷ text)
prefix_octet c text high all = All-cons IsHostOctet c text (omega arith, λ e. omega (arith, e)) all

mapped_octets : (text : List ℕ) → All IsHostOctet text → All IsHostOctet (codes "::ffff:" ++ text)
mapped_octets text all =
    prefix_octet 58 (codes ":ffff:" ++ text) (omega arith) (prefix_octet 58 (codes "ffff:" ++ text) (omega arith) (prefix_octet 102 (codes "fff:" ++ text) (omega arith)
    (prefix_octet 102 (codes "ff:" ++ text) (omega arith) (prefix_octet 102 (codes "f:" ++ text) (omega arith) (prefix_octet 102 (codes ":" ++ text) (omega arith) (prefix_octet 58 text (omega arith) all))))))

either_octets : (b : Bool) (xs ys : List ℕ) → All IsHostOctet xs → All IsHostOctet ys → All IsHostOctet (cond b xs ys)
either_octets true xs ys p q = p
either_octets false xs ys p q = q

ipv6_octets : (segments : List ℕ) → ((k : ℕ) → get_or segments k 0 < 2 ^ 16) → All IsHostOctet (ipv6_text segments)
unfolding ipv6_text
ipv6_octets segments small =
    either_octets _ (codes "::ffff:" ++ ipv4_text (octets_of (drop 6 segments))) (hex_groups_text segments)
    (mapped_octets _ (dotted_octets (octets_of (drop 6 segments)) (octets_small (drop 6 segments) (AllSegments-drop 6 segments small))))
    (All-weaker IsHexOrColon IsHostOctet hex_octet (hex_groups_text segments) (All-hex_groups_text segments small))

host_octets : (host : IpAddr) → MatchIp host IsIpv4Addr IsIpv6Addr → All IsHostOctet (ip_text host)
host_octets (V4 ip) is = dotted_octets (ipv4_octets ip) is.1
host_octets (V6 ip) is = ipv6_octets (ipv6_segments ip) is.1

-- ---- the whole

pub told_is_read : (origin : Origin) (sections : List Section) (text : List ℕ) → IsUtf8 text → text ≡ text_of (description_lines origin sections) → CanBeTold origin sections
    → media_of text ≡ Ok (told_media origin sections)
told_is_read origin sections text utf8 is can =
    let host = host_octets origin.host can.host in
    let no_slash : Lacks 47 (ip_text origin.host) = λ i h. (host i 0 h).1 in
    let host_line : InLine (ip_text origin.host) = record { lacks = λ i h e. omega (arith, (host i 0 h).0, e) } in
    let whole = lines_append (session_lines origin) (flat_map section_lines sections) (session_in_line origin can.session can.version host_line) (sections_in_line sections can.each) in
    let fits : length text ≤ 65535 = subst (λ (t : List ℕ). length t ≤ 65535) (sym is) can.short in
    media_of_text text fits utf8 ∙ ap described (ap lines_of is ∙ lines_of_text (description_lines origin sections) whole) ∙ described_told origin sections can no_slash
