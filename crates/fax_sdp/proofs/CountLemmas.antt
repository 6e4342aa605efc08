-- How many media a description has.
use Rattle.std.proofs.Common.{◌≡◌, ℕ, ◌+◌, Bool, true, false, cond, List, [], ◌∷◌, ◌++◌, length, map, nat_lt, codes, Option, None, Some, Result, Ok, Err, refl, sym, ◌∙◌, ap, arith, length-append, zero-add}
use Rattle.std.proofs.lemmas.List.{length-map}
use Rattle.std.specs.Result.{IfOk}
use Rattle.std.specs.Cmp.Lexicographic.{bytes_decides}
use Rattle.std.specs.Str.{bytes_eq, is_utf8}
use Rattle.fax_sdp.specs.declared.fault.SdpFault.{SdpFault}
use Rattle.fax_sdp.specs.declared.fault.SdpFault.TheVariants.{TooLong, NoText, NoVersion, TooManyMedia}
use Rattle.fax_sdp.specs.declared.attribute.Attribute.{Attribute}
use Rattle.fax_sdp.specs.declared.reading.Session.{Session}
use Rattle.fax_sdp.specs.Attributes.{attribute}
use Rattle.fax_sdp.specs.Counts.{begins_medium, is_m, media_lines}
use Rattle.fax_sdp.specs.Readers.{media_text}
use Rattle.fax_sdp.specs.Sessions.{MediumText, Reading, begun, described, host_of, hosted, kept, media_of, media_of_lines, medium_of, medium_text, nothing_said, read_on, said, seen, with_attribute, with_host, with_line, with_medium, ◌>>=◌}
use Rattle.fax_sdp.specs.Texts.{cut_at, lines_of}

one_or_none : Option MediumText → ℕ
one_or_none None = 0
one_or_none (Some medium) = 1

total : Reading → ℕ
total reading = length reading.whole + one_or_none reading.current

kept_step : (b : Bool) (whole : List MediumText) (medium : MediumText) (media : List MediumText)
    → cond b (Ok (whole ++ medium ∷ [])) (Err TooManyMedia) ≡ Ok media → length media ≡ length whole + 1
kept_step true whole medium media e =
    let same : whole ++ medium ∷ [] ≡ media = cc in
    omega (arith, ap length same, length-append whole (medium ∷ []))
kept_step false whole medium media e = cc

kept_total : (whole : List MediumText) (current : Option MediumText) (media : List MediumText) → kept whole current ≡ Ok media → length media ≡ length whole + one_or_none current
unfolding one_or_none
kept_total whole None media e =
    let same : whole ≡ media = cc in
    omega (arith, ap length same)
kept_total whole (Some medium) media e = kept_step (nat_lt (length whole) 8) whole medium media e

begun_total : (reading next : Reading) (medium : MediumText) (read : Result (List MediumText) SdpFault) → kept reading.whole reading.current ≡ read
    → begun reading medium read ≡ Ok next → total next ≡ total reading + 1
unfolding total one_or_none
begun_total reading next medium (Err fault) is e = cc
begun_total reading next medium (Ok whole) is e =
    let made : Reading = record reading { whole = whole; current = Some medium } in
    let same : made ≡ next = cc in
    let long = kept_total reading.whole reading.current whole is in
    ap total (sym same) ∙ ap (λ n. n + 1) long

medium_total : (reading next : Reading) (medium : Option MediumText) → with_medium reading medium ≡ Ok next → total next ≡ total reading + 1
medium_total reading next None e = cc
medium_total reading next (Some medium) e = begun_total reading next medium (kept reading.whole reading.current) refl e

hosted_total : (reading : Reading) (host : List ℕ) (current : Option MediumText) → reading.current ≡ current → total (hosted reading host current) ≡ total reading
unfolding total one_or_none
hosted_total reading host None is = refl
hosted_total reading host (Some medium) is = ap (λ n. length reading.whole + n) (sym (ap one_or_none is))

host_total : (reading next : Reading) (host : Option (List ℕ)) → with_host reading host ≡ Ok next → total next ≡ total reading
host_total reading next None e = cc
host_total reading next (Some host) e =
    let same : hosted reading host reading.current ≡ next = cc in
    ap total (sym same) ∙ hosted_total reading host reading.current refl

attribute_total : (reading : Reading) (told : Attribute) (current : Option MediumText) → reading.current ≡ current → total (with_attribute reading told current) ≡ total reading
unfolding total one_or_none
attribute_total reading told None is = refl
attribute_total reading told (Some medium) is = ap (λ n. length reading.whole + n) (sym (ap one_or_none is))

letter_total : (m c a : Bool) (reading next : Reading) (value : List ℕ)
    → cond m (with_medium reading (medium_of reading.host reading.direction value)) (cond c (with_host reading (host_of value)) (cond a (Ok (with_attribute reading (attribute value) reading.current)) (Ok reading))) ≡ Ok next
    → total next ≡ total reading + cond m 1 0
letter_total true c a reading next value e = medium_total reading next (medium_of reading.host reading.direction value) e
letter_total false true a reading next value e = let same = host_total reading next (host_of value) e in omega (arith, same)
letter_total false false true reading next value e =
    let same : with_attribute reading (attribute value) reading.current ≡ next = cc in
    let one : total next ≡ total reading = ap total (sym same) ∙ attribute_total reading (attribute value) reading.current refl in
    omega (arith, one)
letter_total false false false reading next value e =
    let same : reading ≡ next = cc in
    omega (arith, ap total same)

said_total : (reading next : Reading) (cut : Option (List ℕ × List ℕ)) → said reading cut ≡ Ok next → total next ≡ total reading + cond (is_m cut) 1 0
said_total reading next None e =
    let same : reading ≡ next = cc in
    omega (arith, ap total same)
said_total reading next (Some parts) e =
    letter_total (bytes_eq parts.0 (codes "m")) (bytes_eq parts.0 (codes "c")) (bytes_eq parts.0 (codes "a")) reading next parts.1 e

on_total : (reading next : Reading) (line : List ℕ) (lines : List (List ℕ)) (read : Result Reading SdpFault)
    → ((middle : Reading) → read_on middle lines ≡ Ok next → total next ≡ total middle + media_lines lines)
    → with_line reading line ≡ read → (read >>= (λ middle. read_on middle lines)) ≡ Ok next → total next ≡ total reading + media_lines (line ∷ lines)
on_total reading next line lines (Err fault) again is e = cc
on_total reading next line lines (Ok middle) again is e =
    let first = said_total reading middle (cut_at 61 line) is in
    let others = again middle e in
    omega (arith, first, others)

read_total : (lines : List (List ℕ)) (reading next : Reading) → read_on reading lines ≡ Ok next → total next ≡ total reading + media_lines lines
unfolding read_on
read_total [] reading next e =
    let same : reading ≡ next = cc in
    omega (arith, ap total same)
read_total (line ∷ lines) reading next e =
    on_total reading next line lines (with_line reading line) (λ middle again. read_total lines middle next again) refl e

lines_total : (lines : List (List ℕ)) (read : Result Reading SdpFault) (media : List MediumText) → read_on nothing_said lines ≡ read
    → (read >>= (λ reading. kept reading.whole reading.current)) ≡ Ok media → length media ≡ media_lines lines
unfolding total one_or_none
lines_total lines (Err fault) media is e = cc
lines_total lines (Ok reading) media is e =
    let counted = read_total lines nothing_said reading is in
    let long = kept_total reading.whole reading.current media e in
    omega (arith, counted, long)

version_is_no_medium : (line : List ℕ) → bytes_eq line (codes "v=0") ≡ true → begins_medium line ≡ false
unfolding cut_at
version_is_no_medium line is = ap begins_medium ((bytes_decides line (codes "v=0")).0 is)

described_step : (b : Bool) (line : List ℕ) (lines : List (List ℕ)) (media : List MediumText) → bytes_eq line (codes "v=0") ≡ b
    → cond b (media_of_lines lines) (Err NoVersion) ≡ Ok media → length media ≡ media_lines (line ∷ lines)
described_step false line lines media is e = cc
described_step true line lines media is e =
    lines_total lines (read_on nothing_said lines) media refl e
    ∙ sym (ap (λ (b : Bool). cond b 1 0 + media_lines lines) (version_is_no_medium line is) ∙ zero-add (media_lines lines))

described_total : (lines : List (List ℕ)) (media : List MediumText) → described lines ≡ Ok media → length media ≡ media_lines lines
described_total [] media e = cc
described_total (line ∷ lines) media e = described_step (bytes_eq line (codes "v=0")) line lines media refl e

octets_step : (long text : Bool) (octets : List ℕ) (media : List MediumText)
    → cond long (Err TooLong) (cond text (described (lines_of octets)) (Err NoText)) ≡ Ok media → length media ≡ media_lines (lines_of octets)
octets_step true text octets media e = cc
octets_step false false octets media e = cc
octets_step false true octets media e = described_total (lines_of octets) media e

media_counted : (octets : List ℕ) (media : List MediumText) → media_of octets ≡ Ok media → length media ≡ media_lines (lines_of octets)
media_counted octets media e = octets_step (nat_lt 65535 (length octets)) (is_utf8 octets) octets media e

-- of what was read
pub session_counted : (octets : List ℕ) (result : Result Session SdpFault) → seen media_text result ≡ media_of octets
    → IfOk result (λ session. length session.media.items ≡ media_lines (lines_of octets))
session_counted octets (Ok session) e = sym (length-map session.media.items medium_text) ∙ media_counted octets (map medium_text session.media.items) (sym e)
session_counted octets (Err fault) e = tt
