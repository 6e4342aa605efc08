-- Lines that are read one after the other.
use Rattle.std.proofs.Common.{◌≡◌, ℕ, ◌<◌, ◌≤◌, Bool, true, false, cond, List, [], ◌∷◌, length, nat_lt, codes, Result, Ok, Err, refl, sym, ◌∙◌, ap, arith}
use Rattle.std.proofs.lemmas.Bool.Decides.{Decides-ltb}
use Rattle.std.proofs.lemmas.Str.{IsUtf8-from_is_utf8, is_utf8-from_IsUtf8}
use Rattle.std.specs.Str.{IsUtf8, bytes_eq, is_utf8}
use Rattle.fax_sdp.specs.declared.fault.SdpFault.{SdpFault}
use Rattle.fax_sdp.specs.declared.fault.SdpFault.TheVariants.{TooLong, NoText, NoVersion}
use Rattle.fax_sdp.specs.Sessions.{Reading, described, media_of, media_of_lines, read_on, with_line, ◌>>=◌}
use Rattle.fax_sdp.specs.Texts.{lines_of}
use Rattle.fax_sdp.proofs.TextLemmas.{lines_of_nil}

-- ---- line by line

pub read_more : (before after : Reading) (text line rest : List ℕ) → lines_of text ≡ line ∷ lines_of rest → Ok after ≡ with_line before line
    → read_on after (lines_of rest) ≡ read_on before (lines_of text)
unfolding read_on
read_more before after text line rest lines read =
    ap (λ (r : Result Reading SdpFault). r >>= (λ next. read_on next (lines_of rest))) read ∙ sym (ap (read_on before) lines)

pub read_fault : (before : Reading) (fault : SdpFault) (text line rest : List ℕ) → lines_of text ≡ line ∷ lines_of rest → Err fault ≡ with_line before line
    → Err fault ≡ read_on before (lines_of text)
unfolding read_on
read_fault before fault text line rest lines read =
    ap (λ (r : Result Reading SdpFault). r >>= (λ next. read_on next (lines_of rest))) read ∙ sym (ap (read_on before) lines)

pub read_end : (before : Reading) (text : List ℕ) → text ≡ [] → Ok before ≡ read_on before (lines_of text)
unfolding read_on
read_end before text is = sym (ap (λ t. read_on before (lines_of t)) is ∙ ap (read_on before) lines_of_nil)

-- ---- the first line

pub described_nil : (text : List ℕ) → text ≡ [] → described (lines_of text) ≡ Err NoVersion
described_nil text is = ap (λ t. described (lines_of t)) is ∙ ap described lines_of_nil

pub described_lines : (text line rest : List ℕ) → lines_of text ≡ line ∷ lines_of rest → bytes_eq line (codes "v=0") ≡ true → described (lines_of text) ≡ media_of_lines (lines_of rest)
described_lines text line rest lines is =
    ap described lines ∙ ap (λ (b : Bool). cond b (media_of_lines (lines_of rest)) (Err NoVersion)) is

pub described_other : (text line rest : List ℕ) → lines_of text ≡ line ∷ lines_of rest → bytes_eq line (codes "v=0") ≡ false → described (lines_of text) ≡ Err NoVersion
described_other text line rest lines other =
    ap described lines ∙ ap (λ (b : Bool). cond b (media_of_lines (lines_of rest)) (Err NoVersion)) other

-- ---- octets

untrue : (b : Bool) → (b ≡ true → ⊥) → b ≡ false
untrue true none = absurd (none refl)
untrue false none = refl

pub media_too_long : (octets : List ℕ) → 65535 < length octets → media_of octets ≡ Err TooLong
media_too_long octets long =
    ap (λ (b : Bool). cond b (Err TooLong) (cond (is_utf8 octets) (described (lines_of octets)) (Err NoText))) ((Decides-ltb 65535 (length octets)).1 long)

fitting : (octets : List ℕ) → length octets ≤ 65535 → media_of octets ≡ cond (is_utf8 octets) (described (lines_of octets)) (Err NoText)
fitting octets short =
    let fits : nat_lt 65535 (length octets) ≡ false = untrue (nat_lt 65535 (length octets)) (λ e. let long = (Decides-ltb 65535 (length octets)).0 e in absurd (omega arith)) in
    ap (λ (b : Bool). cond b (Err TooLong) (cond (is_utf8 octets) (described (lines_of octets)) (Err NoText))) fits

pub media_of_text : (octets : List ℕ) → length octets ≤ 65535 → IsUtf8 octets → media_of octets ≡ described (lines_of octets)
media_of_text octets short text =
    fitting octets short ∙ ap (λ (b : Bool). cond b (described (lines_of octets)) (Err NoText)) (is_utf8-from_IsUtf8 octets text)

pub media_of_no_text : (octets : List ℕ) → length octets ≤ 65535 → (IsUtf8 octets → ⊥) → media_of octets ≡ Err NoText
media_of_no_text octets short none =
    let other : is_utf8 octets ≡ false = untrue (is_utf8 octets) (λ e. none (IsUtf8-from_is_utf8 octets e)) in
    fitting octets short ∙ ap (λ (b : Bool). cond b (described (lines_of octets)) (Err NoText)) other
