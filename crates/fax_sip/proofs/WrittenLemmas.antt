-- What is written is read back, line by line.
use Rattle.std.proofs.Common.{◌≡◌, ℕ, suc, ◌+◌, ◌++◌, Bool, true, false, not, cond, List, [], ◌∷◌, Some, drop, nat_eq, refl, ◌∙◌, ap, arith, append_assoc}
use Rattle.std.proofs.lemmas.Bool.{and_parts}
use Rattle.std.proofs.lemmas.Bool.Decides.{nat_tests}
use Rattle.std.specs.Char.{is_ascii_whitespace}
use Rattle.std.specs.List.{cons_option, onto_first, prefix_len}
use Rattle.fax_sip.specs.declared.name.Name.{Name}
use Rattle.fax_sip.specs.declared.name.Name.TheVariants as names
use Rattle.fax_sip.specs.Fields.{value_of, values_of}
use Rattle.fax_sip.specs.Laws.{HeadersAreReadBack, LinesAreCut}
use Rattle.fax_sip.specs.Names.{long}
use Rattle.fax_sip.specs.Permitted.{is_text, is_text_octet}
use Rattle.fax_sip.specs.Texts.{ends_line, goes_on, is_word, lines_of, place_of, to_word, trimmed}

-- an octet of a text is no CR
no_return : (a : ℕ) → is_text_octet a ≡ true → nat_eq 13 a ≡ false
no_return a e = grind (arith, nat_tests)

-- a text that begins with another octet than CR ends no line there
no_end : (a : ℕ) (text : List ℕ) → nat_eq 13 a ≡ false → ends_line (a ∷ text) ≡ false
no_end a text e = rw e refl

-- one more octet in front of a line
line_more : (a b : ℕ) (text : List ℕ) (line : List ℕ) (lines : List (List ℕ)) → nat_eq 13 a ≡ false → lines_of (b ∷ text) ≡ line ∷ lines
    → lines_of (a ∷ b ∷ text) ≡ (a ∷ line) ∷ lines
unfolding lines_of
line_more a b text line lines other e =
    ap (λ (c : Bool). cond c ([] ∷ lines_of text) (onto_first a (lines_of (b ∷ text)))) (no_end a (b ∷ text) other) ∙ ap (onto_first a) e

line_none : (rest : List ℕ) → goes_on rest ≡ false → lines_of (13 ∷ 10 ∷ rest) ≡ [] ∷ lines_of rest
unfolding lines_of
line_none rest e = ap (λ (c : Bool). cond (not c) ([] ∷ lines_of rest) (onto_first 13 (lines_of (10 ∷ rest)))) e

pub lines_are_cut : LinesAreCut
lines_are_cut [] rest texts on = line_none rest on
lines_are_cut (a ∷ []) rest texts on =
    let parts = and_parts (is_text_octet a) (is_text []) texts in line_more a 13 (10 ∷ rest) [] (lines_of rest) (no_return a parts.0) (line_none rest on)
lines_are_cut (a ∷ b ∷ text) rest texts on =
    let parts = and_parts (is_text_octet a) (is_text (b ∷ text)) texts in
    line_more a b (text ++ 13 ∷ 10 ∷ rest) (b ∷ text) (lines_of rest) (no_return a parts.0) (lines_are_cut (b ∷ text) rest parts.1 on)

-- the line of a header line that is told
abbrev pub line_of : Name → List ℕ → List ℕ
line_of name value = long name ++ (58 ∷ 32 ∷ value)

line_is_text : (name : Name) (value : List ℕ) → is_text value ≡ true → is_text (line_of name value) ≡ true
line_is_text names.Via value texts = texts
line_is_text names.From value texts = texts
line_is_text names.To value texts = texts
line_is_text names.CallId value texts = texts
line_is_text names.CSeq value texts = texts
line_is_text names.Contact value texts = texts
line_is_text names.RecordRoute value texts = texts
line_is_text names.Route value texts = texts
line_is_text names.MaxForwards value texts = texts
line_is_text names.Require value texts = texts
line_is_text names.Supported value texts = texts
line_is_text names.Allow value texts = texts
line_is_text names.ContentType value texts = texts
line_is_text names.ContentLength value texts = texts
line_is_text names.ContentEncoding value texts = texts
line_is_text names.Expires value texts = texts
line_is_text names.MinExpires value texts = texts
line_is_text names.SessionExpires value texts = texts
line_is_text names.MinSe value texts = texts
line_is_text names.RetryAfter value texts = texts
line_is_text names.WwwAuthenticate value texts = texts
line_is_text names.ProxyAuthenticate value texts = texts
line_is_text names.Authorization value texts = texts
line_is_text names.ProxyAuthorization value texts = texts

-- a blank in front of a text counts for nothing
trimmed_blank : (value : List ℕ) → trimmed (32 ∷ value) ≡ trimmed value
unfolding trimmed
trimmed_blank value =
    let more : 1 + prefix_len is_ascii_whitespace value ≡ suc (prefix_len is_ascii_whitespace value) = omega arith in
    ap (λ (n : ℕ). to_word (drop n (32 ∷ value))) more

line_has_value : (name : Name) (value : List ℕ) → value_of name (line_of name value) ≡ Some (trimmed value)
unfolding value_of place_of trimmed is_word
line_has_value names.Via value = ap Some (trimmed_blank value)
line_has_value names.From value = ap Some (trimmed_blank value)
line_has_value names.To value = ap Some (trimmed_blank value)
line_has_value names.CallId value = ap Some (trimmed_blank value)
line_has_value names.CSeq value = ap Some (trimmed_blank value)
line_has_value names.Contact value = ap Some (trimmed_blank value)
line_has_value names.RecordRoute value = ap Some (trimmed_blank value)
line_has_value names.Route value = ap Some (trimmed_blank value)
line_has_value names.MaxForwards value = ap Some (trimmed_blank value)
line_has_value names.Require value = ap Some (trimmed_blank value)
line_has_value names.Supported value = ap Some (trimmed_blank value)
line_has_value names.Allow value = ap Some (trimmed_blank value)
line_has_value names.ContentType value = ap Some (trimmed_blank value)
line_has_value names.ContentLength value = ap Some (trimmed_blank value)
line_has_value names.ContentEncoding value = ap Some (trimmed_blank value)
line_has_value names.Expires value = ap Some (trimmed_blank value)
line_has_value names.MinExpires value = ap Some (trimmed_blank value)
line_has_value names.SessionExpires value = ap Some (trimmed_blank value)
line_has_value names.MinSe value = ap Some (trimmed_blank value)
line_has_value names.RetryAfter value = ap Some (trimmed_blank value)
line_has_value names.WwwAuthenticate value = ap Some (trimmed_blank value)
line_has_value names.ProxyAuthenticate value = ap Some (trimmed_blank value)
line_has_value names.Authorization value = ap Some (trimmed_blank value)
line_has_value names.ProxyAuthorization value = ap Some (trimmed_blank value)

header_shape : (word value rest : List ℕ) → (word ++ (58 ∷ 32 ∷ (value ++ 13 ∷ 10 ∷ []))) ++ rest ≡ (word ++ 58 ∷ 32 ∷ value) ++ 13 ∷ 10 ∷ rest
header_shape word value rest = simp append_assoc

pub headers_are_read_back : HeadersAreReadBack
headers_are_read_back name value rest texts on =
    ap (λ (t : List ℕ). values_of name (lines_of t)) (header_shape (long name) value rest)
    ∙ ap (values_of name) (lines_are_cut (line_of name value) rest (line_is_text name value texts) on)
    ∙ ap (λ found. cons_option found (values_of name (lines_of rest))) (line_has_value name value)
