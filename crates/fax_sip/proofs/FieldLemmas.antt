-- Header lines, one by one.
use Rattle.std.proofs.Common.{◌≡◌, ℕ, ◌<◌, Bool, true, false, ◌&&◌, List, [], ◌∷◌, length, nat_eq, None, Some, refl, sym, ◌∙◌, ap, arith}
use Rattle.std.proofs.lemmas.Bool.Decides.{Decides-ltb, nat_tests}
use Rattle.std.specs.List.{cons_option, list_all}
use Rattle.fax_sip.specs.declared.name.Name.{Name}
use Rattle.fax_sip.specs.Fields.{is_field, is_token, is_token_octet, value_of, values_of}
use Rattle.fax_sip.specs.Texts.{lines_of}

-- a line that has a value of the name, and one that has none
pub values_here : (name : Name) (text line rest value : List ℕ) → lines_of text ≡ line ∷ lines_of rest → Some value ≡ value_of name line → values_of name (lines_of text) ≡ value ∷ values_of name (lines_of rest)
values_here name text line rest value lines e = ap (values_of name) lines ∙ ap (λ found. cons_option found (values_of name (lines_of rest))) (sym e)

pub values_passed : (name : Name) (text line rest : List ℕ) → lines_of text ≡ line ∷ lines_of rest → None ≡ value_of name line → values_of name (lines_of rest) ≡ values_of name (lines_of text)
values_passed name text line rest lines e = sym (ap (values_of name) lines ∙ ap (λ found. cons_option found (values_of name (lines_of rest))) (sym e))

pub values_end : (name : Name) (text : List ℕ) → text ≡ [] → values_of name (lines_of text) ≡ []
unfolding lines_of
values_end name text is = ap (λ t. values_of name (lines_of t)) is

-- all lines are header lines
pub fields_more : (text line rest : List ℕ) → lines_of text ≡ line ∷ lines_of rest → list_all is_field (lines_of text) ≡ (is_field line && list_all is_field (lines_of rest))
fields_more text line rest lines = ap (list_all is_field) lines

pub fields_end : (text : List ℕ) → text ≡ [] → list_all is_field (lines_of text) ≡ true
unfolding lines_of
fields_end text is = ap (λ t. list_all is_field (lines_of t)) is

-- a token, and an empty text, which is none
pub token_some : (word : List ℕ) → 0 < length word → is_token word ≡ list_all is_token_octet word
unfolding is_token
token_some word some = ap (λ (b : Bool). b && list_all is_token_octet word) ((Decides-ltb 0 (length word)).1 some)

pub token_none : (word : List ℕ) (r : Bool) → r ≡ nat_eq (length word) 0 → r ≡ true → is_token word ≡ false
unfolding is_token
token_none [] r e f = refl
token_none (x ∷ word) r e f = let none : length (x ∷ word) ≡ 0 = grind (arith, nat_tests) in absurd (omega arith)
