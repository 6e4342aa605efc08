-- Texts in a page are only text.
use Rattle.std.proofs.Common.{◌≡◌, ◌≢◌, ℕ, Bool, true, false, not, ◌&&◌, cond, ◌==◌, List, [], ◌∷◌, ◌++◌, All, refl, sym, subst, arith}
use Rattle.std.specs.List.{list_all}
use Rattle.std.proofs.lemmas.Bool.{and_parts, eqb-true}
use Rattle.std.proofs.lemmas.Bool.Decides.{nat_tests}
use Rattle.std.proofs.lemmas.List.Elements.{All-append, All-cons, All-nil}
use Rattle.fax_http.specs.Laws.{IsNoMarkup, IsOnlyText, IsReadAs, IsReference, TextIsOnlyText}
use Rattle.fax_http.specs.Laws.IsReadAs.{named, nothing, plain}
use Rattle.fax_http.specs.Laws.IsReference.{ampersand, apostrophe, greater, less, quote}
use Rattle.fax_http.specs.Texts.{octet_shown, text_shown}

-- what is to be shown of one octet: how it is read before more, and that it has no markup
record IsShown (octet : ℕ) (shown : List ℕ) : Type 0 where
  read : (octets text : List ℕ) → IsReadAs octets text → IsReadAs (shown ++ octets) (octet ∷ text)
  no_markup : All IsNoMarkup shown

-- no octet of these is one of markup
is_plain : ℕ → Bool
is_plain octet = not (octet == 60) && (not (octet == 62) && (not (octet == 34) && not (octet == 39)))

one : (octet : ℕ) → octet ≢ 60 → octet ≢ 62 → octet ≢ 34 → octet ≢ 39 → IsNoMarkup octet
one octet a b c d = record { less = a; greater = b; quote = c; apostrophe = d }

differs : (a b : ℕ) → (a == b) ≡ false → a ≢ b
differs a b e = grind (arith, nat_tests)

not_true : (b : Bool) → not b ≡ true → b ≡ false
not_true true e = cc
not_true false e = refl

one_plain : (octet : ℕ) → is_plain octet ≡ true → IsNoMarkup octet
unfolding is_plain
one_plain octet e =
    let a = and_parts (not (octet == 60)) (not (octet == 62) && (not (octet == 34) && not (octet == 39))) e in
    let b = and_parts (not (octet == 62)) (not (octet == 34) && not (octet == 39)) a.1 in
    let c = and_parts (not (octet == 34)) (not (octet == 39)) b.1 in
    one octet (differs octet 60 (not_true (octet == 60) a.0)) (differs octet 62 (not_true (octet == 62) b.0)) (differs octet 34 (not_true (octet == 34) c.0)) (differs octet 39 (not_true (octet == 39) c.1))

all_plain : (octets : List ℕ) → list_all is_plain octets ≡ true → All IsNoMarkup octets
all_plain [] e = All-nil IsNoMarkup
all_plain (octet ∷ octets) e =
    let parts = and_parts (is_plain octet) (list_all is_plain octets) e in All-cons IsNoMarkup octet octets (one_plain octet parts.0) (all_plain octets parts.1)

by_name : (known octet : ℕ) (name : List ℕ) → IsReference name known → list_all is_plain name ≡ true → (octet == known) ≡ true → IsShown octet name
by_name known octet name is none same =
    subst (λ (o : ℕ). IsShown o name) (sym (eqb-true octet known same))
    (let shown : IsShown known name = record { read = λ octets text r. named known name octets text is r; no_markup = all_plain name none } in shown)

octet_is : (octet : ℕ) (a b c d e : Bool) → (octet == 38) ≡ a → (octet == 60) ≡ b → (octet == 62) ≡ c → (octet == 34) ≡ d → (octet == 39) ≡ e
    → IsShown octet (cond a (38 ∷ 97 ∷ 109 ∷ 112 ∷ 59 ∷ []) (cond b (38 ∷ 108 ∷ 116 ∷ 59 ∷ []) (cond c (38 ∷ 103 ∷ 116 ∷ 59 ∷ []) (cond d (38 ∷ 113 ∷ 117 ∷ 111 ∷ 116 ∷ 59 ∷ []) (cond e (38 ∷ 35 ∷ 51 ∷ 57 ∷ 59 ∷ []) (octet ∷ []))))))
unfolding is_plain
octet_is octet true b c d e p q r s t = by_name 38 octet (38 ∷ 97 ∷ 109 ∷ 112 ∷ 59 ∷ []) ampersand refl p
octet_is octet false true c d e p q r s t = by_name 60 octet (38 ∷ 108 ∷ 116 ∷ 59 ∷ []) less refl q
octet_is octet false false true d e p q r s t = by_name 62 octet (38 ∷ 103 ∷ 116 ∷ 59 ∷ []) greater refl r
octet_is octet false false false true e p q r s t = by_name 34 octet (38 ∷ 113 ∷ 117 ∷ 111 ∷ 116 ∷ 59 ∷ []) quote refl s
octet_is octet false false false false true p q r s t = by_name 39 octet (38 ∷ 35 ∷ 51 ∷ 57 ∷ 59 ∷ []) apostrophe refl t
octet_is octet false false false false false p q r s t = record {
  read = λ octets text is. plain octet octets text (differs octet 38 p) (differs octet 60 q) is;
  no_markup = All-cons IsNoMarkup octet [] (one octet (differs octet 60 q) (differs octet 62 r) (differs octet 34 s) (differs octet 39 t)) (All-nil IsNoMarkup);
}

octet_shows : (octet : ℕ) → IsShown octet (octet_shown octet)
octet_shows octet = octet_is octet (octet == 38) (octet == 60) (octet == 62) (octet == 34) (octet == 39) refl refl refl refl refl

pub text_is_only_text : TextIsOnlyText
text_is_only_text [] = record { read = nothing; no_markup = All-nil IsNoMarkup }
text_is_only_text (octet ∷ text) =
    let first = octet_shows octet in
    let rest = text_is_only_text text in
    record {
      read = first.read (text_shown text) text rest.read;
      no_markup = All-append IsNoMarkup (octet_shown octet) (text_shown text) first.no_markup rest.no_markup;
    }
