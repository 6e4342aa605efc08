-- The tag of a call, where it has one that is text.
use Rattle.std.proofs.Common.{◌≡◌, ◌∙◌, ℕ, ◌==◌, Bool, true, false, not, ◌&&◌, nat_eq, if◌then◌else◌, List, length, Some, None, refl, sym, ap}
use Rattle.std.specs.Str.{IsUtf8, is_utf8}
use Rattle.std.proofs.lemmas.Str.{IsUtf8-from_is_utf8, is_utf8-from_IsUtf8}
use Rattle.fax_listing.specs.Lines.{tag_shown}

shows : (tag : List ℕ) (b : Bool) → (is_utf8 tag && not (nat_eq (length tag) 0)) ≡ b → (if b then Some tag else None) ≡ tag_shown tag
shows tag b is = ap (λ (t : Bool). if t then Some tag else None) (sym is)

pub text_so : (tag text : List ℕ) → text ≡ tag → IsUtf8 tag → (length text == 0) ≡ false → Some text ≡ tag_shown tag
text_so tag text same is some =
    ap (λ (l : List ℕ). Some l) same
    ∙ shows tag true (ap (λ (b : Bool). b && not (nat_eq (length tag) 0)) (is_utf8-from_IsUtf8 tag is) ∙ ap not (sym (ap (λ (l : List ℕ). nat_eq (length l) 0) same) ∙ some))

off : (b : Bool) → (b && false) ≡ false
off true = refl
off false = refl

pub empty_so : (tag text : List ℕ) → text ≡ tag → (length text == 0) ≡ true → None ≡ tag_shown tag
empty_so tag text same none =
    shows tag false (ap (λ (b : Bool). is_utf8 tag && not b) (sym (ap (λ (l : List ℕ). nat_eq (length l) 0) same) ∙ none) ∙ off (is_utf8 tag))

none_so : (tag : List ℕ) (b : Bool) → is_utf8 tag ≡ b → (IsUtf8 tag → ⊥) → b ≡ false
none_so tag true is none = absurd (none (IsUtf8-from_is_utf8 tag is))
none_so tag false is none = refl

pub no_text : (tag : List ℕ) → (IsUtf8 tag → ⊥) → None ≡ tag_shown tag
no_text tag none = shows tag false (ap (λ (b : Bool). b && not (nat_eq (length tag) 0)) (none_so tag (is_utf8 tag) refl none))
