-- The tag of a call, where it has one that is text.
use Rattle.std.proofs.Common.{◌≡◌, ◌∙◌, ℕ, ◌==◌, Bool, true, false, not, ◌&&◌, nat_eq, if◌then◌else◌, List, [], ◌∷◌, ◌++◌, length, append-nil, Result, Ok, Err, OnOk, refl, sym, ap}
use Rattle.std.specs.Str.{IsUtf8, is_utf8}
use Rattle.std.proofs.lemmas.Str.{IsUtf8-from_is_utf8, is_utf8-from_IsUtf8}
use Rattle.fax_spool.specs.RecordOctets as spool
use Rattle.fax_queue.specs.Queues.{TagValue}
use Rattle.fax_queue.specs.Restorations.{own_tag}

pub text_so : (tag text : List ℕ) → text ≡ tag → IsUtf8 tag → (length text == 0) ≡ false → (is_utf8 tag && not (nat_eq (length tag) 0)) ≡ true
text_so tag text same is some =
    ap (λ (b : Bool). b && not (nat_eq (length tag) 0)) (is_utf8-from_IsUtf8 tag is) ∙ ap not (sym (ap (λ (l : List ℕ). nat_eq (length l) 0) same) ∙ some)

off : (b : Bool) → (b && false) ≡ false
off true = refl
off false = refl

pub empty_so : (tag text : List ℕ) → text ≡ tag → (length text == 0) ≡ true → (is_utf8 tag && not (nat_eq (length tag) 0)) ≡ false
empty_so tag text same none =
    ap (λ (b : Bool). is_utf8 tag && not b) (sym (ap (λ (l : List ℕ). nat_eq (length l) 0) same) ∙ none) ∙ off (is_utf8 tag)

none_so : (tag : List ℕ) (b : Bool) → is_utf8 tag ≡ b → (IsUtf8 tag → ⊥) → b ≡ false
none_so tag true is none = absurd (none (IsUtf8-from_is_utf8 tag is))
none_so tag false is none = refl

pub no_text : (tag : List ℕ) → (IsUtf8 tag → ⊥) → (is_utf8 tag && not (nat_eq (length tag) 0)) ≡ false
no_text tag none = ap (λ (b : Bool). b && not (nat_eq (length tag) 0)) (none_so tag (is_utf8 tag) refl none)

pub no_tag_more : (page : spool.PageValue) (tags : List TagValue) → (is_utf8 page.tag && not (nat_eq (length page.tag) 0)) ≡ false → tags ≡ tags ++ own_tag page
no_tag_more page tags none =
    sym (ap (λ (b : Bool). tags ++ (if b then record { life = page.life; call = page.call; tag = page.tag } ∷ [] else [])) none ∙ append-nil tags)

one_tag_more : (page : spool.PageValue) (olds news : List TagValue) (tag : List ℕ) → (is_utf8 page.tag && not (nat_eq (length page.tag) 0)) ≡ true → tag ≡ page.tag
    → news ≡ olds ++ record { life = page.life; call = page.call; tag = tag } ∷ [] → news ≡ olds ++ own_tag page
one_tag_more page olds news tag some same more =
    more ∙ ap (λ (l : List ℕ). olds ++ record { life = page.life; call = page.call; tag = l } ∷ []) same
    ∙ sym (ap (λ (b : Bool). olds ++ (if b then record { life = page.life; call = page.call; tag = page.tag } ∷ [] else [])) some)

pub tag_more : {E : Type 0} (answer : Result (Unit {0}) E) (page : spool.PageValue) (olds news : List TagValue) (tag : List ℕ) → (is_utf8 page.tag && not (nat_eq (length page.tag) 0)) ≡ true → tag ≡ page.tag
    → OnOk answer (news ≡ olds ++ record { life = page.life; call = page.call; tag = tag } ∷ []) → OnOk answer (news ≡ olds ++ own_tag page)
tag_more (Ok u) page olds news tag some same more = one_tag_more page olds news tag some same more
tag_more (Err e) page olds news tag some same more = tt
