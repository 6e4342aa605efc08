-- The calls that records tell.
use Rattle.std.proofs.Common.{◌≡◌, ℕ, zero, suc, ◌+◌, ◌<◌, ◌≤◌, ◌^◌, ◌-◌, Bool, true, false, not, ◌&&◌, ◌||◌, nat_eq, nat_lt, bytes_eq, cond, List, [], ◌∷◌, ◌++◌, length, take, drop, MatchOption, Option, Some, None, slice_get, slice_index_or, refl, sym, ◌∙◌, ap, subst, arith}
use Rattle.std.specs.Prelude.{slice_set}
use Rattle.std.proofs.Math.Seq.{take-length}
use Rattle.std.specs.List.{list_any}
use Rattle.std.proofs.lemmas.Bool.Decides.{nat_tests}
use Rattle.std.proofs.lemmas.Slice.Eq.{bytes_eq-Decides}
use Rattle.fax_spool.specs.RecordOctets.{PageValue}
use Rattle.fax_spool.specs.Torn.{CallName, call_of}
use Rattle.fax_undelivered.specs.Cards.{CardValue, card_in}
use Rattle.fax_undelivered.specs.Calls.{CallValue, IsFirst, begun_by, is_named, is_of, is_page, name_of, one_more, told_by, with_card, with_number, with_page}

-- ---- places of a list

set_parts : (calls : List CallValue) (i : ℕ) (v : CallValue) → i < length calls → slice_set calls i v ≡ take i calls ++ v ∷ drop (suc i) calls
set_parts [] i v low = absurd (omega (arith, low))
set_parts (c ∷ calls) zero v low = refl
set_parts (c ∷ calls) (suc i) v low = ap (λ (l : List CallValue). c ∷ l) (set_parts calls i v (omega (arith, low)))

at_drop : (calls : List CallValue) (i : ℕ) (c : CallValue) → slice_get calls i ≡ Some c → drop i calls ≡ c ∷ drop (suc i) calls
at_drop [] i c at = cc
at_drop (d ∷ calls) zero c at = let same : d ≡ c = cc in ap (λ (x : CallValue). x ∷ calls) same
at_drop (d ∷ calls) (suc i) c at = at_drop calls i c at

drop_all : (calls : List CallValue) → drop (length calls) calls ≡ []
drop_all [] = refl
drop_all (c ∷ calls) = drop_all calls

got_none : (calls : List CallValue) → slice_get calls (length calls) ≡ None
got_none [] = refl
got_none (c ∷ calls) = got_none calls

got_last : (calls : List CallValue) (x : CallValue) → slice_get (calls ++ x ∷ []) (length calls) ≡ Some x
got_last [] x = refl
got_last (c ∷ calls) x = got_last calls x

taken_last : (calls : List CallValue) (x : CallValue) → take (length calls) (calls ++ x ∷ []) ≡ calls
taken_last [] x = refl
taken_last (c ∷ calls) x = ap (λ (l : List CallValue). c ∷ l) (taken_last calls x)

got_set : (calls : List CallValue) (i : ℕ) (v : CallValue) → i < length calls → slice_get (slice_set calls i v) i ≡ Some v
got_set [] i v low = absurd (omega (arith, low))
got_set (c ∷ calls) zero v low = refl
got_set (c ∷ calls) (suc i) v low = got_set calls i v (omega (arith, low))

taken_set : (calls : List CallValue) (i : ℕ) (v : CallValue) → i < length calls → take i (slice_set calls i v) ≡ take i calls
taken_set [] i v low = absurd (omega (arith, low))
taken_set (c ∷ calls) zero v low = refl
taken_set (c ∷ calls) (suc i) v low = ap (λ (l : List CallValue). c ∷ l) (taken_set calls i v (omega (arith, low)))

-- ---- names

and_three : (a b c : Bool) → (a && b && c) ≡ true → (a ≡ true) × (b ≡ true) × (c ≡ true)
and_three true true true is = (refl, refl, refl)
and_three true true false is = cc
and_three true false c is = cc
and_three false b c is = cc

same_number : (a b : ℕ) → nat_eq a b ≡ true → a ≡ b
same_number a b is = grind (arith, nat_tests)

-- a call that has a record has its name
pub name_of_it : (c : CallValue) (page : PageValue) → is_of c page ≡ true → name_of c ≡ call_of page
name_of_it c page is =
    let parts = and_three (nat_eq c.life page.life) (nat_eq c.call page.call) (bytes_eq c.line page.line) is in
    let life : c.life ≡ page.life = same_number c.life page.life parts.0 in
    let call : c.call ≡ page.call = same_number c.call page.call parts.1 in
    let line : c.line ≡ page.line = (bytes_eq-Decides c.line page.line).0 parts.2 in
    let name : (life call : ℕ) (line : List ℕ) → CallName = λ life call line. record { life = life; call = call; line = line } in
    ap (λ (n : ℕ). name n c.call c.line) life ∙ ap (λ (n : ℕ). name page.life n c.line) call ∙ ap (λ (l : List ℕ). name page.life page.call l) line

named_with : (number : ℕ) (c : CallValue) (b : Bool) → name_of (cond b c (one_more number c)) ≡ name_of c
named_with number c true = refl
named_with number c false = refl

carded : (o : Option CardValue) (c : CallValue) → name_of (with_card o c) ≡ name_of c
carded None c = refl
carded (Some card) c = refl

name_with : (c : CallValue) (o : Bool) (p : Bool) (page : PageValue) → name_of (cond o (with_card (card_in page.text) c) (cond p (with_number page.number c) c)) ≡ name_of c
name_with c true p page = carded (card_in page.text) c
name_with c false true page = named_with page.number c (list_any (λ n. nat_eq n page.number) c.numbers)
name_with c false false page = refl

-- and keeps it
pub name_still : (page : PageValue) (c : CallValue) → name_of (told_by page c) ≡ name_of c
name_still page c = name_with c (nat_eq page.number 0) (is_page page) page

-- ---- one record

pub heard : (page : PageValue) (c : CallValue) (rest : List CallValue) → is_of c page ≡ true → with_page page (c ∷ rest) ≡ told_by page c ∷ rest
heard page c rest so = subst (λ (b : Bool). cond b (told_by page c ∷ rest) (c ∷ with_page page rest) ≡ told_by page c ∷ rest) (sym so) refl

pub not_heard : (page : PageValue) (c : CallValue) (rest : List CallValue) → is_of c page ≡ false → with_page page (c ∷ rest) ≡ c ∷ with_page page rest
not_heard page c rest un = subst (λ (b : Bool). cond b (told_by page c ∷ rest) (c ∷ with_page page rest) ≡ c ∷ with_page page rest) (sym un) refl

or_false : (a b : Bool) → (a || b) ≡ false → (a ≡ false) × (b ≡ false)
or_false true b un = cc
or_false false b un = (refl, un)

-- the calls before the first one that it is of do not
passed : (page : PageValue) (calls : List CallValue) (i : ℕ) → list_any (is_named (call_of page)) (take i calls) ≡ false → with_page page calls ≡ take i calls ++ with_page page (drop i calls)
passed page [] zero none = refl
passed page [] (suc i) none = refl
passed page (c ∷ calls) zero none = refl
passed page (c ∷ calls) (suc i) none =
    let parts = or_false (is_of c page) (list_any (is_named (call_of page)) (take i calls)) none in
    not_heard page c calls parts.0 ∙ ap (λ (l : List CallValue). c ∷ l) (passed page calls i parts.1)

-- the call at the place hears of it
pub heard_at :
    (page : PageValue) (calls : List CallValue) (place : ℕ) (call new : CallValue) → place < length calls → slice_get calls place ≡ Some call → is_of call page ≡ true
    → list_any (is_named (call_of page)) (take place calls) ≡ false → new ≡ told_by page call → slice_set calls place new ≡ with_page page calls
heard_at page calls place call new low at so none is =
    set_parts calls place new low
    ∙ ap (λ (c : CallValue). take place calls ++ c ∷ drop (suc place) calls) is
    ∙ ap (λ (l : List CallValue). take place calls ++ l) (sym (heard page call (drop (suc place) calls) so))
    ∙ ap (λ (l : List CallValue). take place calls ++ with_page page l) (sym (at_drop calls place call at))
    ∙ sym (passed page calls place none)

-- or none does
pub heard_by_none : (page : PageValue) (calls : List CallValue) (place : ℕ) → place ≡ length calls → list_any (is_named (call_of page)) (take place calls) ≡ false
    → with_page page calls ≡ calls ++ with_page page []
heard_by_none page calls place same none =
    passed page calls place none
    ∙ ap (λ (n : ℕ). take n calls ++ with_page page (drop n calls)) same
    ∙ ap (λ (l : List CallValue). l ++ with_page page (drop (length calls) calls)) (take-length calls)
    ∙ ap (λ (l : List CallValue). calls ++ with_page page l) (drop_all calls)

pub begun : (page : PageValue) → is_page page ≡ true → with_page page [] ≡ begun_by page ∷ []
begun page so = subst (λ (b : Bool). cond b (begun_by page ∷ []) [] ≡ begun_by page ∷ []) (sym so) refl

pub not_begun : (page : PageValue) → is_page page ≡ false → with_page page [] ≡ []
not_begun page un = subst (λ (b : Bool). cond b (begun_by page ∷ []) [] ≡ []) (sym un) refl

-- ---- the place of its call

pub at_read : (calls : List CallValue) (i : ℕ) (c : CallValue) → i < length calls → c ≡ slice_index_or calls i c → slice_get calls i ≡ Some c
at_read [] i c low same = absurd (omega (arith, low))
at_read (d ∷ calls) zero c low same = ap (λ (v : CallValue). Some v) (sym same)
at_read (d ∷ calls) (suc i) c low same = at_read calls i c (omega (arith, low)) same

pub found_at : (page : PageValue) (o : Option CallValue) (call : CallValue) (none : Type 0) → o ≡ Some call → MatchOption o none (λ c. is_of c page ≡ true) → is_of call page ≡ true
found_at page o call none at found = subst (λ (o : Option CallValue). MatchOption o none (λ c. is_of c page ≡ true)) at found

pub none_more : (page : PageValue) (calls : List CallValue) (i : ℕ) (c : CallValue) → slice_get calls i ≡ Some c → is_of c page ≡ false → list_any (is_named (call_of page)) (take i calls) ≡ false
    → list_any (is_named (call_of page)) (take (i + 1) calls) ≡ false
none_more page calls i c at un none = subst (λ (n : ℕ). list_any (is_named (call_of page)) (take n calls) ≡ false) next (one calls i at none)
  where
    next : suc i ≡ i + 1
    next = omega arith

    one : (calls : List CallValue) (i : ℕ) → slice_get calls i ≡ Some c → list_any (is_named (call_of page)) (take i calls) ≡ false → list_any (is_named (call_of page)) (take (suc i) calls) ≡ false
    one [] zero at none = refl
    one [] (suc i) at none = refl
    one (d ∷ calls) zero at none =
        let same : c ≡ d = cc in
        subst (λ (b : Bool). (b || false) ≡ false) (sym (subst (λ (x : CallValue). is_of x page ≡ false) same un)) refl
    one (d ∷ calls) (suc i) at none =
        let parts = or_false (is_of d page) (list_any (is_named (call_of page)) (take i calls)) none in
        subst (λ (b : Bool). (b || list_any (is_named (call_of page)) (take (suc i) calls)) ≡ false) (sym parts.0) (one calls i at parts.1)

-- ---- that it is the first of its name

pub first_still :
    (page : PageValue) (calls : List CallValue) (place : ℕ) (call new : CallValue) → place < length calls → is_of call page ≡ true → list_any (is_named (call_of page)) (take place calls) ≡ false
    → new ≡ told_by page call → IsFirst (slice_set calls place new) place
first_still page calls place call new low so none is =
    let name : call_of page ≡ name_of new = sym (ap name_of is ∙ name_still page call ∙ name_of_it call page so) in
    subst (λ (o : Option CallValue). MatchOption o (Unit {0}) (λ c. list_any (is_named (name_of c)) (take place (slice_set calls place new)) ≡ false)) (sym (got_set calls place new low))
    (subst (λ (l : List CallValue). list_any (is_named (name_of new)) l ≡ false) (sym (taken_set calls place new low))
    (subst (λ (n : CallName). list_any (is_named n) (take place calls) ≡ false) name none))

pub first_new : (page : PageValue) (calls : List CallValue) (place : ℕ) → place ≡ length calls → list_any (is_named (call_of page)) (take place calls) ≡ false → IsFirst (calls ++ begun_by page ∷ []) place
first_new page calls place same none =
    subst (λ (n : ℕ). IsFirst (calls ++ begun_by page ∷ []) n) (sym same)
    (subst (λ (o : Option CallValue). MatchOption o (Unit {0}) (λ c. list_any (is_named (name_of c)) (take (length calls) (calls ++ begun_by page ∷ [])) ≡ false)) (sym (got_last calls (begun_by page)))
    (subst (λ (l : List CallValue). list_any (is_named (call_of page)) l ≡ false) (sym (taken_last calls (begun_by page)))
    (subst (λ (l : List CallValue). list_any (is_named (call_of page)) l ≡ false) (ap (λ (n : ℕ). take n calls) same ∙ take-length calls) none)))

pub first_of_none : (calls : List CallValue) (place : ℕ) → place ≡ length calls → IsFirst calls place
first_of_none calls place same =
    subst (λ (n : ℕ). IsFirst calls n) (sym same)
    (subst (λ (o : Option CallValue). MatchOption o (Unit {0}) (λ c. list_any (is_named (name_of c)) (take (length calls) calls) ≡ false)) (sym (got_none calls)) tt)

-- ---- the place of the record before

pub hinted : (page : PageValue) (calls : List CallValue) (i : ℕ) (b : Bool) → b ≡ true → MatchOption (slice_get calls i) (b ≡ false) (λ c. b ≡ is_of c page) → (c : CallValue) × (slice_get calls i ≡ Some c) × (is_of c page ≡ true)
hinted page calls i b so has = one (slice_get calls i) refl (subst (λ (t : Bool). MatchOption (slice_get calls i) (t ≡ false) (λ c. t ≡ is_of c page)) so has)
  where
    one : (o : Option CallValue) → slice_get calls i ≡ o → MatchOption o (true ≡ false) (λ c. true ≡ is_of c page) → (c : CallValue) × (slice_get calls i ≡ Some c) × (is_of c page ≡ true)
    one None at has = absurd (cc)
    one (Some c) at has = (c, at, sym has)

pub none_before : (page : PageValue) (calls : List CallValue) (i : ℕ) (c : CallValue) → slice_get calls i ≡ Some c → is_of c page ≡ true → IsFirst calls i → list_any (is_named (call_of page)) (take i calls) ≡ false
none_before page calls i c at so first =
    subst (λ (n : CallName). list_any (is_named n) (take i calls) ≡ false) (name_of_it c page so)
    (subst (λ (o : Option CallValue). MatchOption o (Unit {0}) (λ c. list_any (is_named (name_of c)) (take i calls) ≡ false)) at first)

pub low_at : (calls : List CallValue) (i : ℕ) (c : CallValue) → slice_get calls i ≡ Some c → i ≤ length calls
low_at [] i c at = cc
low_at (d ∷ calls) zero c at = omega arith
low_at (d ∷ calls) (suc i) c at = let low : i ≤ length calls = low_at calls i c at in omega (arith, low)
