-- Keys of which no two are alike.
use Rattle.std.proofs.Common.{◌≡◌, ℕ, ◌+◌, ◌<◌, Bool, true, false, ◌||◌, cond, List, [], ◌∷◌, ◌++◌, length, nat_eq, get_or, take, map, Bor, Option, None, Some, Result, Ok, Err, refl, sym, ◌∙◌, ap, subst, arith}
use Rattle.std.specs.Cmp.{IsEquivalence}
use Rattle.std.specs.Cmp.Lexicographic.{pointwise}
use Rattle.std.proofs.lemmas.Cmp.{nat_list_eq_equiv}
use Rattle.std.specs.List.{AllByRecursion, IsDistinct, list_any}
use Rattle.std.specs.Option.{IfNone}
use Rattle.std.specs.Result.{IfOk}
use Rattle.std.proofs.lemmas.Bool.{false≢true}
use Rattle.std.proofs.lemmas.List.{take_more}
use Rattle.std.proofs.lemmas.List.Folds.{list_any-append}
use Rattle.std.proofs.lemmas.Map.Keys.{IsDistinct-push, apart_from_distinct}
use Rattle.std.proofs.lemmas.Bool.Decides.{Decides-eqb}
use Rattle.std.proofs.lemmas.List.{length-map, length-take, get_or-map, get_or-take}
use Rattle.std.proofs.lemmas.List.Folds.{Any-from_list_any}
use Rattle.std.proofs.lemmas.Slice.Eq.{slice_eq-Decides}
use Rattle.fax_config.specs.Configurations.{AreUnlike}
use Rattle.fax_config.specs.Faults.{HasTwice, IsRepeated}

-- the same test, written as a new key first and as a key last
cond-or : (a b : Bool) → cond b true a ≡ (a || (b || false))
cond-or true true = refl
cond-or true false = refl
cond-or false true = refl
cond-or false false = refl

-- one more key of the list
front_more : {K : Type 0} (keys : List K) (i : ℕ) (x : K) → i < length keys → x ≡ get_or keys i x → take (i + 1) keys ≡ take i keys ++ x ∷ []
front_more keys i x within is = take_more keys i x within ∙ ap (λ y. take i keys ++ y ∷ []) (sym is)

-- a set of the keys so far has one more
pub seen_more : {K : Type 0} (eq : K → K → Bool) → IsEquivalence eq → (keys : List K) (i : ℕ) (x : K) → i < length keys → x ≡ get_or keys i x
    → (q : K) (new old : Bool) → new ≡ cond (eq x q) true old → old ≡ list_any (eq q) (take i keys) → new ≡ list_any (eq q) (take (i + 1) keys)
seen_more eq laws keys i x within is q new old e f =
    e ∙ ap (λ b. cond b true old) (laws.symm x q) ∙ ap (λ o. cond (eq q x) true o) f
    ∙ cond-or (list_any (eq q) (take i keys)) (eq q x)
    ∙ sym (ap (list_any (eq q)) (front_more keys i x within is) ∙ list_any-append (eq q) (take i keys) (x ∷ []))

-- a key that is new is unlike those before
pub distinct_more : {K : Type 0} (eq : K → K → Bool) → IsEquivalence eq → (keys : List K) (i : ℕ) (x : K) → i < length keys → x ≡ get_or keys i x
    → IsDistinct eq (take i keys) → list_any (eq x) (take i keys) ≡ false → IsDistinct eq (take (i + 1) keys)
distinct_more eq laws keys i x within is before absent =
    subst (IsDistinct eq) (sym (front_more keys i x within is)) (IsDistinct-push laws (take i keys) x before absent)

-- keys that differ by a test that each passes with itself
pub unlike_from_distinct : {K : Type 0} (eq : K → K → Bool) → IsEquivalence eq → (keys : List K) → IsDistinct eq keys → AreUnlike keys
unlike_from_distinct eq laws keys distinct i j default below within same =
    let differ : eq (get_or keys i default) (get_or keys j default) ≡ false = apart_from_distinct eq keys i j default distinct below within in
    let alike : eq (get_or keys i default) (get_or keys j default) ≡ true = subst (λ y. eq (get_or keys i default) y ≡ true) same (laws.refl (get_or keys i default)) in
    false≢true (sym differ ∙ alike)

-- what holds where no key is given
pub none_weaker : {K E P Q : Type 0} (r : Result (Option K) E) → (P → Q) → IfOk r (λ key. IfNone key P) → IfOk r (λ key. IfNone key Q)
none_weaker (Ok None) f p = f p
none_weaker (Ok (Some key)) f p = tt
none_weaker (Err e) f p = tt

all_mapped : {X Y : Type 0} (f : X → Y) (P : Y → Type 0) (xs : List X) → AllByRecursion (λ x. P (f x)) xs → AllByRecursion P (map f xs)
all_mapped f P [] h = h
all_mapped f P (x ∷ xs) h = (h.0, all_mapped f P xs h.1)

distinct_mapped : {X Y : Type 0} (f : X → Y) (e : Y → Y → Bool) (xs : List X) → IsDistinct (λ a b. e (f a) (f b)) xs → IsDistinct e (map f xs)
unfolding IsDistinct
distinct_mapped f e [] h = h
distinct_mapped f e (x ∷ xs) h = (all_mapped f (λ y. e (f x) y ≡ false) xs h.0, distinct_mapped f e xs h.1)

-- texts that differ, wherever they lie
pub texts_are_unlike : (texts : List (Bor (List ℕ))) → IsDistinct (λ a b. pointwise nat_eq a.now b.now) texts → AreUnlike (map (λ text. text.now) texts)
texts_are_unlike texts distinct =
    unlike_from_distinct (pointwise nat_eq) nat_list_eq_equiv (map (λ text. text.now) texts) (distinct_mapped (λ (text : Bor (List ℕ)). text.now) (pointwise nat_eq) texts distinct)

-- a text that is like one before it stands at two places
pub text_twice : (texts : List (Bor (List ℕ))) (text : Bor (List ℕ)) → IsRepeated (λ a b. pointwise nat_eq a.now b.now) texts text → HasTwice (map (λ one. one.now) texts) text.now
text_twice texts text w =
    let before = Any-from_list_any (λ (other : Bor (List ℕ)). pointwise nat_eq text.now other.now) (take w.0 texts) w.3 in
    let i = before.0 in
    let there : i < w.0 = omega (arith, before.2, length-take w.0 texts) in
    let within : w.0 < length texts = w.1 in
    let alike : text.now ≡ before.1.now = (slice_eq-Decides Decides-eqb text.now before.1.now (pointwise nat_eq text.now before.1.now) refl).0 before.4 in
    let first = get_or-map (λ (one : Bor (List ℕ)). one.now) texts i before.1 text.now (omega arith) ∙ ap (λ (one : Bor (List ℕ)). one.now) (sym (get_or-take w.0 texts i before.1 there) ∙ before.3) ∙ sym alike in
    let second = get_or-map (λ (one : Bor (List ℕ)). one.now) texts w.0 text text.now within ∙ ap (λ (one : Bor (List ℕ)). one.now) w.2 in
    (i, w.0, there, omega (arith, length-map texts (λ (one : Bor (List ℕ)). one.now)), first, second)
