-- What each line goes through.
use Rattle.std.proofs.Common.{◌≡◌, ◌+◌, ℕ, ◌<◌, ◌≤◌, true, false, Bool, nat_eq, if◌then◌else◌, List, [], ◌∷◌, ◌++◌, length, refl, sym, ◌∙◌, ap, subst, arith, slice_index_or, slice_set}
use Rattle.std.proofs.lemmas.Bool.{eqb-false, eqb-true}
use Rattle.std.proofs.lemmas.Grind.{get_or-set_at}
use Rattle.std.proofs.lemmas.List.{get_or-set_other, length-set}
use Rattle.std.proofs.lemmas.List.Elements.{All-append, All-cons}
use Rattle.fax_line.specs.Actions.{Action}
use Rattle.fax_line.specs.Operations.{AreBegun, AreNew, EachComes, EachGoes}
use Rattle.fax_line.specs.Places.{GoesInPlace, IsBegun, IsNewPlace, PlaceValue}
use Rattle.fax_line.proofs.Places.{place_more, place_none}

pub each_none : (lines : List PlaceValue) → EachGoes (λ i. []) lines lines
each_none lines = record { as_many = refl; each = λ i d lt. place_none (slice_index_or lines i d) }

pub each_more : (f g : ℕ → List Action) (a b c : List PlaceValue) → EachGoes f a b → EachGoes g b c → EachGoes (λ i. g i ++ f i) a c
each_more f g a b c first second = record {
  as_many = second.as_many ∙ first.as_many;
  each = λ i d lt. place_more (f i) (g i) (slice_index_or a i d) (slice_index_or b i d) (slice_index_or c i d) (first.each i d lt) (second.each i d (omega (arith, first.as_many)));
}

pub each_with : (f g : ℕ → List Action) (a b : List PlaceValue) → ((i : ℕ) → i < length a → f i ≡ g i) → EachGoes f a b → EachGoes g a b
each_with f g a b same goes = record {
  as_many = goes.as_many;
  each = λ i d lt. subst (λ (l : List Action). GoesInPlace l (slice_index_or a i d) (slice_index_or b i d)) (same i lt) (goes.each i d lt);
}

-- one line goes on, and the others stay as they were
one_of :
    (actions : ℕ → List Action) (at : ℕ) (lines : List PlaceValue) (new : PlaceValue) → at < length lines
    → ((d : PlaceValue) → GoesInPlace (actions at) (slice_index_or lines at d) new)
    → (i : ℕ) (d : PlaceValue) (b : Bool) → nat_eq i at ≡ b → GoesInPlace (if b then actions i else []) (slice_index_or lines i d) (slice_index_or (slice_set lines at new) i d)
one_of actions at lines new low goes i d true is =
    let same : i ≡ at = eqb-true i at is in
    subst (λ (x : PlaceValue). GoesInPlace (actions i) (slice_index_or lines i d) x) (sym (get_or-set_at lines at i new d same low))
    (subst (λ (k : ℕ). GoesInPlace (actions k) (slice_index_or lines k d) new) (sym same) (goes d))
one_of actions at lines new low goes i d false is =
    subst (λ (x : PlaceValue). GoesInPlace [] (slice_index_or lines i d) x) (sym (get_or-set_other lines at i new d (eqb-false i at is)))
    (place_none (slice_index_or lines i d))

pub one_goes : (actions : ℕ → List Action) (at : ℕ) (lines : List PlaceValue) (new : PlaceValue) → at < length lines
    → ((d : PlaceValue) → GoesInPlace (actions at) (slice_index_or lines at d) new)
    → EachGoes (λ i. if nat_eq i at then actions i else []) lines (slice_set lines at new)
one_goes actions at lines new low goes = record {
  as_many = length-set lines at new;
  each = λ i d lt. one_of actions at lines new low goes i d (nat_eq i at) refl;
}

-- no line goes on
none_of :
    (actions : ℕ → List Action) (at : ℕ) (lines : List PlaceValue) → length lines ≤ at
    → (i : ℕ) (d : PlaceValue) (b : Bool) → nat_eq i at ≡ b → i < length lines → GoesInPlace (if b then actions i else []) (slice_index_or lines i d) (slice_index_or lines i d)
none_of actions at lines high i d true is lt = let same : i ≡ at = eqb-true i at is in absurd (omega arith)
none_of actions at lines high i d false is lt = place_none (slice_index_or lines i d)

pub none_goes : (actions : ℕ → List Action) (at : ℕ) (lines : List PlaceValue) → length lines ≤ at → EachGoes (λ i. if nat_eq i at then actions i else []) lines lines
none_goes actions at lines high = record {
  as_many = refl;
  each = λ i d lt. none_of actions at lines high i d (nat_eq i at) refl lt;
}

-- each by itself, where more is true of it
pub goes_of : (f : ℕ → List Action) (comes : ℕ → PlaceValue → PlaceValue → Type 0) (a b : List PlaceValue) → ((i : ℕ) (old new : PlaceValue) → comes i old new → GoesInPlace (f i) old new)
    → EachComes comes a b → EachGoes f a b
goes_of f comes a b so come = record { as_many = come.as_many; each = λ i d lt. so i (slice_index_or a i d) (slice_index_or b i d) (come.each i d lt) }

pub comes_of : (comes others : ℕ → PlaceValue → PlaceValue → Type 0) (a b : List PlaceValue) → ((i : ℕ) (old new : PlaceValue) → comes i old new → others i old new)
    → EachComes comes a b → EachComes others a b
comes_of comes others a b so come = record { as_many = come.as_many; each = λ i d lt. so i (slice_index_or a i d) (slice_index_or b i d) (come.each i d lt) }

pub actions_nil : (l : List Action) → l ++ [] ≡ l
actions_nil [] = refl
actions_nil (x ∷ xs) = ap (λ (l : List Action). x ∷ l) (actions_nil xs)

abbrev none : List Action
none = []

none_either : (b : Bool) → (if b then none else none) ++ none ≡ none
none_either true = refl
none_either false = refl

-- the wire of one line is told the time
pub told_on : (at : ℕ) (olds lines : List PlaceValue) (new : PlaceValue) → at < length lines → ((d : PlaceValue) → GoesInPlace [] (slice_index_or lines at d) new)
    → EachGoes (λ i. []) olds lines → EachGoes (λ i. []) olds (slice_set lines at new)
told_on at olds lines new there goes before =
    each_with (λ i. (if nat_eq i at then [] else []) ++ []) (λ i. []) olds (slice_set lines at new) (λ i lt. none_either (nat_eq i at))
    (each_more (λ i. []) (λ i. if nat_eq i at then [] else []) olds lines (slice_set lines at new) before (one_goes (λ i. []) at lines new there goes))

-- at the end of a turn
pub one_settled : (at : ℕ) (lines : List PlaceValue) (new : PlaceValue) → at < length lines → ((d : PlaceValue) → GoesInPlace [] (slice_index_or lines at d) new)
    → EachGoes (λ i. []) lines (slice_set lines at new)
one_settled at lines new there goes = told_on at lines lines new there goes (each_none lines)

-- ---- lines that are added

none_new : AreNew []
none_new = λ k d low. absurd (omega arith)

pub new_after : (lines : List PlaceValue) (line : PlaceValue) → AreNew lines → IsNewPlace line → AreNew (lines ++ line ∷ [])
new_after lines line are is = All-append IsNewPlace lines (line ∷ []) are (All-cons IsNewPlace line [] is none_new)

none_begun : AreBegun []
none_begun = λ k d low. absurd (omega arith)

pub begun_after : (lines : List PlaceValue) (line : PlaceValue) → AreBegun lines → IsBegun line → AreBegun (lines ++ line ∷ [])
begun_after lines line are is = All-append IsBegun lines (line ∷ []) are (All-cons IsBegun line [] is none_begun)
