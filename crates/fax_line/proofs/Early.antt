-- A line that waits has had its turn in this round of the slots.
use Rattle.std.proofs.Common.{◌≡◌, ◌≢◌, ◌∙◌, ℕ, ◌+◌, ◌<◌, ◌≤◌, ◌⊎◌, inl, inr, Bool, true, false, nat_eq, if◌then◌else◌, List, length, Option, Some, None, slice_index_or, refl, sym, ap, subst, arith}
use Rattle.std.proofs.lemmas.Bool.{eqb-true}
use Rattle.fax_line.specs.Operations.{AreFree, LinesValue, WaitAlike, slot_after, slot_of, waits_of}
use Rattle.fax_line.specs.Places.{PlaceValue}
use Rattle.fax_line.specs.Settling.{SetAside, SetsAsideIf, is_to_store, was_turned}
use Rattle.fax_line.specs.StoredRuns.{FreeWhere, IsFreeWhere, StoresIf, TurnEnds}
use Rattle.fax_line.specs.declared.settling.LineReport.{LineReport}
use Rattle.fax_line.specs.declared.settling.PageToStore.{PageToStore}
use Rattle.fax_line.proofs.Recorded.{and_both, flags_alike, freed_off, no_two, none_in, none_there, some_place, there_or}
use Rattle.fax_line.proofs.Slots.{waits_is}

-- where there is no store none waits
abbrev pub FreeIf : {K : Type 0} → Option K → List PlaceValue → Type 0
FreeIf None lines = (i : ℕ) → waits_of lines i ≡ false
FreeIf (Some k) lines = Unit {0}

abbrev pub Early : ℕ → List PlaceValue → Type 0
Early slot lines = (i : ℕ) → waits_of lines i ≡ true → slot_of i < slot

pub early_free : (slot : ℕ) (lines : List PlaceValue) → AreFree lines → Early slot lines
early_free slot lines free = λ i on. absurd (no_two (waits_of lines i) on (none_in lines i free))

pub early_alike : (slot : ℕ) (olds news : List PlaceValue) → WaitAlike olds news → Early slot olds → Early slot news
early_alike slot olds news alike early = λ i on. early i (sym (flags_alike olds news alike i) ∙ on)

-- so it has none in that of a slot where it waits
pub early_none : (slot : ℕ) (lines : List PlaceValue) (wait : Option ℕ) (i : ℕ) → Early slot lines → (wait ≢ None → waits_of lines i ≡ true) → nat_eq (slot_of i) slot ≡ true → wait ≡ None
early_none slot lines None i early waits at = refl
early_none slot lines (Some moment) i early waits at =
    let low : slot_of i < slot = early i (waits (λ none. cc)) in
    let same : slot_of i ≡ slot = eqb-true (slot_of i) slot at in absurd (omega (arith, low, same))

pub early_is : (slot : ℕ) (lines now_lines : LinesValue) → lines.slot ≡ slot → now_lines ≡ lines → Early slot lines.lines → Early now_lines.slot now_lines.lines
early_is slot lines now_lines slot_is lines_is early =
    subst (λ (p : LinesValue). Early p.slot p.lines) (sym lines_is) (subst (λ (s : ℕ). Early s lines.lines) (sym slot_is) early)

-- ---- where there is a store

pub free_line : {K : Type 0} (l : Option K) (of : ℕ) (lines : List PlaceValue) → FreeWhere l lines → IsFreeWhere l of lines
free_line {K} None of lines free = tt
free_line {K} (Some k) of lines free = none_in lines of free

pub free_so : {K : Type 0} (l : Option K) (of : ℕ) (lines : List PlaceValue) → waits_of lines of ≡ false → IsFreeWhere l of lines
free_so {K} None of lines off = tt
free_so {K} (Some k) of lines off = off

-- ---- a turn

sets_by : (x w s : Bool) (old new : PlaceValue) → SetsAsideIf x w s old new → new.waits ≡ true → (old.waits ≡ true) ⊎ (x ≡ true)
sets_by false w s old new sets on = inl (ap (λ (p : PlaceValue). p.waits) (sym sets) ∙ on)
sets_by true w s old new sets on = inr refl

aside_waits : (slot : ℕ) (olds news : List PlaceValue) → SetAside slot olds news → (i : ℕ) → waits_of news i ≡ true → (waits_of olds i ≡ true) ⊎ (slot_of i ≡ slot)
aside_waits slot olds news sets i on = by (there_or i (length news))
  where
    here : i < length news → (d : PlaceValue) → (waits_of olds i ≡ true) ⊎ (slot_of i ≡ slot)
    here there d = of (sets_by (was_turned slot i old) old.waits (is_to_store old.line.turned) old (slice_index_or news i d) (sets.each i d low) (sym (waits_is news i d there) ∙ on))
      where
        low : i < length olds
        low = omega (arith, there, sets.as_many)

        old : PlaceValue
        old = slice_index_or olds i d

        of : (old.waits ≡ true) ⊎ (was_turned slot i old ≡ true) → (waits_of olds i ≡ true) ⊎ (slot_of i ≡ slot)
        of (inl was) = inl (waits_is olds i d low ∙ was)
        of (inr turned) = inr (eqb-true (slot_of i) slot (and_both (nat_eq (slot_of i) slot) old.turned turned).0)

    by : (i < length news) ⊎ (length news ≤ i) → (waits_of olds i ≡ true) ⊎ (slot_of i ≡ slot)
    by (inl there) = here there (some_place news i there)
    by (inr gone) = absurd (no_two (waits_of news i) on (none_there news i gone))

early_aside : (slot next : ℕ) (olds news : List PlaceValue) → SetAside slot olds news → slot < next → Early slot olds → Early next news
early_aside slot next olds news sets less early = λ i on. by i (aside_waits slot olds news sets i on)
  where
    by : (i : ℕ) → (waits_of olds i ≡ true) ⊎ (slot_of i ≡ slot) → slot_of i < next
    by i (inl was) = let low : slot_of i < slot = early i was in omega (arith, low, less)
    by i (inr same) = omega (arith, same, less)

after_by : (slot : ℕ) (b : Bool) → nat_eq slot 39 ≡ b → ((if b then 0 else slot + 1) ≡ 0) ⊎ (slot < (if b then 0 else slot + 1))
after_by slot true is = inl refl
after_by slot false is = inr (omega arith)

after_or : (slot : ℕ) → (slot_after slot ≡ 0) ⊎ (slot < slot_after slot)
after_or slot = after_by slot (nat_eq slot 39) refl

module _ (K : Type 0) (same : K → K → Type 0) (puts : List PageToStore → Bool → K → K → Type 0) (notes : ℕ → ℕ → K → K → Type 0) (ends : List LineReport → K → K → Type 0) where
  pub early_turned : (slot next : ℕ) (turned lines : List PlaceValue) (l m : Option K) → TurnEnds same puts notes ends slot turned lines l m → Early slot turned → next ≡ slot_after slot → (next ≡ 0 → FreeWhere l lines)
      → (l ≡ None → (i : ℕ) → waits_of lines i ≡ false) → Early next lines
  early_turned slot next turned lines None m turn early next_is free none = λ i on. absurd (no_two (waits_of lines i) on (none refl i))
  early_turned slot next turned lines (Some k) m (left, is, aside, sets, went, inr settles) early next_is free none = early_free next lines (freed_off settles.left lines settles.freed)
  early_turned slot next turned lines (Some k) m (left, is, aside, sets, went, inl (lines_is, left_is)) early next_is free none = by (after_or slot)
    where
      by : (slot_after slot ≡ 0) ⊎ (slot < slot_after slot) → Early next lines
      by (inl zero) = early_free next lines (free (next_is ∙ zero))
      by (inr less) =
          subst (λ (p : List PlaceValue). Early next p) (sym lines_is)
          (subst (λ (n : ℕ). Early n aside) (sym next_is) (early_aside slot (slot_after slot) turned aside sets less early))

  pub early_stored : (slot : ℕ) (old lines : List PlaceValue) (l m : Option K) → StoresIf same puts notes ends old lines l m → Early slot old → Early slot lines
  early_stored slot old lines None m stores early = subst (λ (p : List PlaceValue). Early slot p) (sym stores.1) early
  early_stored slot old lines (Some k) m (left, is, inl (lines_is, left_is)) early = subst (λ (p : List PlaceValue). Early slot p) (sym lines_is) early
  early_stored slot old lines (Some k) m (left, is, inr settles) early = early_free slot lines (freed_off settles.left lines settles.freed)

  -- where there is no store none waits
  pub free_none : (slot : ℕ) (turned lines : List PlaceValue) (l m : Option K) → TurnEnds same puts notes ends slot turned lines l m → FreeIf m lines → l ≡ None → (i : ℕ) → waits_of lines i ≡ false
  free_none slot turned lines l m turn free none = by l m none turn free
    where
      by : (l m : Option K) → l ≡ None → TurnEnds same puts notes ends slot turned lines l m → FreeIf m lines → (i : ℕ) → waits_of lines i ≡ false
      by None None none turn free = free
      by None (Some k) none turn free = let never : Some k ≡ None = turn.0 in absurd (cc)
      by (Some k) m none turn free = let never : Some k ≡ None = none in absurd (cc)
