-- The lines of a slot at the end of its turn, one after the other.
use Rattle.std.proofs.Common.{◌≡◌, ◌≢◌, ◌+◌, ◌*◌, ◌%◌, ℕ, ◌<◌, ◌≤◌, true, false, Bool, ◌&&◌, ◌||◌, nat_eq, nat_lt, List, [], ◌∷◌, ◌++◌, length, refl, sym, ◌∙◌, ap, subst, arith, slice_index_or, slice_set, inl, inr, ◌⊎◌, Option, is_some}
use Rattle.std.specs.List.{All, AllPairs}
use Rattle.std.proofs.lemmas.Bool.{eq-eqb, eqb-false, eqb-true, ltb-false, ltb-true, ne_eqb}
use Rattle.std.proofs.lemmas.Grind.{get_or-set_at}
use Rattle.std.proofs.lemmas.List.{get_or-map, get_or-set_other, length-set}
use Rattle.std.proofs.lemmas.List.Elements.{All-append, All-cons}
use Rattle.std.proofs.lemmas.List.Folds.{list_any-append, list_any_none}
use Rattle.std.proofs.lemmas.List.Quantifiers.{all_pairs_push}
use Rattle.fax_wires.specs.repeat.Policies.{IsToldAs}
use Rattle.fax_wires.specs.holding.Storing.{HasDone, HoldsAfter, LegAction, Turn}
use Rattle.fax_line.specs.declared.settling.PageToStore.{PageToStore}
use Rattle.fax_line.specs.Actions.{LineValue}
use Rattle.fax_line.specs.Places.{PlaceValue}
use Rattle.fax_line.specs.Operations.{AwakeAlike, EachComes, WaitAlike, waits_of}
use Rattle.fax_line.specs.Settling.{EndsTurn, EndsWhere, HandsOver, IsOfTurn, IsPageOf, SetsAsideIf, WaitsOrEnds, has_page, is_of, is_to_store, was_turned}

-- by what ends the turn of its wire
pub ends_by :
    (is_stored confirms : Bool) (old new : LineValue) → confirms ≡ is_some old.turned.kept
    → new.gateway ≡ old.gateway → new.driver ≡ old.driver → IsToldAs old.wire new.wire → new.peers ≡ old.peers → new.turned ≡ old.turned
    → ((operations : List LegAction) (given : Option (List ℕ)) → HoldsAfter operations given old.holding → HasDone (Turn given confirms is_stored ∷ operations) new.holding) → EndsTurn is_stored old new
ends_by is_stored confirms old new same gateway driver wire peers told done = record {
  done = λ operations given holds. subst (λ (b : Bool). HasDone (Turn given b is_stored ∷ operations) new.holding) same (done operations given holds);
  gateway = gateway;
  driver = driver;
  wire = wire;
  peers = peers;
  told = told;
}

-- This is true of the lines of the first rounds, and those of the rounds to come are as they were.
pub record Rounds (comes : ℕ → PlaceValue → PlaceValue → Type 0) (round : ℕ) (olds lines : List PlaceValue) : Type 0 where
  pub as_many : length lines ≡ length olds
  pub done : (i : ℕ) (d : PlaceValue) → i < length olds → i < round * 40 → comes i (slice_index_or olds i d) (slice_index_or lines i d)
  pub to_come : (i : ℕ) (d : PlaceValue) → round * 40 ≤ i → slice_index_or lines i d ≡ slice_index_or olds i d

pub no_rounds : (comes : ℕ → PlaceValue → PlaceValue → Type 0) (lines : List PlaceValue) → Rounds comes 0 lines lines
no_rounds comes lines = record { as_many = refl; done = λ i d there low. absurd (omega arith); to_come = λ i d far. refl }

pub all_rounds : (comes : ℕ → PlaceValue → PlaceValue → Type 0) (rounds : ℕ) (olds lines : List PlaceValue) → length olds ≤ rounds * 40 → Rounds comes rounds olds lines → EachComes comes olds lines
all_rounds comes rounds olds lines many before = record { as_many = before.as_many; each = λ i d there. before.done i d there (omega arith) }

-- what is true of a line of another slot
abbrev pub PassesOver : (ℕ → PlaceValue → PlaceValue → Type 0) → ℕ → ℕ → Type 0
PassesOver comes slot round = (i : ℕ) (place : PlaceValue) → round * 40 ≤ i → i % 40 ≢ slot → comes i place place

off_slot : (i at round slot : ℕ) → at ≡ round * 40 + slot → i ≢ at → round * 40 ≤ i → i < (round + 1) * 40 → i % 40 ≡ slot → ⊥
off_slot i at round slot is other far low same = omega arith

done_else :
    (comes : ℕ → PlaceValue → PlaceValue → Type 0) (slot round at : ℕ) (olds lines : List PlaceValue) → at ≡ round * 40 + slot → PassesOver comes slot round → Rounds comes round olds lines
    → (i : ℕ) (d : PlaceValue) → i < length olds → i < (round + 1) * 40 → i ≢ at → (b : Bool) → nat_lt i (round * 40) ≡ b → comes i (slice_index_or olds i d) (slice_index_or lines i d)
done_else comes slot round at olds lines is passes before i d there low other true lt = before.done i d there (ltb-true i (round * 40) lt)
done_else comes slot round at olds lines is passes before i d there low other false lt =
    let far : round * 40 ≤ i = ltb-false i (round * 40) lt in
    subst (λ (x : PlaceValue). comes i (slice_index_or olds i d) x) (sym (before.to_come i d far)) (passes i (slice_index_or olds i d) far (off_slot i at round slot is other far low))

done_at :
    (comes : ℕ → PlaceValue → PlaceValue → Type 0) (slot round at : ℕ) (olds lines : List PlaceValue) (new : PlaceValue) → at ≡ round * 40 + slot → at < length lines → PassesOver comes slot round
    → Rounds comes round olds lines → ((d : PlaceValue) → comes at (slice_index_or olds at d) new)
    → (i : ℕ) (d : PlaceValue) → i < length olds → i < (round + 1) * 40 → (b : Bool) → nat_eq i at ≡ b → comes i (slice_index_or olds i d) (slice_index_or (slice_set lines at new) i d)
done_at comes slot round at olds lines new is inside passes before here i d there low true same =
    let e : i ≡ at = eqb-true i at same in
    subst (λ (x : PlaceValue). comes i (slice_index_or olds i d) x) (sym (get_or-set_at lines at i new d e inside))
    (subst (λ (k : ℕ). comes k (slice_index_or olds k d) new) (sym e) (here d))
done_at comes slot round at olds lines new is inside passes before here i d there low false same =
    subst (λ (x : PlaceValue). comes i (slice_index_or olds i d) x) (sym (get_or-set_other lines at i new d (eqb-false i at same)))
    (done_else comes slot round at olds lines is passes before i d there low (eqb-false i at same) (nat_lt i (round * 40)) refl)

-- the line of a round that is there
pub on_round :
    (comes : ℕ → PlaceValue → PlaceValue → Type 0) (slot round at : ℕ) (olds lines : List PlaceValue) (new : PlaceValue) → at ≡ round * 40 + slot → slot < 40 → at < length lines → PassesOver comes slot round
    → Rounds comes round olds lines → ((d : PlaceValue) → comes at (slice_index_or olds at d) new) → Rounds comes (round + 1) olds (slice_set lines at new)
on_round comes slot round at olds lines new is low inside passes before here = record {
  as_many = length-set lines at new ∙ before.as_many;
  done = λ i d there high. done_at comes slot round at olds lines new is inside passes before here i d there high (nat_eq i at) refl;
  to_come = λ i d far. get_or-set_other lines at i new d (λ (same : i ≡ at). absurd (omega (arith, same))) ∙ before.to_come i d (omega arith);
}

-- or there is none
pub off_round :
    (comes : ℕ → PlaceValue → PlaceValue → Type 0) (slot round at : ℕ) (olds lines : List PlaceValue) → at ≡ round * 40 + slot → length lines ≤ at → PassesOver comes slot round
    → Rounds comes round olds lines → Rounds comes (round + 1) olds lines
off_round comes slot round at olds lines is gone passes before =
    let many = before.as_many in record {
      as_many = many;
      done = λ i d there high. done_else comes slot round at olds lines is passes before i d there high (λ (same : i ≡ at). absurd (omega (arith, same, many))) (nat_lt i (round * 40)) refl;
      to_come = λ i d far. before.to_come i d (omega arith);
    }

still_at :
    (comes : ℕ → PlaceValue → PlaceValue → Type 0) (slot round at : ℕ) (olds lines : List PlaceValue) → at ≡ round * 40 + slot → PassesOver comes slot round
    → ((d : PlaceValue) → comes at (slice_index_or olds at d) (slice_index_or olds at d)) → Rounds comes round olds lines
    → (i : ℕ) (d : PlaceValue) → i < length olds → i < (round + 1) * 40 → (b : Bool) → nat_eq i at ≡ b → comes i (slice_index_or olds i d) (slice_index_or lines i d)
still_at comes slot round at olds lines is passes here before i d there low true same =
    let e : i ≡ at = eqb-true i at same in
    subst (λ (x : PlaceValue). comes i (slice_index_or olds i d) x) (sym (before.to_come i d (omega (arith, e, is))))
    (subst (λ (k : ℕ). comes k (slice_index_or olds k d) (slice_index_or olds k d)) (sym e) (here d))
still_at comes slot round at olds lines is passes here before i d there low false same =
    done_else comes slot round at olds lines is passes before i d there low (eqb-false i at same) (nat_lt i (round * 40)) refl

-- or it stays as it was
pub still_round :
    (comes : ℕ → PlaceValue → PlaceValue → Type 0) (slot round at : ℕ) (olds lines : List PlaceValue) → at ≡ round * 40 + slot → PassesOver comes slot round
    → ((d : PlaceValue) → comes at (slice_index_or olds at d) (slice_index_or olds at d)) → Rounds comes round olds lines → Rounds comes (round + 1) olds lines
still_round comes slot round at olds lines is passes here before = record {
  as_many = before.as_many;
  done = λ i d there high. still_at comes slot round at olds lines is passes here before i d there high (nat_eq i at) refl;
  to_come = λ i d far. before.to_come i d (omega arith);
}

-- ---- all lines, one after the other

-- This is true of the first so many lines, and those to come are as they were.
pub record Firsts (comes : ℕ → PlaceValue → PlaceValue → Type 0) (count : ℕ) (olds lines : List PlaceValue) : Type 0 where
  pub as_many : length lines ≡ length olds
  pub done : (i : ℕ) (d : PlaceValue) → i < length olds → i < count → comes i (slice_index_or olds i d) (slice_index_or lines i d)
  pub to_come : (i : ℕ) (d : PlaceValue) → count ≤ i → slice_index_or lines i d ≡ slice_index_or olds i d

pub no_firsts : (comes : ℕ → PlaceValue → PlaceValue → Type 0) (lines : List PlaceValue) → Firsts comes 0 lines lines
no_firsts comes lines = record { as_many = refl; done = λ i d there low. absurd (omega arith); to_come = λ i d far. refl }

pub all_firsts : (comes : ℕ → PlaceValue → PlaceValue → Type 0) (count : ℕ) (olds lines : List PlaceValue) → length olds ≤ count → Firsts comes count olds lines → EachComes comes olds lines
all_firsts comes count olds lines many before = record { as_many = before.as_many; each = λ i d there. before.done i d there (omega arith) }

firsts_with : (comes others : ℕ → PlaceValue → PlaceValue → Type 0) (count : ℕ) (olds lines : List PlaceValue)
    → ((i : ℕ) (old new : PlaceValue) → i < count → comes i old new → others i old new) → Firsts comes count olds lines → Firsts others count olds lines
firsts_with comes others count olds lines so before = record {
  as_many = before.as_many;
  done = λ i d there low. so i (slice_index_or olds i d) (slice_index_or lines i d) low (before.done i d there low);
  to_come = before.to_come;
}

next_at :
    (comes : ℕ → PlaceValue → PlaceValue → Type 0) (at : ℕ) (olds lines : List PlaceValue) (new : PlaceValue) → at < length lines
    → Firsts comes at olds lines → ((d : PlaceValue) → comes at (slice_index_or olds at d) new)
    → (i : ℕ) (d : PlaceValue) → i < length olds → i < at + 1 → (b : Bool) → nat_eq i at ≡ b → comes i (slice_index_or olds i d) (slice_index_or (slice_set lines at new) i d)
next_at comes at olds lines new inside before here i d there low true same =
    let e : i ≡ at = eqb-true i at same in
    subst (λ (x : PlaceValue). comes i (slice_index_or olds i d) x) (sym (get_or-set_at lines at i new d e inside))
    (subst (λ (k : ℕ). comes k (slice_index_or olds k d) new) (sym e) (here d))
next_at comes at olds lines new inside before here i d there low false same =
    let other : i ≢ at = eqb-false i at same in
    subst (λ (x : PlaceValue). comes i (slice_index_or olds i d) x) (sym (get_or-set_other lines at i new d other))
    (before.done i d there (omega (arith, low, other)))

-- the next one
pub next_first :
    (comes : ℕ → PlaceValue → PlaceValue → Type 0) (at : ℕ) (olds lines : List PlaceValue) (new : PlaceValue) → at < length lines
    → Firsts comes at olds lines → ((d : PlaceValue) → comes at (slice_index_or olds at d) new) → Firsts comes (at + 1) olds (slice_set lines at new)
next_first comes at olds lines new inside before here = record {
  as_many = length-set lines at new ∙ before.as_many;
  done = λ i d there high. next_at comes at olds lines new inside before here i d there high (nat_eq i at) refl;
  to_come = λ i d far. get_or-set_other lines at i new d (λ (same : i ≡ at). absurd (omega (arith, same))) ∙ before.to_come i d (omega arith);
}

still_first_at :
    (comes : ℕ → PlaceValue → PlaceValue → Type 0) (at : ℕ) (olds lines : List PlaceValue)
    → ((d : PlaceValue) → comes at (slice_index_or olds at d) (slice_index_or olds at d)) → Firsts comes at olds lines
    → (i : ℕ) (d : PlaceValue) → i < length olds → i < at + 1 → (b : Bool) → nat_eq i at ≡ b → comes i (slice_index_or olds i d) (slice_index_or lines i d)
still_first_at comes at olds lines here before i d there low true same =
    let e : i ≡ at = eqb-true i at same in
    subst (λ (x : PlaceValue). comes i (slice_index_or olds i d) x) (sym (before.to_come i d (omega (arith, e))))
    (subst (λ (k : ℕ). comes k (slice_index_or olds k d) (slice_index_or olds k d)) (sym e) (here d))
still_first_at comes at olds lines here before i d there low false same =
    let other : i ≢ at = eqb-false i at same in before.done i d there (omega (arith, low, other))

-- or it stays as it was
pub still_first :
    (comes : ℕ → PlaceValue → PlaceValue → Type 0) (at : ℕ) (olds lines : List PlaceValue)
    → ((d : PlaceValue) → comes at (slice_index_or olds at d) (slice_index_or olds at d)) → Firsts comes at olds lines → Firsts comes (at + 1) olds lines
still_first comes at olds lines here before = record {
  as_many = before.as_many;
  done = λ i d there high. still_first_at comes at olds lines here before i d there high (nat_eq i at) refl;
  to_come = λ i d far. before.to_come i d (omega arith);
}

-- ---- who waits, and who is awake

abbrev pub alike : ℕ → PlaceValue → PlaceValue → Type 0
alike number before after = (after.waits ≡ before.waits) × (after.awake ≡ before.awake)

pub alike_on :
    (at : ℕ) (olds lines : List PlaceValue) (old new : PlaceValue) → at < length lines → ((d : PlaceValue) → old ≡ slice_index_or lines at d) → alike at old new
    → Firsts alike at olds lines → Firsts alike (at + 1) olds (slice_set lines at new)
alike_on at olds lines old new inside was same before =
    next_first alike at olds lines new inside before (λ d. subst (λ (p : PlaceValue). alike at p new) (was d ∙ before.to_come at d (omega arith)) same)

pub alike_off : (at : ℕ) (olds lines : List PlaceValue) → Firsts alike at olds lines → Firsts alike (at + 1) olds lines
alike_off at olds lines before = still_first alike at olds lines (λ d. (refl, refl)) before

pub comes_more : (flag : PlaceValue → Bool) (olds mids news : List PlaceValue) → EachComes (λ number before after. flag after ≡ flag before) olds mids
    → EachComes (λ number before after. flag after ≡ flag before) mids news → EachComes (λ number before after. flag after ≡ flag before) olds news
comes_more flag olds mids news first then = record {
  as_many = then.as_many ∙ first.as_many;
  each = λ i d there. then.each i d (omega (arith, there, first.as_many)) ∙ first.each i d there;
}

pub alike_waits : (olds news : List PlaceValue) → EachComes alike olds news → WaitAlike olds news
alike_waits olds news come = record { as_many = come.as_many; each = λ i d there. (come.each i d there).0 }

pub alike_awake : (olds news : List PlaceValue) → EachComes alike olds news → AwakeAlike olds news
alike_awake olds news come = record { as_many = come.as_many; each = λ i d there. (come.each i d there).1 }

pub alike_passes : (slot round : ℕ) → PassesOver alike slot round
alike_passes slot round i place far off = (refl, refl)

pub alike_round :
    (slot round at : ℕ) (olds lines : List PlaceValue) (old new : PlaceValue) → at ≡ round * 40 + slot → slot < 40 → at < length lines
    → ((d : PlaceValue) → old ≡ slice_index_or lines at d) → alike at old new → Rounds alike round olds lines → Rounds alike (round + 1) olds (slice_set lines at new)
alike_round slot round at olds lines old new is low inside was same before =
    on_round alike slot round at olds lines new is low inside (alike_passes slot round) before
    (λ d. subst (λ (p : PlaceValue). alike at p new) (was d ∙ before.to_come at d (omega (arith, is))) same)

pub alike_still : (slot round at : ℕ) (olds lines : List PlaceValue) → at ≡ round * 40 + slot → Rounds alike round olds lines → Rounds alike (round + 1) olds lines
alike_still slot round at olds lines is before = still_round alike slot round at olds lines is (alike_passes slot round) (λ d. (refl, refl)) before

abbrev pub freed : ℕ → PlaceValue → PlaceValue → Type 0
freed number before after = after ≡ record before { waits = false }

pub freed_on :
    (at : ℕ) (olds lines : List PlaceValue) (old new : PlaceValue) → at < length lines → ((d : PlaceValue) → old ≡ slice_index_or lines at d) → new ≡ record old { waits = false }
    → Firsts freed at olds lines → Firsts freed (at + 1) olds (slice_set lines at new)
freed_on at olds lines old new inside was same before =
    next_first freed at olds lines new inside before (λ d. subst (λ (p : PlaceValue). freed at p new) (was d ∙ before.to_come at d (omega arith)) same)

-- ---- the pages of the lines are handed over

-- whether a line waits, by the line
pub waits_is : (lines : List PlaceValue) (i : ℕ) (d : PlaceValue) → i < length lines → waits_of lines i ≡ (slice_index_or lines i d).waits
waits_is lines i d there = get_or-map (λ (p : PlaceValue). p.waits) lines i d false there

abbrev pub hands : List PlaceValue → List PageToStore → ℕ → PlaceValue → PlaceValue → Type 0
hands olds pages number place after = WaitsOrEnds (waits_of olds number) (has_page pages number) place after

-- the first so many lines handed over these pages
pub record HandedOver (count : ℕ) (olds lines : List PlaceValue) (pages : List PageToStore) : Type 0 where
  pub firsts : Firsts (hands olds pages) count olds lines
  pub each : All (IsPageOf (waits_of olds) olds) pages
  pub in_order : AllPairs (λ page after. page.line < after.line) pages
  pub early : All (λ page. page.line < count) pages

no_pages : (P : PageToStore → Type 0) → All P []
no_pages P = λ k d low. absurd (omega arith)

pub none_handed : (lines : List PlaceValue) → HandedOver 0 lines lines []
none_handed lines = record {
  firsts = no_firsts (hands lines []) lines;
  each = no_pages (IsPageOf (waits_of lines) lines);
  in_order = λ i j d low high. absurd (omega arith);
  early = no_pages (λ page. page.line < 0);
}

-- none of a line to come is among them
none_early : (k i : ℕ) (pages : List PageToStore) → All (λ page. page.line < k) pages → k ≤ i → has_page pages i ≡ false
none_early k i pages early far =
    list_any_none (is_of i) pages (λ j d low. let lt : (slice_index_or pages j d).line < k = early j d low in ne_eqb (slice_index_or pages j d).line i (λ (same : (slice_index_or pages j d).line ≡ i). absurd (omega (arith, lt, same))))

or_not : (x y : Bool) → y ≡ false → (x || (y || false)) ≡ x
or_not true y is = refl
or_not false true is = cc
or_not false false is = refl

or_so : (x y : Bool) → y ≡ true → (x || (y || false)) ≡ true
or_so true y is = refl
or_so false true is = refl
or_so false false is = cc

other_page : (pages : List PageToStore) (page : PageToStore) (i at : ℕ) → page.line ≡ at → i ≢ at → has_page (pages ++ page ∷ []) i ≡ has_page pages i
other_page pages page i at is other =
    list_any-append (is_of i) pages (page ∷ []) ∙ or_not (has_page pages i) (is_of i page) (ne_eqb page.line i (λ (same : page.line ≡ i). other (sym same ∙ is)))

own_page : (pages : List PageToStore) (page : PageToStore) (at : ℕ) → page.line ≡ at → has_page (pages ++ page ∷ []) at ≡ true
own_page pages page at is = list_any-append (is_of at) pages (page ∷ []) ∙ or_so (has_page pages at) (is_of at page) (eq-eqb page.line at is)

later : (count : ℕ) (pages : List PageToStore) → All (λ page. page.line < count) pages → All (λ page. page.line < count + 1) pages
later count pages early k d low = let lt = early k d low in omega (arith, lt)

by_both : (a b x y : Bool) (old new : PlaceValue) → a ≡ x → b ≡ y → WaitsOrEnds x y old new → WaitsOrEnds a b old new
by_both a b x y old new first second is = subst (λ (z : Bool). WaitsOrEnds z b old new) (sym first) (subst (λ (z : Bool). WaitsOrEnds x z old new) (sym second) is)

-- no page joins those that are there
none_joins :
    (at : ℕ) (olds lines : List PlaceValue) (new : PlaceValue) (pages : List PageToStore) → at < length lines
    → HandedOver at olds lines pages → ((d : PlaceValue) → hands olds pages at (slice_index_or olds at d) new) → HandedOver (at + 1) olds (slice_set lines at new) pages
none_joins at olds lines new pages inside before here = record {
  firsts = next_first (hands olds pages) at olds lines new inside before.firsts here;
  each = before.each;
  in_order = before.in_order;
  early = later at pages before.early;
}

-- or one does
one_joins :
    (at : ℕ) (olds lines : List PlaceValue) (new : PlaceValue) (pages : List PageToStore) (page : PageToStore) → at < length lines → page.line ≡ at
    → HandedOver at olds lines pages → IsPageOf (waits_of olds) olds page → ((d : PlaceValue) → hands olds (pages ++ page ∷ []) at (slice_index_or olds at d) new)
    → HandedOver (at + 1) olds (slice_set lines at new) (pages ++ page ∷ [])
one_joins at olds lines new pages page inside number before is_page here =
    let more = pages ++ page ∷ [] in
    let high : page.line < at + 1 = omega (arith, number) in record {
      firsts = next_first (hands olds more) at olds lines new inside
          (firsts_with (hands olds pages) (hands olds more) at olds lines
          (λ i old after low comes. subst (λ (has : Bool). WaitsOrEnds (waits_of olds i) has old after) (sym (other_page pages page i at number (λ (same : i ≡ at). absurd (omega (arith, low, same))))) comes)
          before.firsts) here;
      each = All-append (IsPageOf (waits_of olds) olds) pages (page ∷ []) before.each (All-cons (IsPageOf (waits_of olds) olds) page [] is_page (no_pages (IsPageOf (waits_of olds) olds)));
      in_order = all_pairs_push (λ (one after : PageToStore). one.line < after.line) pages page before.in_order (λ k d there. let lt = before.early k d there in omega (arith, lt, number));
      early = All-append (λ (p : PageToStore). p.line < at + 1) pages (page ∷ []) (later at pages before.early)
          (All-cons (λ (p : PageToStore). p.line < at + 1) page [] high (no_pages (λ (p : PageToStore). p.line < at + 1)));
    }

page_of : (at : ℕ) (olds : List PlaceValue) (old : PlaceValue) (page : PageToStore) → at < length olds → page.line ≡ at → ((d : PlaceValue) → old ≡ slice_index_or olds at d)
    → old.waits ≡ true → IsOfTurn old.line page → IsPageOf (waits_of olds) olds page
page_of at olds old page there number is waits is_of_turn =
    subst (λ (k : ℕ). k < length olds → IsPageOf (waits_of olds) olds page) number (λ inside. record {
      there = inside;
      turned = ap (waits_of olds) number ∙ (waits_is olds at old there ∙ (ap (λ (p : PlaceValue). p.waits) (sym (is old)) ∙ waits));
      is_of_turn = subst (λ (k : ℕ). (other : PlaceValue) → IsOfTurn (slice_index_or olds k other).line page) (sym number)
          (λ other. subst (λ (p : PlaceValue). IsOfTurn p.line page) (is other) is_of_turn);
    }) there

-- the line hands its page over, where it has one
pub hands_on :
    (at : ℕ) (olds lines : List PlaceValue) (old new : PlaceValue) (pages after : List PageToStore) → at < length lines
    → ((d : PlaceValue) → old ≡ slice_index_or lines at d) → HandedOver at olds lines pages
    → HandsOver old.waits at old new pages after → HandedOver (at + 1) olds (slice_set lines at new) after
hands_on at olds lines old new pages after inside was before hands_over = by old.waits refl hands_over
  where
    there : at < length olds
    there = omega (arith, inside, before.firsts.as_many)

    is : (d : PlaceValue) → old ≡ slice_index_or olds at d
    is d = was d ∙ before.firsts.to_come at d (omega arith)

    none : has_page pages at ≡ false
    none = none_early at at pages before.early (omega arith)

    of : (b : Bool) → old.waits ≡ b → waits_of olds at ≡ b
    of b w = waits_is olds at old there ∙ (ap (λ (p : PlaceValue). p.waits) (sym (is old)) ∙ w)

    so : (b : Bool) (pages : List PageToStore) (has : Bool) → old.waits ≡ b → has_page pages at ≡ has → WaitsOrEnds b has old new → (d : PlaceValue) → hands olds pages at (slice_index_or olds at d) new
    so b l has w h comes d = subst (λ (p : PlaceValue). hands olds l at p new) (is d) (by_both (waits_of olds at) (has_page l at) b has old new (of b w) h comes)

    by : (b : Bool) → old.waits ≡ b → HandsOver b at old new pages after → HandedOver (at + 1) olds (slice_set lines at new) after
    by true w (inl h) =
        subst (λ (l : List PageToStore). HandedOver (at + 1) olds (slice_set lines at new) l) (sym h.joins)
        (one_joins at olds lines new pages h.page inside h.number_is before (page_of at olds old h.page there h.number_is is w h.is_of_turn)
        (so true (pages ++ h.page ∷ []) true w (own_page pages h.page at h.number_is) h.same))
    by true w (inr e) =
        subst (λ (l : List PageToStore). HandedOver (at + 1) olds (slice_set lines at new) l) (sym e.same)
        (none_joins at olds lines new pages inside before (so true pages false w none e.ends))
    by false w h =
        subst (λ (l : List PageToStore). HandedOver (at + 1) olds (slice_set lines at new) l) (sym h.0)
        (none_joins at olds lines new pages inside before (so false pages false w none h.1))

-- ---- the lines whose pages these are end their turns

abbrev pub ends_if : List PageToStore → Bool → ℕ → PlaceValue → PlaceValue → Type 0
ends_if pages is_stored number = EndsWhere (has_page pages number) is_stored

ends_so : (a b is_stored : Bool) (old new : PlaceValue) → a ≡ b → EndsWhere b is_stored old new → EndsWhere a is_stored old new
ends_so a b is_stored old new same ends = subst (λ (c : Bool). EndsWhere c is_stored old new) (sym same) ends

pub ends_on :
    (at : ℕ) (olds lines : List PlaceValue) (old new : PlaceValue) (pages : List PageToStore) (is_stored : Bool) → at < length lines
    → ((d : PlaceValue) → old ≡ slice_index_or lines at d) → Firsts (ends_if pages is_stored) at olds lines → has_page pages at ≡ true
    → EndsWhere true is_stored old new → Firsts (ends_if pages is_stored) (at + 1) olds (slice_set lines at new)
ends_on at olds lines old new pages is_stored inside was before has ends =
    next_first (ends_if pages is_stored) at olds lines new inside before
    (λ d. subst (λ (p : PlaceValue). ends_if pages is_stored at p new) (was d ∙ before.to_come at d (omega arith))
    (ends_so (has_page pages at) true is_stored old new has ends))

pub ends_off : (at : ℕ) (olds lines : List PlaceValue) (pages : List PageToStore) (is_stored : Bool) → has_page pages at ≡ false
    → Firsts (ends_if pages is_stored) at olds lines → Firsts (ends_if pages is_stored) (at + 1) olds lines
ends_off at olds lines pages is_stored none before =
    still_first (ends_if pages is_stored) at olds lines
    (λ d. ends_so (has_page pages at) false is_stored (slice_index_or olds at d) (slice_index_or olds at d) none refl) before

-- one after the other
joined : (b has is_stored : Bool) (old mid new : PlaceValue) → WaitsOrEnds b has old mid → EndsWhere has is_stored mid new → EndsWhere b (has && is_stored) old new
joined true true is_stored old mid new same ends = subst (λ (p : PlaceValue). EndsWhere true is_stored p new) same ends
joined true false is_stored old mid new ends same = subst (λ (p : PlaceValue). EndsWhere true false old p) (sym same) ends
joined false true is_stored old mid new none ends = absurd none
joined false false is_stored old mid new first then = then ∙ first

pub turns_end :
    (pages : List PageToStore) (is_stored : Bool) (olds mids news : List PlaceValue) → EachComes (hands olds pages) olds mids → EachComes (ends_if pages is_stored) mids news
    → EachComes (λ number place. EndsWhere (waits_of olds number) (has_page pages number && is_stored) place) olds news
turns_end pages is_stored olds mids news first then = record {
  as_many = then.as_many ∙ first.as_many;
  each = λ i d there. joined (waits_of olds i) (has_page pages i) is_stored (slice_index_or olds i d) (slice_index_or mids i d) (slice_index_or news i d)
      (first.each i d there) (then.each i d (omega (arith, first.as_many)));
}

-- ---- the lines of a slot after its turn

left_alone : (a b is_stored : Bool) (place : PlaceValue) → a ≡ false ⊎ b ≡ false → EndsWhere (a && b) is_stored place place
left_alone true true is_stored place (inl e) = absurd (cc)
left_alone true true is_stored place (inr e) = absurd (cc)
left_alone true false is_stored place one = refl
left_alone false b is_stored place one = refl

out_so : (a b is_stored : Bool) (old new : PlaceValue) → a ≡ true → b ≡ true → EndsWhere true is_stored old new → EndsWhere (a && b) is_stored old new
out_so true true is_stored old new x y ends = ends
out_so true false is_stored old new x y ends = absurd (cc)
out_so false b is_stored old new x y ends = absurd (cc)

pub of_slot : (at round slot : ℕ) → at ≡ round * 40 + slot → slot < 40 → nat_eq (at % 40) slot ≡ true
of_slot at round slot is low = eq-eqb (at % 40) slot (omega arith)

abbrev pub out_if : ℕ → ℕ → PlaceValue → PlaceValue → Type 0
out_if slot number place = EndsWhere (was_turned slot number place) true place

pub out_passes : (slot round : ℕ) → PassesOver (out_if slot) slot round
out_passes slot round i place far off = left_alone (nat_eq (i % 40) slot) place.turned true place (inl (ne_eqb (i % 40) slot off))

-- the line of a round had a turn
pub out_on :
    (slot round at : ℕ) (olds lines : List PlaceValue) (old new : PlaceValue) → at ≡ round * 40 + slot → slot < 40 → at < length lines
    → ((d : PlaceValue) → old ≡ slice_index_or lines at d) → Rounds (out_if slot) round olds lines → old.turned ≡ true
    → EndsWhere true true old new → Rounds (out_if slot) (round + 1) olds (slice_set lines at new)
out_on slot round at olds lines old new is low inside was before turned ends =
    on_round (out_if slot) slot round at olds lines new is low inside (out_passes slot round) before
    (λ d. subst (λ (p : PlaceValue). out_if slot at p new) (was d ∙ before.to_come at d (omega (arith, is)))
    (out_so (nat_eq (at % 40) slot) old.turned true old new (of_slot at round slot is low) turned ends))

-- or it had none
pub out_off :
    (slot round at : ℕ) (olds lines : List PlaceValue) (old : PlaceValue) → at ≡ round * 40 + slot → ((d : PlaceValue) → old ≡ slice_index_or lines at d)
    → Rounds (out_if slot) round olds lines → old.turned ≡ false → Rounds (out_if slot) (round + 1) olds lines
out_off slot round at olds lines old is was before rests =
    still_round (out_if slot) slot round at olds lines is (out_passes slot round)
    (λ d. subst (λ (p : PlaceValue). out_if slot at p p) (was d ∙ before.to_come at d (omega (arith, is)))
    (left_alone (nat_eq (at % 40) slot) old.turned true old (inr rests))) before

-- ---- it waits, or what it gave goes out

abbrev pub aside_if : ℕ → ℕ → PlaceValue → PlaceValue → Type 0
aside_if slot number place = SetsAsideIf (was_turned slot number place) place.waits (is_to_store place.line.turned) place

not_aside : (a b waits to_store : Bool) (place : PlaceValue) → a ≡ false → SetsAsideIf (a && b) waits to_store place place
not_aside true b waits to_store place is = absurd (cc)
not_aside false b waits to_store place is = refl

pub aside_passes : (slot round : ℕ) → PassesOver (aside_if slot) slot round
aside_passes slot round i place far off = not_aside (nat_eq (i % 40) slot) place.turned place.waits (is_to_store place.line.turned) place (ne_eqb (i % 40) slot off)

aside_so : (a b waits to_store : Bool) (old new : PlaceValue) → a ≡ true → SetsAsideIf b waits to_store old new → SetsAsideIf (a && b) waits to_store old new
aside_so true b waits to_store old new is aside = aside
aside_so false b waits to_store old new is aside = absurd (cc)

pub aside_on :
    (slot round at : ℕ) (olds lines : List PlaceValue) (old new : PlaceValue) → at ≡ round * 40 + slot → slot < 40 → at < length lines
    → ((d : PlaceValue) → old ≡ slice_index_or lines at d) → Rounds (aside_if slot) round olds lines
    → SetsAsideIf old.turned old.waits (is_to_store old.line.turned) old new → Rounds (aside_if slot) (round + 1) olds (slice_set lines at new)
aside_on slot round at olds lines old new is low inside was before aside =
    on_round (aside_if slot) slot round at olds lines new is low inside (aside_passes slot round) before
    (λ d. subst (λ (p : PlaceValue). aside_if slot at p new) (was d ∙ before.to_come at d (omega (arith, is)))
    (aside_so (nat_eq (at % 40) slot) old.turned old.waits (is_to_store old.line.turned) old new (of_slot at round slot is low) aside))
