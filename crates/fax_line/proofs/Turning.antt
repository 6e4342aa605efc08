-- What the turns of the lines of a slot told.
use Rattle.std.proofs.Common.{◌≡◌, ◌≢◌, ◌+◌, ◌*◌, ◌%◌, ℕ, ◌<◌, true, false, Bool, nat_eq, List, length, refl, sym, ◌∙◌, ap, subst, arith, slice_index_or, slice_set}
use Rattle.std.proofs.lemmas.Bool.{eqb-false, eqb-true, ne_eqb}
use Rattle.std.proofs.lemmas.Grind.{get_or-set_at}
use Rattle.std.proofs.lemmas.List.{get_or-map, get_or-set_other, length-set}
use Rattle.fax_wires.proofs.holding.Held.{stays_more, stays_same}
use Rattle.fax_line.specs.Operations.{AllWaitStill, AwakeAfter, AwakeAlike, EachComes, VisitsTell, rests_at, visits_at, waits_of}
use Rattle.fax_line.specs.Places.{GoesInPlace, IsAwakeAfter, Passes, PlaceValue, StaysHeld, TellsVisit, Visit, WaitsStill, actions_by, is_at_rest, visit_at}
use Rattle.fax_line.proofs.Places.{place_none}
use Rattle.fax_line.proofs.Slots.{PassesOver, Rounds, of_slot, on_round, waits_is}

-- a line that is as it was
pub still_held : (place : PlaceValue) → StaysHeld place place
still_held place = (stays_same place.line.holding, refl)

pub held_more : (old mid new : PlaceValue) → StaysHeld old mid → StaysHeld mid new → StaysHeld old new
held_more old mid new first second = (stays_more old.line.holding mid.line.holding new.line.holding first.0 second.0, second.1 ∙ first.1)

-- ---- the lines of a slot have their turns

-- a line is visited so
pub record Visited (visit : Visit) (old new : PlaceValue) : Type 0 where
  pub goes : GoesInPlace (actions_by visit) old new
  pub tells : TellsVisit visit old new
  pub waits : WaitsStill old new
  pub awake : IsAwakeAfter (actions_by visit) old new

passed : (place : PlaceValue) → Visited Passes place place
passed place = record { goes = place_none place; tells = still_held place; waits = (refl, λ is. refl); awake = refl }

-- in the turn of a slot, whose lines were so before it
abbrev pub visits_if : ℕ → ℕ → List PlaceValue → ℕ → PlaceValue → PlaceValue → Type 0
visits_if slot now olds number before after = Visited (visits_at slot now olds number) before after

pub visits_passes : (slot round now : ℕ) (olds : List PlaceValue) → PassesOver (visits_if slot now olds) slot round
visits_passes slot round now olds i place far off =
    subst (λ (b : Bool). Visited (visit_at b (waits_of olds i) (rests_at now olds i) now) place place) (sym (ne_eqb (i % 40) slot off)) (passed place)

-- the line of a round
pub visits_on :
    (slot round at now : ℕ) (olds lines : List PlaceValue) (old new : PlaceValue) → at ≡ round * 40 + slot → slot < 40 → at < length lines
    → ((d : PlaceValue) → old ≡ slice_index_or lines at d) → Rounds (visits_if slot now olds) round olds lines → Visited (visit_at true old.waits (is_at_rest now old) now) old new
    → Rounds (visits_if slot now olds) (round + 1) olds (slice_set lines at new)
visits_on slot round at now olds lines old new is low inside was before visited =
    on_round (visits_if slot now olds) slot round at olds lines new is low inside (visits_passes slot round now olds) before
    (λ d. subst (λ (p : PlaceValue). Visited (visits_at slot now olds at) p new) (is_old d)
    (subst (λ (b : Bool). Visited (visit_at b (waits_of olds at) (rests_at now olds at) now) old new) (sym (of_slot at round slot is low))
    (subst (λ (w : Bool). Visited (visit_at true w (rests_at now olds at) now) old new) (sym waits)
    (subst (λ (r : Bool). Visited (visit_at true old.waits r now) old new) (sym rests) visited))))
  where
    there : at < length olds
    there = omega (arith, inside, before.as_many)

    is_old : (d : PlaceValue) → old ≡ slice_index_or olds at d
    is_old d = was d ∙ before.to_come at d (omega (arith, is))

    waits : waits_of olds at ≡ old.waits
    waits = waits_is olds at old there ∙ ap (λ (p : PlaceValue). p.waits) (sym (is_old old))

    rests : rests_at now olds at ≡ is_at_rest now old
    rests = get_or-map (is_at_rest now) olds at old false there ∙ ap (is_at_rest now) (sym (is_old old))

-- ---- the wires of another slot are told the time

-- a line that is not of the slot is as it was; and what the wires of all lines hold back stays, and who waits
abbrev pub stays_if : ℕ → ℕ → PlaceValue → PlaceValue → Type 0
stays_if slot number before after = (nat_eq (number % 40) slot ≡ false → after ≡ before) × (StaysHeld before after × WaitsStill before after)

pub stays_passes : (slot round : ℕ) → PassesOver (stays_if slot) slot round
stays_passes slot round i place far off = (λ is. refl, (still_held place, (refl, λ is. refl)))

-- the line of a round
pub stays_on :
    (slot round at : ℕ) (olds lines : List PlaceValue) (old new : PlaceValue) → at ≡ round * 40 + slot → slot < 40 → at < length lines
    → ((d : PlaceValue) → old ≡ slice_index_or lines at d) → Rounds (stays_if slot) round olds lines → StaysHeld old new → WaitsStill old new → Rounds (stays_if slot) (round + 1) olds (slice_set lines at new)
stays_on slot round at olds lines old new is low inside was before stays waits =
    on_round (stays_if slot) slot round at olds lines new is low inside (stays_passes slot round) before
    (λ d. (
      λ other. let here = of_slot at round slot is low in absurd (cc),
      subst (λ (p : PlaceValue). StaysHeld p new × WaitsStill p new) (was d ∙ before.to_come at d (omega (arith, is))) (stays, waits),
    ))

-- which changes nothing of what this one told
still_so : (visit : Visit) (old mid new : PlaceValue) → new ≡ mid → TellsVisit visit old mid → TellsVisit visit old new
still_so visit old mid new same tells = subst (λ (p : PlaceValue). TellsVisit visit old p) (sym same) tells

still_in : (b w r : Bool) (slot across now i : ℕ) (old mid new : PlaceValue) → nat_eq (i % 40) slot ≡ b → across ≢ slot → TellsVisit (visit_at b w r now) old mid → stays_if across i mid new → TellsVisit (visit_at b w r now) old new
still_in true w r slot across now i old mid new is other told stays =
    let off : nat_eq (i % 40) across ≡ false = ne_eqb (i % 40) across (λ (same : i % 40 ≡ across). other (sym same ∙ eqb-true (i % 40) slot is)) in
    still_so (visit_at true w r now) old mid new (stays.0 off) told
still_in false w r slot across now i old mid new is other told stays = held_more old mid new told stays.1.0

pub tells_still :
    (slot across now : ℕ) (lines olds mids news : List PlaceValue) → across ≢ slot → VisitsTell (visits_at slot now lines) olds mids → EachComes (stays_if across) mids news
    → VisitsTell (visits_at slot now lines) olds news
tells_still slot across now lines olds mids news other first then = record {
  as_many = then.as_many ∙ first.as_many;
  each = λ i d there.
      still_in (nat_eq (i % 40) slot) (waits_of lines i) (rests_at now lines i) slot across now i (slice_index_or olds i d) (slice_index_or mids i d) (slice_index_or news i d) refl other (first.each i d there)
      (then.each i d (omega (arith, first.as_many)));
}

waits_more : (old mid new : PlaceValue) → WaitsStill old mid → WaitsStill mid new → WaitsStill old new
waits_more old mid new first second = (second.0 ∙ first.0, λ is. second.1 (first.0 ∙ is) ∙ first.1 is)

pub waits_still :
    (across : ℕ) (olds mids news : List PlaceValue) → AllWaitStill olds mids → EachComes (stays_if across) mids news → AllWaitStill olds news
waits_still across olds mids news first then = record {
  as_many = then.as_many ∙ first.as_many;
  each = λ i d there. waits_more (slice_index_or olds i d) (slice_index_or mids i d) (slice_index_or news i d) (first.each i d there) (then.each i d (omega (arith, first.as_many))).1.1;
}

-- and who is awake
awake_so : (visit : Visit) (old mid new : PlaceValue) → IsAwakeAfter (actions_by visit) old mid → new.awake ≡ mid.awake → IsAwakeAfter (actions_by visit) old new
awake_so visit old mid new first then = then ∙ first

pub awake_still : (visits : ℕ → Visit) (olds mids news : List PlaceValue) → AwakeAfter visits olds mids → AwakeAlike mids news → AwakeAfter visits olds news
awake_still visits olds mids news first then = record {
  as_many = then.as_many ∙ first.as_many;
  each = λ i d there. awake_so (visits i) (slice_index_or olds i d) (slice_index_or mids i d) (slice_index_or news i d) (first.each i d there) (then.each i d (omega (arith, first.as_many)));
}

-- ---- one line alone

comes_at :
    (comes : ℕ → PlaceValue → PlaceValue → Type 0) (at : ℕ) (lines : List PlaceValue) (new : PlaceValue) → at < length lines → ((d : PlaceValue) → comes at (slice_index_or lines at d) new)
    → ((i : ℕ) (place : PlaceValue) → i ≢ at → comes i place place) → (i : ℕ) (d : PlaceValue) (b : Bool) → nat_eq i at ≡ b → comes i (slice_index_or lines i d) (slice_index_or (slice_set lines at new) i d)
comes_at comes at lines new low here others i d true is =
    let same : i ≡ at = eqb-true i at is in
    subst (λ (x : PlaceValue). comes i (slice_index_or lines i d) x) (sym (get_or-set_at lines at i new d same low)) (subst (λ (k : ℕ). comes k (slice_index_or lines k d) new) (sym same) (here d))
comes_at comes at lines new low here others i d false is =
    subst (λ (x : PlaceValue). comes i (slice_index_or lines i d) x) (sym (get_or-set_other lines at i new d (eqb-false i at is))) (others i (slice_index_or lines i d) (eqb-false i at is))

pub one_comes :
    (comes : ℕ → PlaceValue → PlaceValue → Type 0) (at : ℕ) (lines : List PlaceValue) (new : PlaceValue) → at < length lines → ((d : PlaceValue) → comes at (slice_index_or lines at d) new)
    → ((i : ℕ) (place : PlaceValue) → i ≢ at → comes i place place) → EachComes comes lines (slice_set lines at new)
one_comes comes at lines new low here others = record {
  as_many = length-set lines at new;
  each = λ i d there. comes_at comes at lines new low here others i d (nat_eq i at) refl;
}

pub all_come : (comes : ℕ → PlaceValue → PlaceValue → Type 0) (lines : List PlaceValue) → ((i : ℕ) (place : PlaceValue) → comes i place place) → EachComes comes lines lines
all_come comes lines here = record { as_many = refl; each = λ i d there. here i (slice_index_or lines i d) }
