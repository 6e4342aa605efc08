use Rattle.std.proofs.Common.{◌≡◌, ◌≤◌, ℕ, Bool, true, false, ◌∷◌, [], List, length, nat_eq, if◌then◌else◌, slice_index_or, refl, sym, subst, arith}
use Rattle.std.proofs.lemmas.Bool.{eq-eqb, ne_eqb}
use Rattle.std.proofs.lemmas.List.{get_or_default}
use Rattle.fax_line.specs.Actions.{Wakes}
use Rattle.fax_line.specs.Operations.{WakesOne}
use Rattle.fax_line.specs.Places.{GoesInPlace, PlaceValue, StaysHeld}
use Rattle.fax_line.proofs.Stepping.{none_goes, one_goes}
use Rattle.fax_line.proofs.Turning.{all_come, one_comes, still_held}
use Rattle.fax_line.proofs.lines.wake_one.Goals as goal

pub returns-then-i-places-clause-went : goal.returns-then-i-places-clause-went
returns-then-i-places-clause-went g c =
    one_goes (λ i. Wakes ∷ []) c.args.i c.args.places.now c.wake.new.self c.if-i-places.true
    (λ d. subst (λ (l : PlaceValue). GoesInPlace (Wakes ∷ []) l c.wake.new.self) (get_or_default c.args.places.now c.args.i c.index-places-i.result d c.if-i-places.true) c.wake.ensures.goes)

pub returns-else-i-places-clause-went : goal.returns-else-i-places-clause-went
returns-else-i-places-clause-went g c = none_goes (λ i. Wakes ∷ []) c.args.i c.args.places.now c.if-i-places.false

-- what is awake holds back what it did
awake_held : (old new : PlaceValue) → new ≡ record old { awake = true } → StaysHeld old new
awake_held old new is = subst (λ (p : PlaceValue). StaysHeld old p) (sym is) (still_held old)

woken_at : (b : Bool) (old new : PlaceValue) → b ≡ true → new ≡ record old { awake = true } → new ≡ (if b then record old { awake = true } else old)
woken_at true old new is same = same
woken_at false old new is same = absurd (cc)

not_woken : (b : Bool) (place : PlaceValue) → b ≡ false → place ≡ (if b then record place { awake = true } else place)
not_woken true place is = absurd (cc)
not_woken false place is = refl

pub returns-then-i-places-clause-stays : goal.returns-then-i-places-clause-stays
returns-then-i-places-clause-stays g c =
    one_comes (λ number. StaysHeld) c.args.i c.args.places.now c.wake.new.self c.if-i-places.true
    (λ d. subst (λ (l : PlaceValue). StaysHeld l c.wake.new.self) (get_or_default c.args.places.now c.args.i c.index-places-i.result d c.if-i-places.true)
    (awake_held (slice_index_or c.args.places.now c.args.i c.index-places-i.result) c.wake.new.self c.wake.ensures.woken))
    (λ number place other. still_held place)

pub returns-else-i-places-clause-stays : goal.returns-else-i-places-clause-stays
returns-else-i-places-clause-stays g c = all_come (λ number. StaysHeld) c.args.places.now (λ number place. still_held place)

pub returns-then-i-places-clause-woken : goal.returns-then-i-places-clause-woken
returns-then-i-places-clause-woken g c =
    one_comes (λ number before after. after ≡ (if nat_eq number c.args.i then record before { awake = true } else before)) c.args.i c.args.places.now c.wake.new.self c.if-i-places.true
    (λ d. subst (λ (l : PlaceValue). c.wake.new.self ≡ (if nat_eq c.args.i c.args.i then record l { awake = true } else l)) (get_or_default c.args.places.now c.args.i c.index-places-i.result d c.if-i-places.true)
    (woken_at (nat_eq c.args.i c.args.i) (slice_index_or c.args.places.now c.args.i c.index-places-i.result) c.wake.new.self (eq-eqb c.args.i c.args.i refl) c.wake.ensures.woken))
    (λ number place other. not_woken (nat_eq number c.args.i) place (ne_eqb number c.args.i other))

pub returns-else-i-places-clause-woken : goal.returns-else-i-places-clause-woken
returns-else-i-places-clause-woken g c =
    all_here c.args.i c.args.places.now c.if-i-places.false
  where
    all_here : (at : ℕ) (lines : List PlaceValue) → length lines ≤ at → WakesOne at lines lines
    all_here at lines gone = record {
      as_many = refl;
      each = λ i d there. not_woken (nat_eq i at) (slice_index_or lines i d) (ne_eqb i at (λ (same : i ≡ at). absurd (omega (arith, there, gone, same))));
    }
