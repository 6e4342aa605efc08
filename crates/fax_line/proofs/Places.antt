-- A line in its place.
use Rattle.std.proofs.Common.{◌≡◌, ℕ, Bool, true, false, not, ◌&&◌, List, [], ◌∷◌, ◌++◌, Option, Some, None, refl, sym, ◌∙◌, subst, arith}
use Rattle.fax_timers.specs.Moments.{earlier, is_due}
use Rattle.fax_call.specs.Writings.{Writing}
use Rattle.fax_gateway.specs.Due.{due_at}
use Rattle.fax_gateway.specs.Events.{Event}
use Rattle.fax_gateway.specs.Reached.{IsReachedBy}
use Rattle.fax_gateway.specs.Setups.{Setup}
use Rattle.fax_line.specs.Actions.{Action, Asks, LineValue, Rests, Turns, Wakes}
use Rattle.fax_line.specs.Places.{GoesInPlace, IsDueOn, PlaceValue, RestsAsleep, is_awake, visit_of}
use Rattle.fax_line.proofs.Goings.{goes_more, goes_none, goes_rest, goes_wake}

-- the earlier of two moments comes no later than the first
first_later : (a b : Option ℕ) (now : ℕ) → is_due (earlier a b) now ≡ false → is_due a now ≡ false
first_later None b now later = refl
first_later (Some m) None now later = later
first_later (Some m) (Some n) now later = grind (arith)

pub later_on : (due : Option ℕ) (line : LineValue) (now : ℕ) → IsDueOn due line → is_due due now ≡ false
    → (setup : Setup) (writes : Writing) (trace : List Event) → IsReachedBy setup writes trace line.gateway → is_due (due_at setup writes trace) now ≡ false
later_on due line now is later setup writes trace reached =
    first_later (due_at setup writes trace) line.wire_due now (subst (λ (d : Option ℕ). is_due d now ≡ false) (is.due_is setup writes trace reached) later)

asleep_is : (awake due : Bool) → not awake && not due ≡ true → awake ≡ false
asleep_is true due h = cc
asleep_is false due h = refl

later_is : (awake due : Bool) → not awake && not due ≡ true → due ≡ false
later_is true due h = cc
later_is false true h = cc
later_is false false h = refl

-- ---- actions that follow one another

awake_more : (before : Bool) (older newer : List Action) → is_awake (is_awake before older) newer ≡ is_awake before (newer ++ older)
awake_more before older [] = refl
awake_more before older (Turns now ∷ earlier) = refl
awake_more before older (Rests now ∷ earlier) = awake_more before older earlier
awake_more before older (Asks now what answer ∷ earlier) = awake_more before older earlier
awake_more before older (Wakes ∷ earlier) = refl

-- What is awake though it need not be leaves nothing out.
asleep_down : (actions : List Action) → is_awake true actions ≡ false → is_awake false actions ≡ false
asleep_down [] is = refl
asleep_down (Turns now ∷ earlier) is = refl
asleep_down (Rests now ∷ earlier) is = asleep_down earlier is
asleep_down (Asks now what answer ∷ earlier) is = asleep_down earlier is
asleep_down (Wakes ∷ earlier) is = is

asleep_so : (mid before : Bool) (actions : List Action) → (mid ≡ false → before ≡ false) → is_awake mid actions ≡ false → is_awake before actions ≡ false
asleep_so true true actions so is = is
asleep_so true false actions so is = asleep_down actions is
asleep_so false true actions so is = let no : true ≡ false = so refl in cc
asleep_so false false actions so is = is

rests_so : (mid before : Bool) (actions : List Action) → (mid ≡ false → before ≡ false) → RestsAsleep mid actions → RestsAsleep before actions
rests_so mid before [] so rests = tt
rests_so mid before (Turns now ∷ earlier) so rests = rests_so mid before earlier so rests
rests_so mid before (Rests now ∷ earlier) so rests = (asleep_so mid before earlier so rests.0, rests_so mid before earlier so rests.1)
rests_so mid before (Asks now what answer ∷ earlier) so rests = rests_so mid before earlier so rests
rests_so mid before (Wakes ∷ earlier) so rests = rests_so mid before earlier so rests

asleep_more : (before : Bool) (older newer : List Action) → RestsAsleep before older → RestsAsleep (is_awake before older) newer → RestsAsleep before (newer ++ older)
asleep_more before older [] first second = first
asleep_more before older (Turns now ∷ earlier) first second = asleep_more before older earlier first second
asleep_more before older (Rests now ∷ earlier) first second = (sym (awake_more before older earlier) ∙ second.0, asleep_more before older earlier first second.1)
asleep_more before older (Asks now what answer ∷ earlier) first second = asleep_more before older earlier first second
asleep_more before older (Wakes ∷ earlier) first second = asleep_more before older earlier first second

pub place_none : (place : PlaceValue) → GoesInPlace [] place place
place_none place = record { goes = goes_none place.line; awake = λ is. is; asleep = tt }

pub place_more : (older newer : List Action) (a b c : PlaceValue) → GoesInPlace older a b → GoesInPlace newer b c → GoesInPlace (newer ++ older) a c
place_more older newer a b c first second = record {
  goes = goes_more older newer a.line b.line c.line first.goes second.goes;
  awake = λ is. sym (awake_more a.awake older newer) ∙ asleep_so b.awake (is_awake a.awake older) newer first.awake (second.awake is);
  asleep = asleep_more a.awake older newer first.asleep (rests_so b.awake (is_awake a.awake older) newer first.awake second.asleep);
}

-- ---- one action

abbrev pub place_of : LineValue → Option ℕ → Bool → Bool → Bool → PlaceValue
place_of line due awake turned waits = record { line = line; due = due; awake = awake; turned = turned; waits = waits }

pub place_rests : (now : ℕ) (line : LineValue) (due : Option ℕ) (awake x y w : Bool) → IsDueOn due line → not awake && not (is_due due now) ≡ true
    → GoesInPlace (Rests now ∷ []) (place_of line due awake x w) (place_of line due awake y w)
place_rests now line due awake x y w is rests = record {
  goes = goes_rest now line (later_on due line now is (later_is awake (is_due due now) rests));
  awake = λ same. same;
  asleep = (asleep_is awake (is_due due now) rests, tt);
}

pub place_wakes : (line : LineValue) (due : Option ℕ) (awake x w : Bool) → GoesInPlace (Wakes ∷ []) (place_of line due awake x w) (place_of line due true x w)
place_wakes line due awake x w = record { goes = goes_wake line; awake = λ same. same; asleep = tt }

-- in the turn of its slot
pub visit_rests : (now : ℕ) (rests : Bool) (old new : PlaceValue) → rests ≡ true → GoesInPlace (Rests now ∷ []) old new → GoesInPlace (visit_of now rests ∷ []) old new
visit_rests now rests old new is goes = subst (λ (r : Bool). GoesInPlace (visit_of now r ∷ []) old new) (sym is) goes
