-- Memory was wanted for the next line.
use Rattle.std.proofs.Common.{◌≡◌, ℕ, ◌<◌, Bool, true, false, Err, List, [], ◌∷◌, ◌++◌, Option, None, Some, codes, refl, sym, ◌∙◌, ap, subst, arith}
use Rattle.std.specs.Str.Parse.{digits_value}
use Rattle.fax_call.specs.Writings.{Writing}
use Rattle.fax_gateway.specs.Events.{Event}
use Rattle.fax_gateway.specs.Setups.{Setup}
use Rattle.fax_gateway.specs.Turns.{call_if_new}
use Rattle.fax_trace.specs.declared.event.ScriptEvent.{ScriptEvent}
use Rattle.fax_trace.specs.declared.event.ScriptEvent.TheVariants.{Ring, FromCalling, FromCalled, Tick, Connected, NotConnected}
use Rattle.fax_trace.specs.Scripts.{TellsEvent}
use Rattle.fax_trace.specs.declared.script_fault.ScriptFault.TheVariants.{NoMemory}
use Rattle.fax_trace.specs.Answers.{IsEarlyTick, IsWanted, IsWantedIf, Outcome}

pub wanted_if : (setup : Setup) (writes : Writing) (trace : List Event) (before others : List (List ℕ)) (outcome : Outcome) → outcome ≡ Err NoMemory → IsWanted setup writes trace before others
    → IsWantedIf outcome setup writes trace before others
wanted_if setup writes trace before others outcome e wanted = subst (λ (o : Outcome). IsWantedIf o setup writes trace before others) (sym e) wanted

pub not_ok : false ≡ true → ⊥
not_ok e = cc

-- for a line of which no tick can be told
pub wanted_unread : (setup : Setup) (writes : Writing) (trace : List Event) (before : List (List ℕ)) (line : List ℕ) (more others : List (List ℕ)) → others ≡ line ∷ more
    → ((moment : ℕ) → TellsEvent line (Tick moment) → ⊥) → IsWanted setup writes trace before others
wanted_unread setup writes trace [] line more others are none = tt
wanted_unread setup writes trace (first ∷ before) line more others are none = subst (λ (x : List (List ℕ)). IsWanted setup writes trace (first ∷ before) x) (sym are) by
  where
    by : (event : ScriptEvent) → TellsEvent line event → IsEarlyTick setup writes trace event → ⊥
    by (Tick moment) tells early = none moment tells
    by Ring tells early = early
    by (FromCalling octets) tells early = early
    by (FromCalled octets) tells early = early
    by (Connected moment) tells early = early
    by (NotConnected moment) tells early = early

head_is : (x y : ℕ) (xs ys : List ℕ) → x ∷ xs ≡ y ∷ ys → x ≡ y
head_is x y xs ys e = cc

apart : (x y : ℕ) → x < y → x ≡ y → ⊥
apart x y below same = omega arith

-- a line tells one tick
only_tick : (line : List ℕ) (event : ScriptEvent) (moment : ℕ) → TellsEvent line event → TellsEvent line (Tick moment) → event ≡ Tick moment
only_tick line Ring moment a b = absurd (apart 82 84 (omega arith) (head_is 82 84 [] (codes " " ++ b.0) (sym a ∙ b.1)))
only_tick line (FromCalling octets) moment a b = absurd (apart 65 84 (omega arith) (head_is 65 84 (codes " " ++ a.0) (codes " " ++ b.0) (sym a.1 ∙ b.1)))
only_tick line (FromCalled octets) moment a b = absurd (apart 66 84 (omega arith) (head_is 66 84 (codes " " ++ a.0) (codes " " ++ b.0) (sym a.1 ∙ b.1)))
only_tick line (Connected other) moment a b = absurd (apart 67 84 (omega arith) (head_is 67 84 (codes " " ++ a.0) (codes " " ++ b.0) (sym a.1 ∙ b.1)))
only_tick line (NotConnected other) moment a b = absurd (apart 78 84 (omega arith) (head_is 78 84 (codes " " ++ a.0) (codes " " ++ b.0) (sym a.1 ∙ b.1)))
only_tick line (Tick other) moment a b =
    let digits : a.0 ≡ b.0 = same_digits (codes "T ") a.0 b.0 (sym a.1 ∙ b.1) in
    ap Tick (sym a.2.1 ∙ ap (digits_value 10) digits ∙ b.2.1)
  where
    same_digits : (letter x y : List ℕ) → letter ++ x ≡ letter ++ y → x ≡ y
    same_digits [] x y e = e
    same_digits (o ∷ letter) x y e = same_digits letter x y (rest_is o (letter ++ x) (letter ++ y) e)
      where
        rest_is : (o : ℕ) (s t : List ℕ) → o ∷ s ≡ o ∷ t → s ≡ t
        rest_is o s t e = cc

-- for a line of which an event is told that is no early tick
pub wanted_unplayed : (setup : Setup) (writes : Writing) (trace : List Event) (before : List (List ℕ)) (line : List ℕ) (more others : List (List ℕ)) (event : ScriptEvent) → others ≡ line ∷ more
    → TellsEvent line event → (IsEarlyTick setup writes trace event → ⊥) → IsWanted setup writes trace before others
wanted_unplayed setup writes trace [] line more others event are tells late = tt
wanted_unplayed setup writes trace (first ∷ before) line more others event are tells late = subst (λ (x : List (List ℕ)). IsWanted setup writes trace (first ∷ before) x) (sym are) by
  where
    by : (other : ScriptEvent) → TellsEvent line other → IsEarlyTick setup writes trace other → ⊥
    by (Tick moment) its early = late (subst (IsEarlyTick setup writes trace) (sym (only_tick line event moment tells its)) early)
    by Ring its early = early
    by (FromCalling octets) its early = early
    by (FromCalled octets) its early = early
    by (Connected moment) its early = early
    by (NotConnected moment) its early = early

-- where the same call is asked for as before, none is asked for anew
pub none_new : (was now : Option ℕ) → now ≡ was → call_if_new was now ≡ None
none_new None now e = e
none_new (Some call) now e = refl
