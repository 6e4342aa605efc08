-- A run goes on, as it is recorded.
use Rattle.std.proofs.Common.{◌≡◌, ℕ, ◌+◌, ◌<◌, ◌≤◌, max, inl, inr, Bool, true, false, nat_eq, if◌then◌else◌, List, [], ◌∷◌, ◌++◌, length, Option, Some, None, is_some, slice_index_or, refl, sym, ◌∙◌, ap, subst, arith}
use Rattle.fax_gateway.specs.Wires.{Grows}
use Rattle.fax_gateway.proofs.DrivingLemmas.{grows_more}
use Rattle.fax_line.specs.declared.asked.LineAnswer.{LineAnswer}
use Rattle.fax_line.specs.declared.asked.LineRequest.{LineRequest}
use Rattle.fax_line.specs.declared.order.Order.{Order}
use Rattle.fax_line.specs.declared.order.Order.TheVariants as order
use Rattle.fax_line.specs.Actions.{Action, Rests, Turns, Wakes}
use Rattle.fax_line.specs.Actions as actions
use Rattle.fax_line.specs.Operations.{AsksLine, LinesWent, Operation, RiseTo, VisitsLines, WakesLine, actions_of, slot_after, slot_of, visits_at, waits_of}
use Rattle.fax_line.specs.Places.{PlaceValue, Visit, actions_by}
use Rattle.std.proofs.lemmas.Bool.{eqb-true}
use Rattle.fax_line.specs.Runs.{AreServed, AskedOf, DoneOrder, IsServed, Stored, Turned, Woken, latest, next_slot, none_waits, operations_of, orders_done, visit_stored, words_of}
use Rattle.fax_line.specs.Words.{Answers, Asks, Word}
use Rattle.fax_line.proofs.Recorded.{IsLow, Recorded, RecordedAsk, RecordedWake, Trails, free_trails, visit_now, waiting}
use Rattle.fax_line.proofs.Stepping.{actions_nil, each_more, each_none, each_with}

pub went_none : (lines : List PlaceValue) → LinesWent [] lines lines
went_none lines = each_none lines

if_more : (b : Bool) (a : Action) (rest : List Action) → (if b then a ∷ [] else []) ++ rest ≡ (if b then a ∷ rest else rest)
if_more true a rest = refl
if_more false a rest = refl

append_one : (l rest : List Action) → (l ++ []) ++ rest ≡ l ++ rest
append_one l rest = ap (λ (x : List Action). x ++ rest) (actions_nil l)

actions_more : (i : ℕ) (operation : Operation) (older : List Operation) → actions_of i (operation ∷ []) ++ actions_of i older ≡ actions_of i (operation ∷ older)
actions_more i (VisitsLines visits) older = append_one (actions_by (visits i)) (actions_of i older)
actions_more i (AsksLine line now what answer) older = if_more (nat_eq i line) (actions.Asks now what answer) (actions_of i older)
actions_more i (WakesLine line) older = if_more (nat_eq i line) Wakes (actions_of i older)

pub went_more : (operation : Operation) (older : List Operation) (a b c : List PlaceValue) → LinesWent older a b → LinesWent (operation ∷ []) b c → LinesWent (operation ∷ older) a c
went_more operation older a b c first second =
    each_with (λ i. actions_of i (operation ∷ []) ++ actions_of i older) (λ i. actions_of i (operation ∷ older)) a c (λ i lt. actions_more i operation older)
    (each_more (λ i. actions_of i older) (λ i. actions_of i (operation ∷ [])) a b c first second)

-- and where no operation follows, as at the end of a turn
pub went_settled : (older : List Operation) (a b c : List PlaceValue) → LinesWent older a b → LinesWent [] b c → LinesWent older a c
went_settled older a b c first second = each_more (λ i. actions_of i older) (λ i. []) a b c first second

-- ---- the moments of a line

rise_later : (l : List Action) (early late : ℕ) → early ≤ late → RiseTo l early → RiseTo l late
rise_later [] early late low rise = tt
rise_later (Turns now ∷ l) early late low rise = (omega (arith, low, rise.0), rise.1)
rise_later (Rests now ∷ l) early late low rise = (omega (arith, low, rise.0), rise.1)
rise_later (actions.Asks now what answer ∷ l) early late low rise = (omega (arith, low, rise.0), rise.1)
rise_later (Wakes ∷ l) early late low rise = rise_later l early late low rise

-- since when a line waits, or now
abbrev pub since : Option ℕ → ℕ → ℕ
since None now = now
since (Some moment) now = moment

rise_turned : (b : Bool) (l : List Action) (visit : Visit) (o p : Option ℕ) (early now : ℕ) → early ≤ now → IsServed b now visit o p → RiseTo l (since o early) → RiseTo (actions_by visit ++ l) (since p now)
rise_turned true l visit (Some moment) p early now low served rise = absurd served
rise_turned false l visit (Some moment) p early now low served rise =
    subst (λ (v : Visit). RiseTo (actions_by v ++ l) (since p now)) (sym served.0) (subst (λ (q : Option ℕ). RiseTo l (since q now)) (sym served.1) rise)
rise_turned false l visit None p early now low served rise =
    subst (λ (v : Visit). RiseTo (actions_by v ++ l) (since p now)) (sym served.0) (subst (λ (q : Option ℕ). RiseTo l (since q now)) (sym served.1) (rise_later l early now low rise))
rise_turned true l visit None p early now low (inl served) rise =
    subst (λ (v : Visit). RiseTo (actions_by v ++ l) (since p now)) (sym served.0) (subst (λ (q : Option ℕ). RiseTo (Rests now ∷ l) (since q now)) (sym served.1) (omega arith, rise_later l early now low rise))
rise_turned true l visit None p early now low (inr (inl served)) rise =
    subst (λ (v : Visit). RiseTo (actions_by v ++ l) (since p now)) (sym served.0) (subst (λ (q : Option ℕ). RiseTo (Turns now ∷ l) (since q now)) (sym served.1) (omega arith, rise_later l early now low rise))
rise_turned true l visit None p early now low (inr (inr served)) rise =
    subst (λ (v : Visit). RiseTo (actions_by v ++ l) (since p now)) (sym served.0) (subst (λ (q : Option ℕ). RiseTo l (since q now)) (sym served.1) (rise_later l early now low rise))

rise_stored : (l : List Action) (o : Option ℕ) (now : ℕ) → since o now ≤ now → RiseTo l (since o now) → RiseTo (actions_by (visit_stored o) ++ l) now
rise_stored l None now low rise = rise
rise_stored l (Some moment) now low rise = (low, rise)

rise_asked : (b : Bool) (l : List Action) (o : Option ℕ) (early now : ℕ) (what : LineRequest) (answer : Option LineAnswer) → early ≤ now → (b ≡ true → o ≡ None) → RiseTo l (since o early)
    → RiseTo (if b then actions.Asks now what answer ∷ l else l) (since o now)
rise_asked true l o early now what answer low free rise =
    let none : o ≡ None = free refl in
    subst (λ (q : Option ℕ). RiseTo (actions.Asks now what answer ∷ l) (since q now)) (sym none)
    (omega arith, rise_later l early now low (subst (λ (q : Option ℕ). RiseTo l (since q early)) none rise))
rise_asked false l None early now what answer low free rise = rise_later l early now low rise
rise_asked false l (Some moment) early now what answer low free rise = rise

rise_woken : (b : Bool) (l : List Action) (at : ℕ) → RiseTo l at → RiseTo (if b then Wakes ∷ l else l) at
rise_woken true l at rise = rise
rise_woken false l at rise = rise

-- ---- a run so far: as it is recorded, and as the lines are

pub record Run (first moment : ℕ) (done : List DoneOrder) (wait : ℕ → Option ℕ) (old shown actual : List PlaceValue) (slot count : ℕ) (before after : Option (List Word)) : Type 0 where
  pub went : LinesWent (operations_of done) old shown
  pub slot_is : slot ≡ next_slot first done
  pub moment_is : moment ≡ latest done
  pub many : orders_done done ≡ count
  pub words : Grows (words_of done) before after
  pub served : AreServed first done wait
  pub trails : Trails moment wait shown actual
  pub rises : (line : ℕ) → RiseTo (actions_of line (operations_of done)) (since (wait line) moment)

-- the visits that are recorded of a turn, and who waits after it
abbrev pub visits_on : ℕ → ℕ → List PlaceValue → List PlaceValue → ℕ → Visit
visits_on slot now actual aside i = visit_now (waits_of aside i) (visits_at slot now actual i)

abbrev pub wait_on : (ℕ → Option ℕ) → ℕ → List PlaceValue → ℕ → Option ℕ
wait_on wait now aside i = waiting (waits_of aside i) (wait i) now

pub turned_on :
    (first now moment later count slot next : ℕ) (done : List DoneOrder) (wait after : ℕ → Option ℕ) (old shown turned new actual : List PlaceValue) (visits : ℕ → Visit) (x y z : Option (List Word))
    → {before : List PlaceValue} → Run first moment done wait old shown before slot count x y → later ≡ max moment now → Recorded slot moment later wait visits after shown turned new actual
    → next ≡ slot_after slot → Grows (Asks (Some (order.Turn now)) ∷ []) y z
    → Run first later (Turned now visits ∷ done) after old new actual next (count + 1) x z
turned_on first now moment later count slot next done wait after old shown turned new actual visits x y z run later_is recorded next_is asked =
    let moment_now : later ≡ max (latest done) now = later_is ∙ ap (λ (m : ℕ). max m now) run.moment_is in
    let low : moment ≤ later = omega (arith, later_is) in record {
      went = went_settled (VisitsLines visits ∷ operations_of done) old turned new (went_more (VisitsLines visits) (operations_of done) old shown turned run.went recorded.went) recorded.after;
      slot_is = next_is ∙ ap slot_after run.slot_is;
      moment_is = moment_now;
      many = omega (arith, run.many);
      words = grows_more (words_of done) (Asks (Some (order.Turn now)) ∷ []) x y z run.words asked;
      served = (
        wait,
        run.served,
        λ line. subst (λ (m : ℕ). IsServed (nat_eq (slot_of line) (next_slot first done)) m (visits line) (wait line) (after line)) moment_now
            (subst (λ (s : ℕ). IsServed (nat_eq (slot_of line) s) later (visits line) (wait line) (after line)) run.slot_is (recorded.served line)),
      );
      trails = recorded.trails;
      rises = λ line. rise_turned (nat_eq (slot_of line) slot) (actions_of line (operations_of done)) (visits line) (wait line) (after line) moment later low (recorded.served line) (run.rises line);
    }

-- the turn of a slot where there is no store: nothing waits
none_waiting : (o : Option ℕ) → is_some o ≡ false → o ≡ None
none_waiting None is = refl
none_waiting (Some moment) is = let no : true ≡ false = is in cc

since_low : (o : Option ℕ) (moment : ℕ) → IsLow moment o → since o moment ≤ moment
since_low None moment low = omega arith
since_low (Some at) moment low = low

-- what waits was stored
pub stored_on :
    (first moment count slot next : ℕ) (done : List DoneOrder) (wait : ℕ → Option ℕ) (old shown actual lines : List PlaceValue) (x y z : Option (List Word))
    → Run first moment done wait old shown actual slot count x y → LinesWent (VisitsLines (λ i. visit_stored (wait i)) ∷ []) shown actual → LinesWent [] actual lines
    → ((i : ℕ) (d : PlaceValue) → i < length lines → (slice_index_or lines i d).waits ≡ false) → next ≡ slot → z ≡ y
    → Run first moment (Stored (λ i. visit_stored (wait i)) ∷ done) (λ i. None) old lines lines next count x z
stored_on first moment count slot next done wait old shown actual lines x y z run went settled free next_is words = record {
  went = went_settled (VisitsLines (λ i. visit_stored (wait i)) ∷ operations_of done) old actual lines (went_more (VisitsLines (λ i. visit_stored (wait i))) (operations_of done) old shown actual run.went went) settled;
  slot_is = next_is ∙ run.slot_is;
  moment_is = run.moment_is;
  many = run.many;
  words = subst (λ (o : Option (List Word)). Grows (words_of done) x o) (sym words) run.words;
  served = (wait, run.served, λ line. (refl, refl));
  trails = free_trails moment lines free;
  rises = λ line. rise_stored (actions_of line (operations_of done)) (wait line) moment (since_low (wait line) moment (run.trails.low line)) (run.rises line);
}

pub asked_on :
    (first of now moment later count slot next : ℕ) (what : LineRequest) (answer : Option LineAnswer) (done : List DoneOrder) (wait : ℕ → Option ℕ) (old shown new actual : List PlaceValue) (x y z w : Option (List Word))
    → (before : List PlaceValue) → Run first moment done wait old shown before slot count x y → later ≡ max moment now → wait of ≡ None → RecordedAsk of later later what answer wait shown new actual → next ≡ slot
    → Grows (Asks (Some (order.Ask of now what)) ∷ []) y z → Grows (Answers of answer ∷ []) z w
    → Run first later (AskedOf of now what answer ∷ done) wait old new actual next (count + 1) x w
asked_on first of now moment later count slot next what answer done wait old shown new actual x y z w before run later_is free recorded next_is asked answered =
    let moment_now : later ≡ max (latest done) now = later_is ∙ ap (λ (m : ℕ). max m now) run.moment_is in
    let low : moment ≤ later = omega (arith, later_is) in record {
      went = went_more (AsksLine of (max (latest done) now) what answer) (operations_of done) old shown new run.went
          (subst (λ (m : ℕ). LinesWent (AsksLine of m what answer ∷ []) shown new) moment_now recorded.went);
      slot_is = next_is ∙ run.slot_is;
      moment_is = moment_now;
      many = omega (arith, run.many);
      words = grows_more (Asks (Some (order.Ask of now what)) ∷ words_of done) (Answers of answer ∷ []) x z w
          (grows_more (words_of done) (Asks (Some (order.Ask of now what)) ∷ []) x y z run.words asked) answered;
      served = (run.served, free);
      trails = recorded.trails;
      rises = λ line. subst (λ (m : ℕ). RiseTo (if nat_eq line of then actions.Asks m what answer ∷ actions_of line (operations_of done) else actions_of line (operations_of done)) (since (wait line) later)) moment_now
          (rise_asked (nat_eq line of) (actions_of line (operations_of done)) (wait line) moment later what answer low (λ is. ap wait (eqb-true line of is) ∙ free) (run.rises line));
    }

pub woken_on :
    (first of moment count slot next : ℕ) (done : List DoneOrder) (wait : ℕ → Option ℕ) (old shown new before actual : List PlaceValue) (x y z : Option (List Word))
    → Run first moment done wait old shown before slot count x y → RecordedWake of moment wait shown new actual → next ≡ slot → Grows (Asks (Some (order.Wake of)) ∷ []) y z
    → Run first moment (Woken of ∷ done) wait old new actual next (count + 1) x z
woken_on first of moment count slot next done wait old shown new before actual x y z run recorded next_is asked = record {
  went = went_more (WakesLine of) (operations_of done) old shown new run.went recorded.went;
  slot_is = next_is ∙ run.slot_is;
  moment_is = run.moment_is;
  many = omega (arith, run.many);
  words = grows_more (words_of done) (Asks (Some (order.Wake of)) ∷ []) x y z run.words asked;
  served = run.served;
  trails = recorded.trails;
  rises = λ line. rise_woken (nat_eq line of) (actions_of line (operations_of done)) (since (wait line) moment) (run.rises line);
}

-- ---- the end

-- by which none waits
served_with : (first : ℕ) (done : List DoneOrder) (wait other : ℕ → Option ℕ) → ((line : ℕ) → wait line ≡ other line) → AreServed first done wait → AreServed first done other
served_with first [] wait other same served = λ line. sym (same line) ∙ served line
served_with first (Turned now visits ∷ done) wait other same served =
    (served.0, served.1, λ line. subst (λ (p : Option ℕ). IsServed (nat_eq (slot_of line) (next_slot first done)) (max (latest done) now) (visits line) (served.0 line) p) (same line) (served.2 line))
served_with first (Stored visits ∷ done) wait other same served = (served.0, served.1, λ line. ((served.2 line).0, sym (same line) ∙ (served.2 line).1))
served_with first (AskedOf of now what answer ∷ done) wait other same served = (served_with first done wait other same served.0, sym (same of) ∙ served.1)
served_with first (Woken of ∷ done) wait other same served = served_with first done wait other same served

pub none_served : (first moment : ℕ) (done : List DoneOrder) (wait : ℕ → Option ℕ) (old shown actual : List PlaceValue) (slot count : ℕ) (x y : Option (List Word)) → Run first moment done wait old shown actual slot count x y
    → ((i : ℕ) → waits_of actual i ≡ false) → AreServed first done none_waits
none_served first moment done wait old shown actual slot count x y run off =
    served_with first done wait none_waits (λ line. none_waiting (wait line) (run.trails.flags line ∙ off line)) run.served

-- and each line's moments rose to the latest
pub rises_to : (first moment : ℕ) (done : List DoneOrder) (wait : ℕ → Option ℕ) (old shown actual : List PlaceValue) (slot count : ℕ) (x y : Option (List Word)) → Run first moment done wait old shown actual slot count x y
    → ((i : ℕ) → waits_of actual i ≡ false) → (line : ℕ) → RiseTo (actions_of line (operations_of done)) (latest done)
rises_to first moment done wait old shown actual slot count x y run off line =
    subst (λ (m : ℕ). RiseTo (actions_of line (operations_of done)) m) run.moment_is
    (subst (λ (o : Option ℕ). RiseTo (actions_of line (operations_of done)) (since o moment)) (none_waiting (wait line) (run.trails.flags line ∙ off line)) (run.rises line))

pub no_order : (o : Option Order) → ((order : Order) → o ≡ Some order → ⊥) → o ≡ None
no_order None never = refl
no_order (Some order) never = absurd (never order refl)
