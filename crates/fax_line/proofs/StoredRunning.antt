-- A run with a store goes on, or one without.
use Rattle.std.proofs.Common.{◌≡◌, ◌≢◌, ◌+◌, ◌-◌, ◌≤◌, ◌⊎◌, ℕ, max, inl, inr, Bool, true, false, is_some, List, [], ◌∷◌, Option, Some, None, refl, sym, ◌∙◌, ap, subst, arith, nat_eq, if◌then◌else◌}
use Rattle.std.proofs.lemmas.Bool.{eqb-true}
use Rattle.fax_gateway.specs.Wires.{Grows}
use Rattle.fax_line.specs.declared.asked.LineAnswer.{LineAnswer}
use Rattle.fax_line.specs.declared.asked.LineRequest.{LineRequest}
use Rattle.fax_line.specs.declared.order.Order.{Order}
use Rattle.fax_line.specs.declared.order.Order.TheVariants as order
use Rattle.fax_line.specs.declared.settling.LineReport.{LineReport}
use Rattle.fax_line.specs.declared.settling.PageToStore.{PageToStore}
use Rattle.fax_line.specs.declared.settling.PutResult.{PutResult}
use Rattle.fax_line.specs.Operations.{AllStayHeld, AllWaitStill, AreFree, AreRising, AskFrees, AsksLine, LinesValue, LinesWent, VisitsLines, VisitsTell, WaitAlike, WakesLine, WakesOne, slot_after, slot_before, slot_of, visits_at, waits_of}
use Rattle.fax_line.specs.Pacing.{IsPaced}
use Rattle.fax_line.specs.StoredRuns.{EndUnstored, FreeWhere, IsFreeWhere, IsSettled, RanIf, Settles, StoresIf, TurnEnds}
use Rattle.fax_line.specs.Settling.{LetOut}
use Rattle.fax_line.specs.Places.{PlaceValue, Visit}
use Rattle.fax_line.specs.Runs.{AreServed, AskedOf, DoneOrder, Stored, Turned, Woken, latest, next_slot, none_waits, operations_of, turned_in, visit_stored}
use Rattle.fax_line.specs.Words.{Answers, Asks, Word}
use Rattle.fax_line.proofs.Early.{Early, FreeIf, early_none}
use Rattle.fax_line.proofs.Recorded.{alike_woken, ask_recorded, flags_alike, free_trails, freed_off, none_in, none_of, out_recorded, out_turn, pick, settled_recorded, shown_is, stored_tells, stored_went, stored_which, turn_recorded, turn_unstored, wake_recorded, woken}
use Rattle.fax_line.proofs.Running.{Run, asked_on, none_served, rises_to, stored_on, turned_on, visits_on, wait_on, went_none, woken_on}
use Rattle.fax_line.proofs.Slots.{waits_is}

-- something may have been stored meanwhile
abbrev pub After : List DoneOrder → List DoneOrder → Type 0
After done after = (after ≡ done) ⊎ ((visits : ℕ → Visit) × (after ≡ Stored visits ∷ done))

pub paced_after : {P : Type 0} (gives : Option Order → P → P → Type 0) (hears : ℕ → Option LineAnswer → P → P → Type 0) (sees : P → P → Type 0) (done after : List DoneOrder) (old new : P)
    → After done after → IsPaced gives hears sees done old new → IsPaced gives hears sees after old new
paced_after {P} gives hears sees done after old new (inl same) paced = subst (λ (l : List DoneOrder). IsPaced gives hears sees l old new) (sym same) paced
paced_after {P} gives hears sees done after old new (inr (visits, is)) paced = subst (λ (l : List DoneOrder). IsPaced gives hears sees l old new) (sym is) paced

some_is : (o : Option ℕ) → o ≢ None → is_some o ≡ true
some_is None some = absurd (some refl)
some_is (Some moment) some = refl

module _ (K : Type 0) (same : K → K → Type 0) (puts : List PageToStore → Bool → K → K → Type 0) (notes : ℕ → ℕ → K → K → Type 0) (ends : List LineReport → K → K → Type 0) where
  same_some : (l x : K) → Some l ≡ Some x → l ≡ x
  same_some l x is = cc

  no_some : (l : K) → Some l ≡ None → ⊥
  no_some l is = cc

  pub ran_none : (lines : List PlaceValue) (k : Option K) → RanIf same puts notes ends [] lines lines k k
  ran_none lines None = (refl, refl)
  ran_none lines (Some k) = (k, refl, [], (refl, refl))

  stored_ran : (visits : ℕ → Visit) (end : PutResult) (done : List DoneOrder) (a shown actual lines : List PlaceValue) (k : Option K) (l m : K) → RanIf same puts notes ends done a shown k (Some l)
      → LinesWent (VisitsLines visits ∷ []) shown actual → VisitsTell visits shown actual → IsSettled same puts notes ends (turned_in visits) end actual lines l m
      → RanIf same puts notes ends (Stored visits ∷ done) a lines k (Some m)
  stored_ran visits end done a shown actual lines None l m (is, ran) went tells settled = absurd (no_some l is)
  stored_ran visits end done a shown actual lines (Some k) l m (x, is, all, ran) went tells settled =
      (m, refl, end ∷ all, (shown, actual, x, ran, went, tells, subst (λ (y : K). IsSettled same puts notes ends (turned_in visits) end actual lines y m) (same_some l x is) settled))

  turned_ran : (now : ℕ) (visits : ℕ → Visit) (done : List DoneOrder) (a shown turned new : List PlaceValue) (k : Option K) (l : K) → RanIf same puts notes ends done a shown k (Some l)
      → LinesWent (VisitsLines visits ∷ []) shown turned → VisitsTell visits shown turned → EndUnstored (turned_in visits) turned new
      → RanIf same puts notes ends (Turned now visits ∷ done) a new k (Some l)
  turned_ran now visits done a shown turned new None l (is, ran) went tells out = absurd (no_some l is)
  turned_ran now visits done a shown turned new (Some k) l (x, is, all, ran) went tells out = (x, is, all, (shown, turned, ran, went, tells, out))

  out_ran : (now : ℕ) (visits : ℕ → Visit) (done : List DoneOrder) (a shown turned new : List PlaceValue) (k : Option K) → RanIf same puts notes ends done a shown k None
      → LinesWent (VisitsLines visits ∷ []) shown turned → VisitsTell visits shown turned → LetOut (turned_in visits) turned new
      → RanIf same puts notes ends (Turned now visits ∷ done) a new k None
  out_ran now visits done a shown turned new None (is, ran) went tells out = (is, (shown, turned, ran, went, tells, out))
  out_ran now visits done a shown turned new (Some k) (x, is, all, ran) went tells out = absurd (no_some x (sym is))

  asked_ran : (of now : ℕ) (what : LineRequest) (answer : Option LineAnswer) (done : List DoneOrder) (a shown new : List PlaceValue) (k l : Option K) → RanIf same puts notes ends done a shown k l
      → LinesWent (AsksLine of (max (latest done) now) what answer ∷ []) shown new → AskFrees of what answer shown new → RanIf same puts notes ends (AskedOf of now what answer ∷ done) a new k l
  asked_ran of now what answer done a shown new None l (is, ran) went frees = (is, (shown, ran, went, frees))
  asked_ran of now what answer done a shown new (Some k) l (x, is, all, ran) went frees = (x, is, all, (shown, ran, went, frees))

  woken_ran : (of : ℕ) (done : List DoneOrder) (a shown new : List PlaceValue) (k l : Option K) → RanIf same puts notes ends done a shown k l
      → LinesWent (WakesLine of ∷ []) shown new → AllStayHeld shown new → RanIf same puts notes ends (Woken of ∷ done) a new k l
  woken_ran of done a shown new None l (is, ran) went stays = (is, (shown, ran, went, stays))
  woken_ran of done a shown new (Some k) l (x, is, all, ran) went stays = (x, is, all, (shown, ran, went, stays))

  -- ---- how far a run came

  pub record On (first moment : ℕ) (old actual : List PlaceValue) (slot count : ℕ) (x y : Option (List Word)) (k l : Option K) (done : List DoneOrder) : Type 0 where
    pub wait : ℕ → Option ℕ
    pub shown : List PlaceValue
    pub run : Run first moment done wait old shown actual slot count x y
    pub ran : RanIf same puts notes ends done old shown k l
    pub free : FreeIf l actual

  -- what waited was stored
  pub store_state : (first moment : ℕ) (old actual lines : List PlaceValue) (slot next count : ℕ) (x y z : Option (List Word)) (k : Option K) (l m : K) (saw : K → Type 0) (done : List DoneOrder)
      → On first moment old actual slot count x y k (Some l) done → Settles same puts notes ends saw actual lines l m → next ≡ slot → z ≡ y
      → (after : List DoneOrder) × After done after × On first moment old lines next count x z k (Some m) after
  store_state first moment old actual lines slot next count x y z k l m saw done on settles next_is words =
      let visits : ℕ → Visit = λ i. visit_stored (on.wait i) in
      let went : LinesWent (VisitsLines visits ∷ []) on.shown actual = stored_went moment on.wait on.shown actual on.run.trails in
      let tells : VisitsTell visits on.shown actual = stored_tells moment on.wait on.shown actual on.run.trails in
      let settled : IsSettled same puts notes ends (turned_in visits) settles.end actual lines l m =
      settled_recorded same puts notes ends visits settles.end actual settles.left lines l m (λ i. stored_which (on.wait i) ∙ on.run.trails.flags i) settles.is_settled settles.freed in (
        Stored visits ∷ done,
        inr (visits, refl),
        record {
          wait = λ i. None;
          shown = lines;
          run = stored_on first moment count slot next done on.wait old on.shown actual lines x y z on.run went settles.went (freed_off settles.left lines settles.freed) next_is words;
          ran = stored_ran visits settles.end done old on.shown actual lines k l m on.ran went tells settled;
          free = tt;
        },
      )

  still_state : (first moment : ℕ) (old actual lines : List PlaceValue) (slot next count : ℕ) (x y z : Option (List Word)) (k l m : Option K) (done : List DoneOrder)
      → On first moment old actual slot count x y k l done → lines ≡ actual → m ≡ l → next ≡ slot → z ≡ y → On first moment old lines next count x z k m done
  still_state first moment old actual lines slot next count x y z k l m done on lines_is store_is next_is words =
      subst (λ (p : List PlaceValue). On first moment old p next count x z k m done) (sym lines_is)
      (subst (λ (o : Option K). On first moment old actual next count x z k o done) (sym store_is)
      (subst (λ (s : ℕ). On first moment old actual s count x z k l done) (sym next_is)
      (subst (λ (w : Option (List Word)). On first moment old actual slot count x w k l done) (sym words) on)))

  pub stores_state : (first moment : ℕ) (old actual lines : List PlaceValue) (slot next count : ℕ) (x y z : Option (List Word)) (k l m : Option K) (done : List DoneOrder)
      → On first moment old actual slot count x y k l done → StoresIf same puts notes ends actual lines l m → next ≡ slot → z ≡ y
      → (after : List DoneOrder) × After done after × On first moment old lines next count x z k m after
  stores_state first moment old actual lines slot next count x y z k None m done on stores next_is words =
      (done, inl refl, still_state first moment old actual lines slot next count x y z k None m done on stores.1 stores.0 next_is words)
  stores_state first moment old actual lines slot next count x y z k (Some l) m done on (left, is, inl (lines_is, left_is)) next_is words =
      (done, inl refl, still_state first moment old actual lines slot next count x y z k (Some l) m done on lines_is (is ∙ ap (λ (v : K). Some v) left_is) next_is words)
  stores_state first moment old actual lines slot next count x y z k (Some l) m done on (left, is, inr settles) next_is words =
      subst (λ (o : Option K). (after : List DoneOrder) × After done after × On first moment old lines next count x z k o after) (sym is)
      (store_state first moment old actual lines slot next count x y z k l left (λ kept. Unit {0}) done on settles next_is words)

  -- a turn of a slot
  pub turn_state : (first now moment later : ℕ) (old actual turned lines : List PlaceValue) (slot next after_slot count : ℕ) (x y z w : Option (List Word)) (k l m : Option K) (done : List DoneOrder)
      → On first moment old actual slot count x y k l done → Early slot actual → later ≡ max moment now
      → LinesWent (VisitsLines (visits_at slot later actual) ∷ []) actual turned → VisitsTell (visits_at slot later actual) actual turned → AllWaitStill actual turned
      → next ≡ slot_after slot → Grows (Asks (Some (order.Turn now)) ∷ []) y z
      → TurnEnds same puts notes ends slot turned lines l m → after_slot ≡ next → w ≡ z
      → (visits : ℕ → Visit) × (after : List DoneOrder) × After (Turned now visits ∷ done) after × On first later old lines after_slot (count + 1) x w k m after
  turn_state first now moment later old actual turned lines slot next after_slot count x y z w k None m done on early later_is went tells still next_is asked turn slot_is words =
      let low : moment ≤ later = omega (arith, later_is) in
      let recorded = out_turn slot moment later on.wait on.shown actual turned lines on.free on.run.trails went tells still turn.2 turn.3 in
      let out = out_recorded slot later actual turned lines on.free tells turn.1 in (
        visits_at slot later actual,
        Turned now (visits_at slot later actual) ∷ done,
        inl refl,
        still_state first later old lines lines next after_slot (count + 1) x z w k None m (Turned now (visits_at slot later actual) ∷ done)
            (record {
              wait = on.wait;
              shown = lines;
              run = turned_on first now moment later count slot next done on.wait on.wait old on.shown turned lines lines (visits_at slot later actual) x y z on.run later_is recorded next_is asked;
              ran = out_ran now (visits_at slot later actual) done old on.shown turned lines k on.ran recorded.went recorded.tells out;
              free = λ i. sym (recorded.trails.flags i) ∙ ap is_some (none_of (on.wait i) (on.run.trails.flags i ∙ on.free i));
            }) refl turn.0 slot_is words,
      )
  turn_state first now moment later old actual turned lines slot next after_slot count x y z w k (Some l) m done on early later_is went tells still next_is asked (left, is, aside, sets, settled, stores) slot_is words =
      let low : moment ≤ later = omega (arith, later_is) in
      let visits = visits_on slot later actual aside in
      let never : (i : ℕ) → nat_eq (slot_of i) slot ≡ true → on.wait i ≡ None = λ i at. early_none slot actual (on.wait i) i early (λ some. sym (on.run.trails.flags i) ∙ some_is (on.wait i) some) at in
      let recorded = turn_recorded slot moment later on.wait on.shown actual turned aside low never on.run.trails went tells still sets settled in
      let unstored = turn_unstored slot moment later on.wait on.shown actual turned aside low never on.run.trails went tells still sets settled in
      let here : On first later old aside next (count + 1) x z k (Some l) (Turned now visits ∷ done) = record {
        wait = wait_on on.wait later aside;
        shown = pick aside on.shown aside;
        run = turned_on first now moment later count slot next done on.wait (wait_on on.wait later aside) old on.shown (pick aside on.shown turned) (pick aside on.shown aside) aside visits x y z on.run later_is recorded next_is asked;
        ran = turned_ran now visits done old on.shown (pick aside on.shown turned) (pick aside on.shown aside) k l on.ran recorded.went recorded.tells unstored;
        free = tt;
      } in
      let put = stores_state first later old aside lines next after_slot (count + 1) x z w k (Some l) m (Turned now visits ∷ done) here (left, is, stores) slot_is words in
      (visits, put.0, put.1, put.2)

  still_free : (l : Option K) (actual lines : List PlaceValue) → WaitAlike actual lines → FreeIf l actual → FreeIf l lines
  still_free None actual lines alike free = λ i. flags_alike actual lines alike i ∙ free i
  still_free (Some k) actual lines alike free = tt

  -- something is asked of a line that does not wait
  pub ask_state : (first of now moment later : ℕ) (what : LineRequest) (answer : Option LineAnswer) (old actual lines : List PlaceValue) (slot next count : ℕ) (x y z w : Option (List Word)) (k l : Option K) (done : List DoneOrder)
      → On first moment old actual slot count x y k l done → later ≡ max moment now → waits_of actual of ≡ false → LinesWent (AsksLine of later what answer ∷ []) actual lines → AskFrees of what answer actual lines
      → WaitAlike actual lines → next ≡ slot → Grows (Asks (Some (order.Ask of now what)) ∷ []) y z → Grows (Answers of answer ∷ []) z w
      → On first later old lines next (count + 1) x w k l (AskedOf of now what answer ∷ done)
  ask_state first of now moment later what answer old actual lines slot next count x y z w k l done on later_is off went frees alike next_is asked answered =
      let low : moment ≤ later = omega (arith, later_is) in
      let free : on.wait of ≡ None = none_of (on.wait of) (on.run.trails.flags of ∙ off) in
      let recorded = ask_recorded of later moment later what answer on.wait on.shown actual lines low free on.run.trails went frees alike in
      let moment_now : later ≡ max (latest done) now = later_is ∙ ap (λ (m : ℕ). max m now) on.run.moment_is in record {
        wait = on.wait;
        shown = pick lines on.shown lines;
        run = asked_on first of now moment later count slot next what answer done on.wait old on.shown (pick lines on.shown lines) lines x y z w actual on.run later_is free recorded next_is asked answered;
        ran = asked_ran of now what answer done old on.shown (pick lines on.shown lines) k l on.ran
            (subst (λ (m : ℕ). LinesWent (AsksLine of m what answer ∷ []) on.shown (pick lines on.shown lines)) moment_now recorded.went) recorded.frees;
        free = still_free l actual lines alike on.free;
      }

  -- one is woken
  pub wake_state : (first of moment : ℕ) (old actual lines : List PlaceValue) (slot next count : ℕ) (x y z : Option (List Word)) (k l : Option K) (done : List DoneOrder)
      → On first moment old actual slot count x y k l done → WakesOne of actual lines → next ≡ slot → Grows (Asks (Some (order.Wake of)) ∷ []) y z
      → On first moment old lines next (count + 1) x z k l (Woken of ∷ done)
  wake_state first of moment old actual lines slot next count x y z k l done on wakes next_is asked =
      let recorded = wake_recorded of moment on.wait on.shown actual lines on.run.trails wakes in record {
        wait = on.wait;
        shown = woken of on.shown;
        run = woken_on first of moment count slot next done on.wait old on.shown (woken of on.shown) actual lines x y z on.run recorded next_is asked;
        ran = woken_ran of done old on.shown (woken of on.shown) k l on.ran recorded.went recorded.stays;
        free = still_free l actual lines (alike_woken of actual lines wakes) on.free;
      }

  -- what it saw of the store is forgotten
  pub settles_so : (saw : K → Type 0) (old new : List PlaceValue) (before after : K) → Settles same puts notes ends saw old new before after → Settles same puts notes ends (λ kept. Unit {0}) old new before after
  settles_so saw old new before after settles =
      record { end = settles.end; left = settles.left; is_settled = settles.is_settled; freed = settles.freed; went = settles.went; saw_stored = tt }

  -- ---- a run begins

  free_if : (l : Option K) (lines : List PlaceValue) → AreFree lines → FreeIf l lines
  free_if None lines free = λ i. none_in lines i free
  free_if (Some k) lines free = tt

  pub begun_state : (first : ℕ) (lines : List PlaceValue) (x : Option (List Word)) (k : Option K) → AreFree lines → Grows [] x x → On first 0 lines lines first 0 x x k k []
  begun_state first lines x k free words = record {
    wait = λ i. None;
    shown = lines;
    run = record {
      went = went_none lines;
      slot_is = refl;
      moment_is = refl;
      many = refl;
      words = words;
      served = λ line. refl;
      trails = free_trails 0 lines free;
      rises = λ line. tt;
    };
    ran = ran_none lines k;
    free = free_if k lines free;
  }

  -- as it stands after an order
  pub on_is : (first moment latest count : ℕ) (old : List PlaceValue) (lines now_lines : LinesValue) (x y z : Option (List Word)) (k l m : Option K) (done : List DoneOrder) → latest ≡ moment → now_lines ≡ lines → m ≡ l → z ≡ y
      → On first moment old lines.lines lines.slot count x y k l done → On first latest old now_lines.lines now_lines.slot count x z k m done
  on_is first moment latest count old lines now_lines x y z k l m done moment_is lines_is store_is words on =
      subst (λ (n : ℕ). On first n old now_lines.lines now_lines.slot count x z k m done) (sym moment_is)
      (subst (λ (p : LinesValue). On first moment old p.lines p.slot count x z k m done) (sym lines_is)
      (subst (λ (o : Option K). On first moment old lines.lines lines.slot count x z k o done) (sym store_is)
      (subst (λ (w : Option (List Word)). On first moment old lines.lines lines.slot count x w k l done) (sym words) on)))

  -- ---- a run ends

  -- a line that is asked does not wait
  pub asks_free : (l m : Option K) (old lines : List PlaceValue) (of : ℕ) → FreeIf l old → StoresIf same puts notes ends old lines l m → IsFreeWhere l of lines → waits_of lines of ≡ false
  asks_free None m old lines of free stores is = ap (λ (p : List PlaceValue). waits_of p of) stores.1 ∙ free of
  asks_free (Some k) m old lines of free stores is = is

  pub all_free : (l m : Option K) (old lines : List PlaceValue) → FreeIf l old → StoresIf same puts notes ends old lines l m → FreeWhere l lines → AreFree lines
  all_free None m old lines free stores is = λ i d there. sym (waits_is lines i d there) ∙ (ap (λ (p : List PlaceValue). waits_of p i) stores.1 ∙ free i)
  all_free (Some k) m old lines free stores is = is

  pub stores_none : (lines : List PlaceValue) (l : Option K) → StoresIf same puts notes ends lines lines l l
  stores_none lines None = (refl, refl)
  stores_none lines (Some k) = (k, refl, inl (refl, refl))

  -- what a run comes to that ends where none waits
  pub record Ended (first : ℕ) (old lines : List PlaceValue) (slot : ℕ) (k l : Option K) (done : List DoneOrder) : Type 0 where
    pub went : LinesWent (operations_of done) old lines
    pub slot_is : slot ≡ next_slot first done
    pub served : AreServed first done none_waits
    pub rising : AreRising (operations_of done) (latest done)
    pub ran : RanIf same puts notes ends done old lines k l

  pub ended : (first moment : ℕ) (old lines : List PlaceValue) (slot count : ℕ) (x y : Option (List Word)) (k l : Option K) (done : List DoneOrder) → On first moment old lines slot count x y k l done → AreFree lines
      → Ended first old lines slot k l done
  ended first moment old lines slot count x y k l done on free =
      let none : (i : ℕ) → waits_of lines i ≡ false = λ i. none_in lines i free in
      let same_lines : on.shown ≡ lines = shown_is moment on.wait on.shown lines on.run.trails none in
      record {
        went = subst (λ (p : List PlaceValue). LinesWent (operations_of done) old p) same_lines on.run.went;
        slot_is = on.run.slot_is;
        served = none_served first moment done on.wait old on.shown lines slot count x y on.run none;
        rising = λ line. rises_to first moment done on.wait old on.shown lines slot count x y on.run none line;
        ran = subst (λ (p : List PlaceValue). RanIf same puts notes ends done old p k l) same_lines on.ran;
      }

-- The slot that had the last turn is the one before the next.
if_more : (slot : ℕ) (b : Bool) → nat_eq (slot + 1) 0 ≡ b → (if b then 39 else slot + 1 - 1) ≡ slot
if_more slot true is = let none : slot + 1 ≡ 0 = eqb-true (slot + 1) 0 is in absurd (omega arith)
if_more slot false is = omega arith

if_back : (slot : ℕ) (b : Bool) → nat_eq slot 39 ≡ b → slot_before (if b then 0 else slot + 1) ≡ slot
if_back slot true is = let same : slot ≡ 39 = eqb-true slot 39 is in sym same
if_back slot false is = if_more slot (nat_eq (slot + 1) 0) refl

pub slot_back : (slot : ℕ) → slot_before (slot_after slot) ≡ slot
slot_back slot = if_back slot (nat_eq slot 39) refl
