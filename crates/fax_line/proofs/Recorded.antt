-- A run as it is recorded: a line that waits has not had its turn there yet.
use Rattle.std.proofs.Common.{◌≡◌, ◌≢◌, ◌∙◌, ℕ, zero, suc, ◌<◌, ◌≤◌, inl, inr, ◌⊎◌, Bool, true, false, ◌&&◌, nat_eq, nat_lt, if◌then◌else◌, List, [], ◌∷◌, ◌++◌, length, Option, Some, None, is_some, option_map, slice_get, slice_index_or, refl, sym, ap, subst, arith}
use Rattle.std.proofs.lemmas.Bool.{eqb-false, eqb-true, ltb-false, ltb-true}
use Rattle.fax_line.specs.declared.asked.LineAnswer.{LineAnswer}
use Rattle.fax_line.specs.declared.asked.LineRequest.{LineRequest}
use Rattle.fax_line.specs.Actions.{Action, Asks, Turns, Wakes}
use Rattle.fax_line.specs.Operations.{AllStayHeld, AllWaitStill, AreFreed, AskFrees, AsksLine, IsFreed, LinesWent, VisitsLines, VisitsTell, WaitAlike, WakesLine, WakesOne, rests_at, slot_of, visits_at, waits_of}
use Rattle.fax_line.specs.Places.{GoesInPlace, Passes, PlaceValue, StaysHeld, TellsVisit, TurnsAt, Visit, WaitsStill, actions_by, is_turn, visit_at}
use Rattle.fax_line.specs.Runs.{IsServed, turned_in, visit_stored}
use Rattle.fax_line.specs.Settling.{EndsTurn, EndsWhere, IsPageOf, LetOut, LetsOutSlot, SetAside, SetsAsideIf, has_page, is_stored_in, is_to_store}
use Rattle.fax_line.specs.StoredRuns.{EndUnstored, EndsUnstored, IsSettled, NotesFirst, NotesPlace, NotesWhere, report_if, report_list, reports_at}
use Rattle.fax_line.specs.declared.settling.LineReport.{LineReport}
use Rattle.fax_line.specs.declared.settling.PageToStore.{PageToStore}
use Rattle.fax_line.specs.declared.settling.PutResult.{PutResult}
use Rattle.fax_line.proofs.Places.{place_none, place_wakes}
use Rattle.fax_line.proofs.Slots.{waits_is}
use Rattle.fax_line.proofs.Stepping.{actions_nil}
use Rattle.fax_line.proofs.Turning.{still_held}

pub no_two : (b : Bool) → b ≡ true → b ≡ false → ⊥
no_two true is other = cc
no_two false is other = cc

-- ---- of two lists, one line by one

-- where a line waits, as it is in the one list, and else as in the other
abbrev pub pick : (flags ones others : List PlaceValue) → List PlaceValue
pick [] ones others = []
pick (f ∷ flags) [] others = []
pick (f ∷ flags) (v ∷ ones) [] = []
pick (f ∷ flags) (v ∷ ones) (a ∷ others) = (if f.waits then v else a) ∷ pick flags ones others

pub pick_many : (flags ones others : List PlaceValue) → length ones ≡ length flags → length others ≡ length flags → length (pick flags ones others) ≡ length flags
pick_many [] ones others first second = refl
pick_many (f ∷ flags) [] others first second = absurd (omega (arith, first))
pick_many (f ∷ flags) (v ∷ ones) [] first second = absurd (omega (arith, second))
pick_many (f ∷ flags) (v ∷ ones) (a ∷ others) first second = ap suc (pick_many flags ones others (omega (arith, first)) (omega (arith, second)))

pub pick_at : (flags ones others : List PlaceValue) (i : ℕ) (d : PlaceValue) → length ones ≡ length flags → length others ≡ length flags → i < length flags
    → slice_index_or (pick flags ones others) i d ≡ (if (slice_index_or flags i d).waits then slice_index_or ones i d else slice_index_or others i d)
pick_at [] ones others i d first second low = absurd (omega (arith, low))
pick_at (f ∷ flags) [] others i d first second low = absurd (omega (arith, first))
pick_at (f ∷ flags) (v ∷ ones) [] i d first second low = absurd (omega (arith, second))
pick_at (f ∷ flags) (v ∷ ones) (a ∷ others) zero d first second low = refl
pick_at (f ∷ flags) (v ∷ ones) (a ∷ others) (suc i) d first second low = pick_at flags ones others i d (omega (arith, first)) (omega (arith, second)) (omega (arith, low))

-- one line is woken
abbrev pub woken : ℕ → List PlaceValue → List PlaceValue
woken i [] = []
woken zero (v ∷ lines) = record v { awake = true } ∷ lines
woken (suc i) (v ∷ lines) = v ∷ woken i lines

pub woken_many : (i : ℕ) (lines : List PlaceValue) → length (woken i lines) ≡ length lines
woken_many i [] = refl
woken_many zero (v ∷ lines) = refl
woken_many (suc i) (v ∷ lines) = ap suc (woken_many i lines)

woken_is : (i : ℕ) (lines : List PlaceValue) (d : PlaceValue) → i < length lines → slice_index_or (woken i lines) i d ≡ record (slice_index_or lines i d) { awake = true }
woken_is i [] d low = absurd (omega (arith, low))
woken_is zero (v ∷ lines) d low = refl
woken_is (suc i) (v ∷ lines) d low = woken_is i lines d (omega (arith, low))

woken_other : (i j : ℕ) (lines : List PlaceValue) (d : PlaceValue) → j ≢ i → slice_index_or (woken i lines) j d ≡ slice_index_or lines j d
woken_other i j [] d unlike = refl
woken_other zero zero (v ∷ lines) d unlike = absurd (unlike refl)
woken_other zero (suc j) (v ∷ lines) d unlike = refl
woken_other (suc i) zero (v ∷ lines) d unlike = refl
woken_other (suc i) (suc j) (v ∷ lines) d unlike = woken_other i j lines d (λ same. unlike (ap suc same))

woken_by : (i j : ℕ) (lines : List PlaceValue) (d : PlaceValue) → j < length lines → (b : Bool) → nat_eq j i ≡ b
    → slice_index_or (woken i lines) j d ≡ (if b then record (slice_index_or lines j d) { awake = true } else slice_index_or lines j d)
woken_by i j lines d low true is =
    subst (λ (k : ℕ). slice_index_or (woken k lines) j d ≡ record (slice_index_or lines j d) { awake = true }) (eqb-true j i is) (woken_is j lines d low)
woken_by i j lines d low false is = woken_other i j lines d (eqb-false j i is)

pub woken_at : (i j : ℕ) (lines : List PlaceValue) (d : PlaceValue) → j < length lines
    → slice_index_or (woken i lines) j d ≡ (if nat_eq j i then record (slice_index_or lines j d) { awake = true } else slice_index_or lines j d)
woken_at i j lines d low = woken_by i j lines d low (nat_eq j i) refl

-- ---- how a line is recorded

abbrev pub TrailsAs : ℕ → Option ℕ → PlaceValue → PlaceValue → Type 0
TrailsAs latest None shown actual = (actual ≡ shown) × (actual.waits ≡ false)
TrailsAs latest (Some moment) shown actual =
    (moment ≤ latest) × GoesInPlace (Turns moment ∷ []) shown actual × TellsVisit (TurnsAt moment) shown actual × (actual.waits ≡ true)

abbrev pub IsLow : ℕ → Option ℕ → Type 0
IsLow latest None = Unit {0}
IsLow latest (Some moment) = moment ≤ latest

low_so : (latest later : ℕ) (o : Option ℕ) → latest ≤ later → IsLow latest o → IsLow later o
low_so latest later None low is = tt
low_so latest later (Some moment) low is = omega (arith, low, is)

pub record Trails (latest : ℕ) (wait : ℕ → Option ℕ) (shown actual : List PlaceValue) : Type 0 where
  pub as_many : length shown ≡ length actual
  pub each : (i : ℕ) (d : PlaceValue) → i < length actual → TrailsAs latest (wait i) (slice_index_or shown i d) (slice_index_or actual i d)
  pub flags : (i : ℕ) → is_some (wait i) ≡ waits_of actual i
  pub low : (i : ℕ) → IsLow latest (wait i)

trails_so : (latest later : ℕ) (o : Option ℕ) (shown actual : PlaceValue) → latest ≤ later → TrailsAs latest o shown actual → TrailsAs later o shown actual
trails_so latest later None shown actual low is = is
trails_so latest later (Some moment) shown actual low is = (omega (arith, low, is.0), is.1, is.2, is.3)

waits_by : (latest : ℕ) (o : Option ℕ) (shown actual : PlaceValue) → TrailsAs latest o shown actual → actual.waits ≡ is_some o
waits_by latest None shown actual is = is.1
waits_by latest (Some moment) shown actual is = is.3

-- the visits by which what waits is recorded
pub stored_went : (latest : ℕ) (wait : ℕ → Option ℕ) (shown actual : List PlaceValue) → Trails latest wait shown actual → LinesWent (VisitsLines (λ i. visit_stored (wait i)) ∷ []) shown actual
stored_went latest wait shown actual trails = record {
  as_many = sym trails.as_many;
  each = λ i d low. by (wait i) (slice_index_or shown i d) (slice_index_or actual i d) (trails.each i d (omega (arith, low, trails.as_many)));
}
  where
    by : (o : Option ℕ) (v a : PlaceValue) → TrailsAs latest o v a → GoesInPlace (actions_by (visit_stored o) ++ []) v a
    by None v a is = subst (λ (p : PlaceValue). GoesInPlace [] v p) (sym is.0) (place_none v)
    by (Some moment) v a is = is.1

pub stored_tells : (latest : ℕ) (wait : ℕ → Option ℕ) (shown actual : List PlaceValue) → Trails latest wait shown actual → VisitsTell (λ i. visit_stored (wait i)) shown actual
stored_tells latest wait shown actual trails = record {
  as_many = sym trails.as_many;
  each = λ i d low. by (wait i) (slice_index_or shown i d) (slice_index_or actual i d) (trails.each i d (omega (arith, low, trails.as_many)));
}
  where
    by : (o : Option ℕ) (v a : PlaceValue) → TrailsAs latest o v a → TellsVisit (visit_stored o) v a
    by None v a is = subst (λ (p : PlaceValue). StaysHeld v p) (sym is.0) (still_held v)
    by (Some moment) v a is = is.2

pub stored_which : (o : Option ℕ) → is_turn (visit_stored o) ≡ is_some o
stored_which None = refl
stored_which (Some moment) = refl

-- ---- once none waits any more

pub none_in : (lines : List PlaceValue) (i : ℕ) → ((k : ℕ) (d : PlaceValue) → k < length lines → (slice_index_or lines k d).waits ≡ false) → waits_of lines i ≡ false
none_in [] i all = refl
none_in (p ∷ lines) zero all = all 0 p (omega arith)
none_in (p ∷ lines) (suc i) all = none_in lines i (λ k d low. all (suc k) d (omega (arith, low)))

pub free_trails : (latest : ℕ) (lines : List PlaceValue) → ((k : ℕ) (d : PlaceValue) → k < length lines → (slice_index_or lines k d).waits ≡ false) → Trails latest (λ i. None) lines lines
free_trails latest lines free = record {
  as_many = refl;
  each = λ i d low. (refl, free i d low);
  flags = λ i. sym (none_in lines i free);
  low = λ i. tt;
}

-- then the lines are as they are recorded
same_lists : (a b : List PlaceValue) → length a ≡ length b → ((i : ℕ) (d : PlaceValue) → i < length b → slice_index_or a i d ≡ slice_index_or b i d) → a ≡ b
same_lists [] [] many each = refl
same_lists [] (p ∷ b) many each = absurd (omega (arith, many))
same_lists (p ∷ a) [] many each = absurd (omega (arith, many))
same_lists (p ∷ a) (q ∷ b) many each =
    ap (λ (x : PlaceValue). x ∷ a) (each 0 p (omega arith)) ∙ ap (λ (l : List PlaceValue). q ∷ l) (same_lists a b (omega (arith, many)) (λ i d there. each (suc i) d (omega (arith, there))))

pub shown_is : (latest : ℕ) (wait : ℕ → Option ℕ) (shown actual : List PlaceValue) → Trails latest wait shown actual → ((i : ℕ) → waits_of actual i ≡ false) → shown ≡ actual
shown_is latest wait shown actual trails off =
    same_lists shown actual trails.as_many (λ i d there. by (wait i) (slice_index_or shown i d) (slice_index_or actual i d) (trails.flags i ∙ off i) (trails.each i d there))
  where
    by : (o : Option ℕ) (v a : PlaceValue) → is_some o ≡ false → TrailsAs latest o v a → v ≡ a
    by None v a none is = sym is.0
    by (Some moment) v a none is = absurd (no_two true refl none)

pub freed_off : (left lines : List PlaceValue) → AreFreed left lines → (i : ℕ) (d : PlaceValue) → i < length lines → (slice_index_or lines i d).waits ≡ false
freed_off left lines freed i d low = ap (λ (p : PlaceValue). p.waits) (freed.each i d (omega (arith, low, freed.as_many)))

-- ---- a turn of a slot

-- since when a line waits after it
abbrev pub waiting : Bool → Option ℕ → ℕ → Option ℕ
waiting false o now = None
waiting true None now = Some now
waiting true (Some moment) now = Some moment

-- A line that waits after it was passed over, as it is recorded.
abbrev pub visit_now : Bool → Visit → Visit
visit_now true visit = Passes
visit_now false visit = visit

-- what is recorded of one line
record RecordedSo (b : Bool) (visit : Visit) (o p : Option ℕ) (now : ℕ) (shown turned new actual : PlaceValue) : Type 0 where
  goes : GoesInPlace (actions_by visit) shown turned
  tells : TellsVisit visit shown turned
  ends : EndsUnstored (is_turn visit) turned new
  after : GoesInPlace [] turned new
  trails : TrailsAs now p new actual
  served : IsServed b now visit o p

-- what came of one line
record CameSo (b r : Bool) (now : ℕ) (actual turned aside : PlaceValue) : Type 0 where
  goes : GoesInPlace (actions_by (visit_at b actual.waits r now)) actual turned
  tells : TellsVisit (visit_at b actual.waits r now) actual turned
  still : WaitsStill actual turned
  sets : SetsAsideIf (b && turned.turned) turned.waits (is_to_store turned.line.turned) turned aside
  after : GoesInPlace [] turned aside

waited_before : (x to_store : Bool) (old new : PlaceValue) → old.waits ≡ true → SetsAsideIf x old.waits to_store old new → new ≡ old
waited_before x to_store old new is sets = by x (subst (λ (w : Bool). SetsAsideIf x w to_store old new) is sets)
  where
    by : (x : Bool) → SetsAsideIf x true to_store old new → new ≡ old
    by true same = same
    by false same = same

-- a line that waited does so still
served_waiting : (b : Bool) (moment now : ℕ) → (b ≡ true → Some moment ≡ None) → IsServed b now Passes (Some moment) (Some moment)
served_waiting true moment now early = let never : Some moment ≡ None = early refl in absurd (cc)
served_waiting false moment now early = (refl, refl)

recorded_waiting : (b r f : Bool) (moment latest now : ℕ) (shown actual turned aside : PlaceValue) → (b ≡ true → Some moment ≡ None) → latest ≤ now → TrailsAs latest (Some moment) shown actual → CameSo b r now actual turned aside
    → aside.waits ≡ f → RecordedSo b (visit_now f (visit_at b actual.waits r now)) (Some moment) (waiting f (Some moment) now) now shown (if f then shown else turned) (if f then shown else aside) aside
recorded_waiting b r f moment latest now shown actual turned aside early low was came is = by f is
  where
    t_same : turned ≡ actual
    t_same = came.still.1 was.3

    t_waits : turned.waits ≡ true
    t_waits = ap (λ (p : PlaceValue). p.waits) t_same ∙ was.3

    same : aside ≡ actual
    same = waited_before (b && turned.turned) (is_to_store turned.line.turned) turned aside t_waits came.sets ∙ t_same

    by : (f : Bool) → aside.waits ≡ f → RecordedSo b (visit_now f (visit_at b actual.waits r now)) (Some moment) (waiting f (Some moment) now) now shown (if f then shown else turned) (if f then shown else aside) aside
    by true is = record {
      goes = place_none shown;
      tells = still_held shown;
      ends = refl;
      after = place_none shown;
      trails = subst (λ (p : PlaceValue). TrailsAs now (Some moment) shown p) (sym same) (trails_so latest now (Some moment) shown actual low was);
      served = served_waiting b moment now early;
    }
    by false is = absurd (no_two actual.waits was.3 (ap (λ (p : PlaceValue). p.waits) (sym same) ∙ is))

-- a line that begins to wait
begins_to : (x w s : Bool) (turned aside : PlaceValue) → SetsAsideIf x w s turned aside → turned.waits ≡ false → w ≡ false → aside.waits ≡ true → (x ≡ true) × (aside ≡ record turned { waits = true })
begins_to false w s turned aside sets off w_off on = absurd (no_two aside.waits on (ap (λ (p : PlaceValue). p.waits) sets ∙ off))
begins_to true true s turned aside sets off w_off on = absurd (no_two true refl w_off)
begins_to true false true turned aside sets off w_off on = (refl, sets)
begins_to true false false turned aside sets off w_off on = absurd (no_two aside.waits on sets.1)

-- one that does not
ends_so : (x w s : Bool) (turned aside : PlaceValue) → SetsAsideIf x w s turned aside → w ≡ false → aside.waits ≡ false → (t : Bool) → x ≡ t → s ≡ is_to_store turned.line.turned → EndsUnstored t turned aside
ends_so true true s turned aside sets w_off off t is same = absurd (no_two true refl w_off)
ends_so true false true turned aside sets w_off off t is same = absurd (no_two true refl (ap (λ (p : PlaceValue). p.waits) (sym sets) ∙ off))
ends_so true false false turned aside sets w_off off true is same = (sym same, sets.0)
ends_so true false false turned aside sets w_off off false is same = absurd (no_two true refl is)
ends_so false w s turned aside sets w_off off true is same = absurd (no_two true refl (sym is))
ends_so false w s turned aside sets w_off off false is same = sets

pub and_both : (a b : Bool) → (a && b) ≡ true → (a ≡ true) × (b ≡ true)
and_both true true is = (refl, refl)
and_both true false is = cc
and_both false b is = cc

recorded_free : (b r f : Bool) (latest now : ℕ) (actual turned aside : PlaceValue) → latest ≤ now → actual.waits ≡ false → CameSo b r now actual turned aside
    → aside.waits ≡ f → RecordedSo b (visit_now f (visit_at b false r now)) None (waiting f None now) now actual (if f then actual else turned) (if f then actual else aside) aside
recorded_free b r f latest now actual turned aside low free came is = by f is
  where
    goes : GoesInPlace (actions_by (visit_at b false r now)) actual turned
    goes = subst (λ (w : Bool). GoesInPlace (actions_by (visit_at b w r now)) actual turned) free came.goes

    tells : TellsVisit (visit_at b false r now) actual turned
    tells = subst (λ (w : Bool). TellsVisit (visit_at b w r now) actual turned) free came.tells

    off : turned.waits ≡ false
    off = came.still.0 ∙ free

    turns : (b r : Bool) → b ≡ true → turned.turned ≡ true → TellsVisit (visit_at b false r now) actual turned → GoesInPlace (actions_by (visit_at b false r now)) actual turned
        → aside ≡ record turned { waits = true } → IsServed b now Passes None (Some now) × TrailsAs now (Some now) actual aside
    turns true true at on told went same = absurd (no_two turned.turned on told.0)
    turns true false at on told went same = (
      inr (inr (refl, refl)),
      subst (λ (p : PlaceValue). TrailsAs now (Some now) actual p) (sym same) (omega arith, record { goes = went.goes; awake = went.awake; asleep = went.asleep }, (told.0, told.1), refl),
    )
    turns false r at on told went same = absurd (no_two true refl (sym at))

    is_turned : (b r : Bool) → TellsVisit (visit_at b false r now) actual turned → (b && turned.turned) ≡ is_turn (visit_at b false r now)
    is_turned true true told = told.0
    is_turned true false told = told.0
    is_turned false r told = refl

    is_served : (b r : Bool) → IsServed b now (visit_at b false r now) None None
    is_served true true = inl (refl, refl)
    is_served true false = inr (inl (refl, refl))
    is_served false r = (refl, refl)

    by : (f : Bool) → aside.waits ≡ f → RecordedSo b (visit_now f (visit_at b false r now)) None (waiting f None now) now actual (if f then actual else turned) (if f then actual else aside) aside
    by true on =
        let begins = begins_to (b && turned.turned) turned.waits (is_to_store turned.line.turned) turned aside came.sets off off on in
        let both = and_both b turned.turned begins.0 in
        let so = turns b r both.0 both.1 tells goes begins.1 in record {
          goes = place_none actual;
          tells = still_held actual;
          ends = refl;
          after = place_none actual;
          trails = so.1;
          served = so.0;
        }
    by false stays = record {
      goes = goes;
      tells = tells;
      ends = ends_so (b && turned.turned) turned.waits (is_to_store turned.line.turned) turned aside came.sets off stays (is_turn (visit_at b false r now)) (is_turned b r tells) refl;
      after = came.after;
      trails = (refl, stays);
      served = is_served b r;
    }

recorded_so : (b r f : Bool) (o : Option ℕ) (latest now : ℕ) (shown actual turned aside : PlaceValue) → (b ≡ true → o ≡ None) → latest ≤ now → TrailsAs latest o shown actual → CameSo b r now actual turned aside
    → aside.waits ≡ f → RecordedSo b (visit_now f (visit_at b actual.waits r now)) o (waiting f o now) now shown (if f then shown else turned) (if f then shown else aside) aside
recorded_so b r f (Some moment) latest now shown actual turned aside early low was came is = recorded_waiting b r f moment latest now shown actual turned aside early low was came is
recorded_so b r f None latest now shown actual turned aside early low was came is =
    subst (λ (v : PlaceValue). RecordedSo b (visit_now f (visit_at b actual.waits r now)) None (waiting f None now) now v (if f then v else turned) (if f then v else aside) aside) was.0
    (subst (λ (w : Bool). RecordedSo b (visit_now f (visit_at b w r now)) None (waiting f None now) now actual (if f then actual else turned) (if f then actual else aside) aside) (sym was.1)
    (recorded_free b r f latest now actual turned aside low was.1 came is))

-- of a line that is not there
pub none_there : (lines : List PlaceValue) (i : ℕ) → length lines ≤ i → waits_of lines i ≡ false
none_there [] i gone = refl
none_there (p ∷ lines) zero gone = absurd (omega (arith, gone))
none_there (p ∷ lines) (suc i) gone = none_there lines i (omega (arith, gone))

served_off : (b w f r : Bool) (o : Option ℕ) (now : ℕ) → is_some o ≡ w → w ≡ false → f ≡ false → IsServed b now (visit_now f (visit_at b w r now)) o (waiting f o now)
served_off b true f r o now is off f_off = absurd (no_two true refl off)
served_off b false true r o now is off f_off = absurd (no_two true refl f_off)
served_off b false false r (Some moment) now is off f_off = absurd (no_two true refl is)
served_off true false false true None now is off f_off = inl (refl, refl)
served_off true false false false None now is off f_off = inr (inl (refl, refl))
served_off false false false r None now is off f_off = (refl, refl)

there_by : (i n : ℕ) (b : Bool) → nat_lt i n ≡ b → (i < n) ⊎ (n ≤ i)
there_by i n true is = inl (ltb-true i n is)
there_by i n false is = inr (ltb-false i n is)

pub there_or : (i n : ℕ) → (i < n) ⊎ (n ≤ i)
there_or i n = there_by i n (nat_lt i n) refl

pub some_place : (lines : List PlaceValue) (i : ℕ) → i < length lines → PlaceValue
some_place [] i there = absurd (omega (arith, there))
some_place (p ∷ lines) i there = p

waiting_low : (f : Bool) (o : Option ℕ) (latest now : ℕ) → latest ≤ now → IsLow latest o → IsLow now (waiting f o now)
waiting_low false o latest now low is = tt
waiting_low true None latest now low is = omega arith
waiting_low true (Some moment) latest now low is = omega (arith, low, is)

-- THE TURN OF A SLOT IS RECORDED, but for the lines that wait after it.
pub record Recorded (slot latest now : ℕ) (wait : ℕ → Option ℕ) (visits : ℕ → Visit) (later : ℕ → Option ℕ) (shown turned new actual : List PlaceValue) : Type 0 where
  pub went : LinesWent (VisitsLines visits ∷ []) shown turned
  pub tells : VisitsTell visits shown turned
  pub after : LinesWent [] turned new
  pub trails : Trails now later new actual
  pub served : (i : ℕ) → IsServed (nat_eq (slot_of i) slot) now (visits i) (wait i) (later i)

module _
    (slot latest now : ℕ) (wait : ℕ → Option ℕ) (shown actual turned aside : List PlaceValue) (low : latest ≤ now) (early : (i : ℕ) → nat_eq (slot_of i) slot ≡ true → wait i ≡ None) (trails : Trails latest wait shown actual)
    (went : LinesWent (VisitsLines (visits_at slot now actual) ∷ []) actual turned) (tells : VisitsTell (visits_at slot now actual) actual turned) (still : AllWaitStill actual turned)
    (sets : SetAside slot turned aside) (after : LinesWent [] turned aside) where
  a_many : length actual ≡ length aside
  a_many = sym (sets.as_many ∙ went.as_many)

  v_many : length shown ≡ length aside
  v_many = trails.as_many ∙ a_many

  turned_many : length turned ≡ length aside
  turned_many = sym sets.as_many

  t_many : length (pick aside shown turned) ≡ length aside
  t_many = pick_many aside shown turned v_many turned_many

  n_many : length (pick aside shown aside) ≡ length aside
  n_many = pick_many aside shown aside v_many refl

  abbrev Line : ℕ → PlaceValue → Type 0
  Line i d = RecordedSo (nat_eq (slot_of i) slot) (visit_now (waits_of aside i) (visits_at slot now actual i)) (wait i) (waiting (waits_of aside i) (wait i) now) now (slice_index_or shown i d)
      (if (slice_index_or aside i d).waits then slice_index_or shown i d else slice_index_or turned i d) (if (slice_index_or aside i d).waits then slice_index_or shown i d else slice_index_or aside i d) (slice_index_or aside i d)

  came : (i : ℕ) (d : PlaceValue) → i < length aside → CameSo (nat_eq (slot_of i) slot) (rests_at now actual i) now (slice_index_or actual i d) (slice_index_or turned i d) (slice_index_or aside i d)
  came i d there =
      let a = slice_index_or actual i d in
      let t = slice_index_or turned i d in
      let of : waits_of actual i ≡ a.waits = waits_is actual i d (omega (arith, there, a_many)) in record {
        goes = subst (λ (w : Bool). GoesInPlace (actions_by (visit_at (nat_eq (slot_of i) slot) w (rests_at now actual i) now)) a t) of
            (subst (λ (l : List Action). GoesInPlace l a t) (actions_nil (actions_by (visits_at slot now actual i))) (went.each i d (omega (arith, there, a_many))));
        tells = subst (λ (w : Bool). TellsVisit (visit_at (nat_eq (slot_of i) slot) w (rests_at now actual i) now) a t) of (tells.each i d (omega (arith, there, a_many)));
        still = still.each i d (omega (arith, there, a_many));
        sets = sets.each i d (omega (arith, there, turned_many));
        after = after.each i d (omega (arith, there, turned_many));
      }

  line : (i : ℕ) (d : PlaceValue) → i < length aside → Line i d
  line i d there =
      let a = slice_index_or actual i d in
      let s = slice_index_or aside i d in
      let of : waits_of actual i ≡ a.waits = waits_is actual i d (omega (arith, there, a_many)) in
      let fs : waits_of aside i ≡ s.waits = waits_is aside i d there in
      subst (λ (f : Bool). RecordedSo (nat_eq (slot_of i) slot) (visit_now f (visits_at slot now actual i)) (wait i) (waiting f (wait i) now) now (slice_index_or shown i d)
      (if s.waits then slice_index_or shown i d else slice_index_or turned i d) (if s.waits then slice_index_or shown i d else s) s) (sym fs)
      (subst (λ (w : Bool). RecordedSo (nat_eq (slot_of i) slot) (visit_now s.waits (visit_at (nat_eq (slot_of i) slot) w (rests_at now actual i) now)) (wait i) (waiting s.waits (wait i) now) now (slice_index_or shown i d)
      (if s.waits then slice_index_or shown i d else slice_index_or turned i d) (if s.waits then slice_index_or shown i d else s) s) (sym of)
      (recorded_so (nat_eq (slot_of i) slot) (rests_at now actual i) s.waits (wait i) latest now (slice_index_or shown i d) a (slice_index_or turned i d) s (early i) low
      (trails.each i d (omega (arith, there, a_many))) (came i d there) refl))

  t_at : (i : ℕ) (d : PlaceValue) → i < length aside → slice_index_or (pick aside shown turned) i d ≡ (if (slice_index_or aside i d).waits then slice_index_or shown i d else slice_index_or turned i d)
  t_at i d there = pick_at aside shown turned i d v_many turned_many there

  n_at : (i : ℕ) (d : PlaceValue) → i < length aside → slice_index_or (pick aside shown aside) i d ≡ (if (slice_index_or aside i d).waits then slice_index_or shown i d else slice_index_or aside i d)
  n_at i d there = pick_at aside shown aside i d v_many refl there

  abbrev visit : ℕ → Visit
  visit i = visit_now (waits_of aside i) (visits_at slot now actual i)

  put_goes : (i : ℕ) (d : PlaceValue) → Line i d → i < length aside → GoesInPlace (actions_by (visit i) ++ []) (slice_index_or shown i d) (slice_index_or (pick aside shown turned) i d)
  put_goes i d is there =
      subst (λ (l : List Action). GoesInPlace l (slice_index_or shown i d) (slice_index_or (pick aside shown turned) i d)) (sym (actions_nil (actions_by (visit i))))
      (subst (λ (p : PlaceValue). GoesInPlace (actions_by (visit i)) (slice_index_or shown i d) p) (sym (t_at i d there)) is.goes)

  put_tells : (i : ℕ) (d : PlaceValue) → Line i d → i < length aside → TellsVisit (visit i) (slice_index_or shown i d) (slice_index_or (pick aside shown turned) i d)
  put_tells i d is there = subst (λ (p : PlaceValue). TellsVisit (visit i) (slice_index_or shown i d) p) (sym (t_at i d there)) is.tells

  put_ends : (i : ℕ) (d : PlaceValue) → Line i d → i < length aside → EndsUnstored (is_turn (visit i)) (slice_index_or (pick aside shown turned) i d) (slice_index_or (pick aside shown aside) i d)
  put_ends i d is there =
      subst (λ (p : PlaceValue). EndsUnstored (is_turn (visit i)) p (slice_index_or (pick aside shown aside) i d)) (sym (t_at i d there))
      (subst (λ (p : PlaceValue). EndsUnstored (is_turn (visit i)) (if (slice_index_or aside i d).waits then slice_index_or shown i d else slice_index_or turned i d) p) (sym (n_at i d there)) is.ends)

  put_after : (i : ℕ) (d : PlaceValue) → Line i d → i < length aside → GoesInPlace [] (slice_index_or (pick aside shown turned) i d) (slice_index_or (pick aside shown aside) i d)
  put_after i d is there =
      subst (λ (p : PlaceValue). GoesInPlace [] p (slice_index_or (pick aside shown aside) i d)) (sym (t_at i d there))
      (subst (λ (p : PlaceValue). GoesInPlace [] (if (slice_index_or aside i d).waits then slice_index_or shown i d else slice_index_or turned i d) p) (sym (n_at i d there)) is.after)

  put_trails : (i : ℕ) (d : PlaceValue) → Line i d → i < length aside → TrailsAs now (waiting (waits_of aside i) (wait i) now) (slice_index_or (pick aside shown aside) i d) (slice_index_or aside i d)
  put_trails i d is there = subst (λ (p : PlaceValue). TrailsAs now (waiting (waits_of aside i) (wait i) now) p (slice_index_or aside i d)) (sym (n_at i d there)) is.trails

  some_waiting : (f : Bool) (o : Option ℕ) → is_some (waiting f o now) ≡ f
  some_waiting true None = refl
  some_waiting true (Some moment) = refl
  some_waiting false o = refl

  flags_at : (i : ℕ) → is_some (waiting (waits_of aside i) (wait i) now) ≡ waits_of aside i
  flags_at i = some_waiting (waits_of aside i) (wait i)

  served_at : (i : ℕ) → (i < length aside) ⊎ (length aside ≤ i) → IsServed (nat_eq (slot_of i) slot) now (visit i) (wait i) (waiting (waits_of aside i) (wait i) now)
  served_at i (inl there) = (line i (some_place aside i there) there).served
  served_at i (inr gone) =
      served_off (nat_eq (slot_of i) slot) (waits_of actual i) (waits_of aside i) (rests_at now actual i) (wait i) now (trails.flags i)
      (none_there actual i (omega (arith, gone, a_many))) (none_there aside i gone)

  pub turn_unstored : EndUnstored (turned_in (λ i. visit_now (waits_of aside i) (visits_at slot now actual i))) (pick aside shown turned) (pick aside shown aside)
  turn_unstored = record { as_many = n_many ∙ sym t_many; each = λ i d there. put_ends i d (line i d (omega (arith, there, t_many))) (omega (arith, there, t_many)) }

  pub turn_recorded : Recorded slot latest now wait (λ i. visit_now (waits_of aside i) (visits_at slot now actual i)) (λ i. waiting (waits_of aside i) (wait i) now) shown (pick aside shown turned) (pick aside shown aside) aside
  turn_recorded = record {
    went = record { as_many = t_many ∙ sym v_many; each = λ i d there. put_goes i d (line i d (omega (arith, there, v_many))) (omega (arith, there, v_many)) };
    tells = record { as_many = t_many ∙ sym v_many; each = λ i d there. put_tells i d (line i d (omega (arith, there, v_many))) (omega (arith, there, v_many)) };
    after = record { as_many = n_many ∙ sym t_many; each = λ i d there. put_after i d (line i d (omega (arith, there, t_many))) (omega (arith, there, t_many)) };
    trails = record {
      as_many = n_many;
      each = λ i d there. put_trails i d (line i d there) there;
      flags = λ i. flags_at i;
      low = λ i. waiting_low (waits_of aside i) (wait i) latest now low (trails.low i);
    };
    served = λ i. served_at i (there_or i (length aside));
  }

-- ---- something is asked of a line that does not wait

asked_one : (b : Bool) (what : LineRequest) (answer : Option LineAnswer) (latest later now : ℕ) (o : Option ℕ) (shown old new : PlaceValue) → latest ≤ later → (b ≡ true → o ≡ None) → TrailsAs latest o shown old
    → new.waits ≡ old.waits → GoesInPlace (if b then Asks now what answer ∷ [] else []) old new → IsFreed b what answer old new
    → GoesInPlace (if b then Asks now what answer ∷ [] else []) shown (if new.waits then shown else new) × IsFreed b what answer shown (if new.waits then shown else new)
    × TrailsAs later o (if new.waits then shown else new) new
asked_one true what answer latest later now (Some moment) shown old new low free was same goes freed = let never : Some moment ≡ None = free refl in absurd (cc)
asked_one true what answer latest later now None shown old new low free was same goes freed =
    let off : new.waits ≡ false = same ∙ was.1 in
    let is : (if new.waits then shown else new) ≡ new = ap (λ (w : Bool). if w then shown else new) off in (
      subst (λ (p : PlaceValue). GoesInPlace (Asks now what answer ∷ []) shown p) (sym is) (subst (λ (p : PlaceValue). GoesInPlace (Asks now what answer ∷ []) p new) was.0 goes),
      subst (λ (p : PlaceValue). IsFreed true what answer shown p) (sym is) (subst (λ (p : PlaceValue). IsFreed true what answer p new) was.0 freed),
      subst (λ (p : PlaceValue). TrailsAs later None p new) (sym is) (refl, off),
    )
asked_one false what answer latest later now None shown old new low free was same goes freed =
    let off : new.waits ≡ false = same ∙ was.1 in
    let is : (if new.waits then shown else new) ≡ new = ap (λ (w : Bool). if w then shown else new) off in (
      subst (λ (p : PlaceValue). GoesInPlace [] shown p) (sym is) (subst (λ (p : PlaceValue). GoesInPlace [] p new) was.0 goes),
      is ∙ (freed ∙ was.0),
      subst (λ (p : PlaceValue). TrailsAs later None p new) (sym is) (refl, off),
    )
asked_one false what answer latest later now (Some moment) shown old new low free was same goes freed =
    let on : new.waits ≡ true = same ∙ was.3 in
    let is : (if new.waits then shown else new) ≡ shown = ap (λ (w : Bool). if w then shown else new) on in (
      subst (λ (p : PlaceValue). GoesInPlace [] shown p) (sym is) (place_none shown),
      is,
      subst (λ (p : PlaceValue). TrailsAs later (Some moment) p new) (sym is) (subst (λ (p : PlaceValue). TrailsAs later (Some moment) shown p) (sym freed) (trails_so latest later (Some moment) shown old low was)),
    )

pub record RecordedAsk (of now latest : ℕ) (what : LineRequest) (answer : Option LineAnswer) (wait : ℕ → Option ℕ) (shown new actual : List PlaceValue) : Type 0 where
  pub went : LinesWent (AsksLine of now what answer ∷ []) shown new
  pub frees : AskFrees of what answer shown new
  pub trails : Trails latest wait new actual

pub flags_alike : (olds news : List PlaceValue) → WaitAlike olds news → (i : ℕ) → waits_of news i ≡ waits_of olds i
flags_alike [] [] alike i = refl
flags_alike [] (p ∷ news) alike i = absurd (omega (arith, alike.as_many))
flags_alike (o ∷ olds) [] alike i = absurd (omega (arith, alike.as_many))
flags_alike (o ∷ olds) (p ∷ news) alike zero = alike.each 0 p (omega arith)
flags_alike (o ∷ olds) (p ∷ news) alike (suc i) =
    flags_alike olds news (record { as_many = omega (arith, alike.as_many); each = λ k d low. alike.each (suc k) d (omega (arith, low)) }) i

pub ask_recorded : (of now latest later : ℕ) (what : LineRequest) (answer : Option LineAnswer) (wait : ℕ → Option ℕ) (shown olds news : List PlaceValue) → latest ≤ later → wait of ≡ None → Trails latest wait shown olds
    → LinesWent (AsksLine of now what answer ∷ []) olds news → AskFrees of what answer olds news → WaitAlike olds news
    → RecordedAsk of now later what answer wait shown (pick news shown news) news
ask_recorded of now latest later what answer wait shown olds news low free trails went frees alike =
    let v_many : length shown ≡ length news = trails.as_many ∙ sym went.as_many in
    let n_many : length (pick news shown news) ≡ length news = pick_many news shown news v_many refl in
    let one = λ (i : ℕ). λ (d : PlaceValue). λ (there : i < length news).
    asked_one (nat_eq i of) what answer latest later now (wait i) (slice_index_or shown i d) (slice_index_or olds i d) (slice_index_or news i d) low
    (λ is. ap wait (eqb-true i of is) ∙ free) (trails.each i d (omega (arith, there, went.as_many))) (alike.each i d (omega (arith, there, went.as_many)))
    (went.each i d (omega (arith, there, went.as_many))) (frees.each i d (omega (arith, there, went.as_many))) in
    let at = λ (i : ℕ). λ (d : PlaceValue). λ (there : i < length news). pick_at news shown news i d v_many refl there in record {
      went = record {
        as_many = n_many ∙ sym v_many;
        each = λ i d there. let t : i < length news = omega (arith, there, v_many) in
            subst (λ (p : PlaceValue). GoesInPlace (if nat_eq i of then Asks now what answer ∷ [] else []) (slice_index_or shown i d) p) (sym (at i d t)) (one i d t).0;
      };
      frees = record {
        as_many = n_many ∙ sym v_many;
        each = λ i d there. let t : i < length news = omega (arith, there, v_many) in
            subst (λ (p : PlaceValue). IsFreed (nat_eq i of) what answer (slice_index_or shown i d) p) (sym (at i d t)) (one i d t).1;
      };
      trails = record {
        as_many = n_many;
        each = λ i d there. subst (λ (p : PlaceValue). TrailsAs later (wait i) p (slice_index_or news i d)) (sym (at i d there)) (one i d there).2;
        flags = λ i. trails.flags i ∙ sym (flags_alike olds news alike i);
        low = λ i. low_so latest later (wait i) low (trails.low i);
      };
    }

-- ---- a line is woken

wake_goes : (b : Bool) (p : PlaceValue) → GoesInPlace (if b then Wakes ∷ [] else []) p (if b then record p { awake = true } else p)
wake_goes true p = place_wakes p.line p.due p.awake p.turned p.waits
wake_goes false p = place_none p

wake_stays : (b : Bool) (p : PlaceValue) → StaysHeld p (if b then record p { awake = true } else p)
wake_stays true p = still_held (record p { awake = true })
wake_stays false p = still_held p

wake_trails : (b : Bool) (latest : ℕ) (o : Option ℕ) (shown old new : PlaceValue) → new ≡ (if b then record old { awake = true } else old) → TrailsAs latest o shown old
    → TrailsAs latest o (if b then record shown { awake = true } else shown) new
wake_trails false latest o shown old new is was = subst (λ (p : PlaceValue). TrailsAs latest o shown p) (sym is) was
wake_trails true latest None shown old new is was =
    (is ∙ ap (λ (p : PlaceValue). record p { awake = true }) was.0, ap (λ (p : PlaceValue). p.waits) is ∙ was.1)
wake_trails true latest (Some moment) shown old new is was =
    subst (λ (p : PlaceValue). TrailsAs latest (Some moment) (record shown { awake = true }) p) (sym is) (
      was.0,
      record { goes = was.1.goes; awake = λ slept. absurd (no_two true refl slept); asleep = tt },
      (was.2.0, was.2.1),
      was.3,
    )

pub record RecordedWake (of latest : ℕ) (wait : ℕ → Option ℕ) (shown new actual : List PlaceValue) : Type 0 where
  pub went : LinesWent (WakesLine of ∷ []) shown new
  pub stays : AllStayHeld shown new
  pub trails : Trails latest wait new actual

pub alike_woken : (of : ℕ) (olds news : List PlaceValue) → WakesOne of olds news → WaitAlike olds news
alike_woken of olds news wakes = record { as_many = wakes.as_many; each = λ i d there. by (nat_eq i of) (slice_index_or olds i d) (slice_index_or news i d) (wakes.each i d there) }
  where
    by : (b : Bool) (old new : PlaceValue) → new ≡ (if b then record old { awake = true } else old) → new.waits ≡ old.waits
    by true old new is = ap (λ (p : PlaceValue). p.waits) is
    by false old new is = ap (λ (p : PlaceValue). p.waits) is

pub wake_recorded : (of latest : ℕ) (wait : ℕ → Option ℕ) (shown olds news : List PlaceValue) → Trails latest wait shown olds → WakesOne of olds news → RecordedWake of latest wait shown (woken of shown) news
wake_recorded of latest wait shown olds news trails wakes = record {
  went = record {
    as_many = woken_many of shown;
    each = λ i d there. subst (λ (p : PlaceValue). GoesInPlace (if nat_eq i of then Wakes ∷ [] else []) (slice_index_or shown i d) p) (sym (woken_at of i shown d there)) (wake_goes (nat_eq i of) (slice_index_or shown i d));
  };
  stays = record {
    as_many = woken_many of shown;
    each = λ i d there. subst (λ (p : PlaceValue). StaysHeld (slice_index_or shown i d) p) (sym (woken_at of i shown d there)) (wake_stays (nat_eq i of) (slice_index_or shown i d));
  };
  trails = record {
    as_many = woken_many of shown ∙ trails.as_many ∙ sym wakes.as_many;
    each = λ i d there. let t : i < length olds = omega (arith, there, wakes.as_many) in
        subst (λ (p : PlaceValue). TrailsAs latest (wait i) p (slice_index_or news i d)) (sym (woken_at of i shown d (omega (arith, t, trails.as_many))))
        (wake_trails (nat_eq i of) latest (wait i) (slice_index_or shown i d) (slice_index_or olds i d) (slice_index_or news i d) (wakes.each i d t) (trails.each i d t));
    flags = λ i. trails.flags i ∙ sym (flags_alike olds news (alike_woken of olds news wakes) i);
    low = trails.low;
  };
}

-- ---- what waits is stored

-- the same lines
which_so : (visits : ℕ → Visit) (which : ℕ → Bool) → ((i : ℕ) → turned_in visits i ≡ which i) → (lines : List PlaceValue) (page : PageToStore) → IsPageOf which lines page → IsPageOf (turned_in visits) lines page
which_so visits which same lines page is = record { there = is.there; turned = same page.line ∙ is.turned; is_of_turn = is.is_of_turn }

end_freed : (b is_stored : Bool) (old left new : PlaceValue) → old.waits ≡ b → new ≡ record left { waits = false } → EndsWhere b is_stored old left → EndsWhere b is_stored old new
end_freed true is_stored old left new on is ends = subst (λ (p : PlaceValue). EndsTurn is_stored old.line p.line × (p.turned ≡ old.turned)) (sym is) (ends.0, ends.1)
end_freed false is_stored old left new off is same =
    is ∙ (ap (λ (p : PlaceValue). record p { waits = false }) same ∙ ap (λ (w : Bool). record old { waits = w }) (sym off))

module _ {K : Type 0} (notes : ℕ → ℕ → K → K → Type 0) (visits : ℕ → Visit) (which : ℕ → Bool) (same : (i : ℕ) → turned_in visits i ≡ which i) (pages : List PageToStore) where
  place_told : (number : ℕ) (o p : Option PlaceValue) (k l : K) → p ≡ option_map (λ (place : PlaceValue). record place { waits = false }) o → NotesPlace notes which pages number o k l → NotesPlace notes (turned_in visits) pages number p k l
  place_told number None p k l is told = subst (λ (q : Option PlaceValue). NotesPlace notes (turned_in visits) pages number q k l) (sym is) told
  place_told number (Some place) p k l is told =
      subst (λ (q : Option PlaceValue). NotesPlace notes (turned_in visits) pages number q k l) (sym is)
      (subst (λ (b : Bool). NotesWhere notes number b place.line.turned (has_page pages number) k l) (sym (same number)) told)

  first_told : (left lines : List PlaceValue) (number : ℕ) (k l : K) → ((i : ℕ) → slice_get lines i ≡ option_map (λ (place : PlaceValue). record place { waits = false }) (slice_get left i))
      → NotesFirst notes which pages left number k l → NotesFirst notes (turned_in visits) pages lines number k l
  first_told left lines zero k l is told = told
  first_told left lines (suc number) k l is told =
      (told.0, first_told left lines number k told.0 is told.1, place_told number (slice_get left number) (slice_get lines number) told.0 l (is number) told.2)

reports_freed : (which other : ℕ → Bool) (line : ℕ) (o p : Option PlaceValue) → other line ≡ which line → p ≡ option_map (λ (place : PlaceValue). record place { waits = false }) o → reports_at which line o ≡ reports_at other line p
reports_freed which other line None p same is = ap (λ (q : Option PlaceValue). reports_at other line q) (sym is)
reports_freed which other line (Some place) p same is =
    ap (λ (b : Bool). report_list (report_if b place.line.turned)) (sym same) ∙ ap (λ (q : Option PlaceValue). reports_at other line q) (sym is)

freed_get : (left lines : List PlaceValue) → AreFreed left lines → (i : ℕ) → slice_get lines i ≡ option_map (λ (place : PlaceValue). record place { waits = false }) (slice_get left i)
freed_get [] [] freed i = refl
freed_get [] (p ∷ lines) freed i = absurd (omega (arith, freed.as_many))
freed_get (l ∷ left) [] freed i = absurd (omega (arith, freed.as_many))
freed_get (l ∷ left) (p ∷ lines) freed zero = ap (λ (x : PlaceValue). Some x) (freed.each 0 p (omega arith))
freed_get (l ∷ left) (p ∷ lines) freed (suc i) =
    freed_get left lines (record { as_many = omega (arith, freed.as_many); each = λ k d low. freed.each (suc k) d (omega (arith, low)) }) i

pub settled_recorded : {K : Type 0} (same : K → K → Type 0) (puts : List PageToStore → Bool → K → K → Type 0) (notes : ℕ → ℕ → K → K → Type 0) (ends : List LineReport → K → K → Type 0)
    (visits : ℕ → Visit) (end : PutResult) (actual left lines : List PlaceValue) (k l : K) → ((i : ℕ) → turned_in visits i ≡ waits_of actual i)
    → IsSettled same puts notes ends (waits_of actual) end actual left k l → AreFreed left lines → IsSettled same puts notes ends (turned_in visits) end actual lines k l
settled_recorded same puts notes ends visits end actual left lines k l alike is freed = record {
  pages = record { each = λ i d low. which_so visits (waits_of actual) alike actual (slice_index_or end.pages.items i d) (is.pages.each i d low); in_order = is.pages.in_order };
  begun = is.begun;
  is_same = is.is_same;
  kept = is.kept;
  put = is.put;
  settled = record {
    as_many = freed.as_many ∙ is.settled.as_many;
    each = λ i d there. subst (λ (b : Bool). EndsWhere b (is_stored_in end i) (slice_index_or actual i d) (slice_index_or lines i d)) (sym (alike i))
        (end_freed (waits_of actual i) (is_stored_in end i) (slice_index_or actual i d) (slice_index_or left i d) (slice_index_or lines i d) (sym (waits_is actual i d there))
        (freed.each i d (omega (arith, there, is.settled.as_many))) (is.settled.each i d there));
  };
  told = record {
    between = is.told.between;
    noted = record {
      count = is.told.noted.count;
      all = let many = is.told.noted.all in omega (arith, many, freed.as_many);
      told = first_told notes visits (waits_of actual) alike end.pages.items left lines is.told.noted.count is.kept is.told.between (freed_get left lines freed) is.told.noted.told;
    };
    ended = record {
      batches = is.told.ended.batches;
      once = λ line. is.told.ended.once line ∙ reports_freed (waits_of actual) (turned_in visits) line (slice_get left line) (slice_get lines line) (alike line) (freed_get left lines freed line);
      told = is.told.ended.told;
    };
  };
}

-- ---- where there is no store

out_so : (b r : Bool) (now : ℕ) (actual turned left : PlaceValue) → actual.waits ≡ false → TellsVisit (visit_at b actual.waits r now) actual turned → EndsWhere (b && turned.turned) true turned left
    → EndsWhere (is_turn (visit_at b actual.waits r now)) true turned left
out_so b r now actual turned left off tells ends =
    subst (λ (w : Bool). EndsWhere (is_turn (visit_at b w r now)) true turned left) (sym off) (by b r (subst (λ (w : Bool). TellsVisit (visit_at b w r now) actual turned) off tells) ends)
  where
    by : (b r : Bool) → TellsVisit (visit_at b false r now) actual turned → EndsWhere (b && turned.turned) true turned left → EndsWhere (is_turn (visit_at b false r now)) true turned left
    by true true told out = subst (λ (t : Bool). EndsWhere t true turned left) told.0 out
    by true false told out = subst (λ (t : Bool). EndsWhere t true turned left) told.0 out
    by false r told out = out

pub out_recorded : (slot now : ℕ) (actual turned left : List PlaceValue) → ((i : ℕ) → waits_of actual i ≡ false) → VisitsTell (visits_at slot now actual) actual turned → LetsOutSlot slot turned left
    → LetOut (turned_in (visits_at slot now actual)) turned left
out_recorded slot now actual turned left off tells out = record {
  as_many = out.as_many;
  each = λ i d there.
      let t : i < length actual = omega (arith, there, tells.as_many) in
      let of : waits_of actual i ≡ (slice_index_or actual i d).waits = waits_is actual i d t in
      subst (λ (w : Bool). EndsWhere (is_turn (visit_at (nat_eq (slot_of i) slot) w (rests_at now actual i) now)) true (slice_index_or turned i d) (slice_index_or left i d)) (sym of)
      (out_so (nat_eq (slot_of i) slot) (rests_at now actual i) now (slice_index_or actual i d) (slice_index_or turned i d) (slice_index_or left i d) (sym of ∙ off i)
      (subst (λ (w : Bool). TellsVisit (visit_at (nat_eq (slot_of i) slot) w (rests_at now actual i) now) (slice_index_or actual i d) (slice_index_or turned i d)) of (tells.each i d t))
      (out.each i d there));
}

-- the turn, where none waits
pub served_free : (b w r : Bool) (o : Option ℕ) (now : ℕ) → o ≡ None → w ≡ false → IsServed b now (visit_at b w r now) o o
served_free b w r (Some moment) now none off = let never : Some moment ≡ None = none in cc
served_free b true r None now none off = absurd (no_two true refl off)
served_free true false true None now none off = inl (refl, refl)
served_free true false false None now none off = inr (inl (refl, refl))
served_free false false r None now none off = (refl, refl)

pub none_of : (o : Option ℕ) → is_some o ≡ false → o ≡ None
none_of None is = refl
none_of (Some moment) is = absurd (no_two true refl is)

some_none : (moment : ℕ) → Some moment ≡ None → ⊥
some_none moment is = cc

same_by : (latest : ℕ) (o : Option ℕ) (v a : PlaceValue) → o ≡ None → TrailsAs latest o v a → a ≡ v
same_by latest None v a none is = is.0
same_by latest (Some moment) v a none is = absurd (some_none moment none)

trails_by : (now : ℕ) (o : Option ℕ) (p : PlaceValue) → o ≡ None → p.waits ≡ false → TrailsAs now o p p
trails_by now None p none is = (refl, is)
trails_by now (Some moment) p none is = absurd (some_none moment none)

low_by : (now : ℕ) (o : Option ℕ) → o ≡ None → IsLow now o
low_by now None none = tt
low_by now (Some moment) none = absurd (some_none moment none)

pub still_alike : (olds news : List PlaceValue) → AllWaitStill olds news → WaitAlike olds news
still_alike olds news still = record { as_many = still.as_many; each = λ i d there. (still.each i d there).0 }

module _
    (slot latest now : ℕ) (wait : ℕ → Option ℕ) (shown actual turned left : List PlaceValue) (off : (i : ℕ) → waits_of actual i ≡ false) (trails : Trails latest wait shown actual)
    (went : LinesWent (VisitsLines (visits_at slot now actual) ∷ []) actual turned) (tells : VisitsTell (visits_at slot now actual) actual turned) (still : AllWaitStill actual turned)
    (after : LinesWent [] turned left) (alike : WaitAlike turned left) where
  free : (i : ℕ) → wait i ≡ None
  free i = none_of (wait i) (trails.flags i ∙ off i)

  same_at : (i : ℕ) (d : PlaceValue) → i < length actual → slice_index_or actual i d ≡ slice_index_or shown i d
  same_at i d there = same_by latest (wait i) (slice_index_or shown i d) (slice_index_or actual i d) (free i) (trails.each i d there)

  left_waits : (i : ℕ) → waits_of left i ≡ false
  left_waits i = flags_alike turned left alike i ∙ (flags_alike actual turned (still_alike actual turned still) i ∙ off i)

  went_at : (i : ℕ) (d : PlaceValue) → i < length actual → GoesInPlace (actions_by (visits_at slot now actual i) ++ []) (slice_index_or shown i d) (slice_index_or turned i d)
  went_at i d there = subst (λ (p : PlaceValue). GoesInPlace (actions_by (visits_at slot now actual i) ++ []) p (slice_index_or turned i d)) (same_at i d there) (went.each i d there)

  tells_at : (i : ℕ) (d : PlaceValue) → i < length actual → TellsVisit (visits_at slot now actual i) (slice_index_or shown i d) (slice_index_or turned i d)
  tells_at i d there = subst (λ (p : PlaceValue). TellsVisit (visits_at slot now actual i) p (slice_index_or turned i d)) (same_at i d there) (tells.each i d there)

  out_trails : Trails now wait left left
  out_trails = record {
    as_many = refl;
    each = λ i d there. trails_by now (wait i) (slice_index_or left i d) (free i) (sym (waits_is left i d there) ∙ left_waits i);
    flags = λ i. ap is_some (free i) ∙ sym (left_waits i);
    low = λ i. low_by now (wait i) (free i);
  }

  pub out_turn : Recorded slot latest now wait (visits_at slot now actual) wait shown turned left left
  out_turn = record {
    went = record { as_many = went.as_many ∙ sym trails.as_many; each = λ i d there. went_at i d (omega (arith, there, trails.as_many)) };
    tells = record { as_many = tells.as_many ∙ sym trails.as_many; each = λ i d there. tells_at i d (omega (arith, there, trails.as_many)) };
    after = after;
    trails = out_trails;
    served = λ i. served_free (nat_eq (slot_of i) slot) (waits_of actual i) (rests_at now actual i) (wait i) now (free i) (off i);
  }
