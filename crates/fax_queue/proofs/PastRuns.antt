-- A run makes history: what becomes of a line and its past, order by order.
use Rattle.std.proofs.Common.{◌≡◌, ◌≢◌, ◌∙◌, ℕ, zero, suc, max, ◌<◌, ◌≤◌, inl, inr, ◌⊎◌, Bool, true, false, ◌||◌, nat_eq, nat_lt, cond, if◌then◌else◌, List, [], ◌∷◌, ◌++◌, length, All, AllPairs, Option, Some, None, Result, Ok, Err, is_ok, is_some, slice_get, slice_index_or, arith, refl, sym, ap, subst, append_assoc, append-nil}
use Rattle.std.proofs.lemmas.Bool.{eqb-false, eqb-true, ltb-false, ltb-true}
use Rattle.fax_pagestore.specs.PageLaws.{PagesAreUnique, PagesAreWritten, WrittenPagesMean}
use Rattle.fax_jobs.specs.declared.report.Report.{Report}
use Rattle.fax_call.specs.Writings.{IsWriting, Writing}
use Rattle.fax_gateway.specs.declared.fault.PlaceFault.{PlaceFault}
use Rattle.fax_gateway.specs.declared.fault.RingFault.{RingFault}
use Rattle.fax_gateway.specs.declared.given.Kept.{Kept}
use Rattle.fax_gateway.specs.declared.turn_report.TurnReport.{TurnReport as Told}
use Rattle.fax_gateway.specs.Newest.{ConfirmsTheNewest}
use Rattle.fax_gateway.specs.Origins.{JobsAreOfTheirCalls}
use Rattle.fax_gateway.specs.Restored.{CallPage, RestoredCall}
use Rattle.fax_gateway.specs.Setups.{Setup}
use Rattle.fax_gateway.specs.Events.{Event, Placed, Ring}
use Rattle.fax_gateway.specs.Lives.{Life}
use Rattle.fax_gateway.specs.Reached.{GatewayValue, IsReachedBy}
use Rattle.fax_gateway.specs.Driving.{Accepts, DriverValue, Entry, HasMade, RefusesRing, events}
use Rattle.fax_wires.specs.holding.Holding.{HoldingValue, Stays}
use Rattle.fax_wires.specs.holding.Storing.{HasDone, HoldsByLog, PutsIf, handed_by}
use Rattle.fax_line.specs.declared.asked.LineAnswer.{LineAnswer}
use Rattle.fax_line.specs.declared.asked.LineAnswer.TheVariants as answered
use Rattle.fax_line.specs.declared.asked.LineRequest.{LineRequest}
use Rattle.fax_line.specs.declared.asked.LineRequest.TheVariants as asked
use Rattle.fax_line.specs.Actions.{Action, Asks, Frees, Goes, IsAsked, IsPlaced, IsRung, LineValue, Rests, TellsTurn, Turns, Wakes, leg_begun}
use Rattle.fax_line.specs.Operations.{AllStayHeld, AskFrees, AsksLine, IsFreed, LinesWent, VisitsLines, VisitsTell, WakesLine, actions_of}
use Rattle.fax_line.specs.Places.{Passes, PlaceValue, RestsAt, StaysHeld, TellsOrRests, TellsVisit, TurnsAt, Visit, actions_by, is_turn}
use Rattle.fax_line.specs.Runs.{AskedOf, DoneOrder, Stored, Turned, Woken, latest, turned_in}
use Rattle.fax_line.specs.StoredRuns.{EndUnstored, EndsEach, EndsIf, EndsUnstored, IsRun, IsSettled, NotesFirst, NotesIf, NotesPlace, NotesWhere, kept_if, report_if, report_list, reports_at, reports_in, reports_of, stored_pages}
use Rattle.fax_line.specs.Settling.{EndsTurn, EndsWhere, IsOfTurn, IsPageOf, has_page, is_stored_in, is_to_store}
use Rattle.fax_line.specs.declared.settling.LineReport.{LineReport}
use Rattle.fax_line.specs.declared.settling.PageToStore.{PageToStore}
use Rattle.fax_line.specs.declared.settling.PutResult.{PutResult}
use Rattle.fax_spool.specs.RecordOctets as spool
use Rattle.fax_spool.specs.Opened.{closed}
use Rattle.fax_spool.specs.declared.spool.Spool.{Spool}
use Rattle.fax_spool.specs.declared.spool_record.SpoolRecord.TheVariants.{Page}
use Rattle.fax_queue.specs.Restorations.{Restores, calls_of}
use Rattle.fax_queue.specs.Queues.{QueueValue, lines_of}
use Rattle.fax_queue.specs.Storing.{IsRecordOf}
use Rattle.fax_queue.specs.Lives.{Goes as GoesOn, OwedIsRestored, State, Stops, closed_read, owed, state_of}
use Rattle.fax_queue.specs.Refusals.{notes_of}
use Rattle.fax_queue.specs.Book.{AllIsPut, BookEntry, Confirms, Reports, Restores as RestoresCalls, page_of, reports, told_by, told_in, told_over}
use Rattle.fax_queue.specs.TurnsTold.{EndsIn, IsPutAs, TellsBoth, TurnsTellBoth}
use Rattle.fax_queue.specs.SpoolStorage.{EndAlone, EndsJobIf, EndsJobs, IsUnchanged, NotesPage, PutsPages}
use Rattle.fax_queue.specs.Together.{EndsTogether}
use Rattle.fax_queue.specs.Histories.{AreStoredOf, BeginsRun, HasPast, LeavesRun, RunsMakeHistory}
use Rattle.fax_queue.specs.Jobs.{WaitSo}
use Rattle.fax_queue.specs.NotedRuns.{EndsNoted, HasWholePast, IsNotedAlone, IsNotedWith, NotesOther, PutsWithOk, RunsNoteAll}
use Rattle.fax_queue.specs.OnLeg.{AreOnLeg}
use Rattle.fax_queue.proofs.BookTurns.{action_of_turn, turn_has_page}
use Rattle.fax_queue.proofs.PastLegs.{Leg, kept_once, leg_ended, leg_fresh, leg_placed, leg_rung, leg_still}
use Rattle.fax_queue.proofs.Lives.{restarts_are_actions}
use Rattle.fax_queue.proofs.Pasts.{PastAs, wait_map}
use Rattle.fax_queue.proofs.PastPuts.{AreOtherNames, HasPage, IsConfirmed, kept_of_none, line_at, own_err, own_ok, puts_others, puts_stay}
use Rattle.fax_queue.proofs.PastEnds.{Held, other_ended, other_noted, own_ended, own_noted, together_other, together_own}
use Rattle.fax_queue.proofs.Together.{there_among}

-- ---- the gateway of a line

-- A trace led to its gateway, by which this is told after what was told before it; and its wire did what is of that trace, where these
-- pages were put.
record Reaches (setup : Setup) (writes : Writing) (before t : List BookEntry) (puts : List CallPage) (line : LineValue) : Type 0 where
  trace : List Event
  made : List Entry
  reached : IsReachedBy setup writes trace line.gateway
  driven : HasMade made line.driver
  told : told_in setup trace before ≡ t
  leg : Leg setup trace line.holding puts

-- actions in which no tick is
abbrev AreQuiet : List Action → Type 0
AreQuiet [] = Unit {0}
AreQuiet (Turns now ∷ actions) = ⊥
AreQuiet (Rests now ∷ actions) = AreQuiet actions
AreQuiet (Asks now what answer ∷ actions) = AreQuiet actions
AreQuiet (Wakes ∷ actions) = AreQuiet actions

-- what they make of what the line's wire holds back
abbrev HeldBy : Action → HoldingValue → HoldingValue → Type 0
HeldBy (Turns now) old new = Stays old new
HeldBy (Rests now) old new = Stays old new
HeldBy (Asks now what answer) old new = Frees (leg_begun answer) old new
HeldBy Wakes old new = Stays old new

module _ (setup : Setup) (writes : Writing) (before : List BookEntry) where
  told_none : (log : List Entry) (trace : List Event) → log ≡ [] → told_in setup (events log ++ trace) before ≡ told_in setup trace before
  told_none log trace none = ap (λ (l : List Entry). told_in setup (events l ++ trace) before) none

  both_none : (newer older log : List Entry) → log ≡ newer ++ older → newer ≡ [] → older ≡ [] → log ≡ []
  both_none newer older log is first second = is ∙ ap (λ (l : List Entry). l ++ older) first ∙ second

  -- where no event came
  leg_quiet : (log : List Entry) (trace : List Event) (p : List CallPage) (old new : HoldingValue) → log ≡ [] → Stays old new → Leg setup trace old p → Leg setup (events log ++ trace) new p
  leg_quiet log trace p old new none stays leg = subst (λ (l : List Entry). Leg setup (events l ++ trace) new p) (sym none) (leg_still setup trace old new p stays leg)

  -- Where this is all that came, nothing is told, and what the wire did is of the trace still.
  abbrev IsInert : List Entry → List Event → List CallPage → HoldingValue → Type 0
  IsInert log trace p new = (told_in setup (events log ++ trace) before ≡ told_in setup trace before) × Leg setup (events log ++ trace) new p

  inert_by : (log is : List Entry) (trace : List Event) (p : List CallPage) (new : HoldingValue) → log ≡ is → IsInert is trace p new → IsInert log trace p new
  inert_by log is trace p new same inert = subst (λ (l : List Entry). IsInert l trace p new) (sym same) inert

  ring_is_inert : (now : ℕ) (result : Result ℕ RingFault) (log : List Entry) (trace : List Event) (p : List CallPage) (old new : HoldingValue) → IsRung now result log
      → Frees (leg_begun (Some (answered.Rung result))) old new → Leg setup trace old p → IsInert log trace p new
  ring_is_inert now (Ok number) log trace p old new is frees leg = inert_by log (Accepts (Ring now number) ∷ []) trace p new is (refl, leg_rung setup trace now number old new p frees leg)
  ring_is_inert now (Err fault) log trace p old new is frees leg = inert_by log (RefusesRing fault ∷ []) trace p new is (refl, leg_still setup trace old new p frees leg)

  place_is_inert : (after : List Event) (now : ℕ) (connected : Bool) (result : Result (Unit {0}) PlaceFault) (log : List Entry) (trace : List Event) (p : List CallPage) (old new : HoldingValue)
      → IsPlaced setup writes after now connected result log → Frees (leg_begun (Some (answered.Placed result))) old new → Leg setup trace old p → IsInert log trace p new
  place_is_inert after now connected (Ok done) log trace p old new is frees leg =
      inert_by log (Accepts (Placed now connected) ∷ []) trace p new is (refl, leg_placed setup trace now connected old new p frees leg)
  place_is_inert after now connected (Err fault) log trace p old new is frees leg = inert_by log [] trace p new is.0 (refl, leg_still setup trace old new p frees leg)

  -- so it is of what is asked of a line alone
  ask_is_inert : (after : List Event) (now : ℕ) (what : LineRequest) (answer : Option LineAnswer) (log : List Entry) (trace : List Event) (p : List CallPage) (old new : HoldingValue)
      → IsAsked setup writes after now what answer log → Frees (leg_begun answer) old new → Leg setup trace old p → IsInert log trace p new
  ask_is_inert after now (asked.Ring ringing) (Some (answered.Rung result)) log trace p old new is frees leg = ring_is_inert now result log trace p old new is frees leg
  ask_is_inert after now (asked.Peer peering) (Some answered.Done) log trace p old new is frees leg = (told_none log trace is, leg_quiet log trace p old new is frees leg)
  ask_is_inert after now (asked.Peer peering) (Some answered.NoRoute) log trace p old new is frees leg = (told_none log trace is, leg_quiet log trace p old new is frees leg)
  ask_is_inert after now (asked.Connect connecting) (Some (answered.Placed result)) log trace p old new is frees leg = place_is_inert after now true result log trace p old new is frees leg
  ask_is_inert after now (asked.Connect connecting) (Some answered.NoRoute) log trace p old new is frees leg = (told_none log trace is, leg_quiet log trace p old new is frees leg)
  ask_is_inert after now asked.NotConnected (Some (answered.Placed result)) log trace p old new is frees leg = place_is_inert after now false result log trace p old new is frees leg
  ask_is_inert after now (asked.HangUp hanging_up) (Some answered.Done) log trace p old new is frees leg = (told_none log trace is, leg_quiet log trace p old new is frees leg)
  ask_is_inert after now what answer log trace p old new is frees leg = absurd is

  one_part : (newer older log : List Entry) → log ≡ newer ++ older → older ≡ [] → log ≡ newer
  one_part newer older log is none = is ∙ ap (λ (l : List Entry). newer ++ l) none ∙ append-nil newer

  goes_with : (t : List BookEntry) (p : List CallPage) (old new : LineValue) (action : Action) → AreQuiet (action ∷ []) → IsWriting writes → Goes (action ∷ []) old new → HeldBy action old.holding new.holding → Reaches setup writes before t p old
      → Reaches setup writes before t p new
  goes_with t p old new (Turns now) quiet writing goes stays was = absurd quiet
  goes_with t p old new (Rests now) quiet writing goes stays was =
      let it = goes.goes setup writes was.trace was.made writing was.reached was.driven in
      record {
        trace = events it.0 ++ was.trace;
        made = it.0 ++ was.made;
        reached = it.2.reached;
        driven = it.3;
        told = told_none it.0 was.trace (both_none it.1.0 it.1.1 it.0 it.1.2 it.1.3.0 it.1.4) ∙ was.told;
        leg = leg_quiet it.0 was.trace p old.holding new.holding (both_none it.1.0 it.1.1 it.0 it.1.2 it.1.3.0 it.1.4) stays was.leg;
      }
  goes_with t p old new (Asks now what answer) quiet writing goes frees was =
      let it = goes.goes setup writes was.trace was.made writing was.reached was.driven in
      let inert = inert_by it.0 it.1.0 was.trace p new.holding (one_part it.1.0 it.1.1 it.0 it.1.2 it.1.4)
      (ask_is_inert (events it.1.1 ++ was.trace) now what answer it.1.0 was.trace p old.holding new.holding it.1.3 frees was.leg) in
      record {
        trace = events it.0 ++ was.trace;
        made = it.0 ++ was.made;
        reached = it.2.reached;
        driven = it.3;
        told = inert.0 ∙ was.told;
        leg = inert.1;
      }
  goes_with t p old new Wakes quiet writing goes stays was =
      let it = goes.goes setup writes was.trace was.made writing was.reached was.driven in
      record {
        trace = events it.0 ++ was.trace;
        made = it.0 ++ was.made;
        reached = it.2.reached;
        driven = it.3;
        told = told_none it.0 was.trace (both_none it.1.0 it.1.1 it.0 it.1.2 it.1.3 it.1.4) ∙ was.told;
        leg = leg_quiet it.0 was.trace p old.holding new.holding (both_none it.1.0 it.1.1 it.0 it.1.2 it.1.3 it.1.4) stays was.leg;
      }

  goes_still : (t : List BookEntry) (p : List CallPage) (old new : LineValue) → IsWriting writes → Goes [] old new → Stays old.holding new.holding → Reaches setup writes before t p old → Reaches setup writes before t p new
  goes_still t p old new writing goes stays was =
      let it = goes.goes setup writes was.trace was.made writing was.reached was.driven in
      record {
        trace = events it.0 ++ was.trace;
        made = it.0 ++ was.made;
        reached = it.2.reached;
        driven = it.3;
        told = told_none it.0 was.trace it.1 ∙ was.told;
        leg = leg_quiet it.0 was.trace p old.holding new.holding it.1 stays was.leg;
      }

  -- A turn: what is told of it, by what the line told.
  record TurnsSo (t : List BookEntry) (line : LineValue) : Type 0 where
    older : List Event
    newer : List Event
    made : List Entry
    ends : EndsIn setup writes older newer line
    was : told_in setup older before ≡ t
    driven : HasMade made line.driver

  -- And what its wire holds back then.
  record TurnsOnLeg (t : List BookEntry) (p : List CallPage) (mid : HoldingValue) (line : LineValue) : Type 0 where
    so : TurnsSo t line
    leg : Leg setup so.older mid p
    holds : HoldsByLog so.ends.log mid line.holding

  goes_turned : (t : List BookEntry) (p : List CallPage) (now : ℕ) (old new : LineValue) → IsWriting writes → TellsTurn now old new → Reaches setup writes before t p old → TurnsOnLeg t p old.holding new
  goes_turned t p now old new writing tells was =
      let it = tells.tells setup writes was.trace was.made writing was.reached was.driven in
      let newer : List Event = events it.0 ++ was.trace in
      record {
        so = record {
          older = was.trace;
          newer = newer;
          made = it.0 ++ was.made;
          ends = record { now = now; log = it.0; turn = it.1; longer = refl; reached = it.2.reached; tells = it.4 };
          was = was.told;
          driven = it.3;
        };
        leg = was.leg;
        holds = it.5;
      }

  -- as the turn ends its gateway and its driver stay
  turn_ended : (t : List BookEntry) (p : List CallPage) (old new : LineValue) (so : TurnsSo t old) → new.gateway ≡ old.gateway → new.driver ≡ old.driver → Leg setup so.newer new.holding p
      → Reaches setup writes before (told_in setup so.newer before) p new
  turn_ended t p old new so gateway driver leg = record {
    trace = so.newer;
    made = so.made;
    reached = subst (λ (g : GatewayValue). IsReachedBy setup writes so.newer g) (sym gateway) so.ends.reached;
    driven = subst (λ (d : DriverValue). HasMade so.made d) (sym driver) so.driven;
    told = refl;
    leg = leg;
  }

-- ---- places in lists

get_or : (lines : List PlaceValue) (number : ℕ) (other : PlaceValue) → number < length lines → slice_get lines number ≡ Some (slice_index_or lines number other)
get_or [] number other low = absurd (omega (arith, low))
get_or (l ∷ lines) zero other low = refl
get_or (l ∷ lines) (suc number) other low = get_or lines number other (omega (arith, low))

get_low : (lines : List PlaceValue) (number : ℕ) (place : PlaceValue) → slice_get lines number ≡ Some place → number < length lines
get_low [] number place is = let no : None ≡ Some place = is in cc
get_low (l ∷ lines) zero place is = omega arith
get_low (l ∷ lines) (suc number) place is = let less : number < length lines = get_low lines number place is in omega (arith, less)

nat_self : (n : ℕ) → nat_eq n n ≡ true
nat_self n = grind (arith)

-- no page is of a line that had no turn
none_first : (which : ℕ → Bool) (number : ℕ) (lines : List PlaceValue) (page : PageToStore) (pages : List PageToStore) → IsPageOf which lines page → which number ≡ false → has_page pages number ≡ false
    → (b : Bool) → nat_eq page.line number ≡ b → (b || has_page pages number) ≡ false
none_first which number lines page pages first none rest true is =
    let on : which number ≡ true = subst (λ (n : ℕ). which n ≡ true) (eqb-true page.line number is) first.turned in
    let wrong : true ≡ false = sym on ∙ none in absurd (let no_way : true ≡ false = wrong in cc)
none_first which number lines page pages first none rest false is = rest

none_turned : (which : ℕ → Bool) (number : ℕ) (lines : List PlaceValue) (pages : List PageToStore) → All (IsPageOf which lines) pages → which number ≡ false → has_page pages number ≡ false
none_turned which number lines [] all none = refl
none_turned which number lines (page ∷ pages) all none =
    none_first which number lines page pages (all zero page (omega arith)) none (none_turned which number lines pages (λ k d low. all (suc k) d (omega (arith, low))) none) (nat_eq page.line number) refl

-- ---- of the pages that were put, those of one line

kept_both : (number : ℕ) (pages more : List PageToStore) (puts others : List CallPage) → AreStoredOf number pages puts → AreStoredOf number more others → AreStoredOf number (pages ++ more) (puts ++ others)
kept_both number [] more puts others are after = subst (λ (p : List CallPage). AreStoredOf number more (p ++ others)) (sym are) after
kept_both number (page ∷ pages) more [] [] are after = (are.0, kept_both number pages more [] [] are.1 after)
kept_both number (page ∷ pages) more [] (o ∷ others) are after = inr (are.0, kept_both number pages more [] (o ∷ others) are.1 after)
kept_both number (page ∷ pages) more (p ∷ puts) others (inl is) after = inl (is.0, is.1, kept_both number pages more puts others is.2 after)
kept_both number (page ∷ pages) more (p ∷ puts) others (inr is) after = inr (is.0, kept_both number pages more (p ∷ puts) others is.1 after)

kept_if_none : (number : ℕ) (pages : List PageToStore) (is_stored : Bool) → has_page pages number ≡ false → AreStoredOf number (kept_if is_stored pages) []
kept_if_none number pages true none = kept_of_none number pages none
kept_if_none number pages false none = refl

-- ---- what is told of turns

-- what a store makes of its queues and its spool; and where this holds each answer is an Ok, and no page is left out
abbrev PutsAre : {D K : Type 0} → (D → List ℕ) → (D → List ℕ → Type 0) → (D → Bool) → (K → List QueueValue) → (K → Spool D) → ℕ → Type 0 → (List PageToStore → Bool → K → K → Type 0) → Type 0
PutsAre {D} {K} seen may_leave is_usable queues_of spool_of number A Puts =
    (pages : List PageToStore) (is_stored : Bool) (k l : K) → Puts pages is_stored k l → PutsPages seen may_leave is_usable pages is_stored (queues_of k) (queues_of l) (spool_of k) (spool_of l) × (A → has_page pages number ≡ true → is_stored ≡ true)

abbrev NotesAre : {D K : Type 0} → (K → List QueueValue) → (K → Spool D) → ℕ → Type 0 → (ℕ → ℕ → K → K → Type 0) → Type 0
NotesAre {D} {K} queues_of spool_of number A Notes = (place call : ℕ) (k l : K) → Notes place call k l → NotesPage place call (queues_of k) (queues_of l) (spool_of k) (spool_of l) × (A → place ≢ number)

-- the same of jobs that ended
abbrev EndsSo : {D : Type 0} → (D → List ℕ) → (D → List ℕ → Type 0) → (D → Bool) → ℕ → Type 0 → List LineReport → List QueueValue → List QueueValue → Spool D → Spool D → Type 0
EndsSo seen may_leave is_usable number A jobs olds news before after =
    ((together : EndsTogether seen may_leave is_usable jobs olds news before after) × (A → IsNotedWith seen may_leave is_usable number jobs olds news before after together))
    ⊎ ((alone : EndAlone seen may_leave is_usable jobs olds news before after) × (A → IsNotedAlone seen may_leave is_usable number jobs olds news before after alone))

abbrev EndsAre : {D K : Type 0} → (D → List ℕ) → (D → List ℕ → Type 0) → (D → Bool) → (K → List QueueValue) → (K → Spool D) → ℕ → Type 0 → (List LineReport → K → K → Type 0) → Type 0
EndsAre {D} {K} seen may_leave is_usable queues_of spool_of number A Ends =
    (ended : List LineReport) (k l : K) → Ends ended k l → EndsSo seen may_leave is_usable number A ended (queues_of k) (queues_of l) (spool_of k) (spool_of l)

-- what a list says of one report at most, of which the first part has it, or the second
split_reports : (xs ys : List Report) (o : Option Report) → xs ++ ys ≡ report_list o → ((xs ≡ []) × (ys ≡ report_list o)) ⊎ ((r : Report) × (o ≡ Some r) × (xs ≡ r ∷ []) × (ys ≡ []))
split_reports [] ys o is = inl (refl, is)
split_reports (x ∷ xs) ys None is = let no : x ∷ (xs ++ ys) ≡ [] = is in cc
split_reports (x ∷ xs) ys (Some r) is =
    let both : x ∷ (xs ++ ys) ≡ r ∷ [] = is in
    let rest : xs ++ ys ≡ [] = cc in
    inr (r, refl, ap (λ (l : List Report). x ∷ l) (first_none xs ys rest) ∙ (let same : x ≡ r = cc in ap (λ (y : Report). y ∷ []) same), second_none xs ys rest)
  where
    first_none : (xs ys : List Report) → xs ++ ys ≡ [] → xs ≡ []
    first_none [] ys none = refl
    first_none (x ∷ xs) ys none = let no : x ∷ (xs ++ ys) ≡ [] = none in cc

    second_none : (xs ys : List Report) → xs ++ ys ≡ [] → ys ≡ []
    second_none [] ys none = none
    second_none (x ∷ xs) ys none = let no : x ∷ (xs ++ ys) ≡ [] = none in cc

module _
    {D K : Type 0} (seen : D → List ℕ) (may_leave : D → List ℕ → Type 0) (is_usable : D → Bool) (queues_of : K → List QueueValue) (spool_of : K → Spool D) (number : ℕ) (line : List ℕ) (names : List (List ℕ))
    (alone : AreOtherNames number line names) (low_number : number < length names) (A : Type 0) (Puts : List PageToStore → Bool → K → K → Type 0) (Notes : ℕ → ℕ → K → K → Type 0) (Ends : List LineReport → K → K → Type 0)
    (puts_are : PutsAre seen may_leave is_usable queues_of spool_of number A Puts) (notes_are : NotesAre queues_of spool_of number A Notes) (ends_are : EndsAre seen may_leave is_usable queues_of spool_of number A Ends) where
  abbrev Holds : List BookEntry → List CallPage → K → Type 0
  Holds t q k = Held seen may_leave is_usable A number line names t q (queues_of k) (spool_of k)

  abbrev Same : K → K → Type 0
  Same old new = IsUnchanged (queues_of old) (queues_of new) (spool_of old) (spool_of new)

  holds_still : (t : List BookEntry) (q : List CallPage) (k l : K) → Same k l → Holds t q k → Holds t q l
  holds_still t q k l is held =
      subst (λ (s : List QueueValue). Held seen may_leave is_usable A number line names t q s (spool_of l)) (sym is.queues)
      (subst (λ (p : Spool D). Held seen may_leave is_usable A number line names t q (queues_of k) p) (sym is.spool) held)

  holds_same : (t : List BookEntry) (q : List CallPage) (k l : K) → l ≡ k → Holds t q k → Holds t q l
  holds_same t q k l is held = subst (λ (m : K). Holds t q m) (sym is) held

  queues_low : (t : List BookEntry) (q : List CallPage) (k : K) → Holds t q k → length (queues_of k) ≡ length names
  queues_low t q k held = sym (length_map (queues_of k)) ∙ ap length held.lines
    where
      length_map : (queues : List QueueValue) → length (lines_of queues) ≡ length queues
      length_map [] = refl
      length_map (s ∷ queues) = ap suc (length_map queues)

  -- a page of another line
  noted_other : (t : List BookEntry) (q : List CallPage) (place : ℕ) (o : Option Kept) (handed : Bool) (k l : K) → place ≢ number → NotesIf Notes place o handed k l → Holds t q k → Holds t q l
  noted_other t q place None b k l unlike is held = holds_same t q k l is held
  noted_other t q place (Some page) true k l unlike is held = holds_same t q k l is held
  noted_other t q place (Some page) false k l unlike is held =
      other_noted seen may_leave is_usable A number line names alone low_number t q place page.call (queues_of k) (queues_of l) (spool_of k) (spool_of l) unlike (notes_are place page.call k l is).0 held

  other_place : (t : List BookEntry) (q : List CallPage) (which : ℕ → Bool) (pages : List PageToStore) (place : ℕ) (o : Option PlaceValue) (k l : K) → place ≢ number → NotesPlace Notes which pages place o k l → Holds t q k → Holds t q l
  other_place t q which pages place None k l unlike is held = holds_same t q k l is held
  other_place t q which pages place (Some p) k l unlike is held = by (which place) is
    where
      by : (b : Bool) → NotesWhere Notes place b p.line.turned (has_page pages place) k l → Holds t q l
      by true told = noted_other t q place p.line.turned.kept (has_page pages place) k l unlike told held
      by false told = holds_same t q k l told held

  module _ (which : ℕ → Bool) (pages : List PageToStore) (lines : List PlaceValue) where
    -- what each of the lines tells of its page, up to this one and after it
    first_before : (t : List BookEntry) (q : List CallPage) (count : ℕ) (k l : K) → count ≤ number → NotesFirst Notes which pages lines count k l → Holds t q k → Holds t q l
    first_before t q zero k l low is held = holds_same t q k l is held
    first_before t q (suc count) k l low is held =
        other_place t q which pages count (slice_get lines count) is.0 l (λ same. omega (arith, low, same)) is.2 (first_before t q count k is.0 (omega (arith, low)) is.1 held)

    differs : (count : ℕ) → nat_eq count number ≡ false → count ≢ number
    differs count none same = let on : true ≡ false = sym (nat_self number) ∙ ap (λ (n : ℕ). nat_eq n number) (sym same) ∙ none in cc

    -- by which something comes to be, which what other lines tell leaves
    module _ (t : List BookEntry) (q : List CallPage) (P : K → Type 0) (stays : (place : ℕ) (o : Option PlaceValue) (k l : K) → place ≢ number → NotesPlace Notes which pages place o k l → P k → P l)
        (own : (a b : K) → NotesPlace Notes which pages number (slice_get lines number) a b → Holds t q a → P b) where
      after_one : (count : ℕ) (k mid l : K) → number < suc count → NotesFirst Notes which pages lines count k mid → NotesPlace Notes which pages count (slice_get lines count) mid l → Holds t q k → (number < count → P mid)
          → (b : Bool) → nat_eq count number ≡ b → P l
      after_one count k mid l low first last held rest true on =
          let same : count ≡ number = eqb-true count number on in
          own mid l (subst (λ (n : ℕ). NotesPlace Notes which pages n (slice_get lines n) mid l) same last) (first_before t q count k mid (omega (arith, same)) first held)
      after_one count k mid l low first last held rest false off =
          let differ : count ≢ number = differs count off in stays count (slice_get lines count) mid l differ last (rest (omega (arith, low, differ)))

      first_after : (count : ℕ) (k l : K) → number < count → NotesFirst Notes which pages lines count k l → Holds t q k → P l
      first_after zero k l low is held = absurd (omega (arith, low))
      first_after (suc count) k l low is held = after_one count k is.0 l low is.1 is.2 held (λ less. first_after count k is.0 less is.1 held) (nat_eq count number) refl

  -- ---- jobs end

  -- there is a queue at the line's place
  queue_in : (olds news : List QueueValue) (old : QueueValue) → lines_of news ≡ lines_of olds → slice_get olds number ≡ Some old → (new : QueueValue) × (slice_get news number ≡ Some new)
  queue_in olds news old same there = there_among olds news number old same there

  -- of the line itself, at its place
  own_at : (t : List BookEntry) (q : List CallPage) (place : ℕ) (report : Report) (olds news : List QueueValue) (before after : Spool D) → place ≡ number → (ends : EndsJobIf seen may_leave is_usable place report olds news before after) → (A → ends.noted ≡ true)
      → Held seen may_leave is_usable A number line names t q olds before → Held seen may_leave is_usable A number line names (Reports report.pages ∷ t) q news after
  own_at t q place report olds news before after same =
      subst (λ (n : ℕ). (ends : EndsJobIf seen may_leave is_usable n report olds news before after) → (A → ends.noted ≡ true) → Held seen may_leave is_usable A number line names t q olds before
      → Held seen may_leave is_usable A number line names (Reports report.pages ∷ t) q news after) (sym same)
      (λ ends sure held. own_ended seen may_leave is_usable A number line names alone low_number t q report olds news before after ends sure held)

  -- they are of lines that are there
  abbrev AreLow : List LineReport → Type 0
  AreLow jobs = (place : ℕ) → length names ≤ place → reports_of place jobs ≡ []

  none_head : (b : Bool) (r : Report) (rs : List Report) → cond b (r ∷ rs) rs ≡ [] → (b ≡ false) × (rs ≡ [])
  none_head true r rs none = absurd (let no : r ∷ rs ≡ [] = none in cc)
  none_head false r rs none = (refl, none)

  low_rest : (one : LineReport) (jobs : List LineReport) → AreLow (one ∷ jobs) → AreLow jobs
  low_rest one jobs low place far = (none_head (nat_eq one.line place) one.report (reports_of place jobs) (low place far)).1

  low_first : (one : LineReport) (jobs : List LineReport) → AreLow (one ∷ jobs) → one.line < length names
  low_first one jobs low = by (nat_lt one.line (length names)) refl
    where
      by : (b : Bool) → nat_lt one.line (length names) ≡ b → one.line < length names
      by true is = ltb-true one.line (length names) is
      by false is = absurd (differ (nat_self one.line) (none_head (nat_eq one.line one.line) one.report (reports_of one.line jobs) (low one.line (ltb-false one.line (length names) is))).0)
        where
          differ : nat_eq one.line one.line ≡ true → nat_eq one.line one.line ≡ false → ⊥
          differ on off = let no : true ≡ false = sym on ∙ off in cc

  -- each of them alone
  alone_first : (t : List BookEntry) (q : List CallPage) (one : LineReport) (jobs : List LineReport) (olds mids news : List QueueValue) (before between after : Spool D) (o : Option Report) → one.line < length names
      → (ends : EndsJobIf seen may_leave is_usable one.line one.report olds mids before between) → (A → one.line ≡ number → ends.noted ≡ true) → reports_of number (one ∷ jobs) ≡ report_list o
      → Held seen may_leave is_usable A number line names t q olds before
      → ((u : List BookEntry) (p : Option Report) → reports_of number jobs ≡ report_list p → Held seen may_leave is_usable A number line names u q mids between → Held seen may_leave is_usable A number line names (reports p u) q news after)
      → (b : Bool) → nat_eq one.line number ≡ b → Held seen may_leave is_usable A number line names (reports o t) q news after
  alone_first t q one jobs olds mids news before between after o low ends sure are held rest true on = by o (sym (ap (λ (b : Bool). cond b (one.report ∷ reports_of number jobs) (reports_of number jobs)) on) ∙ are)
    where
      by : (p : Option Report) → one.report ∷ reports_of number jobs ≡ report_list p → Held seen may_leave is_usable A number line names (reports p t) q news after
      by None its = absurd (let no : one.report ∷ reports_of number jobs ≡ [] = its in cc)
      by (Some r) its =
          let own : one.line ≡ number = eqb-true one.line number on in
          let both : one.report ∷ reports_of number jobs ≡ r ∷ [] = its in
          let report_is : one.report ≡ r = cc in
          let none : reports_of number jobs ≡ [] = cc in
          subst (λ (s : Report). Held seen may_leave is_usable A number line names (Reports s.pages ∷ t) q news after) report_is
          (rest (Reports one.report.pages ∷ t) None none (own_at t q one.line one.report olds mids before between own ends (λ a. sure a own) held))
  alone_first t q one jobs olds mids news before between after o low ends sure are held rest false off =
      rest t o (sym (ap (λ (b : Bool). cond b (one.report ∷ reports_of number jobs) (reports_of number jobs)) off) ∙ are)
      (other_ended seen may_leave is_usable A number line names alone low_number t q one.line one.report olds mids before between (eqb-false one.line number off) low ends held)

  alone_on : (t : List BookEntry) (q : List CallPage) (jobs : List LineReport) (olds news : List QueueValue) (before after : Spool D) (o : Option Report) → AreLow jobs
      → (is : EndAlone seen may_leave is_usable jobs olds news before after) → (A → IsNotedAlone seen may_leave is_usable number jobs olds news before after is) → reports_of number jobs ≡ report_list o
      → Held seen may_leave is_usable A number line names t q olds before → Held seen may_leave is_usable A number line names (reports o t) q news after
  alone_on t q [] olds news before after None low is sure are held =
      subst (λ (s : List QueueValue). Held seen may_leave is_usable A number line names t q s after) (sym is.0) (subst (λ (p : Spool D). Held seen may_leave is_usable A number line names t q olds p) (sym is.1) held)
  alone_on t q [] olds news before after (Some r) low is sure are held = absurd (let no : [] ≡ r ∷ [] = are in cc)
  alone_on t q (one ∷ jobs) olds news before after o low is sure are held =
      alone_first t q one jobs olds is.0 news before is.1 after o (low_first one jobs low) is.2 (λ a. (sure a).0) are held
      (λ u p none was. alone_on u q jobs is.0 news is.1 after p (low_rest one jobs low) is.3 (λ a. (sure a).1) none was) (nat_eq one.line number) refl

  -- all of them at once, or so
  jobs_on : (t : List BookEntry) (q : List CallPage) (jobs : List LineReport) (olds news : List QueueValue) (before after : Spool D) (o : Option Report) → AreLow jobs → EndsSo seen may_leave is_usable number A jobs olds news before after
      → reports_of number jobs ≡ report_list o → Held seen may_leave is_usable A number line names t q olds before → Held seen may_leave is_usable A number line names (reports o t) q news after
  jobs_on t q jobs olds news before after None low (inl is) are held = together_other seen may_leave is_usable A number line names alone low_number t q jobs olds news before after is.0 are held
  jobs_on t q jobs olds news before after (Some r) low (inl is) are held =
      let new = queue_in olds news held.queue is.0.lines held.there in
      together_own seen may_leave is_usable A number line names alone low_number t q jobs olds news before after is.0 r are held new.0 new.1
      (λ a. is.1 a r held.queue new.0 are held.there new.1)
  jobs_on t q jobs olds news before after o low (inr is) are held = alone_on t q jobs olds news before after o low is.0 is.1 are held

  none_both : (xs ys : List Report) → xs ++ ys ≡ [] → (xs ≡ []) × (ys ≡ [])
  none_both [] ys none = (refl, none)
  none_both (x ∷ xs) ys none = absurd (let no : x ∷ (xs ++ ys) ≡ [] = none in cc)

  one_batch : (t : List BookEntry) (q : List CallPage) (o : Option Report) (jobs : List LineReport) (k l : K) → AreLow jobs → EndsIf Ends jobs k l → reports_of number jobs ≡ report_list o → Holds t q k → Holds (reports o t) q l
  one_batch t q None [] k l low is are held = holds_same t q k l is held
  one_batch t q (Some r) [] k l low is are held = absurd (let no : [] ≡ r ∷ [] = are in cc)
  one_batch t q o (one ∷ jobs) k l low is are held = jobs_on t q (one ∷ jobs) (queues_of k) (queues_of l) (spool_of k) (spool_of l) o low (ends_are (one ∷ jobs) k l is) are held

  -- batches of them, among which is what the line told
  batches_on : (t : List BookEntry) (q : List CallPage) (batches : List (List LineReport)) (k l : K) (o : Option Report) → ((place : ℕ) → length names ≤ place → reports_in place batches ≡ []) → EndsEach Ends batches k l
      → reports_in number batches ≡ report_list o → Holds t q k → Holds (reports o t) q l
  batches_on t q [] k l None low is are held = holds_same t q k l is held
  batches_on t q [] k l (Some r) low is are held = absurd (let no : [] ≡ r ∷ [] = are in cc)
  batches_on t q (jobs ∷ later) k l o low is are held = elim (split_reports (reports_of number jobs) (reports_in number later) o are) [
    | inl none ↦ batches_on t q later is.0 l o (λ place far. (none_both (reports_of place jobs) (reports_in place later) (low place far)).1) is.2 none.1 (one_batch t q None jobs k is.0 (λ place far. (none_both (reports_of place jobs) (reports_in place later) (low place far)).0) is.1 none.0 held)
    | inr own ↦
        subst (λ (p : Option Report). Holds (reports p t) q l) (sym own.1)
        (batches_on (reports (Some own.0) t) q later is.0 l None (λ place far. (none_both (reports_of place jobs) (reports_in place later) (low place far)).1) is.2 own.3
        (one_batch t q (Some own.0) jobs k is.0 (λ place far. (none_both (reports_of place jobs) (reports_in place later) (low place far)).0) is.1 own.2 held))
  ]

  -- ---- pages are put

  put_others : (t : List BookEntry) (q : List CallPage) (pages : List PageToStore) (is_stored : Bool) (k l : K) → PutsIf Puts pages is_stored k l → All (λ page. page.line < length (queues_of k)) pages → has_page pages number ≡ false → Holds t q k → Holds t q l
  put_others t q [] is_stored k l put low none held = holds_same t q k l put.1 held
  put_others t q (page ∷ pages) is_stored k l put low none held =
      let is = (puts_are (page ∷ pages) is_stored k l put).0 in
      let stay = puts_stay seen may_leave is_usable number (page ∷ pages) is_stored (queues_of k) (queues_of l) (spool_of k) (spool_of l) is low none in record {
        queue = held.queue;
        there = stay.0 ∙ held.there;
        named = held.named;
        lines = stay.1 ∙ held.lines;
        waits = puts_others seen may_leave is_usable A number line t q held.queue (page ∷ pages) is_stored (queues_of k) (queues_of l) (spool_of k) (spool_of l) is low
            (subst (λ (n : List (List ℕ)). AreOtherNames number line n) (sym held.lines) alone) none held.waits;
      }

  -- the page is told, and put where the answer was Ok
  abbrev HoldsSo : (List BookEntry → Type 0) → List CallPage → List PageToStore → K → Type 0
  HoldsSo R q pages k = (u : List BookEntry) × (r : List CallPage) × R u × AreStoredOf number pages r × Holds u (q ++ r) k

  put_own : (t : List BookEntry) (q : List CallPage) (R : List BookEntry → Type 0) (pages : List PageToStore) (is_stored : Bool) (k l : K) → PutsIf Puts pages is_stored k l → All (λ page. page.line < length (queues_of k)) pages
      → AllPairs (λ page after. page.line < after.line) pages → has_page pages number ≡ true
      → ((at : ℕ) (page : PageToStore) (value : spool.PageValue) → at < length pages → ((other : PageToStore) → slice_index_or pages at other ≡ page) → page.line ≡ number → IsRecordOf page (Page value)
      → (u : List BookEntry) × R u × IsConfirmed seen may_leave is_usable t u value) → Holds t q k → HoldsSo R q (kept_if is_stored pages) l
  put_own t q R [] is_stored k l put low rising has tell held = let no : false ≡ true = has in cc
  put_own t q R (page ∷ pages) true k l put low rising has tell held =
      as_so (own_ok seen may_leave is_usable A number line t q held.queue (page ∷ pages) (queues_of k) (queues_of l) (spool_of k) (spool_of l) R low
      (subst (λ (n : List (List ℕ)). AreOtherNames number line n) (sym held.lines) alone) held.there held.named rising has tell (is.put refl) (λ refuses. let no : true ≡ false = (is.refuses refuses).0 in cc) held.waits)
    where
      is : PutsPages seen may_leave is_usable (page ∷ pages) true (queues_of k) (queues_of l) (spool_of k) (spool_of l)
      is = (puts_are (page ∷ pages) true k l put).0

      as_so : HasPage seen may_leave is_usable A number line q (page ∷ pages) R (queues_of k) (queues_of l) (spool_of l) → HoldsSo R q (page ∷ pages) l
      as_so it = (it.entries, it.puts, it.right, it.are_put, record { queue = it.queue; there = it.there; named = it.named; lines = it.lines ∙ held.lines; waits = it.waits })
  put_own t q R (page ∷ pages) false k l put low rising has tell held =
      as_so (own_err seen may_leave is_usable A number line t q held.queue (page ∷ pages) (queues_of k) (queues_of l) (spool_of k) (spool_of l) R low
      (subst (λ (n : List (List ℕ)). AreOtherNames number line n) (sym held.lines) alone) held.there held.named rising has tell (λ a. let no : false ≡ true = (puts_are (page ∷ pages) false k l put).1 a has in cc) (is.refused refl low) (λ refuses. (is.refuses refuses).1) held.waits)
    where
      is : PutsPages seen may_leave is_usable (page ∷ pages) false (queues_of k) (queues_of l) (spool_of k) (spool_of l)
      is = (puts_are (page ∷ pages) false k l put).0

      as_so : HasPage seen may_leave is_usable A number line q [] R (queues_of k) (queues_of l) (spool_of l) → HoldsSo R q [] l
      as_so it = (it.entries, it.puts, it.right, it.are_put, record { queue = it.queue; there = it.there; named = it.named; lines = it.lines ∙ held.lines; waits = it.waits })

  -- ---- what turns came to is stored: of a line that had none

  module _ (which : ℕ → Bool) (end : PutResult) (turned lines : List PlaceValue) (k l : K) (settled : IsSettled Same Puts Notes Ends which end turned lines k l) (many : length turned ≡ length names) where
    pages_low : (t : List BookEntry) (q : List CallPage) → Holds t q settled.begun → All (λ page. page.line < length (queues_of settled.begun)) end.pages.items
    pages_low t q held = λ i d less.
        let there : (slice_index_or end.pages.items i d).line < length turned = (settled.pages.each i d less).there in
        let same : length (queues_of settled.begun) ≡ length names = queues_low t q settled.begun held in omega (arith, there, same, many)

    many_left : length lines ≡ length names
    many_left = settled.settled.as_many ∙ many

    low_left : number < length lines
    low_left = let same : length lines ≡ length names = many_left in let low : number < length names = low_number in omega (arith, low, same)

    low_turned : number < length turned
    low_turned = let same : length turned ≡ length names = many in let low : number < length names = low_number in omega (arith, low, same)

    low_count : number < settled.told.noted.count
    low_count = let low : number < length lines = low_left in let all : length lines ≤ settled.told.noted.count = settled.told.noted.all in omega (arith, low, all)

    -- no line beyond has a report
    none_beyond : (place : ℕ) → length names ≤ place → reports_in place settled.told.ended.batches ≡ []
    none_beyond place far =
        settled.told.ended.once place ∙ ap (λ (o : Option PlaceValue). reports_at which place o) (none_at lines place (let same : length lines ≡ length names = many_left in omega (arith, far, same)))
      where
        none_at : (lines : List PlaceValue) (i : ℕ) → length lines ≤ i → slice_get lines i ≡ None
        none_at [] i far = refl
        none_at (p ∷ lines) zero far = absurd (omega (arith, far))
        none_at (p ∷ lines) (suc i) far = none_at lines i (omega (arith, far))

    -- then what the line told of its job is told
    ended_on : (other : PlaceValue) (t : List BookEntry) (q : List CallPage) (o : Option Report) → report_if (which number) (slice_index_or lines number other).line.turned ≡ o → Holds t q settled.told.between → Holds (reports o t) q l
    ended_on other t q o is held =
        batches_on t q settled.told.ended.batches settled.told.between l o none_beyond settled.told.ended.told
        (settled.told.ended.once number ∙ ap (λ (p : Option PlaceValue). reports_at which number p) (get_or lines number other low_left) ∙ ap report_list is) held

    ends_where : (other : PlaceValue) → EndsWhere (which number) (is_stored_in end number) (slice_index_or turned number other) (slice_index_or lines number other)
    ends_where other = settled.settled.each number other low_turned

    -- what a line of this number tells, by what it is
    tells_at : (other : PlaceValue) (a b : K) → NotesPlace Notes which end.pages.items number (slice_get lines number) a b
        → NotesWhere Notes number (which number) (slice_index_or lines number other).line.turned (has_page end.pages.items number) a b
    tells_at other a b told = subst (λ (o : Option PlaceValue). NotesPlace Notes which end.pages.items number o a b) (get_or lines number other low_left) told

    settles_still : (other : PlaceValue) (t : List BookEntry) (q : List CallPage) → which number ≡ false → Holds t q k → Holds t q l × (slice_index_or lines number other ≡ slice_index_or turned number other)
    settles_still other t q none held =
        let same : slice_index_or lines number other ≡ slice_index_or turned number other =
        subst (λ (b : Bool). EndsWhere b (is_stored_in end number) (slice_index_or turned number other) (slice_index_or lines number other)) none (ends_where other) in
        let begun : Holds t q settled.begun = holds_still t q k settled.begun settled.is_same held in
        let put : Holds t q settled.kept =
        put_others t q end.pages.items (is_ok end.answer) settled.begun settled.kept settled.put (pages_low t q begun) (none_turned which number turned end.pages.items settled.pages.each none) begun in (
          ended_on other t q None (ap (λ (b : Bool). report_if b (slice_index_or lines number other).line.turned) none)
              (first_after which end.pages.items lines t q (λ (m : K). Holds t q m) (λ place o a b unlike told was. other_place t q which end.pages.items place o a b unlike told was)
              (λ a b told. holds_same t q a b (subst (λ (c : Bool). NotesWhere Notes number c (slice_index_or lines number other).line.turned (has_page end.pages.items number) a b) none (tells_at other a b told)))
              settled.told.noted.count settled.kept settled.told.between low_count settled.told.noted.told put),
          same,
        )

    -- ---- of a line that had one

    module _
        (tell_both : TurnsTellBoth) (newest : ConfirmsTheNewest) (origins : JobsAreOfTheirCalls) (written : PagesAreWritten) (setup : Setup) (writes : Writing) (before t : List BookEntry) (other : PlaceValue)
        (on : which number ≡ true) (so : TurnsSo setup writes before t (slice_index_or turned number other).line) where
      abbrev own_line : LineValue
      own_line = (slice_index_or turned number other).line

      both : TellsBoth setup so.older so.newer own_line
      both = tell_both setup writes so.older so.newer own_line so.ends

      -- told, but for the report
      abbrev IsTold : List BookEntry → Type 0
      IsTold u = told_in setup so.newer before ≡ reports own_line.turned.report u

      told_none_kept : own_line.turned.kept ≡ None → IsTold t
      told_none_kept none = both.none none before ∙ ap (λ (u : List BookEntry). reports own_line.turned.report u) so.was

      told_put : (page : PageToStore) (value : spool.PageValue) → IsOfTurn own_line page → IsRecordOf page (Page value) → (u : List BookEntry) × IsTold u × IsConfirmed seen may_leave is_usable t u value
      told_put page value is recorded =
          let put : IsPutAs setup so.older so.newer own_line.turned.report value = both.one page value is recorded in
          let u : List BookEntry = Confirms put.given (page_of put.page) put.page.waits.closes ∷ t in (
            u,
            put.told before ∙ ap (λ (x : List BookEntry). reports own_line.turned.report (Confirms put.given (page_of put.page) put.page.waits.closes ∷ x)) so.was,
            record { page = put.page; waits = put.waits; means = put.means; given = put.given; tells = refl },
          )

      -- the page of this line among those that were put
      told_page : (at : ℕ) (page : PageToStore) (value : spool.PageValue) → at < length end.pages.items → ((d : PageToStore) → slice_index_or end.pages.items at d ≡ page) → page.line ≡ number → IsRecordOf page (Page value)
          → (u : List BookEntry) × IsTold u × IsConfirmed seen may_leave is_usable t u value
      told_page at page value less is_at same recorded =
          let of : IsPageOf which turned page = subst (λ (p : PageToStore). IsPageOf which turned p) (is_at page) (settled.pages.each at page less) in
          let its : IsOfTurn own_line page = subst (λ (n : ℕ). IsOfTurn (slice_index_or turned n other).line page) same (of.is_of_turn other) in told_put page value its recorded

      -- a page that was not handed over
      told_noted : (kept : Kept) → own_line.turned.kept ≡ Some kept → (life its : ℕ)
          → (u : List BookEntry) × IsTold u × (value : spool.PageValue) × (value.line ≡ line) × (value.life ≡ life) × (value.call ≡ kept.call) × (value.number ≡ its) × IsConfirmed seen may_leave is_usable t u value
      told_noted kept is life its =
          let has = turn_has_page newest origins written setup writes so.older so.newer own_line number kept so.ends is in
          let value : spool.PageValue = record { life = life; call = kept.call; number = its; format = kept.format; closes = kept.closes; line = line; tag = []; text = has.0.text } in
          let recorded : IsRecordOf has.0 (Page value) = record {
            value = value;
            is_page = refl;
            call = ap (λ (x : Kept). x.call) (sym has.1);
            format = ap (λ (x : Kept). x.format) (sym has.1);
            closes = ap (λ (x : Kept). x.closes) (sym has.1);
            text = refl;
          } in
          let told = told_put has.0 value has.2 recorded in (told.0, told.1, value, refl, refl, refl, refl, told.2)

      ended_so : EndsTurn (is_stored_in end number) own_line (slice_index_or lines number other).line × ((slice_index_or lines number other).turned ≡ (slice_index_or turned number other).turned)
      ended_so = subst (λ (b : Bool). EndsWhere b (is_stored_in end number) (slice_index_or turned number other) (slice_index_or lines number other)) on (ends_where other)

      -- what the line tells its store of its page
      told_line : (a b : K) → NotesPlace Notes which end.pages.items number (slice_get lines number) a b → NotesIf Notes number own_line.turned.kept (has_page end.pages.items number) a b
      told_line a b told =
          subst (λ (x : Told). NotesWhere Notes number true x (has_page end.pages.items number) a b) ended_so.0.told
          (subst (λ (c : Bool). NotesWhere Notes number c (slice_index_or lines number other).line.turned (has_page end.pages.items number) a b) on (tells_at other a b told))

      -- and of its job
      its_report : report_if (which number) (slice_index_or lines number other).line.turned ≡ own_line.turned.report
      its_report = ap (λ (b : Bool). report_if b (slice_index_or lines number other).line.turned) on ∙ ap (λ (x : Told). x.report) ended_so.0.told

      told_report : (u : List BookEntry) (q : List CallPage) → IsTold u → Holds u q settled.told.between → Holds (told_in setup so.newer before) q l
      told_report u q is held = subst (λ (x : List BookEntry). Holds x q l) (sym is) (ended_on other u q own_line.turned.report its_report held)

      -- its page is told
      abbrev HoldsTold : List CallPage → K → Type 0
      HoldsTold r m = (v : List BookEntry) × IsTold v × Holds v r m

      -- after its turn all that the line told is told, and what was put with an Ok is put
      settles_turned : (q : List CallPage) → Holds t q k → (r : List CallPage) × AreStoredOf number (kept_if (is_ok end.answer) end.pages.items) r × Holds (told_in setup so.newer before) (q ++ r) l
      settles_turned q held = by_kept own_line.turned.kept refl (has_page end.pages.items number) refl
        where
          begun : Holds t q settled.begun
          begun = holds_still t q k settled.begun settled.is_same held

          after : (u : List BookEntry) (r : List CallPage) → ((a b : K) → NotesPlace Notes which end.pages.items number (slice_get lines number) a b → Holds u r a → HoldsTold r b) → Holds u r settled.kept
              → Holds (told_in setup so.newer before) r l
          after u r own put =
              let it = first_after which end.pages.items lines u r (HoldsTold r) (λ place o a b unlike told was. (was.0, was.1, other_place was.0 r which end.pages.items place o a b unlike told was.2)) own
              settled.told.noted.count settled.kept settled.told.between low_count settled.told.noted.told put in
              told_report it.0 r it.1 it.2

          -- what was put is told already
          reported : (u : List BookEntry) (r : List CallPage) → IsTold u → ((a b : K) → NotesIf Notes number own_line.turned.kept (has_page end.pages.items number) a b → b ≡ a) → Holds u r settled.kept
              → Holds (told_in setup so.newer before) r l
          reported u r is none put = after u r (λ a b told was. (u, is, holds_same u r a b (none a b (told_line a b told)) was)) put

          put_none : has_page end.pages.items number ≡ false → Holds t q settled.kept
          put_none off = put_others t q end.pages.items (is_ok end.answer) settled.begun settled.kept settled.put (pages_low t q begun) off begun

          nothing_put : has_page end.pages.items number ≡ false → Holds (told_in setup so.newer before) q l
              → (r : List CallPage) × AreStoredOf number (kept_if (is_ok end.answer) end.pages.items) r × Holds (told_in setup so.newer before) (q ++ r) l
          nothing_put off left = (
            [],
            kept_if_none number end.pages.items (is_ok end.answer) off,
            subst (λ (p : List CallPage). Holds (told_in setup so.newer before) p l) (sym (append-nil q)) left,
          )

          handed_none : (o : Option Kept) (a between : K) → NotesIf Notes number o true a between → between ≡ a
          handed_none None a between notes = notes
          handed_none (Some kept) a between notes = notes

          by_kept : (o : Option Kept) → own_line.turned.kept ≡ o → (handed : Bool) → has_page end.pages.items number ≡ handed
              → (r : List CallPage) × AreStoredOf number (kept_if (is_ok end.answer) end.pages.items) r × Holds (told_in setup so.newer before) (q ++ r) l
          by_kept o is true has =
              let put : HoldsSo IsTold q (kept_if (is_ok end.answer) end.pages.items) settled.kept =
              put_own t q IsTold end.pages.items (is_ok end.answer) settled.begun settled.kept settled.put (pages_low t q begun) settled.pages.in_order has told_page begun in (
                put.1,
                put.3,
                reported put.0 (q ++ put.1) put.2 (λ a between notes. handed_none own_line.turned.kept a between (subst (λ (b : Bool). NotesIf Notes number own_line.turned.kept b a between) has notes)) put.4,
              )
          by_kept None is false has =
              nothing_put has (reported t q (told_none_kept is) (λ a between notes. subst (λ (o : Option Kept). NotesIf Notes number o (has_page end.pages.items number) a between) is notes) (put_none has))
          by_kept (Some kept) is false has =
              nothing_put has
              (after t q
              (λ a b told was.
              let notes : Notes number kept.call a b =
              subst (λ (o : Option Kept). NotesIf Notes number o false a b) is (subst (λ (c : Bool). NotesIf Notes number own_line.turned.kept c a b) has (told_line a b told)) in
              own_noted seen may_leave is_usable A number line names alone low_number t q (λ x. (notes_are number kept.call a b notes).1 x refl) IsTold kept.call (queues_of a) (queues_of b) (spool_of a) (spool_of b) (told_noted kept is)
              (notes_are number kept.call a b notes).0 was)
              (put_none has))

  -- ---- a run

  module _
      (tell_both : TurnsTellBoth) (newest : ConfirmsTheNewest) (origins : JobsAreOfTheirCalls) (written : PagesAreWritten) (mean : WrittenPagesMean) (setup : Setup) (writes : Writing) (before : List BookEntry)
      (writing : IsWriting writes) (other : PlaceValue) where
    -- the line, and what is stored of its pages, tell the same; and by the ends of the run's turns these were put
    record Stands (q : List CallPage) (ends : List PutResult) (lines : List PlaceValue) (k : K) : Type 0 where
      many : length lines ≡ length names
      entries : List BookEntry
      puts : List CallPage
      are_put : AreStoredOf number (stored_pages ends) puts
      on_leg : List CallPage
      are_on_leg : AreStoredOf number (stored_pages ends) on_leg
      reaches : Reaches setup writes before entries on_leg (slice_index_or lines number other).line
      held : Holds entries (q ++ puts) k

    low_in : (lines : List PlaceValue) → length lines ≡ length names → number < length lines
    low_in lines many = let low : number < length names = low_number in omega (arith, low, many)

    -- nothing is stored of it
    rests_on : (q : List CallPage) (ends : List PutResult) (which : ℕ → Bool) (end : PutResult) (t : List BookEntry) (puts p : List CallPage) (turned lines : List PlaceValue) (k l : K) → length turned ≡ length names
        → which number ≡ false → IsSettled Same Puts Notes Ends which end turned lines k l → AreStoredOf number (stored_pages ends) puts
        → AreStoredOf number (stored_pages ends) p → Reaches setup writes before t p (slice_index_or turned number other).line → Holds t (q ++ puts) k → Stands q (end ∷ ends) lines l
    rests_on q ends which end t puts p turned lines k l many off settled are on reach held =
        let none : AreStoredOf number (kept_if (is_ok end.answer) end.pages.items) [] =
        kept_if_none number end.pages.items (is_ok end.answer) (none_turned which number turned end.pages.items settled.pages.each off) in
        let still = settles_still which end turned lines k l settled many other t (q ++ puts) off held in record {
          many = many_left which end turned lines k l settled many;
          entries = t;
          puts = puts ++ [];
          are_put = kept_both number (stored_pages ends) (kept_if (is_ok end.answer) end.pages.items) puts [] are none;
          on_leg = p ++ [];
          are_on_leg = kept_both number (stored_pages ends) (kept_if (is_ok end.answer) end.pages.items) p [] on none;
          reaches = subst (λ (x : List CallPage). Reaches setup writes before t x (slice_index_or lines number other).line) (sym (append-nil p))
              (subst (λ (x : PlaceValue). Reaches setup writes before t p x.line) (sym still.1) reach);
          held = subst (λ (p : List CallPage). Holds t (q ++ p) l) (sym (append-nil puts)) still.0;
        }

    turns_on : (q : List CallPage) (ends : List PutResult) (which : ℕ → Bool) (now : ℕ) (end : PutResult) (t : List BookEntry) (puts p : List CallPage) (mid turned lines : List PlaceValue) (k l : K) → length turned ≡ length names
        → which number ≡ true → TellsTurn now (slice_index_or mid number other).line (slice_index_or turned number other).line
        → IsSettled Same Puts Notes Ends which end turned lines k l → AreStoredOf number (stored_pages ends) puts → AreStoredOf number (stored_pages ends) p → Reaches setup writes before t p (slice_index_or mid number other).line → Holds t (q ++ puts) k
        → Stands q (end ∷ ends) lines l
    turns_on q ends which now end t puts p mid turned lines k l many on tells settled are on_leg reach held =
        let its = goes_turned setup writes before t p now (slice_index_or mid number other).line (slice_index_or turned number other).line writing tells reach in
        let so : TurnsSo setup writes before t (slice_index_or turned number other).line = its.so in
        let ended = ended_so which end turned lines k l settled many tell_both newest origins written setup writes before t other on so in
        let left = settles_turned which end turned lines k l settled many tell_both newest origins written setup writes before t other on so (q ++ puts) held in
        let leg = leg_ended setup so.older so.newer (handed_by so.ends.log) which number end.pages.items (is_ok end.answer) turned other (slice_index_or mid number other).line.holding (slice_index_or lines number other).line p
        (action_of_turn newest origins mean setup writes so.older so.newer (slice_index_or turned number other).line so.ends) settled.pages.each settled.pages.in_order ended.0 its.holds its.leg in record {
          many = many_left which end turned lines k l settled many;
          entries = told_in setup so.newer before;
          puts = puts ++ left.0;
          are_put = kept_both number (stored_pages ends) (kept_if (is_ok end.answer) end.pages.items) puts left.0 are left.1;
          on_leg = p ++ leg.more;
          are_on_leg = kept_both number (stored_pages ends) (kept_if (is_ok end.answer) end.pages.items) p leg.more on_leg leg.are_put;
          reaches = turn_ended setup writes before t (p ++ leg.more) (slice_index_or turned number other).line (slice_index_or lines number other).line so ended.0.gateway ended.0.driver leg.leg;
          held = subst (λ (p : List CallPage). Holds (told_in setup so.newer before) p l) (append_assoc q puts left.0) left.2;
        }

    -- a line has its turn, or none, by visits of which what they came to was stored
    stored_on : (q : List CallPage) (ends : List PutResult) (visits : ℕ → Visit) (end : PutResult) (mid turned lines : List PlaceValue) (k l : K) → LinesWent (VisitsLines visits ∷ []) mid turned → VisitsTell visits mid turned
        → IsSettled Same Puts Notes Ends (turned_in visits) end turned lines k l → Stands q ends mid k → Stands q (end ∷ ends) lines l
    stored_on q ends visits end mid turned lines k l went tells settled was = by (visits number) refl
      where
        old : PlaceValue
        old = slice_index_or mid number other

        new : PlaceValue
        new = slice_index_or turned number other

        low : number < length mid
        low = low_in mid was.many

        many : length turned ≡ length names
        many = went.as_many ∙ was.many

        goes : Goes (actions_by (visits number) ++ []) old.line new.line
        goes = (went.each number other low).goes

        told : TellsVisit (visits number) old new
        told = tells.each number other low

        by : (v : Visit) → visits number ≡ v → Stands q (end ∷ ends) lines l
        by Passes is =
            let stays : StaysHeld old new = subst (λ (v : Visit). TellsVisit v old new) is told in
            let quiet : Goes [] old.line new.line = subst (λ (v : Visit). Goes (actions_by v ++ []) old.line new.line) is goes in
            rests_on q ends (turned_in visits) end was.entries was.puts was.on_leg turned lines k l many (ap is_turn is) settled was.are_put was.are_on_leg
            (goes_still setup writes before was.entries was.on_leg old.line new.line writing quiet stays.0 was.reaches) was.held
        by (RestsAt now) is =
            let quiet : Goes (Rests now ∷ []) old.line new.line = subst (λ (v : Visit). Goes (actions_by v ++ []) old.line new.line) is goes in
            let none : TellsOrRests now true old new = subst (λ (v : Visit). TellsVisit v old new) is told in
            rests_on q ends (turned_in visits) end was.entries was.puts was.on_leg turned lines k l many (ap is_turn is) settled was.are_put was.are_on_leg
            (goes_with setup writes before was.entries was.on_leg old.line new.line (Rests now) tt writing quiet none.1.0 was.reaches) was.held
        by (TurnsAt now) is =
            let turns : TellsOrRests now false old new = subst (λ (v : Visit). TellsVisit v old new) is told in
            turns_on q ends (turned_in visits) now end was.entries was.puts was.on_leg mid turned lines k l many (ap is_turn is) turns.1 settled was.are_put was.are_on_leg was.reaches was.held

    -- nothing is to be stored of its turn
    none_kept : (told : Told) → is_to_store told ≡ false → told.kept ≡ None
    none_kept told none = by told.kept refl
      where
        by : (o : Option Kept) → told.kept ≡ o → told.kept ≡ None
        by None is = is
        by (Some kept) is = let no : (is_some (Some kept) || is_some told.report) ≡ false = subst (λ (o : Option Kept). (is_some o || is_some told.report) ≡ false) is none in absurd (cc)

    none_reported : (told : Told) → is_to_store told ≡ false → told.report ≡ None
    none_reported told none = by told.report refl told.kept none
      where
        by : (o : Option Report) → told.report ≡ o → (p : Option Kept) → (is_some p || is_some told.report) ≡ false → told.report ≡ None
        by None is p off = is
        by (Some report) is None off = let no : (is_some (Some report)) ≡ false = subst (λ (o : Option Report). is_some o ≡ false) is off in absurd (cc)
        by (Some report) is (Some kept) off = absurd (cc)

    -- and its turn ends
    ends_on : (q : List CallPage) (ends : List PutResult) (now : ℕ) (mid turned lines : List PlaceValue) (k : K) → TellsTurn now (slice_index_or mid number other).line (slice_index_or turned number other).line
        → is_to_store (slice_index_or turned number other).line.turned ≡ false → EndsTurn false (slice_index_or turned number other).line (slice_index_or lines number other).line → length lines ≡ length names → Stands q ends mid k
        → Stands q ends lines k
    ends_on q ends now mid turned lines k tells none ended many was =
        let line : LineValue = (slice_index_or turned number other).line in
        let its = goes_turned setup writes before was.entries was.on_leg now (slice_index_or mid number other).line line writing tells was.reaches in
        let so : TurnsSo setup writes before was.entries line = its.so in
        let both : TellsBoth setup so.older so.newer line = tell_both setup writes so.older so.newer line so.ends in
        let told : told_in setup so.newer before ≡ was.entries =
        both.none (none_kept line.turned none) before ∙ ap (λ (r : Option Report). reports r (told_in setup so.older before)) (none_reported line.turned none) ∙ so.was in
        let leg = leg_ended setup so.older so.newer (handed_by so.ends.log) (λ n. false) number [] false turned other (slice_index_or mid number other).line.holding (slice_index_or lines number other).line was.on_leg
        (action_of_turn newest origins mean setup writes so.older so.newer line so.ends) (λ i d low. absurd (omega (arith, low))) (λ i j d low below. absurd (omega (arith, low, below))) ended its.holds its.leg in
        let nothing : leg.more ≡ [] = leg.are_put in record {
          many = many;
          entries = told_in setup so.newer before;
          puts = was.puts;
          are_put = was.are_put;
          on_leg = was.on_leg;
          are_on_leg = was.are_on_leg;
          reaches = turn_ended setup writes before was.entries was.on_leg line (slice_index_or lines number other).line so ended.gateway ended.driver
              (subst (λ (p : List CallPage). Leg setup so.newer (slice_index_or lines number other).line.holding p) (ap (λ (l : List CallPage). was.on_leg ++ l) nothing ∙ append-nil was.on_leg) leg.leg);
          held = subst (λ (t : List BookEntry). Holds t (q ++ was.puts) k) (sym told) was.held;
        }

    -- a turn of a slot, of which nothing is to be stored
    turn_on : (q : List CallPage) (ends : List PutResult) (visits : ℕ → Visit) (mid turned lines : List PlaceValue) (k : K) → LinesWent (VisitsLines visits ∷ []) mid turned → VisitsTell visits mid turned
        → EndUnstored (turned_in visits) turned lines → Stands q ends mid k → Stands q ends lines k
    turn_on q ends visits mid turned lines k went tells unstored was = by (visits number) refl
      where
        old : PlaceValue
        old = slice_index_or mid number other

        new : PlaceValue
        new = slice_index_or turned number other

        left : PlaceValue
        left = slice_index_or lines number other

        low : number < length mid
        low = low_in mid was.many

        low_turned : number < length turned
        low_turned = let many : length turned ≡ length mid = went.as_many in let less : number < length mid = low in omega (arith, many, less)

        many : length lines ≡ length names
        many = unstored.as_many ∙ went.as_many ∙ was.many

        goes : Goes (actions_by (visits number) ++ []) old.line new.line
        goes = (went.each number other low).goes

        told : TellsVisit (visits number) old new
        told = tells.each number other low

        ended : EndsUnstored (is_turn (visits number)) new left
        ended = unstored.each number other low_turned

        still : left ≡ new → Reaches setup writes before was.entries was.on_leg new.line → Stands q ends lines k
        still same reaches = record {
          many = many;
          entries = was.entries;
          puts = was.puts;
          are_put = was.are_put;
          on_leg = was.on_leg;
          are_on_leg = was.are_on_leg;
          reaches = subst (λ (p : PlaceValue). Reaches setup writes before was.entries was.on_leg p.line) (sym same) reaches;
          held = was.held;
        }

        by : (v : Visit) → visits number ≡ v → Stands q ends lines k
        by Passes is =
            let stays : StaysHeld old new = subst (λ (v : Visit). TellsVisit v old new) is told in
            let quiet : Goes [] old.line new.line = subst (λ (v : Visit). Goes (actions_by v ++ []) old.line new.line) is goes in
            still (subst (λ (v : Visit). EndsUnstored (is_turn v) new left) is ended) (goes_still setup writes before was.entries was.on_leg old.line new.line writing quiet stays.0 was.reaches)
        by (RestsAt now) is =
            let quiet : Goes (Rests now ∷ []) old.line new.line = subst (λ (v : Visit). Goes (actions_by v ++ []) old.line new.line) is goes in
            let none : TellsOrRests now true old new = subst (λ (v : Visit). TellsVisit v old new) is told in
            still (subst (λ (v : Visit). EndsUnstored (is_turn v) new left) is ended) (goes_with setup writes before was.entries was.on_leg old.line new.line (Rests now) tt writing quiet none.1.0 was.reaches)
        by (TurnsAt now) is =
            let turns : TellsOrRests now false old new = subst (λ (v : Visit). TellsVisit v old new) is told in
            let its : EndsUnstored true new left = subst (λ (v : Visit). EndsUnstored (is_turn v) new left) is ended in ends_on q ends now mid turned lines k turns.1 its.0 its.1.0 many was

    ask_on : (q : List CallPage) (ends : List PutResult) (of now : ℕ) (what : LineRequest) (answer : Option LineAnswer) (mid lines : List PlaceValue) (k : K) → LinesWent (AsksLine of now what answer ∷ []) mid lines → AskFrees of what answer mid lines → Stands q ends mid k
        → Stands q ends lines k
    ask_on q ends of now what answer mid lines k went frees was = record { many = went.as_many ∙ was.many; entries = was.entries; puts = was.puts; are_put = was.are_put; on_leg = was.on_leg; are_on_leg = was.are_on_leg; reaches = by (nat_eq number of) refl; held = was.held }
      where
        old : PlaceValue
        old = slice_index_or mid number other

        new : PlaceValue
        new = slice_index_or lines number other

        goes : Goes (actions_of number (AsksLine of now what answer ∷ [])) old.line new.line
        goes = (went.each number other (low_in mid was.many)).goes

        freed : IsFreed (nat_eq number of) what answer old new
        freed = frees.each number other (low_in mid was.many)

        by : (b : Bool) → nat_eq number of ≡ b → Reaches setup writes before was.entries was.on_leg new.line
        by true is =
            goes_with setup writes before was.entries was.on_leg old.line new.line (Asks now what answer) tt writing (subst (λ (c : Bool). Goes (if c then Asks now what answer ∷ [] else []) old.line new.line) is goes)
            (let freed_so : IsFreed true what answer old new = subst (λ (c : Bool). IsFreed c what answer old new) is freed in freed_so.0) was.reaches
        by false is =
            let same : new ≡ old = subst (λ (c : Bool). IsFreed c what answer old new) is freed in
            subst (λ (x : PlaceValue). Reaches setup writes before was.entries was.on_leg x.line) (sym same) was.reaches

    wake_on : (q : List CallPage) (ends : List PutResult) (woken : ℕ) (mid lines : List PlaceValue) (k : K) → LinesWent (WakesLine woken ∷ []) mid lines → AllStayHeld mid lines → Stands q ends mid k → Stands q ends lines k
    wake_on q ends woken mid lines k went stays was = record { many = went.as_many ∙ was.many; entries = was.entries; puts = was.puts; are_put = was.are_put; on_leg = was.on_leg; are_on_leg = was.are_on_leg; reaches = by (nat_eq number woken) refl; held = was.held }
      where
        old : PlaceValue
        old = slice_index_or mid number other

        new : PlaceValue
        new = slice_index_or lines number other

        goes : Goes (actions_of number (WakesLine woken ∷ [])) old.line new.line
        goes = (went.each number other (low_in mid was.many)).goes

        held : StaysHeld old new
        held = stays.each number other (low_in mid was.many)

        by : (b : Bool) → nat_eq number woken ≡ b → Reaches setup writes before was.entries was.on_leg new.line
        by true is = goes_with setup writes before was.entries was.on_leg old.line new.line Wakes tt writing (subst (λ (c : Bool). Goes (if c then Wakes ∷ [] else []) old.line new.line) is goes) held.0 was.reaches
        by false is = goes_still setup writes before was.entries was.on_leg old.line new.line writing (subst (λ (c : Bool). Goes (if c then Wakes ∷ [] else []) old.line new.line) is goes) held.0 was.reaches

    run_on : (q : List CallPage) (done : List DoneOrder) (settled : List PutResult) (begun left : List PlaceValue) (k l : K) → IsRun Same Puts Notes Ends done settled begun left k l → Stands q [] begun k → Stands q settled left l
    run_on q [] [] begun left k l ran was = subst (λ (m : K). Stands q [] left m) (sym ran.1) (subst (λ (p : List PlaceValue). Stands q [] p k) (sym ran.0) was)
    run_on q [] (end ∷ settled) begun left k l ran was = absurd ran
    run_on q (Turned now visits ∷ done) settled begun left k l ran was = turn_on q settled visits ran.0 ran.1 left l ran.3 ran.4 ran.5 (run_on q done settled begun ran.0 k l ran.2 was)
    run_on q (Stored visits ∷ done) [] begun left k l ran was = absurd ran
    run_on q (Stored visits ∷ done) (end ∷ settled) begun left k l ran was = stored_on q settled visits end ran.0 ran.1 left ran.2 l ran.4 ran.5 ran.6 (run_on q done settled begun ran.0 k ran.2 ran.3 was)
    run_on q (AskedOf line now what answer ∷ done) settled begun left k l ran was =
        ask_on q settled line (max (latest done) now) what answer ran.0 left l ran.2 ran.3 (run_on q done settled begun ran.0 k l ran.1 was)
    run_on q (Woken woken ∷ done) settled begun left k l ran was = wake_on q settled woken ran.0 left l ran.2 ran.3 (run_on q done settled begun ran.0 k l ran.1 was)

-- ---- a run makes history

-- a line has this past; and where this holds all was put and noted
record PastIf (A : Type 0) (writes : Writing) (line : List ℕ) (lives : List Life) (puts : List CallPage) (told : List spool.PageValue) : Type 0 where
  past : HasPast writes line lives puts told
  all : A → AllIsPut past.actions

module _ {D K : Type 0} (seen : D → List ℕ) (may_leave : D → List ℕ → Type 0) (is_usable : D → Bool) (queues_of : K → List QueueValue) (spool_of : K → Spool D) where
  same_names : (number : ℕ) (line : List ℕ) (queues : List QueueValue) → ((place : ℕ) (queue : QueueValue) → slice_get queues place ≡ Some queue → place ≢ number → queue.line ≢ line)
      → AreOtherNames number line (lines_of queues)
  same_names number line queues alone = λ place name at unlike. by place name at (slice_get queues place) refl unlike
    where
      same_some : (a b : List ℕ) → Some a ≡ Some b → a ≡ b
      same_some a b same = cc

      none_at : (l : List QueueValue) (place : ℕ) → slice_get l place ≡ None → slice_get (lines_of l) place ≡ None
      none_at [] place none = refl
      none_at (s ∷ l) zero none = let no : Some s ≡ None = none in cc
      none_at (s ∷ l) (suc place) none = none_at l place none

      by : (place : ℕ) (name : List ℕ) → slice_get (lines_of queues) place ≡ Some name → (o : Option QueueValue) → slice_get queues place ≡ o → place ≢ number → name ≢ line
      by place name at None is unlike = let no : None ≡ Some name = sym (none_at queues place is) ∙ at in absurd (cc)
      by place name at (Some queue) is unlike = λ same. alone place queue is unlike (same_some queue.line name (sym (line_at queues place queue is) ∙ at) ∙ same)

  -- what a run leaves; and where this holds all is put and noted
  record LeavesAs (A : Type 0) (writes : Writing) (number : ℕ) (line : List ℕ) (lives : List Life) (puts : List CallPage) (setup : Setup) (settled : List PutResult) (lines : List PlaceValue) (spool : Spool D) : Type 0 where
    leaves : LeavesRun seen may_leave is_usable writes number line lives puts setup settled lines spool
    whole : WaitSo seen may_leave is_usable spool (PastIf A writes line (record { setup = setup; trace = leaves.trace } ∷ lives) (puts ++ leaves.kept))

  leaves_as : (A : Type 0) (number : ℕ) (Puts : List PageToStore → Bool → K → K → Type 0) (Notes : ℕ → ℕ → K → K → Type 0) (Ends : List LineReport → K → K → Type 0) → PutsAre seen may_leave is_usable queues_of spool_of number A Puts
      → NotesAre queues_of spool_of number A Notes → EndsAre seen may_leave is_usable queues_of spool_of number A Ends → TurnsTellBoth → ConfirmsTheNewest → JobsAreOfTheirCalls → PagesAreWritten → WrittenPagesMean → PagesAreUnique → OwedIsRestored
      → (writes : Writing) (line : List ℕ) (pages : List spool.PageValue) (lives : List Life) (puts : List CallPage) (setup : Setup) (done : List DoneOrder) (settled : List PutResult) (begun left : List PlaceValue) (k l : K)
      → IsWriting writes → (past : HasPast writes line lives puts pages) → (A → AllIsPut past.actions) → BeginsRun seen may_leave is_usable number line pages setup begun (queues_of k) (spool_of k)
      → IsRun (λ (old new : K). IsUnchanged (queues_of old) (queues_of new) (spool_of old) (spool_of new)) Puts Notes Ends done settled begun left k l
      → LeavesAs A writes number line lives puts setup settled left (spool_of l)
  leaves_as A number Puts Notes Ends puts_are notes_are ends_are tell_both newest origins written mean unique owed_is writes line pages lives puts setup done settled begun left k l writing past all begins ran =
      let names : List (List ℕ) = lines_of (queues_of k) in
      let alone : AreOtherNames number line names = same_names number line (queues_of k) begins.alone in
      let named : begins.restored.queue.line ≡ line = begins.restores.are.named in
      let before : List BookEntry = told_over lives in
      let first_told : List BookEntry = RestoresCalls setup.restored ∷ before in
      let calls : setup.restored ≡ calls_of (closed_read (owed past.actions)) =
      begins.set.restored ∙ owed_is line past.actions past.state begins.restored past.done (subst (λ (p : List spool.PageValue). Restores line (closed p) begins.restored) (sym past.there) begins.restores) in
      let many_names : length names ≡ length (queues_of k) = length_map (queues_of k) in
      let low : number < length names = low_so number names begun many_names begins.as_many (get_low begun number begins.place begins.there) in
      let held : Held seen may_leave is_usable A number line names first_told (puts ++ []) (queues_of k) (spool_of k) = record {
        queue = begins.restored.queue;
        there = begins.queued;
        named = named;
        lines = refl;
        waits = inl (
          pages,
          begins.waits,
          record {
            actions = Stops ∷ past.actions;
            done = (
              past.state,
              past.done,
              subst (λ (p : List spool.PageValue). GoesOn line Stops past.state (state_of begins.restored.queue (notes_of (spool_of k) begins.restored.queue) p)) past.there
                  (restarts_are_actions line begins.restored past.state (notes_of (spool_of k) begins.restored.queue)
                  (subst (λ (p : List spool.PageValue). Restores line (closed p) begins.restored) (sym past.there) begins.restores)),
            );
            put = past.put ∙ sym (append-nil puts);
            all = all;
            tells = ap (λ (c : List RestoredCall). RestoresCalls c ∷ told_by past.actions) (sym calls) ∙ ap (λ (t : List BookEntry). RestoresCalls setup.restored ∷ t) past.are.same;
          },
        );
      } in
      let place_is : slice_index_or begun number begins.place ≡ begins.place = same_place (slice_index_or begun number begins.place) begins.place (sym (get_or begun number begins.place (get_low begun number begins.place begins.there)) ∙ begins.there) in
      let reaches : Reaches setup writes before first_told [] (slice_index_or begun number begins.place).line = record {
        trace = [];
        made = [];
        reached = subst (λ (p : PlaceValue). IsReachedBy setup writes [] p.line.gateway) (sym place_is) (begins.begins.gateway setup writes begins.set);
        driven = subst (λ (p : PlaceValue). HasMade [] p.line.driver) (sym place_is) begins.begins.driver;
        told = refl;
        leg = leg_fresh setup (slice_index_or begun number begins.place).line.holding (subst (λ (p : PlaceValue). HasDone [] p.line.holding) (sym place_is) begins.fresh);
      } in
      let stands = run_on seen may_leave is_usable queues_of spool_of number line names alone low A Puts Notes Ends puts_are notes_are ends_are tell_both newest origins written mean setup writes before writing begins.place puts done settled begun left k l ran
      (record { many = sym begins.as_many ∙ sym many_names; entries = first_told; puts = []; are_put = refl; on_leg = []; are_on_leg = refl; reaches = reaches; held = held }) in
      let once : stands.on_leg ≡ stands.puts = kept_once unique number (stored_pages settled) stands.on_leg stands.puts stands.are_on_leg stands.are_put in
      let life : Life = record { setup = setup; trace = stands.reaches.trace } in
      let its_state : List spool.PageValue → State = λ told. state_of stands.held.queue (notes_of (spool_of l) stands.held.queue) told in
      let its_past : (told : List spool.PageValue) → PastAs A line stands.entries (puts ++ stands.puts) stands.held.queue (notes_of (spool_of l) stands.held.queue) told → HasPast writes line (life ∷ lives) (puts ++ stands.puts) told =
      λ told p. record {
        actions = p.actions;
        state = its_state told;
        done = p.done;
        there = refl;
        are = record { traces = (stands.reaches.reached.is_trace, past.are.traces); same = p.tells ∙ sym stands.reaches.told };
        put = p.put;
      } in
      record {
        leaves = record {
          place = slice_index_or left number begins.place;
          there = get_or left number begins.place (low_left number names left stands.many low);
          trace = stands.reaches.trace;
          reached = stands.reaches.reached;
          kept = stands.puts;
          are_stored = stands.are_put;
          leg = stands.reaches.leg.actions;
          did = stands.reaches.leg.did;
          on_leg = subst (λ (p : List CallPage). AreOnLeg setup stands.reaches.leg.actions stands.reaches.trace p) once stands.reaches.leg.on_leg;
          past = wait_map seen may_leave is_usable (spool_of l) (PastAs A line stands.entries (puts ++ stands.puts) stands.held.queue (notes_of (spool_of l) stands.held.queue))
              (HasPast writes line (life ∷ lives) (puts ++ stands.puts)) its_past stands.held.waits;
        };
        whole = wait_map seen may_leave is_usable (spool_of l) (PastAs A line stands.entries (puts ++ stands.puts) stands.held.queue (notes_of (spool_of l) stands.held.queue))
            (PastIf A writes line (life ∷ lives) (puts ++ stands.puts)) (λ told p. record { past = its_past told p; all = p.all }) stands.held.waits;
      }
    where
      length_map : (queues : List QueueValue) → length (lines_of queues) ≡ length queues
      length_map [] = refl
      length_map (s ∷ queues) = ap suc (length_map queues)

      same_place : (a b : PlaceValue) → Some a ≡ Some b → a ≡ b
      same_place a b same = cc

      low_so : (number : ℕ) (names : List (List ℕ)) (begun : List PlaceValue) → length names ≡ length (queues_of k) → length (queues_of k) ≡ length begun → number < length begun → number < length names
      low_so number names begun first second low = omega (arith, first, second, low)

      low_left : (number : ℕ) (names : List (List ℕ)) (lines : List PlaceValue) → length lines ≡ length names → number < length names → number < length lines
      low_left number names lines many low = omega (arith, many, low)

  pub runs_make_history : TurnsTellBoth → ConfirmsTheNewest → JobsAreOfTheirCalls → PagesAreWritten → WrittenPagesMean → PagesAreUnique → OwedIsRestored → RunsMakeHistory seen may_leave is_usable queues_of spool_of
  runs_make_history tell_both newest origins written mean unique owed_is writes number line pages lives puts setup done settled begun left k l writing past begins ran =
      let it =
      leaves_as ⊥ number (λ (pages : List PageToStore) (is_stored : Bool) (old new : K). PutsPages seen may_leave is_usable pages is_stored (queues_of old) (queues_of new) (spool_of old) (spool_of new))
      (λ (place call : ℕ) (old new : K). NotesPage place call (queues_of old) (queues_of new) (spool_of old) (spool_of new))
      (λ (ended : List LineReport) (old new : K). EndsJobs seen may_leave is_usable ended (queues_of old) (queues_of new) (spool_of old) (spool_of new)) (λ p b o n is. (is, λ no. absurd no)) (λ p c o n is. (is, λ no. absurd no))
      (λ jobs o n is. elim is [ inl e ↦ inl (e, λ no. absurd no) | inr e ↦ inr (e, λ no. absurd no) ]) tell_both newest origins written mean unique owed_is writes line pages lives puts setup done settled begun left k l writing past (λ no. absurd no) begins ran in it.leaves

  pub runs_note_all : TurnsTellBoth → ConfirmsTheNewest → JobsAreOfTheirCalls → PagesAreWritten → WrittenPagesMean → PagesAreUnique → OwedIsRestored → RunsNoteAll seen may_leave is_usable queues_of spool_of
  runs_note_all tell_both newest origins written mean unique owed_is writes number line pages lives puts setup done settled begun left k l writing past begins ran =
      let it =
      leaves_as (Unit {0}) number (λ (pages : List PageToStore) (is_stored : Bool) (old new : K). PutsWithOk seen may_leave is_usable number pages is_stored (queues_of old) (queues_of new) (spool_of old) (spool_of new)) (λ (place call : ℕ) (old new : K). NotesOther number place call (queues_of old) (queues_of new) (spool_of old) (spool_of new))
      (λ (ended : List LineReport) (old new : K). EndsNoted seen may_leave is_usable number ended (queues_of old) (queues_of new) (spool_of old) (spool_of new)) (λ p b o n is. (is.1, λ a. is.0)) (λ p c o n is. (is.1, λ a. is.0))
      (λ jobs o n is. elim is [ inl e ↦ inl (e.0, λ a. e.1) | inr e ↦ inr (e.0, λ a. e.1) ]) tell_both newest origins written mean unique owed_is writes line pages lives puts setup done settled begun left k l writing past.past (λ a. past.all) begins ran in record {
        leaves = it.leaves;
        whole = wait_map seen may_leave is_usable (spool_of l) (PastIf (Unit {0}) writes line (record { setup = setup; trace = it.leaves.trace } ∷ lives) (puts ++ it.leaves.kept))
            (HasWholePast writes line (record { setup = setup; trace = it.leaves.trace } ∷ lives) (puts ++ it.leaves.kept)) (λ told p. record { past = p.past; all = p.all tt }) it.whole;
      }
