-- A try goes on.
use Rattle.std.proofs.Common.{◌≡◌, ◌+◌, ℕ, ◌<◌, max, Bool, true, false, nat_eq, if◌then◌else◌, List, [], ◌∷◌, ◌++◌, length, Option, None, refl, sym, ◌∙◌, ap, subst, arith}
use Rattle.std.proofs.lemmas.Bool.{eqb-true}
use Rattle.fax_gateway.specs.Restored.{RestoredCall}
use Rattle.fax_line.specs.Actions.{BeginsWith, LineValue}
use Rattle.fax_line.specs.declared.asked.LineAnswer.{LineAnswer}
use Rattle.fax_line.specs.declared.asked.LineRequest.{LineRequest}
use Rattle.fax_line.specs.Operations.{AllStayHeld, AllWaitStill, AreBegun, AreFree, AskFrees, AsksLine, IsAdded, LinesValue, LinesWent, VisitsLines, VisitsTell, WaitAlike, WakesLine, WakesOne, rests_at, slot_after, slot_before, slot_of, visits_at, waits_of}
use Rattle.fax_line.specs.Places.{PlaceValue, Visit}
use Rattle.fax_line.specs.Runs.{AskedOf, IsServed, Turned, Woken, latest, next_slot, none_waits, operations_of}
use Rattle.fax_line.specs.Settling.{LetsOutSlot}
use Rattle.fax_line.proofs.Recorded.{alike_woken, none_in, out_recorded, served_free}
use Rattle.fax_line.proofs.Running.{went_more, went_none, went_settled}
use Rattle.fax_redial.specs.Tries.{GoesOn, IsTried, TryValue}

back_of : (slot : ℕ) (b : Bool) → nat_eq slot 39 ≡ b → slot_before (if b then 0 else slot + 1) ≡ slot
back_of slot true is = sym (eqb-true slot 39 is)
back_of slot false is = grind arith

pub slot_back : (slot : ℕ) → slot_before (slot_after slot) ≡ slot
slot_back slot = back_of slot (nat_eq slot 39) refl

-- a line joins no other
pub tried_new : (calls : List RestoredCall) (line : LineValue) (held : TryValue) (old : LinesValue) → BeginsWith calls line → old.lines ≡ [] → old.slot ≡ 0
    → IsAdded line old.lines held.lines.lines → (AreBegun old.lines → AreBegun held.lines.lines) → held.lines.slot ≡ old.slot → held.moment ≡ 0 → IsTried calls [] held
tried_new calls line held old begins none first added begun slot moment =
    let is : held.lines.lines ≡ added.place ∷ [] = added.lines ∙ ap (λ (l : List PlaceValue). l ++ added.place ∷ []) none in
    let are : AreBegun held.lines.lines = begun (subst (λ (l : List PlaceValue). AreBegun l) (sym none) (λ i d there. absurd (omega (arith, there)))) in record {
      place = added.place;
      begins = subst (λ (l : LineValue). BeginsWith calls l) (sym added.line_is) begins;
      went = subst (λ (l : List PlaceValue). LinesWent [] (added.place ∷ []) l) (sym is) (went_none (added.place ∷ []));
      ran = is;
      served = λ line. refl;
      free = λ i d there. (are i d there).1.waits;
      slot = slot ∙ first;
      moment = moment;
    }

-- none waits after a turn either
free_after : (olds woken turned lines : List PlaceValue) → AreFree olds → WakesOne 0 olds woken → AllWaitStill woken turned → WaitAlike turned lines → AreFree lines
free_after olds woken turned lines free wakes still alike = λ i d there.
    let in_turned : i < length turned = omega (arith, there, alike.as_many) in
    let in_woken : i < length woken = omega (arith, in_turned, still.as_many) in
    let in_olds : i < length olds = omega (arith, in_woken, wakes.as_many) in
    alike.each i d in_turned ∙ ((still.each i d in_woken).0 ∙ ((alike_woken 0 olds woken wakes).each i d in_olds ∙ free i d in_olds))

free_alike : (olds lines : List PlaceValue) → AreFree olds → WaitAlike olds lines → AreFree lines
free_alike olds lines free alike = λ i d there. let in_olds : i < length olds = omega (arith, there, alike.as_many) in alike.each i d in_olds ∙ free i d in_olds

free_woken : (olds woken : List PlaceValue) → AreFree olds → WakesOne 0 olds woken → (i : ℕ) → waits_of woken i ≡ false
free_woken olds woken free wakes i = none_in woken i (free_alike olds woken free (alike_woken 0 olds woken wakes))

-- its line is woken, its lines have a turn, and what that gave goes out
pub tried_turned :
    (now : ℕ) (old new : TryValue) (woken turned : List PlaceValue)
    → new.moment ≡ max old.moment now → LinesWent (WakesLine 0 ∷ []) old.lines.lines woken → AllStayHeld old.lines.lines woken → WakesOne 0 old.lines.lines woken
    → LinesWent (VisitsLines (visits_at old.lines.slot new.moment woken) ∷ []) woken turned → VisitsTell (visits_at old.lines.slot new.moment woken) woken turned → AllWaitStill woken turned
    → LinesWent [] turned new.lines.lines → LetsOutSlot old.lines.slot turned new.lines.lines → WaitAlike turned new.lines.lines → new.lines.slot ≡ slot_after old.lines.slot
    → GoesOn (Turned now (visits_at old.lines.slot new.moment woken) ∷ Woken 0 ∷ []) old new
tried_turned now old new woken turned moment wakes stays woke turns tells still settles out alike slot = record {
  goes = λ calls done tried.
      let first = tried.place ∷ [] in
      let visits : ℕ → Visit = visits_at old.lines.slot new.moment woken in
      let off : (i : ℕ) → waits_of woken i ≡ false = free_woken old.lines.lines woken tried.free woke in
      let later : new.moment ≡ max (latest done) now = moment ∙ ap (λ (m : ℕ). max m now) tried.moment in
      let went_woken = went_more (WakesLine 0) (operations_of done) first old.lines.lines woken tried.went wakes in
      let went_turned = went_more (VisitsLines visits) (WakesLine 0 ∷ operations_of done) first woken turned went_woken turns in record {
        place = tried.place;
        begins = tried.begins;
        went = went_settled (VisitsLines visits ∷ WakesLine 0 ∷ operations_of done) first turned new.lines.lines went_turned settles;
        ran = (woken, turned, (old.lines.lines, tried.ran, wakes, stays), turns, tells, out_recorded old.lines.slot new.moment woken turned new.lines.lines off tells out);
        served = (
          none_waits,
          tried.served,
          λ line. subst (λ (m : ℕ). IsServed (nat_eq (slot_of line) (next_slot 0 done)) m (visits line) None None) later
              (subst (λ (s : ℕ). IsServed (nat_eq (slot_of line) s) new.moment (visits line) None None) tried.slot
              (served_free (nat_eq (slot_of line) old.lines.slot) (waits_of woken line) (rests_at new.moment woken line) None new.moment refl (off line))),
        );
        free = free_after old.lines.lines woken turned new.lines.lines tried.free woke still alike;
        slot = slot ∙ ap slot_after tried.slot;
        moment = later;
      };
}

-- something is asked of it
pub tried_asked :
    (now : ℕ) (what : LineRequest) (answer : Option LineAnswer) (old new : TryValue)
    → new.moment ≡ max old.moment now → LinesWent (AsksLine 0 new.moment what answer ∷ []) old.lines.lines new.lines.lines → AskFrees 0 what answer old.lines.lines new.lines.lines
    → WaitAlike old.lines.lines new.lines.lines → new.lines.slot ≡ old.lines.slot → GoesOn (AskedOf 0 now what answer ∷ []) old new
tried_asked now what answer old new moment went frees alike slot = record {
  goes = λ calls done tried.
      let first = tried.place ∷ [] in
      let later : new.moment ≡ max (latest done) now = moment ∙ ap (λ (m : ℕ). max m now) tried.moment in
      let went_so = subst (λ (m : ℕ). LinesWent (AsksLine 0 m what answer ∷ []) old.lines.lines new.lines.lines) later went in record {
        place = tried.place;
        begins = tried.begins;
        went = went_more (AsksLine 0 (max (latest done) now) what answer) (operations_of done) first old.lines.lines new.lines.lines tried.went went_so;
        ran = (old.lines.lines, tried.ran, went_so, frees);
        served = (tried.served, refl);
        free = free_alike old.lines.lines new.lines.lines tried.free alike;
        slot = slot ∙ tried.slot;
        moment = later;
      };
}
