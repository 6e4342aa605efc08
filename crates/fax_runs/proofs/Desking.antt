-- What the lines of a run were asked is what the desk gave.
use Rattle.std.proofs.Common.{◌≡◌, List, [], ◌∷◌, ◌++◌, Option, None, inl, inr, refl, sym, ◌∙◌, ap, subst}
use Rattle.fax_line.specs.declared.asked.LineAnswer.{LineAnswer}
use Rattle.fax_line.specs.Pacing.{IsPaced, PacedToEnd, SeesStored, SeesTurn}
use Rattle.fax_line.specs.Runs.{AskedOf, DoneOrder, Stored, Turned, Woken}
use Rattle.fax_desk.specs.declared.desk.Waits.{Waits}
use Rattle.fax_desk.specs.declared.next.Next.TheVariants as next
use Rattle.fax_desk.specs.Laws.{DeskEvent, Lapsed, Passes, Said, Told, told_of}
use Rattle.fax_runs.specs.Desking.{GivesOrder, Hears, LineAsked, PaceValue, PassesDesk, SeesNothing, WordsAreDone, asked_by, lines_answered, lines_asked, ordered}

pub orders_more : (newer older : List DeskEvent) → ordered (newer ++ older) ≡ ordered newer ++ ordered older
orders_more [] older = refl
orders_more (Said asker (next.Orders given) ∷ newer) older = ap (λ (l : List LineAsked). asked_by given ∷ l) (orders_more newer older)
orders_more (Said asker (next.Replies reply) ∷ newer) older = orders_more newer older
orders_more (Said asker (next.Reports line) ∷ newer) older = orders_more newer older
orders_more (Said asker next.Undelivered ∷ newer) older = orders_more newer older
orders_more (Said asker next.Discards ∷ newer) older = orders_more newer older
orders_more (Said asker next.Retries ∷ newer) older = orders_more newer older
orders_more (Said asker next.Status ∷ newer) older = orders_more newer older
orders_more (Said asker next.Metrics ∷ newer) older = orders_more newer older
orders_more (Said asker next.Events ∷ newer) older = orders_more newer older
orders_more (Said asker (next.Frames line) ∷ newer) older = orders_more newer older
orders_more (Said asker next.Reloads ∷ newer) older = orders_more newer older
orders_more (Lapsed given ∷ newer) older = ap (λ (l : List LineAsked). asked_by given ∷ l) (orders_more newer older)
orders_more (Told told ended ∷ newer) older = orders_more newer older

pub told_more : (newer older : List DeskEvent) → told_of (newer ++ older) ≡ told_of newer ++ told_of older
told_more [] older = refl
told_more (Said asker came ∷ newer) older = told_more newer older
told_more (Lapsed given ∷ newer) older = told_more newer older
told_more (Told told ended ∷ newer) older = ap (λ (l : List (Option LineAnswer)). told ∷ l) (told_more newer older)

-- what passed so far
record SoFar (done : List DoneOrder) (pace : PaceValue) : Type 0 where
  passed : List DeskEvent
  passes : Passes passed pace.waits
  free : pace.waits ≡ None
  orders : ordered passed ≡ lines_asked done
  answers : told_of passed ≡ lines_answered done

-- and what passes next, which gives these orders and is told these answers
abbrev passes_on :
    (given : List LineAsked) (told : List (Option LineAnswer)) (done now_done : List DoneOrder) (before after : PaceValue) → SoFar done before → PassesDesk given told before after
    → given ++ lines_asked done ≡ lines_asked now_done → told ++ lines_answered done ≡ lines_answered now_done → WordsAreDone now_done
passes_on given told done now_done before after far passing orders_are answers_are = record {
  passed = passing.passed ++ far.passed;
  waits = after.waits;
  passes = passing.passes far.passed far.passes;
  orders = orders_more passing.passed far.passed ∙ ap (λ (l : List LineAsked). l ++ ordered far.passed) passing.orders ∙ ap (λ (l : List LineAsked). given ++ l) far.orders ∙ orders_are;
  answers = told_more passing.passed far.passed ∙ ap (λ (l : List (Option LineAnswer)). l ++ told_of far.passed) passing.told_is ∙ ap (λ (l : List (Option LineAnswer)). told ++ l) far.answers ∙ answers_are;
}

-- after it nothing waits
far_with : (done : List DoneOrder) (pace : PaceValue) (words : WordsAreDone done) → words.waits ≡ pace.waits → pace.waits ≡ None → SoFar done pace
far_with done pace words same free = record { passed = words.passed; passes = subst (λ (w : Option Waits). Passes words.passed w) same words.passes; free = free; orders = words.orders; answers = words.answers }

stored_same : (old new : PaceValue) → SeesStored SeesNothing old new → new.waits ≡ old.waits
stored_same old new (inl same) = ap (λ (p : PaceValue). p.waits) same
stored_same old new (inr (put, kept, first, second, third)) = third ∙ second ∙ first

sees_same : (old new : PaceValue) → SeesTurn SeesNothing old new → new.waits ≡ old.waits
sees_same old new (seen, sees, stored) = stored_same seen new stored ∙ sees

-- and that changes nothing of what passes at the desk
passes_same : (given : List LineAsked) (told : List (Option LineAnswer)) (old between new : PaceValue) → PassesDesk given told between new → between.waits ≡ old.waits → PassesDesk given told old new
passes_same given told old between new passing same = record {
  passed = passing.passed;
  passes = λ earlier before. passing.passes earlier (subst (λ (w : Option Waits). Passes earlier w) (sym same) before);
  orders = passing.orders;
  told_is = passing.told_is;
}

so_far : (done : List DoneOrder) (old new : PaceValue) → old.waits ≡ None → IsPaced GivesOrder (λ line. Hears) SeesNothing done old new → SoFar done new
so_far [] old new free same = subst (λ (p : PaceValue). SoFar [] p) (sym same) (record { passed = []; passes = free; free = free; orders = refl; answers = refl })
so_far (Turned now visits ∷ done) old new free (before, given, paced, gives, sees) =
    let far = so_far done old before free paced in
    let here = gives far.free in
    let words = passes_on [] [] done (Turned now visits ∷ done) before given far here.0 refl refl in
    let same = sees_same given new sees in
    far_with (Turned now visits ∷ done) new words (sym same) (same ∙ here.1 refl)
so_far (Stored visits ∷ done) old new free paced =
    let far = so_far done old new free paced in record { passed = far.passed; passes = far.passes; free = far.free; orders = far.orders; answers = far.answers }
so_far (AskedOf line now what answer ∷ done) old new free (before, given, seen, paced, gives, sees, hears) =
    let far = so_far done old before free paced in
    let here = gives far.free in
    let order : LineAsked = record { line = line; what = what } in
    let asked = here.0 in
    let told = passes_same [] (answer ∷ []) given seen new hears.0 (stored_same given seen sees) in
    record {
      passed = told.passed ++ (asked.passed ++ far.passed);
      passes = told.passes (asked.passed ++ far.passed) (asked.passes far.passed far.passes);
      free = hears.1;
      orders = orders_more told.passed (asked.passed ++ far.passed) ∙ ap (λ (l : List LineAsked). l ++ ordered (asked.passed ++ far.passed)) told.orders
          ∙ orders_more asked.passed far.passed ∙ ap (λ (l : List LineAsked). l ++ ordered far.passed) asked.orders ∙ ap (λ (l : List LineAsked). order ∷ l) far.orders;
      answers = told_more told.passed (asked.passed ++ far.passed) ∙ ap (λ (l : List (Option LineAnswer)). l ++ told_of (asked.passed ++ far.passed)) told.told_is
          ∙ ap (λ (l : List (Option LineAnswer)). answer ∷ l) (told_more asked.passed far.passed ∙ ap (λ (l : List (Option LineAnswer)). l ++ told_of far.passed) asked.told_is ∙ far.answers);
    }
so_far (Woken line ∷ done) old new free (before, paced, gives) =
    let far = so_far done old before free paced in
    let here = gives far.free in
    let words = passes_on [] [] done (Woken line ∷ done) before new far here.0 refl refl in
    far_with (Woken line ∷ done) new words refl (here.1 refl)

pub paces_do_words : (done : List DoneOrder) (old new : PaceValue) → old.waits ≡ None → PacedToEnd GivesOrder (λ line. Hears) SeesNothing done old new → WordsAreDone done
paces_do_words done old new free (last, sees, inl (before, paced, gives)) =
    let far = so_far done old before free paced in passes_on [] [] done done before last far (gives far.free).0 refl refl
paces_do_words done old new free (last, sees, inr (many, paced)) =
    let far = so_far done old last free paced in record { passed = far.passed; waits = last.waits; passes = far.passes; orders = far.orders; answers = far.answers }
