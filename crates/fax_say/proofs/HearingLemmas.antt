-- What is printed of an answer, piece by piece, and how a word ends.
use Rattle.std.proofs.Common.{◌≡◌, ℕ, Bool, true, false, true≢false, List, [], ◌++◌, length, take, take_at, length-append, ◌-◌, Option, None, Some, refl, sym, ◌∙◌, ap, subst, arith, append_assoc, append-nil}
use Rattle.std.specs.Prelude.{if◌then◌else◌}
use Rattle.std.specs.Io.KnownBytes.{Appends, Consumes, IsAtEnd}
use Rattle.std.proofs.KnownBytes.{Appends-trans, Consumes-trans}
use Rattle.fax_say.specs.declared.last.Last.{Last}
use Rattle.fax_say.specs.declared.ending.Ending.TheVariants.{Answered, Unanswered}
use Rattle.fax_say.specs.Answers.{IsAnswer}
use Rattle.fax_say.specs.Hearings.{HasBegun, HasComeTo, HasHeard, HasPassed, HasPrinted, HasPrintedAll, HearingValue, IsTold, ending_after, over, waits}

-- The octets in which a last line ends are told: up to its end, or all of them.
told_by : (w : Bool) (stays : Bool) (last : Last) (octets front after shown before : List ℕ) → waits stays last ≡ w → octets ≡ front ++ after
    → shown ≡ (if w then octets else front) → IsAnswer (before ++ front) last → IsTold stays last (before ++ shown)
told_by true stays last octets front after shown before waiting cut is answer = record {
  answer = before ++ front;
  after = after;
  whole = ap (λ l. before ++ l) (is ∙ cut) ∙ sym (append_assoc before front after);
  is_answer = answer;
  no_more = λ e. absurd (true≢false (sym waiting ∙ e));
}
told_by false stays last octets front after shown before waiting cut is answer = record {
  answer = before ++ front;
  after = [];
  whole = ap (λ l. before ++ l) is ∙ sym (append-nil (before ++ front));
  is_answer = answer;
  no_more = λ e. refl;
}

pub told_so : (stays : Bool) (last : Last) (octets front after shown before : List ℕ) → octets ≡ front ++ after
    → shown ≡ (if waits stays last then octets else front) → IsAnswer (before ++ front) last → IsTold stays last (before ++ shown)
told_so stays last octets front after shown before cut is answer = told_by (waits stays last) stays last octets front after shown before refl cut is answer

-- What comes after an answer is told, or nothing of it.
more_by : (w : Bool) (stays : Bool) (last : Last) (octets shown before : List ℕ) → waits stays last ≡ w → shown ≡ (if w then octets else [])
    → IsTold stays last before → IsTold stays last (before ++ shown)
more_by true stays last octets shown before waiting is told = record {
  answer = told.answer;
  after = told.after ++ shown;
  whole = ap (λ l. l ++ shown) told.whole ∙ append_assoc told.answer told.after shown;
  is_answer = told.is_answer;
  no_more = λ e. absurd (true≢false (sym waiting ∙ e));
}
more_by false stays last octets shown before waiting is told = subst (IsTold stays last) (sym (ap (λ l. before ++ l) is ∙ append-nil before)) told

pub more_so : (stays : Bool) (last : Last) (octets shown before : List ℕ) → shown ≡ (if waits stays last then octets else [])
    → IsTold stays last before → IsTold stays last (before ++ shown)
more_so stays last octets shown before is told = more_by (waits stays last) stays last octets shown before refl is told

-- what is told stands at the front of what came
pub front_so : (w : Bool) (octets front after shown : List ℕ) → octets ≡ front ++ after → shown ≡ (if w then octets else front)
    → (dropped : List ℕ) × (octets ≡ shown ++ dropped)
front_so true octets front after shown cut is = ([], sym (append-nil octets) ∙ ap (λ l. l ++ []) (sym is))
front_so false octets front after shown cut is = (after, cut ∙ ap (λ l. l ++ after) (sym is))

-- and is all of it while more is waited for
pub whole_so : (w : Bool) (last : Last) (octets front shown : List ℕ) → shown ≡ (if w then octets else front)
    → (if w then None else Some last) ≡ None → shown ≡ octets
whole_so true last octets front shown is more = is
whole_so false last octets front shown is more = absurd (cc)

-- where nothing more is waited for, the last line has come
said_by_end : (w : Bool) (stays : Bool) (come last : Last) → waits stays come ≡ w → (if w then None else Some come) ≡ Some last
    → (Some come ≡ Some last) × (waits stays last ≡ false)
said_by_end true stays come last waiting e = absurd (cc)
said_by_end false stays come last waiting e = let same : come ≡ last = cc in (e, ap (waits stays) (sym same) ∙ waiting)

pub over_so : (stays : Bool) (said : Option Last) (last : Last) → over stays said ≡ Some last → (said ≡ Some last) × (waits stays last ≡ false)
over_so stays None last e = absurd (cc)
over_so stays (Some come) last e = said_by_end (waits stays come) stays come last refl e

-- What came and was printed so far, and the next octets.
pub passed_more : (coming comes now held holds left : Option (List ℕ)) (octets more front dropped : List ℕ) → Consumes coming comes octets → Consumes comes now more
    → Appends held holds octets → Appends holds left front → more ≡ front ++ dropped → HasPassed coming now held left (octets ++ front) dropped
passed_more coming comes now held holds left octets more front dropped came next printed shown cut = record {
  came = subst (Consumes coming now) (ap (λ l. octets ++ l) cut ∙ sym (append_assoc octets front dropped)) (Consumes-trans coming comes now octets more came next);
  printed = Appends-trans held holds left octets front printed shown;
}

-- what was printed so far, where nothing was dropped
pub passed_all : (coming comes held holds : Option (List ℕ)) (octets : List ℕ) → Consumes coming comes octets → Appends held holds octets
    → HasPassed coming comes held holds octets []
passed_all coming comes held holds octets came printed =
    record { came = subst (Consumes coming comes) (sym (append-nil octets)) came; printed = printed }

-- A word was answered, and nothing more is waited for.
pub printed_so : (stays : Bool) (said : Option Last) (part : Option (List ℕ)) (last : Last) (coming comes held holds : Option (List ℕ)) (octets dropped : List ℕ)
    → over stays said ≡ Some last → HasComeTo stays part said octets → HasPassed coming comes held holds octets dropped
    → HasPrinted stays last coming comes held holds
printed_so stays said part last coming comes held holds octets dropped is come passed =
    let (same, done) = over_so stays said last is in
    record {
      octets = octets;
      dropped = dropped;
      told = subst (λ s. HasComeTo stays part s octets) same come;
      passed = passed;
      to_its_end = λ more. absurd (true≢false (sym more ∙ done));
    }

-- The stream was closed after an answer.
pub closed_so : (stays : Bool) (said : Option Last) (part : Option (List ℕ)) (last : Last) (coming comes held holds : Option (List ℕ)) (octets : List ℕ)
    → ending_after said ≡ Answered last → HasComeTo stays part said octets → HasPassed coming comes held holds octets [] → IsAtEnd comes
    → HasPrinted stays last coming comes held holds
closed_so stays None part last coming comes held holds octets is come passed end = absurd (cc)
closed_so stays (Some said) part last coming comes held holds octets is come passed end =
    let same : said ≡ last = cc in
    record {
      octets = octets;
      dropped = [];
      told = subst (λ l. IsTold stays l octets) same come;
      passed = passed;
      to_its_end = λ more. (refl, end);
    }

-- It was closed, and no answer has come.
pub unanswered_so : (stays : Bool) (said : Option Last) (part : Option (List ℕ)) (coming comes held holds : Option (List ℕ)) (octets : List ℕ)
    → ending_after said ≡ Unanswered → HasComeTo stays part said octets → HasPassed coming comes held holds octets [] → IsAtEnd comes
    → HasPrintedAll coming comes held holds
unanswered_so stays None part coming comes held holds octets is come passed end =
    let (line, begun, same) = come in record { octets = octets; no_answer = (line, begun); passed = passed; at_its_end = end }
unanswered_so stays (Some said) part coming comes held holds octets is come passed end = absurd (cc)

-- the front of octets before what stands at their end
pub slice_so : (octets front after : List ℕ) → octets ≡ front ++ after → take (length octets - length after) octets ≡ front
slice_so octets front after cut =
    ap (take (length octets - length after)) cut
    ∙ take_at front after (length octets - length after) (omega (arith, ap length cut, length-append front after))

-- an answer whose last line has not come is begun
pub begun_so : (hearing : HearingValue) (octets : List ℕ) → hearing.last ≡ None → HasHeard hearing octets → HasBegun hearing.part octets
begun_so hearing octets none heard = subst (λ said. HasComeTo hearing.stays hearing.part said octets) none heard

-- what came, where nothing more does
pub none_came : (coming now left : Option (List ℕ)) (octets taken : List ℕ) → Consumes coming now octets → Consumes now left taken → taken ≡ [] → Consumes coming left octets
none_came coming now left octets taken came next none =
    subst (Consumes coming left) (ap (λ l. octets ++ l) none ∙ append-nil octets) (Consumes-trans coming now left octets taken came next)

-- and where more does, all of which is told
pub more_came : (coming now left : Option (List ℕ)) (octets taken front dropped : List ℕ) → Consumes coming now octets → Consumes now left taken
    → taken ≡ front ++ dropped → dropped ≡ [] → Consumes coming left (octets ++ front)
more_came coming now left octets taken front dropped came next cut none =
    subst (Consumes coming left) (ap (λ l. octets ++ l) (cut ∙ ap (λ l. front ++ l) none ∙ append-nil front)) (Consumes-trans coming now left octets taken came next)
