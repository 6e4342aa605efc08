-- Answers, line by line, as octets come of them.
use Rattle.std.proofs.Common.{◌≡◌, ℕ, ◌<◌, List, [], ◌∷◌, ◌++◌, length, Option, None, Some, refl, sym, ◌∙◌, ap, subst, arith, append_assoc, append-nil, length-append}
use Rattle.std.specs.Prelude.{flat_map}
use Rattle.std.proofs.lemmas.List.Concat.{flat_map-append}
use Rattle.std.proofs.lemmas.List.Elements.{All-nil, All-push}
use Rattle.fax_control.specs.ClientStreams.{EndsALine, HasNoLineFeed, fitting}
use Rattle.fax_say.specs.declared.last.Last.{Last}
use Rattle.fax_say.specs.Sayings.{ended}
use Rattle.fax_say.specs.Answers.{GoesOn, IsAnswer, IsBegun, last_of, said_by_heard}
use Rattle.fax_say.specs.Hearings.{HasBegun, IsEnded}
use Rattle.fax_say.proofs.LineFeeds.{empty_has_none, joined_have_none}

-- nothing has come
pub nothing : IsBegun [] []
nothing = record { lines = []; whole = refl; each = All-nil GoesOn; one_line = empty_has_none }

-- more of a line has come
pub goes_on : (octets part more : List ℕ) → IsBegun octets part → HasNoLineFeed more → IsBegun (octets ++ more) (part ++ more)
goes_on octets part more begun none = record {
  lines = begun.lines;
  whole = ap (λ l. l ++ more) begun.whole ∙ append_assoc (flat_map ended begun.lines) part more;
  each = begun.each;
  one_line = joined_have_none part more begun.one_line none;
}

-- one more line, after others
pushed : (lines : List (List ℕ)) (part : List ℕ) → (flat_map ended lines ++ part) ++ 10 ∷ [] ≡ flat_map ended (lines ++ part ∷ []) ++ []
pushed lines part =
    append_assoc (flat_map ended lines) part (10 ∷ [])
    ∙ sym (append-nil (flat_map ended (lines ++ part ∷ [])) ∙ flat_map-append ended lines (part ∷ []) ∙ ap (λ l. flat_map ended lines ++ l) (append-nil (ended part)))

line_ended : (octets part : List ℕ) → IsBegun octets part → last_of part ≡ None → IsBegun (octets ++ 10 ∷ []) []
line_ended octets part begun is = record {
  lines = begun.lines ++ part ∷ [];
  whole = ap (λ l. l ++ 10 ∷ []) begun.whole ∙ pushed begun.lines part;
  each = All-push GoesOn begun.lines part begun.each (begun.one_line, is);
  one_line = empty_has_none;
}

answer_ended : (octets part : List ℕ) (last : Last) → IsBegun octets part → last_of part ≡ Some last → IsAnswer (octets ++ 10 ∷ []) last
answer_ended octets part last begun is = record { begun = octets; line = part; whole = refl; is_begun = begun; says = is }

-- a line has ended, which is the last one or goes on
ended_so : (said : Option Last) (octets part : List ℕ) (now : Option (List ℕ)) → IsBegun octets part → said ≡ last_of part → now ≡ fitting [] → IsEnded said now (octets ++ 10 ∷ [])
ended_so None octets part now begun is begins = ([], line_ended octets part begun (sym is), begins)
ended_so (Some last) octets part now begun is begins = answer_ended octets part last begun (sym is)

-- what a line that was heard comes to
pub heard_so : (octets rest : List ℕ) (heard old now : Option (List ℕ)) (said : Option Last)
    → ((end : List ℕ) × EndsALine octets end rest × ((part : List ℕ) → old ≡ fitting part → heard ≡ fitting (part ++ end)))
    → now ≡ fitting [] → said ≡ said_by_heard heard
    → (front : List ℕ) × (octets ≡ front ++ rest) × ((before : List ℕ) → HasBegun old before → IsEnded said now (before ++ front))
heard_so octets rest heard old now said line begins is =
    let (end, ends, was) = line in (
      end ++ 10 ∷ [],
      ends.cut ∙ sym (append_assoc end (10 ∷ []) rest),
      λ before begun.
          let (part, so_far, same) = begun in
          subst (λ all. IsEnded said now all) (append_assoc before end (10 ∷ []))
          (ended_so said (before ++ end) (part ++ end) now (goes_on before part end so_far ends.in_one_line) (is ∙ ap said_by_heard (was part same)) begins),
    )

-- less is left after a line
pub shorter : (octets rest end : List ℕ) → EndsALine octets end rest → length rest < length octets
shorter octets rest end ends = omega (arith, ap length ends.cut, length-append end (10 ∷ rest))

-- no line ended
pub heard_none : (octets : List ℕ) (old now : Option (List ℕ)) → HasNoLineFeed octets
    → ((part : List ℕ) → old ≡ fitting part → now ≡ fitting (part ++ octets))
    → (before : List ℕ) → HasBegun old before → HasBegun now (before ++ octets)
heard_none octets old now none waits before begun =
    let (part, so_far, same) = begun in (part ++ octets, goes_on before part octets so_far none, waits part same)

-- lines that went on, and what follows them
pub after_front : (octets front rest more left : List ℕ) → octets ≡ front ++ rest → rest ≡ more ++ left → octets ≡ (front ++ more) ++ left
after_front octets front rest more left all e = all ∙ ap (λ l. front ++ l) e ∙ sym (append_assoc front more left)
