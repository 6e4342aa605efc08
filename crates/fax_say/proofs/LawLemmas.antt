-- Answers are what they are by the octets of their lines.
use Rattle.std.proofs.Common.{◌≡◌, ◌≤◌, ℕ, true, List, [], ◌∷◌, ◌++◌, length, None, Some, refl, sym, ◌∙◌, ap, ap₂, subst, arith, append_assoc, All}
use Rattle.std.specs.Prelude.{flat_map, if◌then◌else◌, nat_le}
use Rattle.std.proofs.lemmas.Bool.Decides.{nat_tests}
use Rattle.std.proofs.lemmas.List.Elements.{All-head, All-tail}
use Rattle.fax_control.specs.Answers.{answer_text}
use Rattle.fax_control.specs.ClientStreams.{HasNoLineFeed}
use Rattle.fax_control.specs.declared.answer.Answer.TheVariants.{Done as Given, Rung, RungOn, Refused as Turned}
use Rattle.fax_say.specs.declared.last.Last.{Last}
use Rattle.fax_say.specs.Sayings.{ended}
use Rattle.fax_say.specs.Answers.{GoesOn, last_of, said_by, said_by_heard}
use Rattle.fax_say.specs.Laws.{AnswersAreKnown, NoneIsPassedOver, OneAnswer}
use Rattle.fax_say.proofs.LineFeeds.{cut_once, one_stands_between}

-- what a line says that is not too long
said : (line : List ℕ) → length line ≤ 256 → last_of line ≡ said_by line
said line fits = let is : nat_le (length line) 256 ≡ true = grind (arith, nat_tests) in ap (λ b. said_by_heard (if b then Some line else None)) is

pub known : AnswersAreKnown
known Given fits = refl
known (Rung call) fits = said (answer_text (Rung call)) fits
known (RungOn line call) fits = said (answer_text (RungOn line call)) fits
known (Turned refusal) fits = said (answer_text (Turned refusal)) fits

-- a first line, and what follows it
apart : (line rest more : List ℕ) → (ended line ++ rest) ++ more ≡ line ++ 10 ∷ (rest ++ more)
apart line rest more = append_assoc (ended line) rest more ∙ append_assoc line (10 ∷ []) (rest ++ more)

-- no line is the last one and goes on
both : (line other : List ℕ) (last : Last) → line ≡ other → last_of line ≡ Some last → GoesOn other → ⊥
both line other last same is goes = let no : None ≡ Some last = sym goes.1 ∙ ap last_of (sym same) ∙ is in absurd (cc)

-- the lines before a last one, and that line, are those of the octets
one_by : (lines others : List (List ℕ)) (line other rest after : List ℕ) (last next : Last) → All GoesOn lines → All GoesOn others
    → HasNoLineFeed line → HasNoLineFeed other → last_of line ≡ Some last → last_of other ≡ Some next
    → flat_map ended lines ++ (line ++ 10 ∷ rest) ≡ flat_map ended others ++ (other ++ 10 ∷ after) → (lines ≡ others) × (line ≡ other)
one_by [] [] line other rest after last next p q one two is so e = (refl, (cut_once line rest other after one two e).0)
one_by [] (o ∷ others) line other rest after last next p q one two is so e =
    let first = All-head GoesOn o others q in
    absurd (both line o last (cut_once line rest o (flat_map ended others ++ (other ++ 10 ∷ after)) one first.0 (e ∙ apart o (flat_map ended others) (other ++ 10 ∷ after))).0 is first)
one_by (l ∷ lines) [] line other rest after last next p q one two is so e =
    let first = All-head GoesOn l lines p in
    absurd (both other l next (cut_once other after l (flat_map ended lines ++ (line ++ 10 ∷ rest)) two first.0 (sym e ∙ apart l (flat_map ended lines) (line ++ 10 ∷ rest))).0 so first)
one_by (l ∷ lines) (o ∷ others) line other rest after last next p q one two is so e =
    let left = flat_map ended lines ++ (line ++ 10 ∷ rest) in
    let right = flat_map ended others ++ (other ++ 10 ∷ after) in
    let (first, later) = cut_once l left o right (All-head GoesOn l lines p).0 (All-head GoesOn o others q).0
    (sym (apart l (flat_map ended lines) (line ++ 10 ∷ rest)) ∙ e ∙ apart o (flat_map ended others) (other ++ 10 ∷ after)) in
    let (same, line_is) = one_by lines others line other rest after last next (All-tail GoesOn l lines p) (All-tail GoesOn o others q) one two is so later in
    (ap₂ (λ x xs. x ∷ xs) first same, line_is)

-- an answer, and what follows it
cut_so : (octets begun line lines rest : List ℕ) → octets ≡ begun ++ 10 ∷ [] → begun ≡ lines ++ line → octets ++ rest ≡ lines ++ (line ++ 10 ∷ rest)
cut_so octets begun line lines rest whole is =
    ap (λ l. l ++ rest) (whole ∙ ap (λ l. l ++ 10 ∷ []) is) ∙ append_assoc (lines ++ line) (10 ∷ []) rest ∙ append_assoc lines line (10 ∷ rest)

pub one : OneAnswer
one octets rest others after last other first second e =
    let (lines, line) = one_by first.is_begun.lines second.is_begun.lines first.line second.line rest after last other first.is_begun.each second.is_begun.each
    first.is_begun.one_line second.is_begun.one_line first.says second.says
    (sym (cut_so octets first.begun first.line (flat_map ended first.is_begun.lines) rest first.whole first.is_begun.whole) ∙ e
    ∙ cut_so others second.begun second.line (flat_map ended second.is_begun.lines) after second.whole second.is_begun.whole) in
    let said : Some last ≡ Some other = sym first.says ∙ ap last_of line ∙ second.says in (
      first.whole
          ∙ ap (λ l. l ++ 10 ∷ []) (first.is_begun.whole ∙ ap₂ (λ xs x. flat_map ended xs ++ x) lines line ∙ sym second.is_begun.whole)
          ∙ sym second.whole,
      cc,
    )

-- a last line does not stand in lines that all go on
none_by : (lines others : List (List ℕ)) (line part rest : List ℕ) (last : Last) → All GoesOn lines → All GoesOn others
    → HasNoLineFeed line → HasNoLineFeed part → last_of line ≡ Some last
    → flat_map ended lines ++ (line ++ 10 ∷ rest) ≡ flat_map ended others ++ part → ⊥
none_by [] [] line part rest last p q whole clear is e = one_stands_between line rest (subst HasNoLineFeed (sym e) clear)
none_by [] (o ∷ others) line part rest last p q whole clear is e =
    let first = All-head GoesOn o others q in
    both line o last (cut_once line rest o (flat_map ended others ++ part) whole first.0 (e ∙ apart o (flat_map ended others) part)).0 is first
none_by (l ∷ lines) [] line part rest last p q whole clear is e =
    one_stands_between l (flat_map ended lines ++ (line ++ 10 ∷ rest)) (subst HasNoLineFeed (sym e ∙ apart l (flat_map ended lines) (line ++ 10 ∷ rest)) clear)
none_by (l ∷ lines) (o ∷ others) line part rest last p q whole clear is e =
    let left = flat_map ended lines ++ (line ++ 10 ∷ rest) in
    let later = (cut_once l left o (flat_map ended others ++ part) (All-head GoesOn l lines p).0 (All-head GoesOn o others q).0
    (sym (apart l (flat_map ended lines) (line ++ 10 ∷ rest)) ∙ e ∙ apart o (flat_map ended others) part)).1 in
    none_by lines others line part rest last (All-tail GoesOn l lines p) (All-tail GoesOn o others q) whole clear is later

pub none : NoneIsPassedOver
none octets rest last answer (part, begun) =
    none_by answer.is_begun.lines begun.lines answer.line part rest last answer.is_begun.each begun.each answer.is_begun.one_line begun.one_line answer.says
    (sym (cut_so octets answer.begun answer.line (flat_map ended answer.is_begun.lines) rest answer.whole answer.is_begun.whole) ∙ begun.whole)
