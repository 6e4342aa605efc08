-- The texts that are written, line by line.
use Rattle.std.proofs.Common.{◌≡◌, ℕ, zero, suc, ◌+◌, ◌<◌, Bool, true, not, ◌&&◌, List, [], ◌∷◌, ◌++◌, length, get_or, drop, nat_eq, codes, flat_map, Some, Result, Ok, Err, refl, sym, ◌∙◌, ap, append_assoc, append-nil, arith}
use Rattle.std.proofs.lemmas.Bool.{and_parts}
use Rattle.std.proofs.lemmas.Bool.Decides.{nat_tests}
use Rattle.std.proofs.lemmas.List.{drop_more}
use Rattle.std.proofs.lemmas.List.Concat.{flat_map-append}
use Rattle.std.specs.List.{AllByRecursion}
use Rattle.std.specs.Result.{OnOk}
use Rattle.fax_sdp.specs.declared.writing.Section.{Section}
use Rattle.fax_sdp.specs.Texts.{cut_at, lines_of}
use Rattle.fax_sdp.specs.Writing.{ended, section_lines, spaced, text_of}
use Rattle.fax_sdp.proofs.TextLemmas.{Lacks, cut_at_after, lines_of_cut, lines_of_nil, without_return_at}

-- ---- what is added

-- the same text, spelled otherwise
pub added_as : {T E : Type 0} (r : Result T E) (old new s t : List ℕ) → OnOk r (new ≡ old ++ s) → s ≡ t → OnOk r (new ≡ old ++ t)
added_as (Ok done) old new s t e same = e ∙ ap (λ u. old ++ u) same
added_as (Err fault) old new s t e same = tt

-- ---- the lines of a text that is written

Lacks-nil : (mark : ℕ) → Lacks mark []
Lacks-nil mark i h = absurd (omega arith)

pub Lacks-append : (mark : ℕ) (xs ys : List ℕ) → Lacks mark xs → Lacks mark ys → Lacks mark (xs ++ ys)
Lacks-append mark [] ys p q i h = q i h
Lacks-append mark (x ∷ xs) ys p q zero h = p zero (omega arith)
Lacks-append mark (x ∷ xs) ys p q (suc i) h = Lacks-append mark xs ys (λ j k. p (suc j) (omega arith)) q i (omega arith)

-- a test that computes
abbrev pub lacks : ℕ → List ℕ → Bool
lacks mark [] = true
lacks mark (x ∷ xs) = not (nat_eq x mark) && lacks mark xs

pub Lacks-by_test : (mark : ℕ) (xs : List ℕ) → lacks mark xs ≡ true → Lacks mark xs
Lacks-by_test mark [] passes i h = absurd (omega arith)
Lacks-by_test mark (x ∷ xs) passes zero h = let head : not (nat_eq x mark) ≡ true = (and_parts (not (nat_eq x mark)) (lacks mark xs) passes).0 in λ same. grind (arith, nat_tests)
Lacks-by_test mark (x ∷ xs) passes (suc i) h = Lacks-by_test mark xs (and_parts (not (nat_eq x mark)) (lacks mark xs) passes).1 i (omega arith)

pub lines_of_ended : (line rest : List ℕ) → Lacks 10 line → lines_of (ended line ++ rest) ≡ line ∷ lines_of rest
lines_of_ended line rest whole =
    let front : List ℕ = line ++ 13 ∷ [] in
    let spelled : (line ++ 13 ∷ 10 ∷ []) ++ rest ≡ front ++ 10 ∷ rest = append_assoc line (13 ∷ 10 ∷ []) rest ∙ sym (append_assoc line (13 ∷ []) (10 ∷ rest)) in
    let cut : cut_at 10 ((line ++ 13 ∷ 10 ∷ []) ++ rest) ≡ Some (front, rest) = ap (cut_at 10) spelled ∙ cut_at_after 10 front rest (Lacks-append 10 line (13 ∷ []) whole (Lacks-by_test 10 (13 ∷ []) refl)) in
    lines_of_cut ((line ++ 13 ∷ 10 ∷ []) ++ rest) front rest line cut (sym (without_return_at line))

-- a text has the lines of which it is written
pub lines_of_text : (lines : List (List ℕ)) → AllByRecursion (Lacks 10) lines → lines_of (text_of lines) ≡ lines
lines_of_text [] whole = lines_of_nil
lines_of_text (line ∷ lines) whole = lines_of_ended line (text_of lines) whole.0 ∙ ap (λ rest. line ∷ rest) (lines_of_text lines whole.1)

-- ---- one text after another

pub text_of-append : (lines others : List (List ℕ)) → text_of (lines ++ others) ≡ text_of lines ++ text_of others
text_of-append lines others = flat_map-append ended lines others

-- what is written so far, and what is left, once one more medium is written
pub section_written : (text new whole : List ℕ) (sections : List Section) (i : ℕ) (section : Section) → i < length sections → section ≡ get_or sections i section
    → text ++ text_of (flat_map section_lines (drop i sections)) ≡ whole → new ≡ text ++ text_of (section_lines section)
    → new ++ text_of (flat_map section_lines (drop (i + 1) sections)) ≡ whole
section_written text new whole sections i section within is before e =
    let left : List Section = drop (i + 1) sections in
    let parts : drop i sections ≡ section ∷ left = drop_more sections i section within ∙ ap (λ s. s ∷ left) (sym is) in
    let lines : text_of (flat_map section_lines (drop i sections)) ≡ text_of (section_lines section) ++ text_of (flat_map section_lines left) =
    ap (λ rest. text_of (flat_map section_lines rest)) parts ∙ text_of-append (section_lines section) (flat_map section_lines left) in
    ap (λ u. u ++ text_of (flat_map section_lines left)) e ∙ append_assoc text (text_of (section_lines section)) (text_of (flat_map section_lines left))
    ∙ ap (λ u. text ++ u) (sym lines) ∙ before

-- ---- the lines of each part

-- the first line, one more, and the last
pub one_line : (old new line : List ℕ) → new ≡ old ++ ended line → new ≡ old ++ text_of (line ∷ [])
one_line old new line e = e ∙ ap (λ u. old ++ u) (sym (append-nil (ended line)))

pub more_lines : (old mid new : List ℕ) (lines : List (List ℕ)) (line : List ℕ) → mid ≡ old ++ text_of lines → new ≡ mid ++ ended line → new ≡ old ++ text_of (lines ++ line ∷ [])
more_lines old mid new lines line e f =
    f ∙ ap (λ u. u ++ ended line) e ∙ append_assoc old (text_of lines) (ended line)
    ∙ ap (λ u. old ++ u) (ap (λ u. text_of lines ++ u) (sym (append-nil (ended line))) ∙ sym (text_of-append lines (line ∷ [])))

pub last_line : {T E : Type 0} (r : Result T E) (old mid new : List ℕ) (lines : List (List ℕ)) (line : List ℕ) → mid ≡ old ++ text_of lines → OnOk r (new ≡ mid ++ ended line) → OnOk r (new ≡ old ++ text_of (lines ++ line ∷ []))
last_line (Ok done) old mid new lines line e f = more_lines old mid new lines line e f
last_line (Err fault) old mid new lines line e f = tt

pub only_line : {T E : Type 0} (r : Result T E) (old new line : List ℕ) → OnOk r (new ≡ old ++ ended line) → OnOk r (new ≡ old ++ text_of (line ∷ []))
only_line (Ok done) old new line e = one_line old new line e
only_line (Err fault) old new line e = tt

-- lines after a line
pub lines_after : {T E : Type 0} (r : Result T E) (old mid new line : List ℕ) (lines : List (List ℕ)) → mid ≡ old ++ ended line → OnOk r (new ≡ mid ++ text_of lines) → OnOk r (new ≡ old ++ text_of (line ∷ lines))
lines_after (Ok done) old mid new line lines e f = f ∙ ap (λ u. u ++ text_of lines) e ∙ append_assoc old (ended line) (text_of lines)
lines_after (Err fault) old mid new line lines e f = tt

pub origin_text : (s v k h : List ℕ) → codes "o=- " ++ (s ++ (codes " " ++ (v ++ (codes " IN " ++ (k ++ (codes " " ++ (h ++ codes "\r\n"))))))) ≡ ended (spaced (codes "o=-" ∷ s ∷ v ∷ codes "IN" ∷ k ∷ h ∷ []))
origin_text s v k h = simp append_assoc

pub connection_text : (k h : List ℕ) → codes "c=IN " ++ (k ++ (codes " " ++ (h ++ codes "\r\n"))) ≡ ended (spaced (codes "c=IN" ∷ k ∷ h ∷ []))
connection_text k h = simp append_assoc

pub medium_text_is : (n p t f : List ℕ) → codes "m=" ++ (n ++ (codes " " ++ (p ++ (codes " " ++ (t ++ (codes " " ++ (f ++ codes "\r\n"))))))) ≡ ended (spaced ((codes "m=" ++ n) ∷ p ∷ t ∷ f ∷ []))
medium_text_is n p t f = simp append_assoc

pub number_text : (n d : List ℕ) → n ++ (d ++ codes "\r\n") ≡ ended (n ++ d)
number_text n d = sym (append_assoc n d (13 ∷ 10 ∷ []))
