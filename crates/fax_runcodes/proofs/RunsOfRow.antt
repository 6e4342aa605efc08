-- Runs of a row and its changing places: each from the other.
use Rattle.std.proofs.Common.{◌≡◌, ℕ, ◌+◌, ◌-◌, ◌<◌, ◌≤◌, List, [], ◌∷◌, ◌++◌, length, get_or, replicate, drop, sum, All, refl, sym, ◌∙◌, ap, subst, arith, length-drop}
use Rattle.std.proofs.lemmas.List.{append-nil, drop_more, drop_all}
use Rattle.std.proofs.lemmas.List.Elements.{All-nil, All-cons, All-head, All-tail}
use Rattle.std.proofs.lemmas.List.Sums.{sum_by-cons}
use Rattle.fax_runcodes.specs.declared.Colour.{Colour}
use Rattle.fax_runcodes.specs.declared.Colour.TheVariants.{White}
use Rattle.fax_runcodes.specs.Rows.{Elements, other, stretches, IsWidth, AreRuns, AreRunsOfRow}
use Rattle.fax_runcodes.specs.Painted.{painted, changes_between, AreRising}

-- ---- runs from changing places

-- the lengths of the runs from a place to an end, where the colour changes at these places
unfoldable pub runs_between : ℕ → List ℕ → ℕ → List ℕ
runs_between from [] end = (end - from) ∷ []
runs_between from (place ∷ places) end = (place - from) ∷ runs_between place places end

-- changing places paint what the runs between them do
pub painted_is : (colour : Colour) (from : ℕ) (ps : List ℕ) (end : ℕ) → painted colour from ps end ≡ stretches colour (runs_between from ps end)
unfolding painted runs_between
painted_is colour from [] end = sym (append-nil (replicate (end - from) colour))
painted_is colour from (p ∷ ps) end = ap (λ (es : Elements). replicate (p - from) colour ++ es) (painted_is (other colour) p ps end)

-- from a place after a change, no run is empty
runs_not_empty : (from : ℕ) (ps : List ℕ) (end : ℕ) → AreRising (from + 1) ps end → All (λ n. 0 < n) (runs_between from ps end)
unfolding AreRising runs_between
runs_not_empty from [] end r =
    let past : from + 1 ≤ end = r in
    All-cons (λ (n : ℕ). 0 < n) (end - from) [] (omega arith) (All-nil (λ (n : ℕ). 0 < n))
runs_not_empty from (p ∷ ps) end r =
    let past : from + 1 ≤ p = r.0 in
    All-cons (λ (n : ℕ). 0 < n) (p - from) (runs_between p ps end) (omega arith) (runs_not_empty p ps end r.1)

later_not_empty : (from : ℕ) (ps : List ℕ) (end : ℕ) → AreRising from ps end → All (λ n. 0 < n) (drop 1 (runs_between from ps end))
unfolding AreRising runs_between
later_not_empty from [] end r = All-nil (λ (n : ℕ). 0 < n)
later_not_empty from (p ∷ ps) end r = runs_not_empty p ps end r.1

-- the lengths between the changing places of a row are its runs
pub runs_between_are_runs : (changes : List ℕ) (width : ℕ) → AreRising 0 changes width → AreRuns (runs_between 0 changes width) (painted White 0 changes width)
runs_between_are_runs changes width r = record {
  row_is = painted_is White 0 changes width;
  not_empty = later_not_empty 0 changes width r;
}

-- ---- step by step over a list of places: at place i, and after the last

pub runs_between-drop_more : (from : ℕ) (ps : List ℕ) (i : ℕ) (end : ℕ) → i < length ps
    → runs_between from (drop i ps) end ≡ (get_or ps i 0 - from) ∷ runs_between (get_or ps i 0) (drop (i + 1) ps) end
unfolding runs_between
runs_between-drop_more from ps i end within = ap (λ (qs : List ℕ). runs_between from qs end) (drop_more ps i 0 within)

pub runs_between-drop_all : (from : ℕ) (ps : List ℕ) (i : ℕ) (end : ℕ) → length ps ≤ i → runs_between from (drop i ps) end ≡ (end - from) ∷ []
unfolding runs_between
runs_between-drop_all from ps i end past = ap (λ (qs : List ℕ). runs_between from qs end) (drop_all i ps past)

-- the place is no less than the one before it, and more rise from after it on
pub rising-drop_more : (from : ℕ) (ps : List ℕ) (i : ℕ) (end : ℕ) → i < length ps → AreRising from (drop i ps) end
    → (from ≤ get_or ps i 0) × AreRising (get_or ps i 0 + 1) (drop (i + 1) ps) end
unfolding AreRising
rising-drop_more from ps i end within r = subst (λ (qs : List ℕ). AreRising from qs end) (drop_more ps i 0 within) r

-- ---- changing places from runs

-- the ends of runs paint what the runs do
pub stretches_are : (colour : Colour) (from n : ℕ) (runs : List ℕ) → stretches colour (n ∷ runs) ≡ painted colour from (changes_between from (n ∷ runs)) (from + sum (n ∷ runs))
unfolding painted changes_between
stretches_are colour from n [] =
    let end : from + sum (n ∷ []) - from ≡ n = omega (arith, sum_by-cons (λ (x : ℕ). x) n []) in
    append-nil (replicate n colour) ∙ ap (λ k. replicate k colour) (sym end)
stretches_are colour from n (m ∷ runs) =
    let rest : stretches (other colour) (m ∷ runs) ≡ painted (other colour) (from + n) (changes_between (from + n) (m ∷ runs)) (from + n + sum (m ∷ runs)) = stretches_are (other colour) (from + n) m runs in
    let first : from + n - from ≡ n = omega arith in
    let end : from + n + sum (m ∷ runs) ≡ from + sum (n ∷ m ∷ runs) = omega (arith, sum_by-cons (λ (x : ℕ). x) n (m ∷ runs)) in
    ap (λ (es : Elements). replicate n colour ++ es) rest
    ∙ ap (λ k. replicate k colour ++ painted (other colour) (from + n) (changes_between (from + n) (m ∷ runs)) (from + n + sum (m ∷ runs))) (sym first)
    ∙ ap (λ k. replicate (from + n - from) colour ++ painted (other colour) (from + n) (changes_between (from + n) (m ∷ runs)) k) end

-- they rise, where no run but the first is empty
pub rising_ends : (from low n : ℕ) (runs : List ℕ) → low ≤ from + n → All (λ m. 0 < m) runs → AreRising low (changes_between from (n ∷ runs)) (from + sum (n ∷ runs))
unfolding AreRising changes_between
rising_ends from low n [] le some = omega (arith, sum_by-cons (λ (x : ℕ). x) n [])
rising_ends from low n (m ∷ runs) le some =
    let more : 0 < m = All-head (λ (k : ℕ). 0 < k) m runs some in
    let rest : AreRising (from + n + 1) (changes_between (from + n) (m ∷ runs)) (from + n + sum (m ∷ runs)) =
    rising_ends (from + n) (from + n + 1) m runs (omega arith) (All-tail (λ (k : ℕ). 0 < k) m runs some) in
    let end : from + n + sum (m ∷ runs) ≡ from + sum (n ∷ m ∷ runs) = omega (arith, sum_by-cons (λ (x : ℕ). x) n (m ∷ runs)) in
    (le, subst (λ k. AreRising (from + n + 1) (changes_between (from + n) (m ∷ runs)) k) end rest)

-- ---- step by step over a list of runs: at run i, and at the last
changes_between-two : (from n : ℕ) (runs : List ℕ) → 0 < length runs → changes_between from (n ∷ runs) ≡ (from + n) ∷ changes_between (from + n) runs
unfolding changes_between
changes_between-two from n [] some = absurd (omega arith)
changes_between-two from n (m ∷ runs) some = refl

pub changes_between-drop_more : (from : ℕ) (runs : List ℕ) (i : ℕ) → i + 1 < length runs
    → changes_between from (drop i runs) ≡ (from + get_or runs i 0) ∷ changes_between (from + get_or runs i 0) (drop (i + 1) runs)
changes_between-drop_more from runs i within =
    let here : i < length runs = omega arith in
    let more : 0 < length (drop (i + 1) runs) = omega (arith, length-drop (i + 1) runs) in
    ap (λ (ns : List ℕ). changes_between from ns) (drop_more runs i 0 here) ∙ changes_between-two from (get_or runs i 0) (drop (i + 1) runs) more

changes_between-one : (from : ℕ) (runs : List ℕ) → length runs ≤ 1 → changes_between from runs ≡ []
unfolding changes_between
changes_between-one from [] few = refl
changes_between-one from (n ∷ []) few = refl
changes_between-one from (n ∷ m ∷ runs) few = absurd (omega arith)

pub changes_between-drop_last : (from : ℕ) (runs : List ℕ) (i : ℕ) → length runs ≤ i + 1 → changes_between from (drop i runs) ≡ []
changes_between-drop_last from runs i past = changes_between-one from (drop i runs) (omega (arith, length-drop i runs))

-- ---- a row of runs

-- a row's runs are some
pub runs_some : (runs : List ℕ) → AreRunsOfRow runs → 0 < length runs
runs_some [] r = let width : IsWidth 0 = r.width in omega arith
runs_some (n ∷ runs) r = omega arith

-- its changing places paint it, and rise
pub stretches_of_row : (runs : List ℕ) → AreRunsOfRow runs → painted White 0 (changes_between 0 runs) (sum runs) ≡ stretches White runs
stretches_of_row [] r = absurd (let some : 0 < length {A = ℕ} [] = runs_some [] r in omega arith)
stretches_of_row (n ∷ runs) r = let end : 0 + sum (n ∷ runs) ≡ sum (n ∷ runs) = omega arith in sym (stretches_are White 0 n runs ∙ ap (λ k. painted White 0 (changes_between 0 (n ∷ runs)) k) end)

pub rising_of_row : (runs : List ℕ) → AreRunsOfRow runs → AreRising 0 (changes_between 0 runs) (sum runs)
rising_of_row [] r = absurd (let some : 0 < length {A = ℕ} [] = runs_some [] r in omega arith)
rising_of_row (n ∷ runs) r =
    let end : 0 + sum (n ∷ runs) ≡ sum (n ∷ runs) = omega arith in
    subst (λ k. AreRising 0 (changes_between 0 (n ∷ runs)) k) end (rising_ends 0 0 n runs (omega arith) r.not_empty)

-- the row that is kept as the changing places and the width of its runs
pub row_of_runs : (runs changes : List ℕ) (width : ℕ) → AreRunsOfRow runs → width ≡ sum runs → changes ≡ changes_between 0 runs
    → AreRising 0 changes width × IsWidth width × (painted White 0 changes width ≡ stretches White runs)
row_of_runs runs changes width r w e = rw (w, e) (rising_of_row runs r, r.width, stretches_of_row runs r)
