-- Runs of rows, their sums, and picture elements.
use Rattle.std.proofs.Common.{◌≡◌, ◌≢◌, ℕ, zero, suc, ◌+◌, ◌-◌, ◌*◌, ◌/◌, ◌≤◌, ◌<◌, Option, None, IfSome, IfNone, All, subst, List, [], ◌∷◌, ◌++◌, length, take, drop, map, Bool, refl, sym, ◌∙◌, ap, arith, inl, inr, slice_get, Some, add-one, append_assoc, append-nil, length-append, length-drop}
use Rattle.std.proofs.Math.Nat.{mul-suc, mul-le-mul_left}
use Rattle.std.proofs.lemmas.List.{length-take-le, take_all, length-map, drop-drop}
use Rattle.std.proofs.lemmas.List.Elements.{All-head, All-tail}
use Rattle.fax_runcodes.specs.declared.Colour.TheVariants.{White}
use Rattle.fax_runcodes.specs.Painted.{painted, AreRising}
use Rattle.fax_runcodes.proofs.RunsOfRow.{runs_between, runs_between_are_runs}
use Rattle.fax_runcodes.proofs.RowLaws.{runs_one}
use Rattle.fax_runcodes.specs.declared.Width.{Width}
use Rattle.fax_runcodes.specs.declared.Width.TheVariants.{W1728, W2048, W2432}
use Rattle.fax_runcodes.specs.declared.format.Coding.{Coding}
use Rattle.fax_runcodes.specs.Widths.{elements_of}
use Rattle.fax_runcodes.specs.Rows.{Elements, IsWidth, AreRuns}
use Rattle.fax_pagestore.specs.declared.fault.PageFault.{PageFault}
use Rattle.fax_pagestore.specs.declared.fault.PageFault.TheVariants as page
use Rattle.fax_pagestore.specs.PageFaults.{FailsPage}
use Rattle.fax_c.specs.declared.outcome.Refusal.TheVariants.{Page}
use Rattle.fax_runcodes.specs.Pixels.{pixel}
use Rattle.fax_c.specs.Calls.{AreRunsOf, RefusesText, pixels_of}

-- one more row's runs after those of rows
pub AreRunsOf-push : (runs : List ℕ) (rows : List Elements) (first : List ℕ) (row : Elements) → AreRunsOf runs rows → AreRuns first row → AreRunsOf (runs ++ first) (rows ++ row ∷ [])
AreRunsOf-push runs [] first row h k = (first, [], ap (λ (rs : List ℕ). rs ++ first) h ∙ sym (append-nil first), k, refl)
AreRunsOf-push runs (r ∷ rows) first row h k =
    let (front, rest, is, are, others) = h in
    (front, rest ++ first, ap (λ (rs : List ℕ). rs ++ first) is ∙ append_assoc front rest first, are, AreRunsOf-push rest rows first row others k)

pub is_width_of : (width : Width) → IsWidth (elements_of width)
is_width_of W1728 = inl refl
is_width_of W2048 = inr (inl refl)
is_width_of W2432 = inr (inr refl)

-- the rows before a place, and the one there
pub take_more_at : (rows : List Elements) (i : ℕ) (row : Elements) → slice_get rows i ≡ Some row → take (i + 1) rows ≡ take i rows ++ row ∷ []
take_more_at [] i row found = cc
take_more_at (r ∷ rows) zero row found = let same : r ≡ row = cc in ap (λ x. x ∷ []) same
take_more_at (r ∷ rows) (suc i) row found =
    ap (λ n. take n (r ∷ rows)) (add-one (suc i)) ∙ ap (λ rest. r ∷ rest) (ap (λ n. take n rows) (sym (add-one i)) ∙ take_more_at rows i row found)

-- the picture elements of one more row
pub pixels_of-push : (rows : List Elements) (row : Elements) → pixels_of (rows ++ row ∷ []) ≡ pixels_of rows ++ map pixel row
pixels_of-push [] row = append-nil (map pixel row)
pixels_of-push (r ∷ rows) row =
    ap (λ (bits : List Bool). map pixel r ++ bits) (pixels_of-push rows row) ∙ sym (append_assoc (map pixel r) (pixels_of rows) (map pixel row))

-- a page's fault that is met, or want of memory
pub RefusesText-page : (width : ℕ) (coding : Coding) (octets : List ℕ) (fault : PageFault) → (fault ≢ page.NoMemory → FailsPage width coding octets fault) → RefusesText width coding octets (Page fault)
RefusesText-page width coding octets page.NoMemory h = tt
RefusesText-page width coding octets page.NoEol h = h (λ e. cc)
RefusesText-page width coding octets (page.BadLine n) h = h (λ e. cc)
RefusesText-page width coding octets page.NoRtc h = h (λ e. cc)
RefusesText-page width coding octets page.Empty h = h (λ e. cc)
RefusesText-page width coding octets page.TooManyRows h = h (λ e. cc)

-- rows are as wide as whole octets
whole_octets : (width : ℕ) → IsWidth width → 8 * (width / 8) ≡ width
whole_octets width (inl w) = omega arith
whole_octets width (inr (inl w)) = omega arith
whole_octets width (inr (inr w)) = omega arith

-- ---- how many runs

length_runs_between : (from : ℕ) (changes : List ℕ) (end : ℕ) → length (runs_between from changes end) ≡ length changes + 1
unfolding runs_between
length_runs_between from [] end = omega arith
length_runs_between from (p ∷ ps) end = let rest : length (runs_between p ps end) ≡ length ps + 1 = length_runs_between p ps end in omega arith

-- a row has one run more than changes
pub runs_of_changes : (changes : List ℕ) (row : Elements) → AreRising 0 changes (length row) → row ≡ painted White 0 changes (length row)
    → (list : List ℕ) × AreRuns list row × (length list ≡ length changes + 1)
runs_of_changes changes row rising is =
    let list : List ℕ = runs_between 0 changes (length row) in
    (list, subst (λ (r : Elements). AreRuns list r) (sym is) (runs_between_are_runs changes (length row) rising), length_runs_between 0 changes (length row))

pub some_width : (width : Width) → 0 < elements_of width
some_width W1728 = omega arith
some_width W2048 = omega arith
some_width W2432 = omega arith

pub most_width : (width : Width) → elements_of width ≤ 2432
most_width W1728 = omega arith
most_width W2048 = omega arith
most_width W2432 = omega arith

one_length : (a b : List ℕ) (row : Elements) → 0 < length row → AreRuns a row → AreRuns b row → length a ≡ length b
one_length a b row some are others = ap length (runs_one a b row some are others)

pub row_width : (rows : List Elements) (i : ℕ) (row : Elements) (width : ℕ) → All (λ (r : Elements). length r ≡ width) rows → slice_get rows i ≡ Some row → length row ≡ width
row_width [] i row width each found = cc
row_width (r ∷ rows) zero row width each found = let same : r ≡ row = cc in ap length (sym same) ∙ All-head (λ (x : Elements). length x ≡ width) r rows each
row_width (r ∷ rows) (suc i) row width each found = row_width rows i row width (All-tail (λ (x : Elements). length x ≡ width) r rows each) found

-- the runs of the rows before one, and its own, are no more than those of all
pub runs_fit : (rows : List Elements) (i : ℕ) (row : Elements) (width : ℕ) (all front mine : List ℕ) → 0 < width → All (λ (r : Elements). length r ≡ width) rows
    → AreRunsOf all rows → AreRunsOf front (take i rows) → slice_get rows i ≡ Some row → AreRuns mine row → length front + length mine ≤ length all
runs_fit [] i row width all front mine some each whole before found are = cc
runs_fit (r ∷ rows) zero row width all front mine some each whole before found are =
    let (first, rest, is, here, others) = whole in
    let same : r ≡ row = cc in
    let wide : length r ≡ width = All-head (λ (x : Elements). length x ≡ width) r rows each in
    let none : length front ≡ 0 = ap length before in
    let size : length first ≡ length mine = one_length first mine r (omega arith) here (subst (λ (x : Elements). AreRuns mine x) (sym same) are) in
    let sum : length all ≡ length first + length rest = ap length is ∙ length-append first rest in
    omega arith
runs_fit (r ∷ rows) (suc i) row width all front mine some each whole before found are =
    let (first, rest, is, here, others) = whole in
    let (first', rest', is', here', others') = before in
    let wide : length r ≡ width = All-head (λ (x : Elements). length x ≡ width) r rows each in
    let size : length first ≡ length first' = one_length first first' r (omega arith) here here' in
    let sum : length all ≡ length first + length rest = ap length is ∙ length-append first rest in
    let sum' : length front ≡ length first' + length rest' = ap length is' ∙ length-append first' rest' in
    let fit : length rest' + length mine ≤ length rest = runs_fit rows i row width rest rest' mine some (All-tail (λ (x : Elements). length x ≡ width) r rows each) others others' found are in
    omega arith

-- a row's runs have room after those of the rows before it, where those of all rows have room
pub row_fits : (rows : List Elements) (i : ℕ) (row : Elements) (width : ℕ) (all mine runs : List ℕ) (filled : ℕ) → 0 < width → All (λ (r : Elements). length r ≡ width) rows
    → AreRunsOf all rows → AreRunsOf (take filled runs) (take i rows) → slice_get rows i ≡ Some row → AreRuns mine row
    → filled ≤ length runs → length all ≤ length runs → filled + length mine ≤ length runs
row_fits rows i row width all mine runs filled some each whole before found are within room =
    let fit : length (take filled runs) + length mine ≤ length all = runs_fit rows i row width all (take filled runs) mine some each whole before found are in
    let size : length (take filled runs) ≡ filled = length-take-le filled runs within in
    omega arith

-- runs put into just their room fill it
pub put_whole : (put : Option ℕ) (old new list : List ℕ) (row : Elements) → 0 < length row → AreRuns list row → length list ≡ length old → length new ≡ length old
    → IfSome put (λ count. AreRuns (take count new) row × (count ≤ length old)) → IfNone put ((more : List ℕ) × AreRuns more row × (length old < length more)) → AreRuns new row
put_whole None old new list row some are size room h none =
    let same : length none.0 ≡ length list = one_length none.0 list row some none.1 are in
    absurd (omega (arith, none.2))
put_whole (Some count) old new list row some are size room h none =
    let same : length (take count new) ≡ length list = one_length (take count new) list row some h.0 are in
    let taken : length (take count new) ≡ count = length-take-le count new (omega (arith, h.1)) in
    subst (λ (xs : List ℕ). AreRuns xs row) (take_all count new (omega arith)) h.0

-- ---- how many octets

-- rows of so many octets each have so many bits
pub pixels_length : (octets : ℕ) (rows : List Elements) → All (λ (r : Elements). length r ≡ 8 * octets) rows → length (pixels_of rows) ≡ 8 * (octets * length rows)
pixels_length octets [] each = grind arith
pixels_length octets (row ∷ rows) each =
    let rest : length (pixels_of rows) ≡ 8 * (octets * length rows) = pixels_length octets rows (All-tail (λ (r : Elements). length r ≡ 8 * octets) row rows each) in
    let first : length row ≡ 8 * octets = All-head (λ (r : Elements). length r ≡ 8 * octets) row rows each in
    let here : length (map pixel row) ≡ length row = length-map row pixel in
    let sum : length (pixels_of (row ∷ rows)) ≡ length (map pixel row) + length (pixels_of rows) = length-append (map pixel row) (pixels_of rows) in
    let more : octets * length (row ∷ rows) ≡ octets * length rows + octets = mul-suc octets (length rows) in
    omega arith

pub step_within : (octets i n : ℕ) → i < n → octets * i + octets ≤ octets * n
step_within octets i n before =
    let next : octets * suc i ≡ octets * i + octets = mul-suc octets i in
    let most : octets * suc i ≤ octets * n = mul-le-mul_left octets (omega arith) in
    omega arith

pub octets_of_width : (width : Width) (elements octets : ℕ) → octets ≡ elements / 8 → elements ≡ elements_of width → elements_of width ≡ 8 * octets
octets_of_width width elements octets is wide =
    sym (ap (λ (n : ℕ). 8 * n) (is ∙ ap (λ (n : ℕ). n / 8) wide) ∙ whole_octets (elements_of width) (is_width_of width))

-- ---- parts of a slice

pub part_length : (xs : List ℕ) (from count : ℕ) → from + count ≤ length xs → length (take (from + count - from) (drop from xs)) ≡ count
part_length xs from count room =
    let k : ℕ = from + count - from in
    let taken : length (take k (drop from xs)) ≡ k = length-take-le k (drop from xs) (omega (arith, length-drop from xs)) in
    let same : k ≡ count = omega arith in
    taken ∙ same

-- what is the same from a place on is so from a later one on
pub drop_further : (xs ys : List ℕ) (n k : ℕ) → drop n xs ≡ drop n ys → drop (n + k) xs ≡ drop (n + k) ys
drop_further xs ys n k same = sym (drop-drop k n xs) ∙ ap (drop k) same ∙ drop-drop k n ys
