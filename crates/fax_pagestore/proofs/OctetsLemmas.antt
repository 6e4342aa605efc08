-- How many octets rows take: what a row's changing places say of it, what rows take side by side, and the most.
use Rattle.std.proofs.Common.{◌≡◌, ℕ, zero, suc, ◌+◌, ◌-◌, ◌*◌, ◌<◌, ◌≤◌, List, [], ◌∷◌, ◌++◌, All, length, take, drop, map, replicate, get_or, inl, inr, refl, sym, ◌∙◌, ap, subst, arith}
use Rattle.std.proofs.lemmas.List.{append-nil, length-take-le, length-drop}
use Rattle.std.proofs.lemmas.List.Elements.{All-weaker}
use Rattle.std.proofs.lemmas.List.Sums.{sum_by-cons, sum_by_push, sum_by_more, sum_by-le}
use Rattle.fax_runcodes.specs.declared.Colour.{Colour}
use Rattle.fax_runcodes.specs.declared.Colour.TheVariants.{White, Black}
use Rattle.fax_runcodes.specs.declared.Width.{Width}
use Rattle.fax_runcodes.specs.declared.Width.TheVariants.{W1728, W2048, W2432}
use Rattle.fax_runcodes.specs.Rows.{Elements, IsWidth, other}
use Rattle.fax_runcodes.specs.Painted.{painted, AreRising}
use Rattle.fax_runcodes.specs.Widths.{elements_of}
use Rattle.fax_runcodes.proofs.PaintedLemmas.{rising_count}
use Rattle.fax_pagestore.specs.declared.store.packed.Extent.{Extent}
use Rattle.fax_pagestore.specs.Octets.{changes_after, octets_of_row, octets_of_rows}
use Rattle.fax_pagestore.specs.PackedRows.{places_at, AreSideBySide}
use Rattle.fax_pagestore.specs.PageRows.{most_rows}
use Rattle.fax_pagestore.proofs.PackedLemmas.{HasExtent, IsNext, row_of}

other_other : (colour : Colour) → other (other colour) ≡ colour
other_other White = refl
other_other Black = refl

-- ---- the changes of a row

-- nothing changes in a stretch of the colour before it
changes-stretch : (colour : Colour) (n : ℕ) (row : Elements) → changes_after colour (replicate n colour ++ row) ≡ changes_after colour row
unfolding changes_after
changes-stretch colour zero row = refl
changes-stretch White (suc n) row = changes-stretch White n row
changes-stretch Black (suc n) row = changes-stretch Black n row

-- in a stretch of the other colour the first element changes
changes-turn : (colour : Colour) (n : ℕ) (row : Elements) → 0 < n → changes_after (other colour) (replicate n colour ++ row) ≡ changes_after colour row + 1
unfolding changes_after
changes-turn colour zero row some = absurd (omega arith)
changes-turn White (suc n) row some = ap (λ (m : ℕ). m + 1) (changes-stretch White n row)
changes-turn Black (suc n) row some = ap (λ (m : ℕ). m + 1) (changes-stretch Black n row)

-- elements from a place on at which the colour changed
changes-turned : (colour : Colour) (from : ℕ) (places : List ℕ) (end : ℕ) → AreRising (from + 1) places end
    → changes_after (other colour) (painted colour from places end) ≡ length places + 1
unfolding changes_after painted AreRising
changes-turned colour from [] end r =
    let past : from + 1 ≤ end = r in
    ap (λ (row : Elements). changes_after (other colour) row) (sym (append-nil (replicate (end - from) colour)))
    ∙ changes-turn colour (end - from) [] (omega arith)
changes-turned colour from (place ∷ places) end r =
    let past : from + 1 ≤ place = r.0 in
    let rest : changes_after colour (painted (other colour) place places end) ≡ length places + 1 =
    subst (λ (c : Colour). changes_after c (painted (other colour) place places end) ≡ length places + 1) (other_other colour)
    (changes-turned (other colour) place places end r.1) in
    let more : length (place ∷ places) ≡ length places + 1 = omega arith in
    changes-turn colour (place - from) (painted (other colour) place places end) (omega arith) ∙ ap (λ (m : ℕ). m + 1) (rest ∙ sym more)

-- elements by their changing places change as often as there are places
changes-painted : (colour : Colour) (from : ℕ) (places : List ℕ) (end : ℕ) → AreRising from places end
    → changes_after colour (painted colour from places end) ≡ length places
unfolding changes_after painted AreRising
changes-painted colour from [] end r =
    ap (λ (row : Elements). changes_after colour row) (sym (append-nil (replicate (end - from) colour))) ∙ changes-stretch colour (end - from) []
changes-painted colour from (place ∷ places) end r =
    let rest : changes_after colour (painted (other colour) place places end) ≡ length places + 1 =
    subst (λ (c : Colour). changes_after c (painted (other colour) place places end) ≡ length places + 1) (other_other colour)
    (changes-turned (other colour) place places end r.1) in
    let more : length (place ∷ places) ≡ length places + 1 = omega arith in
    changes-stretch colour (place - from) (painted (other colour) place places end) ∙ rest ∙ sym more

-- no more elements change than there are
changes-le : (before : Colour) (row : Elements) → changes_after before row ≤ length row
unfolding changes_after
changes-le before [] = omega arith
changes-le White (White ∷ row) = let rest = changes-le White row in omega arith
changes-le White (Black ∷ row) = let rest = changes-le Black row in omega arith
changes-le Black (White ∷ row) = let rest = changes-le White row in omega arith
changes-le Black (Black ∷ row) = let rest = changes-le Black row in omega arith

-- ---- the octets of a row

pub octets_of_places : (row : Elements) (places : List ℕ) (end : ℕ) → AreRising 0 places end → row ≡ painted White 0 places end
    → octets_of_row row ≡ 16 + 2 * length places
unfolding octets_of_row
octets_of_places row places end r is =
    let count : changes_after White row ≡ length places = ap (λ (es : Elements). changes_after White es) is ∙ changes-painted White 0 places end r in
    omega arith

few_of_width : (n : ℕ) → IsWidth n → n ≤ 2432
few_of_width n (inl w) = omega arith
few_of_width n (inr (inl w)) = omega arith
few_of_width n (inr (inr w)) = omega arith

pub octets_of_row-le : (row : Elements) → length row ≤ 2432 → octets_of_row row ≤ 4880
unfolding octets_of_row
octets_of_row-le row le = let few = changes-le White row in omega arith

pub octets_of_row-few : (row : Elements) → IsWidth (length row) → octets_of_row row ≤ 4880
octets_of_row-few row is = octets_of_row-le row (few_of_width (length row) is)

-- ---- the octets of rows

pub octets_of_rows-none : octets_of_rows [] ≡ 0
unfolding octets_of_rows
octets_of_rows-none = refl

pub octets_of_rows-cons : (row : Elements) (rows : List Elements) → octets_of_rows (row ∷ rows) ≡ octets_of_row row + octets_of_rows rows
unfolding octets_of_rows
octets_of_rows-cons row rows = sum_by-cons octets_of_row row rows

pub octets_of_rows-push : (rows : List Elements) (row : Elements) → octets_of_rows (rows ++ row ∷ []) ≡ octets_of_rows rows + octets_of_row row
unfolding octets_of_rows
octets_of_rows-push rows row = sum_by_push octets_of_row rows row

-- one more of the first
pub octets_of_rows-more : (rows : List Elements) (i : ℕ) (d : Elements) → i < length rows
    → octets_of_rows (take (i + 1) rows) ≡ octets_of_rows (take i rows) + octets_of_row (get_or rows i d)
unfolding octets_of_rows
octets_of_rows-more rows i d lt = sum_by_more octets_of_row rows i d lt

pub octets_of_rows-le : (rows : List Elements) → All (λ (row : Elements). length row ≤ 2432) rows → octets_of_rows rows ≤ length rows * 4880
unfolding octets_of_rows
octets_of_rows-le rows all = sum_by-le octets_of_row 4880 rows (All-weaker (λ (row : Elements). length row ≤ 2432) (λ (row : Elements). octets_of_row row ≤ 4880) octets_of_row-le rows all)

-- rows of a width, and not too many
few_elements : (width : Width) → elements_of width ≤ 2432
few_elements W1728 = omega arith
few_elements W2048 = omega arith
few_elements W2432 = omega arith

pub octets_of_rows-few : (width : Width) (rows : List Elements) → All (λ (row : Elements). length row ≡ elements_of width) rows → length rows ≤ most_rows
    → octets_of_rows rows ≤ 319810800
octets_of_rows-few width rows all few =
    let short = few_elements width in
    let le = octets_of_rows-le rows (All-weaker (λ (row : Elements). length row ≡ elements_of width) (λ (row : Elements). length row ≤ 2432) (λ row e. omega arith) rows all) in
    omega arith

-- ---- rows that share one list of changing places

octets_of_extent : (places : List ℕ) (e : Extent) → HasExtent places e → octets_of_row (row_of places e) ≡ 16 + 2 * e.count
octets_of_extent places e has =
    let within = has.within in
    let after = length-drop e.start places in
    let count : length (places_at places e.start e.count) ≡ e.count = length-take-le e.count (drop e.start places) (omega arith) in
    octets_of_places (row_of places e) (places_at places e.start e.count) e.width has.rising refl ∙ ap (λ (n : ℕ). 16 + 2 * n) count

octets_of_extents-from : (places : List ℕ) (from : ℕ) (extents : List Extent) (end : ℕ) → All (λ x. HasExtent places x) extents → AreSideBySide from extents end
    → octets_of_rows (map (λ x. row_of places x) extents) + 2 * from ≡ 16 * length extents + 2 * end
octets_of_extents-from places from [] end all side = let none = octets_of_rows-none in let e : end ≡ from = side in omega arith
octets_of_extents-from places from (e ∷ extents) end all side =
    let rest = octets_of_extents-from places (from + e.count) extents end (λ k d lt. all (suc k) d (omega arith)) side.1 in
    let own = octets_of_extent places e (all 0 e (omega arith)) in
    let sum = octets_of_rows-cons (row_of places e) (map (λ x. row_of places x) extents) in
    omega arith

-- side by side they take an entry each, and two octets for each place
pub octets_of_extents : (places : List ℕ) (extents : List Extent) → All (λ x. HasExtent places x) extents → AreSideBySide 0 extents (length places)
    → octets_of_rows (map (λ x. row_of places x) extents) ≡ 16 * length extents + 2 * length places
octets_of_extents places extents all side = let e = octets_of_extents-from places 0 extents (length places) all side in omega arith

-- and no more than as many rows of the most places
octets_of_extent-le : (places : List ℕ) (e : Extent) → HasExtent places e → octets_of_row (row_of places e) ≤ 4880
octets_of_extent-le places e has =
    let within = has.within in
    let after = length-drop e.start places in
    let count : length (places_at places e.start e.count) ≡ e.count = length-take-le e.count (drop e.start places) (omega arith) in
    let own = octets_of_extent places e has in
    let rising = rising_count 0 (places_at places e.start e.count) e.width has.rising in
    let wide = few_of_width e.width has.is_width in
    omega arith

octets_of_rows_of-le : (places : List ℕ) (extents : List Extent) → All (λ x. HasExtent places x) extents
    → octets_of_rows (map (λ x. row_of places x) extents) ≤ 4880 * length extents
octets_of_rows_of-le places [] all = let none = octets_of_rows-none in omega arith
octets_of_rows_of-le places (e ∷ extents) all =
    let rest = octets_of_rows_of-le places extents (λ k d lt. all (suc k) d (omega arith)) in
    let own = octets_of_extent-le places e (all 0 e (omega arith)) in
    let sum = octets_of_rows-cons (row_of places e) (map (λ x. row_of places x) extents) in
    omega arith

pub octets_of_extents-le : (places : List ℕ) (extents : List Extent) → All (λ x. HasExtent places x) extents → AreSideBySide 0 extents (length places)
    → 16 * length extents + 2 * length places ≤ 4880 * length extents
octets_of_extents-le places extents all side =
    let e = octets_of_extents places extents all side in
    let le = octets_of_rows_of-le places extents all in
    omega arith

-- one more, after the last
pub AreSideBySide-push : (from : ℕ) (extents : List Extent) (mid : ℕ) (e : Extent) (end : ℕ) → AreSideBySide from extents mid → e.start ≡ mid → end ≡ mid + e.count
    → AreSideBySide from (extents ++ e ∷ []) end
AreSideBySide-push from [] mid e end side start sum = let is : mid ≡ from = side in (start ∙ is, sum ∙ ap (λ (n : ℕ). n + e.count) is)
AreSideBySide-push from (x ∷ extents) mid e end side start sum = (side.0, AreSideBySide-push (from + x.count) extents mid e end side.1 start sum)

-- the first extents, up to where the next one begins
pub AreSideBySide-cut : (from : ℕ) (extents : List Extent) (n : ℕ) (end : ℕ) (d : Extent) → n < length extents → AreSideBySide from extents end
    → AreSideBySide from (take n extents) (get_or extents n d).start
AreSideBySide-cut from [] n end d lt side = absurd (omega arith)
AreSideBySide-cut from (x ∷ extents) zero end d lt side = side.0
AreSideBySide-cut from (x ∷ extents) (suc n) end d lt side = (side.0, AreSideBySide-cut (from + x.count) extents n end d (omega arith) side.1)

-- the same of the places that are left
pub AreSideBySide-next : (places : List ℕ) (extents : List Extent) (n : ℕ) (e : Extent) → IsNext places extents n e → AreSideBySide 0 extents (length places)
    → AreSideBySide 0 (take n extents) (length (take e.start places))
AreSideBySide-next places extents n e next side =
    let own : HasExtent places e = subst (λ (x : Extent). HasExtent places x) (next.is e) (next.all n e next.inside) in
    let within = own.within in
    let len : length (take e.start places) ≡ e.start = length-take-le e.start places (omega arith) in
    subst (λ (m : ℕ). AreSideBySide 0 (take n extents) m) (ap (λ (x : Extent). x.start) (next.is e) ∙ sym len)
    (AreSideBySide-cut 0 extents n (length places) e next.inside side)
