-- Rows of a raster.
use Rattle.std.proofs.Common.{◌≡◌, ℕ, zero, suc, ◌+◌, ◌-◌, ◌*◌, ◌/◌, ◌<◌, ◌≤◌, Bool, true, false, nat_lt, nat_le, List, [], ◌∷◌, ◌++◌, Some, Ok, Err, length, take, drop, get_or, map, replicate, slice_get, refl, sym, ◌∙◌, ap, ap₂, subst, arith, rules, append_assoc, append-nil, length-append, length-drop, add-one}
use Rattle.std.proofs.lemmas.Bool.{and_from, and_parts, cond-false, cond-true, le-leb, le-ltb, leb-true, lt-ltb, ltb-true}
use Rattle.std.proofs.lemmas.List.{take_all, take_more, take-append-le, drop-append-le, length-map, length-take-le, map-append}
use Rattle.std.proofs.lemmas.List.Elements.{All-nil, All-cons, All-head, All-tail}
use Rattle.std.specs.List.{All}
use Rattle.fax_bits.specs.Bits.{bit, bits_of, word_bits}
use Rattle.fax_bits.proofs.BitsLemmas.{bits_of-append, bits_of-cons, bits_of-nil, length-bits_of}
use Rattle.fax_runcodes.specs.declared.Colour.TheVariants.{White, Black}
use Rattle.fax_runcodes.specs.declared.Width.{Width}
use Rattle.fax_runcodes.specs.declared.Width.TheVariants.{W1728, W2048, W2432}
use Rattle.fax_runcodes.specs.Pixels.{pixel}
use Rattle.fax_runcodes.specs.Rows.{Elements, IsWidth}
use Rattle.fax_runcodes.specs.Widths.{elements_of}
use Rattle.fax_pagestore.specs.PageRows.{AreRows, most_rows}
use Rattle.fax_pbm.specs.declared.fault.PbmFault.TheVariants.{BadHeight, Cut, Longer}
use Rattle.fax_pbm.specs.Pictures.{element, is_height, raster_rows, rows_of, IsRaster}

-- the elements of the bits of elements
pub element-pixel : (row : Elements) → map element (map pixel row) ≡ row
element-pixel [] = refl
element-pixel (White ∷ row) = ap (λ (es : Elements). White ∷ es) (element-pixel row)
element-pixel (Black ∷ row) = ap (λ (es : Elements). Black ∷ es) (element-pixel row)

-- eight elements an octet
pub length-elements : (octets : List ℕ) → length (map element (bits_of octets)) ≡ 8 * length octets
length-elements octets = length-map (bits_of octets) element ∙ length-bits_of octets

-- a row of each width fills whole octets, at most 304
pub row_size : (width : Width) → (8 * (elements_of width / 8) ≡ elements_of width) × (elements_of width / 8 ≤ 304) × (0 < elements_of width / 8)
row_size W1728 = (refl, omega arith, omega arith)
row_size W2048 = (refl, omega arith, omega arith)
row_size W2432 = (refl, omega arith, omega arith)

-- ---- rows that are read

-- the next row, after others
pub rows_of-next : (rows : List Elements) (size n : ℕ) (raster : List ℕ)
    → (rows ++ map element (bits_of (take size raster)) ∷ []) ++ rows_of size n (drop size raster) ≡ rows ++ rows_of size (suc n) raster
unfolding rows_of
rows_of-next rows size n raster = append_assoc rows (map element (bits_of (take size raster)) ∷ []) (rows_of size n (drop size raster))

pub length-rows_of : (size n : ℕ) (raster : List ℕ) → length (rows_of size n raster) ≡ n
unfolding rows_of
length-rows_of size zero raster = refl
length-rows_of size (suc n) raster = ap suc (length-rows_of size n (drop size raster))

-- each row of a raster has as many elements as its octets have bits
All-rows_of : (size wide n : ℕ) (raster : List ℕ) → 8 * size ≡ wide → length raster ≡ n * size → All (λ (row : Elements). length row ≡ wide) (rows_of size n raster)
unfolding rows_of
All-rows_of size wide zero raster fills long = All-nil (λ (row : Elements). length row ≡ wide)
All-rows_of size wide (suc n) raster fills long =
    let within : size ≤ length raster = omega arith in
    let first : length (map element (bits_of (take size raster))) ≡ wide = length-elements (take size raster) ∙ ap (λ k. 8 * k) (length-take-le size raster within) ∙ fills in
    let rest : length (drop size raster) ≡ n * size = length-drop size raster ∙ omega arith in
    All-cons (λ (row : Elements). length row ≡ wide) (map element (bits_of (take size raster))) (rows_of size n (drop size raster)) first (All-rows_of size wide n (drop size raster) fills rest)

pub AreRows-rows_of : (width : Width) (n : ℕ) (raster : List ℕ) → 0 < n → n ≤ most_rows → length raster ≡ n * (elements_of width / 8)
    → AreRows (elements_of width) (rows_of (elements_of width / 8) n raster)
AreRows-rows_of width n raster some few long =
    let size : length (rows_of (elements_of width / 8) n raster) ≡ n = length-rows_of (elements_of width / 8) n raster in
    record {
      some = omega (arith, size);
      few = omega (arith, size);
      each = All-rows_of (elements_of width / 8) (elements_of width) n raster (row_size width).0 long;
    }

-- ---- rows that are written

-- one row more at the end
rows_of-more : (size n : ℕ) (raster more : List ℕ) → length raster ≡ n * size → length more ≡ size
    → rows_of size (suc n) (raster ++ more) ≡ rows_of size n raster ++ map element (bits_of more) ∷ []
unfolding rows_of
rows_of-more size zero [] more long wide = ap (λ (x : List ℕ). map element (bits_of x) ∷ []) (take_all size more (omega arith))
rows_of-more size zero (x ∷ raster) more long wide = absurd (omega arith)
rows_of-more size (suc n) raster more long wide =
    let within : size ≤ length raster = omega arith in
    let rest : length (drop size raster) ≡ n * size = length-drop size raster ∙ omega arith in
    ap₂ (λ (x : List ℕ) (rows : List Elements). map element (bits_of x) ∷ rows) (take-append-le size raster more within)
    (ap (rows_of size (suc n)) (drop-append-le size raster more within) ∙ rows_of-more size n (drop size raster) more rest wide)

pub IsRaster-none : (size : ℕ) → IsRaster size [] []
unfolding rows_of
IsRaster-none size = record { length_is = omega arith; rows_are = refl }

pub IsRaster-more : (size : ℕ) (rows : List Elements) (row : Elements) (raster more : List ℕ) → IsRaster size rows raster → length row ≡ 8 * size
    → bits_of more ≡ map pixel row → IsRaster size (rows ++ row ∷ []) (raster ++ more)
IsRaster-more size rows row raster more so_far wide bits =
    let fills : 8 * length more ≡ 8 * size = sym (length-bits_of more) ∙ ap length bits ∙ length-map row pixel ∙ wide in
    let fit : length more ≡ size = omega arith in
    let count : length (rows ++ row ∷ []) ≡ suc (length rows) = length-append rows (row ∷ []) ∙ add-one (length rows) in
    let last : map element (bits_of more) ≡ row = ap (map element) bits ∙ element-pixel row in
    let long : length raster ≡ length rows * size = so_far.length_is in
    let sum : length raster + length more ≡ suc (length rows) * size = omega (arith, long, fit) in
    record {
      length_is = length-append raster more ∙ sum ∙ ap (λ (n : ℕ). n * size) (sym count);
      rows_are =
          ap (λ n. rows_of size n (raster ++ more)) count
          ∙ rows_of-more size (length rows) raster more so_far.length_is fit
          ∙ ap₂ (λ (a : List Elements) (b : Elements). a ++ b ∷ []) so_far.rows_are last;
    }

-- a front of a list, and the next of it
pub take_next : (rows : List Elements) (i : ℕ) (row : Elements) → slice_get rows i ≡ Some row → take (i + 1) rows ≡ take i rows ++ row ∷ []
take_next [] i row found = cc
take_next (r ∷ rows) zero row found = let same : r ≡ row = cc in ap (λ x. x ∷ []) same
take_next (r ∷ rows) (suc i) row found =
    ap (λ n. take n (r ∷ rows)) (add-one (suc i)) ∙ ap (λ rest. r ∷ rest) (ap (λ n. take n rows) (sym (add-one i)) ∙ take_next rows i row found)

-- what holds of each holds of one
pub All-found : (P : Elements → Type 0) (rows : List Elements) (i : ℕ) (row : Elements) → slice_get rows i ≡ Some row → All P rows → P row
All-found P [] i row found all = cc
All-found P (r ∷ rows) zero row found all = let same : r ≡ row = cc in subst P same (All-head P r rows all)
All-found P (r ∷ rows) (suc i) row found all = All-found P rows i row found (All-tail P r rows all)

-- ---- octets and their elements

-- the elements of one octet more
pub elements-next : (octets : List ℕ) (k : ℕ) → k < length octets
    → map element (bits_of (take (k + 1) octets)) ≡ map element (bits_of (take k octets)) ++ map element (word_bits 8 (get_or octets k 0))
elements-next octets k within =
    let o : ℕ = get_or octets k 0 in
    let one : bits_of (o ∷ []) ≡ word_bits 8 o = bits_of-cons o [] ∙ ap (λ (b : List Bool). word_bits 8 o ++ b) bits_of-nil ∙ append-nil (word_bits 8 o) in
    let more : bits_of (take (k + 1) octets) ≡ bits_of (take k octets) ++ word_bits 8 o =
    ap bits_of (take_more octets k 0 within) ∙ bits_of-append (take k octets) (o ∷ []) ∙ ap (λ (b : List Bool). bits_of (take k octets) ++ b) one in
    ap (map element) more ∙ map-append element (bits_of (take k octets)) (word_bits 8 o)

pub no_elements : map element (bits_of []) ≡ []
no_elements = ap (map element) bits_of-nil

-- an element and those of the bits after it
pub bits-next : (row : Elements) (octet i : ℕ) → i < 8
    → (row ++ replicate 1 (element (bit octet (7 - i)))) ++ map element (word_bits (8 - (i + 1)) octet) ≡ row ++ map element (word_bits (8 - i) octet)
unfolding word_bits
bits-next row octet i within =
    let m : ℕ = 8 - (i + 1) in
    let here : 7 - i ≡ m = omega arith in
    let all : 8 - i ≡ suc m = omega arith in
    append_assoc row (element (bit octet (7 - i)) ∷ []) (map element (word_bits m octet))
    ∙ ap (λ (k : ℕ). row ++ (element (bit octet k) ∷ map element (word_bits m octet))) here
    ∙ ap (λ (k : ℕ). row ++ map element (word_bits k octet)) (sym all)

pub no_bits : (row : Elements) (octet n : ℕ) → n ≡ 0 → row ++ map element (word_bits n octet) ≡ row
unfolding word_bits
no_bits row octet n none = ap (λ (k : ℕ). row ++ map element (word_bits k octet)) none ∙ append-nil row

-- octets of one colour
pub white_octet : map element (word_bits 8 0) ≡ replicate 8 White
unfolding word_bits bit
white_octet = refl

pub black_octet : map element (word_bits 8 255) ≡ replicate 8 Black
unfolding word_bits bit
black_octet = refl

-- ---- a raster

pub width_is : (width : Width) → IsWidth (elements_of width)
width_is W1728 = search rules
width_is W2048 = search rules
width_is W2432 = search rules

pub rows_of-none : (size n : ℕ) (raster : List ℕ) → n ≡ 0 → rows_of size n raster ≡ []
unfolding rows_of
rows_of-none size n raster none = ap (λ (k : ℕ). rows_of size k raster) none

-- what is left after a row
pub left_after : (size m a b : ℕ) → a ≡ suc m * size → b + size ≡ a → b ≡ m * size
left_after size m a b all part = omega arith

pub raster_rows-none : (elements height : ℕ) (raster : List ℕ) → is_height height ≡ false → raster_rows elements height raster ≡ Err BadHeight
unfolding raster_rows
raster_rows-none elements height raster bad = cond-false (is_height height) _ _ bad

pub raster_rows-cut : (elements height : ℕ) (raster : List ℕ) → is_height height ≡ true → length raster < height * (elements / 8)
    → raster_rows elements height raster ≡ Err Cut
unfolding raster_rows
raster_rows-cut elements height raster good short =
    cond-true (is_height height) _ _ good ∙ cond-true (nat_lt (length raster) (height * (elements / 8))) _ _ (lt-ltb (length raster) (height * (elements / 8)) short)

pub raster_rows-longer : (elements height : ℕ) (raster : List ℕ) → is_height height ≡ true → height * (elements / 8) < length raster
    → raster_rows elements height raster ≡ Err Longer
unfolding raster_rows
raster_rows-longer elements height raster good long =
    cond-true (is_height height) _ _ good
    ∙ cond-false (nat_lt (length raster) (height * (elements / 8))) _ _ (le-ltb (length raster) (height * (elements / 8)) (omega arith))
    ∙ cond-true (nat_lt (height * (elements / 8)) (length raster)) _ _ (lt-ltb (height * (elements / 8)) (length raster) long)

pub raster_rows-whole : (elements height : ℕ) (raster : List ℕ) → is_height height ≡ true → length raster ≡ height * (elements / 8)
    → raster_rows elements height raster ≡ Ok (rows_of (elements / 8) height raster)
unfolding raster_rows
raster_rows-whole elements height raster good long =
    cond-true (is_height height) _ _ good
    ∙ cond-false (nat_lt (length raster) (height * (elements / 8))) _ _ (le-ltb (length raster) (height * (elements / 8)) (omega arith))
    ∙ cond-false (nat_lt (height * (elements / 8)) (length raster)) _ _ (le-ltb (height * (elements / 8)) (length raster) (omega arith))

pub is_height-parts : (n : ℕ) → is_height n ≡ true → (0 < n) × (n ≤ most_rows)
is_height-parts n good =
    let parts = and_parts (nat_lt 0 n) (nat_le n most_rows) good in
    (ltb-true 0 n parts.0, leb-true n most_rows parts.1)

pub is_height-from : (n : ℕ) → 0 < n → n ≤ most_rows → is_height n ≡ true
is_height-from n some few = and_from (nat_lt 0 n) (nat_le n most_rows) (lt-ltb 0 n some) (le-leb n most_rows few)
