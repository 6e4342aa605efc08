-- What octets mean as a picture in netpbm's raw PBM, P4 (pbm(5)).
use Rattle.std.specs.Prelude.{◌≡◌, ℕ, zero, suc, ◌/◌, ◌*◌, ◌==◌, nat_eq, nat_lt, nat_le, min, Bool, true, false, ◌&&◌, List, [], ◌∷◌, Result, Ok, Err, codes, drop, take, length, map, slice_index, if◌then◌else◌}
use Rattle.std.specs.Char.{is_ascii_digit}
use Rattle.std.specs.Cmp.Lexicographic.{pointwise}
use Rattle.fax_bits.specs.Bits.{bits_of}
use Rattle.fax_runcodes.specs.declared.Colour.{Colour}
use Rattle.fax_runcodes.specs.declared.Colour.TheVariants.{White, Black}
use Rattle.fax_runcodes.specs.declared.Width.{Width}
use Rattle.fax_runcodes.specs.declared.Width.TheVariants.{W1728, W2048, W2432}
use Rattle.fax_runcodes.specs.Rows.{Elements}
use Rattle.fax_runcodes.specs.Widths.{elements_of}
use Rattle.fax_pagestore.specs.PageRows.{most_rows}
use Rattle.fax_pagestore.specs.Pages.{PageValue}
use Rattle.fax_pbm.specs.declared.fault.PbmFault.{PbmFault}
use Rattle.fax_pbm.specs.declared.fault.PbmFault.TheVariants.{NoHead, BadWidth, BadHeight, Cut, Longer}
use Rattle.fax_pbm.specs.declared.head.Number.{Number as NumberRead}
use Rattle.fax_pbm.specs.declared.head.Head.{Head as HeadRead}
use Rattle.fax_pbm.specs.Heads.{after_blanks, after_digits, is_space, number_after}

-- Reading answers a value, or the first fault. The next part is read where the one before it was.
infixl 10 ◌>>=◌
abbrev pub ◌>>=◌ : {A B : Type 0} → Result A PbmFault → (A → Result B PbmFault) → Result B PbmFault
(Ok x) >>= f = f x
(Err e) >>= f = Err e

-- what a call answered, seen by view, is what reading gives
abbrev pub Gives : {X Y : Type 0} → (X → Y) → Result X PbmFault → Result Y PbmFault → Type 0
Gives view (Ok x) read = read ≡ Ok (view x)
Gives view (Err e) read = read ≡ Err e

-- ---- the head

-- the greatest number of 32 bits
abbrev pub most_number : ℕ
most_number = 4294967295

-- A number in decimal, and what stands after it. One that 32 bits do not hold counts as the greatest that they hold.
pub record Number : Type 0 where
  pub value : ℕ
  pub after : List ℕ

-- the number of these digits
abbrev pub number_at : List ℕ → Result Number PbmFault
number_at digits = if is_ascii_digit (slice_index digits 0) then Ok (record {
  value = min (number_after 0 digits) most_number;
  after = after_digits digits;
}) else Err NoHead

-- the number after white space and comments
unfoldable pub number_of : List ℕ → Result Number PbmFault
number_of text = number_at (after_blanks false text)

-- the raster stands after one white space
unfoldable pub raster_of : List ℕ → Result (List ℕ) PbmFault
raster_of text = if is_space (slice_index text 0) then Ok (drop 1 text) else Err NoHead

-- how many elements each row has, how many rows there are, and the raster with what may follow it
pub record Head : Type 0 where
  pub width : ℕ
  pub height : ℕ
  pub raster : List ℕ

-- the head after its first two octets
unfoldable pub head_after : List ℕ → Result Head PbmFault
head_after text =
    number_of text >>= (λ width. number_of width.after >>= (λ height. raster_of height.after >>=
    (λ raster. Ok (record { width = width.value; height = height.value; raster = raster }))))

-- the octets begin with `P4`
abbrev pub begins_as_picture : List ℕ → Bool
begins_as_picture octets = pointwise nat_eq (take 2 octets) (codes "P4")

unfoldable pub head_of : List ℕ → Result Head PbmFault
head_of octets = if begins_as_picture octets then head_after (drop 2 octets) else Err NoHead

-- what the program reads, seen as these
abbrev pub number_shown : NumberRead → Number
number_shown n = record { value = n.value; after = n.after.now }

abbrev pub head_shown : HeadRead → Head
head_shown h = record { width = h.width; height = h.height; raster = h.raster.now }

-- ---- the raster

-- the width of so many elements
abbrev pub width_of : ℕ → Result Width PbmFault
width_of n = if n == 1728 then Ok W1728
    else (if n == 2048 then Ok W2048 else (if n == 2432 then Ok W2432 else Err BadWidth))

-- the element of a bit: 1 is black
abbrev pub element : Bool → Colour
element true = Black
element false = White

-- the rows of a raster, each in so many octets
unfoldable pub rows_of : ℕ → ℕ → List ℕ → List Elements
rows_of size zero raster = []
rows_of size (suc n) raster =
    map element (bits_of (take size raster)) ∷ rows_of size n (drop size raster)

-- a page may have so many rows
abbrev pub is_height : ℕ → Bool
is_height n = nat_lt 0 n && nat_le n most_rows

-- so many rows of a raster, which has them and no more
unfoldable pub raster_rows : ℕ → ℕ → List ℕ → Result (List Elements) PbmFault
raster_rows elements height raster =
    if is_height height then (if nat_lt (length raster) (height * (elements / 8))
    then Err Cut else (if nat_lt (height * (elements / 8)) (length raster)
    then Err Longer else Ok (rows_of (elements / 8) height raster))) else Err BadHeight

-- the raster has these rows, each in so many octets, and no more
pub record IsRaster (size : ℕ) (rows : List Elements) (raster : List ℕ) : Type 0 where
  pub length_is : length raster ≡ length rows * size
  pub rows_are : rows_of size (length rows) raster ≡ rows

-- ---- the page

-- the page that octets mean, in the fine resolution or the standard one
unfoldable pub page_of : Bool → List ℕ → Result PageValue PbmFault
page_of fine octets = head_of octets >>= (λ head.
    width_of head.width >>= (λ width. raster_rows (elements_of width) head.height head.raster >>=
    (λ rows. Ok (record { format = record { width = width; fine = fine }; rows = rows }))))
