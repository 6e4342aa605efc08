-- WHAT OCTETS MEAN AS A TIFF OF CLASS F (RFC 2306; TIFF 6.0): its pages, or the fault that is met first.
use Rattle.std.specs.Prelude.{◌≡◌, ◌≢◌, ◌⊎◌, ℕ, zero, suc, ◌+◌, ◌*◌, ◌==◌, ◌&&◌, nat_lt, Bool, true, false, List, [], ◌∷◌, ◌++◌, length, map, slice_index, Result, Ok, Err, if◌then◌else◌}
use Rattle.std.specs.Int.{w8, reverse_bits}
use Rattle.fax_runcodes.specs.declared.format.Coding.{Coding}
use Rattle.fax_runcodes.specs.declared.format.Coding.TheVariants.{Mh, Mr}
use Rattle.fax_runcodes.specs.declared.format.Format.{Format}
use Rattle.fax_runcodes.specs.declared.Width.{Width}
use Rattle.fax_runcodes.specs.declared.Width.TheVariants.{W1728, W2048, W2432}
use Rattle.fax_runcodes.specs.Widths.{elements_of}
use Rattle.fax_pagestore.specs.Pages.{PageValue}
use Rattle.fax_pagestore.specs.PageTexts.{MeansPage}
use Rattle.fax_pagestore.specs.PageFaults.{FailsPage}
use Rattle.fax_tiff.specs.declared.number.ByteOrder.{ByteOrder}
use Rattle.fax_tiff.specs.declared.number.ByteOrder.TheVariants.{Big, Little}
use Rattle.fax_tiff.specs.declared.page_text.PageHead.{PageHead}
use Rattle.fax_tiff.specs.declared.fault.TiffFault.{TiffFault}
use Rattle.fax_tiff.specs.declared.fault.TiffFault.TheVariants.{NoTiff, Cut, Overlap, Lacks, BadField, NoPages, TooManyPages, BadPage, BadHeight, NoMemory}
use Rattle.fax_tiff.specs.Directories.{◌>>=◌, DirectoryValue, NumbersValue, directory_at, fraction_of, number_16, number_32, number_at, number_of, number_or, numbers_of, part_of, spend}

-- ---- what the fields of a page say

-- a field that has to have this value; where it is not there, it has that one
unfoldable pub only : ByteOrder → (tag default value : ℕ) → DirectoryValue → Result Unit TiffFault
only order tag default value directory =
    number_or order tag default directory >>= λ n. if n == value then Ok tt else Err (BadField tag)

-- BitsPerSample 1, SamplesPerPixel 1, Compression 3 (ITU-T T.4), PhotometricInterpretation 0 (0 is white)
unfoldable pub is_fax : ByteOrder → DirectoryValue → Result Unit TiffFault
is_fax order directory = do
  bits ← only order 258 1 1 directory
  samples ← only order 277 1 1 directory
  compression ← only order 259 1 3 directory
  only order 262 0 0 directory

-- ImageWidth
unfoldable pub width_of : ℕ → Result Width TiffFault
width_of n = if n == 1728 then Ok W1728
    else if n == 2048 then Ok W2048 else if n == 2432 then Ok W2432 else Err (BadField 256)

-- Lines an inch, a fraction: fewer than 147 are the standard resolution, fewer than 294 the fine one, and more are not read (this
-- project's profile).
unfoldable pub is_fine : (above below : ℕ) → Result Bool TiffFault
is_fine above below = if nat_lt above (147 * below)
    then Ok false else if nat_lt above (294 * below) then Ok true else Err (BadField 283)

-- YResolution by ResolutionUnit: 2, lines an inch, or 3, lines a centimetre, of which an inch has 2.54
unfoldable pub fine_by : (unit : ℕ) → ℕ × ℕ → Result Bool TiffFault
fine_by unit resolution =
    if unit == 2 then is_fine resolution.0 resolution.1
    else if unit == 3 then is_fine (254 * resolution.0) (100 * resolution.1)
    else Err (BadField 296)

unfoldable pub format_of : ByteOrder → List ℕ → DirectoryValue → Result Format TiffFault
format_of order octets directory = do
  elements ← number_of order 256 directory
  width ← width_of elements
  resolution ← fraction_of order 283 octets directory
  unit ← number_or order 296 2 directory
  fine ← fine_by unit resolution
  Ok (record { width = width; fine = fine })

-- T4Options: 1 is set where some lines are two-dimensional, 4 where EOLs end at an octet's end, which is fill; 2 would allow modes
-- that are not compressed.
unfoldable pub coding_by : ℕ → Result Coding TiffFault
coding_by options = if options == 0 then Ok Mh else if options == 4 then Ok Mh
    else if options == 1 then Ok Mr else if options == 5 then Ok Mr else Err (BadField 292)

unfoldable pub coding_of : ByteOrder → DirectoryValue → Result Coding TiffFault
coding_of order directory = number_or order 292 0 directory >>= coding_by

-- FillOrder: whether the least significant bit of an octet is the first
unfoldable pub reversed_by : ℕ → Result Bool TiffFault
reversed_by fill_order =
    if fill_order == 1 then Ok false else if fill_order == 2 then Ok true else Err (BadField 266)

unfoldable pub reversed_of : ByteOrder → DirectoryValue → Result Bool TiffFault
reversed_of order directory = number_or order 266 1 directory >>= reversed_by

-- ---- strips

-- strip i of a page, and what is left of the octets of the file: each strip needs its own, and four more for where it stands
unfoldable pub strip_at : ByteOrder
    → List ℕ → (places counts : NumbersValue) → (i left : ℕ) → Result (List ℕ × ℕ) TiffFault
strip_at order octets places counts i left = do
  place ← number_at order places i
  count ← number_at order counts i
  after ← spend left (count + 4)
  strip ← part_of octets place count
  Ok (strip, after)

-- so many strips from strip i on, one after the other
unfoldable pub strips_from : (n : ℕ) → ByteOrder
    → List ℕ → (places counts : NumbersValue) → (i left : ℕ) → Result (List ℕ × ℕ) TiffFault
strips_from zero order octets places counts i left = Ok ([], left)
strips_from (suc n) order octets places counts i left =
    strip_at order octets places counts i left >>= λ strip.
    strips_from n order octets places counts (i + 1) strip.1 >>= λ more.
    Ok (strip.0 ++ more.0, more.1)

-- StripOffsets and StripByteCounts say as many strips
unfoldable pub strips_of : ByteOrder
    → List ℕ → DirectoryValue → (left : ℕ) → Result (List ℕ × ℕ) TiffFault
strips_of order octets directory left = do
  places ← numbers_of order 273 octets directory
  counts ← numbers_of order 279 octets directory
  if places.count == counts.count then strips_from places.count order octets places counts 0 left else Err (BadField 279)

-- ---- pages

-- a page as its directory has it: its format, how its lines are coded, how many rows it is said to have, and its text
pub record PageText : Type 0 where
  pub format : Format
  pub coding : Coding
  pub height : ℕ
  pub text : List ℕ

-- Six EOLs in octets, in two dimensions with their tags and two zeros before them (ITU-T T.4, 4.1.4 and 4.2.4): they end a text whose
-- strips have none, and mean nothing after one that has them.
unfoldable pub return_to_control : Coding → List ℕ
return_to_control Mh = 0 ∷ 16 ∷ 1 ∷ 0 ∷ 16 ∷ 1 ∷ 0 ∷ 16 ∷ 1 ∷ []
return_to_control Mr = 0 ∷ 6 ∷ 0 ∷ 48 ∷ 1 ∷ 128 ∷ 12 ∷ 0 ∷ 96 ∷ 3 ∷ []

-- octets whose most significant bit is the first
unfoldable pub in_order : Bool → List ℕ → List ℕ
in_order reversed octets = if reversed then map (reverse_bits w8) octets else octets

unfoldable pub text_of : Bool → Coding → List ℕ → List ℕ
text_of reversed coding strips = in_order reversed strips ++ return_to_control coding

-- what the fields of a page say, but for its strips
unfoldable pub head_of : ByteOrder → List ℕ → DirectoryValue → Result PageHead TiffFault
head_of order octets directory = do
  fax ← is_fax order directory
  format ← format_of order octets directory
  coding ← coding_of order directory
  reversed ← reversed_of order directory
  height ← number_of order 257 directory
  Ok (record { format = format; coding = coding; reversed = reversed; height = height })

-- a page that was read, where the next directory stands, and how many octets of the file are left
pub record PageRead : Type 0 where
  pub page : PageText
  pub next : ℕ
  pub left : ℕ

unfoldable pub page_at : ByteOrder → List ℕ → (place left : ℕ) → Result PageRead TiffFault
page_at order octets place left = do
  directory ← directory_at order octets place
  after ← spend left (12 * directory.count)
  head ← head_of order octets directory
  strips ← strips_of order octets directory after
  Ok (record {
    page = record { format = head.format; coding = head.coding; height = head.height; text = text_of head.reversed head.coding strips.0 };
    next = directory.next;
    left = strips.1;
  })

-- the pages of the chain of directories that begins at a place, at most so many
unfoldable pub pages_at : (most : ℕ)
    → ByteOrder → List ℕ → (place left : ℕ) → Result (List PageText) TiffFault
pages_at zero order octets place left = if place == 0 then Ok [] else Err TooManyPages
pages_at (suc most) order octets place left =
    if place == 0 then Ok [] else (page_at order octets place left >>= λ read.
    pages_at most order octets read.next read.left >>= λ more. Ok (read.page ∷ more))

-- PageNumber has 16 bits
abbrev pub most_pages : ℕ
most_pages = 65535

-- `II` or `MM` tells the order of octets, in which 42 follows, and where the first directory stands
unfoldable pub order_of : List ℕ → Result ByteOrder TiffFault
order_of head =
    if (slice_index head 0 == 73 && slice_index head 1 == 73) && number_16 Little head 2 == 42
    then Ok Little else if (slice_index head 0 == 77 && slice_index head 1 == 77)
    && number_16 Big head 2 == 42 then Ok Big else Err NoTiff

unfoldable pub texts_of : List ℕ → Result (List PageText) TiffFault
texts_of octets = do
  head ← part_of octets 0 8
  order ← order_of head
  if number_32 order head 4 == 0 then Err NoPages else pages_at most_pages order octets (number_32 order head 4) (length octets)

-- ---- what the texts mean

-- a text means a page, of as many rows as are said
pub record MeansText (text : PageText) (page : PageValue) : Type 0 where
  pub means : MeansPage text.format text.coding text.text page
  pub height : length page.rows ≡ text.height

-- the texts mean these pages, each one
abbrev pub MeanPages : List PageText → List PageValue → Type 0
MeanPages [] [] = Unit {0}
MeanPages (text ∷ texts) (page ∷ pages) = MeansText text page × MeanPages texts pages
MeanPages [] (page ∷ pages) = ⊥
MeanPages (text ∷ texts) [] = ⊥

-- why a text means no page of so many rows
abbrev pub FailsText : PageText → TiffFault → Type 0
FailsText text (BadPage fault) =
    FailsPage (elements_of text.format.width) text.coding text.text fault
FailsText text BadHeight = (page : PageValue)
    × MeansPage text.format text.coding text.text page × (length page.rows ≢ text.height)
FailsText text fault = ⊥

-- the first text that means none
abbrev pub FailPages : List PageText → TiffFault → Type 0
FailPages [] fault = ⊥
FailPages (text ∷ texts) fault =
    FailsText text fault ⊎ ((page : PageValue) × MeansText text page × FailPages texts fault)

-- OCTETS MEAN THESE PAGES as a TIFF of class F.
pub record MeansTiff (octets : List ℕ) (pages : List PageValue) : Type 0 where
  pub texts : List PageText
  pub read : texts_of octets ≡ Ok texts
  pub mean : MeanPages texts pages

-- Octets are no TIFF of class F, for this fault: one of the file, or of the text of a page.
abbrev pub FailsTiff : List ℕ → TiffFault → Type 0
FailsTiff octets fault = (texts_of octets ≡ Err fault)
    ⊎ ((texts : List PageText) × (texts_of octets ≡ Ok texts) × FailPages texts fault)
