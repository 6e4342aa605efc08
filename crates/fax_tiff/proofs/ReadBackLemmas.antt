-- A page that was written to a TIFF is read back.
use Rattle.std.proofs.Common.{◌≡◌, ◌≢◌, ℕ, zero, suc, ◌+◌, ◌-◌, ◌*◌, ◌^◌, ◌<◌, ◌≤◌, ◌==◌, nat_lt, Bool, true, false, if◌then◌else◌, List, [], ◌∷◌, ◌++◌, length, take, drop, flat_map, map, Option, Some, None, Result, Ok, Err, refl, sym, ◌∙◌, ap, subst, arith, append_assoc, append-nil, length-append, lit<, ◌&&◌}
use Rattle.std.specs.Int.{w16, w32, to_le_bytes}
use Rattle.std.proofs.lemmas.Bool.{le-ltb}
use Rattle.fax_runcodes.specs.declared.Width.{Width}
use Rattle.fax_runcodes.specs.declared.Width.TheVariants.{W1728, W2048, W2432}
use Rattle.fax_runcodes.specs.declared.format.Coding.TheVariants.{Mh}
use Rattle.fax_runcodes.specs.declared.format.Format.{Format}
use Rattle.fax_runcodes.specs.Widths.{elements_of}
use Rattle.fax_tiff.specs.declared.field.Field.{Field}
use Rattle.fax_tiff.specs.declared.field.FieldValue.{FieldValue}
use Rattle.fax_tiff.specs.declared.field.FieldValue.TheVariants.{Short, Shorts, Long, Rational}
use Rattle.fax_tiff.specs.declared.number.ByteOrder.TheVariants.{Little}
use Rattle.fax_tiff.specs.declared.fault.TiffFault.{TiffFault}
use Rattle.fax_tiff.specs.declared.fault.TiffFault.TheVariants.{BadField, Lacks, Overlap}
use Rattle.fax_tiff.specs.declared.page_text.PageHead.{PageHead}
use Rattle.fax_tiff.specs.Directories.{◌>>=◌, DirectoryValue, NumbersValue, directory_at, entry_of, fraction_of, number_16, number_32, number_at, number_in, number_of, number_or, numbers_in, numbers_of, part_of, spend, values_at, wanted}
use Rattle.fax_tiff.specs.ReadTiffs.{PageRead, PageText, coding_by, coding_of, fine_by, format_of, head_of, is_fax, is_fine, only, page_at, reversed_by, reversed_of, strip_at, strips_from, strips_of, text_of, width_of}
use Rattle.fax_tiff.specs.Strips.{CodedPage}
use Rattle.fax_tiff.specs.WrittenTiffs.{field, field_octets, fields_of, fraction, head_octets, lines_an_inch, value_octets}
use Rattle.fax_tiff.proofs.BackLemmas.{HaveTags, field_back, first_of, long_back, number_32_back, part_back, short_back}

-- ---- parts of a file: what stands before it, a count, fields, where the next directory stands, two fractions, a strip, and more

at_count : (f c e n x y s m : List ℕ) → f ++ ((((((c ++ e) ++ n) ++ x) ++ y) ++ s) ++ m) ≡ f ++ (c ++ (e ++ (n ++ (x ++ (y ++ (s ++ m))))))
at_count f c e n x y s m = simp append_assoc

at_fields : (f c e n x y s m : List ℕ) → f ++ ((((((c ++ e) ++ n) ++ x) ++ y) ++ s) ++ m) ≡ (f ++ c) ++ (e ++ (n ++ (x ++ (y ++ (s ++ m)))))
at_fields f c e n x y s m = simp append_assoc

at_next : (f c e n x y s m : List ℕ) → f ++ ((((((c ++ e) ++ n) ++ x) ++ y) ++ s) ++ m) ≡ ((f ++ c) ++ e) ++ (n ++ (x ++ (y ++ (s ++ m))))
at_next f c e n x y s m = simp append_assoc

at_lines : (f c e n x y s m : List ℕ) → f ++ ((((((c ++ e) ++ n) ++ x) ++ y) ++ s) ++ m) ≡ ((((f ++ c) ++ e) ++ n) ++ x) ++ (y ++ (s ++ m))
at_lines f c e n x y s m = simp append_assoc

at_strip : (f c e n x y s m : List ℕ) → f ++ ((((((c ++ e) ++ n) ++ x) ++ y) ++ s) ++ m) ≡ (((((f ++ c) ++ e) ++ n) ++ x) ++ y) ++ (s ++ m)
at_strip f c e n x y s m = simp append_assoc

length-fields : (place number total : ℕ) (page : CodedPage) → length (flat_map field_octets (fields_of place number total page)) ≡ 192
unfolding fields_of field_octets value_octets
length-fields place number total page = refl

sixteen_fields : (place number total : ℕ) (page : CodedPage) → length (fields_of place number total page) ≡ 16
unfolding fields_of
sixteen_fields place number total page = refl

length-fraction : (n : ℕ) → length (fraction n) ≡ 8
unfolding fraction
length-fraction n = refl

head_is : (place number total next : ℕ) (page : CodedPage) → head_octets place number total next page
    ≡ to_le_bytes w16 16 ++ flat_map field_octets (fields_of place number total page) ++ to_le_bytes w32 next ++ fraction 204 ++ fraction (lines_an_inch page.format.fine)
unfolding head_octets
head_is place number total next page = refl

-- a page stands in a file at a place, with its head and its strip
pub record StandsAt (file : List ℕ) (place number total next : ℕ) (page : CodedPage) : Type 0 where
  pub front : List ℕ
  pub more : List ℕ
  pub file_is : file ≡ front ++ ((head_octets place number total next page ++ page.strip) ++ more)
  pub at : length front ≡ place
  pub within : place + 214 + length page.strip < 2 ^ 32
  pub next_few : next < 2 ^ 32
  pub number_few : number < 2 ^ 16
  pub total_few : total < 2 ^ 16
  pub height_few : page.height < 2 ^ 32

size_of_next : (next : ℕ) → length (to_le_bytes w32 next) ≡ 4
size_of_next next = refl

-- ---- what is read once an entry is found

abbrev or_read : (tag default : ℕ) → Option (List ℕ) → Result ℕ TiffFault
or_read tag default entry = elim entry [ Some found ↦ number_in Little tag found | None ↦ Ok default ]

abbrev wanted_read : (tag : ℕ) → Option (List ℕ) → Result (List ℕ) TiffFault
wanted_read tag entry = elim entry [ Some found ↦ Ok found | None ↦ Err (Lacks tag) ]

abbrev only_if : (tag : ℕ) → Bool → Result Unit TiffFault
only_if tag same = if same then Ok tt else Err (BadField tag)

abbrev only_read : (tag value : ℕ) → Result ℕ TiffFault → Result Unit TiffFault
only_read tag value read = read >>= λ n. only_if tag (n == value)

abbrev fraction_parts : Result (List ℕ) TiffFault → Result (ℕ × ℕ) TiffFault
fraction_parts read = read >>= λ parts. Ok (number_32 Little parts 0, number_32 Little parts 4)

abbrev fraction_entry : (file : List ℕ) → Result (List ℕ) TiffFault → Result (ℕ × ℕ) TiffFault
fraction_entry file read = read >>= λ entry.
    if number_32 Little entry 4 == 1 && number_16 Little entry 2 == 5 then fraction_parts (part_of file (number_32 Little entry 8) 8) else Err (BadField 283)

rational_parts : (file : List ℕ) (place : ℕ) → fraction_entry file (Ok (field_octets (field 283 (Rational place)))) ≡ fraction_parts (part_of file (number_32 Little (to_le_bytes w32 place) 0) 8)
unfolding number_32 number_16 field_octets value_octets
rational_parts file place = refl

rational_read : (file : List ℕ) (place : ℕ) → place < 2 ^ 32 → fraction_entry file (Ok (field_octets (field 283 (Rational place)))) ≡ fraction_parts (part_of file place 8)
rational_read file place few = rational_parts file place ∙ ap (λ (k : ℕ). fraction_parts (part_of file k 8)) (number_32_back place few)

fraction_back : (fine : Bool) → fraction_parts (Ok (fraction (lines_an_inch fine))) ≡ Ok (lines_an_inch fine, 1)
unfolding fraction number_32 number_16
fraction_back true = refl
fraction_back false = refl

elements_few : (w : Width) → elements_of w < 2 ^ 16
elements_few W1728 = lit< tt
elements_few W2048 = lit< tt
elements_few W2432 = lit< tt

width_back : (w : Width) → width_of (elements_of w) ≡ Ok w
unfolding width_of
width_back W1728 = refl
width_back W2048 = refl
width_back W2432 = refl

fine_back : (fine : Bool) → fine_by 2 (lines_an_inch fine, 1) ≡ Ok fine
unfolding fine_by is_fine
fine_back true = refl
fine_back false = refl

abbrev format_read : Width → Bool → Result Format TiffFault
format_read width fine = Ok (record { width = width; fine = fine })

abbrev fine_read : Width → ℕ × ℕ → ℕ → Result Format TiffFault
fine_read width resolution unit = fine_by unit resolution >>= format_read width

abbrev unit_read : DirectoryValue → Width → ℕ × ℕ → Result Format TiffFault
unit_read directory width resolution = number_or Little 296 2 directory >>= fine_read width resolution

abbrev resolution_read : List ℕ → DirectoryValue → Width → Result Format TiffFault
resolution_read file directory width = fraction_of Little 283 file directory >>= unit_read directory width

abbrev width_read : List ℕ → DirectoryValue → ℕ → Result Format TiffFault
width_read file directory elements = width_of elements >>= resolution_read file directory

-- one number of 32 bits
abbrev numbers_are : ℕ → NumbersValue
numbers_are n = record { long = true; count = 1; octets = to_le_bytes w32 n }

long_numbers : (tag : ℕ) (file : List ℕ) (n : ℕ) → numbers_in Little tag file (field_octets (field tag (Long n))) ≡ Ok (numbers_are n)
unfolding numbers_in values_at number_32 number_16 field_octets value_octets
long_numbers tag file n = refl

number_at_parts : (n : ℕ) → number_at Little (numbers_are n) 0 ≡ Ok (number_32 Little (to_le_bytes w32 n) 0)
unfolding number_at part_of
number_at_parts n = refl

number_at_back : (n : ℕ) → n < 2 ^ 32 → number_at Little (numbers_are n) 0 ≡ Ok n
number_at_back n few = number_at_parts n ∙ ap (λ (k : ℕ). Ok k) (number_32_back n few)

spend_back : (left count : ℕ) → count ≤ left → spend left count ≡ Ok (left - count)
unfolding spend
spend_back left count enough = ap (λ b. if b then Err Overlap else Ok (left - count)) (le-ltb left count enough)

-- a written page as it is read
abbrev pub text_back : CodedPage → PageText
text_back page = record { format = page.format; coding = Mh; height = page.height; text = text_of false Mh page.strip }

abbrev pub read_as : CodedPage → (next left : ℕ) → PageRead
read_as page next left = record { page = text_back page; next = next; left = left }

-- what is left to read of a directory, once some of it was read
abbrev next_read : ℕ → List ℕ → Result (List ℕ) TiffFault → Result DirectoryValue TiffFault
next_read count entries read = read >>= λ after. Ok (record { count = count; entries = entries; next = number_32 Little after 0 })

abbrev entries_read : (file : List ℕ) (place count : ℕ) → Result (List ℕ) TiffFault → Result DirectoryValue TiffFault
entries_read file place count read = read >>= λ entries. next_read count entries (part_of file (place + 2 + 12 * count) 4)

abbrev count_read : (file : List ℕ) (place : ℕ) → Result (List ℕ) TiffFault → Result DirectoryValue TiffFault
count_read file place read = read >>= λ head. entries_read file place (number_16 Little head 0) (part_of file (place + 2) (12 * number_16 Little head 0))

abbrev directory_is : ℕ → List ℕ → ℕ → Result DirectoryValue TiffFault
directory_is count entries next = Ok (record { count = count; entries = entries; next = next })

sixteen : number_16 Little (to_le_bytes w16 16) 0 ≡ 16
unfolding number_16
sixteen = refl

module _ (file : List ℕ) (place number total next : ℕ) (page : CodedPage) (stands : StandsAt file place number total next page) where
  abbrev c : List ℕ
  c = to_le_bytes w16 16

  abbrev e : List ℕ
  e = flat_map field_octets (fields_of place number total page)

  abbrev n : List ℕ
  n = to_le_bytes w32 next

  abbrev x : List ℕ
  x = fraction 204

  abbrev y : List ℕ
  y = fraction (lines_an_inch page.format.fine)

  whole : file ≡ stands.front ++ ((((((c ++ e) ++ n) ++ x) ++ y) ++ page.strip) ++ stands.more)
  whole = stands.file_is ∙ ap (λ (h : List ℕ). stands.front ++ ((h ++ page.strip) ++ stands.more)) (head_is place number total next page)

  part_count : part_of file place 2 ≡ Ok c
  part_count =
      part_back file stands.front c (e ++ (n ++ (x ++ (y ++ (page.strip ++ stands.more))))) place 2 (whole ∙ at_count stands.front c e n x y page.strip stands.more) stands.at refl

  before_fields : length (stands.front ++ c) ≡ place + 2
  before_fields = length-append stands.front c ∙ ap (λ (k : ℕ). k + 2) stands.at

  part_fields : part_of file (place + 2) 192 ≡ Ok e
  part_fields =
      part_back file (stands.front ++ c) e (n ++ (x ++ (y ++ (page.strip ++ stands.more)))) (place + 2) 192 (whole ∙ at_fields stands.front c e n x y page.strip stands.more)
      before_fields (length-fields place number total page)

  before_next : length ((stands.front ++ c) ++ e) ≡ place + 2 + 192
  before_next = length-append (stands.front ++ c) e ∙ ap (λ (k : ℕ). k + length e) before_fields ∙ ap (λ (k : ℕ). place + 2 + k) (length-fields place number total page)

  part_next : part_of file (place + 2 + 192) 4 ≡ Ok n
  part_next =
      part_back file ((stands.front ++ c) ++ e) n (x ++ (y ++ (page.strip ++ stands.more))) (place + 2 + 192) 4 (whole ∙ at_next stands.front c e n x y page.strip stands.more) before_next refl

  before_lines : length ((((stands.front ++ c) ++ e) ++ n) ++ x) ≡ place + 206
  before_lines =
      omega (arith, length-append (((stands.front ++ c) ++ e) ++ n) x, length-append ((stands.front ++ c) ++ e) n, before_next, length-fraction 204, size_of_next next)

  part_lines : part_of file (place + 206) 8 ≡ Ok y
  part_lines =
      part_back file ((((stands.front ++ c) ++ e) ++ n) ++ x) y (page.strip ++ stands.more) (place + 206) 8 (whole ∙ at_lines stands.front c e n x y page.strip stands.more)
      before_lines (length-fraction (lines_an_inch page.format.fine))

  before_strip : length (((((stands.front ++ c) ++ e) ++ n) ++ x) ++ y) ≡ place + 214
  before_strip = omega (arith, length-append ((((stands.front ++ c) ++ e) ++ n) ++ x) y, before_lines, length-fraction (lines_an_inch page.format.fine))

  part_strip : part_of file (place + 214) (length page.strip) ≡ Ok page.strip
  part_strip =
      part_back file (((((stands.front ++ c) ++ e) ++ n) ++ x) ++ y) page.strip stands.more (place + 214) (length page.strip)
      (whole ∙ at_strip stands.front c e n x y page.strip stands.more) before_strip refl

  -- the directory of the page
  abbrev pub written : DirectoryValue
  written = record { count = 16; entries = e; next = next }

  pub directory_back : directory_at Little file place ≡ Ok written
  unfolding directory_at
  directory_back =
      ap (count_read file place) part_count
      ∙ ap (λ (k : ℕ). entries_read file place k (part_of file (place + 2) (12 * k))) sixteen
      ∙ ap (entries_read file place 16) part_fields
      ∙ ap (next_read 16 e) part_next
      ∙ ap (directory_is 16 e) (number_32_back next stands.next_few)

  -- ---- fields

  have_tags : HaveTags (fields_of place number total page)
  unfolding fields_of
  have_tags = (lit< tt, (lit< tt, (lit< tt, (lit< tt, (lit< tt, (lit< tt, (lit< tt, (lit< tt, (lit< tt, (lit< tt, (lit< tt, (lit< tt, (lit< tt, (lit< tt, (lit< tt, (lit< tt, tt))))))))))))))))

  -- a field that is there
  entry_back : (tag : ℕ) (value : FieldValue) → first_of tag (fields_of place number total page) ≡ Some (field_octets (field tag value))
      → entry_of Little tag 16 e ≡ Some (field_octets (field tag value))
  entry_back tag value found = ap (λ (k : ℕ). entry_of Little tag k e) (sym (sixteen_fields place number total page)) ∙ field_back tag (fields_of place number total page) have_tags ∙ found

  or_back : (tag default k : ℕ) (value : FieldValue) → first_of tag (fields_of place number total page) ≡ Some (field_octets (field tag value))
      → number_in Little tag (field_octets (field tag value)) ≡ Ok k → number_or Little tag default written ≡ Ok k
  unfolding number_or
  or_back tag default k value found is = ap (or_read tag default) (entry_back tag value found) ∙ is

  wanted_back : (tag : ℕ) (value : FieldValue) → first_of tag (fields_of place number total page) ≡ Some (field_octets (field tag value))
      → wanted Little tag written ≡ Ok (field_octets (field tag value))
  unfolding wanted
  wanted_back tag value found = ap (wanted_read tag) (entry_back tag value found)

  number_back : (tag k : ℕ) (value : FieldValue) → first_of tag (fields_of place number total page) ≡ Some (field_octets (field tag value))
      → number_in Little tag (field_octets (field tag value)) ≡ Ok k → number_of Little tag written ≡ Ok k
  unfolding number_of
  number_back tag k value found is = ap (λ (r : Result (List ℕ) TiffFault). r >>= number_in Little tag) (wanted_back tag value found) ∙ is

  only_back : (tag default k : ℕ) (value : FieldValue) → first_of tag (fields_of place number total page) ≡ Some (field_octets (field tag value))
      → number_in Little tag (field_octets (field tag value)) ≡ Ok k → (k == k) ≡ true → only Little tag default k written ≡ Ok tt
  unfolding only
  only_back tag default k value found is same = ap (only_read tag k) (or_back tag default k value found is) ∙ ap (only_if tag) same

  fax_back : is_fax Little written ≡ Ok tt
  unfolding is_fax fields_of
  fax_back =
      ap (λ (r : Result Unit TiffFault). r >>= λ a. only Little 277 1 1 written >>= λ b. only Little 259 1 3 written >>= λ d. only Little 262 0 0 written) (only_back 258 1 1 (Short 1) refl (short_back 258 1 (lit< tt)) refl)
      ∙ ap (λ (r : Result Unit TiffFault). r >>= λ b. only Little 259 1 3 written >>= λ d. only Little 262 0 0 written) (only_back 277 1 1 (Short 1) refl (short_back 277 1 (lit< tt)) refl)
      ∙ ap (λ (r : Result Unit TiffFault). r >>= λ d. only Little 262 0 0 written) (only_back 259 1 3 (Short 3) refl (short_back 259 3 (lit< tt)) refl)
      ∙ only_back 262 0 0 (Short 0) refl (short_back 262 0 (lit< tt)) refl

  resolution_back : fraction_of Little 283 file written ≡ Ok (lines_an_inch page.format.fine, 1)
  unfolding fraction_of fields_of
  resolution_back =
      ap (fraction_entry file) (wanted_back 283 (Rational (place + 206)) refl) ∙ rational_read file (place + 206) (omega (arith, stands.within)) ∙ ap fraction_parts part_lines ∙ fraction_back page.format.fine

  format_back : format_of Little file written ≡ Ok page.format
  unfolding format_of fields_of
  format_back =
      ap (λ (r : Result ℕ TiffFault). r >>= width_read file written) (number_back 256 (elements_of page.format.width) (Short (elements_of page.format.width)) refl (short_back 256 (elements_of page.format.width) (elements_few page.format.width)))
      ∙ ap (λ (r : Result Width TiffFault). r >>= resolution_read file written) (width_back page.format.width)
      ∙ ap (λ (r : Result (ℕ × ℕ) TiffFault). r >>= unit_read written page.format.width) resolution_back
      ∙ ap (λ (r : Result ℕ TiffFault). r >>= fine_read page.format.width (lines_an_inch page.format.fine, 1)) (or_back 296 2 2 (Short 2) refl (short_back 296 2 (lit< tt)))
      ∙ ap (λ (r : Result Bool TiffFault). r >>= format_read page.format.width) (fine_back page.format.fine)

  abbrev head : PageHead
  head = record { format = page.format; coding = Mh; reversed = false; height = page.height }

  coding_back : coding_of Little written ≡ Ok Mh
  unfolding coding_of coding_by fields_of
  coding_back = ap (λ (r : Result ℕ TiffFault). r >>= coding_by) (or_back 292 0 0 (Long 0) refl (long_back 292 0 (lit< tt)))

  reversed_back : reversed_of Little written ≡ Ok false
  unfolding reversed_of reversed_by fields_of
  reversed_back = ap (λ (r : Result ℕ TiffFault). r >>= reversed_by) (or_back 266 1 1 (Short 1) refl (short_back 266 1 (lit< tt)))

  height_back : number_of Little 257 written ≡ Ok page.height
  unfolding fields_of
  height_back = number_back 257 page.height (Long page.height) refl (long_back 257 page.height stands.height_few)

  head_back : head_of Little file written ≡ Ok head
  unfolding head_of
  head_back = rw (fax_back, format_back, coding_back, reversed_back, height_back) refl

  -- ---- the strip

  places_back : numbers_of Little 273 file written ≡ Ok (record { long = true; count = 1; octets = to_le_bytes w32 (place + 214) })
  unfolding numbers_of fields_of
  places_back = ap (λ (r : Result (List ℕ) TiffFault). r >>= numbers_in Little 273 file) (wanted_back 273 (Long (place + 214)) refl) ∙ long_numbers 273 file (place + 214)

  counts_back : numbers_of Little 279 file written ≡ Ok (record { long = true; count = 1; octets = to_le_bytes w32 (length page.strip) })
  unfolding numbers_of fields_of
  counts_back = ap (λ (r : Result (List ℕ) TiffFault). r >>= numbers_in Little 279 file) (wanted_back 279 (Long (length page.strip)) refl) ∙ long_numbers 279 file (length page.strip)

  strip_back : (left : ℕ) → length page.strip + 4 ≤ left → strip_at Little file (numbers_are (place + 214)) (numbers_are (length page.strip)) 0 left ≡ Ok (page.strip, left - (length page.strip + 4))
  unfolding strip_at
  strip_back left enough =
      rw (number_at_back (place + 214) (omega (arith, stands.within)), number_at_back (length page.strip) (omega (arith, stands.within)), spend_back left (length page.strip + 4) enough, part_strip) refl

  strips_back : (left : ℕ) → length page.strip + 4 ≤ left → strips_of Little file written left ≡ Ok (page.strip, left - (length page.strip + 4))
  unfolding strips_of strips_from
  strips_back left enough = rw (places_back, counts_back) (rw (strip_back left enough) (rw append-nil refl))

  -- the page is read, and what is left of the octets of the file
  pub page_back : (left : ℕ) → 196 + length page.strip ≤ left → page_at Little file place left ≡ Ok (read_as page next (left - (196 + length page.strip)))
  unfolding page_at
  page_back left enough =
      rw (directory_back, spend_back left 192 (omega (arith, enough)), head_back, strips_back (left - 192) (omega (arith, enough)))
      (ap (λ (k : ℕ). Ok (read_as page next k)) (omega (arith, enough)))
