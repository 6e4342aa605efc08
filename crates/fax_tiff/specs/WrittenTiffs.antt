-- A TIFF OF CLASS F AS IT IS WRITTEN: every octet. (TIFF 6.0, section 2; RFC 2306, with its choices of this project's profile: the least
-- significant octet of a number first, the most significant bit of an octet first, one-dimensional coding with EOLs that are not aligned
-- to octets, one strip a page.)
use Rattle.std.specs.Prelude.{ℕ, ◌+◌, Bool, List, [], ◌∷◌, ◌++◌, length, flat_map, if◌then◌else◌}
use Rattle.std.specs.Int.{w16, w32, to_le_bytes}
use Rattle.fax_runcodes.specs.Widths.{elements_of}
use Rattle.fax_tiff.specs.declared.field.Field.{Field}
use Rattle.fax_tiff.specs.declared.field.FieldValue.{FieldValue}
use Rattle.fax_tiff.specs.declared.field.FieldValue.TheVariants.{Short, Shorts, Long, Rational}
use Rattle.fax_tiff.specs.Strips.{CodedPage}

-- ---- fields

-- the type of a field, how many values it has, and four octets: its values, or where they stand
unfoldable pub value_octets : FieldValue → List ℕ
value_octets (Short n) =
    to_le_bytes w16 3 ++ to_le_bytes w32 1 ++ to_le_bytes w16 n ++ to_le_bytes w16 0
value_octets (Shorts n m) =
    to_le_bytes w16 3 ++ to_le_bytes w32 2 ++ to_le_bytes w16 n ++ to_le_bytes w16 m
value_octets (Long n) = to_le_bytes w16 4 ++ to_le_bytes w32 1 ++ to_le_bytes w32 n
value_octets (Rational place) = to_le_bytes w16 5 ++ to_le_bytes w32 1 ++ to_le_bytes w32 place

unfoldable pub field_octets : Field → List ℕ
field_octets field = to_le_bytes w16 field.tag ++ value_octets field.value

-- a field of a tag and a value
abbrev pub field : ℕ → FieldValue → Field
field tag value = record { tag = tag; value = value }

-- ---- pages

-- how many octets stand before the strip of a page: its directory and two resolutions
abbrev pub size_of_head : ℕ
size_of_head = 214

-- lines an inch: 98 or 196, nominally (RFC 2306)
abbrev pub lines_an_inch : Bool → ℕ
lines_an_inch fine = if fine then 196 else 98

-- The fields of a page whose directory stands at this place, that has this number, from 0, of so many.
unfoldable pub fields_of : (place number total : ℕ) → CodedPage → List Field
fields_of place number total page =
    field 254 (Long 2)  -- NewSubfileType: a page of several
    ∷ field 256 (Short (elements_of page.format.width))  -- ImageWidth
    ∷ field 257 (Long page.height)  -- ImageLength
    ∷ field 258 (Short 1)  -- BitsPerSample
    ∷ field 259 (Short 3)  -- Compression: ITU-T T.4
    ∷ field 262 (Short 0)  -- PhotometricInterpretation: 0 is white
    ∷ field 266 (Short 1)  -- FillOrder: the most significant bit first
    ∷ field 273 (Long (place + 214))  -- StripOffsets
    ∷ field 277 (Short 1)  -- SamplesPerPixel
    ∷ field 278 (Long page.height)  -- RowsPerStrip
    ∷ field 279 (Long (length page.strip))  -- StripByteCounts
    ∷ field 282 (Rational (place + 198))  -- XResolution
    ∷ field 283 (Rational (place + 206))  -- YResolution
    ∷ field 292 (Long 0)  -- T4Options: one-dimensional, EOLs not aligned
    ∷ field 296 (Short 2)  -- ResolutionUnit: an inch
    ∷ field 297 (Shorts number total)  -- PageNumber
    ∷ []

-- a whole number as a fraction
unfoldable pub fraction : ℕ → List ℕ
fraction n = to_le_bytes w32 n ++ to_le_bytes w32 1

-- the octets of a page before its strip, where the next directory stands there; 0: there is none
unfoldable pub head_octets : (place number total next : ℕ) → CodedPage → List ℕ
head_octets place number total next page =
    to_le_bytes w16 16 ++ flat_map field_octets (fields_of place number total page)
    ++ to_le_bytes w32 next ++ fraction 204 ++ fraction (lines_an_inch page.format.fine)

-- where a page ends that stands at this place
abbrev pub end_of_page : ℕ → CodedPage → ℕ
end_of_page place page = place + 214 + length page.strip

-- where the directory stands after a page that ends there, where these pages follow
abbrev pub next_after : ℕ → List CodedPage → ℕ
next_after place [] = 0
next_after place (page ∷ pages) = place

-- these pages, of which the first has this number and stands at this place
abbrev pub pages_from : (place number total : ℕ) → List CodedPage → List ℕ
pages_from place number total [] = []
pages_from place number total (page ∷ pages) =
    head_octets place number total (next_after (end_of_page place page) pages) page ++ page.strip
    ++ pages_from (end_of_page place page) (number + 1) total pages

-- `II`, 42, and where the first directory stands
unfoldable pub file_head : List ℕ
file_head = 73 ∷ 73 ∷ to_le_bytes w16 42 ++ to_le_bytes w32 8

-- the whole file
unfoldable pub tiff_of : List CodedPage → List ℕ
tiff_of pages = file_head ++ pages_from 8 0 (length pages) pages
