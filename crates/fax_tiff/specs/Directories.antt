-- DIRECTORIES AND THEIR FIELDS, read from a file whose numbers have either order of octets (TIFF 6.0, section 2).
use Rattle.std.specs.Prelude.{◌≡◌, ℕ, zero, suc, ◌+◌, ◌-◌, ◌*◌, ◌==◌, ◌&&◌, nat_lt, nat_le, Bool, true, false, List, take, drop, length, slice_index, Option, Some, None, Result, Ok, Err, if◌then◌else◌}
use Rattle.fax_tiff.specs.declared.number.ByteOrder.{ByteOrder}
use Rattle.fax_tiff.specs.declared.number.ByteOrder.TheVariants.{Big, Little}
use Rattle.fax_tiff.specs.declared.fault.TiffFault.{TiffFault}
use Rattle.fax_tiff.specs.declared.fault.TiffFault.TheVariants.{Cut, Overlap, Lacks, BadField}

-- Reading answers a value, or the first fault. The next part is read where the one before it was.
infixl 10 ◌>>=◌
abbrev pub ◌>>=◌ : {A B : Type 0}
    → Result A TiffFault → (A → Result B TiffFault) → Result B TiffFault
(Ok x) >>= f = f x
(Err e) >>= f = Err e

-- what a call answered, seen by view, is what reading gives
abbrev pub Gives : {X Y : Type 0} → (X → Y) → Result X TiffFault → Result Y TiffFault → Type 0
Gives view (Ok x) read = read ≡ Ok (view x)
Gives view (Err e) read = read ≡ Err e

-- ---- parts and numbers

-- so many octets of a file from a place on
unfoldable pub part_of : List ℕ → (place count : ℕ) → Result (List ℕ) TiffFault
part_of octets place count =
    if nat_lt (length octets) (place + count) then Err Cut else Ok (take count (drop place octets))

-- the numbers of 16 and of 32 bits that stand in octets from a place on
unfoldable pub number_16 : ByteOrder → List ℕ → ℕ → ℕ
number_16 Big octets place = 256 * slice_index octets place + slice_index octets (place + 1)
number_16 Little octets place = slice_index octets place + 256 * slice_index octets (place + 1)

unfoldable pub number_32 : ByteOrder → List ℕ → ℕ → ℕ
number_32 Big octets place = 65536 * number_16 Big octets place + number_16 Big octets (place + 2)
number_32 Little octets place =
    number_16 Little octets place + 65536 * number_16 Little octets (place + 2)

-- No octet of a file is needed twice: of as many octets as it has, so many more are used. What is left of them; `Overlap` where
-- fewer are.
unfoldable pub spend : (left count : ℕ) → Result ℕ TiffFault
spend left count = if nat_lt left count then Err Overlap else Ok (left - count)

-- ---- directories

-- a directory: how many fields it has, these, of twelve octets each, and where the next one stands; 0: there is none
pub record DirectoryValue : Type 0 where
  pub count : ℕ
  pub entries : List ℕ
  pub next : ℕ

-- the count, the fields, and the place of the next
unfoldable pub directory_at : ByteOrder → List ℕ → ℕ → Result DirectoryValue TiffFault
directory_at order octets place = do
  head ← part_of octets place 2
  entries ← part_of octets (place + 2) (12 * number_16 order head 0)
  next ← part_of octets (place + 2 + 12 * number_16 order head 0) 4
  Ok (record { count = number_16 order head 0; entries = entries; next = number_32 order next 0 })

-- the first field of a tag, of so many
unfoldable pub entry_of : ByteOrder → (tag count : ℕ) → List ℕ → Option (List ℕ)
entry_of order tag zero entries = None
entry_of order tag (suc count) entries = if number_16 order (take 12 entries) 0 == tag
    then Some (take 12 entries) else entry_of order tag count (drop 12 entries)

-- a field that has to be there
unfoldable pub wanted : ByteOrder → (tag : ℕ) → DirectoryValue → Result (List ℕ) TiffFault
wanted order tag directory = elim (entry_of order tag directory.count directory.entries)
    [ Some entry ↦ Ok entry | None ↦ Err (Lacks tag) ]

-- ---- values: a field has its tag, the type of its values (3: 16 bits, 4: 32 bits, 5: a fraction of 64), how many they are, and four
-- octets, which are the values where they fit, and else the place where these stand

-- a field of one number
unfoldable pub number_in : ByteOrder → (tag : ℕ) → List ℕ → Result ℕ TiffFault
number_in order tag entry = if number_32 order entry 4 == 1 && number_16 order entry 2 == 3
    then Ok (number_16 order entry 8) else if number_32 order entry 4 == 1
    && number_16 order entry 2 == 4 then Ok (number_32 order entry 8) else Err (BadField tag)

unfoldable pub number_of : ByteOrder → (tag : ℕ) → DirectoryValue → Result ℕ TiffFault
number_of order tag directory = wanted order tag directory >>= number_in order tag

-- one that is this number where the field is not there
unfoldable pub number_or : ByteOrder → (tag default : ℕ) → DirectoryValue → Result ℕ TiffFault
number_or order tag default directory = elim (entry_of order tag directory.count directory.entries)
    [ Some entry ↦ number_in order tag entry | None ↦ Ok default ]

-- a field of one fraction: above, and below
unfoldable pub fraction_of : ByteOrder
    → (tag : ℕ) → List ℕ → DirectoryValue → Result (ℕ × ℕ) TiffFault
fraction_of order tag octets directory =
    wanted order tag directory >>= λ entry. if number_32 order entry 4 == 1
    && number_16 order entry 2 == 5 then (part_of octets (number_32 order entry 8) 8 >>= λ parts.
    Ok (number_32 order parts 0, number_32 order parts 4)) else Err (BadField tag)

-- a field of numbers: whether they have 32 bits, how many they are, and their octets
pub record NumbersValue : Type 0 where
  pub long : Bool
  pub count : ℕ
  pub octets : List ℕ

unfoldable pub values_at : ByteOrder → List ℕ → List ℕ → (size : ℕ) → Result (List ℕ) TiffFault
values_at order octets entry size =
    if nat_le size 4 then Ok (drop 8 entry) else part_of octets (number_32 order entry 8) size

unfoldable pub numbers_in : ByteOrder
    → (tag : ℕ) → (octets entry : List ℕ) → Result NumbersValue TiffFault
numbers_in order tag octets entry = if number_16 order entry 2 == 3
    then (values_at order octets entry (2 * number_32 order entry 4) >>= λ values.
    Ok (record { long = false; count = number_32 order entry 4; octets = values }))
    else if number_16 order entry 2 == 4
    then (values_at order octets entry (4 * number_32 order entry 4) >>= λ values. Ok (record {
      long = true;
      count = number_32 order entry 4;
      octets = values;
    })) else Err (BadField tag)

unfoldable pub numbers_of : ByteOrder
    → (tag : ℕ) → List ℕ → DirectoryValue → Result NumbersValue TiffFault
numbers_of order tag octets directory = wanted order tag directory >>= numbers_in order tag octets

-- one of them, counted from 0
unfoldable pub number_at : ByteOrder → NumbersValue → ℕ → Result ℕ TiffFault
number_at order numbers i =
    if numbers.long then (part_of numbers.octets (4 * i) 4 >>= λ part. Ok (number_32 order part 0))
    else (part_of numbers.octets (2 * i) 2 >>= λ part. Ok (number_16 order part 0))
