-- FIELDS of headers: octets off the front, and numbers in either byte order.
use Rattle.std.specs.Prelude.{◌≡◌, ℕ, ◌+◌, ◌*◌, nat_lt, List, take, drop, length, slice_index, Result, Ok, Err, if◌then◌else◌}
use Rattle.fax_capture.specs.declared.pcap.fields.ByteOrder.{ByteOrder}
use Rattle.fax_capture.specs.declared.pcap.fields.ByteOrder.TheVariants.{Big, Little}

-- Reading answers a value, or the first fault. The next field is read where the one before it was.
infixl 10 ◌>>=◌
abbrev pub ◌>>=◌ : {A B E : Type 0} → Result A E → (A → Result B E) → Result B E
(Ok x) >>= f = f x
(Err e) >>= f = Err e

-- so many octets, and those after them; this fault where there are fewer
unfoldable pub front_of : {E : Type 0} → E → ℕ → List ℕ → Result (List ℕ × List ℕ) E
front_of fault count octets =
    if nat_lt (length octets) count then Err fault else Ok (take count octets, drop count octets)

-- the numbers of 16, of 32 and of 64 bits that stand in octets from a place on
unfoldable pub number_16 : ByteOrder → List ℕ → ℕ → ℕ
number_16 Big octets place = 256 * slice_index octets place + slice_index octets (place + 1)
number_16 Little octets place = slice_index octets place + 256 * slice_index octets (place + 1)

unfoldable pub number_32 : ByteOrder → List ℕ → ℕ → ℕ
number_32 Big octets place = 65536 * number_16 Big octets place + number_16 Big octets (place + 2)
number_32 Little octets place =
    number_16 Little octets place + 65536 * number_16 Little octets (place + 2)

unfoldable pub number_64 : ByteOrder → List ℕ → ℕ → ℕ
number_64 Big octets place =
    4294967296 * number_32 Big octets place + number_32 Big octets (place + 4)
number_64 Little octets place =
    number_32 Little octets place + 4294967296 * number_32 Little octets (place + 4)

-- what a call answered, seen by view, is what reading gives
abbrev pub Gives : {X Y E : Type 0} → (X → Y) → Result X E → Result Y E → Type 0
Gives view (Ok x) read = read ≡ Ok (view x)
Gives view (Err e) read = read ≡ Err e
