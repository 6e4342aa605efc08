-- Files that are no spool's. (This project's profile.)
use Rattle.std.specs.Prelude.{ℕ, Bool, false, not, ◌&&◌, ◌||◌, nat_eq, nat_le, nat_lt, bytes_eq, Option, Some, None, List, ◌∷◌, length, take, drop}
use Rattle.fax_spool.specs.Records.{voted}

abbrev pub is_gate : Option ℕ → Bool
is_gate (Some gate) = nat_le gate 1
is_gate None = false

abbrev pub says_open : Option ℕ → Bool
says_open (Some gate) = nat_eq gate 1
says_open None = false

-- octets begin with a gate, each of three copies of which may be turned
abbrev pub has_gate : List ℕ → Bool
has_gate (a ∷ b ∷ c ∷ rest) = is_gate (voted a b c)
has_gate octets = false

-- with an open one
abbrev pub is_open : List ℕ → Bool
is_open (a ∷ b ∷ c ∷ rest) = says_open (voted a b c)
is_open octets = false

-- after a gate the same four octets stand three times: the length of a record
abbrev pub has_lengths : List ℕ → Bool
has_lengths octets = bytes_eq (take 4 (drop 3 octets)) (take 4 (drop 7 octets))
    && bytes_eq (take 4 (drop 3 octets)) (take 4 (drop 11 octets))

-- A file that begins so may be something else's: it is longer than the 107 octets that a crash within the first start leaves, two records
-- of 49 and three gates, and begins neither with a gate nor with the length of a record after one.
abbrev pub is_foreign : List ℕ → Bool
is_foreign octets =
    nat_lt 107 (length octets) && (not (has_gate octets) && not (has_lengths octets))

-- TWO FILES ARE NO SPOOL'S where one of them may be something else's, and the other one has no record: once a spool was begun one of its
-- files begins with an open gate, whatever crash comes.
abbrev pub are_foreign : (one other : List ℕ) → Bool
are_foreign one other =
    not (is_open one) && (not (is_open other) && (is_foreign one || is_foreign other))
