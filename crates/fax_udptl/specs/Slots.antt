-- The slots of one call on one leg: a packet each, or nothing where it is missing. (ITU-T T.38, UDPTL:
-- sequence numbers and redundancy. How far a number may lie ahead, and that what comes late decides
-- nothing, is this project's profile.)
-- Lists of datagrams that came have the newest first.
use Rattle.std.specs.Prelude.{◌≡◌, ℕ, zero, suc, ◌+◌, ◌-◌, ◌%◌, ◌≤◌, max, nat_le, is_some, List, [], ◌∷◌, length, filter_map, slice_get, reverse, Option, Some, None, if◌then◌else◌}
use Rattle.fax_udptl.specs.Datagrams.{DatagramValue}

-- the integer that agrees with a number modulo 65,536 and lies from 32,768 below to 32,767 above what is
-- expected
pub record IsNearest (expected number integer : ℕ) : Type 0 where
  pub agrees : integer % 65536 ≡ number
  pub above : expected ≤ integer + 32768
  pub below : integer ≤ expected + 32767

-- the first integer from a on that agrees with a number
abbrev pub agreeing_from : ℕ → ℕ → ℕ
agreeing_from a number = a + (number + (65536 - a % 65536)) % 65536

-- So the nearest is the first from 32,768 below on: the law `one_integer_is_nearest` says that it is so, and
-- that no other is.
abbrev pub nearest : ℕ → ℕ → ℕ
nearest expected number = agreeing_from (expected - 32768) number

-- Integers are counted from -65,536, so that the secondaries of the first datagram have one.
-- The greatest so far: the first datagram has its own number, and a later one the integer nearest to one
-- more than the greatest before it.
abbrev pub greatest : List DatagramValue → ℕ
greatest [] = 0
greatest (d ∷ []) = 65536 + d.number
greatest (d ∷ e ∷ earlier) =
    max (nearest (greatest (e ∷ earlier) + 1) d.number) (greatest (e ∷ earlier))

-- the integer of a datagram that comes after those
abbrev pub integer_after : List DatagramValue → DatagramValue → ℕ
integer_after [] d = 65536 + d.number
integer_after (e ∷ earlier) d = nearest (greatest (e ∷ earlier) + 1) d.number

-- what a datagram with that integer says of slot k, which is not past it: its primary, a secondary, or
-- that it is missing
abbrev pub said_of : ℕ → DatagramValue → ℕ → Option (List ℕ)
said_of integer d k = slice_get (d.primary ∷ d.secondaries) (integer - k)

-- what is decided of slot k: what the first datagram says whose integer is at least k
abbrev pub decision : List DatagramValue → ℕ → Option (Option (List ℕ))
decision [] k = None
decision (d ∷ earlier) k = if is_some (decision earlier k)
    then decision earlier k else if nat_le k (integer_after earlier d)
    then Some (said_of (integer_after earlier d) d k) else None

-- the slots begin at the oldest secondary of the first datagram
abbrev pub first_slot : List DatagramValue → ℕ
first_slot [] = 0
first_slot (d ∷ []) = 65536 + d.number - length d.secondaries
first_slot (d ∷ e ∷ earlier) = first_slot (e ∷ earlier)

-- n integers from a on
abbrev pub integers_from : ℕ → ℕ → List ℕ
integers_from a zero = []
integers_from a (suc n) = a ∷ integers_from (a + 1) n

-- The slots up to the greatest integer, in the order of time: the oldest first.
unfoldable pub slots : List DatagramValue → List (Option (List ℕ))
slots [] = []
slots (d ∷ earlier) = filter_map (decision (d ∷ earlier)) (integers_from (first_slot (d ∷ earlier))
    (greatest (d ∷ earlier) + 1 - first_slot (d ∷ earlier)))

-- The same slots, the newest first, as the datagrams are given. What the slots say, as the pieces of frames
-- and images that they bring, is told from this list, and not from the one in the order of time.
unfoldable pub newest_slots : List DatagramValue → List (Option (List ℕ))
newest_slots arrived = reverse (slots arrived)
