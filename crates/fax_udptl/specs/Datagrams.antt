-- The datagrams of UDPTL, as they are read and as they are written. (ITU-T T.38, UDPTL with redundancy;
-- what is not read, and that lengths of 16,384 and more are refused, is this project's profile.)
use Rattle.std.specs.Prelude.{ℕ, zero, suc, ◌+◌, ◌-◌, ◌*◌, ◌/◌, ◌%◌, nat_lt, List, [], ◌∷◌, ◌++◌, take, drop, length, flat_map, Result, Ok, Err, if◌then◌else◌}
use Rattle.fax_udptl.specs.declared.fault.UdptlFault.{UdptlFault}
use Rattle.fax_udptl.specs.declared.fault.UdptlFault.TheVariants.{Short, BadLength}

-- a datagram: its number, its primary packet, and the packets just before that one, the nearest first
pub record DatagramValue : Type 0 where
  pub number : ℕ
  pub primary : List ℕ
  pub secondaries : List (List ℕ)

-- Reading answers a value and the octets after it, or the first fault. The next field is read where the
-- one before it was.
infixl 10 ◌>>=◌
abbrev pub ◌>>=◌ : {A B : Type 0}
    → Result A UdptlFault → (A → Result B UdptlFault) → Result B UdptlFault
(Ok x) >>= f = f x
(Err e) >>= f = Err e

-- A length or a count is one octet below 128, or two, of which the first begins with the bits 10. They
-- have 14 bits more, the high ones first.
abbrev pub low_octet_at : ℕ → List ℕ → Result (ℕ × List ℕ) UdptlFault
low_octet_at high [] = Err Short
low_octet_at high (low ∷ rest) = Ok (256 * high + low, rest)

unfoldable pub length_at : List ℕ → Result (ℕ × List ℕ) UdptlFault
length_at [] = Err Short
length_at (first ∷ rest) = if nat_lt first 128 then Ok (first, rest)
    else if nat_lt first 192 then low_octet_at (first - 128) rest else Err BadLength

-- a packet stands after its length
unfoldable pub packet_at : List ℕ → Result (List ℕ × List ℕ) UdptlFault
packet_at octets = do
  n ← length_at octets
  if nat_lt (length n.1) n.0 then Err Short else Ok (take n.0 n.1, drop n.0 n.1)

-- so many packets, one after the other. Octets after the last are not read (this project's profile).
unfoldable pub packets_at : ℕ → List ℕ → Result (List (List ℕ)) UdptlFault
packets_at zero octets = Ok []
packets_at (suc n) octets = do
  first ← packet_at octets
  others ← packets_at n first.1
  Ok (first.0 ∷ others)

-- After the primary stands an octet. Where its top bit is 0 a count and the secondaries follow; where it
-- is 1 what follows is for forward error correction, which is not read (this project's profile).
unfoldable pub secondaries_at : List ℕ → Result (List (List ℕ)) UdptlFault
secondaries_at [] = Err Short
secondaries_at (recovery ∷ rest) =
    if nat_lt recovery 128 then (length_at rest >>= λ count. packets_at count.0 count.1) else Ok []

-- a number of two octets, the high one first, the primary and the secondaries
unfoldable pub datagram_of : List ℕ → Result DatagramValue UdptlFault
datagram_of (high ∷ low ∷ rest) = do
  primary ← packet_at rest
  secondaries ← secondaries_at primary.1
  Ok (record { number = 256 * high + low; primary = primary.0; secondaries = secondaries })
datagram_of octets = Err Short

-- As it is written, a value below 128 takes one octet.
unfoldable pub written_length : ℕ → List ℕ
written_length n = if nat_lt n 128 then n ∷ [] else (128 + n / 256) ∷ n % 256 ∷ []

unfoldable pub written_packet : List ℕ → List ℕ
written_packet packet = written_length (length packet) ++ packet

unfoldable pub written_datagram : DatagramValue → List ℕ
written_datagram d =
    (d.number / 256) ∷ d.number % 256 ∷ written_packet d.primary
    ++ 0 ∷ written_length (length d.secondaries) ++ flat_map written_packet d.secondaries
