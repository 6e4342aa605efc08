-- The address of a socket of the system's own, by its name (unix(7), sd_notify(3)).
use Rattle.std.specs.Prelude.{ℕ, ◌==◌, nat_lt, if◌then◌else◌, List, [], ◌∷◌, ◌++◌, Option, None, Some, length}

-- the family of such sockets, AF_UNIX, in two octets, the lower one first
abbrev pub family : List ℕ
family = 1 ∷ 0 ∷ []

-- a path, of which this stands after its first `/`, as it is, and a zero after it
abbrev pub path_octets : List ℕ → List ℕ
path_octets rest = family ++ ((47 ∷ rest) ++ (0 ∷ []))

-- a name of the abstract namespace, of which this stands after its `@`: a zero stands for that, and none after it
abbrev pub abstract_octets : List ℕ → List ℕ
abstract_octets rest = family ++ (0 ∷ rest)

-- the same by the first octet
abbrev pub octets_by : ℕ → List ℕ → Option (List ℕ)
octets_by first rest = if first == 47
    then Some (path_octets rest) else if first == 64 then Some (abstract_octets rest) else None

-- THE ADDRESS of the socket of a name, which has 107 octets at most, and begins with `/` or `@`; of any other there is none.
abbrev pub address_octets : List ℕ → Option (List ℕ)
address_octets [] = None
address_octets (first ∷ rest) = if nat_lt 106 (length rest) then None else octets_by first rest
