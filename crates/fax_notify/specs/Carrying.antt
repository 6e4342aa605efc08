-- What takes datagrams to sockets of the system's own. Lists have the newest first. (This project's profile.)
use Rattle.std.specs.Prelude.{ℕ, List, ◌∷◌, Option, option_map}

-- a datagram that was handed over: the octets of the address, and its own
pub record Carried : Type 0 where
  pub address : List ℕ
  pub octets : List ℕ

-- one more was, where that is told
abbrev pub carried_after : (address octets : List ℕ) → Option (List Carried) → Option (List Carried)
carried_after address octets carried =
    option_map (λ earlier. record { address = address; octets = octets } ∷ earlier) carried
