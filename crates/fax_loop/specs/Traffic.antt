-- What a socket tells. (This project's profile.) Lists have the newest first.
use Rattle.std.specs.Prelude.{ℕ, List, [], ◌∷◌, length, map, take, Option, Some, None, option_map, Result, Ok, Err}
use Rattle.fax_terminal.specs.Ends.{EndTraffic}

-- a datagram that came to it, into a buffer of so many octets: what did not fit is lost
pub record Brought : Type 0 where
  pub room : ℕ
  pub octets : List ℕ

-- the datagrams that came to it, and those that it was handed, of a socket that tells them
pub record SocketTraffic : Type 0 where
  pub received : Option (List Brought)
  pub sent : Option (List (List ℕ))

-- what a receive into this buffer brought it
abbrev pub brought_by : {E : Type 0} → List ℕ → Result (Option ℕ) E → List Brought
brought_by buffer (Ok None) = []
brought_by buffer (Ok (Some count)) =
    record { room = length buffer; octets = take count buffer } ∷ []
brought_by buffer (Err fault) = []

-- what is told of it as of an end
abbrev pub octets_brought : List Brought → List (List ℕ)
octets_brought came = map (λ b. b.octets) came

abbrev pub end_traffic : SocketTraffic → EndTraffic
end_traffic socket =
    record { received = option_map octets_brought socket.received; sent = socket.sent }
