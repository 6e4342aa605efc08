-- What a terminal's end of a leg tells. (This project's profile.) Lists have the newest first.
use Rattle.std.specs.Prelude.{◌≡◌, ℕ, List, [], ◌∷◌, take, Option, Some, None, option_map}
use Rattle.fax_gateway.specs.declared.leg.Leg.{Leg}
use Rattle.fax_gateway.specs.declared.leg.Leg.TheVariants as legs
use Rattle.fax_gateway.specs.Wires.{Came, Failed, Grows, HandedDatagram, KnownWire, Nothing, Receipt}

-- the datagrams that came, and those that were handed over to be sent, where it tells them
pub record EndTraffic : Type 0 where
  pub received : Option (List (List ℕ))
  pub sent : Option (List (List ℕ))

-- what a receive into this buffer brought
abbrev pub brought : List ℕ → Option ℕ → List (List ℕ)
brought buffer None = []
brought buffer (Some count) = take count buffer ∷ []

-- what is handed over, where something is given
abbrev pub handed : Option (List ℕ) → List (List ℕ)
handed None = []
handed (Some octets) = octets ∷ []

-- what a wire tells of its calling leg
abbrev pub if_calling : Leg → List ℕ → List (List ℕ) → List (List ℕ)
if_calling legs.Calling octets earlier = octets ∷ earlier
if_calling legs.Called octets earlier = earlier

abbrev pub octets_received : List Receipt → List (List ℕ)
octets_received [] = []
octets_received (Came leg room octets ∷ earlier) = if_calling leg octets (octets_received earlier)
octets_received (Nothing leg room ∷ earlier) = octets_received earlier
octets_received (Failed leg room ∷ earlier) = octets_received earlier

abbrev pub octets_sent : List HandedDatagram → List (List ℕ)
octets_sent [] = []
octets_sent (datagram ∷ earlier) = if_calling datagram.leg datagram.octets (octets_sent earlier)

abbrev pub traffic_of : KnownWire → EndTraffic
traffic_of known = record {
  received = option_map octets_received known.received;
  sent = option_map octets_sent known.sent;
}

-- a wire that tells it answered one receive more on its calling leg
abbrev pub leg_of_receipt : Receipt → Leg
leg_of_receipt (Came leg room octets) = leg
leg_of_receipt (Nothing leg room) = leg
leg_of_receipt (Failed leg room) = leg

pub record HasAsked (before after : KnownWire) : Type 0 where
  pub receipt : Receipt
  pub calling : leg_of_receipt receipt ≡ legs.Calling
  pub grew : Grows (receipt ∷ []) before.received after.received
