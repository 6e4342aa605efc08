-- What a wire tells, as of an end.
use Rattle.std.proofs.Common.{◌≡◌, ℕ, List, [], ◌∷◌, ◌++◌, length, take, Option, Some, None, Result, Ok, Err, option_map, refl, ◌∙◌, ap}
use Rattle.fax_gateway.specs.declared.leg.Leg.{Leg}
use Rattle.fax_gateway.specs.declared.leg.Leg.TheVariants as legs
use Rattle.fax_gateway.specs.declared.wire.WireFault.{WireFault}
use Rattle.fax_gateway.specs.Wires.{Came, Failed, Grows, HandedDatagram, KnownWire, Nothing, Receipt, receipt_of}
use Rattle.fax_gateway.proofs.DrivingLemmas.{grows_as}
use Rattle.fax_terminal.specs.Ends.{HasAsked, brought, if_calling, octets_received, octets_sent, traffic_of}

grows_through : {A B : Type 0} (f : List A → List B) → ((xs ys : List A) → f (xs ++ ys) ≡ f xs ++ f ys) → (newer : List A) (before after : Option (List A))
    → Grows newer before after → Grows (f newer) (option_map f before) (option_map f after)
grows_through f joins newer before None grew = tt
grows_through f joins newer before (Some told) (older, was, is) = (f older, ap (option_map f) was, ap f is ∙ joins newer older)

if_joins : (leg : Leg) (octets : List ℕ) (xs ys : List (List ℕ)) → if_calling leg octets (xs ++ ys) ≡ if_calling leg octets xs ++ ys
if_joins legs.Calling octets xs ys = refl
if_joins legs.Called octets xs ys = refl

received_joins : (xs ys : List Receipt) → octets_received (xs ++ ys) ≡ octets_received xs ++ octets_received ys
received_joins [] ys = refl
received_joins (Came leg room octets ∷ xs) ys = ap (if_calling leg octets) (received_joins xs ys) ∙ if_joins leg octets (octets_received xs) (octets_received ys)
received_joins (Nothing leg room ∷ xs) ys = received_joins xs ys
received_joins (Failed leg room ∷ xs) ys = received_joins xs ys

sent_joins : (xs ys : List HandedDatagram) → octets_sent (xs ++ ys) ≡ octets_sent xs ++ octets_sent ys
sent_joins [] ys = refl
sent_joins (x ∷ xs) ys = ap (if_calling x.leg x.octets) (sent_joins xs ys) ∙ if_joins x.leg x.octets (octets_sent xs) (octets_sent ys)

-- the same is told as before
pub nothing_received : (before after : KnownWire) → Grows [] before.received after.received → Grows [] (traffic_of before).received (traffic_of after).received
nothing_received before after grew = grows_through octets_received received_joins [] before.received after.received grew

pub nothing_sent : (before after : KnownWire) → Grows [] before.sent after.sent → Grows [] (traffic_of before).sent (traffic_of after).sent
nothing_sent before after grew = grows_through octets_sent sent_joins [] before.sent after.sent grew

-- a receive
pub end_receives : (buffer : List ℕ) (came : Option ℕ) (r : Result (Option ℕ) WireFault) (before after : KnownWire) → r ≡ Ok came
    → Grows (receipt_of legs.Calling buffer r ∷ []) before.received after.received → Grows (brought buffer came) (traffic_of before).received (traffic_of after).received
end_receives buffer None r before after is grew =
    grows_through octets_received received_joins (Nothing legs.Calling (length buffer) ∷ []) before.received after.received (grows_as _ _ before.received after.received (ap (λ r. receipt_of legs.Calling buffer r ∷ []) is) grew)
end_receives buffer (Some count) r before after is grew =
    grows_through octets_received received_joins (Came legs.Calling (length buffer) (take count buffer) ∷ []) before.received after.received (grows_as _ _ before.received after.received (ap (λ r. receipt_of legs.Calling buffer r ∷ []) is) grew)

pub end_fails : (buffer : List ℕ) (fault : WireFault) (r : Result (Option ℕ) WireFault) (before after : KnownWire) → r ≡ Err fault
    → Grows (receipt_of legs.Calling buffer r ∷ []) before.received after.received → Grows [] (traffic_of before).received (traffic_of after).received
end_fails buffer fault r before after is grew =
    grows_through octets_received received_joins (Failed legs.Calling (length buffer) ∷ []) before.received after.received (grows_as _ _ before.received after.received (ap (λ r. receipt_of legs.Calling buffer r ∷ []) is) grew)

-- it was asked
pub asks : (buffer : List ℕ) (r : Result (Option ℕ) WireFault) (before after : KnownWire) → Grows (receipt_of legs.Calling buffer r ∷ []) before.received after.received → HasAsked before after
asks buffer (Ok None) before after grew = record { receipt = Nothing legs.Calling (length buffer); calling = refl; grew = grew }
asks buffer (Ok (Some count)) before after grew = record { receipt = Came legs.Calling (length buffer) (take count buffer); calling = refl; grew = grew }
asks buffer (Err fault) before after grew = record { receipt = Failed legs.Calling (length buffer); calling = refl; grew = grew }

-- a send
pub end_sends : (octets : List ℕ) (before after : KnownWire) → Grows (record { leg = legs.Calling; octets = octets } ∷ []) before.sent after.sent
    → Grows (octets ∷ []) (traffic_of before).sent (traffic_of after).sent
end_sends octets before after grew = grows_through octets_sent sent_joins (record { leg = legs.Calling; octets = octets } ∷ []) before.sent after.sent grew
