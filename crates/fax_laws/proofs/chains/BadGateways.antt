-- THREE BAD GATEWAYS, for each of which the law is false: what each gives in a call of these packets.
use Rattle.std.proofs.Common.{◌≡◌, ℕ, List, [], ◌∷◌, length, Option, Some, None, Ok, refl, sym, ◌∙◌, ap, arith, slice_get}
use Rattle.fax_udptl.specs.Datagrams.{DatagramValue, datagram_of, packet_at, packets_at, length_at, secondaries_at}
use Rattle.fax_laws.specs.chains.Given.{ReadsAsSent}

packets : List (List ℕ)
packets = (0x02 ∷ []) ∷ (0x06 ∷ []) ∷ (0x0A ∷ []) ∷ []

read_once : (octets : List ℕ) (d e : DatagramValue) → datagram_of octets ≡ Ok d → datagram_of octets ≡ Ok e → d ≡ e
read_once octets d e a b = cc

first_octet : Option (List ℕ) → ℕ
first_octet None = 0
first_octet (Some []) = 0
first_octet (Some (octet ∷ octets)) = octet

-- its numbers go on from the call before
numbers_go_on : List ℕ
numbers_go_on = 0x00 ∷ 0x05 ∷ 0x01 ∷ 0x02 ∷ 0x00 ∷ 0x00 ∷ []

numbers_go_on_is : datagram_of numbers_go_on ≡ Ok (record { number = 5; primary = 0x02 ∷ []; secondaries = [] })
unfolding numbers_go_on datagram_of packet_at packets_at length_at secondaries_at
numbers_go_on_is = refl

no_number_of_before : ReadsAsSent packets 0 numbers_go_on → ⊥
no_number_of_before r =
    let d : DatagramValue = record { number = 5; primary = 0x02 ∷ []; secondaries = [] } in
    let same : d ≡ r.datagram = read_once numbers_go_on d r.datagram numbers_go_on_is r.is in
    let number : 5 ≡ 0 = ap (λ (x : DatagramValue). x.number) same ∙ r.sent.number in omega (arith, number)

-- each datagram has the packet before its own
one_late : List ℕ
one_late = 0x00 ∷ 0x01 ∷ 0x01 ∷ 0x02 ∷ 0x00 ∷ 0x00 ∷ []

one_late_is : datagram_of one_late ≡ Ok (record { number = 1; primary = 0x02 ∷ []; secondaries = [] })
unfolding one_late datagram_of packet_at packets_at length_at secondaries_at
one_late_is = refl

no_packet_of_before : ReadsAsSent packets 1 one_late → ⊥
unfolding packets first_octet
no_packet_of_before r =
    let d : DatagramValue = record { number = 1; primary = 0x02 ∷ []; secondaries = [] } in
    let same : d ≡ r.datagram = read_once one_late d r.datagram one_late_is r.is in
    let primary : ◌≡◌ {A = Option (List ℕ)} (Some (0x06 ∷ [])) (Some (0x02 ∷ [])) = r.sent.primary ∙ ap (λ (x : DatagramValue). Some x.primary) (sym same) in
    let six : 6 ≡ 2 = ap first_octet primary in omega (arith, six)

-- the packets before its own stand in the order in which they were sent
oldest_first : List ℕ
oldest_first = 0x00 ∷ 0x02 ∷ 0x01 ∷ 0x0A ∷ 0x00 ∷ 0x02 ∷ 0x01 ∷ 0x02 ∷ 0x01 ∷ 0x06 ∷ []

oldest_first_is : datagram_of oldest_first ≡ Ok (record { number = 2; primary = 0x0A ∷ []; secondaries = (0x02 ∷ []) ∷ (0x06 ∷ []) ∷ [] })
unfolding oldest_first datagram_of packet_at packets_at length_at secondaries_at
oldest_first_is = refl

no_order_of_sending : ReadsAsSent packets 2 oldest_first → ⊥
unfolding packets first_octet
no_order_of_sending r =
    let d : DatagramValue = record { number = 2; primary = 0x0A ∷ []; secondaries = (0x02 ∷ []) ∷ (0x06 ∷ []) ∷ [] } in
    let same : d ≡ r.datagram = read_once oldest_first d r.datagram oldest_first_is r.is in
    let two : 2 ≡ length r.datagram.secondaries = ap (λ (x : DatagramValue). length x.secondaries) same in
    let nearest : ◌≡◌ {A = Option (List ℕ)} (Some (0x02 ∷ [])) (Some (0x06 ∷ [])) = ap (λ (x : DatagramValue). slice_get x.secondaries 0) same ∙ r.sent.secondaries 0 (omega arith) in
    let two_is : 2 ≡ 6 = ap first_octet nearest in omega (arith, two_is)
