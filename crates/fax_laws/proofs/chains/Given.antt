-- Each of these datagrams is read as the one that a sender of the packets sends at its place.
use Rattle.std.proofs.Common.{◌≡◌, ℕ, zero, suc, List, [], ◌∷◌, ◌++◌, length, reverse, slice_get, Option, Some, None, Result, Ok, ◌⊎◌, inl, inr, refl, sym, ◌∙◌, ap, subst}
use Rattle.std.proofs.lemmas.Grind.{reverse_onto}
use Rattle.std.proofs.lemmas.List.{length-reverse}
use Rattle.fax_udptl.specs.declared.fault.UdptlFault.{UdptlFault}
use Rattle.fax_udptl.specs.Datagrams.{DatagramValue, datagram_of}
use Rattle.fax_udptl.specs.Sending.{AreShort, datagram_for}
use Rattle.fax_udptl.specs.Schedules.{IsSentAt}
use Rattle.fax_udptl.proofs.Honest.{senders_send_their_list}
use Rattle.fax_gateway.specs.Setups.{Setup}
use Rattle.fax_gateway.specs.Legs.{sent}
use Rattle.fax_gateway.proofs.Fitting.{sent_back}
use Rattle.fax_laws.specs.chains.Given.{CallsGiveTheirPackets, GivesItsPackets, NoneIsGivenBeforeACall, ReadsAsSent, octets_given, packet_in, packets_in}
use Rattle.fax_laws.proofs.chains.Octets.{datagrams_of, leg_given, leg_short, none_given}

-- ---- the one at a place
pub none_some : {A : Type 0} (x : A) → ◌≡◌ {A = Option A} None (Some x) → ⊥
none_some x e = cc

same_some : {A : Type 0} (x y : A) → Some x ≡ Some y → x ≡ y
same_some x y e = cc

pub last_or_before : {A : Type 0} (xs : List A) (x y : A) (n : ℕ) → slice_get (xs ++ x ∷ []) n ≡ Some y → (slice_get xs n ≡ Some y) ⊎ ((n ≡ length xs) × (x ≡ y))
last_or_before [] x y zero e = inr (refl, same_some x y e)
last_or_before [] x y (suc n) e = absurd (none_some y e)
last_or_before (first ∷ xs) x y zero e = inl e
last_or_before {A} (first ∷ xs) x y (suc n) e = by (last_or_before xs x y n e)
  where
    by : (slice_get xs n ≡ Some y) ⊎ ((n ≡ length xs) × (x ≡ y)) → (slice_get (first ∷ xs) (suc n) ≡ Some y) ⊎ ((suc n ≡ suc (length xs)) × (x ≡ y))
    by (inl h) = inl h
    by (inr h) = inr (ap (λ (k : ℕ). suc k) h.0, h.1)

pub one_more : (xs : List (List ℕ)) (x : List ℕ) → reverse (x ∷ xs) ≡ reverse xs ++ x ∷ []
one_more xs x = reverse_onto xs x []

record IsMade (setup : Setup) (given : List (List ℕ)) (place : ℕ) (octets : List ℕ) : Type 0 where
  later : List (List ℕ)
  packet : List ℕ
  older : List (List ℕ)
  given_is : given ≡ later ++ packet ∷ older
  octets_are : sent setup older packet ≡ octets
  place_is : length older ≡ place

pub datagrams_many : (setup : Setup) (given : List (List ℕ)) → length (datagrams_of setup given) ≡ length given
datagrams_many setup [] = refl
datagrams_many setup (packet ∷ given) = ap (λ (n : ℕ). suc n) (datagrams_many setup given)

is_made : (setup : Setup) (given : List (List ℕ)) (place : ℕ) (octets : List ℕ) → slice_get (reverse (datagrams_of setup given)) place ≡ Some octets → IsMade setup given place octets
is_made setup [] place octets e = absurd (none_some octets e)
is_made setup (packet ∷ older) place octets e =
    by (λ h. is_made setup older place octets h)
    (last_or_before (reverse (datagrams_of setup older)) (sent setup older packet) octets place
    (subst (λ (xs : List (List ℕ)). slice_get xs place ≡ Some octets) (one_more (datagrams_of setup older) (sent setup older packet)) e))
  where
    many : length (reverse (datagrams_of setup older)) ≡ length older
    many = length-reverse (datagrams_of setup older) ∙ datagrams_many setup older

    by : (slice_get (reverse (datagrams_of setup older)) place ≡ Some octets → IsMade setup older place octets)
        → (slice_get (reverse (datagrams_of setup older)) place ≡ Some octets) ⊎ ((place ≡ length (reverse (datagrams_of setup older))) × (sent setup older packet ≡ octets)) → IsMade setup (packet ∷ older) place octets
    by deeper (inl h) =
        let m : IsMade setup older place octets = deeper h in
        record { later = packet ∷ m.later; packet = m.packet; older = m.older; given_is = ap (λ (xs : List (List ℕ)). packet ∷ xs) m.given_is; octets_are = m.octets_are; place_is = m.place_is }
    by deeper (inr h) = record { later = []; packet = packet; older = older; given_is = refl; octets_are = h.1; place_is = sym (h.0 ∙ many) }

after_short : (later more : List (List ℕ)) → AreShort (later ++ more) → AreShort more
after_short [] more s = s
after_short (x ∷ later) more s = after_short later more s.1

pub reads_as_sent : (setup : Setup) (given : List (List ℕ)) (place : ℕ) (octets : List ℕ) → AreShort given → slice_get (reverse (datagrams_of setup given)) place ≡ Some octets → ReadsAsSent (reverse given) place octets
reads_as_sent setup given place octets short e =
    let m : IsMade setup given place octets = is_made setup given place octets e in
    let made : DatagramValue = datagram_for setup.redundancy m.older m.packet in
    let own : AreShort (m.packet ∷ m.older) = after_short m.later (m.packet ∷ m.older) (subst AreShort m.given_is short) in
    record {
      datagram = made;
      is = subst (λ (x : List ℕ). datagram_of x ≡ Ok made) m.octets_are (sent_back setup m.older m.packet own.1 own.0);
      sent =
          subst (λ (n : ℕ). IsSentAt (reverse given) n made) m.place_is
          (subst (λ (xs : List (List ℕ)). IsSentAt (reverse xs) (length m.older) made) (sym m.given_is) (senders_send_their_list setup.redundancy m.later m.packet m.older setup.few));
    }

-- ---- the packets are read off them
own_packet : (r : Result DatagramValue UdptlFault) (d : DatagramValue) → r ≡ Ok d → packet_in r ≡ d.primary ∷ []
own_packet r d e = ap packet_in e

packets_back : (setup : Setup) (given : List (List ℕ)) → AreShort given → packets_in (datagrams_of setup given) ≡ given
packets_back setup [] s = refl
packets_back setup (packet ∷ older) s =
    ap (λ (xs : List (List ℕ)). xs ++ packets_in (datagrams_of setup older)) (own_packet (datagram_of (sent setup older packet)) (datagram_for setup.redundancy older packet) (sent_back setup older packet s.1 s.0))
    ∙ ap (λ (xs : List (List ℕ)). packet ∷ xs) (packets_back setup older s.1)

pub calls_give_their_packets : CallsGiveTheirPackets
calls_give_their_packets setup writes trace leg t is =
    let octets_are : octets_given setup writes trace ≡ datagrams_of setup leg.given = leg_given setup writes trace leg t is in
    let short : AreShort leg.given = leg_short setup writes trace leg t is in
    subst (λ (xs : List (List ℕ)). GivesItsPackets xs leg) (sym octets_are)
    (record { each = λ place octets e. reads_as_sent setup leg.given place octets short e; many = datagrams_many setup leg.given; packets = packets_back setup leg.given short })

pub none_before : NoneIsGivenBeforeACall
none_before setup writes trace t is = none_given setup writes trace t is
