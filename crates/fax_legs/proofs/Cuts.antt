-- How many packets before its own a datagram keeps.
use Rattle.std.proofs.Common.{◌≡◌, ◌⊎◌, ℕ, zero, suc, ◌+◌, ◌-◌, ◌<◌, ◌≤◌, Bool, true, false, List, [], ◌∷◌, length, take, Option, None, Some, Result, Ok, Err, inl, inr, refl, sym, subst, ap, ◌∙◌, arith, if◌then◌else◌, length-append}
use Rattle.std.specs.Prelude.{nat_le, ◌&&◌, flat_map, IfSome, IsSomeAnd}
use Rattle.std.specs.List.{AllByRecursion}
use Rattle.std.specs.Cmp.Lexicographic.{bytes_decides, same_text}
use Rattle.fax_gateway.specs.Wires.{buffer_octets}
use Rattle.fax_wires.specs.repeat.Repeats.{same_octets}
use Rattle.fax_udptl.specs.declared.fault.UdptlFault.{UdptlFault}
use Rattle.fax_udptl.specs.Datagrams.{DatagramValue, datagram_of, written_datagram, written_packet}
use Rattle.fax_udptl.proofs.WrittenLemmas.{datagram_back, datagram_size_is, long_packet_size, packets_size, short_packet_size}
use Rattle.fax_legs.specs.Bounding.{are_short, cut_as, fewer, fitting, is_sendable, kept, most_octets, own_octets, sent_as}
use Rattle.fax_legs.specs.BoundingLaws.{IsCut, IsSendable}
use Rattle.fax_legs.specs.declared.bounding.Limits.{Limits}
use Rattle.fax_legs.proofs.Bounds.{both_first, both_second, cut_written, gt_so, le_so, le_true, sendable_few, sendable_primary, sendable_short, take_few, take_size}

-- what fits is no more than there may be
pub fit_within : (most room : ℕ) (ps : List (List ℕ)) → fitting most room ps ≤ most
unfolding fitting
fit_within zero room ps = omega arith
fit_within (suc most) room [] = omega arith
fit_within (suc most) room (p ∷ ps) = by (nat_le (length (written_packet p)) room) (fit_within most (room - length (written_packet p)) ps)
  where
    by : (b : Bool) → fitting most (room - length (written_packet p)) ps ≤ most → (if b then suc (fitting most (room - length (written_packet p)) ps) else 0) ≤ suc most
    by true less = omega (arith, less)
    by false less = omega arith

pub fit_size : (most room : ℕ) (ps : List (List ℕ)) → packets_size (take (fitting most room ps) ps) ≤ room
unfolding fitting
fit_size zero room ps = omega arith
fit_size (suc most) room [] = omega arith
fit_size (suc most) room (p ∷ ps) = by (nat_le (length (written_packet p)) room) refl (fit_size most (room - length (written_packet p)) ps)
  where
    by : (b : Bool) → nat_le (length (written_packet p)) room ≡ b
        → packets_size (take (fitting most (room - length (written_packet p)) ps) ps) ≤ room - length (written_packet p) → packets_size (take (if b then suc (fitting most (room - length (written_packet p)) ps) else 0) (p ∷ ps)) ≤ room
    by true e less =
        omega (arith, le_so (length (written_packet p)) room e, less, length-append (written_packet p) (flat_map written_packet (take (fitting most (room - length (written_packet p)) ps) ps)))
    by false e less = omega arith

-- and with one more there is no room
pub fit_greatest : (most room : ℕ) (ps : List (List ℕ)) (more : ℕ) → fitting most room ps < more → more ≤ most → more ≤ length ps → room < packets_size (take more ps)
unfolding fitting
fit_greatest zero room ps more h few there = absurd (omega arith)
fit_greatest (suc most) room [] more h few there = absurd (omega arith)
fit_greatest (suc most) room (p ∷ ps) zero h few there = absurd (omega arith)
fit_greatest (suc most) room (p ∷ ps) (suc more) h few there =
    by (nat_le (length (written_packet p)) room) refl h (λ less. fit_greatest most (room - length (written_packet p)) ps more less (omega arith) (omega arith))
  where
    by : (b : Bool) → nat_le (length (written_packet p)) room ≡ b → (if b then suc (fitting most (room - length (written_packet p)) ps) else 0) < suc more
        → (fitting most (room - length (written_packet p)) ps < more → room - length (written_packet p) < packets_size (take more ps)) → room < packets_size (take (suc more) (p ∷ ps))
    by true e less others =
        omega (arith, le_so (length (written_packet p)) room e, others (omega (arith, less)), length-append (written_packet p) (flat_map written_packet (take more ps)))
    by false e less others = omega (arith, gt_so (length (written_packet p)) room e, length-append (written_packet p) (flat_map written_packet (take more ps)))

-- how many octets a datagram has with so many secondaries
pub fewer_size_is : (n : ℕ) (d : DatagramValue) → length d.secondaries < 128 → own_octets d + packets_size (take n d.secondaries) ≡ length (written_datagram (fewer n d))
fewer_size_is n d few =
    let less = take_few n d.secondaries in
    omega (arith, datagram_size_is d.number d.primary (take n d.secondaries) (omega (arith, less)))

-- short packets
pub all_short : (ps : List (List ℕ)) → are_short ps ≡ true → AllByRecursion (λ p. length p ≤ 16383) ps
all_short [] h = tt
all_short (p ∷ ps) h = (le_so (length p) 16383 (both_first (nat_le (length p) 16383) (are_short ps) h), all_short ps (both_second (nat_le (length p) 16383) (are_short ps) h))

pub short_front : (n : ℕ) (ps : List (List ℕ)) → are_short ps ≡ true → AllByRecursion (λ p. length p ≤ 16383) (take n ps)
short_front zero ps h = tt
short_front (suc n) [] h = tt
short_front (suc n) (p ∷ ps) h = (le_so (length p) 16383 (both_first (nat_le (length p) 16383) (are_short ps) h), short_front n ps (both_second (nat_le (length p) 16383) (are_short ps) h))

-- a datagram is read as itself, and with fewer secondaries
pub read_back : (d : DatagramValue) → IsSendable d → datagram_of (written_datagram d) ≡ Ok d
read_back d s =
    let few = sendable_few d s.sendable in
    datagram_back d s.number (sendable_primary d s.sendable) (all_short d.secondaries (sendable_short d s.sendable)) (omega (arith, few))

pub read_fewer : (n : ℕ) (d : DatagramValue) → IsSendable d → datagram_of (written_datagram (fewer n d)) ≡ Ok (fewer n d)
read_fewer n d s =
    let few = sendable_few d s.sendable in
    let less = take_few n d.secondaries in
    datagram_back (fewer n d) s.number (sendable_primary d s.sendable) (short_front n d.secondaries (sendable_short d s.sendable)) (omega (arith, few, less))

-- as it is sent
pub sent_is : (limits : Limits) (d : DatagramValue) → IsSendable d → sent_as limits (written_datagram d) ≡ written_datagram (fewer (kept limits (length (written_datagram d)) d) d)
sent_is limits d s =
    ap (λ (b : Bool). if b then cut_as limits (written_datagram d) (datagram_of (written_datagram d)) else written_datagram d) (le_true (length (written_datagram d)) buffer_octets s.size)
    ∙ ap (λ (r : Result DatagramValue UdptlFault). cut_as limits (written_datagram d) r) (read_back d s)
    ∙ sym (cut_written limits (written_datagram d) d s.sendable ((bytes_decides (written_datagram d) (written_datagram d)).1 refl))

-- what fits has room, and a packet has octets
least : (p : List ℕ) → 0 < length (written_packet p)
least p = by (nat_le 128 (length p)) refl
  where
    by : (b : Bool) → nat_le 128 (length p) ≡ b → 0 < length (written_packet p)
    by true e = omega (arith, long_packet_size p (le_so 128 (length p) e))
    by false e = omega (arith, short_packet_size p (gt_so 128 (length p) e))

fit_some : (most room : ℕ) (ps : List (List ℕ)) → 0 < fitting most room ps → 0 < room
unfolding fitting
fit_some zero room ps h = absurd (omega arith)
fit_some (suc most) room [] h = absurd (omega arith)
fit_some (suc most) room (p ∷ ps) h = by (nat_le (length (written_packet p)) room) refl h
  where
    by : (b : Bool) → nat_le (length (written_packet p)) room ≡ b → 0 < (if b then suc (fitting most (room - length (written_packet p)) ps) else 0) → 0 < room
    by true e some = omega (arith, le_so (length (written_packet p)) room e, least p)
    by false e some = absurd (omega arith)

-- within its bound, where it keeps any
within_by : (o : Option ℕ) (redundancy : ℕ) (d : DatagramValue) → length d.secondaries < 128 → (n : ℕ)
    → n ≡ fitting redundancy (most_octets o (length (written_datagram d)) - own_octets d) d.secondaries → IfSome o (λ most. (length (written_datagram (fewer n d)) ≤ most) ⊎ (n ≡ 0))
within_by None redundancy d few n is = tt
within_by (Some most) redundancy d few zero is = inr refl
within_by (Some most) redundancy d few (suc m) is =
    let size : packets_size (take (suc m) d.secondaries) ≤ most - own_octets d =
    subst (λ (k : ℕ). packets_size (take k d.secondaries) ≤ most - own_octets d) (sym is) (fit_size redundancy (most - own_octets d) d.secondaries) in
    let some : 0 < most - own_octets d = fit_some redundancy (most - own_octets d) d.secondaries (omega (arith, is)) in
    inl (omega (arith, size, some, fewer_size_is (suc m) d few))

-- with each more it would have too many octets
greatest_by : (o : Option ℕ) (redundancy : ℕ) (d : DatagramValue) → length d.secondaries < 128 → (n : ℕ)
    → n ≡ fitting redundancy (most_octets o (length (written_datagram d)) - own_octets d) d.secondaries → (more : ℕ) → n < more → more ≤ redundancy → more ≤ length d.secondaries
    → IsSomeAnd o (λ most. most < length (written_datagram (fewer more d)))
greatest_by None redundancy d few n is more less h k =
    let none : length (written_datagram d) - own_octets d < packets_size (take more d.secondaries) =
    fit_greatest redundancy (length (written_datagram d) - own_octets d) d.secondaries more (omega (arith, is, less)) h k in
    absurd (omega (arith, none, take_size more d.secondaries, datagram_size_is d.number d.primary d.secondaries few))
greatest_by (Some most) redundancy d few n is more less h k =
    let none : most - own_octets d < packets_size (take more d.secondaries) = fit_greatest redundancy (most - own_octets d) d.secondaries more (omega (arith, is, less)) h k in
    omega (arith, none, fewer_size_is more d few)

pub are_cut : (limits : Limits) (d : DatagramValue) → IsSendable d → IsCut limits d (sent_as limits (written_datagram d))
are_cut limits d s =
    let few = sendable_few d s.sendable in
    record {
      kept = kept limits (length (written_datagram d)) d;
      sent_is = sent_is limits d s;
      read_as = ap datagram_of (sent_is limits d s) ∙ read_fewer (kept limits (length (written_datagram d)) d) d s;
      few = fit_within limits.redundancy (most_octets limits.octets (length (written_datagram d)) - own_octets d) d.secondaries;
      within = subst (λ (os : List ℕ). IfSome limits.octets (λ most. (length os ≤ most) ⊎ (kept limits (length (written_datagram d)) d ≡ 0))) (sym (sent_is limits d s))
          (within_by limits.octets limits.redundancy d few (kept limits (length (written_datagram d)) d) refl);
      greatest = λ more less h k. greatest_by limits.octets limits.redundancy d few (kept limits (length (written_datagram d)) d) refl more less h k;
    }

alone_else : (limits : Limits) (most : ℕ) (d : DatagramValue) (sent : List ℕ) (n : ℕ) → sent ≡ written_datagram (fewer n d)
    → (length (written_datagram (fewer n d)) ≤ most) ⊎ (n ≡ 0) → (length sent ≤ most) ⊎ (sent ≡ written_datagram (fewer 0 d))
alone_else limits most d sent n e (inl h) = inl (omega (arith, ap length e, h))
alone_else limits most d sent n e (inr z) = inr (e ∙ ap (λ (k : ℕ). written_datagram (fewer k d)) z)

pub not_too_long : (limits : Limits) (most : ℕ) (d : DatagramValue) → limits.octets ≡ Some most → IsSendable d
    → (length (sent_as limits (written_datagram d)) ≤ most) ⊎ (sent_as limits (written_datagram d) ≡ written_datagram (fewer 0 d))
not_too_long limits most d e s =
    let within : IfSome (Some most) (λ m. (length (written_datagram (fewer (kept limits (length (written_datagram d)) d) d)) ≤ m) ⊎ (kept limits (length (written_datagram d)) d ≡ 0)) =
    subst (λ (o : Option ℕ). IfSome o (λ m. (length (written_datagram (fewer (kept limits (length (written_datagram d)) d) d)) ≤ m) ⊎ (kept limits (length (written_datagram d)) d ≡ 0))) e
    (within_by limits.octets limits.redundancy d (sendable_few d s.sendable) (kept limits (length (written_datagram d)) d) refl) in
    alone_else limits most d (sent_as limits (written_datagram d)) (kept limits (length (written_datagram d)) d) (sent_is limits d s) within

-- octets that no sender sends
as_they_are : (octets : List ℕ) (d : DatagramValue) (cut : List ℕ) (a b : Bool) → is_sendable d ≡ a → same_octets octets (written_datagram d) ≡ b
    → (is_sendable d ≡ true → octets ≡ written_datagram d → ⊥) → (if a && b then cut else octets) ≡ octets
as_they_are octets d cut true true h k none = absurd (none h (same_text octets (written_datagram d) (sym k)))
as_they_are octets d cut true false h k none = refl
as_they_are octets d cut false b h k none = refl

pub others_go : (limits : Limits) (octets : List ℕ) → ((d : DatagramValue) → is_sendable d ≡ true → octets ≡ written_datagram d → ⊥) → sent_as limits octets ≡ octets
others_go limits octets none = by (nat_le (length octets) buffer_octets)
  where
    read : (r : Result DatagramValue UdptlFault) → cut_as limits octets r ≡ octets
    read (Err fault) = refl
    read (Ok d) =
        as_they_are octets d (written_datagram (fewer (kept limits (length octets) d) d)) (is_sendable d) (same_octets octets (written_datagram d)) refl refl (none d)

    by : (b : Bool) → (if b then cut_as limits octets (datagram_of octets) else octets) ≡ octets
    by true = read (datagram_of octets)
    by false = refl
