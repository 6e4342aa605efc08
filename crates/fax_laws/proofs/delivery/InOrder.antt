-- Datagrams that come once and in order: each brings its packet, and nothing else.
use Rattle.std.proofs.Common.{◌≡◌, ℕ, zero, suc, ◌+◌, ◌-◌, ◌%◌, ◌<◌, ◌≤◌, max, nat_le, is_some, Bool, true, false, List, [], ◌∷◌, ◌++◌, length, reverse, Option, Some, None, Ok, refl, ◌∙◌, ap, arith, if◌then◌else◌, slice_get}
use Rattle.std.specs.Prelude.{filter_map}
use Rattle.std.specs.List.{cons_option}
use Rattle.std.proofs.lemmas.List.{reverse-append}
use Rattle.fax_udptl.specs.Datagrams.{DatagramValue, datagram_of}
use Rattle.fax_udptl.specs.Sending.{AreShort, datagram_for}
use Rattle.fax_udptl.specs.Slots.{nearest, IsNearest, greatest, integer_after, said_of, decision, integers_from, slots, newest_slots}
use Rattle.fax_udptl.proofs.SlotLemmas.{is_nearest, decided_below, decided_now, slots_go_on}
use Rattle.fax_gateway.specs.Setups.{Setup}
use Rattle.fax_gateway.specs.Legs.{sent}
use Rattle.fax_gateway.proofs.Fitting.{sent_back}

-- the datagrams of packets that were given, each with some before it
abbrev pub datagrams_in : ℕ → List (List ℕ) → List DatagramValue
datagrams_in redundancy [] = []
datagrams_in redundancy (packet ∷ given) = datagram_for redundancy given packet ∷ datagrams_in redundancy given

-- the next number is nearest to the next integer
near : (g n m : ℕ) → g ≡ 65536 + n → m ≡ (n + 1) % 65536 → nearest (g + 1) m ≡ g + 1
near g n m is number =
    let r : IsNearest (g + 1) m (nearest (g + 1) m) = is_nearest (g + 1) m (omega arith) (omega arith) in
    by (nearest (g + 1) m) r.agrees r.above r.below
  where
    by : (x : ℕ) → x % 65536 ≡ m → g + 1 ≤ x + 32768 → x ≤ g + 1 + 32767 → x ≡ g + 1
    by x a b c = omega arith

next_number : (q : List ℕ) (given : List (List ℕ)) → length (q ∷ given) % 65536 ≡ (length given + 1) % 65536
next_number q given = let e : length (q ∷ given) ≡ length given + 1 = omega arith in ap (λ (n : ℕ). n % 65536) e

pub greatest_is : (redundancy : ℕ) (given : List (List ℕ)) (packet : List ℕ) → greatest (datagrams_in redundancy (packet ∷ given)) ≡ 65536 + length given
greatest_is redundancy [] packet = refl
greatest_is redundancy (q ∷ given) packet =
    let g : ℕ = greatest (datagrams_in redundancy (q ∷ given)) in
    let before : greatest (datagrams_in redundancy (q ∷ given)) ≡ 65536 + length given = greatest_is redundancy given q in
    let now : nearest (greatest (datagrams_in redundancy (q ∷ given)) + 1) (length (q ∷ given) % 65536) ≡ greatest (datagrams_in redundancy (q ∷ given)) + 1 =
    near (greatest (datagrams_in redundancy (q ∷ given))) (length given) (length (q ∷ given) % 65536) before (next_number q given) in
    ap (λ (n : ℕ). max n (greatest (datagrams_in redundancy (q ∷ given)))) now ∙ by (greatest (datagrams_in redundancy (q ∷ given))) before
  where
    by : (g : ℕ) → g ≡ 65536 + length given → max (g + 1) g ≡ 65536 + length (q ∷ given)
    by g e = let more : length (q ∷ given) ≡ length given + 1 = omega arith in omega arith

le_false : (m n : ℕ) → n < m → nat_le m n ≡ false
le_false m n h = grind (arith)

le_true : (m n : ℕ) → m ≤ n → nat_le m n ≡ true
le_true m n h = grind (arith)

-- the slot of the next datagram is its own packet
next_said : (d e : DatagramValue) (earlier : List DatagramValue) → integer_after (e ∷ earlier) d ≡ greatest (e ∷ earlier) + 1 → decision (d ∷ e ∷ earlier) (greatest (e ∷ earlier) + 1) ≡ Some (Some d.primary)
next_said d e earlier is =
    let g : ℕ = greatest (e ∷ earlier) in
    let k : ℕ = greatest (e ∷ earlier) + 1 in
    let undecided : is_some (decision (e ∷ earlier) k) ≡ false = decided_below e earlier k ∙ le_false (greatest (e ∷ earlier) + 1) (greatest (e ∷ earlier)) (omega arith) in
    let none : k - k ≡ 0 = omega arith in
    ap (λ (b : Bool). if◌then◌else◌ {A = Option (Option (List ℕ))} b (decision (e ∷ earlier) k) (if nat_le k (integer_after (e ∷ earlier) d) then Some (said_of (integer_after (e ∷ earlier) d) d k) else None)) undecided
    ∙ ap (λ (x : ℕ). if◌then◌else◌ {A = Option (Option (List ℕ))} (nat_le k x) (Some (said_of x d k)) None) is
    ∙ ap (λ (b : Bool). if◌then◌else◌ {A = Option (Option (List ℕ))} b (Some (said_of k d k)) None) (le_true (greatest (e ∷ earlier) + 1) (greatest (e ∷ earlier) + 1) (omega arith))
    ∙ ap (λ (n : ℕ). Some (slice_get (d.primary ∷ d.secondaries) n)) none

decided_one : (d e : DatagramValue) (earlier : List DatagramValue) → integer_after (e ∷ earlier) d ≡ greatest (e ∷ earlier) + 1 → greatest (d ∷ e ∷ earlier) ≡ greatest (e ∷ earlier) + 1
    → decided_now d (e ∷ earlier) ≡ Some d.primary ∷ []
decided_one d e earlier is most =
    let one : greatest (d ∷ e ∷ earlier) - greatest (e ∷ earlier) ≡ 1 = omega (arith, most) in
    ap (λ (n : ℕ). filter_map (decision (d ∷ e ∷ earlier)) (integers_from (greatest (e ∷ earlier) + 1) n)) one
    ∙ ap (λ (o : Option (Option (List ℕ))). cons_option o []) (next_said d e earlier is)

first_one : (redundancy : ℕ) (packet : List ℕ) → newest_slots (datagrams_in redundancy (packet ∷ [])) ≡ Some packet ∷ newest_slots []
unfolding newest_slots slots
first_one zero packet = refl
first_one (suc n) packet = refl

pub newest_is : (redundancy : ℕ) (given : List (List ℕ)) (packet : List ℕ) → newest_slots (datagrams_in redundancy (packet ∷ given)) ≡ Some packet ∷ newest_slots (datagrams_in redundancy given)
unfolding newest_slots
newest_is redundancy [] packet = first_one redundancy packet
newest_is redundancy (q ∷ given) packet =
    let d : DatagramValue = datagram_for redundancy (q ∷ given) packet in
    let e : DatagramValue = datagram_for redundancy given q in
    let earlier : List DatagramValue = datagrams_in redundancy given in
    let before : greatest (datagrams_in redundancy (q ∷ given)) ≡ 65536 + length given = greatest_is redundancy given q in
    let after : greatest (datagrams_in redundancy (packet ∷ q ∷ given)) ≡ 65536 + length (q ∷ given) = greatest_is redundancy (q ∷ given) packet in
    let more : length (q ∷ given) ≡ length given + 1 = omega arith in
    let most : greatest (d ∷ e ∷ earlier) ≡ greatest (e ∷ earlier) + 1 = after ∙ by (greatest (datagrams_in redundancy (q ∷ given))) before in
    let is : integer_after (e ∷ earlier) d ≡ greatest (e ∷ earlier) + 1 =
    near (greatest (datagrams_in redundancy (q ∷ given))) (length given) (length (q ∷ given) % 65536) before (next_number q given) in
    ap reverse (slots_go_on d e earlier)
    ∙ ap (λ (ss : List (Option (List ℕ))). reverse (slots (e ∷ earlier) ++ ss)) (decided_one d e earlier is most)
    ∙ reverse-append (slots (e ∷ earlier)) (Some packet ∷ [])
  where
    by : (g : ℕ) → g ≡ 65536 + length given → 65536 + length (q ∷ given) ≡ g + 1
    by g e = let more : length (q ∷ given) ≡ length given + 1 = omega arith in omega arith

-- a datagram that is sent is read back
pub read_back : (setup : Setup) (given : List (List ℕ)) (packet : List ℕ) → AreShort (packet ∷ given) → datagram_of (sent setup given packet) ≡ Ok (datagram_for setup.redundancy given packet)
read_back setup given packet s = sent_back setup given packet s.1 s.0
