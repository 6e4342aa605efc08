-- Over every honest schedule the slots are a part of the sender's list, with losses.
use Rattle.std.proofs.Common.{◌≡◌, ℕ, zero, suc, ◌+◌, ◌-◌, ◌*◌, ◌/◌, ◌%◌, ◌<◌, ◌≤◌, Bool, true, false, nat_le, is_some, List, [], ◌∷◌, ◌++◌, length, reverse, take, Option, Some, None, ◌⊎◌, inl, inr, refl, sym, ◌∙◌, ap, subst, arith, if◌then◌else◌, slice_get}
use Rattle.std.specs.Prelude.{filter_map}
use Rattle.std.specs.List.{cons_option}
use mathlib.Core.List.{reverse_aux}
use Rattle.std.proofs.lemmas.Option.{slice_get_within}
use Rattle.fax_bits.specs.Losses.{IsPacketAt, AreSlotsBefore}
use Rattle.fax_udptl.specs.Datagrams.{DatagramValue}
use Rattle.fax_udptl.specs.Slots.{nearest, IsNearest, greatest, integer_after, said_of, decision, first_slot, integers_from, slots, newest_slots}
use Rattle.fax_udptl.specs.Schedules.{IsSentAt, Arrival, datagrams, greatest_place, IsNear, IsHonest, BeginsAtFirst, IsShifted, SlotsAreSent, SlotsAreAPart, SendersSendTheirList}
use Rattle.fax_udptl.specs.Sending.{datagram_for}
use Rattle.fax_udptl.proofs.SlotLemmas.{is_nearest, decided_below, first_is_near}

same_integer : (e number x y : ℕ) → IsNearest e number x → IsNearest e number y → x ≡ y
same_integer e number x y a b =
    let p : x % 65536 ≡ number = a.agrees in
    let q : y % 65536 ≡ number = b.agrees in
    let l0 : e ≤ x + 32768 = a.above in
    let l1 : x ≤ e + 32767 = a.below in
    let m0 : e ≤ y + 32768 = b.above in
    let m1 : y ≤ e + 32767 = b.below in omega arith

only_nearest : (e number x : ℕ) → 65536 ≤ e → number < 65536 → IsNearest e number x → x ≡ nearest e number
only_nearest e number x h n a = same_integer e number x (nearest e number) a (is_nearest e number h n)

-- integers and places differ by one multiple of 65,536, and no slot lies before the list
record Agrees (arrivals : List Arrival) (q : ℕ) : Type 0 where
  same : greatest (datagrams arrivals) + 65536 * q ≡ greatest_place arrivals + 65536
  far : 65536 ≤ greatest (datagrams arrivals)
  in_list : 65536 ≤ first_slot (datagrams arrivals) + 65536 * q
  begun : BeginsAtFirst arrivals → first_slot (datagrams arrivals) + 65536 * q ≡ 65536

-- the newest one's integer
at_place : (packets : List (List ℕ)) (a b : Arrival) (earlier : List Arrival) (q : ℕ) → IsSentAt packets a.place a.datagram → IsNear (b ∷ earlier) a.place → Agrees (b ∷ earlier) q
    → integer_after (datagrams (b ∷ earlier)) a.datagram + 65536 * q ≡ a.place + 65536
at_place packets a b earlier q s n g =
    let e : ℕ = greatest (datagrams (b ∷ earlier)) + 1 in
    let big : ℕ = greatest_place (b ∷ earlier) in
    let h : greatest (datagrams (b ∷ earlier)) + 65536 * q ≡ big + 65536 = g.same in
    let f : 65536 ≤ greatest (datagrams (b ∷ earlier)) = g.far in
    let n0 : a.place ≤ big + 32767 = n.0 in
    let n1 : big ≤ a.place + 32767 = n.1 in
    let x : ℕ = (greatest (datagrams (b ∷ earlier)) + a.place) - big in
    let is : x + 65536 * q ≡ a.place + 65536 = omega arith in
    let m : a.datagram.number ≡ a.place % 65536 = s.number in
    let c : x % 65536 ≡ a.datagram.number = omega arith in
    let near : IsNearest e a.datagram.number x = record { agrees = c; above = omega arith; below = omega arith } in
    let o : x ≡ nearest e a.datagram.number = only_nearest e a.datagram.number x (omega arith) (omega arith) near in
    ap (λ (y : ℕ). y + 65536 * q) (sym o) ∙ is

grows : (packets : List (List ℕ)) (a b : Arrival) (earlier : List Arrival) (q : ℕ) → IsSentAt packets a.place a.datagram → IsNear (b ∷ earlier) a.place → Agrees (b ∷ earlier) q → Agrees (a ∷ b ∷ earlier) q
grows packets a b earlier q s n g =
    let x : ℕ = integer_after (datagrams (b ∷ earlier)) a.datagram in
    let p : x + 65536 * q ≡ a.place + 65536 = at_place packets a b earlier q s n g in
    let h : greatest (datagrams (b ∷ earlier)) + 65536 * q ≡ greatest_place (b ∷ earlier) + 65536 = g.same in
    let f : 65536 ≤ greatest (datagrams (b ∷ earlier)) = g.far in
    record { same = omega arith; far = omega arith; in_list = g.in_list; begun = g.begun }

begins : (packets : List (List ℕ)) (a : Arrival) → IsSentAt packets a.place a.datagram → Agrees (a ∷ []) (a.place / 65536)
begins packets a s =
    let m : a.datagram.number ≡ a.place % 65536 = s.number in
    let few : length a.datagram.secondaries ≤ a.place = s.few in
    let count : length a.datagram.secondaries ≤ 16383 = s.countable in
    record { same = omega arith; far = omega arith; in_list = omega arith; begun = λ e. omega (arith, e) }

-- what a datagram says of a slot is so
said : (packets : List (List ℕ)) (q x k : ℕ) (a : Arrival) (slot : Option (List ℕ)) → IsSentAt packets a.place a.datagram → x + 65536 * q ≡ a.place + 65536 → k ≤ x → said_of x a.datagram k ≡ slot
    → (slot ≡ None) ⊎ IsShifted packets q k slot
said packets q x k a slot sent p l h = by (x - k) (let e : x - k + k ≡ x = omega arith in e) h
  where
    deeper : (i : ℕ) (o : Option (List ℕ)) → slice_get a.datagram.secondaries i ≡ o → k + suc i ≡ x → o ≡ slot → (slot ≡ None) ⊎ IsShifted packets q k slot
    deeper i None g e t = inl (sym t)
    deeper i (Some packet) g e t =
        let w : i < length a.datagram.secondaries = slice_get_within a.datagram.secondaries i packet g in
        let d : length a.datagram.secondaries ≤ a.place = sent.few in
        inr (record { place = a.place - 1 - i; shifted = omega arith; is = sym t ∙ sym g ∙ sent.secondaries i w })

    by : (j : ℕ) → j + k ≡ x → slice_get (a.datagram.primary ∷ a.datagram.secondaries) j ≡ slot → (slot ≡ None) ⊎ IsShifted packets q k slot
    by zero e t = inr (record { place = a.place; shifted = omega arith; is = sym t ∙ sym sent.primary })
    by (suc i) e t = deeper i (slice_get a.datagram.secondaries i) refl (omega arith) t

AreSent : List (List ℕ) → ℕ → List DatagramValue → Type 0
AreSent packets q ds = (k : ℕ) (slot : Option (List ℕ)) → decision ds k ≡ Some slot → (slot ≡ None) ⊎ IsShifted packets q k slot

same_slot : (s t : Option (List ℕ)) → Some s ≡ Some t → s ≡ t
same_slot s t h = cc

le_of : (k x : ℕ) → nat_le k x ≡ true → k ≤ x
le_of k x h = grind (arith)

le_true : (k n : ℕ) → k ≤ n → nat_le k n ≡ true
le_true k n h = grind (arith)

one_more : (packets : List (List ℕ)) (q x k : ℕ) (a : Arrival) (slot : Option (List ℕ)) (o : Option (Option (List ℕ))) (b : Bool) → IsSentAt packets a.place a.datagram → x + 65536 * q ≡ a.place + 65536 → nat_le k x ≡ b
    → (o ≡ Some slot → (slot ≡ None) ⊎ IsShifted packets q k slot)
    → (if is_some o then o else if b then Some (said_of x a.datagram k) else None) ≡ Some slot → (slot ≡ None) ⊎ IsShifted packets q k slot
one_more packets q x k a slot (Some t) b sent p l f h = f h
one_more packets q x k a slot None true sent p l f h = said packets q x k a slot sent p (le_of k x l) (same_slot (said_of x a.datagram k) slot h)
one_more packets q x k a slot None false sent p l f h = cc

record Honest (packets : List (List ℕ)) (arrivals : List Arrival) : Type 0 where
  q : ℕ
  agrees : Agrees arrivals q
  sent : AreSent packets q (datagrams arrivals)
  within : greatest_place arrivals < length packets

honest_by : (packets : List (List ℕ)) (a : Arrival) (earlier : List Arrival) → IsHonest packets (a ∷ earlier) → Honest packets (a ∷ earlier)
unfolding AreSent
honest_by packets a [] h =
    let q : ℕ = a.place / 65536 in
    let m : a.datagram.number ≡ a.place % 65536 = h.0.number in
    let w : a.place < length packets = slice_get_within packets a.place a.datagram.primary h.0.primary in
    record {
      q = q;
      agrees = begins packets a h.0;
      sent = λ k s e. one_more packets q (65536 + a.datagram.number) k a s None (nat_le k (65536 + a.datagram.number)) h.0 (omega arith) refl (λ f. cc) e;
      within = omega arith;
    }
honest_by packets a (b ∷ earlier) h =
    let g : Honest packets (b ∷ earlier) = honest_by packets b earlier h.2 in
    let w : a.place < length packets = slice_get_within packets a.place a.datagram.primary h.0.primary in
    let v : greatest_place (b ∷ earlier) < length packets = g.within in
    record {
      q = g.q;
      agrees = grows packets a b earlier g.q h.0 h.1 g.agrees;
      sent = λ k s e. one_more packets g.q (integer_after (datagrams (b ∷ earlier)) a.datagram) k a s (decision (datagrams (b ∷ earlier)) k) (nat_le k (integer_after (datagrams (b ∷ earlier)) a.datagram)) h.0
          (at_place packets a b earlier g.q h.0 h.1 g.agrees) refl (g.sent k s) e;
      within = omega arith;
    }

pub slots_are_sent : SlotsAreSent
unfolding AreSent
slots_are_sent packets [] h = (0, λ k s e. cc)
slots_are_sent packets (a ∷ earlier) h = let g = honest_by packets a earlier h in (g.q, g.sent)

-- the slots as a part of the list
one_place : (packets : List (List ℕ)) (q k place : ℕ) (slot : Option (List ℕ)) → k + 65536 * q ≡ place + 65536 → (slot ≡ None) ⊎ IsShifted packets q k slot → IsPacketAt packets place slot
one_place packets q k place slot e (inl none) = inl none
one_place packets q k place slot e (inr s) =
    let shifted : k + 65536 * q ≡ s.place + 65536 = s.shifted in
    let same : s.place ≡ place = omega arith in
    inr (s.is ∙ ap (slice_get packets) same)

-- one more slot
step : (packets : List (List ℕ)) (place m : ℕ) (o : Option (Option (List ℕ))) (slot : Option (List ℕ)) (rest before : List (Option (List ℕ))) → o ≡ Some slot
    → AreSlotsBefore packets (suc place + m) (reverse_aux rest (slot ∷ before)) → AreSlotsBefore packets (place + suc m) (reverse_aux (cons_option o rest) before)
step packets place m o slot rest before e t =
    subst (λ (x : Option (Option (List ℕ))). AreSlotsBefore packets (place + suc m) (reverse_aux (cons_option x rest) before)) (sym e)
    (subst (λ (n : ℕ). AreSlotsBefore packets n (reverse_aux rest (slot ∷ before))) (let z : suc place + m ≡ place + suc m = omega arith in z) t)

undecided : (o : Option (Option (List ℕ))) → o ≡ None → is_some o ≡ true → ⊥
undecided None e h = cc
undecided (Some s) e h = cc

-- m slots from k on, after those of the places before that of k
walk : (packets : List (List ℕ)) (ds : List DatagramValue) (q : ℕ) → AreSent packets q ds → (m k place : ℕ) (before : List (Option (List ℕ))) → k + 65536 * q ≡ place + 65536
    → ((j : ℕ) → j < k + m → is_some (decision ds j) ≡ true) → AreSlotsBefore packets place before
    → AreSlotsBefore packets (place + m) (reverse_aux (filter_map (decision ds) (integers_from k m)) before)
unfolding AreSent
walk packets ds q sent zero k place before e d t = subst (λ (n : ℕ). AreSlotsBefore packets n before) (let z : place ≡ place + 0 = omega arith in z) t
walk packets ds q sent (suc m) k place before e d t =
    by (decision ds k) refl (λ slot there. walk packets ds q sent m (k + 1) (suc place) (slot ∷ before) (omega arith) (λ j l. d j (omega arith)) (there, t))
  where
    by : (o : Option (Option (List ℕ))) → decision ds k ≡ o
        → ((slot : Option (List ℕ)) → IsPacketAt packets place slot → AreSlotsBefore packets (suc place + m) (reverse_aux (filter_map (decision ds) (integers_from (k + 1) m)) (slot ∷ before)))
        → AreSlotsBefore packets (place + suc m) (reverse_aux (filter_map (decision ds) (integers_from k (suc m))) before)
    by None is go = absurd (undecided (decision ds k) is (d k (omega arith)))
    by (Some slot) is go =
        step packets place m (decision ds k) slot (filter_map (decision ds) (integers_from (k + 1) m)) before is
        (go slot (one_place packets q k place slot e (sent k slot is)))

-- and so many they are
one_longer : (o : Option (Option (List ℕ))) (rest before : List (Option (List ℕ))) (n : ℕ) → is_some o ≡ true
    → ((slot : Option (List ℕ)) → length (reverse_aux rest (slot ∷ before)) ≡ n + length (slot ∷ before)) → length (reverse_aux (cons_option o rest) before) ≡ suc n + length before
one_longer None rest before n h f = cc
one_longer (Some slot) rest before n h f = f slot ∙ (let z : n + suc (length before) ≡ suc n + length before = omega arith in z)

long : (ds : List DatagramValue) (m k : ℕ) (before : List (Option (List ℕ))) → ((j : ℕ) → j < k + m → is_some (decision ds j) ≡ true)
    → length (reverse_aux (filter_map (decision ds) (integers_from k m)) before) ≡ m + length before
long ds zero k before d = let z : length before ≡ zero + length before = omega arith in z
long ds (suc m) k before d =
    one_longer (decision ds k) (filter_map (decision ds) (integers_from (k + 1) m)) before m (d k (omega arith)) (λ slot. long ds m (k + 1) (slot ∷ before) (λ j l. d j (omega arith)))

all_decided : (d : DatagramValue) (earlier : List DatagramValue) (k : ℕ) → k < greatest (d ∷ earlier) + 1 → is_some (decision (d ∷ earlier) k) ≡ true
all_decided d earlier k l = decided_below d earlier k ∙ le_true k (greatest (d ∷ earlier)) (omega arith)

pub slots_are_a_part : SlotsAreAPart
unfolding newest_slots slots
slots_are_a_part packets [] h = record { next = 0; within = omega arith; slots = tt; whole = λ _. refl }
slots_are_a_part packets (a ∷ earlier) h =
    let g : Honest packets (a ∷ earlier) = honest_by packets a earlier h in
    let ds : List DatagramValue = datagrams (a ∷ earlier) in
    let near : first_slot ds ≤ greatest ds + 1 = first_is_near a.datagram (datagrams earlier) in
    let n : ℕ = greatest ds + 1 - first_slot ds in
    let in_list : 65536 ≤ first_slot ds + 65536 * g.q = g.agrees.in_list in
    let same : greatest ds + 65536 * g.q ≡ greatest_place (a ∷ earlier) + 65536 = g.agrees.same in
    let within : greatest_place (a ∷ earlier) < length packets = g.within in
    let place : ℕ = (first_slot ds + 65536 * g.q) - 65536 in
    let at : first_slot ds + 65536 * g.q ≡ place + 65536 = omega arith in
    let all : (j : ℕ) → j < first_slot ds + n → is_some (decision ds j) ≡ true = λ j l. all_decided a.datagram (datagrams earlier) j (omega arith) in
    record {
      next = place + n;
      within = omega arith;
      slots = walk packets ds g.q g.sent n (first_slot ds) place [] at all tt;
      whole = λ b.
          let zero_is : first_slot ds + 65536 * g.q ≡ 65536 = g.agrees.begun b in
          let long_is : length (reverse_aux (filter_map (decision ds) (integers_from (first_slot ds) n)) []) ≡ n + 0 = long ds n (first_slot ds) [] all in
          (let z : place + n ≡ n + 0 = omega arith in z) ∙ sym long_is;
    }

-- A sender's datagrams are those of its list.
reverse_both : (xs ys zs : List (List ℕ)) → reverse_aux (xs ++ ys) zs ≡ reverse_aux ys (reverse_aux xs zs)
reverse_both [] ys zs = refl
reverse_both (x ∷ xs) ys zs = reverse_both xs ys (x ∷ zs)

after : (xs ys : List (List ℕ)) (j : ℕ) → slice_get (reverse_aux xs ys) (length xs + j) ≡ slice_get ys j
after [] ys j = ap (slice_get ys) (let z : zero + j ≡ j = omega arith in z)
after (x ∷ xs) ys j = ap (slice_get (reverse_aux xs (x ∷ ys))) (let z : suc (length xs) + j ≡ length xs + suc j = omega arith in z) ∙ after xs (x ∷ ys) (suc j)

from_the_end : (xs ys : List (List ℕ)) (i : ℕ) → i < length xs → slice_get (reverse_aux xs ys) (length xs - 1 - i) ≡ slice_get xs i
from_the_end [] ys i l = absurd (omega (arith, l))
from_the_end (x ∷ xs) ys zero l = ap (slice_get (reverse_aux xs (x ∷ ys))) (let z : suc (length xs) - 1 - zero ≡ length xs + 0 = omega arith in z) ∙ after xs (x ∷ ys) 0
from_the_end (x ∷ xs) ys (suc i) l =
    ap (slice_get (reverse_aux xs (x ∷ ys))) (let z : suc (length xs) - 1 - suc i ≡ length xs - 1 - i = omega arith in z) ∙ from_the_end xs (x ∷ ys) i (omega arith)

within_take : (n : ℕ) (xs : List (List ℕ)) (i : ℕ) → i < length (take n xs) → slice_get (take n xs) i ≡ slice_get xs i
within_take zero xs i l = absurd (omega (arith, l))
within_take (suc n) [] i l = absurd (omega (arith, l))
within_take (suc n) (x ∷ xs) zero l = refl
within_take (suc n) (x ∷ xs) (suc i) l = within_take n xs i (omega arith)

fewer : (n : ℕ) (xs : List (List ℕ)) → (length (take n xs) ≤ length xs) × (length (take n xs) ≤ n)
fewer zero xs = (omega arith, omega arith)
fewer (suc n) [] = (omega arith, omega arith)
fewer (suc n) (x ∷ xs) =
    let f = fewer n xs in
    let a : length (take n xs) ≤ length xs = f.0 in
    let b : length (take n xs) ≤ n = f.1 in (omega arith, omega arith)

pub senders_send_their_list : SendersSendTheirList
senders_send_their_list redundancy later packet given most =
    let packets : List (List ℕ) = reverse_aux given (packet ∷ reverse_aux later []) in
    let is : packets ≡ reverse (later ++ packet ∷ given) = sym (reverse_both later (packet ∷ given) []) in
    let few = fewer redundancy given in
    let a : length (take redundancy given) ≤ length given = few.0 in
    let b : length (take redundancy given) ≤ redundancy = few.1 in
    subst (λ (ps : List (List ℕ)). IsSentAt ps (length given) (datagram_for redundancy given packet)) is
    (record {
      number = refl;
      primary = ap (slice_get packets) (let z : length given ≡ length given + 0 = omega arith in z) ∙ after given (packet ∷ reverse_aux later []) 0;
      few = a;
      countable = omega arith;
      secondaries = λ i l. within_take redundancy given i l ∙ sym (from_the_end given (packet ∷ reverse_aux later []) i (omega arith));
    })
