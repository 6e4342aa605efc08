-- Bits set in octets, from one place to another.
use Rattle.std.proofs.Common.{◌≡◌, ◌≢◌, ℕ, zero, suc, ◌+◌, ◌-◌, ◌*◌, ◌/◌, ◌%◌, ◌^◌, ◌<◌, ◌≤◌, ◌==◌, Bool, true, false, cond, leb, List, ◌++◌, length, take, drop, get_or, set, replicate, [], ◌∷◌, min, max, refl, sym, ◌∙◌, ap, arith, ◌⊎◌, inl, inr, length-append, length-drop, length-set, bit_and, bit_or}
use Rattle.std.specs.Int.{bit_at, to_le_bytes, w32}
use Rattle.std.proofs.lemmas.Bool.{cases_lt, cases_eq, eqb-true, eq-eqb, le-leb}
use Rattle.std.proofs.lemmas.Bool.Decides.{leb_tells}
use Rattle.std.proofs.lemmas.Nat.Bits.{bit_at_or, bit_at_and, bit_at-lt}
use Rattle.std.proofs.lemmas.List.{ext_get_or, get_or-set_same, get_or-set_other, get_or-take, get_or-drop, get_or-replicate, get_or_append_left, get_or-append_right, length-take-le, length-replicate}
use borrow.Rule.Slice.PartMut.{put_mid, post_of}
use Rattle.fax_bits.specs.Bits.{bit, bits_of}
use Rattle.fax_bits.proofs.BitsLemmas.{bit-add, bit-mod, bits_of_at, length-bits_of}
use Rattle.fax_runcodes.specs.Masks.{with_bits}
use Rattle.fax_runcodes.specs.declared.row.pixels.TheConstants.{BITS_FROM, BITS_UP_TO}

-- ---- tests of each number below another, which compute
all_below : ℕ → (ℕ → Bool) → Bool
all_below zero p = true
all_below (suc n) p = cond (p n) (all_below n p) false

both_true : (b rest : Bool) → cond b rest false ≡ true → (b ≡ true) × (rest ≡ true)
both_true true rest h = (refl, h)
both_true false rest h = cc

all_below_at : (n : ℕ) (p : ℕ → Bool) → all_below n p ≡ true → (i : ℕ) → i < n → p i ≡ true
unfolding all_below
all_below_at zero p h i lt = absurd (omega arith)
all_below_at (suc n) p h i lt =
    let parts : (p n ≡ true) × (all_below n p ≡ true) = both_true (p n) (all_below n p) h in
    elim (cases_lt i n) [
      | inl below ↦ all_below_at n p parts.1 i below
      | inr top ↦ let here : i ≡ n = omega arith in ap p here ∙ parts.0
    ]

same : Bool → Bool → Bool
same true b = b
same false true = false
same false false = true

same_is : (a b : Bool) → same a b ≡ true → a ≡ b
unfolding same
same_is true b h = sym h
same_is false true h = cc
same_is false false h = refl

-- ---- the tables of masks: the bits from r on, and those up to t, the most significant of an octet first

-- where bit i of octets stands in the mask of its four
pub place : ℕ → ℕ
place i = 8 * (i % 32 / 8) + (7 - i % 32 % 8)

head_bits : all_below 32 (λ r. all_below 32 (λ m. same (bit (get_or BITS_FROM r 0) (place m)) (leb r m))) ≡ true
unfolding bit all_below same place
head_bits = refl

tail_bits : all_below 32 (λ t. all_below 32 (λ m. same (bit (get_or BITS_UP_TO t 0) (place m)) (leb m t))) ≡ true
unfolding bit all_below same place
tail_bits = refl

ones_bits : all_below 8 (λ m. bit 255 (7 - m)) ≡ true
unfolding bit all_below
ones_bits = refl

pub head_bit : (r m : ℕ) → r < 32 → m < 32 → bit (get_or BITS_FROM r 0) (place m) ≡ leb r m
head_bit r m hr hm = same_is (bit (get_or BITS_FROM r 0) (place m)) (leb r m)
    (all_below_at 32 (λ n. same (bit (get_or BITS_FROM r 0) (place n)) (leb r n)) (all_below_at 32 (λ q. all_below 32 (λ n. same (bit (get_or BITS_FROM q 0) (place n)) (leb q n))) head_bits r hr) m hm)

pub tail_bit : (t m : ℕ) → t < 32 → m < 32 → bit (get_or BITS_UP_TO t 0) (place m) ≡ leb m t
tail_bit t m ht hm = same_is (bit (get_or BITS_UP_TO t 0) (place m)) (leb m t)
    (all_below_at 32 (λ n. same (bit (get_or BITS_UP_TO t 0) (place n)) (leb n t)) (all_below_at 32 (λ q. all_below 32 (λ n. same (bit (get_or BITS_UP_TO q 0) (place n)) (leb n q))) tail_bits t ht) m hm)

pub ones_bit : (m : ℕ) → m < 8 → bit 255 (7 - m) ≡ true
ones_bit m hm = all_below_at 8 (λ n. bit 255 (7 - n)) ones_bits m hm

-- ---- a bit of two numbers together
bit_one : (n k : ℕ) → bit n k ≡ true → bit_at n k ≡ 1
unfolding bit
bit_one n k h = eqb-true (bit_at n k) 1 h

bit_zero : (n k : ℕ) → bit n k ≡ false → bit_at n k ≡ 0
unfolding bit
bit_zero n k h = elim (cases_lt (bit_at n k) 1) [
  | inl low ↦ omega arith
  | inr high ↦
      let below : bit_at n k < 2 = bit_at-lt n k in
      let one : bit_at n k ≡ 1 = omega arith in
      let t : (bit_at n k == 1) ≡ true = eq-eqb (bit_at n k) 1 one in
      absurd cc
]

pub bit_or_set : (a b k : ℕ) → bit b k ≡ true → bit (bit_or a b) k ≡ true
unfolding bit
bit_or_set a b k h =
    let one : bit_at b k ≡ 1 = bit_one b k h in
    let below : bit_at a k < 2 = bit_at-lt a k in
    let both : bit_at (bit_or a b) k ≡ max (bit_at a k) (bit_at b k) = bit_at_or a b k in
    eq-eqb (bit_at (bit_or a b) k) 1 (omega arith)

pub bit_or_keeps : (a b k : ℕ) → bit b k ≡ false → bit (bit_or a b) k ≡ bit a k
unfolding bit
bit_or_keeps a b k h =
    let none : bit_at b k ≡ 0 = bit_zero b k h in
    let both : bit_at (bit_or a b) k ≡ max (bit_at a k) (bit_at b k) = bit_at_or a b k in
    let is : bit_at (bit_or a b) k ≡ bit_at a k = omega arith in
    ap (λ n. n == 1) is

pub bit_and_set : (a b k : ℕ) → bit a k ≡ true → bit b k ≡ true → bit (bit_and a b) k ≡ true
unfolding bit
bit_and_set a b k h g =
    let first : bit_at a k ≡ 1 = bit_one a k h in
    let second : bit_at b k ≡ 1 = bit_one b k g in
    let both : bit_at (bit_and a b) k ≡ min (bit_at a k) (bit_at b k) = bit_at_and a b k in
    eq-eqb (bit_at (bit_and a b) k) 1 (omega arith)

not_one : (n : ℕ) → n ≡ 0 → (n == 1) ≡ false
not_one n e = ap (λ m. m == 1) e

pub bit_and_not : (a b k : ℕ) → (bit a k ≡ false) ⊎ (bit b k ≡ false) → bit (bit_and a b) k ≡ false
unfolding bit
bit_and_not a b k (inl h) =
    let none : bit_at a k ≡ 0 = bit_zero a k h in
    let both : bit_at (bit_and a b) k ≡ min (bit_at a k) (bit_at b k) = bit_at_and a b k in
    not_one (bit_at (bit_and a b) k) (omega arith)
bit_and_not a b k (inr h) =
    let none : bit_at b k ≡ 0 = bit_zero b k h in
    let both : bit_at (bit_and a b) k ≡ min (bit_at a k) (bit_at b k) = bit_at_and a b k in
    not_one (bit_at (bit_and a b) k) (omega arith)

-- ---- bits of octets, one octet changed

-- the octet at k now
pub changed_at : (octets : List ℕ) (k v i : ℕ) → i < 8 * length octets → i / 8 ≡ k → get_or (bits_of (set octets k v)) i false ≡ bit v (7 - i % 8)
changed_at octets k v i within here =
    let place : k < length octets = omega arith in
    bits_of_at (set octets k v) i (omega (arith, length-set octets k v))
    ∙ ap (λ n. bit (get_or (set octets k v) n 0) (7 - i % 8)) here
    ∙ ap (λ n. bit n (7 - i % 8)) (get_or-set_same octets k v 0 place)

pub unchanged_at : (octets : List ℕ) (k v i : ℕ) → i < 8 * length octets → i / 8 ≢ k → get_or (bits_of (set octets k v)) i false ≡ get_or (bits_of octets) i false
unchanged_at octets k v i within elsewhere =
    bits_of_at (set octets k v) i (omega (arith, length-set octets k v))
    ∙ ap (λ n. bit n (7 - i % 8)) (get_or-set_other octets k (i / 8) v 0 elsewhere)
    ∙ sym (bits_of_at octets i within)

pub or_sets : (octets : List ℕ) (k mask i : ℕ) → i < 8 * length octets → i / 8 ≡ k → bit mask (7 - i % 8) ≡ true
    → get_or (bits_of (set octets k (bit_or (get_or octets k 0) mask))) i false ≡ true
or_sets octets k mask i within here one = changed_at octets k (bit_or (get_or octets k 0) mask) i within here ∙ bit_or_set (get_or octets k 0) mask (7 - i % 8) one

pub or_keeps : (octets : List ℕ) (k mask i : ℕ) → i < 8 * length octets → (i / 8 ≡ k → bit mask (7 - i % 8) ≡ false)
    → get_or (bits_of (set octets k (bit_or (get_or octets k 0) mask))) i false ≡ get_or (bits_of octets) i false
or_keeps octets k mask i within none = elim (cases_eq (i / 8) k) [
  | inl here ↦
      changed_at octets k (bit_or (get_or octets k 0) mask) i within here
      ∙ bit_or_keeps (get_or octets k 0) mask (7 - i % 8) (none here)
      ∙ ap (λ n. bit (get_or octets n 0) (7 - i % 8)) (sym here)
      ∙ sym (bits_of_at octets i within)
  | inr elsewhere ↦ unchanged_at octets k (bit_or (get_or octets k 0) mask) i within elsewhere
]

-- ---- bits of octets, some octets changed

pub length-with_bits : (octets : List ℕ) (from : ℕ) (masks : List ℕ) → length (with_bits octets from masks) ≡ length octets
length-with_bits octets from [] = refl
length-with_bits octets from (mask ∷ masks) =
    length-with_bits (set octets from (bit_or (get_or octets from 0) mask)) (from + 1) masks ∙ length-set octets from (bit_or (get_or octets from 0) mask)

with_bits_keeps : (octets : List ℕ) (from : ℕ) (masks : List ℕ) (i : ℕ) → i < 8 * length octets
    → (from ≤ i / 8 → i / 8 < from + length masks → bit (get_or masks (i / 8 - from) 0) (7 - i % 8) ≡ false)
    → get_or (bits_of (with_bits octets from masks)) i false ≡ get_or (bits_of octets) i false
with_bits_keeps octets from [] i lt none = refl
with_bits_keeps octets from (mask ∷ masks) i lt none =
    with_bits_keeps (set octets from (bit_or (get_or octets from 0) mask)) (from + 1) masks i (omega (arith, length-set octets from (bit_or (get_or octets from 0) mask)))
    (λ past before.
    let next : suc (i / 8 - (from + 1)) ≡ i / 8 - from = omega arith in
    ap (λ k. bit (get_or (mask ∷ masks) k 0) (7 - i % 8)) next ∙ none (omega arith) (omega arith))
    ∙ or_keeps octets from mask i lt (λ here.
    let first : 0 ≡ i / 8 - from = omega arith in
    ap (λ k. bit (get_or (mask ∷ masks) k 0) (7 - i % 8)) first ∙ none (omega arith) (omega arith))

with_bits_sets : (octets : List ℕ) (from : ℕ) (masks : List ℕ) (i : ℕ) → i < 8 * length octets → from ≤ i / 8 → i / 8 < from + length masks
    → bit (get_or masks (i / 8 - from) 0) (7 - i % 8) ≡ true → get_or (bits_of (with_bits octets from masks)) i false ≡ true
with_bits_sets octets from [] i lt past before one = absurd (omega arith)
with_bits_sets octets from (mask ∷ masks) i lt past before one = elim (cases_eq (i / 8) from) [
  | inl here ↦
      let first : 0 ≡ i / 8 - from = omega arith in
      with_bits_keeps (set octets from (bit_or (get_or octets from 0) mask)) (from + 1) masks i (omega (arith, length-set octets from (bit_or (get_or octets from 0) mask)))
      (λ later _. absurd (omega arith))
      ∙ or_sets octets from mask i lt here (ap (λ k. bit (get_or (mask ∷ masks) k 0) (7 - i % 8)) first ∙ one)
  | inr elsewhere ↦
      let next : suc (i / 8 - (from + 1)) ≡ i / 8 - from = omega arith in
      with_bits_sets (set octets from (bit_or (get_or octets from 0) mask)) (from + 1) masks i (omega (arith, length-set octets from (bit_or (get_or octets from 0) mask))) (omega arith) (omega arith)
      (ap (λ k. bit (get_or (mask ∷ masks) k 0) (7 - i % 8)) next ∙ one)
]

-- four octets, by one mask
abbrev pub masked : List ℕ → ℕ → ℕ → List ℕ
masked octets word mask = with_bits octets (4 * word) (to_le_bytes w32 mask)

octet_of : (mask j : ℕ) → j < 4 → get_or (to_le_bytes w32 mask) j 0 ≡ mask / 2 ^ (8 * j) % 2 ^ 8
octet_of mask zero lt = omega arith
octet_of mask (suc zero) lt = refl
octet_of mask (suc (suc zero)) lt = refl
octet_of mask (suc (suc (suc zero))) lt = refl
octet_of mask (suc (suc (suc (suc j)))) lt = absurd (omega arith)

mask_bit : (mask word i : ℕ) → i / 32 ≡ word → bit (get_or (to_le_bytes w32 mask) (i / 8 - 4 * word) 0) (7 - i % 8) ≡ bit mask (place i)
unfolding place
mask_bit mask word i here =
    let j : ℕ = i / 8 - 4 * word in
    let row : j ≡ i % 32 / 8 = omega arith in
    let column : 7 - i % 8 ≡ 7 - i % 32 % 8 = omega arith in
    let sum : 7 - i % 8 + 8 * j ≡ 8 * (i % 32 / 8) + (7 - i % 32 % 8) = omega arith in
    ap (λ n. bit n (7 - i % 8)) (octet_of mask j (omega arith)) ∙ bit-mod (mask / 2 ^ (8 * j)) 8 (7 - i % 8) (omega arith)
    ∙ sym (bit-add mask (7 - i % 8) (8 * j)) ∙ ap (bit mask) sum

masked_sets : (octets : List ℕ) (word mask i : ℕ) → i < 8 * length octets → i / 32 ≡ word → bit mask (place i) ≡ true
    → get_or (bits_of (masked octets word mask)) i false ≡ true
masked_sets octets word mask i lt here one =
    with_bits_sets octets (4 * word) (to_le_bytes w32 mask) i lt (omega arith) (below (omega arith)) (mask_bit mask word i here ∙ one)
  where
    below : i / 8 < 4 * word + 4 → i / 8 < 4 * word + length (to_le_bytes w32 mask)
    below h = h

masked_keeps : (octets : List ℕ) (word mask i : ℕ) → i < 8 * length octets → (i / 32 ≡ word → bit mask (place i) ≡ false)
    → get_or (bits_of (masked octets word mask)) i false ≡ get_or (bits_of octets) i false
masked_keeps octets word mask i lt none =
    with_bits_keeps octets (4 * word) (to_le_bytes w32 mask) i lt (λ past before. at past before)
  where
    at : 4 * word ≤ i / 8 → i / 8 < 4 * word + 4 → bit (get_or (to_le_bytes w32 mask) (i / 8 - 4 * word) 0) (7 - i % 8) ≡ false
    at past before = let here : i / 32 ≡ word = omega arith in mask_bit mask word i here ∙ none here

-- ---- bits set from one place to another

pub bits_set : (old new : List ℕ) (from to : ℕ) → from ≤ to → to ≤ 8 * length old → length new ≡ length old
    → ((i : ℕ) → from ≤ i → i < to → get_or (bits_of new) i false ≡ true)
    → ((i : ℕ) → i < 8 * length old → (i < from) ⊎ (to ≤ i) → get_or (bits_of new) i false ≡ get_or (bits_of old) i false)
    → bits_of new ≡ take from (bits_of old) ++ (replicate (to - from) true ++ drop to (bits_of old))
bits_set old new from to order within size set kept =
    let whole : List Bool = take from (bits_of old) ++ (replicate (to - from) true ++ drop to (bits_of old)) in
    let count : length (bits_of old) ≡ 8 * length old = length-bits_of old in
    let count_new : length (bits_of new) ≡ 8 * length new = length-bits_of new in
    let front : length (take from (bits_of old)) ≡ from = length-take-le from (bits_of old) (omega arith) in
    let ones : length (replicate (to - from) true) ≡ to - from = length-replicate (to - from) true in
    let back : length (drop to (bits_of old)) ≡ length (bits_of old) - to = length-drop to (bits_of old) in
    let parts : length whole ≡ length (take from (bits_of old)) + length (replicate (to - from) true ++ drop to (bits_of old)) = length-append (take from (bits_of old)) (replicate (to - from) true ++ drop to (bits_of old)) in
    let rest : length (replicate (to - from) true ++ drop to (bits_of old)) ≡ length (replicate (to - from) true) + length (drop to (bits_of old)) = length-append (replicate (to - from) true) (drop to (bits_of old)) in
    ext_get_or false (bits_of new) whole (omega arith) (λ i lt. sym (part i (omega arith)))
  where
    part : (i : ℕ) → i < 8 * length old → get_or (take from (bits_of old) ++ (replicate (to - from) true ++ drop to (bits_of old))) i false ≡ get_or (bits_of new) i false
    part i lt =
        let tail : List Bool = replicate (to - from) true ++ drop to (bits_of old) in
        let count : length (bits_of old) ≡ 8 * length old = length-bits_of old in
        let front : length (take from (bits_of old)) ≡ from = length-take-le from (bits_of old) (omega arith) in
        let ones : length (replicate (to - from) true) ≡ to - from = length-replicate (to - from) true in
        elim (cases_lt i from) [
          | inl before ↦
              get_or_append_left (take from (bits_of old)) tail false i (omega arith)
              ∙ get_or-take from (bits_of old) i false before ∙ sym (kept i lt (inl before))
          | inr past ↦
              get_or-append_right (take from (bits_of old)) tail from i false front past
              ∙ elim (cases_lt i to) [
                | inl inside ↦
                    get_or_append_left (replicate (to - from) true) (drop to (bits_of old)) false (i - from) (omega arith)
                    ∙ get_or-replicate (to - from) (i - from) true false (omega arith) ∙ sym (set i past inside)
                | inr after ↦
                    let place : to + (i - from - (to - from)) ≡ i = omega arith in
                    get_or-append_right (replicate (to - from) true) (drop to (bits_of old)) (to - from) (i - from) false ones (omega arith)
                    ∙ get_or-drop to (bits_of old) (i - from - (to - from)) false
                    ∙ ap (λ k. get_or (bits_of old) k false) place ∙ sym (kept i lt (inr after))
              ]
        ]

-- ---- what is done to octets whose bits are set from one place to another: to the four in which they begin,
-- to the four in which they end, and to those between them

abbrev pub head : ℕ → ℕ
head from = get_or BITS_FROM (from % 32) 0

abbrev pub tail : ℕ → ℕ
tail to = get_or BITS_UP_TO ((to - 1) % 32) 0

gt_leb : (a b : ℕ) → b < a → leb a b ≡ false
gt_leb a b h = elim (leb_tells a b) [ inl le ↦ let order : a ≤ b = le.1 in absurd (omega arith) | inr gt ↦ gt.0 ]

place_within : (i : ℕ) → place i ≡ place (i % 32)
unfolding place
place_within i = let same : i % 32 ≡ i % 32 % 32 = omega arith in ap (λ m. 8 * (m / 8) + (7 - m % 8)) same

head_one : (from i : ℕ) → from ≤ i → i / 32 ≡ from / 32 → bit (head from) (place i) ≡ true
head_one from i past here = ap (bit (head from)) (place_within i) ∙ head_bit (from % 32) (i % 32) (omega arith) (omega arith) ∙ le-leb (from % 32) (i % 32) (omega arith)

head_none : (from i : ℕ) → i < from → i / 32 ≡ from / 32 → bit (head from) (place i) ≡ false
head_none from i before here = ap (bit (head from)) (place_within i) ∙ head_bit (from % 32) (i % 32) (omega arith) (omega arith) ∙ gt_leb (from % 32) (i % 32) (omega arith)

tail_one : (to i : ℕ) → i < to → i / 32 ≡ (to - 1) / 32 → bit (tail to) (place i) ≡ true
tail_one to i before here = ap (bit (tail to)) (place_within i) ∙ tail_bit ((to - 1) % 32) (i % 32) (omega arith) (omega arith) ∙ le-leb (i % 32) ((to - 1) % 32) (omega arith)

tail_none : (to i : ℕ) → 0 < to → to ≤ i → i / 32 ≡ (to - 1) / 32 → bit (tail to) (place i) ≡ false
tail_none to i some past here = ap (bit (tail to)) (place_within i) ∙ tail_bit ((to - 1) % 32) (i % 32) (omega arith) (omega arith) ∙ gt_leb (i % 32) ((to - 1) % 32) (omega arith)

-- within four octets
pub one_word : (octets : List ℕ) (from to : ℕ) → from < to → to ≤ 8 * length octets → from / 32 ≡ (to - 1) / 32
    → bits_of (masked octets (from / 32) (bit_and (head from) (tail to))) ≡ take from (bits_of octets) ++ (replicate (to - from) true ++ drop to (bits_of octets))
one_word octets from to order within one =
    let mask : ℕ = bit_and (head from) (tail to) in
    bits_set octets (masked octets (from / 32) mask) from to (omega arith) within (length-with_bits octets (4 * (from / 32)) (to_le_bytes w32 mask))
    (λ i past before.
    let here : i / 32 ≡ from / 32 = omega arith in
    masked_sets octets (from / 32) mask i (omega arith) here (bit_and_set (head from) (tail to) (place i) (head_one from i past here) (tail_one to i before (omega arith))))
    (λ i lt outside. masked_keeps octets (from / 32) mask i lt (λ here. bit_and_not (head from) (tail to) (place i) (none i here outside)))
  where
    none : (i : ℕ) → i / 32 ≡ from / 32 → (i < from) ⊎ (to ≤ i) → (bit (head from) (place i) ≡ false) ⊎ (bit (tail to) (place i) ≡ false)
    none i here (inl before) = inl (head_none from i before here)
    none i here (inr past) = inr (tail_none to i (omega arith) past (omega arith))

-- the first four octets and the last
abbrev pub both : List ℕ → ℕ → ℕ → List ℕ
both octets from to = masked (masked octets (from / 32) (head from)) ((to - 1) / 32) (tail to)

pub length-masked : (octets : List ℕ) (word mask : ℕ) → length (masked octets word mask) ≡ length octets
length-masked octets word mask = length-with_bits octets (4 * word) (to_le_bytes w32 mask)

pub length-both : (octets : List ℕ) (from to : ℕ) → length (both octets from to) ≡ length octets
length-both octets from to = length-masked (masked octets (from / 32) (head from)) ((to - 1) / 32) (tail to) ∙ length-masked octets (from / 32) (head from)

inside : (octets : List ℕ) (from to i : ℕ) → to ≤ 8 * length octets → i < to → i < 8 * length (masked octets (from / 32) (head from))
inside octets from to i within before = let size : length (masked octets (from / 32) (head from)) ≡ length octets = length-masked octets (from / 32) (head from) in omega arith

both_sets : (octets : List ℕ) (from to i : ℕ) → to ≤ 8 * length octets → from / 32 < (to - 1) / 32 → from ≤ i → i < to → (i / 32 ≡ from / 32) ⊎ (i / 32 ≡ (to - 1) / 32)
    → get_or (bits_of (both octets from to)) i false ≡ true
both_sets octets from to i within more past before (inl here) =
    masked_keeps (masked octets (from / 32) (head from)) ((to - 1) / 32) (tail to) i (inside octets from to i within before) (λ there. absurd (omega arith))
    ∙ masked_sets octets (from / 32) (head from) i (omega arith) here (head_one from i past here)
both_sets octets from to i within more past before (inr here) =
    masked_sets (masked octets (from / 32) (head from)) ((to - 1) / 32) (tail to) i (inside octets from to i within before) here (tail_one to i before here)

both_keeps : (octets : List ℕ) (from to i : ℕ) → 0 < to → i < 8 * length octets → (i < from) ⊎ (to ≤ i) → from / 32 < (to - 1) / 32
    → get_or (bits_of (both octets from to)) i false ≡ get_or (bits_of octets) i false
both_keeps octets from to i some lt outside more =
    let size : length (masked octets (from / 32) (head from)) ≡ length octets = length-masked octets (from / 32) (head from) in
    masked_keeps (masked octets (from / 32) (head from)) ((to - 1) / 32) (tail to) i (omega arith) (none_last outside)
    ∙ masked_keeps octets (from / 32) (head from) i lt (none_first outside)
  where
    none_last : (i < from) ⊎ (to ≤ i) → i / 32 ≡ (to - 1) / 32 → bit (tail to) (place i) ≡ false
    none_last (inl before) here = absurd (omega arith)
    none_last (inr past) here = tail_none to i some past here

    none_first : (i < from) ⊎ (to ≤ i) → i / 32 ≡ from / 32 → bit (head from) (place i) ≡ false
    none_first (inl before) here = head_none from i before here
    none_first (inr past) here = absurd (omega arith)

-- two times four octets
pub two_words : (octets : List ℕ) (from to : ℕ) → from < to → to ≤ 8 * length octets → from / 32 < (to - 1) / 32 → (to - 1) / 32 ≤ from / 32 + 1
    → bits_of (both octets from to) ≡ take from (bits_of octets) ++ (replicate (to - from) true ++ drop to (bits_of octets))
two_words octets from to order within more few =
    bits_set octets (both octets from to) from to (omega arith) within (length-both octets from to)
    (λ i past before. both_sets octets from to i within more past before (elim (cases_eq (i / 32) (from / 32)) [ inl here ↦ inl here | inr other ↦ inr (omega arith) ]))
    (λ i lt outside. both_keeps octets from to i (omega arith) lt outside more)

-- and whole octets of ones between them
in_part : (xs ys : List ℕ) (a k j : ℕ) → a + k ≤ length xs → length ys ≡ k → a ≤ j → j < a + k → get_or (put_mid a k xs ys) j 0 ≡ get_or ys (j - a) 0
in_part xs ys a k j within size past before =
    let front : length (take a xs) ≡ a = length-take-le a xs (omega arith) in
    get_or-append_right (take a xs) (ys ++ post_of a k xs) a j 0 front past ∙ get_or_append_left ys (post_of a k xs) 0 (j - a) (omega arith)

before_part : (xs ys : List ℕ) (a k j : ℕ) → a + k ≤ length xs → j < a → get_or (put_mid a k xs ys) j 0 ≡ get_or xs j 0
before_part xs ys a k j within before =
    let front : length (take a xs) ≡ a = length-take-le a xs (omega arith) in
    get_or_append_left (take a xs) (ys ++ post_of a k xs) 0 j (omega arith) ∙ get_or-take a xs j 0 before

after_part : (xs ys : List ℕ) (a k j : ℕ) → a + k ≤ length xs → length ys ≡ k → a + k ≤ j → get_or (put_mid a k xs ys) j 0 ≡ get_or xs j 0
after_part xs ys a k j within size past =
    let front : length (take a xs) ≡ a = length-take-le a xs (omega arith) in
    let place : a + (k + (j - a - k)) ≡ j = omega arith in
    get_or-append_right (take a xs) (ys ++ post_of a k xs) a j 0 front (omega arith)
    ∙ get_or-append_right ys (post_of a k xs) k (j - a) 0 size (omega arith)
    ∙ get_or-drop k (drop a xs) (j - a - k) 0 ∙ get_or-drop a xs (k + (j - a - k)) 0 ∙ ap (λ n. get_or xs n 0) place

length-part : (xs ys : List ℕ) (a k : ℕ) → a + k ≤ length xs → length ys ≡ k → length (put_mid a k xs ys) ≡ length xs
length-part xs ys a k within size =
    let front : length (take a xs) ≡ a = length-take-le a xs (omega arith) in
    let all : length (put_mid a k xs ys) ≡ length (take a xs) + length (ys ++ post_of a k xs) = length-append (take a xs) (ys ++ post_of a k xs) in
    let rest : length (ys ++ post_of a k xs) ≡ length ys + length (post_of a k xs) = length-append ys (post_of a k xs) in
    let dropped : length (post_of a k xs) ≡ length (drop a xs) - k = length-drop k (drop a xs) in
    let after : length (drop a xs) ≡ length xs - a = length-drop a xs in
    omega arith

pub many_words : (octets ones : List ℕ) (from to k : ℕ) → from < to → to ≤ 8 * length octets → length octets % 4 ≡ 0 → from / 32 + 1 < (to - 1) / 32 → k ≡ 4 * ((to - 1) / 32) - 4 * (from / 32 + 1) → ones ≡ replicate k 255
    → bits_of (put_mid (4 * (from / 32 + 1)) k (both octets from to) ones) ≡ take from (bits_of octets) ++ (replicate (to - from) true ++ drop to (bits_of octets))
many_words octets ones from to k order within fours more is filled =
    bits_set octets new from to (omega arith) within (size ∙ size_both)
    (λ i past before. sets i past before)
    (λ i lt outside. elsewhere i lt (elim outside [ inl before ↦ inl (omega arith) | inr past ↦ inr (omega arith) ]) ∙ both_keeps octets from to i (omega arith) lt outside (omega arith))
  where
    new : List ℕ
    new = put_mid (4 * (from / 32 + 1)) k (both octets from to) ones

    size_both : length (both octets from to) ≡ length octets
    size_both = length-both octets from to

    size_ones : length ones ≡ k
    size_ones = ap length filled ∙ length-replicate k 255

    room : 4 * (from / 32 + 1) + k ≤ length (both octets from to)
    room = omega (arith, size_both)

    size : length new ≡ length (both octets from to)
    size = length-part (both octets from to) ones (4 * (from / 32 + 1)) k room size_ones

    elsewhere : (i : ℕ) → i < 8 * length octets → (i / 8 < 4 * (from / 32 + 1)) ⊎ (4 * (from / 32 + 1) + k ≤ i / 8) → get_or (bits_of new) i false ≡ get_or (bits_of (both octets from to)) i false
    elsewhere i lt (inl before) =
        bits_of_at new i (omega (arith, size, size_both)) ∙ ap (λ n. bit n (7 - i % 8)) (before_part (both octets from to) ones (4 * (from / 32 + 1)) k (i / 8) room before)
        ∙ sym (bits_of_at (both octets from to) i (omega (arith, size_both)))
    elsewhere i lt (inr past) =
        bits_of_at new i (omega (arith, size, size_both)) ∙ ap (λ n. bit n (7 - i % 8)) (after_part (both octets from to) ones (4 * (from / 32 + 1)) k (i / 8) room size_ones past)
        ∙ sym (bits_of_at (both octets from to) i (omega (arith, size_both)))

    sets : (i : ℕ) → from ≤ i → i < to → get_or (bits_of new) i false ≡ true
    sets i past before = elim (cases_lt (i / 8) (4 * (from / 32 + 1))) [
      | inl first ↦ elsewhere i (omega arith) (inl first) ∙ both_sets octets from to i within (omega arith) past before (inl (omega arith))
      | inr later ↦ elim (cases_lt (i / 8) (4 * ((to - 1) / 32))) [
        | inl between ↦
            bits_of_at new i (omega (arith, size, size_both))
            ∙ ap (λ n. bit n (7 - i % 8)) (in_part (both octets from to) ones (4 * (from / 32 + 1)) k (i / 8) room size_ones later (omega arith)
            ∙ ap (λ (os : List ℕ). get_or os (i / 8 - 4 * (from / 32 + 1)) 0) filled ∙ get_or-replicate k (i / 8 - 4 * (from / 32 + 1)) 255 0 (omega arith))
            ∙ ones_bit (i % 8) (omega arith)
        | inr last ↦ elsewhere i (omega arith) (inr (omega arith)) ∙ both_sets octets from to i within (omega arith) past before (inr (omega arith))
      ]
    ]
