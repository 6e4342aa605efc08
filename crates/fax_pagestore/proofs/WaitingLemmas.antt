-- Bits that wait as octets, of which some are given.
use Rattle.std.proofs.Common.{◌≡◌, ◌⊎◌, ℕ, ◌+◌, ◌-◌, ◌*◌, ◌<◌, ◌≤◌, min, Bool, false, List, [], ◌∷◌, ◌++◌, length, take, drop, replicate, refl, sym, ◌∙◌, ap, subst, inl, inr, arith, append-nil, length-append, length-drop}
use Rattle.std.proofs.lemmas.Bool.{cases_lt}
use Rattle.std.proofs.lemmas.List.{take_at, take-append-le, drop-append-le, drop-take, drop-drop, drop_all, drop_min, take_rest, length-replicate, length-take-le}
use Rattle.std.proofs.lemmas.List.Elements.{All-take}
use Rattle.fax_bits.specs.Bits.{bits_of}
use Rattle.fax_bits.specs.Laws.{AreOctets}
use Rattle.fax_bits.specs.Writing.{IsPadded}
use Rattle.fax_bits.proofs.BitsLemmas.{length-bits_of, bits_of-nil, drop-bits_of, take-bits_of}
use Rattle.fax_bits.proofs.PaddingLemmas.{bits_of-one, padding_one}

-- ---- octets that hold bits

pub length-padded : (octets : List ℕ) (bits : List Bool) (padded : IsPadded octets bits) → 8 * length octets ≡ length bits + padded.0
length-padded octets bits (zeros, lt, e) =
    sym (length-bits_of octets) ∙ ap length e ∙ length-append bits (replicate zeros false) ∙ ap (λ k. length bits + k) (length-replicate zeros false)

-- the octets after the first n hold the bits after theirs
pub IsPadded-drop : (octets : List ℕ) (bits : List Bool) (n : ℕ) → IsPadded octets bits → IsPadded (drop n octets) (drop (8 * n) bits)
IsPadded-drop octets bits n padded =
    let size = length-padded octets bits padded in
    let few = padded.1 in
    elim (cases_lt (length bits) (8 * n)) [
      | inl past ↦
          let none : drop n octets ≡ [] = drop_all n octets (omega arith) in
          let no_bits : drop (8 * n) bits ≡ [] = drop_all (8 * n) bits (omega arith) in
          (0, omega arith, ap bits_of none ∙ bits_of-nil ∙ ap (λ b. b ++ []) (sym no_bits))
      | inr inside ↦
          (padded.0, few, sym (drop-bits_of n octets (omega arith)) ∙ ap (drop (8 * n)) padded.2 ∙ drop-append-le (8 * n) bits (replicate padded.0 false) inside)
    ]

-- the bits of the first n octets
take_padded : (octets : List ℕ) (bits : List Bool) (n : ℕ) → IsPadded octets bits → 8 * n ≤ length bits → bits_of (take n octets) ≡ take (8 * n) bits
take_padded octets bits n padded le =
    let size = length-padded octets bits padded in
    sym (take-bits_of n octets (omega arith)) ∙ ap (take (8 * n)) padded.2 ∙ take-append-le (8 * n) bits (replicate padded.0 false) le

-- The first n octets of some bits are those of more bits, where none of more is in them.
pub front_of_more : (held octets : List ℕ) (bits more : List Bool) (n : ℕ) → AreOctets held → AreOctets octets
    → IsPadded held bits → IsPadded octets (bits ++ more) → (8 * n ≤ length bits) ⊎ (more ≡ []) → take n held ≡ take n octets
front_of_more held octets bits more n held_are octets_are held_is octets_is (inl le) =
    let longer = length-append bits more in
    let same : bits_of (take n held) ≡ bits_of (take n octets) =
    take_padded held bits n held_is le ∙ sym (take-append-le (8 * n) bits more le) ∙ sym (take_padded octets (bits ++ more) n octets_is (omega arith)) in
    bits_of-one (take n held) (take n octets) (All-take (λ o. o < 256) n held held_are) (All-take (λ o. o < 256) n octets octets_are) same
front_of_more held octets bits more n held_are octets_are held_is octets_is (inr none) =
    let whole : bits ++ more ≡ bits = ap (λ m. bits ++ m) none ∙ append-nil bits in
    ap (take n) (padding_one bits held octets held_are octets_are held_is (subst (IsPadded octets) whole octets_is))

-- ---- octets whose first so many bits wait

pub record AreHeld (octets : List ℕ) (bits : ℕ) : Type 0 where
  pub within : bits ≤ 8 * length octets
  pub padded : IsPadded octets (take bits (bits_of octets))

pub nonempty : (bits : List Bool) → (bits ≡ [] → ⊥) → 1 ≤ length bits
nonempty [] some = absurd (some refl)
nonempty (b ∷ bits) some = omega arith

pub length-held : (octets : List ℕ) (bits : ℕ) → bits ≤ 8 * length octets → length (take bits (bits_of octets)) ≡ bits
length-held octets bits le = length-take-le bits (bits_of octets) (omega (arith, length-bits_of octets))

-- all bits of a writer
pub held_is : (octets : List ℕ) (bits : List Bool) (n : ℕ) → n ≡ length bits → IsPadded octets bits → take n (bits_of octets) ≡ bits
held_is octets bits n is (zeros, few, e) = ap (take n) e ∙ take_at bits (replicate zeros false) n (sym is)

pub AreHeld-all : (octets : List ℕ) (bits : List Bool) (n : ℕ) → n ≡ length bits → IsPadded octets bits → AreHeld octets n
AreHeld-all octets bits n is padded = record {
  within = omega (arith, length-padded octets bits padded);
  padded = subst (IsPadded octets) (sym (held_is octets bits n is padded)) padded;
}

-- the octets after the first n, or none
held_after : (octets : List ℕ) (bits n : ℕ) → AreHeld octets bits → take (bits - 8 * n) (bits_of (drop n octets)) ≡ drop (8 * n) (take bits (bits_of octets))
held_after octets bits n held = elim (cases_lt bits (8 * n)) [
  | inl past ↦
      let none : bits - 8 * n ≡ 0 = omega arith in
      ap (λ k. take k (bits_of (drop n octets))) none
      ∙ sym (drop_all (8 * n) (take bits (bits_of octets)) (omega (arith, length-held octets bits held.within)))
  | inr inside ↦
      let whole : 8 * n + (bits - 8 * n) ≡ bits = omega arith in
      let within = held.within in
      ap (take (bits - 8 * n)) (sym (drop-bits_of n octets (omega arith)))
      ∙ sym (drop-take (8 * n) (bits - 8 * n) (bits_of octets))
      ∙ ap (λ k. drop (8 * n) (take k (bits_of octets))) whole
]

AreHeld-after : (octets : List ℕ) (bits n : ℕ) → AreHeld octets bits → AreHeld (drop n octets) (bits - 8 * n)
AreHeld-after octets bits n held = record {
  within = let within = held.within in omega (arith, length-drop n octets);
  padded = subst (IsPadded (drop n octets)) (sym (held_after octets bits n held)) (IsPadded-drop octets (take bits (bits_of octets)) n held.padded);
}

-- the first n are passed, or all
drop_more : (octets : List ℕ) (given n left : ℕ) → left ≡ length octets - given → drop (given + min n left) octets ≡ drop n (drop given octets)
drop_more octets given n left is =
    let size : left ≡ length (drop given octets) = is ∙ sym (length-drop given octets) in
    sym (drop-drop (min n left) given octets) ∙ ap (λ k. drop (min n k) (drop given octets)) size ∙ drop_min n (drop given octets)

-- So many octets were passed, and so many bits are left.
pub record IsPassed (octets : List ℕ) (given bits n count rest : ℕ) : Type 0 where
  pub held : AreHeld (drop given octets) bits
  pub count_is : count ≡ min n (length octets - given)
  pub rest_is : rest ≡ bits - 8 * n

drop_passed : (octets : List ℕ) (given bits n count rest : ℕ) → IsPassed octets given bits n count rest → drop (given + count) octets ≡ drop n (drop given octets)
drop_passed octets given bits n count rest is =
    ap (λ k. drop (given + k) octets) is.count_is ∙ drop_more octets given n (length octets - given) refl

pub AreHeld-passed : (octets : List ℕ) (given bits n count rest : ℕ) → IsPassed octets given bits n count rest → AreHeld (drop (given + count) octets) rest
AreHeld-passed octets given bits n count rest is =
    subst (λ (o : List ℕ). AreHeld o rest) (sym (drop_passed octets given bits n count rest is))
    (subst (λ k. AreHeld (drop n (drop given octets)) k) (sym is.rest_is) (AreHeld-after (drop given octets) bits n is.held))

pub held_passed : (octets : List ℕ) (given bits n count rest : ℕ) → IsPassed octets given bits n count rest
    → take rest (bits_of (drop (given + count) octets)) ≡ drop (8 * n) (take bits (bits_of (drop given octets)))
held_passed octets given bits n count rest is =
    ap (λ (o : List ℕ). take rest (bits_of o)) (drop_passed octets given bits n count rest is)
    ∙ ap (λ k. take k (bits_of (drop n (drop given octets)))) is.rest_is
    ∙ held_after (drop given octets) bits n is.held

-- ---- octets that are gone over

-- the octets from one on, as a slice
pub rest_is : (now items : List ℕ) (given : ℕ) → now ≡ items → take (length now - given) (drop given now) ≡ drop given items
rest_is now items given e = take_rest now given ∙ ap (drop given) e
