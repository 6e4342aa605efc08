-- Bits are padded to octets: eight bits make one octet, and fewer than eight at the end are filled with zeros.
use Rattle.std.proofs.Common.{◌≡◌, ℕ, zero, suc, ◌+◌, ◌*◌, ◌^◌, ◌<◌, ◌≤◌, Bool, true, false, List, [], ◌∷◌, ◌++◌, length, replicate, refl, sym, ◌∙◌, ap, ap₂, subst, arith, append_assoc, append-nil}
use Rattle.std.proofs.lemmas.List.Elements.{All-nil, All-cons}
use Rattle.fax_bits.specs.Bits.{bit, word_bits}
use Rattle.fax_bits.specs.Writing.{IsPadded}
use Rattle.fax_bits.specs.Laws.{AreOctets}
use Rattle.fax_bits.proofs.BitsLemmas.{bits_of-cons, bits_of-nil}
use Rattle.fax_bits.proofs.WritingLemmas.{word_bits_sum}

digit : Bool → ℕ
digit false = 0
digit true = 1

-- the number of these bits, the most significant first
number : List Bool → ℕ
number [] = 0
number (b ∷ bits) = digit b * 2 ^ length bits + number bits

-- a number of so many bits, and its bits
record HasBits (bits : List Bool) (n : ℕ) : Type 0 where
  below : n < 2 ^ length bits
  are : word_bits (length bits) n ≡ bits

digit_bits : (b : Bool) → word_bits 1 (digit b) ≡ b ∷ []
unfolding word_bits bit digit
digit_bits false = refl
digit_bits true = refl

digit_below : (b : Bool) → digit b ≤ 1
unfolding digit
digit_below false = omega arith
digit_below true = omega arith

sum_below : (d p n : ℕ) → d ≤ 1 → n < p → d * p + n < 2 * p
sum_below zero p n h l = omega arith
sum_below (suc zero) p n h l = omega arith
sum_below (suc (suc d)) p n h l = absurd (omega arith)

one_more : (k : ℕ) → suc k ≡ 1 + k
one_more k = omega arith

double : (k : ℕ) → 2 ^ suc k ≡ 2 * 2 ^ k
double k = omega arith

number_has_bits : (bits : List Bool) → HasBits bits (number bits)
unfolding number word_bits
number_has_bits [] = record { below = omega arith; are = refl }
number_has_bits (b ∷ bits) =
    let rest : HasBits bits (number bits) = number_has_bits bits in
    let k : ℕ = length bits in
    let sum : digit b * 2 ^ k + number bits < 2 * 2 ^ k = sum_below (digit b) (2 ^ k) (number bits) (digit_below b) rest.below in
    record {
      below = subst (λ (m : ℕ). digit b * 2 ^ k + number bits < m) (sym (double k)) sum;
      are = ap (λ (m : ℕ). word_bits m (digit b * 2 ^ k + number bits)) (one_more k)
          ∙ word_bits_sum 1 k (digit b) (number bits) rest.below
          ∙ ap₂ (λ (x y : List Bool). x ++ y) (digit_bits b) rest.are;
    }

-- octets that hold these bits
pub record Padded (bits : List Bool) : Type 0 where
  pub octets : List ℕ
  pub are_octets : AreOctets octets
  pub is_padded : IsPadded octets bits

octet_below : (bits : List Bool) → length bits ≡ 8 → number bits < 256
octet_below bits e = subst (λ (n : ℕ). number bits < 2 ^ n) e (number_has_bits bits).below

octet_bits : (bits : List Bool) → length bits ≡ 8 → word_bits 8 (number bits) ≡ bits
octet_bits bits e = subst (λ (n : ℕ). word_bits n (number bits) ≡ bits) e (number_has_bits bits).are

none : Padded []
none = record { octets = []; are_octets = All-nil (λ (o : ℕ). o < 256); is_padded = (0, omega arith, bits_of-nil) }

-- the last octet, filled with zeros
last : (bits : List Bool) (zeros : ℕ) → zeros < 8 → length (bits ++ replicate zeros false) ≡ 8 → Padded bits
last bits zeros few e =
    let all : List Bool = bits ++ replicate zeros false in
    record {
      octets = number all ∷ [];
      are_octets = All-cons (λ (o : ℕ). o < 256) (number all) [] (octet_below all e) (All-nil (λ (o : ℕ). o < 256));
      is_padded = (zeros, few, bits_of-cons (number all) [] ∙ ap₂ (λ (x y : List Bool). x ++ y) (octet_bits all e) bits_of-nil ∙ append-nil all);
    }

-- an octet in front of others
in_front : (bits more : List Bool) → length bits ≡ 8 → Padded more → Padded (bits ++ more)
in_front bits more e p =
    let zeros : List Bool = replicate p.is_padded.0 false in
    record {
      octets = number bits ∷ p.octets;
      are_octets = All-cons (λ (o : ℕ). o < 256) (number bits) p.octets (octet_below bits e) p.are_octets;
      is_padded = (
        p.is_padded.0,
        p.is_padded.1,
        bits_of-cons (number bits) p.octets ∙ ap₂ (λ (x y : List Bool). x ++ y) (octet_bits bits e) p.is_padded.2 ∙ sym (append_assoc bits more zeros),
      );
    }

pub padded : (bits : List Bool) → Padded bits
padded [] = none
padded (a ∷ []) = last (a ∷ []) 7 (omega arith) refl
padded (a ∷ b ∷ []) = last (a ∷ b ∷ []) 6 (omega arith) refl
padded (a ∷ b ∷ c ∷ []) = last (a ∷ b ∷ c ∷ []) 5 (omega arith) refl
padded (a ∷ b ∷ c ∷ d ∷ []) = last (a ∷ b ∷ c ∷ d ∷ []) 4 (omega arith) refl
padded (a ∷ b ∷ c ∷ d ∷ e ∷ []) = last (a ∷ b ∷ c ∷ d ∷ e ∷ []) 3 (omega arith) refl
padded (a ∷ b ∷ c ∷ d ∷ e ∷ f ∷ []) = last (a ∷ b ∷ c ∷ d ∷ e ∷ f ∷ []) 2 (omega arith) refl
padded (a ∷ b ∷ c ∷ d ∷ e ∷ f ∷ g ∷ []) = last (a ∷ b ∷ c ∷ d ∷ e ∷ f ∷ g ∷ []) 1 (omega arith) refl
padded (a ∷ b ∷ c ∷ d ∷ e ∷ f ∷ g ∷ h ∷ more) = in_front (a ∷ b ∷ c ∷ d ∷ e ∷ f ∷ g ∷ h ∷ []) more refl (padded more)
