-- A digest has 32 octets, so a seal tells where it ends.
use Rattle.std.proofs.Common.{◌≡◌, ℕ, zero, suc, ◌*◌, ◌≤◌, List, length, take, drop, slice_index, refl, sym, ◌∙◌, ap, arith, length-append}
use Rattle.std.proofs.lemmas.List.{take_at, drop_at}
use Rattle.std.specs.Int.{w32, to_be_bytes}
use Rattle.sha2.specs.Sha256.{sha256, digest_bytes, final_hash, initial_hash_256}
use Rattle.fax_spool.specs.Seals.{sealed}

digest_length : (h : List ℕ) (n : ℕ) → length (digest_bytes h n) ≡ n * 4
unfolding digest_bytes
digest_length h zero = refl
digest_length h (suc n) = length-append (digest_bytes h n) (to_be_bytes w32 (slice_index h n)) ∙ omega (arith, digest_length h n)

pub length-sha256 : (octets : List ℕ) → length (sha256 octets) ≡ 32
unfolding sha256
length-sha256 octets = digest_length (final_hash initial_hash_256 octets) 8

pub sealed_long : (octets kept : List ℕ) → octets ≡ sealed kept → 32 ≤ length octets
sealed_long octets kept is = omega (arith, ap length is, length-append (sha256 kept) kept, length-sha256 kept)

-- the digest before the octets after it
pub sealed_parts : (octets kept : List ℕ) → octets ≡ sealed kept → take 32 octets ≡ sha256 (drop 32 octets)
sealed_parts octets kept is =
    ap (λ (l : List ℕ). take 32 l) is
    ∙ take_at (sha256 kept) kept 32 (length-sha256 kept)
    ∙ sym (ap (λ (l : List ℕ). sha256 l) (ap (λ (l : List ℕ). drop 32 l) is ∙ drop_at (sha256 kept) kept 32 (length-sha256 kept)))

-- a seal is that of one record alone
pub seals_are_one : (a b : List ℕ) → sealed a ≡ sealed b → a ≡ b
seals_are_one a b same =
    sym (drop_at (sha256 a) a 32 (length-sha256 a))
    ∙ ap (λ (l : List ℕ). drop 32 l) same
    ∙ drop_at (sha256 b) b 32 (length-sha256 b)
