-- A number is spelt by its octets.
use Rattle.std.proofs.Common.{◌≡◌, ℕ, ◌<◌, ◌/◌, ◌%◌, [], ◌∷◌, ◌∙◌, ap, arith}
use Rattle.std.specs.Int.{w32, to_be_bytes, from_be_bytes}

module _ (a b c d : ℕ) (fa : a < 256) (fb : b < 256) (fc : c < 256) (fd : d < 256) where
  first : from_be_bytes w32 (a ∷ b ∷ c ∷ d ∷ []) / 16777216 % 256 ≡ a
  first = omega (arith, fa, fb, fc, fd)

  second : from_be_bytes w32 (a ∷ b ∷ c ∷ d ∷ []) / 65536 % 256 ≡ b
  second = omega (arith, fa, fb, fc, fd)

  third : from_be_bytes w32 (a ∷ b ∷ c ∷ d ∷ []) / 256 % 256 ≡ c
  third = omega (arith, fa, fb, fc, fd)

  fourth : from_be_bytes w32 (a ∷ b ∷ c ∷ d ∷ []) % 256 ≡ d
  fourth = omega (arith, fa, fb, fc, fd)

  pub bytes_back : to_be_bytes w32 (from_be_bytes w32 (a ∷ b ∷ c ∷ d ∷ [])) ≡ a ∷ b ∷ c ∷ d ∷ []
  bytes_back =
      ap (λ (x : ℕ). x ∷ from_be_bytes w32 (a ∷ b ∷ c ∷ d ∷ []) / 65536 % 256 ∷ from_be_bytes w32 (a ∷ b ∷ c ∷ d ∷ []) / 256 % 256 ∷ from_be_bytes w32 (a ∷ b ∷ c ∷ d ∷ []) % 256 ∷ []) first
      ∙ ap (λ (x : ℕ). a ∷ x ∷ from_be_bytes w32 (a ∷ b ∷ c ∷ d ∷ []) / 256 % 256 ∷ from_be_bytes w32 (a ∷ b ∷ c ∷ d ∷ []) % 256 ∷ []) second
      ∙ ap (λ (x : ℕ). a ∷ b ∷ x ∷ from_be_bytes w32 (a ∷ b ∷ c ∷ d ∷ []) % 256 ∷ []) third
      ∙ ap (λ (x : ℕ). a ∷ b ∷ c ∷ x ∷ []) fourth
