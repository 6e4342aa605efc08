-- What a datagram of the calling leg adds to what is held.
use Rattle.std.proofs.Common.{◌≡◌, ℕ, ◌+◌, ◌-◌, ◌≤◌, arith}

-- nothing, where the leg adds nothing to its own part once it holds what the others leave it
pub adds_nothing : (memory whole others most kept kept_new book book_new : ℕ) → whole ≡ memory → others ≡ book → most ≡ whole - others → (most ≤ kept → kept_new ≤ kept) → book_new ≡ book
    → memory ≤ kept + book → kept_new + book_new ≤ kept + book
adds_nothing memory whole others most kept kept_new book book_new all rest room within same full =
    let less = within (omega (arith, room, full, all, rest)) in
    omega (arith, less, same)
