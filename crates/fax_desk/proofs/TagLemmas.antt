use Rattle.std.proofs.Common.{◌≡◌, ℕ, ◌≤◌, List, ◌++◌, length, drop, replicate, nat_le, true, Some, refl, arith}
use Rattle.std.proofs.lemmas.List.{drop-replicate}
use Rattle.fax_desk.specs.Tags.{tag_of_text}

pub made : (text octets copied rest : List ℕ) → octets ≡ text → length octets ≤ 64 → copied ≡ octets → rest ≡ replicate 64 0
    → Some (record { octets = copied ++ drop (length octets) rest; length = length octets }) ≡ tag_of_text text
made text octets copied rest t within e f =
    let is : nat_le (length octets) 64 ≡ true = search arith in
    rw (← t, e, f, is, drop-replicate {X = ℕ} (length octets) 64 0) refl
