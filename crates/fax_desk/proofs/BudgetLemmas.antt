-- What one more line may come to hold.
use Rattle.std.proofs.Common.{◌≡◌, ℕ, ◌+◌, map, sum, sym, ◌∙◌, ap, arith}
use Rattle.std.specs.List.{range_with_len}
use Rattle.std.proofs.lemmas.List.FromFn.{sum_by-map-range_with_len_more}

pub held_more : (f : ℕ → ℕ) (n held one new : ℕ) → held ≡ sum (map f (range_with_len 0 n)) → new ≡ held + one → one ≡ f n → new ≡ sum (map f (range_with_len 0 (n + 1)))
held_more f n held one new so_far is same =
    is ∙ ap (λ (k : ℕ). k + one) so_far
    ∙ ap (λ (k : ℕ). sum (map f (range_with_len 0 n)) + k) same
    ∙ sym (sum_by-map-range_with_len_more (λ (x : ℕ). x) f 0 n n (omega arith))
