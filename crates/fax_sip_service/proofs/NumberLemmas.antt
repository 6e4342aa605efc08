-- The number of a tag, and whether a route takes it.
use Rattle.std.proofs.Common.{◌≡◌, ℕ, zero, suc, ◌<◌, nat_lt, get_or, Bool, true, false, List, [], ◌∷◌, Option, Some, None, IfSome, IfNone, is_some, length, take, ap, sym, refl, arith}
use Rattle.std.proofs.lemmas.Bool.Decides.{nat_tests}
use Rattle.std.proofs.lemmas.List.{take_all}
use Rattle.std.proofs.lemmas.Option.{cond_some}
use Rattle.std.specs.List.{before_first, list_any, position, position_or_len}
use Rattle.fax_trunks.specs.Routes.{IsChoice, NoneFits}

any_at : (fits : List ℕ) (chosen : ℕ) → chosen < length fits → 0 < get_or fits chosen 0 → list_any (λ fit. nat_lt 0 fit) fits ≡ true
any_at [] chosen within some = absurd (omega arith)
any_at (fit ∷ fits) zero within some = grind (arith, nat_tests)
any_at (fit ∷ fits) (suc chosen) within some = let later = any_at fits chosen (omega arith) some in grind (arith, nat_tests)

none_at : (fits : List ℕ) → ((k : ℕ) → get_or fits k 0 ≡ 0) → list_any (λ fit. nat_lt 0 fit) fits ≡ false
none_at [] passes = refl
none_at (fit ∷ fits) passes = let here : fit ≡ 0 = passes 0 in let later = none_at fits (λ k. passes (suc k)) in grind (arith, nat_tests)

pub any_fits : (fits : List ℕ) (chosen : Option ℕ) → IfSome chosen (IsChoice fits) → IfNone chosen (NoneFits fits) → is_some chosen ≡ list_any (λ fit. nat_lt 0 fit) fits
any_fits fits None some none = sym (none_at fits none)
any_fits fits (Some chosen) some none = sym (any_at fits chosen some.within some.fits_some)

pub before_some : {X : Type 0} (p : X → Bool) (xs : List X) (end : ℕ) → position p xs ≡ Some end → take end xs ≡ before_first p xs
before_some p xs end found = ap (λ n. take n xs) (sym (cond_some _ _ _ found).1)

pub before_none : {X : Type 0} (p : X → Bool) (xs : List X) → position p xs ≡ None → xs ≡ before_first p xs
before_none p xs found = sym (take_all (position_or_len p xs) xs (grind (arith, nat_tests)))
