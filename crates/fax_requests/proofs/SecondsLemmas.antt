-- What stands before the first octet that passes a test.
use Rattle.std.proofs.Common.{◌≡◌, ◌≤◌, ◌<◌, ℕ, Bool, true, false, cond, List, length, take, Option, None, Some, ap, sym, ltb, arith}
use Rattle.std.proofs.lemmas.Bool.Decides.{nat_tests}
use Rattle.std.proofs.lemmas.Bool.Decides.{Decides-ltb}
use Rattle.std.proofs.lemmas.List.{take_all}
use Rattle.std.specs.List.{before_first, position, position_or_len}

same_place : (b : Bool) (n place : ℕ) → cond b (Some n) None ≡ Some place → n ≡ place
same_place true n place e = cc
same_place false n place e = cc

no_place : (b : Bool) (n : ℕ) → cond b (Some n) None ≡ None → b ≡ false
no_place true n e = cc
no_place false n e = cc

pub front_at : (p : ℕ → Bool) (xs : List ℕ) (place : ℕ) → position p xs ≡ Some place → take place xs ≡ before_first p xs
front_at p xs place e = ap (λ n. take n xs) (sym (same_place (ltb (position_or_len p xs) (length xs)) (position_or_len p xs) place e))

pub front_whole : (p : ℕ → Bool) (xs : List ℕ) → position p xs ≡ None → xs ≡ before_first p xs
front_whole p xs e =
    let outside = no_place (ltb (position_or_len p xs) (length xs)) (position_or_len p xs) e in
    let far : length xs ≤ position_or_len p xs = grind (arith, nat_tests, outside) in
    sym (take_all (position_or_len p xs) xs far)
