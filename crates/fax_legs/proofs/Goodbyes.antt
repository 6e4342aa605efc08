-- The newest number is the greatest that a receiver knows of, modulo 65,536.
use Rattle.std.proofs.Common.{◌≡◌, ℕ, ◌+◌, ◌-◌, ◌<◌, ◌≤◌, ◌%◌, max, nat_lt, Bool, true, false, List, [], ◌∷◌, Option, Some, refl, ap, ◌∙◌, arith, if◌then◌else◌}
use Rattle.fax_udptl.specs.Datagrams.{DatagramValue}
use Rattle.fax_udptl.specs.Slots.{IsNearest, greatest, nearest}
use Rattle.fax_udptl.specs.Taking.{IsAfter}
use Rattle.fax_udptl.proofs.SlotLemmas.{is_nearest}
use Rattle.fax_legs.specs.HangUps.{HaveNumbers, is_late, newer_of, newest_of, number_after}

pub late_so : (m n : ℕ) → nat_lt m n ≡ true → m < n
late_so m n h = grind (arith)

pub early_so : (m n : ℕ) → nat_lt m n ≡ false → n ≤ m
early_so m n h = grind (arith)

-- what is nearest lies after the greatest exactly where its number is not late
still : (n g near : ℕ) → n < 65536 → near % 65536 ≡ n → g + 1 ≤ near + 32768 → near ≤ g + 32768 → (65536 + g % 65536 - n) % 65536 < 32768 → max near g ≡ g
still n g near low agrees above below late = omega arith

moved : (n g near : ℕ) → n < 65536 → near % 65536 ≡ n → g + 1 ≤ near + 32768 → near ≤ g + 32768 → 32768 ≤ (65536 + g % 65536 - n) % 65536 → max near g % 65536 ≡ n
moved n g near low agrees above below early = omega arith

-- one more number
newer : (n g near : ℕ) (late : Bool) → is_late (g % 65536) n ≡ late → n < 65536 → near % 65536 ≡ n → g + 1 ≤ near + 32768 → near ≤ g + 32768
    → (if late then Some (g % 65536) else Some n) ≡ Some (max near g % 65536)
newer n g near true h low agrees above below = ap (λ (m : ℕ). Some (m % 65536)) (let same = still n g near low agrees above below (late_so ((65536 + g % 65536 - n) % 65536) 32768 h) in omega (arith, same))
newer n g near false h low agrees above below = ap (λ (m : ℕ). Some m) (let same = moved n g near low agrees above below (early_so ((65536 + g % 65536 - n) % 65536) 32768 h) in omega (arith, same))

pub grown : (d : DatagramValue) (earlier : List DatagramValue) → HaveNumbers (d ∷ earlier) → 65536 ≤ greatest (d ∷ earlier)
grown d [] low = omega arith
grown d (e ∷ earlier) low = let least = grown e earlier low.1 in omega (arith, least)

pub newest_is : (d : DatagramValue) (earlier : List DatagramValue) → HaveNumbers (d ∷ earlier) → newest_of (d ∷ earlier) ≡ Some (greatest (d ∷ earlier) % 65536)
newest_is d [] low = ap (λ (m : ℕ). Some m) (let small : d.number < 65536 = low.0 in omega (arith, small))
newest_is d (e ∷ earlier) low =
    let g = greatest (e ∷ earlier) in
    let least : 65536 ≤ g = grown e earlier low.1 in
    let near : IsNearest (g + 1) d.number (nearest (g + 1) d.number) = is_nearest (g + 1) d.number (omega (arith, least)) low.0 in
    ap (λ (o : Option ℕ). newer_of o d.number) (newest_is e earlier low.1)
    ∙ newer d.number g (nearest (g + 1) d.number) (is_late (g % 65536) d.number) refl low.0 near.agrees near.above (let under = near.below in omega (arith, under))

-- and so the number after it is what the receiver expects
pub expected_is : (arrived : List DatagramValue) (expected : ℕ) → HaveNumbers arrived → IsAfter arrived (Some expected) → number_after (newest_of arrived) ≡ expected
expected_is [] expected low after = cc
expected_is (d ∷ earlier) expected low after = ap number_after (newest_is d earlier low) ∙ (let same : expected ≡ (greatest (d ∷ earlier) + 1) % 65536 = cc in omega (arith, same))
