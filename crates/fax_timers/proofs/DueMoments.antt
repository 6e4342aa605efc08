-- When moments are due.
use Rattle.std.proofs.Common.{◌≡◌, ◌⊎◌, inl, inr, ℕ, ◌<◌, ◌≤◌, ◌^◌, min, nat_le, nat_lt, Bool, true, false, Option, Some, None, refl, sym, ◌∙◌, arith, if◌then◌else◌}
use Rattle.fax_timers.specs.Moments.{is_due, on_clock, earlier}
use Rattle.fax_timers.specs.Paces.{pace_allows, allowed_from}
use Rattle.fax_timers.specs.declared.pace.LastPacket.{LastPacket}

le_false : (m n : ℕ) → n < m → nat_le m n ≡ false
le_false m n h = grind (arith)

le_true : (m n : ℕ) → m ≤ n → nat_le m n ≡ true
le_true m n h = grind (arith)

gt_if : (m n : ℕ) → nat_le m n ≡ false → n < m
gt_if m n h = grind (arith)

le_if : (m n : ℕ) → nat_le m n ≡ true → m ≤ n
le_if m n h = grind (arith)

beyond : (m n : ℕ) → nat_lt m n ≡ false → n ≤ m
beyond m n h = grind (arith)

-- THE PACE
pub allows_is : (last : Option LastPacket) (now : ℕ) → pace_allows last now ≡ nat_le (allowed_from last) now
allows_is None now = sym (le_true 0 now (omega arith))
allows_is (Some last) now = refl

-- before the moment of it on the clock, and from then on
pub not_yet : (m now : ℕ) → now < 2 ^ 64 → is_due (on_clock m) now ≡ false → nat_le m now ≡ false
not_yet m now fits h = by (nat_lt m (2 ^ 64)) refl h
  where
    by : (b : Bool) → nat_lt m (2 ^ 64) ≡ b → is_due (if b then Some m else None) now ≡ false → nat_le m now ≡ false
    by true e k = k
    by false e k = let big : 2 ^ 64 ≤ m = beyond m (2 ^ 64) e in le_false m now (omega arith)

pub come : (m now : ℕ) → is_due (on_clock m) now ≡ true → nat_le m now ≡ true
come m now h = by (nat_lt m (2 ^ 64)) h
  where
    by : (b : Bool) → is_due (if b then Some m else None) now ≡ true → nat_le m now ≡ true
    by true k = k
    by false k = cc

pub held_back : (last : Option LastPacket) (now : ℕ) → now < 2 ^ 64 → is_due (on_clock (allowed_from last)) now ≡ false → pace_allows last now ≡ false
held_back last now fits h = allows_is last now ∙ not_yet (allowed_from last) now fits h

pub let_through : (last : Option LastPacket) (now : ℕ) → is_due (on_clock (allowed_from last)) now ≡ true → pace_allows last now ≡ true
let_through last now h = allows_is last now ∙ come (allowed_from last) now h

-- TWO MOMENTS
pub neither : (one other : Option ℕ) (now : ℕ) → is_due (earlier one other) now ≡ false → (is_due one now ≡ false) × (is_due other now ≡ false)
neither None other now h = (refl, h)
neither (Some m) None now h = (h, refl)
neither (Some m) (Some n) now h =
    let k : now < min m n = gt_if (min m n) now h in
    (le_false m now (omega arith), le_false n now (omega arith))

pub one_of : (one other : Option ℕ) (now : ℕ) → is_due (earlier one other) now ≡ true → (is_due one now ≡ true) ⊎ (is_due other now ≡ true)
one_of None other now h = inr h
one_of (Some m) None now h = inl h
one_of (Some m) (Some n) now h = by (nat_le m now) refl
  where
    by : (b : Bool) → nat_le m now ≡ b → (nat_le m now ≡ true) ⊎ (nat_le n now ≡ true)
    by true e = inl e
    by false e =
        let k : min m n ≤ now = le_if (min m n) now h in
        let j : now < m = gt_if m now e in
        inr (le_true n now (omega arith))
