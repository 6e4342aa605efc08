-- What is chosen, and what is counted in a run.
use Rattle.std.proofs.Common.{◌≡◌, ℕ, ◌+◌, ◌≤◌, ◌<◌, min, Bool, true, false, nat_le, nat_lt, if◌then◌else◌, List, ◌∷◌, refl, arith}
use Rattle.std.proofs.lemmas.Bool.Decides.{nat_tests}
use Rattle.fax_transactions.specs.Runs.{ApartDoubling, ApartGrowing}
use Rattle.fax_transactions.specs.Spans.{t2}

-- what holds of both that may be chosen holds of what is
pub chosen : {A : Type 0} (P : A → Type 0) (b : Bool) (x y : A) → (b ≡ true → P x) → (b ≡ false → P y) → P (if b then x else y)
chosen P true x y p q = p refl
chosen P false x y p q = q refl

pub le_false : (a b : ℕ) → nat_le a b ≡ false → b < a
le_false a b e = grind (arith, nat_tests)

pub le_true : (a b : ℕ) → a ≤ b → nat_le a b ≡ true
le_true a b h = grind (arith, nat_tests)

pub lt_false : (a b : ℕ) → nat_lt a b ≡ false → b ≤ a
lt_false a b e = grind (arith, nat_tests)

pub lt_true : (a b : ℕ) → a < b → nat_lt a b ≡ true
lt_true a b h = grind (arith, nat_tests)

pub not_above : (status : ℕ) → nat_lt status 200 ≡ true → nat_le 200 status ≡ false
not_above status e = grind (arith, nat_tests)

pub above : (status : ℕ) → nat_lt status 200 ≡ false → nat_le 200 status ≡ true
above status e = grind (arith, nat_tests)

pub le_off : (a b : ℕ) → b < a → nat_le a b ≡ false
le_off a b h = grind (arith, nat_tests)

pub lt_off : (a b : ℕ) → b ≤ a → nat_lt a b ≡ false
lt_off a b h = grind (arith, nat_tests)

-- one more that is done
pub count_more : (one rest after next before : ℕ) → one + next ≡ before → rest + after ≡ next → one + rest + after ≡ before
count_more one rest after next before e f = omega arith

-- a moment that counts, and one that does not
abbrev pub Goes : Bool → Type 0 → Type 0 → Type 0
Goes true P Q = Q
Goes false P Q = P

pub onward : (b : Bool) (last pause now : ℕ) (moments : List ℕ) (P Q : Type 0) → Goes b P ((last + pause ≤ now) × Q)
    → (P → ApartDoubling last pause moments) → (Q → ApartDoubling now (pause + pause) moments) → ApartDoubling last pause (if b then now ∷ moments else moments)
onward true last pause now moments P Q goes p q = (goes.0, q goes.1)
onward false last pause now moments P Q goes p q = p goes

pub onward_growing : (b : Bool) (last pause now : ℕ) (moments : List ℕ) (P Q : Type 0) → Goes b P ((last + pause ≤ now) × Q)
    → (P → ApartGrowing last pause moments) → (Q → ApartGrowing now (min (pause + pause) t2) moments) → ApartGrowing last pause (if b then now ∷ moments else moments)
onward_growing true last pause now moments P Q goes p q = (goes.0, q goes.1)
onward_growing false last pause now moments P Q goes p q = p goes
