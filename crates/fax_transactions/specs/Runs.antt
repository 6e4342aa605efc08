-- Runs of a machine: what happens, each at its moment, and what is done.
use Rattle.std.specs.Prelude.{ℕ, ◌+◌, ◌≤◌, min, Bool, true, false, if◌then◌else◌, List, [], ◌∷◌}
use Rattle.fax_transactions.specs.Spans.{t2}

-- the state after what happened
abbrev pub state_after : {S E A : Type 0} → (S → ℕ → E → S × A) → S → List (ℕ × E) → S
state_after row state [] = state
state_after row state (happening ∷ happened) =
    state_after row (row state happening.0 happening.1).0 happened

-- what is done, each at its moment
abbrev pub actions_of : {S E A : Type 0} → (S → ℕ → E → S × A) → S → List (ℕ × E) → List (ℕ × A)
actions_of row state [] = []
actions_of row state (happening ∷ happened) = (happening.0, (row state happening.0 happening.1).1)
    ∷ actions_of row (row state happening.0 happening.1).0 happened

abbrev pub one_if : Bool → ℕ
one_if true = 1
one_if false = 0

-- how many of the things done pass a test
abbrev pub count_of : {A : Type 0} → (A → Bool) → List (ℕ × A) → ℕ
count_of test [] = 0
count_of test (entry ∷ done) = one_if (test entry.1) + count_of test done

-- the moments of those that pass a test
abbrev pub moments_of : {A : Type 0} → (A → Bool) → List (ℕ × A) → List ℕ
moments_of test [] = []
moments_of test (entry ∷ done) =
    if test entry.1 then entry.0 ∷ moments_of test done else moments_of test done

-- each moment is at least a pause after the one before, and the pauses double
abbrev pub ApartDoubling : ℕ → ℕ → List ℕ → Type 0
ApartDoubling last pause [] = Unit {0}
ApartDoubling last pause (moment ∷ moments) =
    (last + pause ≤ moment) × ApartDoubling moment (pause + pause) moments

-- the same, up to T2
abbrev pub ApartGrowing : ℕ → ℕ → List ℕ → Type 0
ApartGrowing last pause [] = Unit {0}
ApartGrowing last pause (moment ∷ moments) =
    (last + pause ≤ moment) × ApartGrowing moment (min (pause + pause) t2) moments
