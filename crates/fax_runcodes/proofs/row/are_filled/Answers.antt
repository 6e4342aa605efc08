use Rattle.std.proofs.Common.{ℕ, ◌<◌, ◌≤◌, Bool, true, false, List, length, drop, All, MatchBool, IsTrue, refl, arith, rules, tests}
use Rattle.std.specs.List.{HoldsAt, AllWithin}
use Rattle.std.proofs.lemmas.Iterator.{cases_from_all, YieldsList-from_slice}
use Rattle.std.proofs.lemmas.Iterator.Adapters.{YieldsList-from_skip}
use Rattle.std.proofs.lemmas.List.Elements.{All-from_all_within}
use Rattle.std.proofs.lemmas.Bool.{false≢true}
use Rattle.fax_runcodes.proofs.row.are_filled.Goals as goal

filled_from_cases : (r : Bool) (xs : List ℕ)
    → MatchBool r (AllWithin (λ x. 0 < x) xs 0 (length xs)) ((k : ℕ) × (k < length xs) × HoldsAt (λ x. x ≤ 0) xs k)
    → (IsTrue r → All (λ x. 0 < x) xs) × (All (λ x. 0 < x) xs → IsTrue r)
filled_from_cases true xs h = (λ _. All-from_all_within (λ (x : ℕ). 0 < x) xs h, λ _. refl)
filled_from_cases false xs h = (λ e. absurd (false≢true e), λ all. absurd (omega (arith, all h.0 0 h.1, h.2 0)))

pub returns : goal.returns
returns c =
    filled_from_cases c.all.result (drop 1 c.args.runs.now)
    (cases_from_all _ _ _ (λ x. 0 < x) (λ x. x ≤ 0) c.all.ensures.ran (YieldsList-from_skip 1 (YieldsList-from_slice c.args.runs.now cc) cc) (λ x q k. search (rules, tests)) (λ x q k. search (rules, tests)))
