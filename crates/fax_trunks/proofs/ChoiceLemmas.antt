-- The longest of the prefixes looked at so far.
use Rattle.std.proofs.Common.{◌≡◌, ℕ, ◌+◌, ◌<◌, ◌≤◌, List, length, get_or, Option, None, Some, ap, sym, ◌∙◌, subst, below_more, arith}
use Rattle.std.proofs.lemmas.List.{get_or-map}
use Rattle.fax_trunks.specs.RouteValues.{RouteValue}
use Rattle.fax_trunks.specs.Routes.{fit_of, fits_of}

-- of the first ones, this is the longest, and the first of those
abbrev pub IsBest : List ℕ → ℕ → ℕ → Option ℕ → Type 0
IsBest fits i longest None = longest ≡ 0
IsBest fits i longest (Some chosen) = (chosen < i) × (0 < longest) × (get_or fits chosen 0 ≡ longest) × ((k : ℕ) → k < chosen → get_or fits k 0 < longest)

-- one more, which is not longer
pub best_stays : (fits : List ℕ) (i longest : ℕ) (chosen : Option ℕ) → IsBest fits i longest chosen → IsBest fits (i + 1) longest chosen
best_stays fits i longest None best = best
best_stays fits i longest (Some chosen) best = (omega (arith, best.0), best.1, best.2, best.3)

-- one more, which is longer
pub best_moves : (fits : List ℕ) (i longest fit : ℕ) → get_or fits i 0 ≡ fit → longest < fit → ((k : ℕ) → k < i → get_or fits k 0 ≤ longest) → IsBest fits (i + 1) fit (Some i)
best_moves fits i longest fit is longer below = (omega arith, omega arith, is, λ k h. omega (arith, below k h))

-- what stands at the place of a route
pub fit_here : (routes : List RouteValue) (number : List ℕ) (i fit : ℕ) (route : RouteValue) → i < length routes → route ≡ get_or routes i route → fit ≡ fit_of number route.prefix
    → get_or (fits_of routes number) i 0 ≡ fit
fit_here routes number i fit route within is fits =
    get_or-map (λ (route : RouteValue). fit_of number route.prefix) routes i route 0 within ∙ (ap (λ (route : RouteValue). fit_of number route.prefix) (sym is) ∙ sym fits)

-- a step of the loop
pub longer_taken : (fits : List ℕ) (i longest fit after : ℕ) (chosen : Option ℕ) → chosen ≡ Some i → after ≡ fit → get_or fits i 0 ≡ fit → longest < fit
    → ((k : ℕ) → k < i → get_or fits k 0 ≤ longest) → IsBest fits (i + 1) after chosen × ((k : ℕ) → k < i + 1 → get_or fits k 0 ≤ after)
longer_taken fits i longest fit after chosen e f is longer below = (
  subst (λ (c : Option ℕ). IsBest fits (i + 1) after c) (sym e) (subst (λ (l : ℕ). IsBest fits (i + 1) l (Some i)) (sym f) (best_moves fits i longest fit is longer below)),
  below_more (λ k. get_or fits k 0 ≤ after) i (λ k h. omega (arith, below k h)) (omega arith),
)

pub other_passed : (fits : List ℕ) (i longest fit after : ℕ) (before chosen : Option ℕ) → chosen ≡ before → after ≡ longest → get_or fits i 0 ≡ fit → fit ≤ longest
    → IsBest fits i longest before → ((k : ℕ) → k < i → get_or fits k 0 ≤ longest) → IsBest fits (i + 1) after chosen × ((k : ℕ) → k < i + 1 → get_or fits k 0 ≤ after)
other_passed fits i longest fit after before chosen e f is short best below = (
  subst (λ (c : Option ℕ). IsBest fits (i + 1) after c) (sym e) (subst (λ (l : ℕ). IsBest fits (i + 1) l before) (sym f) (best_stays fits i longest before best)),
  below_more (λ k. get_or fits k 0 ≤ after) i (λ k h. omega (arith, below k h)) (omega arith),
)
