-- The numbers of the images emitted are a function of what was given and heard.
use Rattle.std.proofs.Common.{◌≡◌, ℕ, true, false, List, [], ◌∷◌, Option, Some, None, refl, sym, ◌∙◌, ap, option_map}
use Rattle.fax_jobs.specs.Jobs.{JobValue}
use Rattle.fax_call.specs.Emission.{Emission, Mark, Gave, Acknowledged, Refused, Begins, elements_given, emitted_at, Reply, Unasked, Asked, Answered, replied, IsAnswered, EmitsBy, Emits}
use Rattle.fax_call.specs.Numbers.{called_for, number_by, numbered, NumbersAreFixed}

called_is : (m : Option ℕ) (r : Reply) (n : ℕ) → IsAnswered m r n → called_for m r ≡ Some n
called_is None r n h = ap (λ (k : ℕ). Some k) (sym h)
called_is (Some m) Unasked n h = absurd h
called_is (Some m) Asked n h = absurd h
called_is (Some m) (Answered true) n h = ap (λ (k : ℕ). Some k) (sym h)
called_is (Some m) (Answered false) n h = ap (λ (k : ℕ). Some k) (sym h)

number_is : (job : JobValue) (marks : List Mark) (o : Option Emission) (last : Option ℕ) → EmitsBy job o (replied marks) last (Emits job marks) →
    ((m : Option ℕ) → Emits job marks m → numbered marks ≡ Some m) → number_by o (replied marks) (numbered marks) ≡ Some last
number_is job marks None last h f = f last h
number_is job marks (Some x) None h f = absurd h
number_is job marks (Some x) (Some n) h f =
    ap (number_by (Some x) (replied marks)) (f h.1 h.2) ∙ ap (option_map (λ (k : ℕ). Some k)) (called_is h.1 (replied marks) n h.3)

pub numbers_are_fixed : NumbersAreFixed
numbers_are_fixed job [] None h = refl
numbers_are_fixed job [] (Some n) h = absurd h
numbers_are_fixed job (Begins ∷ marks) None h = refl
numbers_are_fixed job (Begins ∷ marks) (Some n) h = absurd h
numbers_are_fixed job (Acknowledged ∷ marks) last h = numbers_are_fixed job marks last h
numbers_are_fixed job (Refused ∷ marks) last h = numbers_are_fixed job marks last h
numbers_are_fixed job (Gave e ∷ marks) last h =
    number_is job marks (emitted_at (elements_given marks) e) last h (λ m k. numbers_are_fixed job marks m k)
