-- The numbers of the emitted images are fixed by what was given and heard: no page number is free.
use Rattle.std.specs.Prelude.{◌≡◌, ℕ, ◌+◌, true, false, List, [], ◌∷◌, Option, Some, None, option_map}
use Rattle.fax_jobs.specs.Jobs.{JobValue}
use Rattle.fax_call.specs.Emission.{Emission, Mark, Gave, Acknowledged, Refused, Begins, elements_given, emitted_at, Reply, Answered, replied, Emits}

-- the page that an answer calls for
abbrev pub called_for : Option ℕ → Reply → Option ℕ
called_for None r = Some 0
called_for (Some m) (Answered true) = Some (m + 1)
called_for (Some m) (Answered false) = Some m
called_for (Some m) r = None

abbrev pub number_by : Option Emission → Reply → Option (Option ℕ) → Option (Option ℕ)
number_by None r last = last
number_by (Some emission) r None = None
number_by (Some emission) r (Some m) = option_map (λ n. Some n) (called_for m r)

-- the page emitted last, `Some None` where there was none yet; None where an image was emitted that no answer called for
abbrev pub numbered : List Mark → Option (Option ℕ)
numbered [] = Some None
numbered (Begins ∷ marks) = Some None
numbered (Acknowledged ∷ marks) = numbered marks
numbered (Refused ∷ marks) = numbered marks
numbered (Gave e ∷ marks) =
    number_by (emitted_at (elements_given marks) e) (replied marks) (numbered marks)

abbrev pub NumbersAreFixed : Type 0
NumbersAreFixed = (job : JobValue) (marks : List Mark) (last : Option ℕ)
    → Emits job marks last → numbered marks ≡ Some last
