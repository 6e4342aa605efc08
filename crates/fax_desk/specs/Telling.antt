-- What is told of a turn, to what hears it, which is known by what is made of it then (this project's profile).
use Rattle.std.specs.Prelude.{◌≡◌, ℕ, List, [], ◌∷◌, Option, Some, None}
use Rattle.fax_desk.specs.declared.told.LineEvent.{LineEvent}
use Rattle.fax_desk.specs.declared.told.TurnEvents.{TurnEvents}

abbrev pub told_list : TurnEvents → List (Option LineEvent)
told_list told =
    told.not_stored ∷ told.page ∷ told.refused ∷ told.ended ∷ told.job ∷ told.dialled ∷ []

abbrev pub TellsIf : {L : Type 0}
    → (List ℕ → ℕ → LineEvent → L → L → Type 0) → List ℕ → ℕ → Option LineEvent → L → L → Type 0
TellsIf tells line at None old new = new ≡ old
TellsIf tells line at (Some happened) old new = tells line at happened old new

-- all of it, one after the other, of the line of this name, and nothing else
abbrev pub Tells : {L : Type 0} → (List ℕ → ℕ → LineEvent → L → L → Type 0)
    → List ℕ → ℕ → List (Option LineEvent) → L → L → Type 0
Tells tells line at [] old new = new ≡ old
Tells {L} tells line at (first ∷ others) old new =
    (mid : L) × TellsIf tells line at first old mid × Tells tells line at others mid new

abbrev pub TellsAt : {L : Type 0} → (List ℕ → ℕ → LineEvent → L → L → Type 0)
    → Option (List ℕ) → Option TurnEvents → ℕ → L → L → Type 0
TellsAt tells None told at old new = new ≡ old
TellsAt tells (Some line) None at old new = new ≡ old
TellsAt tells (Some line) (Some told) at old new = Tells tells line at (told_list told) old new

abbrev pub TellsOf : {L : Type 0}
    → (List ℕ → ℕ → LineEvent → L → L → Type 0) → Option (List ℕ) → LineEvent → ℕ → L → L → Type 0
TellsOf tells None happened at old new = new ≡ old
TellsOf tells (Some line) happened at old new = tells line at happened old new
