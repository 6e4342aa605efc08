-- What is known of a line that is being read, between two of its steps. Not part of any public clause.
use Rattle.std.specs.Prelude.{◌≡◌, ℕ, ◌+◌, ◌-◌, ◌<◌, ◌≤◌, ◌⊎◌, Bool, List, ◌++◌, length, take, drop, replicate, slice_index}
use Rattle.fax_bits.specs.Reading.{Place, Passes}
use Rattle.fax_runcodes.specs.declared.Colour.{Colour}
use Rattle.fax_runcodes.specs.declared.Colour.TheVariants.{White}
use Rattle.fax_runcodes.specs.Rows.{Elements, other, colour_at, colour_before}
use Rattle.fax_runcodes.specs.Painted.{painted, AreRising, colour_after_changes}
use Rattle.fax_mrcode.specs.declared.mode.Mode.{Mode}
use Rattle.fax_mrcode.specs.declared.mode.Offset.{Offset}
use Rattle.fax_mrcode.specs.declared.reading.Start.{Start}
use Rattle.fax_mrcode.specs.declared.reading.TakenStep.{TakenStep}
use Rattle.fax_mrcode.specs.declared.reading.near.Near.{Near}
use Rattle.fax_mrcode.specs.Modes.{IsAt}
use Rattle.fax_mrcode.specs.Places.{run_start}
use Rattle.fax_mrcode.specs.Lines.{Step, Steps}
use Rattle.fax_mrcode.specs.Windows.{ShowsAfter, FirstAre}

-- A step may start here: not after the width, against changing places of a reference of this width.
pub record StepsAt (changes : List ℕ) (width from : ℕ) : Type 0 where
  pub within : from ≤ width
  pub rising : AreRising 0 changes width
  pub few : width ≤ 2432

-- A changing place of the reference changes its colour from this one exactly where it has an index
-- like this one. Those before the index lie no further right than a0 (`from` is a0 + 1).
pub record IsCursor (changes : List ℕ) (colour : Colour) (from index : ℕ) : Type 0 where
  pub parity : colour_after_changes index ≡ colour
  pub passed : (k : ℕ) → k < index
      → k < length changes → colour_after_changes k ≡ colour → slice_index changes k < from
  pub few : index ≤ length changes + 1

-- It is the index of b1, or past the end where b1 is the width.
pub record IsIndexOfB1 (changes : List ℕ) (colour : Colour) (from index : ℕ) : Type 0 where
  pub cursor : IsCursor changes colour from index
  pub right : index < length changes → from ≤ slice_index changes index

-- how many changing places further back than after b1 the next b1 is looked for: 2, or none where a1 lies at most one element left of b1
abbrev pub IsBack : Offset → ℕ → Type 0
IsBack offset back = (back ≡ 2) ⊎ ((back ≡ 0) × ((a1 b1 : ℕ) → IsAt offset a1 b1 → b1 ≤ a1 + 1))

-- A step may start here: the elements left of a0 are painted, and the colour at a0 = -1 is white.
pub record IsStart (changes : List ℕ) (width : ℕ) (line : Elements) (start : Start) : Type 0 where
  pub size : length line ≡ run_start start.from
  pub within : start.from ≤ width + 1
  pub first : start.from ≡ 0 → start.colour ≡ White
  pub cursor : start.from ≤ width → IsCursor changes start.colour start.from start.index

-- a row that a line may become: its elements so far, and then at a0 this colour
pub record Completes (width : ℕ) (line : Elements) (from : ℕ) (colour : Colour) (row : Elements) :
    Type 0 where
  pub same_width : length row ≡ width
  pub front : (k : ℕ) → k < length line → colour_at row k ≡ colour_at line k
  pub here : from ≤ width → colour_before row from ≡ colour

-- A step in this mode was taken from one start to the next: each row that the line may become after
-- it is one that it might become before it, and has this step.
pub record TakesStep (reference : Elements) (width : ℕ) (mode : Mode) (text : List Bool)
    (before : Elements) (start : Start) (later : Elements) (next : Start) : Type 0 where
  pub place : ℕ
  pub from_is : next.from ≡ place + 1
  pub right : start.from ≤ place
  pub completes : (row : Elements) → Completes width later next.from next.colour row
      → Completes width before start.from start.colour row
  pub step : (row : Elements) → Completes width later next.from next.colour row
      → Step reference row start.from mode text place

-- the elements so far, with those of a step after them: first in the colour at a0, then in the other
abbrev pub after_step : Elements → Start → TakenStep → Elements
after_step line start taken =
    (line ++ replicate taken.first start.colour) ++ replicate taken.second (other start.colour)

-- A step in this mode is taken from here, whatever elements stand left of a0.
pub record IsTaken (changes : List ℕ)
    (width : ℕ) (mode : Mode) (text : List Bool) (start : Start) (taken : TakenStep) : Type 0 where
  pub next : (line : Elements) → IsStart changes width line start
      → IsStart changes width (after_step line start taken) taken.next
  pub takes : (line : Elements)
      → IsStart changes width line start → TakesStep (painted White 0 changes width)
      width mode text line start (after_step line start taken) taken.next

-- Steps with this text were taken from one start to the next: each row that the line may become after
-- them is one that it might become before them, and has these steps.
pub record TakesSteps (reference : Elements) (width : ℕ) (text : List Bool)
    (before : Elements) (start : Start) (later : Elements) (next : Start) : Type 0 where
  pub modes : List Mode
  pub right : start.from < next.from
  pub completes : (row : Elements) → Completes width later next.from next.colour row
      → Completes width before start.from start.colour row
  pub steps : (row : Elements) → Completes width later next.from next.colour row
      → Steps reference row start.from modes text next.from

-- From old to new steps were passed that each row has which the line may become.
pub record StepsSoFar (reference : Elements)
    (width : ℕ) (old new : Place) (line : Elements) (start : Start) : Type 0 where
  pub modes : List Mode
  pub text : List Bool
  pub passes : Passes old new text
  pub steps : (row : Elements) → Completes width line start.from start.colour row
      → Steps reference row 0 modes text start.from

-- ---- lines that have their whole width from the start on

-- From a place on a line of this width has one colour.
pub record Rests (width : ℕ) (line : Elements) (place : ℕ) (colour : Colour) : Type 0 where
  pub wide : length line ≡ width
  pub within : place ≤ width
  pub rest : drop place line ≡ replicate (width - place) colour

-- the elements left of a0
abbrev pub left_of_a0 : Elements → Start → Elements
left_of_a0 line start = take (run_start start.from) line

-- A step may start here, in a line of the whole width, which has the colour at a0 from there on.
pub record IsStartIn (changes : List ℕ) (width : ℕ) (line : Elements) (start : Start) : Type 0 where
  pub is_start : IsStart changes width (left_of_a0 line start) start
  pub rests : Rests width line (run_start start.from) start.colour

-- where the step of a window starts: the colour at a0 is that up to the changing place of the index
abbrev pub start_of : Near → Start
start_of near =
    record { from = near.from; colour = colour_after_changes near.index; index = near.index }

-- Steps were taken in a line of the whole width, and their text is in front of the bits that are ahead then.
pub record TakesNear (reference : Elements)
    (width : ℕ) (before : Elements) (near : Near) (later : Elements) (next : Near) : Type 0 where
  pub text : List Bool
  pub first : FirstAre near.ahead.window near.ahead.left next.ahead.left text
  pub after : ShowsAfter near.ahead.window near.ahead.left next.ahead.window next.ahead.left
  pub takes : TakesSteps reference width text (left_of_a0 before (start_of near))
      (start_of near) (left_of_a0 later (start_of next)) (start_of next)
