-- All lines of a server, in forty slots: what is done with them, and what each goes through. Lists of operations have the newest
-- first. (This project's profile.)
use Rattle.std.specs.Prelude.{◌≡◌, ℕ, ◌<◌, ◌≤◌, ◌+◌, ◌-◌, ◌%◌, Bool, true, false, nat_eq, List, [], ◌∷◌, ◌++◌, length, map, slice_get, slice_index_or, Option, Some, if◌then◌else◌}
use Rattle.std.specs.List.{All}
use Rattle.fax_line.specs.declared.asked.LineAnswer.{LineAnswer}
use Rattle.fax_line.specs.declared.asked.LineRequest.{LineRequest}
use Rattle.fax_line.specs.Actions.{Action, Asks, Frees, LineValue, Rests, Turns, Wakes, leg_begun}
use Rattle.fax_line.specs.LegPeers.{peers_after}
use Rattle.fax_line.specs.Places.{GoesInPlace, IsAwakeAfter, IsBegun, IsNewPlace, PlaceValue, StaysHeld, TellsVisit, Visit, WaitsStill, actions_by, is_at_rest, visit_at}

-- the lines, in the order in which they were added, and the slot that has the next turn
pub record LinesValue : Type 0 where
  pub lines : List PlaceValue
  pub slot : ℕ

-- Line i, counted from 0, stands in slot i mod 40.
abbrev pub most_slots : ℕ
most_slots = 40

abbrev pub slot_of : ℕ → ℕ
slot_of line = line % 40

-- the slot after a slot
abbrev pub slot_after : ℕ → ℕ
slot_after slot = if nat_eq slot 39 then 0 else slot + 1

-- the slot before a slot: the one that had the last turn, where this one has the next
abbrev pub slot_before : ℕ → ℕ
slot_before slot = if nat_eq slot 0 then 39 else slot - 1

-- which lines are at rest at a moment
abbrev pub rests_at : ℕ → List PlaceValue → ℕ → Bool
rests_at now lines line = slice_index_or (map (is_at_rest now) lines) line false

-- which lines were turned in the last turns of their slots
abbrev pub have_turned : List PlaceValue → List Bool
have_turned lines = map (λ place. place.turned) lines

-- which lines wait
abbrev pub waits_of : List PlaceValue → ℕ → Bool
waits_of lines line = slice_index_or (map (λ place. place.waits) lines) line false

-- what is done with each line where this slot has its turn at this moment
abbrev pub visits_at : (slot now : ℕ) → List PlaceValue → ℕ → Visit
visits_at slot now lines line =
    visit_at (nat_eq (slot_of line) slot) (waits_of lines line) (rests_at now lines line) now

-- What is done: lines are visited, one each; or something is asked of one line, which answers, where it is there; or one is told
-- that something may have come for it.
pub data Operation : Type 0 where
  VisitsLines : (visits : ℕ → Visit) → Operation
  AsksLine : (line now : ℕ) → (what : LineRequest) → (answer : Option LineAnswer) → Operation
  WakesLine : (line : ℕ) → Operation

-- what of it is done with one line
abbrev pub actions_of : ℕ → List Operation → List Action
actions_of line [] = []
actions_of line (VisitsLines visits ∷ earlier) = actions_by (visits line) ++ actions_of line earlier
actions_of line (AsksLine asked now what answer ∷ earlier) = if nat_eq line asked
    then Asks now what answer ∷ actions_of line earlier else actions_of line earlier
actions_of line (WakesLine woken ∷ earlier) = if nat_eq line woken
    then Wakes ∷ actions_of line earlier else actions_of line earlier

-- Each line went through its own actions, by itself.
pub record EachGoes (actions : ℕ → List Action) (old new : List PlaceValue) : Type 0 where
  pub as_many : length new ≡ length old
  pub each : (line : ℕ) (other : PlaceValue) → line < length old
      → GoesInPlace (actions line) (slice_index_or old line other) (slice_index_or new line other)

abbrev pub LinesWent : List Operation → List PlaceValue → List PlaceValue → Type 0
LinesWent operations old new = EachGoes (λ line. actions_of line operations) old new

-- so many lines, and of each this is true of what it was and what it is
pub record EachComes (comes : ℕ → PlaceValue → PlaceValue → Type 0) (old new : List PlaceValue) :
    Type 0 where
  pub as_many : length new ≡ length old
  pub each : (number : ℕ) (other : PlaceValue) → number < length old
      → comes number (slice_index_or old number other) (slice_index_or new number other)

-- THE TURN OF A SLOT TELLS of each line that was turned in it what that line's ticks told. What the wires of the others hold back
-- stays.
abbrev pub VisitsTell : (ℕ → Visit) → List PlaceValue → List PlaceValue → Type 0
VisitsTell visits old new = EachComes (λ number. TellsVisit (visits number)) old new

-- lines that wait stay as they are, and no other begins to
abbrev pub AllWaitStill : List PlaceValue → List PlaceValue → Type 0
AllWaitStill old new = EachComes (λ number. WaitsStill) old new

-- the same lines wait
abbrev pub WaitAlike : List PlaceValue → List PlaceValue → Type 0
WaitAlike old new = EachComes (λ number before after. after.waits ≡ before.waits) old new

-- the same lines are awake
abbrev pub AwakeAlike : List PlaceValue → List PlaceValue → Type 0
AwakeAlike old new = EachComes (λ number before after. after.awake ≡ before.awake) old new

-- After these visits a line is awake that was, and was not turned.
abbrev pub AwakeAfter : (ℕ → Visit) → List PlaceValue → List PlaceValue → Type 0
AwakeAfter visits old new = EachComes (λ number. IsAwakeAfter (actions_by (visits number))) old new

-- none waits
abbrev pub AreFree : List PlaceValue → Type 0
AreFree lines = All (λ place. place.waits ≡ false) lines

-- none waits any more, and nothing else has changed
abbrev pub AreFreed : List PlaceValue → List PlaceValue → Type 0
AreFreed old new =
    EachComes (λ number before after. after ≡ record before { waits = false }) old new

-- one is awake, and nothing else has changed
abbrev pub WakesOne : ℕ → List PlaceValue → List PlaceValue → Type 0
WakesOne line old new = EachComes (λ number before after.
    after ≡ (if nat_eq number line then record before { awake = true } else before)) old new

-- WHAT IS ASKED OF A LINE FREES ITS WIRE, where a call begins by it, on the leg of that call; and the peers of its legs are what that
-- makes of them. Every other line is left as it was.
abbrev pub IsFreed : Bool → LineRequest → Option LineAnswer → PlaceValue → PlaceValue → Type 0
IsFreed true what answer old new = Frees (leg_begun answer) old.line.holding new.line.holding
    × (new.line.peers ≡ peers_after what answer old.line.peers)
IsFreed false what answer old new = new ≡ old

abbrev pub AskFrees : ℕ
    → LineRequest → Option LineAnswer → List PlaceValue → List PlaceValue → Type 0
AskFrees line what answer old new =
    EachComes (λ number. IsFreed (nat_eq number line) what answer) old new

-- what the wires of all lines hold back stays, and so do the peers of their legs
abbrev pub AllStayHeld : List PlaceValue → List PlaceValue → Type 0
AllStayHeld old new = EachComes (λ number. StaysHeld) old new

abbrev pub AreNew : List PlaceValue → Type 0
AreNew lines = All IsNewPlace lines

-- no event came to them, and each is restored with calls of its own, where it has some
abbrev pub AreBegun : List PlaceValue → Type 0
AreBegun lines = All IsBegun lines

-- a line joins the others, after them
pub record IsAdded (line : LineValue) (old new : List PlaceValue) : Type 0 where
  pub place : PlaceValue
  pub lines : new ≡ old ++ place ∷ []
  pub line_is : place.line ≡ line

-- the line at a place
pub record IsLineAt (i : ℕ) (lines : List PlaceValue) (line : LineValue) : Type 0 where
  pub place : PlaceValue
  pub there : slice_get lines i ≡ Some place
  pub line_is : place.line ≡ line

-- The moments of what is done with a line never go back, up to this one. To be woken has no moment.
abbrev pub RiseTo : List Action → ℕ → Type 0
RiseTo [] latest = Unit {0}
RiseTo (Turns now ∷ earlier) latest = (now ≤ latest) × RiseTo earlier now
RiseTo (Rests now ∷ earlier) latest = (now ≤ latest) × RiseTo earlier now
RiseTo (Asks now what answer ∷ earlier) latest = (now ≤ latest) × RiseTo earlier now
RiseTo (Wakes ∷ earlier) latest = RiseTo earlier latest

-- So it is of each line.
abbrev pub AreRising : List Operation → ℕ → Type 0
AreRising operations latest = (line : ℕ) → RiseTo (actions_of line operations) latest
