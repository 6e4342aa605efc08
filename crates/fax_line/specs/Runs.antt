-- A whole run: what was ordered, and the operations that it came to. Lists have the newest first. (This project's profile.)
use Rattle.std.specs.Prelude.{◌≡◌, ℕ, suc, ◌-◌, ◌^◌, max, nat_eq, Bool, true, false, List, [], ◌∷◌, Option, Some, None, ◌⊎◌}
use Rattle.fax_gateway.specs.Wires.{Grows}
use Rattle.fax_line.specs.declared.asked.LineAnswer.{LineAnswer}
use Rattle.fax_line.specs.declared.asked.LineRequest.{LineRequest}
use Rattle.fax_line.specs.declared.order.Order.TheVariants as order
use Rattle.fax_line.specs.Operations.{AsksLine, Operation, VisitsLines, WakesLine, slot_after, slot_of}
use Rattle.fax_line.specs.Places.{Passes, RestsAt, TurnsAt, Visit, is_turn}
use Rattle.fax_line.specs.Words.{Answers, Asks, Word}

-- What was done: a turn of the next slot, but for those lines that wait after it, since something of their turns is to be stored; the
-- turns of those that waited, where that was done; what was asked of a line with its answer, where there is none if there is no
-- such line; or a line that was woken. But for the second each is an order.
pub data DoneOrder : Type 0 where
  Turned : (now : ℕ) → (visits : ℕ → Visit) → DoneOrder
  Stored : (visits : ℕ → Visit) → DoneOrder
  AskedOf : (line now : ℕ) → (what : LineRequest) → (answer : Option LineAnswer) → DoneOrder
  Woken : (line : ℕ) → DoneOrder

-- what passed between
abbrev pub words_of : List DoneOrder → List Word
words_of [] = []
words_of (Turned now visits ∷ earlier) = Asks (Some (order.Turn now)) ∷ words_of earlier
words_of (Stored visits ∷ earlier) = words_of earlier
words_of (AskedOf line now what answer ∷ earlier) =
    Answers line answer ∷ Asks (Some (order.Ask line now what)) ∷ words_of earlier
words_of (Woken line ∷ earlier) = Asks (Some (order.Wake line)) ∷ words_of earlier

-- A moment before another that came reads as the latest.
abbrev pub latest : List DoneOrder → ℕ
latest [] = 0
latest (Turned now visits ∷ earlier) = max (latest earlier) now
latest (Stored visits ∷ earlier) = latest earlier
latest (AskedOf line now what answer ∷ earlier) = max (latest earlier) now
latest (Woken line ∷ earlier) = latest earlier

-- Slots have their turns one after the other, beginning with this one.
abbrev pub next_slot : ℕ → List DoneOrder → ℕ
next_slot first [] = first
next_slot first (Turned now visits ∷ earlier) = slot_after (next_slot first earlier)
next_slot first (Stored visits ∷ earlier) = next_slot first earlier
next_slot first (AskedOf line now what answer ∷ earlier) = next_slot first earlier
next_slot first (Woken line ∷ earlier) = next_slot first earlier

-- the operations: one for each
abbrev pub operations_of : List DoneOrder → List Operation
operations_of [] = []
operations_of (Turned now visits ∷ earlier) = VisitsLines visits ∷ operations_of earlier
operations_of (Stored visits ∷ earlier) = VisitsLines visits ∷ operations_of earlier
operations_of (AskedOf line now what answer ∷ earlier) =
    AsksLine line (max (latest earlier) now) what answer ∷ operations_of earlier
operations_of (Woken line ∷ earlier) = WakesLine line ∷ operations_of earlier

-- which lines were turned by visits
abbrev pub turned_in : (ℕ → Visit) → ℕ → Bool
turned_in visits line = is_turn (visits line)

-- ---- EACH LINE HAS ITS TURN IN EACH ONE OF ITS SLOT: it is turned, or left at rest, or it was turned, and waits from that moment on. What
-- is to be stored of such a turn is stored before the next one of its slot.
abbrev pub IsServed : (in_slot : Bool) → ℕ → Visit → (before after : Option ℕ) → Type 0
IsServed true now visit (Some moment) after = ⊥
IsServed false now visit (Some moment) after = (visit ≡ Passes) × (after ≡ Some moment)
IsServed false now visit None after = (visit ≡ Passes) × (after ≡ None)
IsServed true now visit None after = ((visit ≡ RestsAt now) × (after ≡ None))
    ⊎ ((visit ≡ TurnsAt now) × (after ≡ None)) ⊎ ((visit ≡ Passes) × (after ≡ Some now))

abbrev pub visit_stored : Option ℕ → Visit
visit_stored None = Passes
visit_stored (Some moment) = TurnsAt moment

-- so that these wait, and since these moments; nothing is asked of them
abbrev pub AreServed : ℕ → List DoneOrder → (ℕ → Option ℕ) → Type 0
AreServed first [] wait = (line : ℕ) → wait line ≡ None
AreServed first (Turned now visits ∷ earlier) wait = (before : ℕ → Option ℕ)
    × AreServed first earlier before
    × ((line : ℕ) → IsServed (nat_eq (slot_of line) (next_slot first earlier))
    (max (latest earlier) now) (visits line) (before line) (wait line))
AreServed first (Stored visits ∷ earlier) wait = (before : ℕ → Option ℕ)
    × AreServed first earlier before
    × ((line : ℕ) → (visits line ≡ visit_stored (before line)) × (wait line ≡ None))
AreServed first (AskedOf line now what answer ∷ earlier) wait =
    AreServed first earlier wait × (wait line ≡ None)
AreServed first (Woken line ∷ earlier) wait = AreServed first earlier wait

abbrev pub none_waits : ℕ → Option ℕ
none_waits line = None

-- ---- the end

-- how many orders were done
abbrev pub orders_done : List DoneOrder → ℕ
orders_done [] = 0
orders_done (Turned now visits ∷ earlier) = suc (orders_done earlier)
orders_done (Stored visits ∷ earlier) = orders_done earlier
orders_done (AskedOf line now what answer ∷ earlier) = suc (orders_done earlier)
orders_done (Woken line ∷ earlier) = suc (orders_done earlier)

-- a run ends where no order is given any more, or after as many orders as there are moments
abbrev pub most_orders : ℕ
most_orders = 2 ^ 64 - 1

abbrev pub Ends : List DoneOrder → Option (List Word) → Option (List Word) → Type 0
Ends done before after = Grows (Asks None ∷ words_of done) before after
    ⊎ ((orders_done done ≡ most_orders) × Grows (words_of done) before after)
