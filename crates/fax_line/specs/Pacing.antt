-- What a run makes of what gives its orders. Lists have the newest first. (This project's profile.)
use Rattle.std.specs.Prelude.{◌≡◌, ℕ, List, [], ◌∷◌, Option, Some, None, ◌⊎◌}
use Rattle.fax_line.specs.declared.asked.LineAnswer.{LineAnswer}
use Rattle.fax_line.specs.declared.order.Order.{Order}
use Rattle.fax_line.specs.declared.order.Order.TheVariants as order
use Rattle.fax_line.specs.Runs.{AskedOf, DoneOrder, Stored, Turned, Woken, most_orders, orders_done}

-- Where what is to be stored of turns is stored, it sees that three times.
abbrev pub SeesStored : {P : Type 0} → (P → P → Type 0) → P → P → Type 0
SeesStored {P} sees old new =
    (new ≡ old) ⊎ ((put : P) × (kept : P) × sees old put × sees put kept × sees kept new)

-- After a turn it sees what that came to, once; and then what was stored, where something was.
abbrev pub SeesTurn : {P : Type 0} → (P → P → Type 0) → P → P → Type 0
SeesTurn {P} sees old new = (seen : P) × sees old seen × SeesStored sees seen new

-- What it saw last is that turns have ended, with what keeps the pages as this: that of which the jobs' ends were not noted yet.
abbrev pub SawStored : {K P : Type 0} → (K → P → P → Type 0) → K → P → Type 0
SawStored {K} {P} sees_stored store new = (before : P) × sees_stored store before new

-- IT GIVES EACH ORDER THAT WAS DONE, one after the other, and nothing else is done with it: after a turn it sees what that came to; after
-- what it asked of a line it is told the answer, once, before it is asked for the next order. What waits may be stored before that.
abbrev pub IsPaced : {P : Type 0} → (Option Order → P → P → Type 0)
    → (ℕ → Option LineAnswer → P → P → Type 0) → (P → P → Type 0) → List DoneOrder → P → P → Type 0
IsPaced gives hears sees [] old new = new ≡ old
IsPaced {P} gives hears sees (Turned now visits ∷ earlier) old new =
    (before : P) × (given : P) × IsPaced gives hears sees earlier old before
    × gives (Some (order.Turn now)) before given × SeesTurn sees given new
IsPaced gives hears sees (Stored visits ∷ earlier) old new =
    IsPaced gives hears sees earlier old new
IsPaced {P} gives hears sees (AskedOf line now what answer ∷ earlier) old new =
    (before : P) × (given : P) × (seen : P) × IsPaced gives hears sees earlier old before
    × gives (Some (order.Ask line now what)) before given
    × SeesStored sees given seen × hears line answer seen new
IsPaced {P} gives hears sees (Woken line ∷ earlier) old new = (before : P)
    × IsPaced gives hears sees earlier old before × gives (Some (order.Wake line)) before new

-- a run ends where it gives no order any more, or after as many orders as there are moments
abbrev pub PacedToEnd : {P : Type 0} → (Option Order → P → P → Type 0)
    → (ℕ → Option LineAnswer → P → P → Type 0) → (P → P → Type 0) → List DoneOrder → P → P → Type 0
PacedToEnd {P} gives hears sees done old new =
    (last : P) × SeesStored sees last new
    × (((before : P) × IsPaced gives hears sees done old before × gives None before last)
    ⊎ ((orders_done done ≡ most_orders) × IsPaced gives hears sees done old last))
