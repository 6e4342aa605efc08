-- Laws of what passes at a desk. Lists have the newest first. (This project's profile.)
use Rattle.std.specs.Prelude.{◌≡◌, ℕ, Bool, true, false, List, [], ◌∷◌, ◌++◌, Option, Some, None}
use Rattle.fax_line.specs.declared.asked.LineAnswer.{LineAnswer}
use Rattle.fax_desk.specs.declared.card.Card.{Card}
use Rattle.fax_desk.specs.declared.desk.Desk.{Desk}
use Rattle.fax_desk.specs.declared.desk.OrderEnd.{OrderEnd}
use Rattle.fax_desk.specs.declared.desk.LookOutcome.TheVariants as looked
use Rattle.fax_desk.specs.declared.desk.Waits.{Waits}
use Rattle.fax_desk.specs.declared.next.Ask.{Ask}
use Rattle.fax_desk.specs.declared.next.Next.{Next}
use Rattle.fax_desk.specs.declared.next.Next.TheVariants as next
use Rattle.fax_desk.specs.declared.next.Order.{Order}
use Rattle.fax_control.specs.declared.word.Bounds.{Bounds}
use Rattle.fax_desk.specs.declared.view.LineView.{LineView}
use Rattle.fax_desk.specs.Budgets.{has_memory, is_full_at}
use Rattle.fax_desk.specs.Desks.{done_of, line_named, next_at, next_ring}
use Rattle.fax_desk.specs.Said.{unasked_if, waits_if}
use Rattle.fax_desk.specs.declared.reload.Reload.{Reload}
use Rattle.fax_desk.specs.declared.stop.Stop.TheVariants as stop
use Rattle.fax_desk.specs.Reloads.{takes_calls}
use Rattle.fax_desk.specs.Spools.{run_is_over}
use Rattle.fax_desk.specs.Stops.{takes_rings}
use Rattle.fax_desk.specs.Words.{reply_to}

-- A word of one who asked, that came to this; a question that nobody answered in its time, and its order; and what a line answered to
-- the order that waited, which answered someone.
pub data DeskEvent : Type 0 where
  Said : (asker : ℕ) → (came : Next) → DeskEvent
  Lapsed : (order : Order) → DeskEvent
  Told : (told : Option LineAnswer) → (ended : Option OrderEnd) → DeskEvent

-- So it passed, by the contracts of `step`, `look` and `done`, from a desk at which no order waits to one at which this does.
abbrev pub Passes : List DeskEvent → Option Waits → Type 0
Passes [] waits = waits ≡ None
Passes (Said asker came ∷ earlier) waits = Passes earlier None × (waits ≡ waits_if asker came)
Passes (Lapsed order ∷ earlier) waits =
    Passes earlier None × (waits ≡ unasked_if (looked.Orders order))
Passes (Told told ended ∷ earlier) waits = (cards : List Card) × (before : Option Waits)
    × Passes earlier before × (ended ≡ done_of cards before told) × (waits ≡ None)

-- the orders that were given, and what was answered to them
abbrev pub order_of : Next → List Order
order_of (next.Orders order) = order ∷ []
order_of (next.Replies reply) = []
order_of (next.Reports line) = []
order_of next.Undelivered = []
order_of next.Discards = []
order_of next.Retries = []
order_of next.Status = []
order_of next.Metrics = []
order_of next.Events = []
order_of (next.Frames line) = []
order_of next.Reloads = []

abbrev pub orders_of : List DeskEvent → List Order
orders_of [] = []
orders_of (Said asker came ∷ earlier) = order_of came ++ orders_of earlier
orders_of (Lapsed order ∷ earlier) = order ∷ orders_of earlier
orders_of (Told told _ ∷ earlier) = orders_of earlier

abbrev pub told_of : List DeskEvent → List (Option LineAnswer)
told_of [] = []
told_of (Said asker came ∷ earlier) = told_of earlier
told_of (Lapsed order ∷ earlier) = told_of earlier
told_of (Told told _ ∷ earlier) = told ∷ told_of earlier

-- ---- who asked, and who was answered

abbrev pub who : Option ℕ → List ℕ
who None = []
who (Some asker) = asker ∷ []

abbrev pub who_waits : Option Waits → List ℕ
who_waits None = []
who_waits (Some waits) = who waits.asker

abbrev pub who_is_told : Option OrderEnd → List ℕ
who_is_told None = []
who_is_told (Some done) = who done.asker

abbrev pub answered_at_once : ℕ → Next → List ℕ
answered_at_once asker (next.Orders order) = []
answered_at_once asker (next.Replies reply) = asker ∷ []
answered_at_once asker (next.Reports line) = asker ∷ []
answered_at_once asker next.Undelivered = asker ∷ []
answered_at_once asker next.Discards = asker ∷ []
answered_at_once asker next.Retries = asker ∷ []
answered_at_once asker next.Status = asker ∷ []
answered_at_once asker next.Metrics = asker ∷ []
answered_at_once asker next.Events = asker ∷ []
answered_at_once asker (next.Frames line) = asker ∷ []
answered_at_once asker next.Reloads = asker ∷ []

abbrev pub asked : List DeskEvent → List ℕ
asked [] = []
asked (Said asker came ∷ earlier) = asker ∷ asked earlier
asked (Lapsed order ∷ earlier) = asked earlier
asked (Told told _ ∷ earlier) = asked earlier

abbrev pub answered : List DeskEvent → List ℕ
answered [] = []
answered (Said asker came ∷ earlier) = answered_at_once asker came ++ answered earlier
answered (Lapsed order ∷ earlier) = answered earlier
answered (Told told ended ∷ earlier) = who_is_told ended ++ answered earlier

-- EACH WORD IS ANSWERED ONCE, IN THE ORDER IN WHICH THEY CAME, but for the one whose order waits.
abbrev pub AnsweredOnce : Type 0
AnsweredOnce = (passed : List DeskEvent) (waits : Option Waits)
    → Passes passed waits → who_waits waits ++ answered passed ≡ asked passed

-- An order that was given: by a word of this asker, or by a question that nobody answered.
abbrev pub Gives : DeskEvent → Option ℕ → Order → Type 0
Gives (Said asker (next.Orders given)) (Some who_asked) order =
    (asker ≡ who_asked) × (given ≡ order)
Gives (Said asker (next.Orders given)) None order = ⊥
Gives (Said asker (next.Replies reply)) who_asked order = ⊥
Gives (Said asker (next.Reports line)) who_asked order = ⊥
Gives (Said asker next.Undelivered) who_asked order = ⊥
Gives (Said asker next.Discards) who_asked order = ⊥
Gives (Said asker next.Retries) who_asked order = ⊥
Gives (Said asker next.Status) who_asked order = ⊥
Gives (Said asker next.Metrics) who_asked order = ⊥
Gives (Said asker next.Events) who_asked order = ⊥
Gives (Said asker (next.Frames line)) who_asked order = ⊥
Gives (Said asker next.Reloads) who_asked order = ⊥
Gives (Lapsed given) None order = given ≡ order
Gives (Lapsed given) (Some who_asked) order = ⊥
Gives (Told told _) who_asked order = ⊥

-- WHO IS ANSWERED AFTER AN ORDER gave that order by the word just before, and the answer is what its line answered to it, told of
-- that line: so what was answered `ok` was done.
abbrev pub AnswersWhatWasDone : Type 0
AnswersWhatWasDone =
    (told : Option LineAnswer) (done : OrderEnd) (earlier : List DeskEvent) (waits : Option Waits)
    → Passes (Told told (Some done) ∷ earlier) waits
    → (given : DeskEvent) × (before : List DeskEvent) × (order : Order) × (earlier ≡ given ∷ before)
    × Gives given done.asker order × (done.line ≡ order.line) × (done.reply ≡ reply_to order told)

-- AN ORDER GOES TO THE LINE THAT WAS NAMED.
abbrev pub OrdersTheNamed : Type 0
OrdersTheNamed =
    (desk : Desk) (lines : ℕ → Option LineView) (name : List ℕ) (said : Ask) (given : Order)
    → next_at desk lines name said ≡ next.Orders given
    → line_named desk.names.items name ≡ Some given.line

-- NO RING COMES TO AN ORDER at a server that stops, or whose lines take no call any more, since another run is to serve them.
abbrev pub NoRingWhileStopping : Type 0
NoRingWhileStopping = (desk : Desk) (lines : ℕ → Option LineView)
    (has_failed : Bool) (name tag : Option (List ℕ)) (bounds : Bounds) (given : Order)
    → next_ring desk lines has_failed name tag bounds ≡ next.Orders given
    → (takes_rings desk.stop ≡ true) × (takes_calls desk.stop desk.reload ≡ true)

-- NO RING COMES TO AN ORDER while the spool takes no page.
abbrev pub NoRingWithoutASpool : Type 0
NoRingWithoutASpool = (desk : Desk) (lines : ℕ → Option LineView)
    (has_failed : Bool) (name tag : Option (List ℕ)) (bounds : Bounds) (given : Order)
    → next_ring desk lines has_failed name tag bounds ≡ next.Orders given → has_failed ≡ false

-- NO RING COMES TO AN ORDER of a line of which as many pages wait as may.
abbrev pub NoRingOnAFullLine : Type 0
NoRingOnAFullLine = (desk : Desk) (lines : ℕ → Option LineView)
    (has_failed : Bool) (name tag : Option (List ℕ)) (bounds : Bounds) (given : Order)
    → next_ring desk lines has_failed name tag bounds ≡ next.Orders given
    → is_full_at desk.cards.items given.line ≡ false

-- NO RING COMES TO AN ORDER whose line may come to hold more than the others leave of what all together may hold.
abbrev pub NoRingBeyondTheMemory : Type 0
NoRingBeyondTheMemory = (desk : Desk) (lines : ℕ → Option LineView)
    (has_failed : Bool) (name tag : Option (List ℕ)) (bounds : Bounds) (given : Order)
    → next_ring desk lines has_failed name tag bounds ≡ next.Orders given
    → has_memory desk.memory desk.cards.items lines given.line ≡ true

-- NO CALL ENDS FOR A RELOAD: a run that was not told to stop, and whose spool has not failed, is over only where no line has a call.
abbrev pub NoCallEndsForAReload : Type 0
NoCallEndsForAReload = (asked : Reload) (now : ℕ) (are_idle are_calm : Bool)
    → run_is_over stop.No None asked now are_idle are_calm ≡ true → are_calm ≡ true
