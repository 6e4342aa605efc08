-- Words that name redial lines, and the questions of these (this project's profile).
use Rattle.std.specs.Prelude.{◌≡◌, ℕ, ◌+◌, ◌-◌, ◌^◌, min, Bool, true, false, is_some, List, Option, Some, None, String, option_map, slice_get}
use Rattle.std.specs.declared.alloc.Global.{Global}
use Rattle.fax_control.specs.declared.refusal.Refusal.{Refusal}
use Rattle.fax_control.specs.declared.refusal.Refusal.TheVariants as refusal
use Rattle.fax_control.specs.declared.word.Word.{Word}
use Rattle.fax_control.specs.declared.word.Word.TheVariants as word
use Rattle.fax_desk.specs.Desks.{asked_cards, done_of, line_named, looked_at, looked_cards, name_at, noted, state_at, step_of, stop_then}
use Rattle.fax_desk.specs.Said.{any_after, unasked_if, waits_if}
use Rattle.fax_desk.specs.Telling.{TellsOf}
use Rattle.fax_desk.specs.declared.desk.Desk.{Desk}
use Rattle.fax_desk.specs.declared.desk.LookOutcome.{LookOutcome}
use Rattle.fax_desk.specs.declared.desk.LookOutcome.TheVariants as looked
use Rattle.fax_desk.specs.declared.desk.OrderEnd.{OrderEnd}
use Rattle.fax_desk.specs.declared.desk.Waits.{Waits}
use Rattle.fax_desk.specs.declared.next.Next.{Next}
use Rattle.fax_desk.specs.declared.next.Next.TheVariants as next
use Rattle.fax_desk.specs.declared.next.Order.{Order}
use Rattle.fax_desk.specs.declared.next.Reply.{Reply}
use Rattle.fax_desk.specs.declared.next.Reply.TheVariants as reply
use Rattle.fax_desk.specs.declared.told.LineEvent.{LineEvent}
use Rattle.fax_desk.specs.declared.told.LineEvent.TheVariants as happened
use Rattle.fax_desk.specs.declared.told.LineState.{LineState}
use Rattle.fax_desk.specs.declared.view.LineView.{LineView}
use Rattle.fax_gateway.specs.declared.leg.Leg.{Leg}
use Rattle.fax_gateway.specs.declared.leg.Leg.TheVariants as legs
use Rattle.fax_line.specs.declared.asked.LineAnswer.{LineAnswer}
use Rattle.fax_line.specs.declared.asked.LineRequest.{LineRequest}
use Rattle.fax_redial.specs.Befalls.{IsAskedAt, Tries}
use Rattle.fax_redial.specs.Seeing.{seen_at, try_seen}
use Rattle.fax_redial.specs.Telling.{RedialsValue}
use Rattle.fax_redial.specs.Tries.{IsAsked, TryValue}

-- the line that a word names
abbrev pub named_in : Word → Option (List ℕ)
named_in (word.Ring ring) = option_map (λ text. text.now) ring.line
named_in (word.Peer peer) = Some peer.line.now
named_in (word.HangUp name leg) = Some name.now
named_in (word.Refuse name why) = Some name.now
named_in (word.Report name) = Some name.now
named_in (word.Undelivered line) = None
named_in (word.Discard call) = None
named_in (word.Retry call) = None
named_in word.Status = None
named_in word.Metrics = None
named_in word.Events = None
named_in (word.Frames line) = None
named_in word.Reload = None
named_in word.Stop = None

-- it is a redial line
abbrev pub names_one : Desk → Option (List ℕ) → Bool
names_one desk None = false
names_one desk (Some name) = is_some (line_named desk.names.items name)

abbrev pub refused : Refusal → Reply
refused why = reply.Refused (record { why = why })

-- A REDIAL LINE HAS NO CALLING LEG: no word rings it, gives it a peer or hangs it up. And it keeps no reports.
abbrev pub reply_of_leg : Leg → Option Reply
reply_of_leg legs.Calling = Some (refused refusal.NoCall)
reply_of_leg legs.Called = None

abbrev pub own_reply : Word → Option Reply
own_reply (word.Ring ring) = Some (refused refusal.NoPeer)
own_reply (word.Peer peer) = reply_of_leg peer.leg
own_reply (word.HangUp name leg) = reply_of_leg leg
own_reply (word.Refuse name why) = None
own_reply (word.Report name) = Some reply.Done
own_reply (word.Undelivered line) = Some (refused refusal.NoLine)
own_reply (word.Discard call) = Some (refused refusal.NoLine)
own_reply (word.Retry call) = Some (refused refusal.NoLine)
own_reply word.Status = Some (refused refusal.NoLine)
own_reply word.Metrics = Some (refused refusal.NoLine)
own_reply word.Events = Some (refused refusal.NoLine)
own_reply (word.Frames line) = Some (refused refusal.NoLine)
own_reply word.Reload = Some (refused refusal.NoLine)
own_reply word.Stop = Some (refused refusal.NoLine)

-- ---- something is asked of the line of a try, where there is one

abbrev pub AsksOne : (now : ℕ)
    → LineRequest → Option TryValue → Option LineAnswer → Option TryValue → Type 0
AsksOne now what None answer new = (answer ≡ None) × (new ≡ None)
AsksOne now what (Some held) answer new =
    (after : TryValue) × (new ≡ Some after) × IsAsked now what answer held after

abbrev pub AsksAt : (i now : ℕ)
    → LineRequest → Option LineAnswer → Option (Option TryValue) → Tries → Tries → Type 0
AsksAt i now what answer None old new = (answer ≡ None) × (new ≡ old)
AsksAt i now what answer (Some None) old new = (answer ≡ None) × (new ≡ old)
AsksAt i now what answer (Some (Some held)) old new = IsAskedAt i now what answer old new

-- ---- AN ORDER OF THE DESK IS DONE AT ONCE, on the line that it names: that is asked, the desk is told its answer, which is the reply, and what
-- happened by it is told. No order waits after it.

abbrev pub TellsIf : {L : Type 0} → (List ℕ → ℕ → LineEvent → L → L → Type 0)
    → Option (List ℕ) → Option LineEvent → ℕ → L → L → Type 0
TellsIf tells name None now before after = after ≡ before
TellsIf tells name (Some happens) now before after = TellsOf tells name happens now before after

-- ---- the order that waits at the desk, where one does, was answered so

abbrev pub reply_in : Option OrderEnd → Reply
reply_in None = reply.Done
reply_in (Some end) = end.reply

abbrev pub TellsEnd : {L : Type 0} → (List ℕ → ℕ → LineEvent → L → L → Type 0)
    → List (String Global) → Option OrderEnd → ℕ → L → L → Type 0
TellsEnd tells names None now before after = after ≡ before
TellsEnd tells names (Some end) now before after =
    TellsIf tells (name_at names end.line) end.happened now before after

pub record EndsOrder {L : Type 0} (tells : List ℕ → ℕ → LineEvent → L → L → Type 0) (now : ℕ)
    (answer : Option LineAnswer) (reply : Reply) (desk desk_after : Desk) (before after : L) :
    Type 0 where
  pub reply_is : reply ≡ reply_in (done_of desk.cards.items desk.waits answer)
  pub cards : desk_after.cards.items ≡ noted desk.cards.items desk.waits answer
  pub desk_is : desk_after ≡ record desk { waits = None; cards = desk_after.cards }
  pub told :
      TellsEnd tells desk.names.items (done_of desk.cards.items desk.waits answer) now before after

pub record Obeys {L : Type 0} (tells : List ℕ → ℕ → LineEvent → L → L → Type 0) (now : ℕ)
    (order : Order) (reply : Reply) (desk desk_after : Desk) (old new : Tries) (before after : L) :
    Type 0 where
  pub answer : Option LineAnswer
  pub asks : AsksAt order.line now order.what answer (slice_get old order.line) old new
  pub ends : EndsOrder tells now answer reply desk desk_after before after

abbrev pub order_in : Option Waits → Option Order
order_in waits = option_map (λ it. it.order) waits

-- where one waits
abbrev pub ObeysIf : {L : Type 0} → (List ℕ → ℕ → LineEvent → L → L → Type 0)
    → (now : ℕ) → Option Order → Reply → (desk desk_after : Desk) → Tries → Tries → L → L → Type 0
ObeysIf tells now None said desk desk_after old new before after =
    (desk_after ≡ desk) × (new ≡ old) × (after ≡ before)
ObeysIf tells now (Some order) said desk desk_after old new before after =
    Obeys tells now order said desk desk_after old new before after

-- ---- WHAT A WORD COMES TO: that of the called leg of a redial line, as at the desk of any line

-- the reply of the desk, or of the order that it gave
abbrev pub reply_by : Next → (came : Reply) → Reply
reply_by (next.Replies said) came = said
reply_by (next.Orders order) came = came
reply_by (next.Reports i) came = came
reply_by next.Undelivered came = came
reply_by next.Discards came = came
reply_by next.Retries came = came
reply_by next.Status came = came
reply_by next.Metrics came = came
reply_by next.Events came = came
reply_by (next.Frames i) came = came
reply_by next.Reloads came = came

pub record Steps {L : Type 0} (tells : List ℕ → ℕ → LineEvent → L → L → Type 0) (asker now : ℕ)
    (said : Word) (reply : Reply) (old new : RedialsValue) (before after : L) : Type 0 where
  pub desk : Desk
  pub waits : desk.waits ≡ waits_if asker (step_of old.desk (seen_at old.tries) false said)
  pub desk_is : desk ≡ record old.desk {
    waits = desk.waits;
    stop = stop_then said now old.desk.stop_ms old.desk.stop;
    any_from = any_after old.desk.any_from (step_of old.desk (seen_at old.tries) false said);
  }
  pub done : Reply
  pub obeys :
      ObeysIf tells now (order_in desk.waits) done desk new.desk old.tries new.tries before after
  pub reply_is : reply ≡ reply_by (step_of old.desk (seen_at old.tries) false said) done

abbrev pub StepsUnless : {L : Type 0} → (List ℕ → ℕ → LineEvent → L → L → Type 0) → (asker now : ℕ)
    → Word → (is_named : Bool) → Option Reply → Reply → RedialsValue → RedialsValue → L → L → Type 0
StepsUnless tells asker now said false own reply old new before after =
    (reply ≡ refused refusal.NoLine) × (new ≡ old) × (after ≡ before)
StepsUnless tells asker now said true (Some own) reply old new before after =
    (reply ≡ own) × (new ≡ old) × (after ≡ before)
StepsUnless tells asker now said true None reply old new before after =
    Steps tells asker now said reply old new before after

-- ---- A QUESTION IS TOLD WITH ITS TRY: one more than those that were before

abbrev pub with_try : ℕ → LineEvent → LineEvent
with_try tries (happened.Asked job tag) =
    happened.Asked (record job { tries = min (tries + 1) (2 ^ 32 - 1) }) tag
with_try tries (happened.Rung tagged) = happened.Rung tagged
with_try tries (happened.NotStored tagged) = happened.NotStored tagged
with_try tries (happened.Page page tag) = happened.Page page tag
with_try tries (happened.RefusedPage page tag) = happened.RefusedPage page tag
with_try tries (happened.Ended tagged how) = happened.Ended tagged how
with_try tries (happened.Job report tag why) = happened.Job report tag why
with_try tries (happened.Dial tagged) = happened.Dial tagged
with_try tries (happened.Connected tagged) = happened.Connected tagged

abbrev pub asked_in : ℕ → LookOutcome → Option LineEvent
asked_in tries looked.Nothing = None
asked_in tries (looked.Asks asks) = Some (with_try tries asks)
asked_in tries (looked.Orders order) = None

-- the question of redial line i is looked at, where it has a try
pub record Looks {L : Type 0} (tells : List ℕ → ℕ → LineEvent → L → L → Type 0)
    (i now : ℕ) (held : TryValue) (came : LookOutcome) (old new : RedialsValue) (before after : L) :
    Type 0 where
  pub desk : Desk
  pub cards : desk.cards.items ≡ looked_cards old.desk i (try_seen (Some held))
  pub desk_is : desk ≡ record old.desk { cards = desk.cards; waits = unasked_if came }
  pub told : L
  pub tells_so :
      TellsIf tells (name_at old.desk.names.items i) (asked_in held.job.tries came) now before told
  pub reply : Reply
  pub obeys :
      ObeysIf tells now (order_in desk.waits) reply desk new.desk old.tries new.tries told after

abbrev pub LooksIf : {L : Type 0} → (List ℕ → ℕ → LineEvent → L → L → Type 0)
    → (i now : ℕ) → Option (Option TryValue) → RedialsValue → RedialsValue → L → L → Type 0
LooksIf tells i now None old new before after = (new ≡ old) × (after ≡ before)
LooksIf tells i now (Some None) old new before after = (new ≡ old) × (after ≡ before)
LooksIf tells i now (Some (Some held)) old new before after =
    Looks tells i now held (looked_at old.desk i (try_seen (Some held))) old new before after

-- ---- what is on on redial line i, as a client is told it first

abbrev pub tries_of : Option (Option TryValue) → ℕ
tries_of None = 0
tries_of (Some None) = 0
tries_of (Some (Some held)) = held.job.tries

abbrev pub state_with : ℕ → LineState → LineState
state_with tries state = record { rung = state.rung; job = option_map (with_try tries) state.job }

abbrev pub state_if : RedialsValue → ℕ → Option LineView → Option LineState
state_if redials i None = None
state_if redials i (Some line) = option_map (state_with (tries_of (slice_get redials.tries i)))
    (state_at redials.desk.cards.items redials.desk.time.heard i line)

abbrev pub state_on : RedialsValue → ℕ → Option LineState
state_on redials i = state_if redials i (seen_at redials.tries i)

-- ---- a client is told what is on, and so the question of redial line i is open from now on, where its try asks for a call

abbrev pub AsksFrom : ℕ → Option LineView → RedialsValue → RedialsValue → Type 0
AsksFrom i None old new = new ≡ old
AsksFrom i (Some line) old new =
    (new.desk.cards.items ≡ asked_cards old.desk.cards.items old.desk.time.heard i line)
    × (new ≡ record old { desk = record old.desk { cards = new.desk.cards } })
