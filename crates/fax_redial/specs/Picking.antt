-- Which job is tried again next. (This project's profile.)
use Rattle.std.specs.Prelude.{ℕ, ◌&&◌, Bool, not, List}
use Rattle.std.specs.List.{list_any}
use Rattle.fax_queue.specs.Queues.{QueueValue}
use Rattle.fax_redial.specs.Befalls.{Tries, is_under_way}
use Rattle.fax_redial.specs.Owing.{is_owed}
use Rattle.fax_redial.specs.Retrying.{is_due}
use Rattle.fax_spool.specs.Torn.{CallName}
use Rattle.fax_undelivered.specs.Calls.{CallValue, is_named}

abbrev pub name_of : CallValue → CallName
name_of call = record { life = call.life; call = call.call; line = call.line }

-- It may be tried where no try of it is on, and its line does not owe it.
abbrev pub may_try : List QueueValue → Tries → CallName → Bool
may_try queues tries name = not (is_under_way name tries) && not (is_owed queues name)

-- it waits for a word, as one that lacks a page
abbrev pub is_left : List CallName → CallValue → Bool
is_left left call = list_any (λ name. is_named name call) left

-- IT IS TO BE TRIED BY NOW where its time has come too, and it does not wait for a word.
abbrev pub is_next : List CallName → List QueueValue → Tries → (now : ℕ) → List ℕ → CallValue → Bool
is_next left queues tries now spans call =
    is_due call.card.outcome call.card.tries call.card.at now spans
    && not (is_left left call) && may_try queues tries (name_of call)
