-- The desk: what a word, the end of an order, and a turn come to, of all lines (this project's profile).
use Rattle.std.specs.Prelude.{◌≡◌, ℕ, ◌-◌, max, Bool, true, false, not, ◌&&◌, nat_le, bytes_eq, find, length, position, string_bytes, slice_get, slice_set, option_map, List, Option, Some, None, Ok, Err, String, Vec}
use Rattle.std.specs.List.{range_with_len}
use Rattle.std.specs.declared.alloc.Global.{Global}
use Rattle.fax_control.specs.declared.answer.Answer.{Answer}
use Rattle.fax_control.specs.declared.answer.Answer.TheVariants as answer
use Rattle.fax_control.specs.declared.refusal.Refusal.TheVariants as refusal
use Rattle.fax_control.specs.declared.word.Bounds.{Bounds as SaidBounds}
use Rattle.fax_control.specs.declared.word.Word.{Word}
use Rattle.fax_control.specs.declared.word.Word.TheVariants as word
use Rattle.fax_line.specs.declared.asked.LineAnswer.{LineAnswer}
use Rattle.fax_line.specs.declared.asked.LineAnswer.TheVariants as answered
use Rattle.fax_desk.specs.declared.card.Card.{Card}
use Rattle.fax_desk.specs.declared.card.LineCounts.{LineCounts}
use Rattle.fax_desk.specs.declared.card.ReportTexts.{ReportTexts}
use Rattle.fax_desk.specs.declared.card.TagsOn.{TagsOn}
use Rattle.fax_desk.specs.declared.desk.Desk.{Desk}
use Rattle.fax_desk.specs.declared.desk.OrderEnd.{OrderEnd}
use Rattle.fax_desk.specs.declared.desk.LookOutcome.{LookOutcome}
use Rattle.fax_desk.specs.declared.desk.LookOutcome.TheVariants as looked
use Rattle.fax_desk.specs.declared.desk.Waits.{Waits}
use Rattle.fax_desk.specs.declared.next.Ask.{Ask}
use Rattle.fax_desk.specs.declared.next.Ask.TheVariants as ask
use Rattle.fax_desk.specs.declared.next.Next.{Next}
use Rattle.fax_desk.specs.declared.next.Next.TheVariants as next
use Rattle.fax_desk.specs.declared.next.Note.{Note}
use Rattle.fax_desk.specs.declared.next.Note.TheVariants as note
use Rattle.fax_desk.specs.declared.next.Order.{Order}
use Rattle.fax_desk.specs.declared.next.PeerAsk.{PeerAsk}
use Rattle.fax_desk.specs.declared.next.Reply.{Reply}
use Rattle.fax_desk.specs.declared.next.Reply.TheVariants as reply
use Rattle.fax_desk.specs.declared.next.RingAsk.{RingAsk}
use Rattle.fax_desk.specs.declared.questions.HeardTime.{HeardTime}
use Rattle.fax_desk.specs.declared.questions.Cause.TheVariants as cause
use Rattle.fax_desk.specs.declared.questions.Question.{Question}
use Rattle.fax_desk.specs.declared.reload.Reload.TheVariants as reload
use Rattle.fax_desk.specs.declared.stop.Stop.{Stop}
use Rattle.fax_desk.specs.declared.stop.Stop.TheVariants as stop
use Rattle.fax_desk.specs.declared.tag.Tag.{Tag}
use Rattle.fax_desk.specs.declared.told.LineEvent.{LineEvent}
use Rattle.fax_desk.specs.declared.told.LineEvent.TheVariants as happened
use Rattle.fax_desk.specs.declared.told.LineState.{LineState}
use Rattle.fax_desk.specs.declared.told.TurnEvents.{TurnEvents}
use Rattle.fax_desk.specs.declared.told.Turn.{Turn}
use Rattle.fax_desk.specs.declared.view.AskedView.{AskedView}
use Rattle.fax_desk.specs.declared.view.FirstJob.{FirstJob}
use Rattle.fax_desk.specs.declared.view.LineView.{LineView}
use Rattle.fax_desk.specs.Budgets.{bounded, has_memory, is_full_at}
use Rattle.fax_desk.specs.Cards.{after_done, report_texts, tag_of, tagged_job}
use Rattle.fax_desk.specs.Questions.{heard_after}
use Rattle.fax_desk.specs.Said.{bounds_of, peer_said, rung_happened, tag_said}
use Rattle.fax_desk.specs.Reloads.{closed_card, reload_next, takes_calls}
use Rattle.fax_desk.specs.Stops.{stop_after, takes_rings}
use Rattle.fax_desk.specs.Tags.{tag_of_text}
use Rattle.fax_desk.specs.Turns.{asked_happened, asking_card, card_after, question_after, state_of, tags_on, told_of}
use Rattle.fax_desk.specs.Words.{next_of, refusal_order, refuses, reply_to, ring_order}

-- nothing happened
abbrev pub desk_new : Vec (String Global) Global → Vec Card Global → ℕ → Desk
desk_new names cards within =
    record {
      names = names;
      cards = cards;
      stop = stop.No;
      stop_ms = within;
      damage = record {
        records = 0;
        octets = 0;
      };
      failed = None;
      time = record { heard = 0; last = 0 };
      is_heard = false;
      waits = None;
      any_from = 0;
      memory = None;
      reload = reload.No;
    }

-- the line of this name
abbrev pub line_named : List (String Global) → List ℕ → Option ℕ
line_named names name = position (λ text. bytes_eq (string_bytes text) name) names

-- the name of line i
abbrev pub name_at : List (String Global) → ℕ → Option (List ℕ)
name_at names i = option_map (λ text. string_bytes text) (slice_get names i)

-- its question that is open
abbrev pub question_if : Option Card → Option Question
question_if None = None
question_if (Some card) = card.question

abbrev pub question_at : List Card → ℕ → Option Question
question_at cards i = question_if (slice_get cards i)

-- ---- A WORD COMES TO THIS: by the line that it names, and what that is

abbrev pub next_there : List Card → ℕ → Ask → Option LineView → Next
next_there cards i said None = refuses refusal.NoLine
next_there cards i said (Some line) = next_of (question_at cards i) i line said

abbrev pub next_here : List Card → (ℕ → Option LineView) → Ask → Option ℕ → Next
next_here cards lines said None = refuses refusal.NoLine
next_here cards lines said (Some i) = next_there cards i said (lines i)

abbrev pub next_at : Desk → (ℕ → Option LineView) → List ℕ → Ask → Next
next_at desk lines name said =
    next_here desk.cards.items lines said (line_named desk.names.items name)

-- a line can be rung before its peer is said: its calling leg is idle, the configuration gives it no peer, and it is not full
abbrev pub is_idle_line : Option ℕ → Bool → Bool
is_idle_line (Some call) is_fixed = false
is_idle_line None true = false
is_idle_line None false = true

abbrev pub is_free_line : Option LineView → Bool
is_free_line None = false
is_free_line (Some line) = is_idle_line line.call line.calling.is_fixed

abbrev pub is_free_at : List Card → (ℕ → Option LineView) → ℕ → Bool
is_free_at cards lines i = is_free_line (lines i) && not (is_full_at cards i)

abbrev pub first_free : List Card → ℕ → ℕ → (ℕ → Option LineView) → Option ℕ
first_free cards from to lines =
    find (λ i. is_free_at cards lines i) (range_with_len from (to - from))

abbrev pub free_or : Option ℕ → Option ℕ → Option ℕ
free_or None other = other
free_or (Some i) other = Some i

-- the first of so many, from this one on, and round
abbrev pub free_line : List Card → ℕ → ℕ → (ℕ → Option LineView) → Option ℕ
free_line cards from count lines =
    free_or (first_free cards from count lines) (first_free cards 0 from lines)

-- A ring that names a line, or any, is bounded by what is said in `Budgets`, before what the line is is looked at.
abbrev pub bounded_at : Desk → (ℕ → Option LineView) → ℕ → Next → Next
bounded_at desk lines i to =
    bounded (is_full_at desk.cards.items i) (has_memory desk.memory desk.cards.items lines i) to

abbrev pub any_if : Desk → (ℕ → Option LineView) → RingAsk → Option ℕ → Next
any_if desk lines ring None = refuses refusal.Busy
any_if desk lines ring (Some i) =
    bounded_at desk lines i (next.Orders (ring_order i true ring.bounds (note.RingAny ring.tag)))

abbrev pub next_any : Desk → (ℕ → Option LineView) → RingAsk → Next
next_any desk lines ring = any_if
    desk lines ring (free_line desk.cards.items desk.any_from (length desk.names.items) lines)

abbrev pub named_if : Desk → (ℕ → Option LineView) → RingAsk → Option ℕ → Next
named_if desk lines ring None = refuses refusal.NoLine
named_if desk lines ring (Some i) =
    bounded_at desk lines i (next_there desk.cards.items i (ask.Ring ring) (lines i))

abbrev pub next_named : Desk → (ℕ → Option LineView) → List ℕ → RingAsk → Next
next_named desk lines name ring = named_if desk lines ring (line_named desk.names.items name)

abbrev pub ring_on : Desk → (ℕ → Option LineView) → Option (List ℕ) → RingAsk → Next
ring_on desk lines None ring = next_any desk lines ring
ring_on desk lines (Some name) ring = next_named desk lines name ring

abbrev pub ring_tagged : Desk
    → (ℕ → Option LineView) → Option (List ℕ) → SaidBounds → Option (Option Tag) → Next
ring_tagged desk lines name bounds None = refuses refusal.NoWord
ring_tagged desk lines name bounds (Some tag) =
    ring_on desk lines name (record { tag = tag; bounds = bounds_of bounds })

abbrev pub ring_if : (takes_calls has_failed : Bool)
    → Desk → (ℕ → Option LineView) → Option (List ℕ) → SaidBounds → Option (Option Tag) → Next
ring_if false has_failed desk lines name bounds tag = refuses refusal.Stopping
ring_if true true desk lines name bounds tag = refuses refusal.NoSpool
ring_if true false desk lines name bounds tag = ring_tagged desk lines name bounds tag

-- A ring needs a server that takes calls, and whose spool has not failed: whichever line it names, and whatever that is. Then it needs
-- a tag that is none too long; a line that is there, or any that can be rung; one that is not full; memory; and a peer.
abbrev pub next_ring : Desk
    → (ℕ → Option LineView) → (has_failed : Bool) → (name tag : Option (List ℕ)) → SaidBounds → Next
next_ring desk lines has_failed name tag bounds =
    ring_if (takes_calls desk.stop desk.reload) has_failed desk lines name bounds (tag_said tag)

abbrev pub peer_next : Desk → (ℕ → Option LineView) → List ℕ → Option PeerAsk → Next
peer_next desk lines name None = refuses refusal.NoWord
peer_next desk lines name (Some peer) = next_at desk lines name (ask.Peer peer)

abbrev pub refuse_next : Desk → (ℕ → Option LineView) → List ℕ → Option Tag → Next
refuse_next desk lines name None = refuses refusal.NoWord
refuse_next desk lines name (Some why) = next_at desk lines name (ask.Refuse why)

abbrev pub step_of : Desk → (ℕ → Option LineView) → (has_failed : Bool) → Word → Next
step_of desk lines has_failed (word.Ring ring) = next_ring desk lines has_failed (option_map
    (λ text. text.now) ring.line) (option_map (λ text. text.now) ring.tag) ring.bounds
step_of desk lines has_failed (word.Peer peer) =
    peer_next desk lines peer.line.now (peer_said peer.leg peer.address peer.bounds peer.is_moved)
step_of desk lines has_failed (word.HangUp name leg) =
    next_at desk lines name.now (ask.HangUp (record { leg = leg }))
step_of desk lines has_failed (word.Refuse name why) =
    refuse_next desk lines name.now (tag_of_text why.now)
step_of desk lines has_failed (word.Report name) = next_at desk lines name.now ask.Report
step_of desk lines has_failed (word.Undelivered name) = next.Undelivered
step_of desk lines has_failed (word.Discard said) = next.Discards
step_of desk lines has_failed (word.Retry said) = next.Retries
step_of desk lines has_failed word.Status = next.Status
step_of desk lines has_failed word.Metrics = next.Metrics
step_of desk lines has_failed word.Events = next.Events
step_of desk lines has_failed (word.Frames name) = next_at desk lines name.now ask.Frames
step_of desk lines has_failed word.Reload = reload_next (takes_rings desk.stop) has_failed
step_of desk lines has_failed word.Stop = next.Replies reply.Done

abbrev pub stop_then : Word → (now within : ℕ) → Stop → Stop
stop_then (word.Ring ring) now within before = before
stop_then (word.Peer peer) now within before = before
stop_then (word.HangUp name leg) now within before = before
stop_then (word.Refuse name why) now within before = before
stop_then (word.Report name) now within before = before
stop_then (word.Undelivered name) now within before = before
stop_then (word.Discard said) now within before = before
stop_then (word.Retry said) now within before = before
stop_then word.Status now within before = before
stop_then word.Metrics now within before = before
stop_then word.Events now within before = before
stop_then (word.Frames name) now within before = before
stop_then word.Reload now within before = before
stop_then word.Stop now within before = stop_after before now within

-- ---- cards: what line i's becomes, where there is such a line; all others stay

abbrev pub changed_at : List Card → ℕ → Option Card → List Card
changed_at cards i None = cards
changed_at cards i (Some card) = slice_set cards i card

-- line i takes no call any more
abbrev pub closed_at : List Card → ℕ → List Card
closed_at cards i = changed_at cards i (option_map (λ card. closed_card card) (slice_get cards i))

-- ---- THE END OF AN ORDER answers who asked for it, once, by what its line answered; and this happened on that line

abbrev pub connected_happened : Option Card → Note → Option LineEvent
connected_happened None said = None
connected_happened (Some card) (note.Connect job) =
    Some (happened.Connected (tagged_job card job.first job.call))
connected_happened (Some card) note.Nothing = None
connected_happened (Some card) (note.Ring tag) = None
connected_happened (Some card) (note.RingAny tag) = None
connected_happened (Some card) (note.Refuse why) = None

abbrev pub happened_of : List Card → Order → Option LineAnswer → Option LineEvent
happened_of cards order None = None
happened_of cards order (Some (answered.Rung (Ok call))) = rung_happened order.note call
happened_of cards order (Some (answered.Rung (Err fault))) = None
happened_of cards order (Some (answered.Placed (Ok done))) =
    connected_happened (slice_get cards order.line) order.note
happened_of cards order (Some (answered.Placed (Err fault))) = None
happened_of cards order (Some answered.NoRoute) = None
happened_of cards order (Some answered.Done) = None

abbrev pub done_with : List Card → Waits → Option LineAnswer → OrderEnd
done_with cards waits told = record {
  asker = waits.asker;
  line = waits.order.line;
  reply = reply_to waits.order told;
  happened = happened_of cards waits.order told;
}

abbrev pub done_of : List Card → Option Waits → Option LineAnswer → Option OrderEnd
done_of cards None told = None
done_of cards (Some waits) told = Some (done_with cards waits told)

abbrev pub noted_at : List Card → Order → Option LineAnswer → List Card
noted_at cards order told = changed_at cards order.line (option_map
    (λ card. after_done order.note told card) (slice_get cards order.line))

abbrev pub noted : List Card → Option Waits → Option LineAnswer → List Card
noted cards None told = cards
noted cards (Some waits) told = noted_at cards waits.order told

-- ---- THE TURN OF LINE i is told of its card, and no other changes

abbrev pub told_at : List Card → ℕ → Turn → Option TurnEvents
told_at cards i turn = option_map (λ card. told_of card turn) (slice_get cards i)

abbrev pub turned_at : List Card → ℕ → Turn → List Card
turned_at cards i turn =
    changed_at cards i (option_map (λ card. card_after card turn) (slice_get cards i))

-- ---- QUESTIONS: their time goes on only while a client hears events

abbrev pub heard_until : ℕ → Bool → HeardTime → HeardTime
heard_until now is_heard time =
    record { heard = heard_after is_heard (now - time.last) time.heard; last = max time.last now }

abbrev pub due_of : Option Question → ℕ → Bool → Bool
due_of None heard asks = asks
due_of (Some question) heard asks = nat_le question.until heard

-- a question that nobody answered in its time is refused
abbrev pub over_if : ℕ → Bool → LookOutcome
over_if i true = looked.Orders (refusal_order i cause.Unanswered)
over_if i false = looked.Nothing

-- it is asked while a client hears events
abbrev pub asks_if : Card → FirstJob → ℕ → AskedView → Bool → LookOutcome
asks_if card first heard job true =
    looked.Asks (asked_happened card first (question_after card heard None) heard job)
asks_if card first heard job false = looked.Nothing

abbrev pub asks_now : Card → FirstJob → ℕ → AskedView → Option Question → LookOutcome
asks_now card first heard job None = looked.Nothing
asks_now card first heard job (Some question) =
    looked.Asks (asked_happened card first question heard job)

abbrev pub looked_of : Card
    → FirstJob → ℕ → ℕ → Bool → Option Question → Option AskedView → LookOutcome
looked_of card first i heard is_heard question None = looked.Nothing
looked_of card first i heard is_heard None (Some job) = asks_if card first heard job is_heard
looked_of card first i heard is_heard (Some question) (Some job) =
    over_if i (nat_le question.until heard)

abbrev pub asked_if : ℕ → Bool → Card → Card
asked_if heard true card = asking_card heard card
asked_if heard false card = card

-- one of a call that is asked for no more is closed
abbrev pub looked_card : ℕ → Bool → Option AskedView → Card → Card
looked_card heard is_heard None card = record card { question = None }
looked_card heard is_heard (Some job) card = asked_if heard is_heard card

abbrev pub looked_if : Option Card → FirstJob → ℕ → ℕ → Bool → Option AskedView → LookOutcome
looked_if None first i heard is_heard job = looked.Nothing
looked_if (Some card) first i heard is_heard job =
    looked_of card first i heard is_heard card.question job

abbrev pub looked_at : Desk → ℕ → LineView → LookOutcome
looked_at desk i line =
    looked_if (slice_get desk.cards.items i) line.first i desk.time.heard desk.is_heard line.asked

abbrev pub looked_cards : Desk → ℕ → LineView → List Card
looked_cards desk i line = changed_at desk.cards.items i (option_map (λ card.
    looked_card desk.time.heard desk.is_heard line.asked card) (slice_get desk.cards.items i))

-- a client is told what is on: the question is open, where the line asks for a call
abbrev pub asked_card : ℕ → Option AskedView → Card → Card
asked_card heard None card = card
asked_card heard (Some job) card = asking_card heard card

abbrev pub asked_cards : List Card → ℕ → ℕ → LineView → List Card
asked_cards cards heard i line =
    changed_at cards i (option_map (λ card. asked_card heard line.asked card) (slice_get cards i))

-- ---- what is on on line i, and what is told of it

abbrev pub state_at : List Card → ℕ → ℕ → LineView → Option LineState
state_at cards heard i line = option_map (λ card. state_of card line heard) (slice_get cards i)

abbrev pub tags_if : Option Card → LineView → TagsOn
tags_if None line = record { calling = None; called = None }
tags_if (Some card) line = tags_on card line

abbrev pub tags_at : List Card → ℕ → LineView → TagsOn
tags_at cards i line = tags_if (slice_get cards i) line

abbrev pub tag_if_there : Option Card → ℕ → Option Tag
tag_if_there None call = None
tag_if_there (Some card) call = tag_of card call

abbrev pub tag_at : List Card → ℕ → ℕ → Option Tag
tag_at cards i call = tag_if_there (slice_get cards i) call

abbrev pub texts_if : Option Card → (k kept call : ℕ) → ReportTexts
texts_if None k kept call = record { tag = None; cause = None }
texts_if (Some card) k kept call = report_texts k kept call card

abbrev pub texts_at : List Card → (i k kept call : ℕ) → ReportTexts
texts_at cards i k kept call = texts_if (slice_get cards i) k kept call

abbrev pub counts_if : Option Card → LineCounts
counts_if None = record { calls = 0; pages = 0 }
counts_if (Some card) = card.counts

-- ---- THE LINE OF AN ANSWER: that of a ring of any line names the one that was rung

abbrev pub IsNamed : Option (List ℕ) → ℕ → Answer → Type 0
IsNamed None call told = told ≡ answer.Rung call
IsNamed (Some name) call (answer.RungOn text number) = (text.now ≡ name) × (number ≡ call)
IsNamed (Some name) call answer.Done = ⊥
IsNamed (Some name) call (answer.Rung number) = ⊥
IsNamed (Some name) call (answer.Refused why) = ⊥

abbrev pub IsAnswer : List (String Global) → Reply → Answer → Type 0
IsAnswer names reply.Done told = told ≡ answer.Done
IsAnswer names (reply.Rung call) told = told ≡ answer.Rung call
IsAnswer names (reply.RungOn rung) told = IsNamed (name_at names rung.line) rung.call told
IsAnswer names (reply.Refused refused) told = told ≡ answer.Refused refused.why
