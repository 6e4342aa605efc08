use Rattle.std.proofs.Common.{◌≡◌, ℕ, Bool, true, false, List, [], ◌∷◌, ◌++◌, Option, Some, None, refl, sym, ap, subst, is_some, length}
use Rattle.fax_control.specs.declared.refusal.Refusal.{Refusal}
use Rattle.fax_control.specs.declared.refusal.Refusal.TheVariants as refusal
use Rattle.fax_control.specs.declared.word.Bounds.{Bounds}
use Rattle.fax_gateway.specs.declared.leg.Leg.{Leg}
use Rattle.fax_gateway.specs.declared.leg.Leg.TheVariants as legs
use Rattle.fax_line.specs.declared.asked.LineAnswer.{LineAnswer}
use Rattle.fax_desk.specs.declared.card.Card.{Card}
use Rattle.fax_desk.specs.declared.desk.Desk.{Desk}
use Rattle.fax_desk.specs.declared.desk.OrderEnd.{OrderEnd}
use Rattle.fax_desk.specs.declared.desk.LookOutcome.{LookOutcome}
use Rattle.fax_desk.specs.declared.desk.LookOutcome.TheVariants as looked
use Rattle.fax_desk.specs.declared.desk.Waits.{Waits}
use Rattle.fax_desk.specs.declared.next.Ask.{Ask}
use Rattle.fax_desk.specs.declared.next.Ask.TheVariants as ask
use Rattle.fax_desk.specs.declared.next.Next.{Next}
use Rattle.fax_desk.specs.declared.next.Next.TheVariants as next
use Rattle.fax_desk.specs.declared.next.Note.TheVariants as note
use Rattle.fax_desk.specs.declared.next.Order.{Order}
use Rattle.fax_desk.specs.declared.next.PeerAsk.{PeerAsk}
use Rattle.fax_desk.specs.declared.questions.Cause.{Cause}
use Rattle.fax_desk.specs.declared.questions.Cause.TheVariants as cause
use Rattle.fax_desk.specs.declared.questions.Question.{Question}
use Rattle.fax_desk.specs.declared.tag.Tag.{Tag}
use Rattle.fax_desk.specs.declared.view.AskedView.{AskedView}
use Rattle.fax_desk.specs.declared.view.LineView.{LineView}
use Rattle.fax_desk.specs.declared.next.RingAsk.{RingAsk}
use Rattle.fax_desk.specs.Budgets.{bounded, has_memory, is_full_at}
use Rattle.fax_desk.specs.Desks.{any_if, bounded_at, done_of, done_with, free_line, line_named, named_if, next_at, next_here, next_ring, next_there, question_at, ring_if, ring_on, ring_tagged}
use Rattle.fax_desk.specs.Laws.{DeskEvent, Passes, Said, Lapsed, Told, Gives, answered, answered_at_once, asked, who_is_told, who_waits}
use Rattle.fax_desk.specs.Said.{bounds_of, tag_said, unasked_if, waits_if}
use Rattle.fax_desk.specs.declared.reload.Reload.{Reload}
use Rattle.fax_desk.specs.declared.reload.Reload.TheVariants as reload
use Rattle.fax_desk.specs.declared.stop.Stop.{Stop}
use Rattle.fax_desk.specs.declared.stop.Stop.TheVariants as stop
use Rattle.fax_desk.specs.Reloads.{takes_calls}
use Rattle.fax_desk.specs.Spools.{run_is_over}
use Rattle.fax_desk.specs.Stops.{takes_rings}
use Rattle.fax_desk.specs.Words.{called_peer, connect_order, hang_up_order, is_connected, is_on, job_asked, next_of, orders_if, peer_if, peer_of, peer_order, refusal_order, refuse_of, reply_to, ring_order, takes_peer}

-- ---- each word is answered once

came : (asker : ℕ) (to : Next) (xs ys : List ℕ) → xs ≡ ys → who_waits (waits_if asker to) ++ (answered_at_once asker to ++ xs) ≡ asker ∷ ys
came asker (next.Orders order) xs ys e = ap (λ l. asker ∷ l) e
came asker (next.Replies reply) xs ys e = ap (λ l. asker ∷ l) e
came asker (next.Reports line) xs ys e = ap (λ l. asker ∷ l) e
came asker next.Undelivered xs ys e = ap (λ l. asker ∷ l) e
came asker next.Discards xs ys e = ap (λ l. asker ∷ l) e
came asker next.Retries xs ys e = ap (λ l. asker ∷ l) e
came asker next.Status xs ys e = ap (λ l. asker ∷ l) e
came asker next.Metrics xs ys e = ap (λ l. asker ∷ l) e
came asker next.Events xs ys e = ap (λ l. asker ∷ l) e
came asker (next.Frames line) xs ys e = ap (λ l. asker ∷ l) e
came asker next.Reloads xs ys e = ap (λ l. asker ∷ l) e

looks : (to : LookOutcome) (xs ys : List ℕ) → xs ≡ ys → who_waits (unasked_if to) ++ xs ≡ ys
looks looked.Nothing xs ys e = e
looks (looked.Asks what) xs ys e = e
looks (looked.Orders order) xs ys e = e

ends : (cards : List Card) (before : Option Waits) (told : Option LineAnswer) (xs ys : List ℕ) → who_waits before ++ xs ≡ ys → who_is_told (done_of cards before told) ++ xs ≡ ys
ends cards None told xs ys e = e
ends cards (Some waits) told xs ys e = e

pub once : (passed : List DeskEvent) (waits : Option Waits) → Passes passed waits → who_waits waits ++ answered passed ≡ asked passed
once [] waits p = rw p refl
once (Said asker to ∷ earlier) waits (p, e) = rw e (came asker to (answered earlier) (asked earlier) (once earlier None p))
once (Lapsed order ∷ earlier) waits (p, e) = rw e (looks (looked.Orders order) (answered earlier) (asked earlier) (once earlier None p))
once (Told told _ ∷ earlier) waits (cards, before, p, d, e) = rw (e, d) (ends cards before told (answered earlier) (asked earlier) (once earlier before p))

-- ---- what is answered after an order

gave_word : (asker : ℕ) (to : Next) (waits : Waits) → waits_if asker to ≡ Some waits → Gives (Said asker to) waits.asker waits.order
gave_word asker (next.Orders order) waits e = let w : record { asker = Some asker; order = order } ≡ waits = cc in rw (← w) (refl, refl)
gave_word asker (next.Replies reply) waits e = cc
gave_word asker (next.Reports line) waits e = cc
gave_word asker next.Undelivered waits e = cc
gave_word asker next.Discards waits e = cc
gave_word asker next.Retries waits e = cc
gave_word asker next.Status waits e = cc
gave_word asker next.Metrics waits e = cc
gave_word asker next.Events waits e = cc
gave_word asker (next.Frames line) waits e = cc
gave_word asker next.Reloads waits e = cc

gave_look : (order : Order) (waits : Waits) → unasked_if (looked.Orders order) ≡ Some waits → Gives (Lapsed order) waits.asker waits.order
gave_look order waits e = let w : record { asker = None; order = order } ≡ waits = cc in rw (← w) refl

gave : (earlier : List DeskEvent) (waits : Waits) → Passes earlier (Some waits)
    → (given : DeskEvent) × (before : List DeskEvent) × (earlier ≡ given ∷ before) × Gives given waits.asker waits.order
gave [] waits p = cc
gave (Said asker to ∷ earlier) waits (p, e) = (Said asker to, earlier, refl, gave_word asker to waits (sym e))
gave (Lapsed order ∷ earlier) waits (p, e) = (Lapsed order, earlier, refl, gave_look order waits (sym e))
gave (Told told _ ∷ earlier) waits (cards, before, p, d, e) = cc

done_by : (cards : List Card) (before : Option Waits) (told : Option LineAnswer) (done : OrderEnd) (earlier : List DeskEvent) → Passes earlier before → Some done ≡ done_of cards before told
    → (given : DeskEvent) × (before : List DeskEvent) × (order : Order) × (earlier ≡ given ∷ before) × Gives given done.asker order × (done.line ≡ order.line) × (done.reply ≡ reply_to order told)
done_by cards None told done earlier p e = cc
done_by cards (Some waits) told done earlier p e =
    let is : done ≡ done_with cards waits told = cc in
    let (given, before, f, g) = gave earlier waits p in
    rw is (given, before, waits.order, f, g, refl, refl)

pub done_after : (told : Option LineAnswer) (done : OrderEnd) (earlier : List DeskEvent) (waits : Option Waits) → Passes (Told told (Some done) ∷ earlier) waits
    → (given : DeskEvent) × (before : List DeskEvent) × (order : Order) × (earlier ≡ given ∷ before) × Gives given done.asker order × (done.line ≡ order.line) × (done.reply ≡ reply_to order told)
done_after told done earlier waits (cards, before, p, d, e) = done_by cards before told done earlier p d

-- ---- an order goes to the line that was named

given : (b : Bool) (why : Refusal) (mine got : Order) → orders_if b why mine ≡ next.Orders got → mine.line ≡ got.line
given true why mine got e = let q : mine ≡ got = cc in ap (λ order. order.line) q
given false why mine got e = cc

of_peer : (is_on : Bool) (i : ℕ) (line : LineView) (peer : PeerAsk) (got : Order) → peer_if is_on i line peer ≡ next.Orders got → i ≡ got.line
of_peer true i line peer got e = given (takes_peer true line.called peer.is_moved) refusal.InCall (peer_order i peer) got e
of_peer false i line peer got e = cc

of_called : (is_fixed : Bool) (job : Option AskedView) (i : ℕ) (line : LineView) (peer : PeerAsk) (got : Order) → called_peer is_fixed job i line peer ≡ next.Orders got → i ≡ got.line
of_called true job i line peer got e = cc
of_called false (Some job) i line peer got e = let q : connect_order i peer line.first job ≡ got = cc in ap (λ order. order.line) q
of_called false None i line peer got e = of_peer (is_connected line) i line peer got e

of_refusal : (job : Option AskedView) (i : ℕ) (why : Cause) (got : Order) → refuse_of job i why ≡ next.Orders got → i ≡ got.line
of_refusal None i why got e = cc
of_refusal (Some job) i why got e = let q : refusal_order i why ≡ got = cc in ap (λ order. order.line) q

of_leg : (at : Leg) (question : Option Question) (i : ℕ) (line : LineView) (peer : PeerAsk) (got : Order) → peer_of at question i line peer ≡ next.Orders got → i ≡ got.line
of_leg legs.Calling question i line peer got e = given (takes_peer (is_some line.call) line.calling peer.is_moved) refusal.InCall (peer_order i peer) got e
of_leg legs.Called question i line peer got e = of_called line.called.is_fixed (job_asked question line) i line peer got e

of_line : (question : Option Question) (i : ℕ) (line : LineView) (said : Ask) (got : Order) → next_of question i line said ≡ next.Orders got → i ≡ got.line
of_line question i line (ask.Ring rung) got e = given line.calling.has_peer refusal.NoPeer (ring_order i false rung.bounds (note.Ring rung.tag)) got e
of_line question i line (ask.Peer peer) got e = of_leg peer.leg question i line peer got e
of_line question i line (ask.Refuse why) got e = of_refusal (job_asked question line) i (cause.Said why) got e
of_line question i line (ask.HangUp gone) got e = given (is_on gone.leg line) refusal.NoCall (hang_up_order i gone.leg) got e
of_line question i line ask.Report got e = cc
of_line question i line ask.Frames got e = cc

of_there : (cards : List Card) (i : ℕ) (said : Ask) (line : Option LineView) (got : Order) → next_there cards i said line ≡ next.Orders got → i ≡ got.line
of_there cards i said None got e = cc
of_there cards i said (Some line) got e = of_line (question_at cards i) i line said got e

of_here : (cards : List Card) (lines : ℕ → Option LineView) (said : Ask) (n : Option ℕ) (got : Order) → next_here cards lines said n ≡ next.Orders got → n ≡ Some got.line
of_here cards lines said None got e = cc
of_here cards lines said (Some i) got e = ap (λ k. Some k) (of_there cards i said (lines i) got e)

pub named : (desk : Desk) (lines : ℕ → Option LineView) (name : List ℕ) (said : Ask) (got : Order)
    → next_at desk lines name said ≡ next.Orders got → line_named desk.names.items name ≡ Some got.line
named desk lines name said got e = of_here desk.cards.items lines said (line_named desk.names.items name) got e

-- ---- a ring

takes : (takes has_failed : Bool) (desk : Desk) (lines : ℕ → Option LineView) (name : Option (List ℕ)) (bounds : Bounds) (tag : Option (Option Tag)) (got : Order)
    → ring_if takes has_failed desk lines name bounds tag ≡ next.Orders got → takes ≡ true
takes true has_failed desk lines name bounds tag got e = refl
takes false has_failed desk lines name bounds tag got e = cc

keeps : (takes has_failed : Bool) (desk : Desk) (lines : ℕ → Option LineView) (name : Option (List ℕ)) (bounds : Bounds) (tag : Option (Option Tag)) (got : Order)
    → ring_if takes has_failed desk lines name bounds tag ≡ next.Orders got → has_failed ≡ false
keeps takes false desk lines name bounds tag got e = refl
keeps true true desk lines name bounds tag got e = cc
keeps false true desk lines name bounds tag got e = cc

serves : (before : Stop) (asked : Reload) → takes_calls before asked ≡ true → takes_rings before ≡ true
serves stop.No asked takes = refl
serves (stop.At moment) asked takes = cc
serves stop.Now asked takes = cc

pub serving : (desk : Desk) (lines : ℕ → Option LineView) (has_failed : Bool) (name tag : Option (List ℕ)) (bounds : Bounds) (got : Order)
    → next_ring desk lines has_failed name tag bounds ≡ next.Orders got → (takes_rings desk.stop ≡ true) × (takes_calls desk.stop desk.reload ≡ true)
serving desk lines has_failed name tag bounds got e =
    let calls = takes (takes_calls desk.stop desk.reload) has_failed desk lines name bounds (tag_said tag) got e in
    (serves desk.stop desk.reload calls, calls)

pub storage : (desk : Desk) (lines : ℕ → Option LineView) (has_failed : Bool) (name tag : Option (List ℕ)) (bounds : Bounds) (got : Order)
    → next_ring desk lines has_failed name tag bounds ≡ next.Orders got → has_failed ≡ false
storage desk lines has_failed name tag bounds got e = keeps (takes_calls desk.stop desk.reload) has_failed desk lines name bounds (tag_said tag) got e

-- a ring that comes to an order: its line is not full, there is memory for it, and the order is this line's
abbrev Allows : Desk → (ℕ → Option LineView) → ℕ → Type 0
Allows desk lines i = (is_full_at desk.cards.items i ≡ false) × (has_memory desk.memory desk.cards.items lines i ≡ true)

within : (full memory : Bool) (to : Next) (got : Order) → bounded full memory to ≡ next.Orders got → (full ≡ false) × (memory ≡ true) × (to ≡ next.Orders got)
within true memory to got e = absurd (cc)
within false false to got e = absurd (cc)
within false true to got e = (refl, refl, e)

at_line : (desk : Desk) (lines : ℕ → Option LineView) (i : ℕ) (to : Next) (got : Order) → (to ≡ next.Orders got → i ≡ got.line)
    → bounded_at desk lines i to ≡ next.Orders got → Allows desk lines got.line
at_line desk lines i to got is_its e =
    let (full, memory, same) = within (is_full_at desk.cards.items i) (has_memory desk.memory desk.cards.items lines i) to got e in
    subst (λ (k : ℕ). Allows desk lines k) (is_its same) (full, memory)

order_of_ring : (i : ℕ) (ring : RingAsk) (got : Order) → next.Orders (ring_order i true ring.bounds (note.RingAny ring.tag)) ≡ next.Orders got → i ≡ got.line
order_of_ring i ring got e = let q : ring_order i true ring.bounds (note.RingAny ring.tag) ≡ got = cc in ap (λ order. order.line) q

of_any : (desk : Desk) (lines : ℕ → Option LineView) (ring : RingAsk) (n : Option ℕ) (got : Order) → any_if desk lines ring n ≡ next.Orders got → Allows desk lines got.line
of_any desk lines ring None got e = absurd (cc)
of_any desk lines ring (Some i) got e = at_line desk lines i (next.Orders (ring_order i true ring.bounds (note.RingAny ring.tag))) got (order_of_ring i ring got) e

of_named : (desk : Desk) (lines : ℕ → Option LineView) (ring : RingAsk) (n : Option ℕ) (got : Order) → named_if desk lines ring n ≡ next.Orders got → Allows desk lines got.line
of_named desk lines ring None got e = absurd (cc)
of_named desk lines ring (Some i) got e =
    at_line desk lines i (next_there desk.cards.items i (ask.Ring ring) (lines i)) got (of_there desk.cards.items i (ask.Ring ring) (lines i) got) e

of_ring : (desk : Desk) (lines : ℕ → Option LineView) (name : Option (List ℕ)) (ring : RingAsk) (got : Order) → ring_on desk lines name ring ≡ next.Orders got → Allows desk lines got.line
of_ring desk lines None ring got e = of_any desk lines ring (free_line desk.cards.items desk.any_from (length desk.names.items) lines) got e
of_ring desk lines (Some name) ring got e = of_named desk lines ring (line_named desk.names.items name) got e

of_tagged : (desk : Desk) (lines : ℕ → Option LineView) (name : Option (List ℕ)) (bounds : Bounds) (tag : Option (Option Tag)) (got : Order)
    → ring_tagged desk lines name bounds tag ≡ next.Orders got → Allows desk lines got.line
of_tagged desk lines name bounds None got e = absurd (cc)
of_tagged desk lines name bounds (Some tag) got e = of_ring desk lines name (record { tag = tag; bounds = bounds_of bounds }) got e

of_taken : (takes has_failed : Bool) (desk : Desk) (lines : ℕ → Option LineView) (name : Option (List ℕ)) (bounds : Bounds) (tag : Option (Option Tag)) (got : Order)
    → ring_if takes has_failed desk lines name bounds tag ≡ next.Orders got → Allows desk lines got.line
of_taken false has_failed desk lines name bounds tag got e = absurd (cc)
of_taken true true desk lines name bounds tag got e = absurd (cc)
of_taken true false desk lines name bounds tag got e = of_tagged desk lines name bounds tag got e

pub allowed : (desk : Desk) (lines : ℕ → Option LineView) (has_failed : Bool) (name tag : Option (List ℕ)) (bounds : Bounds) (got : Order)
    → next_ring desk lines has_failed name tag bounds ≡ next.Orders got → Allows desk lines got.line
allowed desk lines has_failed name tag bounds got e = of_taken (takes_calls desk.stop desk.reload) has_failed desk lines name bounds (tag_said tag) got e

pub not_full : (desk : Desk) (lines : ℕ → Option LineView) (has_failed : Bool) (name tag : Option (List ℕ)) (bounds : Bounds) (got : Order)
    → next_ring desk lines has_failed name tag bounds ≡ next.Orders got → is_full_at desk.cards.items got.line ≡ false
not_full desk lines has_failed name tag bounds got e = (allowed desk lines has_failed name tag bounds got e).0

pub remembered : (desk : Desk) (lines : ℕ → Option LineView) (has_failed : Bool) (name tag : Option (List ℕ)) (bounds : Bounds) (got : Order)
    → next_ring desk lines has_failed name tag bounds ≡ next.Orders got → has_memory desk.memory desk.cards.items lines got.line ≡ true
remembered desk lines has_failed name tag bounds got e = (allowed desk lines has_failed name tag bounds got e).1

-- ---- a run that is to be served by another one

pub calm_first : (asked : Reload) (now : ℕ) (are_idle are_calm : Bool) → run_is_over stop.No None asked now are_idle are_calm ≡ true → are_calm ≡ true
calm_first asked now are_idle true e = refl
calm_first reload.No now are_idle false e = cc
calm_first (reload.Asked until) now are_idle false e = cc
calm_first reload.Closed now are_idle false e = cc
