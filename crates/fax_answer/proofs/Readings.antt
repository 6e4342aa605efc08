-- One reading serves the pieces of a datagram.
use Rattle.std.proofs.Common.{◌≡◌, ℕ, Bool, true, false, List, [], ◌∷◌, ◌++◌, Option, Some, None, ◌⊎◌, inl, inr, refl, sym, ◌∙◌, ap, subst, if◌then◌else◌}
use Rattle.fax_runcodes.specs.Widths.{elements_of}
use Rattle.fax_pagestore.proofs.ReadOrFail.{pages_are_read_or_fail}
use Rattle.fax_frames.specs.declared.dcs.Dcs.{Dcs}
use Rattle.fax_frames.specs.Capabilities.{format_of, coding_of}
use Rattle.fax_ifp.specs.Pieces as pieces
use Rattle.fax_answer.specs.declared.command.Command.{Command}
use Rattle.fax_answer.specs.declared.command.Order.{Order}
use Rattle.fax_answer.specs.declared.command.Order.TheVariants as orders
use Rattle.fax_answer.specs.declared.state.State.{State}
use Rattle.fax_answer.specs.declared.state.State.TheVariants.{Idle, Identify, Listen, Train, Page, Again, Closing}
use Rattle.fax_answer.specs.Orders.{order_of}
use Rattle.fax_answer.specs.History.{Entry, Decision, GivesMcf, GivesRtn, since_answer, last_image}
use Rattle.fax_answer.specs.Table.{Reading, Question, judged, is_one_image, is_repeat, on_order, decision, order_asks, asked_of}
use Rattle.fax_answer.specs.Replies.{WaitingPacket, reply_to, is_waiting}
use Rattle.fax_answer.specs.Calls.{AnswererCore, decided, came, asked, or_else, first_asked, came_all, CallEvent, Comes, after_events}
use Rattle.fax_answer.specs.Confirmation.{IfAsked, AreRead, IsRead}
use Rattle.fax_answer.specs.Readings.{CameSo, ReadingsJoin, comes_all, CallsAreRead, QuestionsAreKnown, CallsGoOn}

-- where nothing is asked the reading makes no difference
one_page_same : (r s : Reading) (dcs : Dcs) (octets : List ℕ) (c : Command) (t u : Bool) → if◌then◌else◌ {A = Option Question} t (Some (record { octets = octets; dcs = dcs })) None ≡ None →
    (if t then judged c r else if u then GivesMcf c None else GivesRtn) ≡ (if t then judged c s else if u then GivesMcf c None else GivesRtn)
one_page_same r s dcs octets c true u h = cc
one_page_same r s dcs octets c false u h = refl

order_same : (r s : Reading) (state : State) (before : List Entry) (order : Order) → order_asks state before order ≡ None → on_order r state before order ≡ on_order s state before order
order_same r s Idle before order h = refl
order_same r s Closing before order h = refl
order_same r s Identify before (orders.Train d) h = refl
order_same r s Identify before (orders.Judge c) h = refl
order_same r s Identify before orders.Disconnect h = refl
order_same r s Identify before orders.Nothing h = refl
order_same r s Listen before (orders.Train d) h = refl
order_same r s Listen before (orders.Judge c) h = refl
order_same r s Listen before orders.Disconnect h = refl
order_same r s Listen before orders.Nothing h = refl
order_same r s (Train dcs) before (orders.Train d) h = refl
order_same r s (Train dcs) before (orders.Judge c) h = refl
order_same r s (Train dcs) before orders.Disconnect h = refl
order_same r s (Train dcs) before orders.Nothing h = refl
order_same r s (Page dcs) before (orders.Train d) h = refl
order_same r s Again before (orders.Train d) h = refl
order_same r s (Page dcs) before (orders.Judge c) h = one_page_same r s dcs (last_image before) c (is_one_image (since_answer before)) (is_repeat before c) h
order_same r s Again before (orders.Judge c) h = refl
order_same r s (Page dcs) before orders.Disconnect h = refl
order_same r s Again before orders.Disconnect h = refl
order_same r s (Page dcs) before orders.Nothing h = refl
order_same r s Again before orders.Nothing h = refl

pub decision_same : (r s : Reading) (state : State) (waits : Bool) (before : List Entry) (p : pieces.Piece) → asked_of state waits before p ≡ None → decision r state waits before p ≡ decision s state waits before p
decision_same r s state true before (pieces.Frame octets) h = refl
decision_same r s state false before (pieces.Frame octets) h = order_same r s state before (order_of octets) h
decision_same r s Idle waits before (pieces.End whole) h = refl
decision_same r s Identify waits before (pieces.End whole) h = refl
decision_same r s Listen waits before (pieces.End whole) h = refl
decision_same r s (Train dcs) waits before (pieces.End whole) h = refl
decision_same r s (Page dcs) waits before (pieces.End whole) h = refl
decision_same r s Again waits before (pieces.End whole) h = refl
decision_same r s Closing waits before (pieces.End whole) h = refl
decision_same r s state waits before (pieces.Start k) h = refl
decision_same r s state waits before (pieces.Octets os) h = refl
decision_same r s state waits before pieces.Gap h = refl

pub came_same : (r s : Reading) (a : AnswererCore) (p : pieces.Piece) (now : ℕ) → asked a p ≡ None → came r a p now ≡ came s a p now
came_same r s a p now h = ap (λ (d : Decision). decided a p d now) (decision_same r s a.state (is_waiting a.waiting) a.history p h)

-- where it is asked, the reply waits, and while packets wait nothing is asked
pub wait_more : (xs ys : List WaitingPacket) → is_waiting xs ≡ true → is_waiting (xs ++ ys) ≡ true
wait_more [] ys h = cc
wait_more (x ∷ xs) ys h = refl

pub wait_after : (xs ys : List WaitingPacket) → is_waiting ys ≡ true → is_waiting (xs ++ ys) ≡ true
wait_after [] ys h = h
wait_after (x ∷ xs) ys h = refl

judged_waits : (r : Reading) (c : Command) → is_waiting (reply_to (judged c r)) ≡ true
judged_waits None c = refl
judged_waits (Some page) c = refl

one_page_waits : (r : Reading) (q : Question) (dcs : Dcs) (octets : List ℕ) (c : Command) (t u : Bool) → if◌then◌else◌ {A = Option Question} t (Some (record { octets = octets; dcs = dcs })) None ≡ Some q →
    is_waiting (reply_to (if t then judged c r else if u then GivesMcf c None else GivesRtn)) ≡ true
one_page_waits r q dcs octets c true u h = judged_waits r c
one_page_waits r q dcs octets c false u h = cc

order_waits : (r : Reading) (q : Question) (state : State) (before : List Entry) (order : Order) → order_asks state before order ≡ Some q → is_waiting (reply_to (on_order r state before order)) ≡ true
order_waits r q Idle before order h = cc
order_waits r q Closing before order h = cc
order_waits r q Identify before order h = cc
order_waits r q Listen before order h = cc
order_waits r q (Train dcs) before order h = cc
order_waits r q (Page dcs) before (orders.Train d) h = cc
order_waits r q Again before (orders.Train d) h = cc
order_waits r q (Page dcs) before (orders.Judge c) h = one_page_waits r q dcs (last_image before) c (is_one_image (since_answer before)) (is_repeat before c) h
order_waits r q (Page dcs) before orders.Disconnect h = cc
order_waits r q Again before (orders.Judge c) h = cc
order_waits r q Again before orders.Disconnect h = cc
order_waits r q (Page dcs) before orders.Nothing h = cc
order_waits r q Again before orders.Nothing h = cc

pub asked_waits : (r : Reading) (q : Question) (state : State) (waits : Bool) (before : List Entry) (p : pieces.Piece) → asked_of state waits before p ≡ Some q → is_waiting (reply_to (decision r state waits before p)) ≡ true
asked_waits r q state true before (pieces.Frame octets) h = cc
asked_waits r q state false before (pieces.Frame octets) h = order_waits r q state before (order_of octets) h
asked_waits r q state waits before (pieces.End whole) h = cc
asked_waits r q state waits before (pieces.Start k) h = cc
asked_waits r q state waits before (pieces.Octets os) h = cc
asked_waits r q state waits before pieces.Gap h = cc

pub waiting_asks : (state : State) (w : Bool) (before : List Entry) (p : pieces.Piece) → w ≡ true → asked_of state w before p ≡ None
waiting_asks state true before (pieces.Frame octets) h = refl
waiting_asks state false before (pieces.Frame octets) h = cc
waiting_asks state w before (pieces.End whole) h = refl
waiting_asks state w before (pieces.Start k) h = refl
waiting_asks state w before (pieces.Octets os) h = refl
waiting_asks state w before pieces.Gap h = refl

-- the pieces of a datagram
pieces_read : (a : AnswererCore) (ps : List pieces.Piece) (now : ℕ) (read : Reading) (events : List CallEvent) → AreRead a events →
    (is_waiting (after_events a events).waiting ≡ true) ⊎ IsRead (first_asked (after_events a events) ps now) read → AreRead a (comes_all ps now read events)
pieces_read a [] now read events t h = t
pieces_read a (p ∷ ps) now read events t (inl w) =
    let c : AnswererCore = after_events a events in
    let n : asked c p ≡ None = waiting_asks c.state (is_waiting c.waiting) c.history p w in
    let here : IfAsked (asked c p) read = subst (λ (o : Option Question). IfAsked o read) (sym n) tt in
    pieces_read a ps now read (Comes p now read ∷ events) (here, t) (inl (wait_more c.waiting (reply_to (decision read c.state (is_waiting c.waiting) c.history p)) w))
pieces_read a (p ∷ ps) now read events t (inr h) = by (asked c p) refl h (λ k w. pieces_read a ps now read (Comes p now read ∷ events) (k, t) w)
  where
    c : AnswererCore
    c = after_events a events

    by : (o : Option Question) → asked c p ≡ o → IsRead (or_else o (first_asked (came None c p now) ps now)) read →
        (IfAsked (asked c p) read → (is_waiting (came read c p now).waiting ≡ true) ⊎ IsRead (first_asked (came read c p now) ps now) read → AreRead a (comes_all ps now read (Comes p now read ∷ events))) →
        AreRead a (comes_all ps now read (Comes p now read ∷ events))
    by None e h f =
        f (subst (λ (o : Option Question). IfAsked o read) (sym e) tt)
        (inr (subst (λ (x : AnswererCore). IsRead (first_asked x ps now) read) (came_same None read c p now e) h))
    by (Some q) e h f =
        f (subst (λ (o : Option Question). IfAsked o read) (sym e) h)
        (inl (wait_after c.waiting (reply_to (decision read c.state (is_waiting c.waiting) c.history p)) (asked_waits read q c.state (is_waiting c.waiting) c.history p e)))

-- one reading for the pieces of a datagram
quiet_all : (a : AnswererCore) (ps : List pieces.Piece) (now : ℕ) (z : AnswererCore) (r : Reading) → is_waiting a.waiting ≡ true → CameSo a ps now z → came_all r a ps now ≡ z
quiet_all a [] now z r w s = s
quiet_all a (p ∷ ps) now z r w s =
    let n : asked a p ≡ None = waiting_asks a.state (is_waiting a.waiting) a.history p w in
    let more : is_waiting (came s.0 a p now).waiting ≡ true = wait_more a.waiting (reply_to (decision s.0 a.state (is_waiting a.waiting) a.history p)) w in
    ap (λ (x : AnswererCore). came_all r x ps now) (came_same r s.0 a p now n) ∙ quiet_all (came s.0 a p now) ps now z r more s.2

pub readings_join : ReadingsJoin
readings_join a [] now z s = (None, refl, s)
readings_join a (p ∷ ps) now z s = by (asked a p) refl s.1 (readings_join (came s.0 a p now) ps now z s.2)
  where
    c : AnswererCore
    c = came s.0 a p now

    by : (o : Option Question) → asked a p ≡ o → IfAsked o s.0 → ((read : Reading) × IsRead (first_asked c ps now) read × (came_all read c ps now ≡ z)) →
        (read : Reading) × IsRead (or_else o (first_asked (came None a p now) ps now)) read × (came_all read (came read a p now) ps now ≡ z)
    by None e k j = (
      j.0,
      subst (λ (x : AnswererCore). IsRead (first_asked x ps now) j.0) (came_same s.0 None a p now e) j.1,
      ap (λ (x : AnswererCore). came_all j.0 x ps now) (came_same j.0 s.0 a p now e) ∙ j.2,
    )
    by (Some q) e k j = (
      s.0,
      k,
      quiet_all c ps now z s.0 (wait_after a.waiting (reply_to (decision s.0 a.state (is_waiting a.waiting) a.history p)) (asked_waits s.0 q a.state (is_waiting a.waiting) a.history p e)) s.2,
    )

-- the leg's core after a datagram
pub comes_came : (a : AnswererCore) (ps : List pieces.Piece) (now : ℕ) (read : Reading) (events : List CallEvent) →
    after_events a (comes_all ps now read events) ≡ came_all read (after_events a events) ps now
comes_came a [] now read events = refl
comes_came a (p ∷ ps) now read events = comes_came a ps now read (Comes p now read ∷ events)

pub calls_are_read : CallsAreRead
calls_are_read core events ps now read right h = (pieces_read core ps now read events right (inr h), comes_came core ps now read events)

pub questions_are_known : QuestionsAreKnown
questions_are_known None = (None, refl)
questions_are_known (Some q) = elim (pages_are_read_or_fail (elements_of (format_of q.dcs).width) (coding_of q.dcs) q.octets) [
  | inl page ↦ (Some (record { format = format_of q.dcs; rows = page.0 }), (refl, page.1))
  | inr fault ↦ (None, fault)
]

pub calls_go_on : CallsGoOn
calls_go_on a ps now = questions_are_known (first_asked a ps now)
