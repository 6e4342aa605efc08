-- Each RTN given refuses the last command.
use Rattle.std.proofs.Common.{eq-eqb, ◌≡◌, ℕ, Bool, true, false, ◌&&◌, List, [], ◌∷◌, ◌++◌, Option, Some, None, ◌⊎◌, inl, inr, refl, sym, ◌∙◌, ap, subst, nat_eq, if◌then◌else◌}
use Rattle.fax_frames.specs.declared.dcs.Dcs.{Dcs}
use Rattle.fax_ifp.specs.Pieces as pieces
use Rattle.fax_ifp.specs.WrittenPackets.{written_after}
use Rattle.fax_timers.specs.Moments.{is_due}
use Rattle.fax_timers.specs.Paces.{pace_allows}
use Rattle.fax_answer.specs.declared.command.Command.{Command}
use Rattle.fax_answer.specs.declared.command.Order.{Order}
use Rattle.fax_answer.specs.declared.command.Order.TheVariants as orders
use Rattle.fax_answer.specs.declared.state.State.{State}
use Rattle.fax_answer.specs.declared.state.State.TheVariants.{Idle, Identify, Listen, Train, Page, Again, Closing}
use Rattle.fax_answer.specs.Orders.{order_of}
use Rattle.fax_answer.specs.History.{Entry, Decision, PassesOver, Trains, HangsUp, GivesCfr, GivesFtt, GivesMcf, GivesRtn}
use Rattle.fax_answer.specs.Table.{Reading, on_order, decision}
use Rattle.fax_answer.specs.Replies.{WaitingPacket, reply_to, is_waiting}
use Rattle.fax_answer.specs.Calls.{AnswererCore, rung, came, says_goodbye, identifies_again, identifies_anew, timed_in, timed, TickResult, given_first, ticked, CallEvent, Comes, Ticks, after_events}
use Rattle.fax_answer.specs.EachRtn.{rtn_packet, IsPassed, IsRefusedIn, EachRtnRefuses}
use Rattle.fax_answer.proofs.Confirmations.{timed_history}
use Rattle.fax_answer.proofs.Judging.{judges_each_command}

-- whether octets are the packet of an RTN, by a test
abbrev pub same_octets : List ℕ → List ℕ → Bool
same_octets [] [] = true
same_octets (x ∷ xs) (y ∷ ys) = nat_eq x y && same_octets xs ys
same_octets xs ys = false

abbrev pub has_rtn : List ℕ → Bool
has_rtn packet = same_octets packet rtn_packet

abbrev IsOk : List Entry → WaitingPacket → Type 0
IsOk history w = (has_rtn w.packet ≡ false) ⊎ IsRefusedIn history

abbrev AllOk : List Entry → List WaitingPacket → Type 0
AllOk history [] = Unit {0}
AllOk history (w ∷ ws) = IsOk history w × AllOk history ws

-- what comes while a packet waits
ok_later : (e : Entry) (history : List Entry) (w : WaitingPacket) → IsPassed e.piece e.decision → IsOk history w → IsOk (e ∷ history) w
ok_later e history w p (inl q) = inl q
ok_later e history w p (inr r) =
    inr (record { later = e ∷ r.later; octets = r.octets; before = r.before; split = ap (λ (h : List Entry). e ∷ h) r.split; command = r.command; order = r.order; last = (p, r.last) })

each_later : (e : Entry) (history : List Entry) (ws : List WaitingPacket) → IsPassed e.piece e.decision → AllOk history ws → AllOk (e ∷ history) ws
each_later e history [] p o = tt
each_later e history (w ∷ ws) p o = (ok_later e history w p o.0, each_later e history ws p o.1)

is_passed : (read : Reading) (state : State) (before : List Entry) (piece : pieces.Piece) → IsPassed piece (decision read state true before piece)
is_passed read state before (pieces.Frame octets) = refl
is_passed read state before (pieces.Start k) = tt
is_passed read state before (pieces.Octets o) = tt
is_passed read state before (pieces.End whole) = tt
is_passed read state before pieces.Gap = tt

all_later : (read : Reading) (state : State) (history : List Entry) (piece : pieces.Piece) (ws : List WaitingPacket) → AllOk history ws → AllOk (record { piece = piece; decision = decision read state (is_waiting ws) history piece } ∷ history) ws
all_later read state history piece [] o = tt
all_later read state history piece (w ∷ ws) o =
    each_later (record { piece = piece; decision = decision read state true history piece }) history (w ∷ ws) (is_passed read state history piece) o

ok_both : (history : List Entry) (xs ys : List WaitingPacket) → AllOk history xs → AllOk history ys → AllOk history (xs ++ ys)
ok_both history [] ys a b = b
ok_both history (x ∷ xs) ys a b = (a.0, ok_both history xs ys a.1 b)

-- an RTN is decided at a command
record Refuses (piece : pieces.Piece) : Type 0 where
  octets : List ℕ
  command : Command
  piece_is : piece ≡ pieces.Frame octets
  order : order_of octets ≡ orders.Judge command

rtn_at_order : (read : Reading) (state : State) (before : List Entry) (order : Order) → on_order read state before order ≡ GivesRtn → (command : Command) × (order ≡ orders.Judge command)
rtn_at_order read Idle before (orders.Judge command) h = (command, refl)
rtn_at_order read Idle before (orders.Train d) h = cc
rtn_at_order read Idle before orders.Disconnect h = cc
rtn_at_order read Idle before orders.Nothing h = cc
rtn_at_order read Closing before (orders.Judge command) h = (command, refl)
rtn_at_order read Closing before (orders.Train d) h = cc
rtn_at_order read Closing before orders.Disconnect h = cc
rtn_at_order read Closing before orders.Nothing h = cc
rtn_at_order read Identify before (orders.Judge command) h = (command, refl)
rtn_at_order read Identify before (orders.Train d) h = cc
rtn_at_order read Identify before orders.Disconnect h = cc
rtn_at_order read Identify before orders.Nothing h = cc
rtn_at_order read Listen before (orders.Judge command) h = (command, refl)
rtn_at_order read Listen before (orders.Train d) h = cc
rtn_at_order read Listen before orders.Disconnect h = cc
rtn_at_order read Listen before orders.Nothing h = cc
rtn_at_order read (Train dcs) before (orders.Judge command) h = (command, refl)
rtn_at_order read (Train dcs) before (orders.Train d) h = cc
rtn_at_order read (Train dcs) before orders.Disconnect h = cc
rtn_at_order read (Train dcs) before orders.Nothing h = cc
rtn_at_order read (Page dcs) before (orders.Judge command) h = (command, refl)
rtn_at_order read (Page dcs) before (orders.Train d) h = cc
rtn_at_order read (Page dcs) before orders.Disconnect h = cc
rtn_at_order read (Page dcs) before orders.Nothing h = cc
rtn_at_order read Again before (orders.Judge command) h = (command, refl)
rtn_at_order read Again before (orders.Train d) h = cc
rtn_at_order read Again before orders.Disconnect h = cc
rtn_at_order read Again before orders.Nothing h = cc

check_gives : (b : Bool) (dcs : Dcs) → (if b then GivesCfr dcs else GivesFtt) ≡ GivesRtn → ⊥
check_gives true dcs h = cc
check_gives false dcs h = cc

rtn_at : (read : Reading) (state : State) (waits : Bool) (before : List Entry) (piece : pieces.Piece) → decision read state waits before piece ≡ GivesRtn → Refuses piece
rtn_at read state true before (pieces.Frame octets) h = cc
rtn_at read state false before (pieces.Frame octets) h =
    let c = rtn_at_order read state before (order_of octets) h in
    record { octets = octets; command = c.0; piece_is = refl; order = c.1 }
rtn_at read (Train dcs) waits before (pieces.End whole) h = absurd (check_gives _ dcs h)
rtn_at read Idle waits before (pieces.End whole) h = cc
rtn_at read Identify waits before (pieces.End whole) h = cc
rtn_at read Listen waits before (pieces.End whole) h = cc
rtn_at read (Page dcs) waits before (pieces.End whole) h = cc
rtn_at read Again waits before (pieces.End whole) h = cc
rtn_at read Closing waits before (pieces.End whole) h = cc
rtn_at read state waits before (pieces.Start k) h = cc
rtn_at read state waits before (pieces.Octets o) h = cc
rtn_at read state waits before pieces.Gap h = cc

refused_here : (before : List Entry) (piece : pieces.Piece) (d : Decision) → d ≡ GivesRtn → Refuses piece → IsRefusedIn (record { piece = piece; decision = d } ∷ before)
refused_here before piece d e r =
    let by_decision : Decision → List Entry = λ x. record { piece = piece; decision = x } ∷ before in
    let by_piece : pieces.Piece → List Entry = λ p. record { piece = p; decision = GivesRtn } ∷ before in
    record {
      later = [];
      octets = r.octets;
      before = before;
      split = ap by_decision e ∙ ap by_piece r.piece_is;
      command = r.command;
      order = r.order;
      last = tt;
    }

reply_ok : (history : List Entry) (d : Decision) → (d ≡ GivesRtn → IsRefusedIn history) → AllOk history (reply_to d)
unfolding written_after
reply_ok history PassesOver h = tt
reply_ok history (Trains dcs) h = tt
reply_ok history HangsUp h = tt
reply_ok history (GivesCfr dcs) h = (inl refl, (inl refl, tt))
reply_ok history GivesFtt h = (inl refl, (inl refl, tt))
reply_ok history (GivesMcf command page) h = (inl refl, (inl refl, tt))
reply_ok history GivesRtn h = (inl refl, (inr (h refl), tt))

goodbye_ok : (history : List Entry) (a : AnswererCore) → AllOk history (says_goodbye a).waiting
unfolding written_after
goodbye_ok history a = (inl refl, (inl refl, tt))

again_ok : (history : List Entry) (a : AnswererCore) → AllOk history (identifies_again a).waiting
unfolding written_after
again_ok history a = (inl refl, (inl refl, tt))

anew_ok : (history : List Entry) (a : AnswererCore) (now : ℕ) → AllOk history (identifies_anew a now).waiting
unfolding written_after
anew_ok history a now = (inl refl, (inl refl, tt))

rung_ok : (a : AnswererCore) (now : ℕ) → AllOk [] (rung a now).waiting
unfolding written_after
rung_ok a now = (inl refl, (inl refl, (inl refl, tt)))

came_ok : (read : Reading) (a : AnswererCore) (piece : pieces.Piece) (now : ℕ) → AllOk a.history a.waiting → AllOk (came read a piece now).history (came read a piece now).waiting
came_ok read a piece now o =
    let d : Decision = decision read a.state (is_waiting a.waiting) a.history piece in
    let e : Entry = record { piece = piece; decision = d } in
    ok_both (e ∷ a.history) a.waiting (reply_to d) (all_later read a.state a.history piece a.waiting o)
    (reply_ok (e ∷ a.history) d (λ h. refused_here a.history piece d h (rtn_at read a.state (is_waiting a.waiting) a.history piece h)))

-- ticks
either : (history : List Entry) (b : Bool) (x y : AnswererCore) → AllOk history x.waiting → AllOk history y.waiting → AllOk history (if b then x else y).waiting
either history true x y i j = i
either history false x y i j = j

timed_in_ok : (history : List Entry) (state : State) (a : AnswererCore) (now : ℕ) → AllOk history a.waiting → AllOk history (timed_in state a now).waiting
timed_in_ok history Idle a now i = i
timed_in_ok history Closing a now i = i
timed_in_ok history Identify a now i =
    either history (is_due a.timers.t1 now) _ _ (goodbye_ok history a) (either history (is_due a.timers.t4 now) (identifies_again a) a (again_ok history a) i)
timed_in_ok history Listen a now i = either history (is_due a.timers.t2 now) _ _ (goodbye_ok history a) i
timed_in_ok history (Train d) a now i = either history (is_due a.timers.t2 now) _ _ (goodbye_ok history a) i
timed_in_ok history (Page d) a now i = either history (is_due a.timers.t2 now) _ _ (goodbye_ok history a) i
timed_in_ok history Again a now i = either history (is_due a.timers.t2 now) _ _ (anew_ok history a now) i

abbrev GivenOk : List Entry → Option WaitingPacket → Type 0
GivenOk history None = Unit {0}
GivenOk history (Some w) = IsOk history w

record TickOk (history : List Entry) (t : TickResult) : Type 0 where
  core : AllOk t.core.history t.core.waiting
  given : GivenOk history t.given

first_ok : (a : AnswererCore) (now : ℕ) (ws : List WaitingPacket) → AllOk a.history a.waiting → AllOk a.history ws → TickOk a.history (given_first a now ws)
first_ok a now [] g h = record { core = g; given = tt }
first_ok a now (w ∷ []) g h = record { core = tt; given = h.0 }
first_ok a now (w ∷ v ∷ ws) g h = record { core = h.1; given = h.0 }

tick_if : (b : Bool) (a : AnswererCore) (t : TickResult) → AllOk a.history a.waiting → TickOk a.history t → TickOk a.history (if b then t else record { core = a; given = None; ended = false })
tick_if true a t i k = k
tick_if false a t i k = record { core = i; given = tt }

ticked_ok : (a : AnswererCore) (now : ℕ) → AllOk a.history a.waiting → TickOk a.history (ticked a now)
ticked_ok a now h =
    let b : AnswererCore = timed a now in
    let n : AllOk a.history b.waiting = either a.history (is_waiting a.waiting) a (timed_in a.state a now) h (timed_in_ok a.history a.state a now h) in
    let m : AllOk b.history b.waiting = subst (λ (x : List Entry). AllOk x b.waiting) (sym (timed_history a now)) n in
    subst (λ (x : List Entry). TickOk x (ticked a now)) (timed_history a now)
    (tick_if (pace_allows b.pace.last now) b (given_first b now b.waiting) m (first_ok b now b.waiting m m))

events_ok : (core : AnswererCore) (start : ℕ) (events : List CallEvent) → AllOk (after_events (rung core start) events).history (after_events (rung core start) events).waiting
events_ok core start [] = rung_ok core start
events_ok core start (Comes piece now read ∷ before) = came_ok read (after_events (rung core start) before) piece now (events_ok core start before)
events_ok core start (Ticks now ∷ before) = (ticked_ok (after_events (rung core start) before) now (events_ok core start before)).core

pub is_same : (xs : List ℕ) → same_octets xs xs ≡ true
is_same [] = refl
is_same (x ∷ xs) = ap (λ (b : Bool). b && same_octets xs xs) (eq-eqb x x refl) ∙ is_same xs

found : (history : List Entry) (w : WaitingPacket) → w.packet ≡ rtn_packet → IsOk history w → IsRefusedIn history
found history w e (inl n) = let t : has_rtn w.packet ≡ true = ap has_rtn e ∙ is_same rtn_packet in cc
found history w e (inr r) = r

given_found : (history : List Entry) (o : Option WaitingPacket) (w : WaitingPacket) → GivenOk history o → o ≡ Some w → IsOk history w
given_found history None w g is = cc
given_found history (Some v) w g is = let e : v ≡ w = cc in subst (IsOk history) e g

not_passed : GivesRtn ≡ PassesOver → ⊥
not_passed e = cc

pub each_rtn : EachRtnRefuses
each_rtn core start now events w right given is =
    let a : AnswererCore = after_events (rung core start) events in
    let r : IsRefusedIn a.history = found a.history w is (given_found a.history (ticked a now).given w (ticked_ok a now (events_ok core start events)).given given) in
    (r, judges_each_command core start events r.later r.before r.octets GivesRtn r.command right r.split r.order not_passed)
