-- Each MCF given confirms a page or answers a repeated command.
use Rattle.std.proofs.Common.{eq-eqb, ◌≡◌, ℕ, ◌/◌, Bool, true, false, not, ◌&&◌, List, [], ◌∷◌, ◌++◌, Option, Some, None, ◌⊎◌, inl, inr, refl, sym, ◌∙◌, ap, subst, nat_eq, if◌then◌else◌}
use Rattle.fax_frames.specs.declared.dcs.Dcs.{Dcs}
use Rattle.fax_frames.specs.Rates.{bits_a_second}
use Rattle.fax_pagestore.specs.Pages.{PageValue}
use Rattle.fax_ifp.specs.Pieces as pieces
use Rattle.fax_timers.specs.Moments.{is_due}
use Rattle.fax_timers.specs.Paces.{pace_allows}
use Rattle.fax_answer.specs.declared.command.Command.{Command}
use Rattle.fax_answer.specs.declared.command.Command.TheVariants.{Eom, Mps, Eop}
use Rattle.fax_answer.specs.declared.command.Order.{Order}
use Rattle.fax_answer.specs.declared.command.Order.TheVariants as orders
use Rattle.fax_answer.specs.declared.state.State.{State}
use Rattle.fax_answer.specs.declared.state.State.TheVariants.{Idle, Identify, Listen, Train, Page, Again, Closing}
use Rattle.fax_answer.specs.Orders.{order_of}
use Rattle.fax_answer.specs.History.{Entry, Decision, PassesOver, Trains, HangsUp, GivesCfr, GivesFtt, GivesMcf, GivesRtn, is_answer, since_answer, images, gap, repeated, octets_since, missing_in_training}
use Rattle.fax_answer.specs.Table.{Reading, has_zero_run, judged, is_one_image, is_quiet, same_command, is_repeat, on_command_again, on_order, decision}
use Rattle.fax_answer.specs.Replies.{ConfirmedPage, is_last, WaitingPacket, reply_to, is_waiting, mcf_packet}
use Rattle.fax_answer.specs.Calls.{AnswererCore, rung, came, asked, says_goodbye, identifies_again, identifies_anew, timed_in, timed, TickResult, given_first, ticked, CallEvent, Comes, Ticks, after_events}
use Rattle.fax_ifp.specs.WrittenPackets.{written_after}
use Rattle.fax_answer.specs.Confirmation.{AreRead, IsRepeatedIn, EachMcfAnswers}
use Rattle.fax_answer.proofs.Confirmations.{KnowsDcs, InCall, events_keep, rung_in_call, timed_history}
use Rattle.fax_answer.specs.Following.{Rests}
use Rattle.fax_answer.proofs.Rests.{NoneIf, none_if, rests_after, ticked_rests}

-- whether octets are the packet of an MCF, by a test
abbrev same_octets : List ℕ → List ℕ → Bool
same_octets [] [] = true
same_octets (x ∷ xs) (y ∷ ys) = nat_eq x y && same_octets xs ys
same_octets xs ys = false

abbrev HasMcf : List ℕ → Bool
HasMcf packet = same_octets packet mcf_packet

abbrev pub IsOk : List Entry → WaitingPacket → Type 0
IsOk history w = (HasMcf w.packet ≡ false) ⊎ (IsRepeatedIn history ⊎ ((c : ConfirmedPage) × (w.confirmed ≡ Some c)))

abbrev pub AllOk : List Entry → List WaitingPacket → Type 0
AllOk history [] = Unit {0}
AllOk history (w ∷ ws) = IsOk history w × AllOk history ws

repeated_later : (e : Entry) (history : List Entry) → is_answer e.decision ≡ false → IsRepeatedIn history → IsRepeatedIn (e ∷ history)
repeated_later e history n r =
    record {
      later = e ∷ r.later;
      octets = r.octets;
      decision = r.decision;
      before = r.before;
      split = ap (λ (h : List Entry). e ∷ h) r.split;
      command = r.command;
      order = r.order;
      accepts = r.accepts;
      same = r.same;
      quiet = r.quiet;
      last = ap (λ (b : Bool). if◌then◌else◌ {A = List Entry} b [] (e ∷ since_answer history)) n ∙ ap (λ (h : List Entry). e ∷ h) r.last;
    }

ok_later : (e : Entry) (history : List Entry) (w : WaitingPacket) → is_answer e.decision ≡ false → IsOk history w → IsOk (e ∷ history) w
ok_later e history w n (inl q) = inl q
ok_later e history w n (inr (inl r)) = inr (inl (repeated_later e history n r))
ok_later e history w n (inr (inr c)) = inr (inr c)

each_later : (e : Entry) (history : List Entry) (ws : List WaitingPacket) → is_answer e.decision ≡ false → AllOk history ws → AllOk (e ∷ history) ws
each_later e history [] n o = tt
each_later e history (w ∷ ws) n o = (ok_later e history w n o.0, each_later e history ws n o.1)

all_later : (e : Entry) (history : List Entry) (ws : List WaitingPacket) → NoneIf ws e.decision → AllOk history ws → AllOk (e ∷ history) ws
all_later e history [] n o = tt
all_later e history (w ∷ ws) n o = each_later e history (w ∷ ws) n o

ok_both : (history : List Entry) (xs ys : List WaitingPacket) → AllOk history xs → AllOk history ys → AllOk history (xs ++ ys)
ok_both history [] ys a b = b
ok_both history (x ∷ xs) ys a b = (a.0, ok_both history xs ys a.1 b)

reply_ok : (history : List Entry) (d : Decision) → ((command : Command) → d ≡ GivesMcf command None → IsRepeatedIn history) → AllOk history (reply_to d)
unfolding written_after
reply_ok history PassesOver h = tt
reply_ok history (Trains dcs) h = tt
reply_ok history HangsUp h = tt
reply_ok history (GivesCfr dcs) h = (inl refl, (inl refl, tt))
reply_ok history GivesFtt h = (inl refl, (inl refl, tt))
reply_ok history (GivesMcf command None) h = (inl refl, (inr (inl (h command refl)), tt))
reply_ok history (GivesMcf command (Some page)) h = (inl refl, (inr (inr (record { page = page; closes = is_last command }, refl)), tt))
reply_ok history GivesRtn h = (inl refl, (inl refl, tt))

goodbye_ok : (history : List Entry) (a : AnswererCore) → AllOk history (says_goodbye a).waiting
unfolding written_after
goodbye_ok history a = (inl refl, (inl refl, tt))

again_ok : (history : List Entry) (a : AnswererCore) → AllOk history (identifies_again a).waiting
unfolding written_after
again_ok history a = (inl refl, (inl refl, tt))

anew_ok : (history : List Entry) (a : AnswererCore) (now : ℕ) → AllOk history (identifies_anew a now).waiting
unfolding written_after
anew_ok history a now = (inl refl, (inl refl, tt))

rung_ok : (a : AnswererCore) (now : ℕ) → AllOk [] (rung a now).waiting
unfolding written_after
rung_ok a now = (inl refl, (inl refl, (inl refl, tt)))

-- a repeated command is one
chosen : (b c : Bool) (r : Option PageValue) (asked command : Command) →
    (if b then judged asked r else if c then GivesMcf asked None else GivesRtn) ≡ GivesMcf command None → (asked ≡ command) × (c ≡ true)
chosen true c (Some p) asked command h = cc
chosen true c None asked command h = cc
chosen false true r asked command h = (cc, refl)
chosen false false r asked command h = cc

pub record Repeats (before : List Entry) (order : Order) (command : Command) : Type 0 where
  pub order_is : order ≡ orders.Judge command
  pub same : repeated before ≡ Some command
  pub quiet : is_quiet (since_answer before) ≡ true

-- the parts of a repeat
parts : (a b c : Bool) → (a && (b && c)) ≡ true → ((a && b) ≡ true) × (c ≡ true)
parts true true c h = (refl, h)
parts true false c h = cc
parts false b c h = cc

same_is : (o : Option Command) (command : Command) → same_command o command ≡ true → o ≡ Some command
same_is None command h = cc
same_is (Some Eom) command h = cc
same_is (Some Mps) Eom h = cc
same_is (Some Mps) Mps h = refl
same_is (Some Mps) Eop h = cc
same_is (Some Eop) Eom h = cc
same_is (Some Eop) Mps h = cc
same_is (Some Eop) Eop h = refl

in_page : (before : List Entry) (command : Command) → is_repeat before command ≡ true → Repeats before (orders.Judge command) command
in_page before command h =
    let p = parts (nat_eq (images (since_answer before)) 0) (not (gap (since_answer before))) (same_command (repeated before) command) h in
    record { order_is = refl; same = same_is (repeated before) command p.1; quiet = p.0 }

eom_again : (b : Bool) (command : Command) → (if b then GivesMcf Eom None else GivesRtn) ≡ GivesMcf command None → (Eom ≡ command) × (b ≡ true)
eom_again true command h = (cc, refl)
eom_again false command h = cc

in_again : (before : List Entry) (asked command : Command) → repeated before ≡ Some Eom → on_command_again before asked ≡ GivesMcf command None → Repeats before (orders.Judge asked) command
in_again before Eom command k h =
    let e = eom_again (is_quiet (since_answer before)) command h in
    record { order_is = ap orders.Judge e.0; same = k ∙ ap Some e.0; quiet = e.1 }
in_again before Mps command k h = cc
in_again before Eop command k h = cc

by_order : (read : Reading) (state : State) (before : List Entry) (order : Order) (command : Command) → KnowsDcs state before → on_order read state before order ≡ GivesMcf command None → Repeats before order command
by_order read Idle before order command n h = cc
by_order read Closing before order command n h = cc
by_order read Identify before (orders.Train d) command n h = cc
by_order read Identify before (orders.Judge c) command n h = cc
by_order read Identify before orders.Disconnect command n h = cc
by_order read Identify before orders.Nothing command n h = cc
by_order read Listen before (orders.Train d) command n h = cc
by_order read Listen before (orders.Judge c) command n h = cc
by_order read Listen before orders.Disconnect command n h = cc
by_order read Listen before orders.Nothing command n h = cc
by_order read (Train dcs) before (orders.Train d) command n h = cc
by_order read (Train dcs) before (orders.Judge c) command n h = cc
by_order read (Train dcs) before orders.Disconnect command n h = cc
by_order read (Train dcs) before orders.Nothing command n h = cc
by_order read (Page dcs) before (orders.Train d) command n h = cc
by_order read Again before (orders.Train d) command n h = cc
by_order read (Page dcs) before orders.Disconnect command n h = cc
by_order read Again before orders.Disconnect command n h = cc
by_order read (Page dcs) before orders.Nothing command n h = cc
by_order read Again before orders.Nothing command n h = cc
by_order read (Page dcs) before (orders.Judge c) command n h =
    let k = chosen (is_one_image (since_answer before)) (is_repeat before c) read c command h in
    subst (Repeats before (orders.Judge c)) k.0 (in_page before c k.1)
by_order read Again before (orders.Judge c) command n h = in_again before c command n h

check_passes : (b : Bool) (dcs : Dcs) (command : Command) → (if b then GivesCfr dcs else GivesFtt) ≡ GivesMcf command None → ⊥
check_passes true dcs command h = cc
check_passes false dcs command h = cc

pub frame_repeats : (read : Reading) (state : State) (waits : Bool) (before : List Entry) (octets : List ℕ) (command : Command) → KnowsDcs state before → decision read state waits before (pieces.Frame octets) ≡ GivesMcf command None → Repeats before (order_of octets) command
frame_repeats read state true before octets command n h = cc
frame_repeats read state false before octets command n h = by_order read state before (order_of octets) command n h

pub end_none : (read : Reading) (state : State) (waits : Bool) (before : List Entry) (whole : Bool) (command : Command) → decision read state waits before (pieces.End whole) ≡ GivesMcf command None → ⊥
end_none read Idle waits before whole command h = cc
end_none read Identify waits before whole command h = cc
end_none read Listen waits before whole command h = cc
end_none read (Train dcs) waits before whole command h =
    check_passes (whole && (not (missing_in_training before) && has_zero_run (bits_a_second dcs.rate / 8) (octets_since before))) dcs command h
end_none read (Page dcs) waits before whole command h = cc
end_none read Again waits before whole command h = cc
end_none read Closing waits before whole command h = cc

since_none : (d : Decision) (command : Command) (piece : pieces.Piece) (before : List Entry) → d ≡ GivesMcf command None → since_answer (record { piece = piece; decision = d } ∷ before) ≡ []
since_none d command piece before h = ap (λ (x : Decision). since_answer (record { piece = piece; decision = x } ∷ before)) h

repeated_at : (read : Reading) (state : State) (waits : Bool) (before : List Entry) (piece : pieces.Piece) (command : Command) → KnowsDcs state before → decision read state waits before piece ≡ GivesMcf command None →
    IsRepeatedIn (record { piece = piece; decision = decision read state waits before piece } ∷ before)
repeated_at read state waits before (pieces.Frame octets) command n h =
    let r : Repeats before (order_of octets) command = frame_repeats read state waits before octets command n h in
    record { last = since_none (decision read state waits before (pieces.Frame octets)) command (pieces.Frame octets) before h; later = []; octets = octets; decision = decision read state waits before (pieces.Frame octets); before = before; split = refl; command = command; order = r.order_is; accepts = h; same = r.same; quiet = r.quiet }
repeated_at read state waits before (pieces.End whole) command n h = absurd (end_none read state waits before whole command h)
repeated_at read state waits before (pieces.Start k) command n h = cc
repeated_at read state waits before (pieces.Octets o) command n h = cc
repeated_at read state waits before pieces.Gap command n h = cc

came_ok : (read : Reading) (a : AnswererCore) (piece : pieces.Piece) (now : ℕ) → KnowsDcs a.state a.history → Rests a.state a.waiting → AllOk a.history a.waiting → AllOk (came read a piece now).history (came read a piece now).waiting
came_ok read a piece now n r o =
    let d : Decision = decision read a.state (is_waiting a.waiting) a.history piece in
    let e : Entry = record { piece = piece; decision = d } in
    ok_both (e ∷ a.history) a.waiting (reply_to d) (all_later e a.history a.waiting (none_if read a.state a.waiting a.history piece r) o) (reply_ok (e ∷ a.history) d (λ command h. repeated_at read a.state (is_waiting a.waiting) a.history piece command n h))

-- ticks
either : (history : List Entry) (b : Bool) (x y : AnswererCore) → AllOk history x.waiting → AllOk history y.waiting → AllOk history (if b then x else y).waiting
either history true x y i j = i
either history false x y i j = j

timed_in_ok : (history : List Entry) (state : State) (a : AnswererCore) (now : ℕ) → AllOk history a.waiting → AllOk history (timed_in state a now).waiting
timed_in_ok history Idle a now i = i
timed_in_ok history Closing a now i = i
timed_in_ok history Identify a now i =
    either history (is_due a.timers.t1 now) _ _ (goodbye_ok history a) (either history (is_due a.timers.t4 now) (identifies_again a) a (again_ok history a) i)
timed_in_ok history Listen a now i = either history (is_due a.timers.t2 now) _ _ (goodbye_ok history a) i
timed_in_ok history (Train d) a now i = either history (is_due a.timers.t2 now) _ _ (goodbye_ok history a) i
timed_in_ok history (Page d) a now i = either history (is_due a.timers.t2 now) _ _ (goodbye_ok history a) i
timed_in_ok history Again a now i = either history (is_due a.timers.t2 now) _ _ (anew_ok history a now) i

abbrev pub GivenOk : List Entry → Option WaitingPacket → Type 0
GivenOk history None = Unit {0}
GivenOk history (Some w) = IsOk history w

pub record TickOk (history : List Entry) (t : TickResult) : Type 0 where
  pub core : AllOk t.core.history t.core.waiting
  pub given : GivenOk history t.given

first_ok : (a : AnswererCore) (now : ℕ) (ws : List WaitingPacket) → AllOk a.history a.waiting → AllOk a.history ws → TickOk a.history (given_first a now ws)
first_ok a now [] g h = record { core = g; given = tt }
first_ok a now (w ∷ []) g h = record { core = tt; given = h.0 }
first_ok a now (w ∷ v ∷ ws) g h = record { core = h.1; given = h.0 }

tick_if : (b : Bool) (a : AnswererCore) (t : TickResult) → AllOk a.history a.waiting → TickOk a.history t → TickOk a.history (if b then t else record { core = a; given = None; ended = false })
tick_if true a t i k = k
tick_if false a t i k = record { core = i; given = tt }

ticked_ok : (a : AnswererCore) (now : ℕ) → AllOk a.history a.waiting → TickOk a.history (ticked a now)
ticked_ok a now h =
    let b : AnswererCore = timed a now in
    let n : AllOk a.history b.waiting = either a.history (is_waiting a.waiting) a (timed_in a.state a now) h (timed_in_ok a.history a.state a now h) in
    let m : AllOk b.history b.waiting = subst (λ (x : List Entry). AllOk x b.waiting) (sym (timed_history a now)) n in
    subst (λ (x : List Entry). TickOk x (ticked a now)) (timed_history a now)
    (tick_if (pace_allows b.pace.last now) b (given_first b now b.waiting) m (first_ok b now b.waiting m m))

-- a call
rung_all_ok : (a : AnswererCore) (now : ℕ) → AllOk (rung a now).history (rung a now).waiting
rung_all_ok a now = rung_ok a now

record CallOk (a : AnswererCore) : Type 0 where
  ok : AllOk a.history a.waiting
  rests : Rests a.state a.waiting

events_ok : (core : AnswererCore) (start : ℕ) (events : List CallEvent) → AreRead (rung core start) events → CallOk (after_events (rung core start) events)
events_ok core start [] right = record { ok = rung_all_ok core start; rests = tt }
events_ok core start (Comes piece now read ∷ before) right =
    let c : AnswererCore = after_events (rung core start) before in
    let k : CallOk c = events_ok core start before right.1 in
    let i : InCall c = events_keep (rung core start) before right.1 (rung_in_call core start) in
    record { ok = came_ok read c piece now i.knows k.rests k.ok; rests = rests_after read c.state c.waiting c.history piece k.rests }
events_ok core start (Ticks now ∷ before) right =
    let c : AnswererCore = after_events (rung core start) before in
    let k : CallOk c = events_ok core start before right in
    record { ok = (ticked_ok c now k.ok).core; rests = ticked_rests c now k.rests }

is_same : (xs : List ℕ) → same_octets xs xs ≡ true
is_same [] = refl
is_same (x ∷ xs) = ap (λ (b : Bool). b && same_octets xs xs) (eq-eqb x x refl) ∙ is_same xs

found : (history : List Entry) (w : WaitingPacket) → w.packet ≡ mcf_packet → IsOk history w → ((c : ConfirmedPage) × (w.confirmed ≡ Some c)) ⊎ IsRepeatedIn history
found history w e (inl n) = let t : HasMcf w.packet ≡ true = ap HasMcf e ∙ is_same mcf_packet in cc
found history w e (inr (inl r)) = inr r
found history w e (inr (inr c)) = inl c

given_found : (history : List Entry) (o : Option WaitingPacket) (w : WaitingPacket) → GivenOk history o → o ≡ Some w → IsOk history w
given_found history None w g is = cc
given_found history (Some v) w g is = let e : v ≡ w = cc in subst (IsOk history) e g

pub each_mcf : EachMcfAnswers
each_mcf core start now events w right given is =
    let a : AnswererCore = after_events (rung core start) events in
    let k : CallOk a = events_ok core start events right in
    found a.history w is (given_found a.history (ticked a now).given w (ticked_ok a now k.ok).given given)
