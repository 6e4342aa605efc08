-- In Train and in Idle no packet of the answering core waits, and no answer is decided while one waits.
use Rattle.std.proofs.Common.{◌≡◌, ℕ, ◌/◌, Bool, true, false, not, ◌&&◌, List, [], ◌∷◌, ◌++◌, Option, Some, None, refl, sym, ap, subst, if◌then◌else◌}
use Rattle.fax_frames.specs.declared.dcs.Dcs.{Dcs}
use Rattle.fax_frames.specs.Rates.{bits_a_second}
use Rattle.fax_pagestore.specs.Pages.{PageValue}
use Rattle.fax_ifp.specs.Pieces as pieces
use Rattle.fax_timers.specs.Moments.{is_due}
use Rattle.fax_timers.specs.Paces.{pace_allows}
use Rattle.fax_answer.specs.declared.command.Command.{Command}
use Rattle.fax_answer.specs.declared.command.Command.TheVariants.{Eom, Mps, Eop}
use Rattle.fax_answer.specs.declared.command.Order.{Order}
use Rattle.fax_answer.specs.declared.command.Order.TheVariants as orders
use Rattle.fax_answer.specs.declared.state.State.{State}
use Rattle.fax_answer.specs.declared.state.State.TheVariants.{Idle, Identify, Listen, Train, Page, Again, Closing}
use Rattle.fax_answer.specs.Orders.{order_of}
use Rattle.fax_answer.specs.History.{Entry, Decision, PassesOver, GivesCfr, GivesFtt, GivesMcf, GivesRtn, is_answer, since_answer, octets_since, missing_in_training}
use Rattle.fax_answer.specs.Table.{Reading, has_zero_run, judged, is_one_image, is_quiet, is_repeat, on_command_again, on_order, decision, state_after}
use Rattle.fax_answer.specs.Replies.{WaitingPacket, reply_to, is_waiting}
use Rattle.fax_answer.specs.Calls.{AnswererCore, asked, says_goodbye, identifies_again, identifies_anew, timed_in, timed, state_when_given, TickResult, given_first, ticked}
use Rattle.fax_answer.specs.Following.{Rests}

-- no answer is decided while a packet waits
abbrev pub NoneIf : List WaitingPacket → Decision → Type 0
NoneIf [] d = Unit {0}
NoneIf (w ∷ ws) d = is_answer d ≡ false

pub none_if : (read : Reading) (state : State) (ws : List WaitingPacket) (before : List Entry) (piece : pieces.Piece) → Rests state ws → NoneIf ws (decision read state (is_waiting ws) before piece)
none_if read state [] before piece r = tt
none_if read state (w ∷ ws) before (pieces.Frame octets) r = refl
none_if read Idle (w ∷ ws) before (pieces.End whole) r = refl
none_if read Identify (w ∷ ws) before (pieces.End whole) r = refl
none_if read Listen (w ∷ ws) before (pieces.End whole) r = refl
none_if read (Train dcs) (w ∷ ws) before (pieces.End whole) r = cc
none_if read (Page dcs) (w ∷ ws) before (pieces.End whole) r = refl
none_if read Again (w ∷ ws) before (pieces.End whole) r = refl
none_if read Closing (w ∷ ws) before (pieces.End whole) r = refl
none_if read state (w ∷ ws) before (pieces.Start k) r = refl
none_if read state (w ∷ ws) before (pieces.Octets o) r = refl
none_if read state (w ∷ ws) before pieces.Gap r = refl

abbrev RestsAfter : State → List WaitingPacket → Decision → Type 0
RestsAfter state ws d = Rests (state_after state d) (ws ++ reply_to d)

passes_rests : (state : State) (ws : List WaitingPacket) → Rests state ws → RestsAfter state ws PassesOver
passes_rests Idle ws r = ap (λ (x : List WaitingPacket). x ++ []) r
passes_rests Identify ws r = tt
passes_rests Listen ws r = tt
passes_rests (Train dcs) ws r = ap (λ (x : List WaitingPacket). x ++ []) r
passes_rests (Page dcs) ws r = tt
passes_rests Again ws r = tt
passes_rests Closing ws r = tt

command_rests : (b c : Bool) (o : Option PageValue) (asked : Command) (dcs : Dcs) → RestsAfter (Page dcs) [] (if b then judged asked o else if c then GivesMcf asked None else GivesRtn)
command_rests true c (Some p) Eom dcs = tt
command_rests true c (Some p) Mps dcs = tt
command_rests true c (Some p) Eop dcs = tt
command_rests true c None asked dcs = tt
command_rests false true o Eom dcs = tt
command_rests false true o Mps dcs = tt
command_rests false true o Eop dcs = tt
command_rests false false o asked dcs = tt

eom_rests : (b : Bool) → RestsAfter Again [] (if b then GivesMcf Eom None else GivesRtn)
eom_rests true = tt
eom_rests false = tt

again_rests : (before : List Entry) (asked : Command) → RestsAfter Again [] (on_command_again before asked)
again_rests before Eom = eom_rests (is_quiet (since_answer before))
again_rests before Mps = tt
again_rests before Eop = tt

order_rests : (read : Reading) (state : State) (before : List Entry) (order : Order) → RestsAfter state [] (on_order read state before order)
order_rests read Idle before order = refl
order_rests read Closing before order = tt
order_rests read Identify before (orders.Train d) = refl
order_rests read Identify before (orders.Judge c) = tt
order_rests read Identify before orders.Disconnect = refl
order_rests read Identify before orders.Nothing = tt
order_rests read Listen before (orders.Train d) = refl
order_rests read Listen before (orders.Judge c) = tt
order_rests read Listen before orders.Disconnect = refl
order_rests read Listen before orders.Nothing = tt
order_rests read (Train dcs) before (orders.Train d) = refl
order_rests read (Train dcs) before (orders.Judge c) = refl
order_rests read (Train dcs) before orders.Disconnect = refl
order_rests read (Train dcs) before orders.Nothing = refl
order_rests read (Page dcs) before (orders.Train d) = refl
order_rests read Again before (orders.Train d) = refl
order_rests read (Page dcs) before (orders.Judge c) = command_rests (is_one_image (since_answer before)) (is_repeat before c) read c dcs
order_rests read Again before (orders.Judge c) = again_rests before c
order_rests read (Page dcs) before orders.Disconnect = refl
order_rests read Again before orders.Disconnect = refl
order_rests read (Page dcs) before orders.Nothing = tt
order_rests read Again before orders.Nothing = tt

check_rests : (b : Bool) (dcs : Dcs) (ws : List WaitingPacket) → RestsAfter (Train dcs) ws (if b then GivesCfr dcs else GivesFtt)
check_rests true dcs ws = tt
check_rests false dcs ws = tt

pub rests_after : (read : Reading) (state : State) (ws : List WaitingPacket) (before : List Entry) (piece : pieces.Piece) → Rests state ws → RestsAfter state ws (decision read state (is_waiting ws) before piece)
rests_after read state [] before (pieces.Frame octets) r = order_rests read state before (order_of octets)
rests_after read state (w ∷ ws) before (pieces.Frame octets) r = passes_rests state (w ∷ ws) r
rests_after read Idle ws before (pieces.End whole) r = passes_rests Idle ws r
rests_after read Identify ws before (pieces.End whole) r = tt
rests_after read Listen ws before (pieces.End whole) r = tt
rests_after read (Train dcs) ws before (pieces.End whole) r =
    check_rests (whole && (not (missing_in_training before) && has_zero_run (bits_a_second dcs.rate / 8) (octets_since before))) dcs ws
rests_after read (Page dcs) ws before (pieces.End whole) r = tt
rests_after read Again ws before (pieces.End whole) r = tt
rests_after read Closing ws before (pieces.End whole) r = tt
rests_after read state ws before (pieces.Start k) r = passes_rests state ws r
rests_after read state ws before (pieces.Octets o) r = passes_rests state ws r
rests_after read state ws before pieces.Gap r = passes_rests state ws r

rests_if : (b : Bool) (x y : AnswererCore) → Rests x.state x.waiting → Rests y.state y.waiting → Rests (if◌then◌else◌ {A = AnswererCore} b x y).state (if◌then◌else◌ {A = AnswererCore} b x y).waiting
rests_if true x y p q = p
rests_if false x y p q = q

timed_in_rests : (state : State) (a : AnswererCore) (now : ℕ) → a.state ≡ state → Rests a.state a.waiting → Rests (timed_in state a now).state (timed_in state a now).waiting
timed_in_rests Idle a now e r = r
timed_in_rests Closing a now e r = r
timed_in_rests Identify a now e r =
    rests_if (is_due a.timers.t1 now) (says_goodbye a) (if is_due a.timers.t4 now then identifies_again a else a) tt
    (rests_if (is_due a.timers.t4 now) (identifies_again a) a (subst (λ (p : State). Rests p (identifies_again a).waiting) (sym e) tt) r)
timed_in_rests Listen a now e r = rests_if (is_due a.timers.t2 now) (says_goodbye a) a tt r
timed_in_rests (Train d) a now e r = rests_if (is_due a.timers.t2 now) (says_goodbye a) a tt r
timed_in_rests (Page d) a now e r = rests_if (is_due a.timers.t2 now) (says_goodbye a) a tt r
timed_in_rests Again a now e r = rests_if (is_due a.timers.t2 now) (identifies_anew a now) a tt r

pub given_rests : (state : State) → Rests (state_when_given state) []
given_rests Idle = refl
given_rests Identify = tt
given_rests Listen = tt
given_rests (Train d) = refl
given_rests (Page d) = tt
given_rests Again = tt
given_rests Closing = refl

pub fewer_rests : (state : State) (w v : WaitingPacket) (ws : List WaitingPacket) → Rests state (w ∷ v ∷ ws) → Rests state (v ∷ ws)
fewer_rests Idle w v ws r = cc
fewer_rests Identify w v ws r = tt
fewer_rests Listen w v ws r = tt
fewer_rests (Train d) w v ws r = cc
fewer_rests (Page d) w v ws r = tt
fewer_rests Again w v ws r = tt
fewer_rests Closing w v ws r = tt

first_rests : (a : AnswererCore) (now : ℕ) (ws : List WaitingPacket) → Rests a.state a.waiting → Rests a.state ws → Rests (given_first a now ws).core.state (given_first a now ws).core.waiting
first_rests a now [] r s = r
first_rests a now (w ∷ []) r s = given_rests a.state
first_rests a now (w ∷ v ∷ ws) r s = fewer_rests a.state w v ws s

paced_rests : (b : Bool) (a : AnswererCore) (t : TickResult) → Rests a.state a.waiting → Rests t.core.state t.core.waiting →
    Rests (if◌then◌else◌ {A = TickResult} b t (record { core = a; given = None; ended = false })).core.state (if◌then◌else◌ {A = TickResult} b t (record { core = a; given = None; ended = false })).core.waiting
paced_rests true a t p q = q
paced_rests false a t p q = p

pub ticked_rests : (a : AnswererCore) (now : ℕ) → Rests a.state a.waiting → Rests (ticked a now).core.state (ticked a now).core.waiting
ticked_rests a now r =
    let b : AnswererCore = timed a now in
    let n : Rests b.state b.waiting = rests_if (is_waiting a.waiting) a (timed_in a.state a now) r (timed_in_rests a.state a now refl r) in
    paced_rests (pace_allows b.pace.last now) b (given_first b now b.waiting) n (first_rests b now b.waiting n n)
