-- What both machines give is short enough for a datagram; and a call that is over stays so.
use Rattle.std.proofs.Common.{◌≡◌, ℕ, ◌≤◌, Bool, true, false, List, [], ◌∷◌, length, Option, None, refl, sym, ◌∙◌, ap, arith, if◌then◌else◌}
use Rattle.fax_frames.specs.declared.writing.Plain.{Plain}
use Rattle.fax_frames.specs.declared.writing.Plain.TheVariants as plain
use Rattle.fax_frames.specs.Frames.{frame_of}
use Rattle.fax_frames.specs.Written.{written_plain}
use Rattle.fax_timers.specs.Moments.{is_due}
use Rattle.fax_timers.specs.Paces.{pace_allows}
use Rattle.fax_ifp.specs.Pieces as pieces
use Rattle.fax_ifp.specs.Pieces.{Piece}
use Rattle.fax_ifp.specs.WrittenPackets.{written_after}
use Rattle.fax_jobs.specs.Jobs.{JobValue}
use Rattle.fax_answer.specs.declared.state.State.{State as Answering}
use Rattle.fax_answer.specs.declared.state.State.TheVariants as answering
use Rattle.fax_answer.specs.Calls as answer
use Rattle.fax_answer.specs.Calls.{AnswererCore}
use Rattle.fax_answer.specs.History.{Decision, PassesOver, Trains, HangsUp, GivesCfr, GivesFtt, GivesMcf, GivesRtn, Entry}
use Rattle.fax_answer.specs.Replies.{ConfirmedPage, WaitingPacket, frame_packet, plain_reply, confirmed_if, reply_to, is_waiting}
use Rattle.fax_answer.specs.Table.{Reading, decision, state_after}
use Rattle.fax_call.specs.declared.state.State.{State as Calling}
use Rattle.fax_call.specs.declared.state.State.TheVariants as calling
use Rattle.fax_call.specs.Calls as call
use Rattle.fax_call.specs.Calls.{CallerCore}
use Rattle.fax_call.specs.Delivery.{is_over}
use Rattle.fax_call.specs.Replies.{Due, Packet, waits, turn_after}
use Rattle.fax_call.specs.Table.{Move, Stays, on_frame, on_timers}
use Rattle.fax_call.specs.Writings.{Writing}
use Rattle.fax_gateway.specs.CallingLegs.{is_idle}
use Rattle.fax_answer.proofs.EachReply.{Each, OfReplies, came_each}
use Rattle.fax_call.proofs.Told.{over_is_idle}
use Rattle.fax_gateway.proofs.Fitting.{AllFit, moved_fits}
use Rattle.fax_gateway.proofs.IdleLegs.{idle_is, idle_timed}

-- ---- THE ANSWERER's packets
abbrev pub IsShort : WaitingPacket → Type 0
IsShort w = length w.packet ≤ 16383

plain_packet : (p : Plain) → length (frame_packet (written_plain p false)) ≤ 16383
unfolding written_after
plain_packet p = omega arith

plain_short : (p : Plain) (confirmed : Option ConfirmedPage) → Each IsShort (plain_reply p confirmed)
plain_short p confirmed = (omega arith, (plain_packet p, tt))

dis_short : Each IsShort answer.dis_reply
unfolding written_after
dis_short = (omega arith, (omega arith, tt))

reply_short : (d : Decision) → Each IsShort (reply_to d)
reply_short PassesOver = tt
reply_short (Trains dcs) = tt
reply_short HangsUp = tt
reply_short (GivesCfr dcs) = plain_short plain.Cfr None
reply_short GivesFtt = plain_short plain.Ftt None
reply_short (GivesMcf command page) = plain_short plain.Mcf (confirmed_if command page)
reply_short GivesRtn = plain_short plain.Rtn None

pub are_short : OfReplies IsShort
are_short = record { tone = omega arith; dis = dis_short; goodbye = plain_short plain.Dcn None; reply = reply_short }

pub came_short : (read : Reading) (a : AnswererCore) (ps : List Piece) (now : ℕ) → Each IsShort a.waiting → Each IsShort (answer.came_all read a ps now).waiting
came_short read a [] now h = h
came_short read a (p ∷ ps) now h = came_short read (answer.came read a p now) ps now (came_each IsShort are_short read a p now h)

-- ---- THE CALLER's
pub came_fits : (a : CallerCore) (ps : List Piece) (now : ℕ) → AllFit a.waiting → AllFit (call.came_all a ps now).waiting
came_fits a [] now h = h
came_fits a (p ∷ ps) now h = came_fits (call.came a p now) ps now (moved_fits a (call.heard a p now) h)

-- ---- A CALL THAT IS OVER STAYS SO
either_stays : (b : Bool) → (if◌then◌else◌ {A = Move} b Stays Stays) ≡ Stays
either_stays true = refl
either_stays false = refl

heard_over : (a : CallerCore) (p : Piece) (now : ℕ) → a.state ≡ calling.Idle → call.heard a p now ≡ Stays
heard_over a (pieces.Frame octets) now e =
    ap (λ (s : Calling). if◌then◌else◌ {A = Move} (waits a.waiting) Stays (on_frame now a.format (turn_after a.formats a.counts.page) a.pages s a.counts (frame_of octets))) e ∙ either_stays (waits a.waiting)
heard_over a (pieces.Start kind) now e = refl
heard_over a (pieces.Octets octets) now e = refl
heard_over a (pieces.End whole) now e = refl
heard_over a pieces.Gap now e = refl

came_over : (a : CallerCore) (ps : List Piece) (now : ℕ) → a.state ≡ calling.Idle → call.came_all a ps now ≡ a
came_over a [] now e = refl
came_over a (p ∷ ps) now e =
    ap (λ (m : Move). call.came_all (call.moved a m) ps now) (heard_over a p now e) ∙ came_over a ps now e

after_over : (a : CallerCore) (now : ℕ) (packet : Packet) (due : List Due) → a.state ≡ calling.Idle → (call.after_giving a now packet due).state ≡ calling.Idle
after_over a now packet [] e = ap call.state_when_given e
after_over a now packet (d ∷ due) e = e

first_over : (writes : Writing) (job : JobValue) (a : CallerCore) (now : ℕ) (due : List Due) → a.state ≡ calling.Idle → (call.given_first writes job a now due).core.state ≡ calling.Idle
first_over writes job a now [] e = e
first_over writes job a now (d ∷ due) e = after_over a now (call.taken writes job d due).packet (call.taken writes job d due).rest e

paced_over : (writes : Writing) (job : JobValue) (a : CallerCore) (now : ℕ) → a.state ≡ calling.Idle → (call.paced writes job a now).core.state ≡ calling.Idle
paced_over writes job a now e = by (pace_allows a.pace.last now)
  where
    by : (b : Bool) → (if◌then◌else◌ {A = call.TickResult} b (call.given_first writes job a now a.waiting) (record { core = a; given = None })).core.state ≡ calling.Idle
    by true = first_over writes job a now a.waiting e
    by false = e

ticked_over : (writes : Writing) (job : JobValue) (a : CallerCore) (now : ℕ) → a.state ≡ calling.Idle → (call.ticked writes job a now).core.state ≡ calling.Idle
ticked_over writes job a now e =
    let held : call.timed a now ≡ a =
    ap (λ (s : Calling). call.moved a (if◌then◌else◌ {A = Move} (waits a.waiting) Stays (on_timers (is_due a.t1 now) (is_due a.t4 now) s a.counts))) e
    ∙ ap (λ (m : Move). call.moved a m) (either_stays (waits a.waiting)) in
    ap (λ (b : CallerCore). (call.paced writes job b now).core.state) held ∙ paced_over writes job a now e

pub stays_over : (writes : Writing) (job : JobValue) (a : CallerCore) (ps : List Piece) (now : ℕ) → is_over (call.ticked writes job (call.came_all a ps now) now).core.state ≡ false → is_over a.state ≡ false
stays_over writes job a ps now h = by (is_over a.state) refl
  where
    by : (b : Bool) → is_over a.state ≡ b → b ≡ false
    by false e = refl
    by true e =
        let idle : a.state ≡ calling.Idle = over_is_idle a.state e in
        let same : (call.ticked writes job (call.came_all a ps now) now).core.state ≡ calling.Idle = ap (λ (b : CallerCore). (call.ticked writes job b now).core.state) (came_over a ps now idle) ∙ ticked_over writes job a now idle in
        sym (ap is_over same) ∙ h

either_passes : (b : Bool) → (if◌then◌else◌ {A = Decision} b PassesOver PassesOver) ≡ PassesOver
either_passes true = refl
either_passes false = refl

decides_none : (read : Reading) (waits : Bool) (h : List Entry) (p : Piece) → decision read answering.Idle waits h p ≡ PassesOver
decides_none read waits h (pieces.Frame octets) = either_passes waits
decides_none read waits h (pieces.Start kind) = refl
decides_none read waits h (pieces.Octets octets) = refl
decides_none read waits h (pieces.End whole) = refl
decides_none read waits h pieces.Gap = refl

came_idle : (read : Reading) (a : AnswererCore) (ps : List Piece) (now : ℕ) → a.state ≡ answering.Idle → (answer.came_all read a ps now).state ≡ answering.Idle
came_idle read a [] now e = e
came_idle read a (p ∷ ps) now e =
    came_idle read (answer.came read a p now) ps now
    (ap (λ (s : Answering). state_after s (decision read s (is_waiting a.waiting) a.history p)) e ∙ ap (λ (d : Decision). state_after answering.Idle d) (decides_none read (is_waiting a.waiting) a.history p))

first_idle : (a : AnswererCore) (now : ℕ) (ws : List WaitingPacket) → a.state ≡ answering.Idle → (answer.given_first a now ws).core.state ≡ answering.Idle
first_idle a now [] e = e
first_idle a now (w ∷ []) e = ap answer.state_when_given e
first_idle a now (w ∷ v ∷ ws) e = e

paced_idle : (a : AnswererCore) (now : ℕ) → a.state ≡ answering.Idle → (answer.paced a now).core.state ≡ answering.Idle
paced_idle a now e = by (pace_allows a.pace.last now)
  where
    by : (b : Bool) → (if◌then◌else◌ {A = answer.TickResult} b (answer.given_first a now a.waiting) (record { core = a; given = None; ended = false })).core.state ≡ answering.Idle
    by true = first_idle a now a.waiting e
    by false = e

ticked_idle : (a : AnswererCore) (now : ℕ) → a.state ≡ answering.Idle → (answer.ticked a now).core.state ≡ answering.Idle
ticked_idle a now e = ap (λ (b : AnswererCore). (answer.paced b now).core.state) (idle_timed a now e) ∙ paced_idle a now e

pub stays_idle : (read : Reading) (a : AnswererCore) (ps : List Piece) (now : ℕ) → is_idle (answer.ticked (answer.came_all read a ps now) now).core.state ≡ false → is_idle a.state ≡ false
stays_idle read a ps now h = by (is_idle a.state) refl
  where
    by : (b : Bool) → is_idle a.state ≡ b → b ≡ false
    by false e = refl
    by true e =
        let idle : a.state ≡ answering.Idle = idle_is a.state e in
        sym (ap is_idle (ticked_idle (answer.came_all read a ps now) now (came_idle read a ps now idle))) ∙ h
