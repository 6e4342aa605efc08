-- A call of the answerer that confirmed no page gave no frame MCF, and it never gives RTP.
use Rattle.std.proofs.Common.{◌≡◌, ℕ, ◌<◌, ◌≤◌, Bool, true, false, ◌⊎◌, inl, inr, List, [], ◌∷◌, ◌++◌, length, map, Option, Some, None, refl, sym, ◌∙◌, ap, subst, arith, append-nil}
use Rattle.fax_frames.specs.declared.writing.Plain.{Plain}
use Rattle.fax_frames.specs.declared.writing.Plain.TheVariants.{Cfr, Ftt, Mcf, Rtn, Dcn}
use Rattle.fax_frames.specs.Capabilities.{our_dis}
use Rattle.fax_frames.specs.Frames.{frame_of}
use Rattle.fax_frames.specs.Written.{written_dis, written_plain}
use Rattle.fax_ifp.specs.Packets.{packet_of}
use Rattle.fax_ifp.specs.Pieces as pieces
use Rattle.fax_ifp.specs.Schedules.{AreClosed, is_closed}
use Rattle.fax_pagestore.specs.Pages.{PageValue}
use Rattle.fax_answer.specs.declared.command.Command.{Command}
use Rattle.fax_answer.specs.declared.state.State.{State}
use Rattle.fax_answer.specs.History.{Decision, PassesOver, Trains, HangsUp, GivesCfr, GivesFtt, GivesMcf, GivesRtn, Entry, repeated}
use Rattle.fax_answer.specs.Table.{Reading, decision}
use Rattle.fax_answer.specs.Replies.{ConfirmedPage, WaitingPacket, frame_packet, frame_reply, is_waiting, mcf_packet, plain_reply, reply_to}
use Rattle.fax_answer.specs.Calls.{AnswererCore, CallEvent, Comes, Ticks, after_events, rung, ticked}
use Rattle.fax_answer.specs.Confirmation.{AreRead, IsConfirmedIn, IsRepeatedIn}
use Rattle.fax_answer.specs.Sent.{confirmed_in_tick, confirmed_with, page_accepted, page_with, pages_accepted, pages_confirmed, pages_waiting}
use Rattle.fax_answer.proofs.Accepted.{confirms_what_it_accepted}
use Rattle.fax_answer.proofs.Confirmations.{AreBacked, InCall, IsBacked, KnowsDcs, events_keep, rung_in_call, ticked_history}
use Rattle.fax_answer.proofs.EachMcf.{each_mcf, end_none, frame_repeats}
use Rattle.fax_answer.proofs.EachReply.{Each, IfGiven, OfReplies, events_each, rung_each, ticked_each}
use Rattle.fax_call.specs.Replies.{Packet, Signals, Tells, Part, written}
use Rattle.fax_call.proofs.ClosedPackets.{frame_closed, signal_closed}
use Rattle.fax_call.proofs.ToldFrames.{AreFine, EachTold, IsFine}
use Rattle.fax_gateway.specs.CallingLegs.{packets_with}
use Rattle.fax_gateway.proofs.McfHeard.{IsAck}

-- ---- WHAT WAITS: signals and frames; MCF alone acknowledges
abbrev pub IsNoAck : List ℕ → Type 0
IsNoAck octets = IsAck (frame_of octets) → ⊥

abbrev TellsNoAck : Packet → Type 0
TellsNoAck (Signals code) = Unit {0}
TellsNoAck (Tells frame) = IsNoAck frame
TellsNoAck (Part kind last octets) = Unit {0}

record IsTold (w : WaitingPacket) : Type 0 where
  packet : Packet
  is_packet : w.packet ≡ written packet
  fine : IsFine packet
  closed : is_closed (packet_of w.packet) ≡ true
  tells : (w.packet ≡ mcf_packet) ⊎ TellsNoAck packet

signal_told : (code : ℕ) → code < 16 → IsTold (record { packet = written (Signals code); confirmed = None })
signal_told code l = record { packet = Signals code; is_packet = refl; fine = l; closed = signal_closed code l; tells = inr tt }

frame_told : (frame : List ℕ) (confirmed : Option ConfirmedPage) → 1 ≤ length frame → length frame ≤ 256 → (frame_packet frame ≡ mcf_packet) ⊎ IsNoAck frame → Each IsTold (frame_reply frame confirmed)
frame_told frame confirmed some few tells = (
  signal_told 3 (omega arith),
  (record { packet = Tells frame; is_packet = refl; fine = (some, few); closed = frame_closed frame some few; tells = tells }, tt),
)

plain_told : (p : Plain) (confirmed : Option ConfirmedPage) → (frame_packet (written_plain p false) ≡ mcf_packet) ⊎ IsNoAck (written_plain p false) → Each IsTold (plain_reply p confirmed)
plain_told p confirmed tells = frame_told (written_plain p false) confirmed (omega arith) (omega arith) tells

reply_told : (d : Decision) → Each IsTold (reply_to d)
reply_told PassesOver = tt
reply_told (Trains dcs) = tt
reply_told HangsUp = tt
reply_told (GivesCfr dcs) = plain_told Cfr None (inr (λ ack. ack))
reply_told GivesFtt = plain_told Ftt None (inr (λ ack. ack))
reply_told (GivesMcf command page) = plain_told Mcf _ (inl refl)
reply_told GivesRtn = plain_told Rtn None (inr (λ ack. ack))

replies_told : OfReplies IsTold
replies_told = record {
  tone = signal_told 2 (omega arith);
  dis = frame_told (written_dis our_dis) None (omega arith) (omega arith) (inr (λ ack. ack));
  goodbye = plain_told Dcn None (inr (λ ack. ack));
  reply = reply_told;
}

-- ---- AN MCF WITHOUT A PAGE is decided after a page was accepted alone
abbrev NotBare : Decision → Type 0
NotBare (GivesMcf command None) = ⊥
NotBare d = Unit {0}

abbrev BareAfter : List Entry → Type 0
BareAfter [] = Unit {0}
BareAfter (e ∷ before) = (pages_accepted before ≡ [] → NotBare e.decision) × BareAfter before

rest_none : (o : Option PageValue) (pages : List PageValue) → page_with o pages ≡ [] → pages ≡ []
rest_none None pages n = n
rest_none (Some page) pages n = cc

none_repeated : (h : List Entry) → BareAfter h → pages_accepted h ≡ [] → repeated h ≡ None
none_repeated [] b n = refl
none_repeated (e ∷ h) b n =
    let rest : pages_accepted h ≡ [] = rest_none (page_accepted e.decision) (pages_accepted h) n in
    by e.decision (b.0 rest) (none_repeated h b.1 rest) n
  where
    by : (d : Decision) → NotBare d → repeated h ≡ None → page_with (page_accepted d) (pages_accepted h) ≡ [] → repeated (record { piece = e.piece; decision = d } ∷ h) ≡ None
    by PassesOver f r n = r
    by (Trains dcs) f r n = r
    by HangsUp f r n = r
    by (GivesCfr dcs) f r n = refl
    by GivesFtt f r n = r
    by (GivesMcf command None) f r n = absurd f
    by (GivesMcf command (Some page)) f r n = cc
    by GivesRtn f r n = r

bare_repeats : (read : Reading) (state : State) (waits : Bool) (before : List Entry) (piece : pieces.Piece) (command : Command) → KnowsDcs state before → decision read state waits before piece ≡ GivesMcf command None → repeated before ≡ Some command
bare_repeats read state waits before (pieces.Frame octets) command k e = (frame_repeats read state waits before octets command k e).same
bare_repeats read state waits before (pieces.End whole) command k e = absurd (end_none read state waits before whole command e)
bare_repeats read state waits before (pieces.Start kind) command k e = cc
bare_repeats read state waits before (pieces.Octets octets) command k e = cc
bare_repeats read state waits before pieces.Gap command k e = cc

came_bare : (read : Reading) (state : State) (waits : Bool) (before : List Entry) (piece : pieces.Piece) → KnowsDcs state before → repeated before ≡ None → NotBare (decision read state waits before piece)
came_bare read state waits before piece k none = by (decision read state waits before piece) refl
  where
    by : (d : Decision) → decision read state waits before piece ≡ d → NotBare d
    by PassesOver e = tt
    by (Trains dcs) e = tt
    by HangsUp e = tt
    by (GivesCfr dcs) e = tt
    by GivesFtt e = tt
    by (GivesMcf command None) e = let no : None ≡ Some command = sym none ∙ bare_repeats read state waits before piece command k e in cc
    by (GivesMcf command (Some page)) e = tt
    by GivesRtn e = tt

bare_after : (core : AnswererCore) (start : ℕ) (events : List CallEvent) → AreRead (rung core start) events → BareAfter (after_events (rung core start) events).history
bare_after core start [] right = tt
bare_after core start (Comes piece now read ∷ before) right =
    let a : AnswererCore = after_events (rung core start) before in
    let i : InCall a = events_keep (rung core start) before right.1 (rung_in_call core start) in
    let b : BareAfter a.history = bare_after core start before right.1 in
    (λ n. came_bare read a.state (is_waiting a.waiting) a.history piece i.knows (none_repeated a.history b n), b)
bare_after core start (Ticks now ∷ before) right = subst BareAfter (sym (ticked_history (after_events (rung core start) before) now)) (bare_after core start before right)

bare_at : (later : List Entry) (e : Entry) (before : List Entry) → BareAfter (later ++ e ∷ before) → pages_accepted (later ++ e ∷ before) ≡ [] → NotBare e.decision
bare_at [] e before b n = b.0 (rest_none (page_accepted e.decision) (pages_accepted before) n)
bare_at (x ∷ later) e before b n = bare_at later e before b.1 (rest_none (page_accepted x.decision) (pages_accepted (later ++ e ∷ before)) n)

-- ---- none is given again while a page waits
same_entry : (xs : List Entry) (x y : Entry) (older other : List Entry) → xs ++ x ∷ older ≡ xs ++ y ∷ other → x ≡ y
same_entry [] x y older other e = cc
same_entry (z ∷ xs) x y older other e = let rest : xs ++ x ∷ older ≡ xs ++ y ∷ other = cc in same_entry xs x y older other rest

not_both : (h : List Entry) (c : ConfirmedPage) → IsRepeatedIn h → IsConfirmedIn h c → ⊥
not_both h c r k =
    let given : Entry = record { piece = pieces.Frame k.octets; decision = k.decision } in
    let again : Entry = record { piece = pieces.Frame r.octets; decision = r.decision } in
    let same : k.later ≡ r.later = sym k.last ∙ r.last in
    let e : r.later ++ again ∷ r.before ≡ r.later ++ given ∷ k.before = sym r.split ∙ k.split ∙ ap (λ (later : List Entry). later ++ given ∷ k.before) same in
    let d : r.decision ≡ k.decision = ap (λ (x : Entry). x.decision) (same_entry r.later again given r.before k.before e) in
    let no : GivesMcf r.command None ≡ GivesMcf k.confirmation.command (Some c.page) = sym r.accepts ∙ d ∙ k.accepts in cc

none_waits : (h : List Entry) (ws : List WaitingPacket) → IsRepeatedIn h → AreBacked h ws → pages_waiting ws ≡ []
none_waits h [] r b = refl
none_waits h (w ∷ ws) r b = by w.confirmed b.0 (none_waits h ws r b.1)
  where
    by : (c : Option ConfirmedPage) → IsBacked h c → pages_waiting ws ≡ [] → pages_waiting ws ++ confirmed_with c [] ≡ []
    by None k n = append-nil (pages_waiting ws) ∙ n
    by (Some c) k n = absurd (not_both h c r k)

-- ---- SO NO MCF IS GIVEN where no page is confirmed
abbrev IsNone : Option ConfirmedPage → Type 0
IsNone None = Unit {0}
IsNone (Some c) = ⊥

no_mcf : (core : AnswererCore) (start now : ℕ) (events : List CallEvent) (w : WaitingPacket) → AreRead (rung core start) events → pages_confirmed (rung core start) events ≡ []
    → (ticked (after_events (rung core start) events) now).given ≡ Some w → IsNone w.confirmed → w.packet ≡ mcf_packet → ⊥
no_mcf core start now events w right none given unconfirmed mcf = by (each_mcf core start now events w right given mcf)
  where
    a : AnswererCore
    a = after_events (rung core start) events

    by : ((c : ConfirmedPage) × (w.confirmed ≡ Some c)) ⊎ IsRepeatedIn a.history → ⊥
    by (inl c) = subst IsNone c.1 unconfirmed
    by (inr r) =
        let i : InCall a = events_keep (rung core start) events right (rung_in_call core start) in
        let waits : pages_waiting a.waiting ≡ [] = none_waits a.history a.waiting r i.backed in
        let accepted : pages_accepted a.history ≡ [] =
        (confirms_what_it_accepted core start events).0 ∙ ap (λ (pages : List PageValue). pages ++ pages_confirmed (rung core start) events) waits ∙ none in
        let e : Entry = record { piece = pieces.Frame r.octets; decision = r.decision } in
        let n : NotBare r.decision = bare_at r.later e r.before (subst BareAfter r.split (bare_after core start events right)) (subst (λ (h : List Entry). pages_accepted h ≡ []) r.split accepted) in
        subst NotBare r.accepts n

-- ---- the packets that a call gave, the newest first
abbrev pub given_of : AnswererCore → List CallEvent → List (List ℕ)
given_of a [] = []
given_of a (Comes piece now read ∷ before) = given_of a before
given_of a (Ticks now ∷ before) = packets_with (ticked (after_events a before) now).given (given_of a before)

pub record TellsNoMcf (given : List (List ℕ)) : Type 0 where
  pub packets : List Packet
  pub are_packets : given ≡ map written packets
  pub fine : AreFine packets
  pub closed : AreClosed given
  pub told : EachTold IsNoAck packets

one_told : (packet : Packet) (packets : List Packet) → TellsNoAck packet → EachTold IsNoAck packets → EachTold IsNoAck (packet ∷ packets)
one_told (Signals code) packets n t = t
one_told (Tells frame) packets n t = (n, t)
one_told (Part kind last octets) packets n t = t

one_more : (o : Option WaitingPacket) (given : List (List ℕ)) → ((w : WaitingPacket) → o ≡ Some w → w.packet ≡ mcf_packet → ⊥) → IfGiven IsTold o → TellsNoMcf given → TellsNoMcf (packets_with o given)
one_more None given n r t = t
one_more (Some w) given n r t = record {
  packets = r.packet ∷ t.packets;
  are_packets = ap (λ (x : List ℕ). x ∷ given) r.is_packet ∙ ap (λ (xs : List (List ℕ)). written r.packet ∷ xs) t.are_packets;
  fine = (r.fine, t.fine);
  closed = (r.closed, t.closed);
  told = one_told r.packet t.packets (by r.tells) t.told;
}
  where
    by : (w.packet ≡ mcf_packet) ⊎ TellsNoAck r.packet → TellsNoAck r.packet
    by (inl mcf) = absurd (n w refl mcf)
    by (inr none) = none

none_in_tick : (o : Option WaitingPacket) (pages : List PageValue) → confirmed_in_tick o pages ≡ [] → (pages ≡ []) × ((w : WaitingPacket) → o ≡ Some w → IsNone w.confirmed)
none_in_tick None pages e = (e, λ w is. cc)
none_in_tick (Some v) pages e = by v.confirmed refl e
  where
    by : (c : Option ConfirmedPage) → v.confirmed ≡ c → confirmed_with c pages ≡ [] → (pages ≡ []) × ((w : WaitingPacket) → Some v ≡ Some w → IsNone w.confirmed)
    by None is e = (e, λ w s. let same : v ≡ w = cc in subst (λ (x : WaitingPacket). IsNone x.confirmed) same (subst IsNone (sym is) tt))
    by (Some c) is e = cc

pub tells_no_mcf : (core : AnswererCore) (start : ℕ) (events : List CallEvent) → AreRead (rung core start) events → pages_confirmed (rung core start) events ≡ [] → TellsNoMcf (given_of (rung core start) events)
tells_no_mcf core start [] right e = record { packets = []; are_packets = refl; fine = tt; closed = tt; told = tt }
tells_no_mcf core start (Comes piece now read ∷ before) right e = tells_no_mcf core start before right.1 e
tells_no_mcf core start (Ticks now ∷ before) right e =
    let a : AnswererCore = after_events (rung core start) before in
    let n = none_in_tick (ticked a now).given (pages_confirmed (rung core start) before) e in
    one_more (ticked a now).given (given_of (rung core start) before) (λ w is mcf. no_mcf core start now before w right n.0 is (n.1 w is) mcf)
    (ticked_each IsTold replies_told a now (events_each IsTold replies_told (rung core start) before (rung_each IsTold replies_told core start))).given (tells_no_mcf core start before right n.0)
