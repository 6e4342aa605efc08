-- A call that delivered its pages heard a frame MCF or RTP.
use Rattle.std.proofs.Common.{◌≡◌, ℕ, zero, suc, ◌<◌, Bool, true, false, List, [], ◌∷◌, length, reverse, Option, Some, None, ◌⊎◌, inl, inr, refl, sym, ◌∙◌, subst, arith, if◌then◌else◌}
use Rattle.fax_frames.specs.declared.frame.Frame.{Frame}
use Rattle.fax_frames.specs.declared.frame.Frame.TheVariants as frames
use Rattle.fax_frames.specs.Frames.{frame_of}
use Rattle.fax_ifp.specs.Elements as elements
use Rattle.fax_ifp.specs.Packets.{packet_of}
use Rattle.fax_ifp.specs.Pieces as pieces
use Rattle.fax_ifp.specs.Pieces.{Piece}
use Rattle.fax_ifp.proofs.SentFrames.{Has, has_onto}
use Rattle.fax_jobs.specs.declared.outcome.Outcome.{Outcome}
use Rattle.fax_jobs.specs.declared.outcome.Outcome.TheVariants as outcomes
use Rattle.fax_jobs.specs.Jobs.{JobValue, IsJob}
use Rattle.fax_call.specs.declared.state.State.TheVariants.{Idle}
use Rattle.fax_call.specs.Writings.{Writing, IsWriting}
use Rattle.fax_call.specs.Replies.{Packet, written}
use Rattle.fax_call.specs.Calls.{CallerCore, CallEvent, Comes, Ticks, after_events, started, ticked}
use Rattle.fax_call.specs.Delivery.{AnswersThePages, all_below, is_over, marks_until_over, page_answered, page_if, pages_answered, pages_before}
use Rattle.fax_call.specs.Emission.{Acknowledged, Answered, Asked, Begins, Emission, Gave, Mark, Refused, Reply, Unasked, acknowledged_by, closed, elements_given, emitted_at, frame_at, gave_all, is_command, is_preamble, marks_after, marks_given, marks_heard, replied, reply_given, reply_heard, reply_or}
use Rattle.fax_call.specs.Numbers.{numbered}
use Rattle.fax_call.proofs.Told.{tells_what_was_answered}
use Rattle.fax_gateway.specs.CalledLegs.{CalledLeg}

-- ---- AN ACKNOWLEDGEMENT in the call
abbrev HasAck : List Mark → Type 0
HasAck [] = ⊥
HasAck (Gave e ∷ marks) = HasAck marks
HasAck (Acknowledged ∷ marks) = Unit {0}
HasAck (Refused ∷ marks) = HasAck marks
HasAck (Begins ∷ marks) = ⊥

heard_good : (H : Type 0) (r : Reply) → (r ≡ Answered true → H) → reply_heard false r ≡ Answered true → H
heard_good H Unasked f e = cc
heard_good H Asked f e = absurd (let b : false ≡ true = cc in cc)
heard_good H (Answered good) f e = f e

closed_good : (H : Type 0) (r : Reply) → (r ≡ Answered true → H) → closed r ≡ Answered true → H
closed_good H Unasked f e = cc
closed_good H Asked f e = cc
closed_good H (Answered good) f e = f e

given_good : (H : Type 0) (o : Option Emission) (command after : Bool) (r : Reply) → (r ≡ Answered true → H) → reply_or o (reply_given command after r) ≡ Answered true → H
given_good H (Some e) command after r f is = cc
given_good H None true true r f is = cc
given_good H None true false r f is = cc
given_good H None false after r f is = closed_good H r f is

replied_ack : (marks : List Mark) → replied marks ≡ Answered true → HasAck marks
replied_ack [] e = cc
replied_ack (Begins ∷ marks) e = cc
replied_ack (Acknowledged ∷ marks) e = tt
replied_ack (Refused ∷ marks) e = heard_good (HasAck marks) (replied marks) (replied_ack marks) e
replied_ack (Gave x ∷ marks) e =
    let before : List elements.Element = elements_given marks in
    given_good (HasAck marks) (emitted_at before x) (is_command (frame_at before x)) (is_preamble (pieces.since_indicator before)) (replied marks) (replied_ack marks) e

page_ack : (H : Type 0) (r : Reply) (last : Option (Option ℕ)) (pages : List ℕ) → (r ≡ Answered true → H) → ((pages ≡ [] → ⊥) → H) → (page_answered r last pages ≡ [] → ⊥) → H
page_ack H Unasked last pages f g n = g n
page_ack H Asked last pages f g n = g n
page_ack H (Answered true) last pages f g n = f refl
page_ack H (Answered false) last pages f g n = g n

if_ack : (H : Type 0) (o : Option Emission) (r : Reply) (last : Option (Option ℕ)) (pages : List ℕ) → (r ≡ Answered true → H) → ((pages ≡ [] → ⊥) → H) → (page_if o r last pages ≡ [] → ⊥) → H
if_ack H None r last pages f g n = g n
if_ack H (Some e) r last pages f g n = page_ack H r last pages f g n

before_ack : (marks : List Mark) → (pages_before marks ≡ [] → ⊥) → HasAck marks
before_ack [] n = absurd (n refl)
before_ack (Begins ∷ marks) n = absurd (n refl)
before_ack (Acknowledged ∷ marks) n = tt
before_ack (Refused ∷ marks) n = before_ack marks n
before_ack (Gave x ∷ marks) n = if_ack (HasAck marks) (emitted_at (elements_given marks) x) (replied marks) (numbered marks) (pages_before marks) (replied_ack marks) (before_ack marks) n

answered_ack : (marks : List Mark) → (pages_answered marks ≡ [] → ⊥) → HasAck marks
answered_ack marks n = page_ack (HasAck marks) (replied marks) (numbered marks) (pages_before marks) (replied_ack marks) (before_ack marks) n

some_below : (n : ℕ) → 0 < n → all_below n ≡ [] → ⊥
some_below zero l e = absurd (omega arith)
some_below (suc n) l e = cc

delivered_ack : (n : ℕ) (events : List CallEvent) (marks : List Mark) → 0 < n → AnswersThePages outcomes.Delivered n events marks → HasAck marks
delivered_ack n events marks l (inl e) = answered_ack marks (λ none. some_below n l (sym e ∙ none))
delivered_ack n events marks l (inr c) = absurd (let e : outcomes.Delivered ≡ outcomes.NoReply = c.0.0 in cc)

-- ---- is a frame that came
abbrev pub IsAck : Option Frame → Type 0
IsAck (Some frames.Mcf) = Unit {0}
IsAck (Some frames.Rtp) = Unit {0}
IsAck other = ⊥

abbrev IsAckPiece : Piece → Type 0
IsAckPiece (pieces.Frame octets) = IsAck (frame_of octets)
IsAckPiece piece = ⊥

abbrev Acks : List CallEvent → Type 0
Acks [] = ⊥
Acks (Comes piece now ∷ before) = IsAckPiece piece ⊎ Acks before
Acks (Ticks now ∷ before) = Acks before

by_ack : (H : Type 0) (o : Option Frame) (marks : List Mark) → (HasAck marks → H) → HasAck (acknowledged_by o marks) → IsAck o ⊎ H
by_ack H (Some frames.Mcf) marks f h = inl tt
by_ack H (Some frames.Rtp) marks f h = inl tt
by_ack H (Some frames.Rtn) marks f h = inr (f h)
by_ack H o marks f h = inr (f h)

heard_ack : (H : Type 0) (piece : Piece) (marks : List Mark) → (HasAck marks → H) → HasAck (marks_heard piece marks) → IsAckPiece piece ⊎ H
heard_ack H (pieces.Frame octets) marks f h = by_ack H (frame_of octets) marks f h
heard_ack H (pieces.Start kind) marks f h = inr (f h)
heard_ack H (pieces.Octets octets) marks f h = inr (f h)
heard_ack H (pieces.End whole) marks f h = inr (f h)
heard_ack H pieces.Gap marks f h = inr (f h)

gave_ack : (es : List elements.Element) (marks : List Mark) → HasAck (gave_all es marks) → HasAck marks
gave_ack [] marks h = h
gave_ack (e ∷ es) marks h = gave_ack es (Gave e ∷ marks) h

given_ack : (o : Option Packet) (marks : List Mark) → HasAck (marks_given o marks) → HasAck marks
given_ack None marks h = h
given_ack (Some packet) marks h = gave_ack (elements.elements_in (packet_of (written packet))) marks h

after_ack : (writes : Writing) (job : JobValue) (old : List Mark) (a : CallerCore) (events : List CallEvent) → HasAck (marks_after writes job old a events) → Acks events
after_ack writes job old a [] h = absurd h
after_ack writes job old a (Comes piece now ∷ before) h = heard_ack (Acks before) piece (marks_after writes job old a before) (after_ack writes job old a before) h
after_ack writes job old a (Ticks now ∷ before) h = after_ack writes job old a before (given_ack (ticked writes job (after_events writes job a before) now).given (marks_after writes job old a before) h)

event_ack : (e : CallEvent) (before : List CallEvent) → Acks before → Acks (e ∷ before)
event_ack (Comes piece now) before h = inr h
event_ack (Ticks now) before h = h

until_ack : (writes : Writing) (job : JobValue) (old : List Mark) (a : CallerCore) (events : List CallEvent) → HasAck (marks_until_over writes job old a events) → Acks events
until_ack writes job old a [] h = absurd h
until_ack writes job old a (e ∷ before) h = by (is_over (after_events writes job a before).state) (until_ack writes job old a before) h
  where
    by : (b : Bool) → (HasAck (marks_until_over writes job old a before) → Acks before)
        → HasAck (if◌then◌else◌ {A = List Mark} b (marks_until_over writes job old a before) (marks_after writes job old a (e ∷ before))) → Acks (e ∷ before)
    by true f h = event_ack e before (f h)
    by false f h = after_ack writes job old a (e ∷ before) h

same_outcome : (o : Option Outcome) (a b : Outcome) → o ≡ Some a → o ≡ Some b → a ≡ b
same_outcome o a b e f = cc

pub delivered_acks : (writes : Writing) (l : CalledLeg) → IsWriting writes → IsJob l.job →
    let over : CallerCore = after_events writes l.job (started l.before l.job l.begun) l.events in
    over.state ≡ Idle → over.outcome ≡ Some outcomes.Delivered → Acks l.events
delivered_acks writes l w is idle delivered =
    let (outcome, same, told, rest) = tells_what_was_answered writes l.job [] l.before l.begun l.events w is idle in
    let over : CallerCore = after_events writes l.job (started l.before l.job l.begun) l.events in
    let marks : List Mark = marks_until_over writes l.job [] (started l.before l.job l.begun) l.events in
    let d : outcome ≡ outcomes.Delivered = same_outcome over.outcome outcome outcomes.Delivered same delivered in
    let all : over.counts.delivered ≡ length l.job.pages = told.all_if d in
    let some : 0 < length l.job.pages = is.some in
    until_ack writes l.job [] (started l.before l.job l.begun) l.events
    (delivered_ack over.counts.delivered l.events marks (omega arith) (subst (λ (o : Outcome). AnswersThePages o over.counts.delivered l.events marks) d told.pages))

-- ---- among the pieces of what arrived
abbrev pub came_pieces : List CallEvent → List Piece
came_pieces [] = []
came_pieces (Comes piece now ∷ before) = piece ∷ came_pieces before
came_pieces (Ticks now ∷ before) = came_pieces before

pub record HasAckFrame (ps : List Piece) : Type 0 where
  pub octets : List ℕ
  pub has : Has ps octets
  pub ack : IsAck (frame_of octets)

older_frame : (p : Piece) (ps : List Piece) → HasAckFrame ps → HasAckFrame (p ∷ ps)
older_frame p ps h = record { octets = h.octets; has = inr h.has; ack = h.ack }

newest_frame : (p : Piece) (ps : List Piece) → IsAckPiece p → HasAckFrame (p ∷ ps)
newest_frame (pieces.Frame octets) ps a = record { octets = octets; has = inl refl; ack = a }
newest_frame (pieces.Start kind) ps a = absurd a
newest_frame (pieces.Octets octets) ps a = absurd a
newest_frame (pieces.End whole) ps a = absurd a
newest_frame pieces.Gap ps a = absurd a

pub acks_frame : (events : List CallEvent) → Acks events → HasAckFrame (came_pieces events)
acks_frame [] h = absurd h
acks_frame (Comes piece now ∷ before) (inl a) = newest_frame piece (came_pieces before) a
acks_frame (Comes piece now ∷ before) (inr h) = older_frame piece (came_pieces before) (acks_frame before h)
acks_frame (Ticks now ∷ before) h = acks_frame before h

pub turned_frame : (ps : List Piece) → HasAckFrame (reverse ps) → HasAckFrame ps
turned_frame ps h = record { octets = h.octets; has = by (has_onto ps [] h.octets h.has); ack = h.ack }
  where
    by : Has ps h.octets ⊎ Has [] h.octets → Has ps h.octets
    by (inl x) = x
    by (inr x) = absurd x
