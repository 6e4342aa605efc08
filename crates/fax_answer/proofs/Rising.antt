-- Each page for which MCF is given is of one signal of the sender's list, at rising places.
use Rattle.std.proofs.Common.{◌≡◌, ℕ, ◌+◌, ◌<◌, Bool, true, false, List, [], ◌∷◌, ◌++◌, Option, Some, None, refl, sym, ◌∙◌, ap, subst, arith, if◌then◌else◌, option_map}
use Rattle.fax_frames.specs.Capabilities.{format_of, coding_of}
use Rattle.fax_pagestore.specs.Pages.{PageValue}
use Rattle.fax_pagestore.specs.PageTexts.{MeansPage}
use Rattle.fax_ifp.specs.Pieces.{Piece, Frame, Start, Octets, End, Gap}
use Rattle.fax_ifp.specs.Schedules.{octets_alone, signal_at, AreSignals}
use Rattle.fax_ifp.proofs.SentSignals.{raised, images_are_signals}
use Rattle.fax_answer.specs.declared.command.Command.{Command}
use Rattle.fax_answer.specs.declared.state.State.{State}
use Rattle.fax_answer.specs.History.{Entry, Decision, PassesOver, Trains, HangsUp, GivesCfr, GivesFtt, GivesMcf, GivesRtn, is_answer, since_answer, images, last_image, last_whole, octets_since, whole_with, one_if_end}
use Rattle.fax_answer.specs.Table.{Reading, asked_of, decision}
use Rattle.fax_answer.specs.Replies.{is_last, is_waiting}
use Rattle.fax_answer.specs.Calls.{AnswererCore, CallEvent, Comes, Ticks, after_events, rung}
use Rattle.fax_answer.specs.Confirmation.{IsConfirmation, IfAsked, AreRead}
use Rattle.fax_answer.specs.Sent.{pieces_heard, Rises, ConfirmsSignals}
use Rattle.fax_answer.proofs.Confirmations.{KnowsDcs, at_frame, end_accepts_none, InCall, rung_in_call, events_keep, ticked_history}

-- what the table decides at a piece: MCF for a page only where it is a confirmation
abbrev IsDecided : Decision → List Entry → Type 0
IsDecided d before =
    (command : Command) (page : PageValue) → d ≡ GivesMcf command (Some page) → (octets : List ℕ) × IsConfirmation before octets (record { page = page; closes = is_last command })

abbrev pub AreDecided : List Entry → Type 0
AreDecided [] = Unit {0}
AreDecided (e ∷ before) = IsDecided e.decision before × AreDecided before

decided_at : (read : Reading) (state : State) (waits : Bool) (before : List Entry) (p : Piece) → IfAsked (asked_of state waits before p) read → KnowsDcs state before →
    IsDecided (decision read state waits before p) before
decided_at read state waits before (Frame octets) r k = λ command page h. (octets, (at_frame read state waits before octets command page r k h).0)
decided_at read state waits before (End whole) r k = λ command page h. absurd (end_accepts_none read state waits before whole command page h)
decided_at read state waits before (Start n) r k = λ command page h. cc
decided_at read state waits before (Octets o) r k = λ command page h. cc
decided_at read state waits before Gap r k = λ command page h. cc

all_decided : (a : AnswererCore) (events : List CallEvent) → AreRead a events → InCall a → AreDecided a.history → AreDecided (after_events a events).history
all_decided a [] r i h = h
all_decided a (Comes piece now read ∷ before) r i h =
    let b : AnswererCore = after_events a before in
    (decided_at read b.state (is_waiting b.waiting) b.history piece r.0 (events_keep a before r.1 i).knows, all_decided a before r.1 i h)
all_decided a (Ticks now ∷ before) r i h = subst AreDecided (sym (ticked_history (after_events a before) now)) (all_decided a before r i h)

-- the octets of an image in which nothing else stands are those of the history
octets_heard : (h : List Entry) (octets : List ℕ) → octets_alone (pieces_heard h) ≡ Some octets → octets_since h ≡ octets
octets_heard [] octets r = cc
octets_heard (e ∷ h) octets r = by (λ o f. octets_heard h o f) e.piece r
  where
    more : ((o : List ℕ) → octets_alone (pieces_heard h) ≡ Some o → octets_since h ≡ o) → (o : List ℕ) (x : Option (List ℕ)) → octets_alone (pieces_heard h) ≡ x → option_map (λ (front : List ℕ). front ++ o) x ≡ Some octets → octets_since h ++ o ≡ octets
    more f o None is g = cc
    more f o (Some front) is g = ap (λ (y : List ℕ). y ++ o) (f front is) ∙ (let z : front ++ o ≡ octets = cc in z)

    by : ((o : List ℕ) → octets_alone (pieces_heard h) ≡ Some o → octets_since h ≡ o) → (p : Piece) → octets_alone (p ∷ pieces_heard h) ≡ Some octets → octets_since (record { piece = p; decision = e.decision } ∷ h) ≡ octets
    by f (Start k) g = cc
    by f (Octets o) g = more f o (octets_alone (pieces_heard h)) refl g
    by f (Frame o) g = cc
    by f (End whole) g = cc
    by f Gap g = cc

-- the newest image since the last answer, and what is older
record Peeled (packets : List (List ℕ)) (h : List Entry) (b : ℕ) : Type 0 where
  place : ℕ
  below : place < b
  octets : List ℕ
  signal : signal_at packets place ≡ Some octets
  read : last_image h ≡ octets
  rises : Rises packets h place

abbrev RisesAt : List (List ℕ) → List Entry → Type 0
RisesAt packets h = (b : ℕ) → AreDecided h → AreSignals packets (pieces_heard h) b → Rises packets h b

abbrev PeelsAt : List (List ℕ) → List Entry → Type 0
PeelsAt packets h = (b : ℕ) → AreDecided h → AreSignals packets (pieces_heard h) b → images (since_answer h) ≡ 1 → last_whole (since_answer h) ≡ true → Peeled packets h b

earlier_signals : (packets : List (List ℕ)) (p : Piece) (q : List Piece) (b : ℕ) → AreSignals packets (p ∷ q) b → AreSignals packets q b
earlier_signals packets (End true) q b h = let l : h.0 < b = h.1 in raised packets q h.0 b (omega arith) h.3
earlier_signals packets (End false) q b h = h
earlier_signals packets (Frame o) q b h = h
earlier_signals packets (Start k) q b h = h
earlier_signals packets (Octets o) q b h = h
earlier_signals packets Gap q b h = h

rises_at : (packets : List (List ℕ)) (p : Piece) (d : Decision) (h : List Entry) → RisesAt packets h → PeelsAt packets h → RisesAt packets (record { piece = p; decision = d } ∷ h)
rises_at packets p PassesOver h f g b a s = f b a.1 (earlier_signals packets p (pieces_heard h) b s)
rises_at packets p (Trains dcs) h f g b a s = f b a.1 (earlier_signals packets p (pieces_heard h) b s)
rises_at packets p HangsUp h f g b a s = f b a.1 (earlier_signals packets p (pieces_heard h) b s)
rises_at packets p (GivesCfr dcs) h f g b a s = f b a.1 (earlier_signals packets p (pieces_heard h) b s)
rises_at packets p GivesFtt h f g b a s = f b a.1 (earlier_signals packets p (pieces_heard h) b s)
rises_at packets p GivesRtn h f g b a s = f b a.1 (earlier_signals packets p (pieces_heard h) b s)
rises_at packets p (GivesMcf command None) h f g b a s = f b a.1 (earlier_signals packets p (pieces_heard h) b s)
rises_at packets p (GivesMcf command (Some page)) h f g b a s =
    let c = a.0 command page refl in
    let z : Peeled packets h b = g b a.1 (earlier_signals packets p (pieces_heard h) b s) c.1.one_image c.1.whole in (
      z.place,
      z.below,
      record {
        octets = z.octets;
        signal = z.signal;
        read = z.read;
        dcs = c.1.dcs;
        answered = c.1.answered;
        means = subst (λ (o : List ℕ). MeansPage (format_of c.1.dcs) (coding_of c.1.dcs) o page) z.read c.1.means;
      },
      z.rises,
    )

-- an entry that is no answer accepts nothing
quiet_rises : (packets : List (List ℕ)) (p : Piece) (d : Decision) (h : List Entry) (b : ℕ) → is_answer d ≡ false → Rises packets h b → Rises packets (record { piece = p; decision = d } ∷ h) b
quiet_rises packets p PassesOver h b n r = r
quiet_rises packets p (Trains dcs) h b n r = r
quiet_rises packets p HangsUp h b n r = r
quiet_rises packets p GivesFtt h b n r = r
quiet_rises packets p GivesRtn h b n r = r
quiet_rises packets p (GivesCfr dcs) h b n r = cc
quiet_rises packets p (GivesMcf command page) h b n r = cc

no_image : images [] ≡ 1 → ⊥
no_image h = omega arith

zero_more : (n : ℕ) → 0 + n ≡ 1 → n ≡ 1
zero_more n h = omega arith

peel_same : (packets : List (List ℕ)) (p : Piece) (d : Decision) (h : List Entry) (b : ℕ) → is_answer d ≡ false → last_image (record { piece = p; decision = d } ∷ h) ≡ last_image h →
    Peeled packets h b → Peeled packets (record { piece = p; decision = d } ∷ h) b
peel_same packets p d h b n e z =
    record { place = z.place; below = z.below; octets = z.octets; signal = z.signal; read = e ∙ z.read; rises = quiet_rises packets p d h z.place n z.rises }

peel_by : (packets : List (List ℕ)) (p : Piece) (d : Decision) (h : List Entry) (b : ℕ) → is_answer d ≡ false → since_answer (record { piece = p; decision = d } ∷ h) ≡ record { piece = p; decision = d } ∷ since_answer h →
    RisesAt packets h → PeelsAt packets h → AreDecided h → AreSignals packets (p ∷ pieces_heard h) b →
    one_if_end p + images (since_answer h) ≡ 1 → whole_with p (last_whole (since_answer h)) ≡ true → Peeled packets (record { piece = p; decision = d } ∷ h) b
peel_by packets (End true) d h b n e f g a s i w =
    record {
      place = s.0;
      below = s.1;
      octets = s.2.octets;
      signal = s.2.sent;
      read = octets_heard h s.2.octets s.2.heard;
      rises = quiet_rises packets (End true) d h s.0 n (f s.0 a s.3);
    }
peel_by packets (End false) d h b n e f g a s i w = cc
peel_by packets (Frame o) d h b n e f g a s i w = peel_same packets (Frame o) d h b n refl (g b a s (zero_more (images (since_answer h)) i) w)
peel_by packets (Start k) d h b n e f g a s i w = peel_same packets (Start k) d h b n refl (g b a s (zero_more (images (since_answer h)) i) w)
peel_by packets (Octets o) d h b n e f g a s i w = peel_same packets (Octets o) d h b n refl (g b a s (zero_more (images (since_answer h)) i) w)
peel_by packets Gap d h b n e f g a s i w = peel_same packets Gap d h b n refl (g b a s (zero_more (images (since_answer h)) i) w)

peels_at : (packets : List (List ℕ)) (p : Piece) (d : Decision) (h : List Entry) → RisesAt packets h → PeelsAt packets h → PeelsAt packets (record { piece = p; decision = d } ∷ h)
peels_at packets p d h f g b a s i w = by (is_answer d) refl
  where
    entry : Entry
    entry = record { piece = p; decision = d }

    by : (t : Bool) → is_answer d ≡ t → Peeled packets (entry ∷ h) b
    by true e = absurd (no_image (sym (ap (λ (x : Bool). images (if◌then◌else◌ {A = List Entry} x [] (entry ∷ since_answer h))) e) ∙ i))
    by false e =
        let same : since_answer (entry ∷ h) ≡ entry ∷ since_answer h = ap (λ (x : Bool). if◌then◌else◌ {A = List Entry} x [] (entry ∷ since_answer h)) e in
        peel_by packets p d h b e same f g a.1 s (sym (ap images same) ∙ i) (sym (ap last_whole same) ∙ w)

both : (packets : List (List ℕ)) (h : List Entry) → RisesAt packets h × PeelsAt packets h
both packets [] = (λ b a s. tt, λ b a s i w. absurd (no_image i))
both packets (e ∷ h) =
    let k = both packets h in
    (rises_at packets e.piece e.decision h k.0 k.1, peels_at packets e.piece e.decision h k.0 k.1)

pub confirms_signals : ConfirmsSignals
confirms_signals core start events packets next slots right heard sent =
    let a : AnswererCore = after_events (rung core start) events in
    (both packets a.history).0 next (all_decided (rung core start) events right (rung_in_call core start) tt)
    (subst (λ (q : List Piece). AreSignals packets q next) (sym heard) (images_are_signals packets next slots sent))
