-- Over an honest schedule a call confirms signals of the sender's list, and hears its frames.
use Rattle.std.proofs.Common.{◌≡◌, ℕ, zero, suc, ◌<◌, ◌≤◌, Bool, true, false, List, [], ◌∷◌, ◌++◌, reverse, length, drop, Option, Some, None, Result, Ok, Err, ◌⊎◌, inl, inr, refl, sym, ◌∙◌, ap, subst, arith, if◌then◌else◌}
use Rattle.std.proofs.Math.Seq.{drop-append_seam}
use Rattle.std.proofs.lemmas.List.{reverse-append}
use Rattle.fax_udptl.specs.declared.fault.UdptlFault.{UdptlFault}
use Rattle.fax_udptl.specs.Datagrams.{DatagramValue, datagram_of}
use Rattle.fax_udptl.specs.Slots.{slots, newest_slots}
use Rattle.fax_udptl.specs.Schedules.{Arrival, datagrams, IsHonest, BeginsAtFirst, ArePartOf}
use Rattle.fax_udptl.proofs.SlotLemmas.{decided_now, slots_go_on}
use Rattle.fax_udptl.proofs.Honest.{slots_are_a_part}
use Rattle.fax_ifp.specs.Elements.{Slot}
use Rattle.fax_ifp.specs.Pieces.{Piece, pieces}
use Rattle.fax_ifp.specs.Schedules.{AreClosed}
use Rattle.fax_ifp.proofs.SlotLaws.{pieces_go_on}
use Rattle.fax_ifp.proofs.SentSignals.{onto, onto_both}
use Rattle.fax_ifp.proofs.SentFrames.{Has, has_onto, contained, contains, frames_are_sent}
use Rattle.fax_pagestore.specs.Pages.{PageValue}
use Rattle.fax_answer.specs.History.{Entry}
use Rattle.fax_answer.specs.Table.{Reading}
use Rattle.fax_answer.specs.Calls.{AnswererCore, CallEvent, Comes, after_events, rung}
use Rattle.fax_answer.specs.Readings.{comes_all}
use Rattle.fax_answer.specs.Sent.{pieces_heard, page_accepted, RisesBy, Rises}
use Rattle.fax_answer.proofs.Confirmations.{ticked_history}
use Rattle.fax_answer.proofs.Rising.{confirms_signals}
use Rattle.fax_gateway.specs.Setups.{Setup}
use Rattle.fax_gateway.specs.Events.{Event, Ring, FromCalling, FromCalled, Tick, Placed, clock}
use Rattle.fax_gateway.specs.Legs.{new_pieces}
use Rattle.fax_gateway.specs.CallingLegs.{CallingLeg, core_of, is_idle, leg_with, calling_after, calling_leg}
use Rattle.fax_gateway.specs.Sent as sent
use Rattle.fax_gateway.proofs.LegsRead.{leg_is_read}

-- WHAT A LEG HAS HEARD ARE THE PIECES OF ITS SLOTS
after_more : (old : List DatagramValue) (d : DatagramValue) (more : List Slot) → newest_slots (d ∷ old) ≡ more ++ newest_slots old → pieces (newest_slots (d ∷ old)) ≡ pieces (newest_slots old) ++ new_pieces old d
unfolding new_pieces
after_more old d more e =
    let go = pieces_go_on more (newest_slots old) in
    let is : pieces (newest_slots (d ∷ old)) ≡ pieces (newest_slots old) ++ go.0 = ap pieces e ∙ go.1 in
    is ∙ ap (λ (x : List Piece). pieces (newest_slots old) ++ x)
    (sym (ap (λ (x : List Piece). drop (length (pieces (newest_slots old))) x) is ∙ drop-append_seam (pieces (newest_slots old)) go.0))

more_newest : (old : List DatagramValue) (d : DatagramValue) → (more : List Slot) × (newest_slots (d ∷ old) ≡ more ++ newest_slots old)
unfolding newest_slots slots
more_newest [] d = (newest_slots (d ∷ []), sym (none_after (newest_slots (d ∷ []))))
  where
    none_after : (xs : List Slot) → xs ++ [] ≡ xs
    none_after [] = refl
    none_after (x ∷ xs) = ap (λ (ys : List Slot). x ∷ ys) (none_after xs)
more_newest (e ∷ old) d =
    (reverse (decided_now d (e ∷ old)), ap (λ (s : List Slot). reverse s) (slots_go_on d e old) ∙ reverse-append (slots (e ∷ old)) (decided_now d (e ∷ old)))

pub go_on : (old : List DatagramValue) (d : DatagramValue) → pieces (newest_slots (d ∷ old)) ≡ pieces (newest_slots old) ++ new_pieces old d
go_on old d = let m = more_newest old d in after_more old d m.0 m.1

abbrev HeardSo : Option CallingLeg → Type 0
HeardSo None = Unit {0}
HeardSo (Some l) = pieces_heard (core_of l).history ≡ reverse (pieces (newest_slots l.arrived))

comes_heard : (a : AnswererCore) (ps : List Piece) (now : ℕ) (read : Reading) (events : List CallEvent)
    → pieces_heard (after_events a (comes_all ps now read events)).history ≡ onto ps (pieces_heard (after_events a events).history)
comes_heard a [] now read events = refl
comes_heard a (p ∷ ps) now read events = comes_heard a ps now read (Comes p now read ∷ events)

leg_heard : (l : CallingLeg) (now : ℕ) (read : Reading) (r : Result DatagramValue UdptlFault) → HeardSo (Some l) → HeardSo (Some (leg_with l now read r))
leg_heard l now read (Err f) h = h
leg_heard l now read (Ok d) h =
    comes_heard (rung l.before l.begun) (new_pieces l.arrived d) now read l.events
    ∙ ap (onto (new_pieces l.arrived d)) h
    ∙ sym (onto_both (pieces (newest_slots l.arrived)) (new_pieces l.arrived d) [])
    ∙ ap (λ (ps : List Piece). reverse ps) (sym (go_on l.arrived d))

pub none_newest : [] ≡ reverse (pieces (newest_slots []))
unfolding newest_slots slots
none_newest = refl

step_heard : (setup : Setup) (o : Option CallingLeg) (now : ℕ) (e : Event) → HeardSo o → HeardSo (calling_after setup o now e)
step_heard setup None now (Ring at n) h = none_newest
step_heard setup (Some l) now (Ring at n) h = none_newest
step_heard setup None now (FromCalling octets at decided read) h = tt
step_heard setup (Some l) now (FromCalling octets at decided read) h = by (is_idle (core_of l).state)
  where
    by : (t : Bool) → HeardSo (if t then Some l else Some (leg_with l now read (datagram_of octets)))
    by true = h
    by false = leg_heard l now read (datagram_of octets) h
step_heard setup None now (FromCalled octets at decided) h = tt
step_heard setup (Some l) now (FromCalled octets at decided) h = h
step_heard setup None now (Placed at connected) h = tt
step_heard setup (Some l) now (Placed at connected) h = h
step_heard setup None now (Tick at given) h = tt
step_heard setup (Some l) now (Tick at given) h = ap pieces_heard (ticked_history (core_of l) now) ∙ h

heard_so : (setup : Setup) (trace : List Event) → HeardSo (calling_leg setup trace)
heard_so setup [] = tt
heard_so setup (e ∷ earlier) = step_heard setup (calling_leg setup earlier) (clock (e ∷ earlier)) e (heard_so setup earlier)

pub leg_heard_so : (setup : Setup) (trace : List Event) (l : CallingLeg) → calling_leg setup trace ≡ Some l → pieces_heard (core_of l).history ≡ reverse (pieces (newest_slots l.arrived))
leg_heard_so setup trace l is = subst HeardSo is (heard_so setup trace)

-- OVER AN HONEST SCHEDULE
later_bound : (packets : List (List ℕ)) (h : List Entry) (b c : ℕ) → b ≤ c → Rises packets h b → Rises packets h c
later_bound packets [] b c l r = tt
later_bound packets (e ∷ h) b c l r = by (λ x. later_bound packets h b c l x) (page_accepted e.decision) r
  where
    by : (Rises packets h b → Rises packets h c) → (o : Option PageValue) → RisesBy packets h o b (Rises packets h) → RisesBy packets h o c (Rises packets h)
    by f None x = f x
    by f (Some page) x = let m : x.0 < b = x.1 in (x.0, omega arith, x.2, x.3)

pub leg_confirms_signals : sent.ConfirmsSignals
leg_confirms_signals setup writes trace l packets arrivals t is honest arrived =
    let part : ArePartOf packets arrivals = slots_are_a_part packets arrivals honest in
    let heard : pieces_heard (core_of l).history ≡ reverse (pieces (newest_slots (datagrams arrivals))) =
    leg_heard_so setup trace l is ∙ ap (λ (ds : List DatagramValue). reverse (pieces (newest_slots ds))) arrived in
    later_bound packets (core_of l).history part.next (length packets) part.within
    (confirms_signals l.before l.begun l.events packets part.next (newest_slots (datagrams arrivals)) (leg_is_read setup writes trace l t is) heard part.slots)

or_whole : (packets : List (List ℕ)) (arrivals : List Arrival) (next n : ℕ) → (BeginsAtFirst arrivals → next ≡ n) → BeginsAtFirst arrivals ⊎ AreClosed packets → (next ≡ n) ⊎ AreClosed packets
or_whole packets arrivals next n f (inl b) = inl (f b)
or_whole packets arrivals next n f (inr c) = inr c

turned : (ps : List Piece) (o : List ℕ) → Has (reverse ps) o → Has ps o
turned ps o h = by (has_onto ps [] o h)
  where
    by : Has ps o ⊎ Has [] o → Has ps o
    by (inl x) = x
    by (inr x) = absurd x

pub leg_hears_sent_frames : sent.HearsSentFrames
leg_hears_sent_frames setup writes trace l packets arrivals t is honest arrived w octets c =
    let part : ArePartOf packets arrivals = slots_are_a_part packets arrivals honest in
    let ss : List Slot = newest_slots (datagrams arrivals) in
    let heard : pieces_heard (core_of l).history ≡ reverse (pieces ss) =
    leg_heard_so setup trace l is ∙ ap (λ (ds : List DatagramValue). reverse (pieces (newest_slots ds))) arrived in
    let has : Has (pieces ss) octets = turned (pieces ss) octets (subst (λ (ps : List Piece). Has ps octets) heard (contained (pieces_heard (core_of l).history) octets c.0 c.1 c.2)) in
    frames_are_sent packets part.next ss part.slots (or_whole packets arrivals part.next (length ss) part.whole w) octets (contains (pieces ss) octets has)
