-- Where the gateway reports that the job was delivered, the machine that is called confirmed a page.
use Rattle.std.proofs.Common.{◌≡◌, ℕ, max, Bool, true, false, List, [], ◌∷◌, ◌++◌, map, reverse, slice_get, Option, Some, None, option_map, Result, Ok, Err, ◌⊎◌, inl, inr, refl, sym, ◌∙◌, ap, subst, if◌then◌else◌}
use Rattle.std.specs.Prelude.{Contains}
use Rattle.fax_udptl.specs.declared.fault.UdptlFault.{UdptlFault}
use Rattle.fax_udptl.specs.Datagrams.{DatagramValue, datagram_of}
use Rattle.fax_udptl.specs.Schedules.{ArePartOf, datagrams}
use Rattle.fax_udptl.specs.Slots.{newest_slots}
use Rattle.fax_udptl.proofs.Honest.{slots_are_a_part}
use Rattle.fax_ifp.specs.Elements.{Slot}
use Rattle.fax_ifp.specs.Pieces as pieces
use Rattle.fax_ifp.specs.Pieces.{Piece}
use Rattle.fax_ifp.specs.Schedules.{slots_of}
use Rattle.fax_ifp.proofs.SentFrames.{Has, contains, frames_are_sent}
use Rattle.fax_pagestore.specs.Pages.{PageValue}
use Rattle.fax_jobs.specs.declared.outcome.Outcome.{Outcome}
use Rattle.fax_jobs.specs.declared.outcome.Outcome.TheVariants as outcomes
use Rattle.fax_jobs.specs.declared.report.Report.{Report}
use Rattle.fax_jobs.specs.Books.{job_of, kept_reports, last_of}
use Rattle.fax_answer.specs.Table.{Reading}
use Rattle.fax_answer.specs.Replies.{WaitingPacket}
use Rattle.fax_answer.specs.Calls.{AnswererCore, CallEvent, Comes, rung}
use Rattle.fax_answer.specs.Readings.{comes_all}
use Rattle.fax_call.specs.Writings.{Writing, IsWriting}
use Rattle.fax_call.specs.Calls.{CallerCore, after_events}
use Rattle.fax_call.specs.Delivery.{is_over}
use Rattle.fax_call.specs.Replies.{written}
use Rattle.fax_call.proofs.SignalsGiven.{map_back}
use Rattle.fax_gateway.specs.Setups.{Setup}
use Rattle.fax_gateway.specs.Events.{Event, Ring, FromCalling, FromCalled, Tick, Placed, Given, clock}
use Rattle.fax_gateway.specs.Legs.{new_pieces}
use Rattle.fax_gateway.specs.CallingLegs.{CallingLeg, calling_after, calling_leg, answers, core_of, is_idle, leg_with, packets_with}
use Rattle.fax_gateway.specs.CalledLegs as called
use Rattle.fax_gateway.specs.CalledLegs.{CalledLeg, calls, delivered_told, leg_ticked, outcome_of, report_by, told_report, with_tick}
use Rattle.fax_gateway.specs.Driving.{events}
use Rattle.fax_gateway.specs.Reached.{given_on}
use Rattle.fax_gateway.specs.Reports.{JobsHaveStates, report_list, reports_given}
use Rattle.fax_gateway.specs.BothLegs.{book_of, both_legs, in_tick}
use Rattle.fax_gateway.specs.Traces.{IsTrace}
use Rattle.fax_answer.specs.Confirmation.{AreRead}
use Rattle.fax_call.proofs.Told.{over_is_idle}
use Rattle.fax_call.proofs.ToldFrames.{said, told_frames}
use Rattle.fax_gateway.proofs.Chained.{turned}
use Rattle.fax_gateway.proofs.LegsRead.{leg_is_read}
use Rattle.fax_gateway.proofs.Replied.{IfNeat, NeatLeg, neat_of}
use Rattle.fax_gateway.proofs.Unplaced.{begun_placed}
use Rattle.fax_udptl.specs.Sending.{AreShort}
use Rattle.fax_loop.specs.Exchanges.{AreRounds, Round, answerer_after, caller_after, moment_after, reported, trace_after}
use Rattle.fax_loop.specs.Faithful.{AreCarried, ConfirmsIfDelivered, arrived_by}
use Rattle.fax_terminal.specs.Terminals.{pages_on}
use Rattle.fax_loop.proofs.AnswererTrace.{IsFollowed, answerer_followed}
use Rattle.fax_gateway.proofs.CalledHears.{HasHeard, called_heard}
use Rattle.fax_gateway.proofs.EachLeg.{IfLeg}
use Rattle.fax_loop.proofs.Faithfully.{is_job_of, one_ring}
use Rattle.fax_gateway.proofs.McfGiven.{IsNoAck, TellsNoMcf, given_of, tells_no_mcf}
use Rattle.fax_gateway.proofs.McfHeard.{HasAckFrame, acks_frame, came_pieces, delivered_acks, turned_frame}
use Rattle.fax_loop.proofs.OneCall.{IsTicked, IsTurned, OnlyComes, after_is, is_turned, none_reported, trace_before}
use Rattle.fax_gateway.proofs.OnePage.{Gives, call_begun}
use Rattle.fax_loop.proofs.Relayed.{Carries, IfGives, called_gives, caller_gives, sends_of}

-- ---- WHAT THE MACHINE THAT IS CALLED GAVE is what its call gave
abbrev GivenSo : Option CallingLeg → Type 0
GivenSo None = Unit {0}
GivenSo (Some l) = l.given ≡ given_of (rung l.before l.begun) l.events

comes_given : (a : AnswererCore) (ps : List Piece) (now : ℕ) (read : Reading) (events : List CallEvent) → given_of a (comes_all ps now read events) ≡ given_of a events
comes_given a [] now read events = refl
comes_given a (p ∷ ps) now read events = comes_given a ps now read (Comes p now read ∷ events)

with_given : (l : CallingLeg) (now : ℕ) (read : Reading) (r : Result DatagramValue UdptlFault) → GivenSo (Some l) → GivenSo (Some (leg_with l now read r))
with_given l now read (Err f) h = h
with_given l now read (Ok d) h = h ∙ sym (comes_given (rung l.before l.begun) (new_pieces l.arrived d) now read l.events)

ticked_packets : (l : CallingLeg) (now : ℕ) (o : Option WaitingPacket) → GivenSo (Some l) → packets_with o l.given ≡ packets_with o (given_of (rung l.before l.begun) l.events)
ticked_packets l now o h = ap (packets_with o) h

step_given : (setup : Setup) (o : Option CallingLeg) (now : ℕ) (e : Event) → GivenSo o → GivenSo (calling_after setup o now e)
step_given setup None now (Ring at n) h = refl
step_given setup (Some l) now (Ring at n) h = refl
step_given setup None now (FromCalling octets at decided read) h = tt
step_given setup (Some l) now (FromCalling octets at decided read) h = by (is_idle (core_of l).state)
  where
    by : (b : Bool) → GivenSo (if◌then◌else◌ {A = Option CallingLeg} b (Some l) (Some (leg_with l now read (datagram_of octets))))
    by true = h
    by false = with_given l now read (datagram_of octets) h
step_given setup None now (FromCalled octets at decided) h = tt
step_given setup (Some l) now (FromCalled octets at decided) h = h
step_given setup None now (Tick at given) h = tt
step_given setup (Some l) now (Tick at given) h = ticked_packets l now (answers l now).given h
step_given setup None now (Placed at connected) h = tt
step_given setup (Some l) now (Placed at connected) h = h

given_so : (setup : Setup) (trace : List Event) → GivenSo (calling_leg setup trace)
given_so setup [] = tt
given_so setup (e ∷ earlier) = step_given setup (calling_leg setup earlier) (clock (e ∷ earlier)) e (given_so setup earlier)

-- where it confirmed no page, it told no MCF, and its packets are short
pub none_told : (setup : Setup) (writes : Writing) (now : ℕ) (o : Option CallingLeg) → IsFollowed setup writes now o → pages_on o ≡ [] → TellsNoMcf (given_on o) × AreShort (given_on o)
none_told setup writes now None t e = (record { packets = []; are_packets = refl; fine = tt; closed = tt; told = tt }, tt)
none_told setup writes now (Some l) t e =
    let given : l.given ≡ given_of (rung l.before l.begun) l.events = subst GivenSo t.1.is_leg (given_so setup t.0) in
    let right : AreRead (rung l.before l.begun) l.events = leg_is_read setup writes t.0 l t.1.is_trace t.1.is_leg in
    let neat : NeatLeg l = subst IfNeat t.1.is_leg (neat_of setup t.0) in
    (subst TellsNoMcf (sym given) (tells_no_mcf l.before l.begun l.events right e), neat.short)

-- ---- SO NONE IS HEARD
none_heard : (given : List (List ℕ)) (arrived : List DatagramValue) → TellsNoMcf given → AreCarried given arrived → HasAckFrame (pieces.pieces (newest_slots arrived)) → ⊥
none_heard given arrived t c h =
    let packets : List (List ℕ) = reverse given in
    let part : ArePartOf packets c.arrivals = slots_are_a_part packets c.arrivals c.honest in
    let ss : List Slot = newest_slots (datagrams c.arrivals) in
    let has : Has (pieces.pieces ss) h.octets = subst (λ (ds : List DatagramValue). Has (pieces.pieces (newest_slots ds)) h.octets) c.arrived_are h.has in
    let sent : Contains (pieces.pieces (slots_of packets)) (pieces.Frame h.octets) = frames_are_sent packets part.next ss part.slots (inr (turned given [] t.closed tt)) h.octets (contains (pieces.pieces ss) h.octets has) in
    let slots : slots_of packets ≡ map Some (map written t.packets) = map_back given ∙ ap (λ (ps : List (List ℕ)). let xs : List Slot = map Some ps in xs) t.are_packets in
    let of_packets : Contains (pieces.pieces_of (said t.packets)) (pieces.Frame h.octets) = subst (λ (xs : List Slot). Contains (pieces.pieces xs) (pieces.Frame h.octets)) slots sent in
    told_frames IsNoAck t.packets h.octets t.fine t.told of_packets h.ack

-- ---- THE CALL THAT IS REPORTED
record CallEnd (writes : Writing) (leg : Option CalledLeg) : Type 0 where
  l : CalledLeg
  is_leg : leg ≡ Some l
  over : is_over (called.core_of writes l).state ≡ true
  outcome : (called.core_of writes l).outcome ≡ Some outcomes.Delivered

core_ended : (core : CallerCore) (outcome : Outcome) → outcome_of core ≡ Some outcome → (is_over core.state ≡ true) × (core.outcome ≡ Some outcome)
core_ended core outcome e = by (is_over core.state) refl e
  where
    by : (b : Bool) → is_over core.state ≡ b → (if◌then◌else◌ {A = Option Outcome} b core.outcome None) ≡ Some outcome → (is_over core.state ≡ true) × (core.outcome ≡ Some outcome)
    by true is e = (is, e)
    by false is e = cc

same_report : (a b : Report) → ◌≡◌ {A = Option Report} (Some a) (Some b) → a ≡ b
same_report a b e = cc

served_ended : (writes : Writing) (leg : Option CalledLeg) (now : ℕ) (report : Report) → told_report writes leg now ≡ Some report → report.outcome ≡ outcomes.Delivered → CallEnd writes (option_map (leg_ticked writes now) leg)
served_ended writes None now report e d = cc
served_ended writes (Some k) now report e d = by k.entered e
  where
    delivered : ℕ
    delivered = delivered_told writes (Some k) now

    core : CallerCore
    core = (calls writes k now).core

    outcome_is : (o : Option Outcome) → report_by k delivered o ≡ Some report → o ≡ Some outcomes.Delivered
    outcome_is None e = cc
    outcome_is (Some outcome) e =
        let same : outcome ≡ report.outcome = ap (λ (r : Report). r.outcome) (same_report _ report e) in
        ap (λ (x : Outcome). Some x) (same ∙ d)

    by : (b : Bool) → report_by k delivered (if◌then◌else◌ {A = Option Outcome} b None (outcome_of core)) ≡ Some report
        → CallEnd writes (Some (if◌then◌else◌ {A = CalledLeg} b k (with_tick (calls writes k now) now k)))
    by true e = cc
    by false e =
        let ended = core_ended core outcomes.Delivered (outcome_is (outcome_of core) e) in
        record { l = with_tick (calls writes k now) now k; is_leg = refl; over = ended.0; outcome = ended.1 }

comes_reports : (came trace : List Event) → OnlyComes came → reports_given (came ++ trace) ≡ reports_given trace
comes_reports [] trace c = refl
comes_reports (Ring at number ∷ came) trace c = absurd c
comes_reports (FromCalling octets at decided read ∷ came) trace c = comes_reports came trace c
comes_reports (FromCalled octets at decided ∷ came) trace c = comes_reports came trace c
comes_reports (Tick at given ∷ came) trace c = absurd c
comes_reports (Placed at connected ∷ came) trace c = absurd c

no_report : (report : Report) → slice_get (last_of kept_reports []) 0 ≡ Some report → ⊥
no_report report e = cc

one_report : (o : Option Report) (report : Report) → slice_get (last_of kept_reports (report_list o)) 0 ≡ Some report → o ≡ Some report
one_report None report e = cc
one_report (Some r) report e = e

tick_ended : (setup : Setup) (writes : Writing) (now : ℕ) (given : Given) (earlier : List Event) (report : Report) → IsTrace setup writes (Tick now given ∷ earlier) → given.report ≡ Some report → report.outcome ≡ outcomes.Delivered
    → CallEnd writes (both_legs setup writes (Tick now given ∷ earlier)).leg
tick_ended setup writes now given earlier report t e d =
    served_ended writes (in_tick setup writes earlier now).leg (max now (clock earlier)) report (sym (ap (λ (g : Given). g.report) t.0) ∙ e) d

first_report : JobsHaveStates → (setup : Setup) (writes : Writing) (trace : List Event) (report : Report) → IsTrace setup writes trace → slice_get (book_of (both_legs setup writes trace)).reports 0 ≡ Some report
    → slice_get (last_of kept_reports (reports_given trace)) 0 ≡ Some report
first_report law setup writes trace report t e = subst (λ (rs : List Report). slice_get rs 0 ≡ Some report) (law setup writes trace t).last_reports e

turn_ended : JobsHaveStates → (setup : Setup) (writes : Writing) (before trace : List Event) (report : Report) → IsTrace setup writes trace → reports_given before ≡ [] → IsTurned before trace
    → slice_get (book_of (both_legs setup writes trace)).reports 0 ≡ Some report → report.outcome ≡ outcomes.Delivered → CallEnd writes (both_legs setup writes trace).leg
turn_ended law setup writes before trace report t none turned e d = by turned.tick
  where
    quiet : reports_given (turned.came ++ before) ≡ []
    quiet = comes_reports turned.came before turned.only ∙ none

    by : (trace ≡ turned.came ++ before) ⊎ IsTicked (turned.came ++ before) trace → CallEnd writes (both_legs setup writes trace).leg
    by (inl is) =
        let first : slice_get (last_of kept_reports (reports_given trace)) 0 ≡ Some report = first_report law setup writes trace report t e in
        let nothing : slice_get (last_of kept_reports []) 0 ≡ Some report = subst (λ (rs : List Report). slice_get (last_of kept_reports rs) 0 ≡ Some report) (ap reports_given is ∙ quiet) first in
        absurd (no_report report nothing)
    by (inr k) =
        let all : List Event = Tick k.now k.given ∷ (turned.came ++ before) in
        let on : IsTrace setup writes all = subst (IsTrace setup writes) k.is t in
        let first : slice_get (last_of kept_reports (reports_given all)) 0 ≡ Some report =
        subst (λ (es : List Event). slice_get (last_of kept_reports (reports_given es)) 0 ≡ Some report) k.is (first_report law setup writes trace report t e) in
        let given : k.given.report ≡ Some report =
        one_report k.given.report report (subst (λ (rs : List Report). slice_get (last_of kept_reports (rs ++ report_list k.given.report)) 0 ≡ Some report) quiet first) in
        subst (λ (es : List Event). CallEnd writes (both_legs setup writes es).leg) (sym k.is) (tick_ended setup writes k.now k.given (turned.came ++ before) report on given d)

rounds_ended : JobsHaveStates → (setup : Setup) (writes : Writing) (rounds : List Round) (report : Report) → AreRounds setup writes rounds → IsTrace setup writes (trace_after rounds)
    → reported setup writes rounds ≡ Some report → report.outcome ≡ outcomes.Delivered → CallEnd writes (both_legs setup writes (trace_after rounds)).leg
rounds_ended law setup writes [] report a t e d =
    absurd (no_report report (first_report law setup writes (trace_after []) report t e))
rounds_ended law setup writes (round ∷ earlier) report a t e d =
    let on : IsTrace setup writes (events round.gateway ++ trace_after earlier) = subst (IsTrace setup writes) (after_is round earlier) t in
    let old : IsTrace setup writes (trace_after earlier) = trace_before setup writes (events round.gateway) (trace_after earlier) on in
    turn_ended law setup writes (trace_after earlier) (trace_after (round ∷ earlier)) report t (none_reported law setup writes (trace_after earlier) old a.0.unreported)
    (is_turned (moment_after earlier) round.gateway (trace_after earlier) (trace_after (round ∷ earlier)) a.0.turn (after_is round earlier)) e d

-- its leg heard an acknowledgement
leg_acks : (writes : Writing) (page : PageValue) (l : CalledLeg) → IsWriting writes → Gives writes page l → is_over (called.core_of writes l).state ≡ true → (called.core_of writes l).outcome ≡ Some outcomes.Delivered
    → HasAckFrame (came_pieces l.events)
leg_acks writes page l w g over delivered =
    let core : CallerCore = after_events writes l.job (call_begun l) l.events in
    let same : called.core_of writes l ≡ core = ap (λ (a : CallerCore). after_events writes l.job a l.events) (begun_placed l g.placed) in
    acks_frame l.events
    (delivered_acks writes l w g.kept.holds.is_job (over_is_idle core.state (subst (λ (a : CallerCore). is_over a.state ≡ true) same over)) (subst (λ (a : CallerCore). a.outcome ≡ Some outcomes.Delivered) same delivered))

-- ---- THE LAW
pub confirms_if_delivered : JobsHaveStates → ConfirmsIfDelivered
confirms_if_delivered states setup writes page rounds report new w is rounds_are t h back e d none =
    let caller : CalledLeg = caller_after setup writes (job_of 0 page) rounds in
    let leg : Option CalledLeg = (both_legs setup writes (trace_after rounds)).leg in
    let gives : Gives writes page caller = caller_gives setup writes page (job_of 0 page) rounds w (is_job_of page is) (refl, tt) in
    let carries : Carries setup writes caller.given (trace_after rounds) = record { is_trace = t; rings = one_ring setup writes rounds rounds_are; carried = h.to_gateway } in
    let leg_gives : IfGives writes page leg = called_gives setup writes (trace_after rounds) page caller.given new w (sends_of page writes caller w gives) carries in
    let ended : CallEnd writes leg = rounds_ended states setup writes rounds report rounds_are t e d in
    let l : CalledLeg = ended.l in
    let own : Gives writes page l = subst (IfGives writes page) ended.is_leg leg_gives in
    let heard : came_pieces l.events ≡ reverse (pieces.pieces (newest_slots l.arrived)) = subst (IfLeg HasHeard) ended.is_leg (called_heard setup writes (trace_after rounds) (one_ring setup writes rounds rounds_are)) in
    let frame : HasAckFrame (pieces.pieces (newest_slots l.arrived)) =
    turned_frame (pieces.pieces (newest_slots l.arrived)) (subst HasAckFrame heard (leg_acks writes page l w own ended.over ended.outcome)) in
    let carried : AreCarried (given_on (answerer_after setup rounds)) l.arrived = subst (λ (o : Option CalledLeg). AreCarried (given_on (answerer_after setup rounds)) (arrived_by o)) ended.is_leg back in
    none_heard (given_on (answerer_after setup rounds)) l.arrived (none_told setup writes (moment_after rounds) (answerer_after setup rounds) (answerer_followed setup writes writes rounds rounds_are) none).0 carried frame
