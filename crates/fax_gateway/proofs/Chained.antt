-- What a second gateway hears of a first are frames and signals that the first gave.
use Rattle.std.proofs.Common.{◌≡◌, ℕ, max, Bool, true, false, List, [], ◌∷◌, map, reverse, Option, Some, None, option_map, Result, Ok, Err, inr, refl, ◌∙◌, ap, subst, if◌then◌else◌}
use mathlib.Core.List.{reverse_aux}
use Rattle.fax_udptl.specs.declared.fault.UdptlFault.{UdptlFault}
use Rattle.fax_udptl.specs.Datagrams.{DatagramValue, datagram_of}
use Rattle.fax_ifp.specs.Pieces.{Piece}
use Rattle.fax_ifp.specs.Schedules.{AreClosed}
use Rattle.fax_pagestore.specs.Pages.{PageValue}
use Rattle.fax_jobs.specs.Jobs.{JobValue}
use Rattle.fax_call.specs.Writings.{Writing, IsWriting}
use Rattle.fax_call.specs.Replies.{Packet, written}
use Rattle.fax_call.specs.Calls.{CallerCore, started, ticked, CallEvent, Comes, after_events}
use Rattle.fax_call.specs.Delivery.{is_over}
use Rattle.fax_call.specs.Given as call
use Rattle.fax_call.proofs.ClosedPackets.{gives_closed_packets}
use Rattle.fax_gateway.specs.Setups.{Setup}
use Rattle.fax_gateway.specs.Events.{Event, Ring, FromCalling, FromCalled, Tick, Placed, clock}
use Rattle.fax_gateway.specs.Legs.{new_pieces}
use Rattle.fax_gateway.specs.CallingLegs.{calling_leg}
use Rattle.fax_gateway.specs.CalledLegs.{CalledLeg, begun_core, core_of, core_left, calls, packets_given, with_tick, leg_ticked, comes_to, leg_with, hears}
use Rattle.fax_gateway.specs.Forwards.{WasConfirmed}
use Rattle.fax_gateway.specs.BothLegs.{BothLegs, begins_next, book_of, heard_in_tick, leg_of, sends, sends_if, both_legs, in_tick}
use Rattle.fax_gateway.specs.Traces.{IsTrace}
use Rattle.fax_gateway.specs.Chain.{ChainsHear}
use Rattle.fax_gateway.proofs.Confirmed.{was_later, steps_hold, tick_holds}
use Rattle.fax_gateway.proofs.Held.{EachPage, Holds, IfHolds, BookHolds, held}
use Rattle.fax_gateway.proofs.SentPages.{leg_confirms_signals, leg_hears_sent_frames}
use Rattle.fax_gateway.proofs.Unplaced.{begun_placed, gives_placed}

-- the packets that a call gave
abbrev pub call_packets : Writing → CalledLeg → List CallEvent → List Packet
call_packets writes l events = call.packets_given writes l.job (begun_core l) events

-- Of the call that is on, or of the last one: what holds of its job's pages, and what it gave. Each packet is closed.
pub record KeptLeg (writes : Writing) (P : ℕ → PageValue → Type 0) (l : CalledLeg) : Type 0 where
  pub holds : Holds P l.job
  pub given_is : l.given ≡ map written (call_packets writes l l.events)
  pub closed : AreClosed l.given

abbrev pub IfKept : Writing → (ℕ → PageValue → Type 0) → Option CalledLeg → Type 0
IfKept writes P None = Unit {0}
IfKept writes P (Some l) = KeptLeg writes P l

pub begins : (connected : Bool) (writes : Writing) (P : ℕ → PageValue → Type 0) (o : Option JobValue) (leg : Option CalledLeg) (before : CallerCore) (now : ℕ) → IfHolds P o → IfKept writes P leg → IfKept writes P (leg_of connected o before now leg)
begins connected writes P None leg before now h c = c
begins connected writes P (Some job) leg before now h c = record { holds = h; given_is = refl; closed = tt }

sends_kept : (setup : Setup) (P : ℕ → PageValue → Type 0) (writes : Writing) (now : ℕ) (s : BothLegs) → IfHolds P (book_of (sends_if setup writes now s)).sending → IfKept writes P s.leg → IfKept writes P (sends_if setup writes now s).leg
sends_kept setup P writes now s h c = by (begins_next setup s.leg) h
  where
    by : (b : Bool) → IfHolds P (book_of (if◌then◌else◌ {A = BothLegs} b (sends true setup writes now s) s)).sending → IfKept writes P (if◌then◌else◌ {A = BothLegs} b (sends true setup writes now s) s).leg
    by true k = begins true writes P (book_of (sends true setup writes now s)).sending s.leg (core_left setup writes s.leg) now k c
    by false k = c

one_closed : (writes : Writing) (l : CalledLeg) (now : ℕ) (o : Option Packet) (P : ℕ → PageValue → Type 0) → IsWriting writes → KeptLeg writes P l → (calls writes l now).given ≡ o → AreClosed (packets_given o l.given)
one_closed writes l now None P w c e = c.closed
one_closed writes l now (Some packet) P w c e =
    let is : begun_core l ≡ started l.before l.job l.begun = begun_placed l (gives_placed writes l now packet e) in
    let given : (ticked writes l.job (after_events writes l.job (started l.before l.job l.begun) l.events) now).given ≡ Some packet =
    subst (λ (a : CallerCore). (ticked writes l.job (after_events writes l.job a l.events) now).given ≡ Some packet) is e in
    (gives_closed_packets writes l.job l.before l.begun now l.events packet w c.holds.is_job given, c.closed)

pub one_given : (o : Option Packet) (given : List (List ℕ)) (packets : List Packet) → given ≡ map written packets → packets_given o given ≡ map written (call.packets_with o packets)
one_given None given packets e = e
one_given (Some packet) given packets e = ap (λ (xs : List (List ℕ)). written packet ∷ xs) e

pub with_tick_kept : (P : ℕ → PageValue → Type 0) (writes : Writing) (l : CalledLeg) (now : ℕ) → IsWriting writes → KeptLeg writes P l → KeptLeg writes P (with_tick (calls writes l now) now l)
with_tick_kept P writes l now w c = record {
  holds = c.holds;
  given_is = one_given (calls writes l now).given l.given (call_packets writes l l.events) c.given_is;
  closed = one_closed writes l now (calls writes l now).given P w c refl;
}

ticked_kept : (P : ℕ → PageValue → Type 0) (writes : Writing) (l : CalledLeg) (now : ℕ) → IsWriting writes → KeptLeg writes P l → KeptLeg writes P (leg_ticked writes now l)
ticked_kept P writes l now w c = by l.entered
  where
    by : (b : Bool) → KeptLeg writes P (if◌then◌else◌ {A = CalledLeg} b l (with_tick (calls writes l now) now l))
    by true = c
    by false = with_tick_kept P writes l now w c

serves_kept : (P : ℕ → PageValue → Type 0) (writes : Writing) (leg : Option CalledLeg) (now : ℕ) → IsWriting writes → IfKept writes P leg → IfKept writes P (option_map (leg_ticked writes now) leg)
serves_kept P writes None now w c = tt
serves_kept P writes (Some l) now w c = ticked_kept P writes l now w c

-- pieces that come give nothing
pub comes_given : (writes : Writing) (job : JobValue) (a : CallerCore) (ps : List Piece) (now : ℕ) (events : List CallEvent) → call.packets_given writes job a events ≡ call.packets_given writes job a (comes_to ps now events)
comes_given writes job a [] now events = refl
comes_given writes job a (p ∷ ps) now events = comes_given writes job a ps now (Comes p now ∷ events)

with_kept : (P : ℕ → PageValue → Type 0) (writes : Writing) (l : CalledLeg) (now : ℕ) (r : Result DatagramValue UdptlFault) → KeptLeg writes P l → KeptLeg writes P (leg_with r now l)
with_kept P writes l now (Ok d) c =
    record {
      holds = c.holds;
      given_is = c.given_is ∙ ap (map written) (comes_given writes l.job (begun_core l) (new_pieces l.arrived d) now l.events);
      closed = c.closed;
    }
with_kept P writes l now (Err f) c = c

pub hears_kept : (P : ℕ → PageValue → Type 0) (writes : Writing) (leg : Option CalledLeg) (octets : List ℕ) (now : ℕ) → IfKept writes P leg → IfKept writes P (option_map (hears writes octets now) leg)
hears_kept P writes None octets now c = tt
hears_kept P writes (Some l) octets now c = by (is_over (core_of writes l).state)
  where
    by : (b : Bool) → KeptLeg writes P (if◌then◌else◌ {A = CalledLeg} b l (leg_with (datagram_of octets) now l))
    by true = c
    by false = with_kept P writes l now (datagram_of octets) c

-- where the trace grows
pub each_map : (P Q : PageValue → Type 0) (pages : List PageValue) → ((page : PageValue) → P page → Q page) → EachPage P pages → EachPage Q pages
each_map P Q [] f h = tt
each_map P Q (page ∷ pages) f h = (f page h.0, each_map P Q pages f h.1)

pub later_kept : (writes : Writing) (P Q : ℕ → PageValue → Type 0) (leg : Option CalledLeg) → ((number : ℕ) (page : PageValue) → P number page → Q number page) → IfKept writes P leg → IfKept writes Q leg
later_kept writes P Q None f c = tt
later_kept writes P Q (Some l) f c =
    record {
      holds = record { is_job = c.holds.is_job; pages = each_map (P l.job.call) (Q l.job.call) l.job.pages (f l.job.call) c.holds.pages };
      given_is = c.given_is;
      closed = c.closed;
    }

if_kept : (setup : Setup) (writes : Writing) (trace : List Event) → IsWriting writes → IsTrace setup writes trace → IfKept writes (WasConfirmed setup trace) (both_legs setup writes trace).leg
if_kept setup writes [] w t = tt
if_kept setup writes (e ∷ earlier) w t = by e t (later_kept writes (WasConfirmed setup earlier) (WasConfirmed setup (e ∷ earlier)) (both_legs setup writes earlier).leg (was_later setup e earlier) (if_kept setup writes earlier w t.1))
  where
    by : (e : Event) → IsTrace setup writes (e ∷ earlier) → IfKept writes (WasConfirmed setup (e ∷ earlier)) (both_legs setup writes earlier).leg → IfKept writes (WasConfirmed setup (e ∷ earlier)) (both_legs setup writes (e ∷ earlier)).leg
    by (Ring at n) t c = c
    by (FromCalling octets at decided read) t c = c
    by (FromCalled octets at decided) t c = hears_kept (WasConfirmed setup (FromCalled octets at decided ∷ earlier)) writes (both_legs setup writes earlier).leg octets (clock (FromCalled octets at decided ∷ earlier)) c
    by (Placed at connected) t c =
        let trace : List Event = Placed at connected ∷ earlier in
        let s : BothLegs = both_legs setup writes earlier in
        let P : ℕ → PageValue → Type 0 = WasConfirmed setup trace in
        let h : BookHolds P (book_of (both_legs setup writes trace)) = held P (both_legs setup writes trace).steps (steps_hold setup writes trace t) in
        begins connected writes P (book_of (both_legs setup writes trace)).sending s.leg (core_left setup writes s.leg) (clock trace) h.sending c
    by (Tick at given) t c =
        let now : ℕ = max at (clock earlier) in
        let s : BothLegs = both_legs setup writes earlier in
        let z : BothLegs = record s { steps = heard_in_tick (calling_leg setup earlier) now s.steps } in
        let P : ℕ → PageValue → Type 0 = WasConfirmed setup (Tick at given ∷ earlier) in
        let h : BookHolds P (book_of (in_tick setup writes earlier at)) = held P (in_tick setup writes earlier at).steps (tick_holds setup writes earlier at given t) in
        serves_kept P writes (in_tick setup writes earlier at).leg now w (sends_kept setup P writes now z h.sending c)

pub kept_leg : (setup : Setup) (writes : Writing) (trace : List Event) (l : CalledLeg) → IsWriting writes → IsTrace setup writes trace → (both_legs setup writes trace).leg ≡ Some l → KeptLeg writes (WasConfirmed setup trace) l
kept_leg setup writes trace l w t is = subst (IfKept writes (WasConfirmed setup trace)) is (if_kept setup writes trace w t)

pub turned : (xs ys : List (List ℕ)) → AreClosed xs → AreClosed ys → AreClosed (reverse_aux xs ys)
turned [] ys a b = b
turned (x ∷ xs) ys a b = turned xs (x ∷ ys) a.1 (a.0, b)

pub chains_hear : ChainsHear
chains_hear setup other writes others first second leg l w j =
    let k : KeptLeg writes (WasConfirmed setup first) leg = kept_leg setup writes first leg w j.is_first j.is_leg in
    record {
      signals = leg_confirms_signals other others second l (reverse leg.given) j.arrivals j.is_second j.is_call j.honest j.arrived;
      frames = leg_hears_sent_frames other others second l (reverse leg.given) j.arrivals j.is_second j.is_call j.honest j.arrived (inr (turned leg.given [] k.closed tt));
    }
