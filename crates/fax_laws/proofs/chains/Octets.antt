-- The octets that a call gave are the datagrams of its packets.
use Rattle.std.proofs.Common.{◌≡◌, ℕ, max, Bool, true, false, List, [], ◌∷◌, Option, Some, None, option_map, Result, Ok, Err, refl, sym, ap, subst, if◌then◌else◌}
use Rattle.fax_udptl.specs.declared.fault.UdptlFault.{UdptlFault}
use Rattle.fax_udptl.specs.Datagrams.{DatagramValue, datagram_of}
use Rattle.fax_udptl.specs.Sending.{AreShort}
use Rattle.fax_jobs.specs.Jobs.{JobValue}
use Rattle.fax_call.specs.Writings.{Writing}
use Rattle.fax_call.specs.Replies.{Packet, written}
use Rattle.fax_call.specs.Calls.{CallerCore}
use Rattle.fax_call.specs.Delivery.{is_over}
use Rattle.fax_call.specs.Emission.{Mark}
use Rattle.fax_gateway.specs.Setups.{Setup}
use Rattle.fax_gateway.specs.Events.{Event, Ring, FromCalling, FromCalled, Tick, Placed, Given, clock}
use Rattle.fax_gateway.specs.Legs.{sent}
use Rattle.fax_gateway.specs.CallingLegs.{calling_leg}
use Rattle.fax_gateway.specs.CalledLegs.{CalledLeg, calls, core_left, core_of, hears, leg_ticked, leg_with, packets_given, told_by, told_called, with_tick}
use Rattle.fax_gateway.specs.BothLegs.{BothLegs, begins_next, book_of, both_legs, heard_in_tick, in_tick, leg_of, sends, sends_if}
use Rattle.fax_gateway.specs.Traces.{IsTrace}
use Rattle.fax_gateway.specs.Told.{leg_marks}
use Rattle.fax_gateway.proofs.InCalls.{IfInCall}
use Rattle.fax_gateway.proofs.InCalls as calls_heard
use Rattle.fax_laws.specs.chains.Given.{in_call, octets_given, with_given}

-- the datagrams of packets that were given, each with those before it
abbrev pub datagrams_of : Setup → List (List ℕ) → List (List ℕ)
datagrams_of setup [] = []
datagrams_of setup (packet ∷ given) = sent setup given packet ∷ datagrams_of setup given

abbrev pub IsGiven : Setup → Option CalledLeg → List (List ℕ) → Type 0
IsGiven setup None octets = octets ≡ []
IsGiven setup (Some l) octets = octets ≡ datagrams_of setup l.given

-- a call begins
begun : (setup : Setup) (connected : Bool) (o : Option JobValue) (leg : Option CalledLeg) (before : CallerCore) (now : ℕ) (octets : List (List ℕ)) → IsGiven setup leg octets
    → IsGiven setup (leg_of connected o before now leg) (in_call true o octets)
begun setup connected None leg before now octets g = g
begun setup connected (Some job) leg before now octets g = refl

placed : (connected : Bool) (setup : Setup) (writes : Writing) (now : ℕ) (s : BothLegs) (octets : List (List ℕ)) → IsGiven setup s.leg octets
    → IsGiven setup (sends connected setup writes now s).leg (in_call true (book_of (sends connected setup writes now s)).sending octets)
placed connected setup writes now s octets g = begun setup connected (book_of (sends connected setup writes now s)).sending s.leg (core_left setup writes s.leg) now octets g

sends_given : (setup : Setup) (writes : Writing) (now : ℕ) (s : BothLegs) (octets : List (List ℕ)) → IsGiven setup s.leg octets
    → IsGiven setup (sends_if setup writes now s).leg (in_call (begins_next setup s.leg) (book_of (sends_if setup writes now s)).sending octets)
sends_given setup writes now s octets g = by (begins_next setup s.leg)
  where
    by : (b : Bool) → IsGiven setup (if◌then◌else◌ {A = BothLegs} b (sends true setup writes now s) s).leg (in_call b (book_of (if◌then◌else◌ {A = BothLegs} b (sends true setup writes now s) s)).sending octets)
    by true = placed true setup writes now s octets g
    by false = g

-- the called leg is served
one_given : (setup : Setup) (o : Option Packet) (given octets : List (List ℕ)) → octets ≡ datagrams_of setup given → with_given (told_by setup given o) octets ≡ datagrams_of setup (packets_given o given)
one_given setup None given octets g = g
one_given setup (Some packet) given octets g = ap (λ (xs : List (List ℕ)). sent setup given (written packet) ∷ xs) g

ticked_given : (setup : Setup) (writes : Writing) (leg : Option CalledLeg) (now : ℕ) (octets : List (List ℕ)) → IsGiven setup leg octets
    → IsGiven setup (option_map (leg_ticked writes now) leg) (with_given (told_called setup writes leg now) octets)
ticked_given setup writes None now octets g = g
ticked_given setup writes (Some l) now octets g = by l.entered
  where
    by : (b : Bool) → IsGiven setup (Some (if◌then◌else◌ {A = CalledLeg} b l (with_tick (calls writes l now) now l)))
        (with_given (if◌then◌else◌ {A = Option (List ℕ)} b None (told_by setup l.given (calls writes l now).given)) octets)
    by true = g
    by false = one_given setup (calls writes l now).given l.given octets g

-- a datagram comes
with_given_so : (setup : Setup) (l : CalledLeg) (now : ℕ) (r : Result DatagramValue UdptlFault) (octets : List (List ℕ)) → IsGiven setup (Some l) octets → IsGiven setup (Some (leg_with r now l)) octets
with_given_so setup l now (Ok d) octets g = g
with_given_so setup l now (Err f) octets g = g

heard_given : (setup : Setup) (writes : Writing) (leg : Option CalledLeg) (came : List ℕ) (now : ℕ) (octets : List (List ℕ)) → IsGiven setup leg octets → IsGiven setup (option_map (hears writes came now) leg) octets
heard_given setup writes None came now octets g = g
heard_given setup writes (Some l) came now octets g = by (is_over (core_of writes l).state)
  where
    by : (b : Bool) → IsGiven setup (Some (if◌then◌else◌ {A = CalledLeg} b l (leg_with (datagram_of came) now l))) octets
    by true = g
    by false = with_given_so setup l now (datagram_of came) octets g

-- over a trace
pub is_given : (setup : Setup) (writes : Writing) (trace : List Event) → IsTrace setup writes trace → IsGiven setup (both_legs setup writes trace).leg (octets_given setup writes trace)
is_given setup writes [] t = refl
is_given setup writes (Ring at number ∷ earlier) t = is_given setup writes earlier t.1
is_given setup writes (FromCalling octets at decided read ∷ earlier) t = is_given setup writes earlier t.1
is_given setup writes (FromCalled octets at decided ∷ earlier) t =
    heard_given setup writes (both_legs setup writes earlier).leg octets (clock (FromCalled octets at decided ∷ earlier)) (octets_given setup writes earlier) (is_given setup writes earlier t.1)
is_given setup writes (Placed at connected ∷ earlier) t =
    placed connected setup writes (clock (Placed at connected ∷ earlier)) (both_legs setup writes earlier) (octets_given setup writes earlier) (is_given setup writes earlier t.1)
is_given setup writes (Tick at given ∷ earlier) t =
    let now : ℕ = max at (clock earlier) in
    let s : BothLegs = both_legs setup writes earlier in
    let z : BothLegs = record s { steps = heard_in_tick (calling_leg setup earlier) now s.steps } in
    let middle : BothLegs = in_tick setup writes earlier at in
    let before : List (List ℕ) = in_call (begins_next setup s.leg) (book_of middle).sending (octets_given setup writes earlier) in
    subst (λ (o : Option (List ℕ)). IsGiven setup (option_map (leg_ticked writes now) middle.leg) (with_given o before)) (sym (ap (λ (g : Given). g.on_called) t.0))
    (ticked_given setup writes middle.leg now before (sends_given setup writes now z (octets_given setup writes earlier) (is_given setup writes earlier t.1)))

pub leg_given : (setup : Setup) (writes : Writing) (trace : List Event) (l : CalledLeg) → IsTrace setup writes trace → (both_legs setup writes trace).leg ≡ Some l → octets_given setup writes trace ≡ datagrams_of setup l.given
leg_given setup writes trace l t is = subst (λ (o : Option CalledLeg). IsGiven setup o (octets_given setup writes trace)) is (is_given setup writes trace t)

pub none_given : (setup : Setup) (writes : Writing) (trace : List Event) → IsTrace setup writes trace → (both_legs setup writes trace).leg ≡ None → octets_given setup writes trace ≡ []
none_given setup writes trace t is = subst (λ (o : Option CalledLeg). IsGiven setup o (octets_given setup writes trace)) is (is_given setup writes trace t)

-- and its packets are short
short_by : (writes : Writing) (leg : Option CalledLeg) (sending : Option JobValue) (marks : List Mark) (l : CalledLeg) → leg ≡ Some l → IfInCall writes leg sending marks → AreShort l.given
short_by writes leg sending marks l is i = let c : IfInCall writes (Some l) sending marks = subst (λ (o : Option CalledLeg). IfInCall writes o sending marks) is i in c.short

pub leg_short : (setup : Setup) (writes : Writing) (trace : List Event) (l : CalledLeg) → IsTrace setup writes trace → (both_legs setup writes trace).leg ≡ Some l → AreShort l.given
leg_short setup writes trace l t is =
    short_by writes (both_legs setup writes trace).leg (book_of (both_legs setup writes trace)).sending (leg_marks setup writes trace) l is (calls_heard.in_call setup writes trace t)
