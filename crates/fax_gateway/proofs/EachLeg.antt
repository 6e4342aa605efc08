-- What holds of a called leg as its call begins, and stays while datagrams come and time goes on, holds of it after all.
use Rattle.std.proofs.Common.{◌≡◌, ℕ, max, Bool, true, false, List, [], ◌∷◌, Option, Some, None, option_map, Result, Ok, Err, refl, sym, subst, if◌then◌else◌}
use Rattle.fax_udptl.specs.declared.fault.UdptlFault.{UdptlFault}
use Rattle.fax_udptl.specs.Datagrams.{DatagramValue, datagram_of}
use Rattle.fax_jobs.specs.Jobs.{JobValue}
use Rattle.fax_call.specs.Writings.{Writing}
use Rattle.fax_call.specs.Calls.{CallerCore}
use Rattle.fax_call.specs.Delivery.{is_over}
use Rattle.fax_gateway.specs.Setups.{Setup}
use Rattle.fax_gateway.specs.Events.{Event, Ring, FromCalling, FromCalled, Tick, Placed, clock}
use Rattle.fax_gateway.specs.CallingLegs.{calling_leg}
use Rattle.fax_gateway.specs.CalledLegs.{CalledLeg, begun_leg, calls, core_left, core_of, hears, leg_ticked, leg_with, with_tick}
use Rattle.fax_gateway.specs.BothLegs.{BothLegs, begins_next, book_of, both_legs, heard_in_tick, in_tick, leg_of, sends, sends_if}

-- what stays while a datagram comes holds after it, whatever it is
pub hears_each : (P : CalledLeg → Type 0) (octets : List ℕ) → ((l : CalledLeg) (now : ℕ) (d : DatagramValue) → datagram_of octets ≡ Ok d → P l → P (leg_with (Ok d) now l)) → (writes : Writing) (now : ℕ) (l : CalledLeg) → P l → P (hears writes octets now l)
hears_each P octets comes writes now l h = by (is_over (core_of writes l).state) (datagram_of octets) refl
  where
    by : (b : Bool) (r : Result DatagramValue UdptlFault) → datagram_of octets ≡ r → P (if◌then◌else◌ {A = CalledLeg} b l (leg_with r now l))
    by true r e = h
    by false (Ok d) e = comes l now d e h
    by false (Err fault) e = h

pub record Stays (writes : Writing) (On : List ℕ → Type 0) (P : CalledLeg → Type 0) : Type 0 where
  pub begins : (job : JobValue) (before : CallerCore) (now : ℕ) → P (begun_leg job before now)
  pub comes : (l : CalledLeg) (now : ℕ) (octets : List ℕ) (d : DatagramValue) → On octets → datagram_of octets ≡ Ok d → P l → P (leg_with (Ok d) now l)
  pub ticks : (l : CalledLeg) (now : ℕ) → P l → P (with_tick (calls writes l now) now l)

-- ---- a gateway's called leg, after a trace with one ring, its first event, in which no call is placed: a tick begins it
abbrev pub RingsFirst : List Event → Type 0
RingsFirst [] = Unit {0}
RingsFirst (Ring at number ∷ earlier) = earlier ≡ []
RingsFirst (FromCalling octets at decided read ∷ earlier) = RingsFirst earlier
RingsFirst (FromCalled octets at decided ∷ earlier) = RingsFirst earlier
RingsFirst (Tick at given ∷ earlier) = RingsFirst earlier
RingsFirst (Placed at connected ∷ earlier) = ⊥

-- of each datagram that comes on that leg this holds
abbrev pub EachBack : (List ℕ → Type 0) → List Event → Type 0
EachBack On [] = Unit {0}
EachBack On (Ring at number ∷ earlier) = EachBack On earlier
EachBack On (FromCalling octets at decided read ∷ earlier) = EachBack On earlier
EachBack On (FromCalled octets at decided ∷ earlier) = On octets × EachBack On earlier
EachBack On (Tick at given ∷ earlier) = EachBack On earlier
EachBack On (Placed at connected ∷ earlier) = EachBack On earlier

pub any_back : (trace : List Event) → EachBack (λ octets. Unit {0}) trace
any_back [] = tt
any_back (Ring at number ∷ earlier) = any_back earlier
any_back (FromCalling octets at decided read ∷ earlier) = any_back earlier
any_back (FromCalled octets at decided ∷ earlier) = (tt, any_back earlier)
any_back (Tick at given ∷ earlier) = any_back earlier
any_back (Placed at connected ∷ earlier) = any_back earlier

abbrev pub IfLeg : (CalledLeg → Type 0) → Option CalledLeg → Type 0
IfLeg P None = Unit {0}
IfLeg P (Some l) = P l

if_each : (P : CalledLeg → Type 0) (f : CalledLeg → CalledLeg) → ((l : CalledLeg) → P l → P (f l)) → (o : Option CalledLeg) → IfLeg P o → IfLeg P (option_map f o)
if_each P f g None h = tt
if_each P f g (Some l) h = g l h

ticked_each : (On : List ℕ → Type 0) (P : CalledLeg → Type 0) (writes : Writing) → Stays writes On P → (now : ℕ) (l : CalledLeg) → P l → P (leg_ticked writes now l)
ticked_each On P writes s now l h = by l.entered
  where
    by : (b : Bool) → P (if◌then◌else◌ {A = CalledLeg} b l (with_tick (calls writes l now) now l))
    by true = h
    by false = s.ticks l now h

begun_each : (On : List ℕ → Type 0) (P : CalledLeg → Type 0) (writes : Writing) → Stays writes On P → (o : Option JobValue) (leg : Option CalledLeg) (before : CallerCore) (now : ℕ) → IfLeg P leg → IfLeg P (leg_of true o before now leg)
begun_each On P writes s None leg before now h = h
begun_each On P writes s (Some job) leg before now h = s.begins job before now

sends_each : (On : List ℕ → Type 0) (P : CalledLeg → Type 0) (writes : Writing) → Stays writes On P → (setup : Setup) (now : ℕ) (x : BothLegs) → IfLeg P x.leg → IfLeg P (sends_if setup writes now x).leg
sends_each On P writes s setup now x h = by (begins_next setup x.leg)
  where
    by : (b : Bool) → IfLeg P (if◌then◌else◌ {A = BothLegs} b (sends true setup writes now x) x).leg
    by true = begun_each On P writes s (book_of (sends true setup writes now x)).sending x.leg (core_left setup writes x.leg) now h
    by false = h

pub leg_each : (On : List ℕ → Type 0) (P : CalledLeg → Type 0) (writes : Writing) → Stays writes On P → (setup : Setup) (trace : List Event) → RingsFirst trace → EachBack On trace → IfLeg P (both_legs setup writes trace).leg
leg_each On P writes s setup [] r b = tt
leg_each On P writes s setup (Ring at number ∷ earlier) r b = leg_each On P writes s setup earlier (subst RingsFirst (sym r) tt) b
leg_each On P writes s setup (FromCalling octets at decided read ∷ earlier) r b = leg_each On P writes s setup earlier r b
leg_each On P writes s setup (FromCalled octets at decided ∷ earlier) r b =
    let now : ℕ = clock (FromCalled octets at decided ∷ earlier) in
    if_each P (hears writes octets now) (hears_each P octets (λ l n d e. s.comes l n octets d b.0 e) writes now) (both_legs setup writes earlier).leg (leg_each On P writes s setup earlier r b.1)
leg_each On P writes s setup (Tick at given ∷ earlier) r b =
    let now : ℕ = max at (clock earlier) in
    let old : BothLegs = both_legs setup writes earlier in
    if_each P (leg_ticked writes now) (ticked_each On P writes s now) (in_tick setup writes earlier at).leg
    (sends_each On P writes s setup now (record old { steps = heard_in_tick (calling_leg setup earlier) now old.steps }) (leg_each On P writes s setup earlier r b))
leg_each On P writes s setup (Placed at connected ∷ earlier) r b = absurd r
