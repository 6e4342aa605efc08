-- A call that was placed begins as its job is started; one that was not is over as it begins, stays so, and gives nothing.
use Rattle.std.proofs.Common.{◌≡◌, ℕ, Bool, true, false, List, [], ◌∷◌, Option, Some, None, refl, sym, ◌∙◌, ap, subst, if◌then◌else◌}
use Rattle.fax_ifp.specs.Pieces as pieces
use Rattle.fax_timers.specs.Paces.{pace_allows}
use Rattle.fax_jobs.specs.Jobs.{JobValue, IsJob}
use Rattle.fax_call.specs.declared.state.State.{State}
use Rattle.fax_call.specs.declared.state.State.TheVariants.{Idle, AwaitDis}
use Rattle.fax_call.specs.Writings.{Writing, IsWriting}
use Rattle.fax_call.specs.Replies.{Packet}
use Rattle.fax_call.specs.Calls.{CallerCore, started, not_placed, came, TickResult, ticked, given_first, CallEvent, Comes, Ticks, after_event, after_events}
use Rattle.fax_call.specs.Emission.{Mark, Emits, marks_after}
use Rattle.fax_call.specs.Given.{packets_given, packets_with}
use Rattle.fax_call.proofs.Emitted.{emits_the_pages}
use Rattle.fax_gateway.specs.CalledLegs.{CalledLeg, begun_core, core_of, calls}

pub begun_placed : (l : CalledLeg) → l.placed ≡ true → begun_core l ≡ started l.before l.job l.begun
begun_placed l e = ap (λ (b : Bool). if◌then◌else◌ {A = CallerCore} b (started l.before l.job l.begun) (not_placed l.before l.job)) e

pub begun_unplaced : (l : CalledLeg) → l.placed ≡ false → begun_core l ≡ not_placed l.before l.job
begun_unplaced l e = ap (λ (b : Bool). if◌then◌else◌ {A = CallerCore} b (started l.before l.job l.begun) (not_placed l.before l.job)) e

-- what holds of a call that is started holds of one that was placed
pub as_begun : (P : CallerCore → Type 0) (l : CalledLeg) → l.placed ≡ true → P (started l.before l.job l.begun) → P (begun_core l)
as_begun P l e h = subst P (sym (begun_placed l e)) h

pub from_begun : (P : CallerCore → Type 0) (l : CalledLeg) → l.placed ≡ true → P (begun_core l) → P (started l.before l.job l.begun)
from_begun P l e h = subst P (begun_placed l e) h

-- the pages that a call emits
pub emits_in : (writes : Writing) (l : CalledLeg) (old : List Mark) (events : List CallEvent) → l.placed ≡ true → IsWriting writes → IsJob l.job
    → (last : Option ℕ) × Emits l.job (marks_after writes l.job old (begun_core l) events) last
emits_in writes l old events e w is =
    let k = emits_the_pages writes l.job old l.before l.begun events w is in
    (k.0, subst (λ (a : CallerCore). Emits l.job (marks_after writes l.job old a events) k.0) (sym (begun_placed l e)) k.1)

-- WHERE IT WAS NOT PLACED
comes_over : (a : CallerCore) (job : JobValue) (piece : pieces.Piece) (now : ℕ) → came (not_placed a job) piece now ≡ not_placed a job
comes_over a job (pieces.Frame octets) now = refl
comes_over a job (pieces.Start kind) now = refl
comes_over a job (pieces.Octets octets) now = refl
comes_over a job (pieces.End whole) now = refl
comes_over a job pieces.Gap now = refl

abbrev pub nothing_given : CallerCore → JobValue → TickResult
nothing_given a job = record { core = not_placed a job; given = None }

pub ticks_over : (writes : Writing) (a : CallerCore) (job : JobValue) (now : ℕ) → ticked writes job (not_placed a job) now ≡ nothing_given a job
ticks_over writes a job now = by (pace_allows a.pace.last now)
  where
    by : (b : Bool) → (if◌then◌else◌ {A = TickResult} b (given_first writes job (not_placed a job) now []) (nothing_given a job)) ≡ nothing_given a job
    by true = refl
    by false = refl

pub event_over : (writes : Writing) (a : CallerCore) (job : JobValue) (e : CallEvent) → after_event writes job (not_placed a job) e ≡ not_placed a job
event_over writes a job (Comes piece now) = comes_over a job piece now
event_over writes a job (Ticks now) = ap (λ (t : TickResult). t.core) (ticks_over writes a job now)

pub stays_over : (writes : Writing) (a : CallerCore) (job : JobValue) (events : List CallEvent) → after_events writes job (not_placed a job) events ≡ not_placed a job
stays_over writes a job [] = refl
stays_over writes a job (e ∷ events) = ap (λ (c : CallerCore). after_event writes job c e) (stays_over writes a job events) ∙ event_over writes a job e

pub core_unplaced : (writes : Writing) (l : CalledLeg) → l.placed ≡ false → core_of writes l ≡ not_placed l.before l.job
core_unplaced writes l e = ap (λ (a : CallerCore). after_events writes l.job a l.events) (begun_unplaced l e) ∙ stays_over writes l.before l.job l.events

pub calls_unplaced : (writes : Writing) (l : CalledLeg) (now : ℕ) → l.placed ≡ false → calls writes l now ≡ nothing_given l.before l.job
calls_unplaced writes l now e = ap (λ (c : CallerCore). ticked writes l.job c now) (core_unplaced writes l e) ∙ ticks_over writes l.before l.job now

pub gives_none : (writes : Writing) (l : CalledLeg) (now : ℕ) → l.placed ≡ false → (calls writes l now).given ≡ None
gives_none writes l now e = ap (λ (t : TickResult). t.given) (calls_unplaced writes l now e)

packets_over : (writes : Writing) (a : CallerCore) (job : JobValue) (events : List CallEvent) → packets_given writes job (not_placed a job) events ≡ []
packets_over writes a job [] = refl
packets_over writes a job (Comes piece now ∷ before) = packets_over writes a job before
packets_over writes a job (Ticks now ∷ before) =
    ap (λ (c : CallerCore). packets_with (ticked writes job c now).given (packets_given writes job (not_placed a job) before)) (stays_over writes a job before)
    ∙ ap (λ (t : TickResult). packets_with t.given (packets_given writes job (not_placed a job) before)) (ticks_over writes a job now)
    ∙ packets_over writes a job before

pub packets_none : (writes : Writing) (l : CalledLeg) → l.placed ≡ false → packets_given writes l.job (begun_core l) l.events ≡ []
packets_none writes l e = ap (λ (a : CallerCore). packets_given writes l.job a l.events) (begun_unplaced l e) ∙ packets_over writes l.before l.job l.events

-- so a call that gives a packet was placed
pub gives_placed : (writes : Writing) (l : CalledLeg) (now : ℕ) (packet : Packet) → (calls writes l now).given ≡ Some packet → l.placed ≡ true
gives_placed writes l now packet given = by l.placed refl
  where
    by : (b : Bool) → l.placed ≡ b → b ≡ true
    by true e = refl
    by false e = let no : None ≡ Some packet = sym (gives_none writes l now e) ∙ given in cc

-- and one that awaits a DIS
pub awaits_placed : (writes : Writing) (l : CalledLeg) (events : List CallEvent) → (after_events writes l.job (begun_core l) events).state ≡ AwaitDis → l.placed ≡ true
awaits_placed writes l events awaits = by l.placed refl
  where
    by : (b : Bool) → l.placed ≡ b → b ≡ true
    by true e = refl
    by false e =
        let over : (after_events writes l.job (begun_core l) events).state ≡ Idle =
        ap (λ (a : CallerCore). (after_events writes l.job a events).state) (begun_unplaced l e) ∙ ap (λ (a : CallerCore). a.state) (stays_over writes l.before l.job events) in
        let no : Idle ≡ AwaitDis = sym over ∙ awaits in cc
