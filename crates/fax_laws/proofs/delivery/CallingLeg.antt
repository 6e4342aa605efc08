-- A gateway between two machines: its trace, and its calling leg, which goes as a machine that is called.
use Rattle.std.proofs.Common.{◌≡◌, ℕ, ◌+◌, ◌≤◌, max, Bool, true, false, List, ◌∷◌, Option, Some, None, refl, sym, ◌∙◌, ap, subst, arith, if◌then◌else◌}
use Rattle.fax_udptl.specs.Datagrams.{datagram_of}
use Rattle.fax_answer.specs.Confirmation.{IsRead}
use Rattle.fax_answer.specs.Table.{Question, Reading}
use Rattle.fax_call.specs.Writings.{Writing}
use Rattle.fax_gateway.specs.Setups.{Setup}
use Rattle.fax_gateway.specs.Events.{Event, FromCalling, FromCalled, Tick, Given, clock}
use Rattle.fax_gateway.specs.CallingLegs as answers
use Rattle.fax_gateway.specs.CallingLegs.{CallingLeg, calling_after, calling_leg, decided_calling, is_idle, question, told_calling}
use Rattle.fax_gateway.specs.CalledLegs as calls
use Rattle.fax_gateway.specs.CalledLegs.{CalledLeg, decided_called, with_tick, told_called, told_report}
use Rattle.fax_gateway.specs.BothLegs.{both_legs, in_tick}
use Rattle.fax_gateway.specs.Traces.{IsTrace}
use Rattle.fax_laws.specs.delivery.Links.{Reader, IsReader, read_by}
use Rattle.fax_laws.specs.delivery.Datagrams.{Legs, caller_with, answerer_with, by_caller, legs_round}
use Rattle.fax_laws.specs.delivery.Gateways.{Relay, with_calling, with_called, given_at, relay_round}

pub max_is : (now c : ℕ) → c ≤ now → max now c ≡ now
max_is now c h = omega arith

-- ---- THE TRACE is one of a gateway

read_so : (reads : Reader) → IsReader reads → (q : Option Question) → IsRead q (read_by reads q)
read_so reads is None = refl
read_so reads is (Some q) = is q

pub calling_trace : (setup : Setup) (writes : Writing) (reads : Reader) (now : ℕ) (o : Option (List ℕ)) (trace : List Event) → IsReader reads → clock trace ≤ now → IsTrace setup writes trace → IsTrace setup writes (with_calling setup reads now o trace)
calling_trace setup writes reads now None trace is h t = t
calling_trace setup writes reads now (Some octets) trace is h t =
    ((refl, subst (λ (m : ℕ). IsRead (question (calling_leg setup trace) m octets) (read_by reads (question (calling_leg setup trace) now octets))) (sym (max_is now (clock trace) h)) (read_so reads is (question (calling_leg setup trace) now octets))), t)

pub called_trace : (setup : Setup) (writes : Writing) (now : ℕ) (o : Option (List ℕ)) (trace : List Event) → IsTrace setup writes trace → IsTrace setup writes (with_called setup writes now o trace)
called_trace setup writes now None trace t = t
called_trace setup writes now (Some octets) trace t = (refl, t)

pub calling_clock : (setup : Setup) (reads : Reader) (now : ℕ) (o : Option (List ℕ)) (trace : List Event) → clock trace ≤ now → clock (with_calling setup reads now o trace) ≤ now
calling_clock setup reads now None trace h = h
calling_clock setup reads now (Some octets) trace h = let e : max now (clock trace) ≡ now = max_is now (clock trace) h in omega (arith, e)

pub called_clock : (setup : Setup) (writes : Writing) (now : ℕ) (o : Option (List ℕ)) (trace : List Event) → clock trace ≤ now → clock (with_called setup writes now o trace) ≤ now
called_clock setup writes now None trace h = h
called_clock setup writes now (Some octets) trace h = let e : max now (clock trace) ≡ now = max_is now (clock trace) h in omega (arith, e)

pub tick_trace : (setup : Setup) (writes : Writing) (now : ℕ) (trace : List Event) → clock trace ≤ now → IsTrace setup writes trace → IsTrace setup writes (Tick now (given_at setup writes now trace) ∷ trace)
tick_trace setup writes now trace h t = (
  ap (λ (m : ℕ). let g : Given = record { on_calling = told_calling setup (calling_leg setup trace) m; on_called = told_called setup writes (in_tick setup writes trace now).leg m; report = told_report writes (in_tick setup writes trace now).leg m } in g)
      (sym (max_is now (clock trace) h)),
  t,
)

-- ---- THE CALLING LEG

either : (b : Bool) (x y : CallingLeg) → (if◌then◌else◌ {A = Option CallingLeg} b (Some x) (Some y)) ≡ Some (if◌then◌else◌ {A = CallingLeg} b x y)
either true x y = refl
either false x y = refl

calling_heard : (setup : Setup) (reads : Reader) (now : ℕ) (o : Option (List ℕ)) (trace : List Event) (l : CallingLeg) → clock trace ≤ now → calling_leg setup trace ≡ Some l → calling_leg setup (with_calling setup reads now o trace) ≡ Some (answerer_with reads now o l)
calling_heard setup reads now None trace l h is = is
calling_heard setup reads now (Some octets) trace l h is =
    let read : Reading = read_by reads (question (calling_leg setup trace) now octets) in
    ap (λ (m : ℕ). calling_after setup (calling_leg setup trace) m (FromCalling octets now (decided_calling (calling_leg setup trace) octets) read)) (max_is now (clock trace) h)
    ∙ ap (λ (k : Option CallingLeg). calling_after setup k now (FromCalling octets now (decided_calling k octets) (read_by reads (question k now octets)))) is
    ∙ either (is_idle (answers.core_of l).state) l (answers.leg_with l now (read_by reads (question (Some l) now octets)) (datagram_of octets))

same_leg : (setup : Setup) (o : Option CallingLeg) (t now : ℕ) (octets : List ℕ) (decided : Bool) → calling_after setup o t (FromCalled octets now decided) ≡ o
same_leg setup None t now octets decided = refl
same_leg setup (Some l) t now octets decided = refl

called_heard : (setup : Setup) (writes : Writing) (now : ℕ) (o : Option (List ℕ)) (trace : List Event) → calling_leg setup (with_called setup writes now o trace) ≡ calling_leg setup trace
called_heard setup writes now None trace = refl
called_heard setup writes now (Some octets) trace = same_leg setup (calling_leg setup trace) (max now (clock trace)) now octets (decided_called writes (both_legs setup writes trace).leg octets)

-- the machine that calls and the calling leg are legs that are joined
pub record OnCalling (gateway : Setup) (now : ℕ) (r : Relay) (x : Legs) : Type 0 where
  pub caller : r.caller ≡ x.caller
  pub leg : calling_leg gateway r.trace ≡ Some x.answerer
  pub reply : r.to_caller ≡ x.reply
  pub soon : clock r.trace ≤ now

-- what comes in a round, and the leg that hears it
abbrev pub came_in : (first gateway : Setup) → Writing → Reader → ℕ → Relay → List Event
came_in first gateway writes reads now r =
    with_called gateway writes now r.to_gateway (with_calling gateway reads now (by_caller first writes now (caller_with writes now r.to_caller r.caller)) r.trace)

abbrev pub leg_heard : (first : Setup) → Writing → Reader → ℕ → Legs → CallingLeg
leg_heard first writes reads now x = answerer_with reads now (by_caller first writes now (caller_with writes now x.reply x.caller)) x.answerer

pub only_heard : (first gateway : Setup) (writes : Writing) (reads : Reader) (now : ℕ) (r : Relay) (x : Legs) → OnCalling gateway now r x
    → calling_leg gateway (with_calling gateway reads now (by_caller first writes now (caller_with writes now r.to_caller r.caller)) r.trace) ≡ Some (leg_heard first writes reads now x)
only_heard first gateway writes reads now r x o =
    let c : CalledLeg = caller_with writes now r.to_caller r.caller in
    let same : caller_with writes now r.to_caller r.caller ≡ caller_with writes now x.reply x.caller =
    ap (λ (k : Option (List ℕ)). caller_with writes now k r.caller) o.reply ∙ ap (λ (l : CalledLeg). caller_with writes now x.reply l) o.caller in
    calling_heard gateway reads now (by_caller first writes now c) r.trace x.answerer o.soon o.leg
    ∙ ap (λ (l : CalledLeg). Some (answerer_with reads now (by_caller first writes now l) x.answerer)) same

pub heard_leg : (first gateway : Setup) (writes : Writing) (reads : Reader) (now : ℕ) (r : Relay) (x : Legs) → OnCalling gateway now r x → calling_leg gateway (came_in first gateway writes reads now r) ≡ Some (leg_heard first writes reads now x)
heard_leg first gateway writes reads now r x o =
    let c : CalledLeg = caller_with writes now r.to_caller r.caller in
    called_heard gateway writes now r.to_gateway (with_calling gateway reads now (by_caller first writes now c) r.trace) ∙ only_heard first gateway writes reads now r x o

pub came_clock : (first gateway : Setup) (writes : Writing) (reads : Reader) (now : ℕ) (r : Relay) → clock r.trace ≤ now → clock (came_in first gateway writes reads now r) ≤ now
came_clock first gateway writes reads now r h =
    let c : CalledLeg = caller_with writes now r.to_caller r.caller in
    called_clock gateway writes now r.to_gateway (with_calling gateway reads now (by_caller first writes now c) r.trace) (calling_clock gateway reads now (by_caller first writes now c) r.trace h)

pub calling_on : (first gateway last : Setup) (writes : Writing) (reads : Reader) (now : ℕ) (r : Relay) (x : Legs) → OnCalling gateway now r x
    → OnCalling gateway (now + 40) (relay_round first gateway last writes reads now r) (legs_round first gateway writes reads now x)
unfolding relay_round legs_round
calling_on first gateway last writes reads now r x o =
    let same : caller_with writes now r.to_caller r.caller ≡ caller_with writes now x.reply x.caller =
    ap (λ (k : Option (List ℕ)). caller_with writes now k r.caller) o.reply ∙ ap (λ (l : CalledLeg). caller_with writes now x.reply l) o.caller in
    let heard : List Event = came_in first gateway writes reads now r in
    let soon : clock (came_in first gateway writes reads now r) ≤ now = came_clock first gateway writes reads now r o.soon in
    let at : max now (clock (came_in first gateway writes reads now r)) ≡ now = max_is now (clock (came_in first gateway writes reads now r)) soon in
    let leg : calling_leg gateway (came_in first gateway writes reads now r) ≡ Some (leg_heard first writes reads now x) = heard_leg first gateway writes reads now r x o in
    record {
      caller = ap (λ (l : CalledLeg). with_tick (calls.calls writes l now) now l) same;
      leg =
          ap (λ (m : ℕ). calling_after gateway (calling_leg gateway heard) m (Tick now (given_at gateway writes now heard))) at
          ∙ ap (λ (k : Option CallingLeg). calling_after gateway k now (Tick now (given_at gateway writes now heard))) leg;
      reply = ap (λ (k : Option CallingLeg). told_calling gateway k now) leg;
      soon = omega (arith, at);
    }

pub trace_on : (first gateway last : Setup) (writes : Writing) (reads : Reader) (now : ℕ) (r : Relay) → IsReader reads → clock r.trace ≤ now → IsTrace gateway writes r.trace → IsTrace gateway writes (relay_round first gateway last writes reads now r).trace
unfolding relay_round
trace_on first gateway last writes reads now r is h t =
    let c : CalledLeg = caller_with writes now r.to_caller r.caller in
    tick_trace gateway writes now (came_in first gateway writes reads now r) (came_clock first gateway writes reads now r h)
    (called_trace gateway writes now r.to_gateway (with_calling gateway reads now (by_caller first writes now c) r.trace)
    (calling_trace gateway writes reads now (by_caller first writes now c) r.trace is h t))
