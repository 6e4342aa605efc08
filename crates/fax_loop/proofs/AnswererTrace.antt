-- The machine that is called is a gateway's calling leg: there is a trace of a gateway with that leg.
use Rattle.std.proofs.Common.{◌≡◌, ℕ, ◌≤◌, max, Bool, true, false, List, [], ◌∷◌, Option, Some, None, refl, sym, ◌∙◌, ap, subst, arith, if◌then◌else◌}
use Rattle.fax_udptl.specs.Datagrams.{datagram_of}
use Rattle.fax_answer.specs.Table.{Reading}
use Rattle.fax_answer.specs.Calls.{new_answering}
use Rattle.fax_answer.specs.Confirmation.{IsRead}
use Rattle.fax_call.specs.Writings.{Writing}
use Rattle.fax_gateway.specs.Setups.{Setup}
use Rattle.fax_gateway.specs.Events.{Event, Ring, FromCalling, Tick, Given, clock, rings}
use Rattle.fax_gateway.specs.CallingLegs.{CallingLeg, calling_after, calling_leg, core_of, decided_calling, idle_after, is_idle, leg_with, question, rung_leg, told_calling}
use Rattle.fax_gateway.specs.CalledLegs.{told_called, told_report}
use Rattle.fax_gateway.specs.Reached.{heard_on, ticked_on}
use Rattle.fax_gateway.specs.BothLegs.{in_tick}
use Rattle.fax_gateway.specs.Traces.{IsTrace}
use Rattle.fax_loop.specs.Exchanges.{AreRounds, Round, answerer_after, moment_after}
use Rattle.fax_terminal.specs.Terminals.{AreCame, ReadDatagram, called_turned, called_with, rung_once}

-- before the ring there was none
abbrev Unrung : Option CallingLeg → ℕ → Type 0
Unrung None count = count ≡ 0
Unrung (Some l) count = Unit {0}

-- a trace up to a moment, and its calling leg
pub record Follows (setup : Setup) (writes : Writing) (now : ℕ) (leg : Option CallingLeg) (trace : List Event) : Type 0 where
  pub is_trace : IsTrace setup writes trace
  pub is_leg : calling_leg setup trace ≡ leg
  pub at : clock trace ≤ now
  pub unrung : Unrung leg (rings trace)

abbrev pub IsFollowed : Setup → Writing → ℕ → Option CallingLeg → Type 0
IsFollowed setup writes now leg = (trace : List Event) × Follows setup writes now leg trace

max_is : (now n : ℕ) → n ≤ now → max now n ≡ now
max_is now n h = omega arith

least : (a b : ℕ) → a ≡ b → a ≤ b
least a b h = omega arith

-- the ring
rings_once : (setup : Setup) (writes : Writing) (now : ℕ) (leg : Option CallingLeg) → IsFollowed setup writes now leg → IsFollowed setup writes now (Some (rung_once setup now leg))
rings_once setup writes now None t =
    let trace : List Event = t.0 in
    let f : Follows setup writes now None trace = t.1 in
    let same : max now (clock trace) ≡ now = max_is now (clock trace) f.at in (
      Ring now 0 ∷ trace,
      record {
        is_trace = ((sym f.unrung, omega arith, ap idle_after f.is_leg), f.is_trace);
        is_leg =
            ap (λ (o : Option CallingLeg). calling_after setup o (max now (clock trace)) (Ring now 0)) f.is_leg
            ∙ ap (λ (n : ℕ). Some (rung_leg (new_answering setup.pause) n 0)) same;
        at = least (max now (clock trace)) now same;
        unrung = tt;
      },
    )
rings_once setup writes now (Some l) t = t

-- a datagram
heard_rung : (b : Bool) (l k : CallingLeg) (count : ℕ) → Unrung (if◌then◌else◌ {A = Option CallingLeg} b (Some l) (Some k)) count
heard_rung true l k count = tt
heard_rung false l k count = tt

heard_unrung : (setup : Setup) (l : CallingLeg) (now : ℕ) (octets : List ℕ) (read : Reading) (count : ℕ) → Unrung (heard_on setup (Some l) now octets read) count
heard_unrung setup l now octets read count = heard_rung (is_idle (core_of l).state) l (leg_with l now read (datagram_of octets)) count

comes_one : (setup : Setup) (writes : Writing) (now : ℕ) (l : CallingLeg) (octets : List ℕ) (read : Reading) → IsRead (question (Some l) now octets) read → IsFollowed setup writes now (Some l) → IsFollowed setup writes now (heard_on setup (Some l) now octets read)
comes_one setup writes now l octets read right t =
    let trace : List Event = t.0 in
    let f : Follows setup writes now (Some l) trace = t.1 in
    let same : max now (clock trace) ≡ now = max_is now (clock trace) f.at in
    let decided : Bool = decided_calling (calling_leg setup trace) octets in (
      FromCalling octets now decided read ∷ trace,
      record {
        is_trace = (
          (
            refl,
            subst (λ (n : ℕ). IsRead (question (calling_leg setup trace) n octets) read) (sym same) (subst (λ (o : Option CallingLeg). IsRead (question o now octets) read) (sym f.is_leg) right),
          ),
          f.is_trace,
        );
        is_leg =
            ap (λ (o : Option CallingLeg). calling_after setup o (max now (clock trace)) (FromCalling octets now decided read)) f.is_leg
            ∙ ap (λ (n : ℕ). calling_after setup (Some l) n (FromCalling octets now decided read)) same;
        at = least (max now (clock trace)) now same;
        unrung = heard_unrung setup l now octets read (rings trace);
      },
    )

comes_all : (setup : Setup) (writes : Writing) (now : ℕ) (came : List ReadDatagram) (leg : Option CallingLeg) → AreCame setup now came leg → IsFollowed setup writes now leg → IsFollowed setup writes now (called_with setup now came leg)
comes_all setup writes now [] leg a t = t
comes_all setup writes now (c ∷ earlier) leg a t =
    comes_one setup writes now (rung_once setup now (called_with setup now earlier leg)) c.octets c.read a.0 (rings_once setup writes now (called_with setup now earlier leg) (comes_all setup writes now earlier leg a.1 t))

-- a tick
tick_leg : (setup : Setup) (leg : Option CallingLeg) (now at : ℕ) (given : Given) → calling_after setup leg now (Tick at given) ≡ ticked_on leg now
tick_leg setup None now at given = refl
tick_leg setup (Some l) now at given = refl

tick_unrung : (leg : Option CallingLeg) (now count : ℕ) → Unrung leg count → Unrung (ticked_on leg now) count
tick_unrung None now count u = u
tick_unrung (Some l) now count u = tt

ticks_once : (setup : Setup) (writes : Writing) (now : ℕ) (leg : Option CallingLeg) → IsFollowed setup writes now leg → IsFollowed setup writes now (ticked_on leg now)
ticks_once setup writes now leg t =
    let trace : List Event = t.0 in
    let f : Follows setup writes now leg trace = t.1 in
    let same : max now (clock trace) ≡ now = max_is now (clock trace) f.at in
    let at : ℕ = max now (clock trace) in
    let given : Given = record {
      on_calling = told_calling setup (calling_leg setup trace) at;
      on_called = told_called setup writes (in_tick setup writes trace now).leg at;
      report = told_report writes (in_tick setup writes trace now).leg at;
    } in (
      Tick now given ∷ trace,
      record {
        is_trace = (refl, f.is_trace);
        is_leg =
            ap (λ (o : Option CallingLeg). calling_after setup o at (Tick now given)) f.is_leg ∙ tick_leg setup leg at now given
            ∙ ap (λ (n : ℕ). ticked_on leg n) same;
        at = least at now same;
        unrung = tick_unrung leg now (rings trace) f.unrung;
      },
    )

-- time goes on
later_on : (setup : Setup) (writes : Writing) (now next : ℕ) (leg : Option CallingLeg) → now ≤ next → IsFollowed setup writes now leg → IsFollowed setup writes next leg
later_on setup writes now next leg l t = (t.0, record { is_trace = t.1.is_trace; is_leg = t.1.is_leg; at = le_trans (clock t.0) now next t.1.at l; unrung = t.1.unrung })
  where
    le_trans : (a b c : ℕ) → a ≤ b → b ≤ c → a ≤ c
    le_trans a b c h k = omega arith

moments_rise : (round : Round) (earlier : List Round) → moment_after earlier ≤ moment_after (round ∷ earlier)
moments_rise round earlier = omega arith

pub answerer_followed : (setup : Setup) (writes others : Writing) (rounds : List Round) → AreRounds setup others rounds → IsFollowed setup writes (moment_after rounds) (answerer_after setup rounds)
answerer_followed setup writes others [] a = ([], record { is_trace = tt; is_leg = refl; at = omega arith; unrung = refl })
answerer_followed setup writes others (round ∷ earlier) a =
    let now : ℕ = moment_after earlier in
    let leg : Option CallingLeg = answerer_after setup earlier in
    later_on setup writes now (moment_after (round ∷ earlier)) (called_turned setup now round.called leg) (moments_rise round earlier)
    (ticks_once setup writes now (called_with setup now round.called leg) (comes_all setup writes now round.called leg a.0.read (answerer_followed setup writes others earlier a.1)))
