-- What an endpoint makes of a tick, and of the call that begins.
use Rattle.std.proofs.Common.{◌≡◌, ℕ, false, List, [], length, Option, Some, None, option_map, refl, sym, ◌∙◌, ap, subst}
use Rattle.fax_udptl.specs.Datagrams.{DatagramValue}
use Rattle.fax_udptl.specs.Slots.{slots, newest_slots}
use Rattle.fax_ifp.specs.Elements.{Slot}
use Rattle.fax_runcodes.specs.declared.format.Format.{Format}
use Rattle.fax_jobs.specs.Jobs.{JobValue}
use Rattle.fax_answer.specs.declared.step.Step.{Step}
use Rattle.fax_answer.specs.Replies.{WaitingPacket}
use Rattle.fax_answer.specs.Calls as answer_calls
use Rattle.fax_answer.specs.Calls.{AnswererCore, new_answering}
use Rattle.fax_answer.specs.Reached as answer
use Rattle.fax_answer.specs.Refusals.{TellsWhy}
use Rattle.fax_answer.specs.Shown.{IsStep, packet_in, confirmed_in, confirmed_shown}
use Rattle.fax_call.specs.Writings.{Writing}
use Rattle.fax_call.specs.Replies.{Packet, written}
use Rattle.fax_call.specs.Calls.{CallerCore, new_calling, not_placed, started, TickResult, ticked}
use Rattle.fax_call.specs.Reached as call
use Rattle.fax_gateway.specs.Setups.{Setup}
use Rattle.fax_gateway.specs.declared.endpoint.Endpoint.{Endpoint}
use Rattle.fax_gateway.specs.declared.caller_endpoint.CallerEndpoint.{CallerEndpoint}
use Rattle.fax_gateway.specs.CallingLegs as calling_legs
use Rattle.fax_gateway.specs.CallingLegs.{CallingLeg, packets_with, confirmed_by}
use Rattle.fax_gateway.specs.CalledLegs as called_legs
use Rattle.fax_gateway.specs.CalledLegs.{CalledLeg, core_of, core_left, begun_leg, placed_leg, calls, packets_given, with_tick}
use Rattle.fax_gateway.specs.Reached.{IsLeg, sent_if, given_with, CallingValue, IsCalling, ticked_on, TellsTick, IsCaller, IsCalledLeg, IsCalled, TicksOn}

-- a leg gives a packet, where there is one
abbrev pub Gives : Setup → Option (List ℕ) → Endpoint → Endpoint → Option (List ℕ) → Type 0
Gives setup packet old new datagram = (arrived : List DatagramValue) (given : List (List ℕ)) → IsLeg setup arrived given old → (datagram ≡ sent_if setup given packet) × IsLeg setup arrived (given_with packet given) new

-- THE CALLING LEG
waiting_told : (setup : Setup) (w : Option WaitingPacket) (given : List (List ℕ)) → sent_if setup given (packet_in w) ≡ calling_legs.told_by setup given w
waiting_told setup None given = refl
waiting_told setup (Some w) given = refl

waiting_given : (w : Option WaitingPacket) (given : List (List ℕ)) → given_with (packet_in w) given ≡ packets_with w given
waiting_given None given = refl
waiting_given (Some w) given = refl

pub waiting_confirms : (w : Option WaitingPacket) → confirmed_in w ≡ confirmed_by w
waiting_confirms None = refl
waiting_confirms (Some w) = refl

abbrev pub Answers : {S : Type 0} → ℕ → answer.Rep → answer.Rep → Step S → Type 0
Answers now old new step = (heard : List Slot) (core : AnswererCore) → answer.IsReached heard core old → answer.IsReached heard (answer_calls.ticked core now).core new × IsStep (answer_calls.ticked core now) step

pub leg_ticks : {S : Type 0} (setup : Setup) (leg : Option CallingLeg) (now : ℕ) (old new : CallingValue) (step : Step S) (datagram : Option (List ℕ)) → new.number ≡ old.number → Answers now old.kept new.kept step
    → Gives setup step.packet old.leg new.leg datagram → IsCalling setup leg old → IsCalling setup (ticked_on leg now) new
leg_ticks setup None now old new step datagram number a g r =
    let k = a (newest_slots []) (new_answering setup.pause) r.core in
    record {
      number = tt;
      core = k.0;
      on_leg = subst (λ (given : List (List ℕ)). IsLeg setup [] given new.leg) (ap (λ (p : Option (List ℕ)). given_with p []) k.1.packet) (g [] [] r.on_leg).1;
    }
leg_ticks setup (Some l) now old new step datagram number a g r =
    let k = a (newest_slots l.arrived) (calling_legs.core_of l) r.core in
    record {
      number = r.number ∙ sym number;
      core = k.0;
      on_leg =
          subst (λ (given : List (List ℕ)). IsLeg setup l.arrived given new.leg) (ap (λ (p : Option (List ℕ)). given_with p l.given) k.1.packet ∙ waiting_given (calling_legs.answers l now).given l.given)
          (g l.arrived l.given r.on_leg).1;
    }

pub leg_tells : {S : Type 0} (setup : Setup) (leg : Option CallingLeg) (now : ℕ) (old new : CallingValue) (step told : Step S) → Answers now old.kept new.kept step
    → Gives setup step.packet old.leg new.leg told.packet → told.confirmed ≡ step.confirmed → told.refused ≡ step.refused → told.ended ≡ step.ended → IsCalling setup leg old → TellsTick setup leg now told
leg_tells {S} setup None now old new step told a g page refused ends r =
    let k = a (newest_slots []) (new_answering setup.pause) r.core in
    record {
      packet = (g [] [] r.on_leg).0 ∙ ap (sent_if setup []) k.1.packet;
      confirmed = ap (confirmed_shown {S = S}) page ∙ k.1.confirmed;
      refused = refused ∙ k.1.refused.silent (λ h. h);
      ends = ends ∙ k.1.ends;
    }
leg_tells {S} setup (Some l) now old new step told a g page refused ends r =
    let k = a (newest_slots l.arrived) (calling_legs.core_of l) r.core in
    record {
      packet = (g l.arrived l.given r.on_leg).0 ∙ ap (sent_if setup l.given) k.1.packet ∙ waiting_told setup (calling_legs.answers l now).given l.given;
      confirmed = ap (confirmed_shown {S = S}) page ∙ k.1.confirmed ∙ waiting_confirms (calling_legs.answers l now).given;
      refused = subst (TellsWhy (calling_legs.answers l now)) (sym refused) k.1.refused;
      ends = ends ∙ k.1.ends;
    }

-- THE CALLED LEG
packet_told : (setup : Setup) (o : Option Packet) (given : List (List ℕ)) → sent_if setup given (option_map written o) ≡ called_legs.told_by setup given o
packet_told setup None given = refl
packet_told setup (Some p) given = refl

packet_given : (o : Option Packet) (given : List (List ℕ)) → given_with (option_map written o) given ≡ packets_given o given
packet_given None given = refl
packet_given (Some p) given = refl

-- memory that is reserved makes no difference
caller_keeps : (setup : Setup) (writes : Writing) (leg : Option CalledLeg) (old new : call.Rep) → ((writes : Writing) (job : JobValue) (heard : List Slot) (core : CallerCore) → call.IsReached writes job heard core old → call.IsReached writes job heard core new)
    → new.procedure.format ≡ old.procedure.format → IsCaller setup writes leg old → IsCaller setup writes leg new
caller_keeps setup writes None old new f same r = λ job. subst (λ (x : Format). call.IsReached writes job [] (new_calling setup.pause x) new) (sym same) (f writes job [] (new_calling setup.pause old.procedure.format) (r job))
caller_keeps setup writes (Some l) old new f same r = f writes l.job (newest_slots l.arrived) (core_of writes l) r

leg_keeps : (setup : Setup) (leg : Option CalledLeg) (old new : Endpoint) → ((arrived : List DatagramValue) (given : List (List ℕ)) → IsLeg setup arrived given old → IsLeg setup arrived given new) → IsCalledLeg setup leg old → IsCalledLeg setup leg new
leg_keeps setup None old new f r = tt
leg_keeps setup (Some l) old new f r = f l.arrived l.given r

pub called_endpoint_keeps : (setup : Setup) (writes : Writing) (leg : Option CalledLeg) (old new : CallerEndpoint) → ((writes : Writing) (job : JobValue) (heard : List Slot) (core : CallerCore) → call.IsReached writes job heard core old.caller → call.IsReached writes job heard core new.caller)
    → new.caller.procedure.format ≡ old.caller.procedure.format → ((arrived : List DatagramValue) (given : List (List ℕ)) → IsLeg setup arrived given old.leg → IsLeg setup arrived given new.leg) → IsCalled setup writes leg old → IsCalled setup writes leg new
called_endpoint_keeps setup writes leg old new f same g r = record { core = caller_keeps setup writes leg old.caller new.caller f same r.core; on_leg = leg_keeps setup leg old.leg new.leg g r.on_leg }

-- a call begins
caller_starts : (setup : Setup) (writes : Writing) (leg : Option CalledLeg) (old new : call.Rep) (job : JobValue) (format : Format) (pages now : ℕ) → format ≡ job.format → pages ≡ length job.pages →
    ((writes others : Writing) (job other : JobValue) (heard : List Slot) (core : CallerCore) → call.IsReached others other heard core old → job.format ≡ format → length job.pages ≡ pages → call.IsReached writes job [] (started core job now) new)
    → IsCaller setup writes leg old → call.IsReached writes job [] (started (core_left setup writes leg) job now) new
caller_starts setup writes None old new job format pages now same count f r = f writes writes job job [] (new_calling setup.pause old.procedure.format) (r job) (sym same) (sym count)
caller_starts setup writes (Some l) old new job format pages now same count f r = f writes writes job l.job (newest_slots l.arrived) (core_of writes l) r (sym same) (sym count)

-- one that could not be placed is over as it begins
caller_fails : (setup : Setup) (writes : Writing) (leg : Option CalledLeg) (old new : call.Rep) (job : JobValue) (format : Format) (pages : ℕ) → format ≡ job.format → pages ≡ length job.pages →
    ((writes others : Writing) (job other : JobValue) (heard : List Slot) (core : CallerCore) → call.IsReached others other heard core old → job.format ≡ format → length job.pages ≡ pages → call.IsReached writes job [] (not_placed core job) new)
    → IsCaller setup writes leg old → call.IsReached writes job [] (not_placed (core_left setup writes leg) job) new
caller_fails setup writes None old new job format pages same count f r = f writes writes job job [] (new_calling setup.pause old.procedure.format) (r job) (sym same) (sym count)
caller_fails setup writes (Some l) old new job format pages same count f r = f writes writes job l.job (newest_slots l.arrived) (core_of writes l) r (sym same) (sym count)

pub leg_fails : (setup : Setup) (writes : Writing) (leg : Option CalledLeg) (old new : CallerEndpoint) (job : JobValue) (format : Format) (pages now : ℕ) → format ≡ job.format → pages ≡ length job.pages →
    ((writes others : Writing) (job other : JobValue) (heard : List Slot) (core : CallerCore) → call.IsReached others other heard core old.caller → job.format ≡ format → length job.pages ≡ pages → call.IsReached writes job [] (not_placed core job) new.caller)
    → IsLeg setup [] [] new.leg → IsCalled setup writes leg old → IsCalled setup writes (Some (placed_leg false job (core_left setup writes leg) now)) new
unfolding newest_slots slots
leg_fails setup writes leg old new job format pages now same count f fresh r =
    record { core = caller_fails setup writes leg old.caller new.caller job format pages same count f r.core; on_leg = fresh }

pub leg_starts : (setup : Setup) (writes : Writing) (leg : Option CalledLeg) (old new : CallerEndpoint) (job : JobValue) (format : Format) (pages now : ℕ) → format ≡ job.format → pages ≡ length job.pages →
    ((writes others : Writing) (job other : JobValue) (heard : List Slot) (core : CallerCore) → call.IsReached others other heard core old.caller → job.format ≡ format → length job.pages ≡ pages → call.IsReached writes job [] (started core job now) new.caller)
    → IsLeg setup [] [] new.leg → IsCalled setup writes leg old → IsCalled setup writes (Some (begun_leg job (core_left setup writes leg) now)) new
unfolding newest_slots slots
leg_starts setup writes leg old new job format pages now same count f fresh r =
    record { core = caller_starts setup writes leg old.caller new.caller job format pages now same count f r.core; on_leg = fresh }

-- time goes on in a call
pub leg_ticks_on : (setup : Setup) (writes : Writing) (l : CalledLeg) (now : ℕ) (job : JobValue) (old new : CallerEndpoint) (packet datagram : Option (List ℕ)) → l.job ≡ job →
    ((heard : List Slot) (core : CallerCore) → call.IsReached writes job heard core old.caller → call.IsReached writes job heard (ticked writes job core now).core new.caller × call.IsGiven (ticked writes job core now) packet)
    → Gives setup packet old.leg new.leg datagram → IsCalled setup writes (Some l) old → TicksOn setup writes l now datagram new
leg_ticks_on setup writes l now job old new packet datagram same f g r =
    let t : TickResult = calls writes l now in
    let of_job = subst (λ (j : JobValue). (heard : List Slot) (core : CallerCore) → call.IsReached writes j heard core old.caller → call.IsReached writes j heard (ticked writes j core now).core new.caller × call.IsGiven (ticked writes j core now) packet) (sym same) f in
    let k = of_job (newest_slots l.arrived) (core_of writes l) r.core in
    let leg = g l.arrived l.given r.on_leg in
    record {
      called = record {
        core = k.0;
        on_leg = subst (λ (given : List (List ℕ)). IsLeg setup l.arrived given new.leg) (ap (λ (p : Option (List ℕ)). given_with p l.given) k.1 ∙ packet_given t.given l.given) leg.1;
      };
      told = leg.0 ∙ ap (sent_if setup l.given) k.1 ∙ packet_told setup t.given l.given;
    }
