-- Where the calls of both legs stand, and which timers act.
use Rattle.std.proofs.Common.{◌≡◌, ℕ, [], Option, Some, None, refl, ◌∙◌}
use Rattle.fax_udptl.specs.Slots.{newest_slots}
use Rattle.fax_answer.specs.Calls as answer_calls
use Rattle.fax_answer.specs.Reached as answer
use Rattle.fax_answer.specs.Watching as answer_watching
use Rattle.fax_answer.specs.declared.timers.ActingTimer as answer_timers
use Rattle.fax_call.specs.declared.acting.ActingTimer as call_timers
use Rattle.fax_call.specs.Calls as call_calls
use Rattle.fax_call.specs.Reached as call
use Rattle.fax_call.specs.Watching as call_watching
use Rattle.fax_call.specs.Writings.{Writing}
use Rattle.fax_jobs.specs.Jobs.{JobValue}
use Rattle.fax_ifp.specs.Elements.{Slot}
use Rattle.std.specs.Prelude.{List}
use Rattle.fax_gateway.specs.Setups.{Setup}
use Rattle.fax_gateway.specs.CallingLegs.{CallingLeg}
use Rattle.fax_gateway.specs.CalledLegs.{CalledLeg, core_of}
use Rattle.fax_gateway.specs.declared.caller_endpoint.CallerEndpoint.{CallerEndpoint}
use Rattle.fax_gateway.specs.Reached.{CallingValue, IsCalled, IsCalling, answering_of, arrived_on}
use Rattle.fax_gateway.specs.Watched.{called_acting, called_state, calling_acting, calling_state}

-- THE CALLING LEG
answering_state : (setup : Setup) (leg : Option CallingLeg) → (answering_of setup leg).state ≡ calling_state leg
answering_state setup None = refl
answering_state setup (Some l) = refl

answering_acts : (setup : Setup) (leg : Option CallingLeg) (now : ℕ) → answer_watching.acting (answering_of setup leg) now ≡ calling_acting leg now
answering_acts setup None now = refl
answering_acts setup (Some l) now = refl

pub calling_stands : (setup : Setup) (leg : Option CallingLeg) (endpoint : CallingValue) → IsCalling setup leg endpoint → endpoint.kept.procedure.state ≡ calling_state leg
calling_stands setup leg endpoint r = r.core.stands.follows.state ∙ answering_state setup leg

pub calling_acts : (setup : Setup) (leg : Option CallingLeg) (endpoint : CallingValue) (now : ℕ) (told : Option answer_timers.ActingTimer) → IsCalling setup leg endpoint
    → ((heard : List Slot) (core : answer_calls.AnswererCore) → answer.IsReached heard core endpoint.kept → told ≡ answer_watching.acting core now) → told ≡ calling_acting leg now
calling_acts setup leg endpoint now told r f = f (newest_slots (arrived_on leg)) (answering_of setup leg) r.core ∙ answering_acts setup leg now

-- THE CALLED LEG
no_job : CallerEndpoint → JobValue
no_job endpoint = record { call = 0; format = endpoint.caller.procedure.format; pages = [] }

pub called_stands : (setup : Setup) (writes : Writing) (leg : Option CalledLeg) (endpoint : CallerEndpoint) → IsCalled setup writes leg endpoint → endpoint.caller.procedure.state ≡ called_state writes leg
called_stands setup writes None endpoint r = (r.core (no_job endpoint)).follows.state
called_stands setup writes (Some l) endpoint r = r.core.follows.state

pub called_acts : (setup : Setup) (writes : Writing) (leg : Option CalledLeg) (endpoint : CallerEndpoint) (now : ℕ) (told : Option call_timers.ActingTimer) → IsCalled setup writes leg endpoint
    → ((writes : Writing) (job : JobValue) (heard : List Slot) (core : call_calls.CallerCore) → call.IsReached writes job heard core endpoint.caller → told ≡ call_watching.acting core now) → told ≡ called_acting writes leg now
called_acts setup writes None endpoint now told r f = f writes (no_job endpoint) [] _ (r.core (no_job endpoint))
called_acts setup writes (Some l) endpoint now told r f = f writes l.job (newest_slots l.arrived) (core_of writes l) r.core
