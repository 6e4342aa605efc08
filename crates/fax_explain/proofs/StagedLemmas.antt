-- What was heard on a stage, as a trace goes on.
use Rattle.std.proofs.Common.{◌≡◌, ℕ, Bool, true, false, List, [], ◌++◌, Option, Some, None, Result, Ok, Err, refl, sym, ◌∙◌, ap, subst, if◌then◌else◌}
use Rattle.fax_udptl.specs.declared.fault.UdptlFault.{UdptlFault}
use Rattle.fax_udptl.specs.Datagrams.{DatagramValue, datagram_of}
use Rattle.fax_answer.specs.Calls.{TickResult}
use Rattle.fax_answer.specs.Replies.{WaitingPacket}
use Rattle.fax_answer.specs.Table.{Reading}
use Rattle.fax_gateway.specs.Setups.{Setup}
use Rattle.fax_gateway.specs.Events.{Given, Ring, FromCalling, FromCalled, Tick, Placed}
use Rattle.fax_gateway.specs.CallingLegs.{CallingLeg, answers, calling_after, core_of, is_idle, leg_ticked, leg_with, packets_with, told_by, told_calling}
use Rattle.fax_gateway.specs.Turns.{call_on}
use Rattle.fax_gateway.proofs.IdleLegs.{IfRests, idle_tick}
use Rattle.fax_descriptions.specs.declared.lane.Lane.{Lane}
use Rattle.fax_descriptions.specs.declared.lane.Lane.TheVariants.{FromCaller, ToCaller}
use Rattle.fax_descriptions.specs.Tellings.{Description}
use Rattle.fax_explain.specs.declared.listener.Listener.{Listener}
use Rattle.fax_explain.specs.declared.mark.Mark.{Mark}
use Rattle.fax_explain.specs.Given.{arrived_after, given_datagrams}
use Rattle.fax_explain.specs.Heard.{EachHearing, HearsOn, IsEar, IsHearing, KeepsEar, TellsComing, TellsDatagram, arrived_with}
use Rattle.fax_explain.specs.Listening.{in_call, outside, outside_call}
use Rattle.fax_explain.proofs.MarkLemmas.{AreEach}
use Rattle.fax_explain.proofs.OpenedLemmas.{keeps_lane}
use Rattle.fax_explain.specs.Ladders.{InCall, TellsFromCaller, TellsInCall, TellsOutside, over_tellings}
use Rattle.fax_explain.specs.Staged.{GivesCall, HearsCall, HearsOutside}

-- events that leave the calling leg
pub hears_called : (setup : Setup) (leg : Option CallingLeg) (now : ℕ) (octets : List ℕ) (at : ℕ) (decided : Bool) (listener : Listener) → HearsCall leg listener
    → HearsCall (calling_after setup leg now (FromCalled octets at decided)) listener
hears_called setup None now octets at decided listener h = h
hears_called setup (Some l) now octets at decided listener h = h

pub hears_placed : (setup : Setup) (leg : Option CallingLeg) (now at : ℕ) (connected : Bool) (listener : Listener) → HearsCall leg listener
    → HearsCall (calling_after setup leg now (Placed at connected)) listener
hears_placed setup None now at connected listener h = h
hears_placed setup (Some l) now at connected listener h = h

-- a ring: a call in which nothing arrived
pub hears_rung : (setup : Setup) (leg : Option CallingLeg) (now at number : ℕ) (listener : Listener) → IsEar (in_call FromCaller) listener → IsHearing [] listener
    → HearsCall (calling_after setup leg now (Ring at number)) listener
hears_rung setup None now at number listener ear h = λ on. (ear, h)
hears_rung setup (Some l) now at number listener ear h = λ on. (ear, h)

-- a tick: it begins no call
pub hears_ticked : (setup : Setup) (leg : Option CallingLeg) (now at : ℕ) (given : Given) (listener : Listener) → IfRests leg → HearsCall leg listener
    → HearsCall (calling_after setup leg now (Tick at given)) listener
hears_ticked setup None now at given listener rests h = h
hears_ticked setup (Some l) now at given listener rests h = by (is_idle (core_of l).state) refl
  where
    by : (b : Bool) → is_idle (core_of l).state ≡ b → HearsCall (Some (leg_ticked l now)) listener
    by true e = λ on. absurd (cc (sym (ap (λ (t : TickResult). is_idle t.core.state) (idle_tick (core_of l) now e rests) ∙ e) ∙ on))
    by false e = λ on. h e

-- no call is on
not_on : (idle : Bool) (number : ℕ) → (if◌then◌else◌ {A = Option ℕ} idle None (Some number)) ≡ None → idle ≡ true
not_on true number is = refl
not_on false number is = absurd (cc)

pub hears_outside : (setup : Setup) (leg : Option CallingLeg) (now : ℕ) (octets : List ℕ) (at : ℕ) (decided : Bool) (read : Reading) (listener : Listener) → call_on leg ≡ None
    → HearsCall (calling_after setup leg now (FromCalling octets at decided read)) listener
hears_outside setup None now octets at decided read listener none = tt
hears_outside setup (Some l) now octets at decided read listener none =
    let over : is_idle (core_of l).state ≡ true = not_on (is_idle (core_of l).state) l.number none in
    subst (λ (b : Bool). HearsCall (if◌then◌else◌ {A = Option CallingLeg} b (Some l) (Some (leg_with l now read (datagram_of octets)))) listener) (sym over) (λ on. absurd (cc (sym over ∙ on)))

pub tells_outside : (leg after : Option CallingLeg) (marks : List Mark) (came : List DatagramValue) (octets : List ℕ) (told : List Description) → call_on leg ≡ None → TellsOutside FromCaller came octets told
    → TellsFromCaller leg after marks came octets told
tells_outside None after marks came octets told none out = out
tells_outside (Some l) after marks came octets told none out =
    subst (λ (b : Bool). InCall b (TellsOutside FromCaller came octets told) (TellsInCall marks l.arrived octets (over_tellings (Some l.number) (call_on after)) told))
    (sym (not_on (is_idle (core_of l).state) l.number none)) out

-- ---- a listener, while no call is on

hearing_outside : (arrived : List DatagramValue) (l : Listener) → IsHearing arrived l → IsHearing arrived (outside l)
hearing_outside arrived l h = record { after = h.after; heard = record { tracked = h.heard.tracked; counted = h.heard.counted } }

pub outside_new : (lane : Lane) (l : Listener) → IsEar (in_call lane) l → IsHearing [] l → HearsOutside lane [] l
outside_new lane l ear h = (record { lane = ear.lane; is_outside = refl; usual = ear.usual }, h)

pub outside_failed : (lane : Lane) (l : Listener) → IsEar (outside_call lane) l → IsHearing [] l → HearsOutside lane [] l
outside_failed lane l ear h = (record { lane = ear.lane; is_outside = refl; usual = ear.usual }, h)

-- a datagram came to it, in a call or while none was on
pub outside_more : (lane : Lane) (came : List DatagramValue) (old new : Listener) (r : Result DatagramValue UdptlFault) → HearsOutside lane came old → HearsOn old r new → KeepsEar old new
    → HearsOutside lane (arrived_with came r) new
outside_more lane came old new r h on stays =
    let is : (new.lane ≡ old.lane) × (new.usual ≡ old.usual) = keeps_lane old new came stays h.1 in
    (record { lane = is.0 ∙ h.0.lane; is_outside = refl; usual = is.1 ∙ h.0.usual }, on came h.1)

pub outside_on : (lane : Lane) (came : List DatagramValue) (old new : Listener) (r : Result DatagramValue UdptlFault) → HearsOutside lane came old → HearsOn old r new → KeepsEar (outside old) new
    → HearsOutside lane (arrived_with came r) new
outside_on lane came old new r h on stays =
    let is : IsEar (outside_call lane) new = stays (outside_call lane) h.0 came (hearing_outside came old h.1) in
    (record { lane = is.lane; is_outside = refl; usual = is.usual }, on came h.1)

pub told_outside : (lane : Lane) (came : List DatagramValue) (old : Listener) (octets : List ℕ) (before told : List Description) → HearsOutside lane came old → before ≡ []
    → TellsComing (outside old) [] (datagram_of octets) before told → TellsOutside lane came octets told
told_outside lane came old octets before told h none comes =
    subst (λ (first : List Description). TellsDatagram (outside_call lane) [] came (datagram_of octets) first told) none (comes (outside_call lane) h.0 came (hearing_outside came old h.1))

-- ---- what is given on the calling leg

pub gives_rung : (setup : Setup) (leg : Option CallingLeg) (now at number : ℕ) (ours : Listener) → IsEar (in_call ToCaller) ours → IsHearing [] ours
    → GivesCall setup (calling_after setup leg now (Ring at number)) ours
gives_rung setup None now at number ours ear h = (ear, h)
gives_rung setup (Some l) now at number ours ear h = (ear, h)

pub gives_called : (setup : Setup) (leg : Option CallingLeg) (now : ℕ) (octets : List ℕ) (at : ℕ) (decided : Bool) (ours : Listener) → GivesCall setup leg ours
    → GivesCall setup (calling_after setup leg now (FromCalled octets at decided)) ours
gives_called setup None now octets at decided ours h = h
gives_called setup (Some l) now octets at decided ours h = h

pub gives_placed : (setup : Setup) (leg : Option CallingLeg) (now at : ℕ) (connected : Bool) (ours : Listener) → GivesCall setup leg ours
    → GivesCall setup (calling_after setup leg now (Placed at connected)) ours
gives_placed setup None now at connected ours h = h
gives_placed setup (Some l) now at connected ours h = h

pub gives_heard : (setup : Setup) (leg : Option CallingLeg) (now : ℕ) (octets : List ℕ) (at : ℕ) (decided : Bool) (read : Reading) (ours : Listener) → GivesCall setup leg ours
    → GivesCall setup (calling_after setup leg now (FromCalling octets at decided read)) ours
gives_heard setup None now octets at decided read ours h = h
gives_heard setup (Some l) now octets at decided read ours h = by (is_idle (core_of l).state) (datagram_of octets)
  where
    by : (b : Bool) (r : Result DatagramValue UdptlFault) → GivesCall setup (if◌then◌else◌ {A = Option CallingLeg} b (Some l) (Some (leg_with l now read r))) ours
    by true r = h
    by false (Ok d) = h
    by false (Err fault) = h

-- a tick gives what it answers
pub gives_ticked : (setup : Setup) (leg : Option CallingLeg) (now at : ℕ) (given : Given) (octets : Option (List ℕ)) (old new : Listener) → octets ≡ told_calling setup leg now → GivesCall setup leg old
    → EachHearing old (λ arrived. IsHearing (arrived_after arrived octets) new) → KeepsEar old new → GivesCall setup (calling_after setup leg now (Tick at given)) new
gives_ticked setup None now at given octets old new is h on stays =
    (stays (in_call ToCaller) h.0 [] h.1, subst (λ (o : Option (List ℕ)). IsHearing (arrived_after [] o) new) is (on [] h.1))
gives_ticked setup (Some l) now at given octets old new is h on stays = (stays (in_call ToCaller) h.0 (given_datagrams setup l.given) h.1, by (answers l now).given is)
  where
    by : (w : Option WaitingPacket) → octets ≡ told_by setup l.given w → IsHearing (given_datagrams setup (packets_with w l.given)) new
    by None none = subst (λ (o : Option (List ℕ)). IsHearing (arrived_after (given_datagrams setup l.given) o) new) none (on (given_datagrams setup l.given) h.1)
    by (Some w) some = subst (λ (o : Option (List ℕ)). IsHearing (arrived_after (given_datagrams setup l.given) o) new) some (on (given_datagrams setup l.given) h.1)

-- a datagram of the caller's in a call
pub hears_more : (setup : Setup) (leg : Option CallingLeg) (now : ℕ) (octets : List ℕ) (at : ℕ) (decided : Bool) (read : Reading) (old new : Listener) → HearsCall leg old
    → HearsOn old (datagram_of octets) new → KeepsEar old new → HearsCall (calling_after setup leg now (FromCalling octets at decided read)) new
hears_more setup None now octets at decided read old new h on stays = tt
hears_more setup (Some l) now octets at decided read old new h on stays = by (is_idle (core_of l).state) refl
  where
    with_one : is_idle (core_of l).state ≡ false → (r : Result DatagramValue UdptlFault) → HearsOn old r new → HearsCall (Some (leg_with l now read r)) new
    with_one e (Ok d) goes = λ busy. (stays (in_call FromCaller) (h e).0 l.arrived (h e).1, goes l.arrived (h e).1)
    with_one e (Err fault) goes = λ busy. (stays (in_call FromCaller) (h e).0 l.arrived (h e).1, goes l.arrived (h e).1)

    by : (b : Bool) → is_idle (core_of l).state ≡ b → HearsCall (if◌then◌else◌ {A = Option CallingLeg} b (Some l) (Some (leg_with l now read (datagram_of octets)))) new
    by true e = λ busy. absurd (cc (sym e ∙ busy))
    by false e = with_one e (datagram_of octets) on

pub tells_caller : (leg after : Option CallingLeg) (marks kept : List Mark) (came : List DatagramValue) (octets : List ℕ) (call : ℕ) (old : Listener) (before own told : List Description) → HearsCall leg old → before ≡ []
    → kept ≡ marks → TellsComing old kept (datagram_of octets) before own → AreEach leg marks octets → Some call ≡ call_on leg → told ≡ own ++ over_tellings (Some call) (call_on after) → TellsFromCaller leg after marks came octets told
tells_caller None after marks kept came octets call old before own told h none same_marks comes each is tells = absurd (cc)
tells_caller (Some l) after marks kept came octets call old before own told h none same_marks comes each is tells = by (is_idle (core_of l).state) refl is
  where
    by : (b : Bool) → is_idle (core_of l).state ≡ b → Some call ≡ (if◌then◌else◌ {A = Option ℕ} b None (Some l.number))
        → InCall b (TellsOutside FromCaller came octets told) (TellsInCall marks l.arrived octets (over_tellings (Some l.number) (call_on after)) told)
    by true e same = absurd (cc)
    by false e same = record {
      own = own;
      brought = subst (λ (ms : List Mark). TellsDatagram (in_call FromCaller) ms l.arrived (datagram_of octets) [] own) same_marks
          (subst (λ (first : List Description). TellsDatagram (in_call FromCaller) kept l.arrived (datagram_of octets) first own) none (comes (in_call FromCaller) (h e).0 l.arrived (h e).1));
      each = each e;
      told_is = tells ∙ ap (λ (number : Option ℕ). own ++ over_tellings number (call_on after)) same;
    }
