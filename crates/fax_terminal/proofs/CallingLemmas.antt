-- The terminal that calls, step by step.
use Rattle.std.proofs.Common.{◌≡◌, ℕ, ◌+◌, ◌≤◌, List, [], ◌∷◌, ◌++◌, Option, Some, None, refl, sym, ◌∙◌, ap, arith, append-nil}
use Rattle.fax_call.specs.Writings.{Writing}
use Rattle.fax_call.specs.Replies.{Packet}
use Rattle.fax_gateway.specs.declared.caller_endpoint.CallerEndpoint.{CallerEndpoint}
use Rattle.fax_gateway.specs.Setups.{Setup}
use Rattle.fax_gateway.specs.CalledLegs.{CalledLeg, calls, hears, packets_given, told_by}
use Rattle.fax_gateway.specs.Driving.{most_datagrams}
use Rattle.fax_gateway.specs.Reached.{IsCalled, TicksOn}
use Rattle.fax_gateway.specs.Wires.{Grows}
use Rattle.fax_gateway.proofs.DrivingLemmas.{grows_as, grows_more, grows_none}
use Rattle.fax_terminal.specs.Ends.{EndTraffic, handed}
use Rattle.fax_terminal.specs.Terminals.{calling_turned, calling_with, datagrams_of}
use Rattle.fax_terminal.specs.Turns.{CallerHears, CallerTurns}
use Rattle.fax_terminal.proofs.EachCame.{came_each}

-- datagrams change neither the job nor what was given
pub calling_with-job : (writes : Writing) (now : ℕ) (came : List (List ℕ)) (l : CalledLeg) → (calling_with writes now came l).job ≡ l.job
calling_with-job writes now came l = came_each (λ (k : CalledLeg). k.job ≡ l.job) (λ k n d e. e) writes now came l refl

pub calling_with-given : (writes : Writing) (now : ℕ) (came : List (List ℕ)) (l : CalledLeg) → (calling_with writes now came l).given ≡ l.given
calling_with-given writes now came l = came_each (λ (k : CalledLeg). k.given ≡ l.given) (λ k n d e. e) writes now came l refl

-- nothing came yet
pub caller_hears_none : (setup : Setup) (writes : Writing) (l : CalledLeg) (now : ℕ) (told : EndTraffic) (endpoint : CallerEndpoint) → IsCalled setup writes (Some l) endpoint
    → CallerHears setup writes l now 0 told told endpoint
caller_hears_none setup writes l now told endpoint r = record { came = []; few = omega arith; received = grows_none told.received; called = r }

-- one datagram more
pub caller_hears_more : (setup : Setup) (writes : Writing) (l : CalledLeg) (now most : ℕ) (octets : List ℕ) (a b c : EndTraffic) (old new : CallerEndpoint) → Grows (octets ∷ []) b.received c.received
    → ((k : CalledLeg) → IsCalled setup writes (Some k) old → IsCalled setup writes (Some (hears writes octets now k)) new)
    → CallerHears setup writes l now most a b old → CallerHears setup writes l now (most + 1) a c new
caller_hears_more setup writes l now most octets a b c old new grew heard h = record {
  came = octets ∷ h.came;
  few = let few = h.few in omega arith;
  received = grows_more h.came (octets ∷ []) a.received b.received c.received h.received grew;
  called = heard (calling_with writes now h.came l) h.called;
}

-- and then none
pub caller_hears_all : (setup : Setup) (writes : Writing) (l : CalledLeg) (now some most : ℕ) (a b c : EndTraffic) (endpoint : CallerEndpoint) → some ≤ most → Grows [] b.received c.received
    → CallerHears setup writes l now some a b endpoint → CallerHears setup writes l now most a c endpoint
caller_hears_all setup writes l now some most a b c endpoint low grew h = record {
  came = h.came;
  few = let few = h.few in omega arith;
  received = grows_more h.came [] a.received b.received c.received h.received grew;
  called = h.called;
}

-- a turn: then a tick, and what it gives is handed over
pub caller_turns : (setup : Setup) (writes : Writing) (l : CalledLeg) (now : ℕ) (a b c : EndTraffic) (old new : CallerEndpoint) (datagram : Option (List ℕ)) → (h : CallerHears setup writes l now most_datagrams a b old)
    → TicksOn setup writes (calling_with writes now h.came l) now datagram new → Grows [] a.sent b.sent → Grows [] b.received c.received → Grows (handed datagram) b.sent c.sent → CallerTurns setup writes l now a c new
caller_turns setup writes l now a b c old new datagram h t quiet still grew = record {
  came = h.came;
  few = h.few;
  received = grows_more h.came [] a.received b.received c.received h.received still;
  sent =
      grows_as (handed datagram) _ a.sent c.sent (ap handed t.told)
      (grows_as (handed datagram ++ []) (handed datagram) a.sent c.sent (append-nil (handed datagram)) (grows_more [] (handed datagram) a.sent b.sent c.sent quiet grew));
  called = t.called;
}

-- what was sent in a turn, in front of what was before
pub datagrams_of-given : (setup : Setup) (o : Option Packet) (given : List (List ℕ)) → datagrams_of setup (packets_given o given) ≡ handed (told_by setup given o) ++ datagrams_of setup given
datagrams_of-given setup None given = refl
datagrams_of-given setup (Some packet) given = refl

pub caller_sends : (setup : Setup) (writes : Writing) (now : ℕ) (came : List (List ℕ)) (l : CalledLeg) (a b c : EndTraffic) → Grows (datagrams_of setup l.given) a.sent b.sent
    → Grows (handed (told_by setup (calling_with writes now came l).given (calls writes (calling_with writes now came l) now).given)) b.sent c.sent
    → Grows (datagrams_of setup (calling_turned writes now came l).given) a.sent c.sent
caller_sends setup writes now came l a b c first second =
    let k : CalledLeg = calling_with writes now came l in
    let before = grows_as (datagrams_of setup l.given) (datagrams_of setup k.given) a.sent b.sent (ap (datagrams_of setup) (sym (calling_with-given writes now came l))) first in
    grows_as _ _ a.sent c.sent (sym (datagrams_of-given setup (calls writes k now).given k.given)) (grows_more (datagrams_of setup k.given) (handed (told_by setup k.given (calls writes k now).given)) a.sent b.sent c.sent before second)
