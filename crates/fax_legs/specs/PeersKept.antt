-- That a wire of two sockets keeps its peers (this project's profile).
use Rattle.std.specs.Prelude.{◌≡◌, ℕ, Bool, List, Option, None, Some, refl}
use Rattle.std.proofs.Common.{ap, ◌∙◌}
use Rattle.fax_gateway.specs.declared.leg.Leg.{Leg}
use Rattle.fax_gateway.specs.declared.leg.Leg.TheVariants as legs
use Rattle.fax_wires.specs.repeat.Peers.{HearsOn, PeerValue, Peers}
use Rattle.std.specs.declared.net.socket_addr.SocketAddr.{SocketAddr}
use Rattle.fax_legs.specs.Handing.{may_have}
use Rattle.fax_legs.specs.Legs.{LegValue, ReceivesOn, SendsOn, UdpValue, leg_on, sent_by, sent_to}

-- the peers of both legs
abbrev pub told_peer : Leg → UdpValue → Option PeerValue
told_peer at wire = Some (leg_on at wire).peer

abbrev pub told_peers : UdpValue → Peers
told_peers wire =
    record { calling = told_peer legs.Calling wire; called = told_peer legs.Called wire }

pub keeps_on_receive : (at : Leg) (old new : UdpValue)
    → ReceivesOn at old new → HearsOn at (told_peers old) (told_peers new)
keeps_on_receive legs.Calling old new h =
    record { hears = h.leg.hears; beside = ap (λ (leg : LegValue). Some leg.peer) h.beside }
keeps_on_receive legs.Called old new h =
    record { hears = h.leg.hears; beside = ap (λ (leg : LegValue). Some leg.peer) h.beside }

-- a send leaves the peer of its leg
sent_peer : (octets : List ℕ) (is_sent : Bool) (address : Option SocketAddr) (leg : LegValue)
    → (sent_by octets is_sent address leg).peer ≡ leg.peer
sent_peer octets is_sent None leg = refl
sent_peer octets is_sent (Some address) leg = by (may_have leg.handed octets)
  where
    by : (before : Option ℕ) → (sent_to address octets is_sent before leg).peer ≡ leg.peer
    by None = refl
    by (Some before) = refl

both : (calling called calling_was called_was : PeerValue) → calling ≡ calling_was
    → called ≡ called_was → record { calling = Some calling; called = Some called }
    ≡ (let peers : Peers = record { calling = Some calling_was; called = Some called_was } in peers)
both calling called calling_was called_was e f = cc

pub keeps_on_send : (at : Leg) (octets : List ℕ) (is_sent : Bool) (old new : UdpValue)
    → SendsOn at octets is_sent old new → told_peers new ≡ told_peers old
keeps_on_send legs.Calling octets is_sent old new h =
    both new.calling.peer new.called.peer old.calling.peer old.called.peer (ap (λ (leg : LegValue).
    leg.peer) h.leg ∙ sent_peer octets is_sent old.calling.peer.address old.calling) (ap
    (λ (leg : LegValue). leg.peer) h.beside)
keeps_on_send legs.Called octets is_sent old new h =
    both new.calling.peer new.called.peer old.calling.peer old.called.peer (ap
    (λ (leg : LegValue). leg.peer) h.beside) (ap (λ (leg : LegValue).
    leg.peer) h.leg ∙ sent_peer octets is_sent old.called.peer.address old.called)
