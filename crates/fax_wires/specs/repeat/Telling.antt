-- Laws of wires and their peers. (This project's profile.)
use Rattle.std.specs.Prelude.{◌≡◌, Option, None, Some, refl}
use Rattle.std.proofs.Common.{ap, inl}
use Rattle.fax_gateway.specs.declared.leg.Leg.{Leg}
use Rattle.fax_gateway.specs.declared.leg.Leg.TheVariants as legs
use Rattle.fax_wires.specs.repeat.Peers.{HearsOn, HearsWhere, PeerValue, Peers, not_told}
use Rattle.fax_wires.specs.repeat.Policies.{LastValue, RepeatingValue, TellsPeers, last_on}

-- By what it is told of its peers a wire that repeats has no more to do, and no less.
pub told_due : (at : Leg) (old new : RepeatingValue)
    → TellsPeers old new → (last_on at new).due ≡ (last_on at old).due
told_due legs.Calling old new made = ap (λ (l : LastValue). l.due) made.calling
told_due legs.Called old new made = ap (λ (l : LastValue). l.due) made.called

-- A peer that stays, stays or is heard.
pub hears_same : (peer : Option PeerValue) → HearsWhere peer peer
hears_same None = refl
hears_same (Some value) = inl refl

pub hears_on_same : (at : Leg) (peers : Peers) → HearsOn at peers peers
hears_on_same legs.Calling peers = record { hears = hears_same peers.calling; beside = refl }
hears_on_same legs.Called peers = record { hears = hears_same peers.called; beside = refl }

-- of a wire that tells none
pub hears_none : (at : Leg) → HearsOn at not_told not_told
hears_none at = hears_on_same at not_told
