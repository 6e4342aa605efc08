-- What a wire that holds back makes of what it is told of its peers.
use Rattle.std.proofs.Common.{refl, ◌∙◌}
use Rattle.fax_gateway.specs.declared.leg.Leg.{Leg}
use Rattle.fax_gateway.specs.declared.leg.Leg.TheVariants as legs
use Rattle.fax_wires.specs.holding.Holding.{Ceases, HoldingValue, Speaks, Stays, TellsPeers}
use Rattle.fax_wires.specs.repeat.Policies.{other_leg}
use Rattle.fax_wires.specs.holding.Telling.{told_due}
use Rattle.fax_wires.proofs.holding.Held.{grows_none_on, handed_none}

-- what is held stays
pub told_stays : (old new : HoldingValue) → TellsPeers old new → Stays old new
told_stays old new made = record { held = made.held; is_silenced = made.is_silenced; sent = made.sent }

pub told_more : (old mid new : HoldingValue) → TellsPeers old mid → TellsPeers mid new → TellsPeers old new
told_more old mid new first second = record {
  held = second.held ∙ first.held;
  is_silenced = second.is_silenced ∙ first.is_silenced;
  clock = second.clock ∙ first.clock;
  calling_due = second.calling_due ∙ first.calling_due;
  called_due = second.called_due ∙ first.called_due;
  sent = grows_none_on old.wire.sent mid.wire.sent new.wire.sent first.sent second.sent;
}

pub told_same : (held : HoldingValue) → TellsPeers held held
told_same held = record { held = refl; is_silenced = refl; clock = refl; calling_due = refl; called_due = refl; sent = handed_none held.wire.sent }

-- ---- a leg on which a call begins

speaks_told : (at : Leg) (old mid new : HoldingValue) → Speaks at old mid → TellsPeers mid new → Speaks at old new
speaks_told legs.Calling old mid new speaks tells = (tells.held ∙ speaks.0, tells.is_silenced ∙ speaks.1)
speaks_told legs.Called old mid new speaks tells = (tells.held ∙ speaks.0, tells.is_silenced ∙ speaks.1)

told_speaks : (at : Leg) (old mid new : HoldingValue) → TellsPeers old mid → Speaks at mid new → Speaks at old new
told_speaks legs.Calling old mid new tells speaks = speaks
told_speaks legs.Called old mid new tells speaks = (speaks.0 ∙ tells.held, speaks.1 ∙ tells.is_silenced)

pub ceases_told : (at : Leg) (old mid new : HoldingValue) → Ceases at old mid → TellsPeers mid new → Ceases at old new
ceases_told at old mid new first second = record {
  speaks = speaks_told at old mid new first.speaks second;
  ended = told_due at mid new second ∙ first.ended;
  beside = told_due (other_leg at) mid new second ∙ first.beside;
  sent = grows_none_on old.wire.sent mid.wire.sent new.wire.sent first.sent second.sent;
}

pub told_ceases : (at : Leg) (old mid new : HoldingValue) → TellsPeers old mid → Ceases at mid new → Ceases at old new
told_ceases at old mid new first second = record {
  speaks = told_speaks at old mid new first second.speaks;
  ended = second.ended;
  beside = second.beside ∙ told_due (other_leg at) old mid first;
  sent = grows_none_on old.wire.sent mid.wire.sent new.wire.sent first.sent second.sent;
}
