-- By what it is told of its peers a wire that holds back has no more to do, and no less. (This project's profile.)
use Rattle.std.specs.Prelude.{◌≡◌}
use Rattle.fax_gateway.specs.declared.leg.Leg.{Leg}
use Rattle.fax_gateway.specs.declared.leg.Leg.TheVariants as legs
use Rattle.fax_wires.specs.holding.Holding.{HoldingValue, TellsPeers, due_on}

pub told_due : (at : Leg) (old new : HoldingValue)
    → TellsPeers old new → due_on at new ≡ due_on at old
told_due legs.Calling old new made = made.calling_due
told_due legs.Called old new made = made.called_due
