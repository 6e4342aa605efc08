-- The names of the legs, as control words and events say them.
use Rattle.std.specs.Prelude.{ℕ, List, codes}
use Rattle.fax_gateway.specs.declared.leg.Leg.{Leg}
use Rattle.fax_gateway.specs.declared.leg.Leg.TheVariants.{Calling, Called}

abbrev pub leg_text : Leg → List ℕ
leg_text Calling = codes "calling"
leg_text Called = codes "called"
