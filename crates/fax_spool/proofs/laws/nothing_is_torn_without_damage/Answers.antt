use Rattle.fax_spool.proofs.TornCalls.{nothing_is_torn_without_damage}
use Rattle.fax_spool.proofs.laws.nothing_is_torn_without_damage.Goals as goal

pub returns : goal.returns
returns c = nothing_is_torn_without_damage
