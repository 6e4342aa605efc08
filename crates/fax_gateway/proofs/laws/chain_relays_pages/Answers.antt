use Rattle.fax_gateway.proofs.Relayed.{chains_relay}
use Rattle.fax_gateway.proofs.laws.chain_relays_pages.Goals as goal

pub returns : goal.returns
returns c = chains_relay
