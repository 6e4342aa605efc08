use Rattle.fax_laws.proofs.chains.Links.{linked_chains_hear, linked_chains_relay}
use Rattle.fax_laws.proofs.chains.laws.linked_chains_relay.Goals as goal

pub returns-clause-hear : goal.returns-clause-hear
returns-clause-hear c = linked_chains_hear c.chains_hear.ensures

pub returns-clause-relay : goal.returns-clause-relay
returns-clause-relay c = linked_chains_relay c.chain_relays_pages.ensures
