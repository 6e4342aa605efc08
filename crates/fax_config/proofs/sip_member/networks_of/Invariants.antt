use Rattle.std.proofs.Common.{take}
use Rattle.toml.specs.View.{items_view}
use Rattle.fax_config.specs.SipMembers.{AreNetworks}
use Rattle.fax_config.proofs.sip_member.networks_of.Given as goal

-- the networks so far
abbrev pub invariant-loop-item : goal.invariant-loop-item
invariant-loop-item l = AreNetworks (items_view (take l.item-index l.items.items)) l.networks.items
