use Rattle.std.proofs.Common.{◌≡◌, length, take}
use Rattle.toml.specs.View.{items_view}
use Rattle.fax_config.specs.SipConfigurations.{AreTrunks}
use Rattle.fax_config.proofs.trunks.trunks_of_items.Given as goal

-- the trunks so far
abbrev pub invariant-loop-item : goal.invariant-loop-item
invariant-loop-item l = record {
  told : AreTrunks (items_view (take l.item-index l.items.items)) l.trunks.items;
  as_many : length l.trunks.items ≡ l.item-index;
}
