use Rattle.std.proofs.Common.{◌≡◌, length, take}
use Rattle.toml.specs.View.{items_view}
use Rattle.fax_config.specs.Members.{AreTold}
use Rattle.fax_config.specs.Configurations.{IsWait}
use Rattle.fax_config.proofs.retry.waits_of_items.Given as goal

-- how long is waited so far
abbrev pub invariant-loop-item : goal.invariant-loop-item
invariant-loop-item l = record {
  told : AreTold IsWait (items_view (take l.item-index l.items.items)) l.waits.items;
  as_many : length l.waits.items ≡ l.item-index;
}
