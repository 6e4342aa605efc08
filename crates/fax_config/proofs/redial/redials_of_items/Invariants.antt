use Rattle.std.proofs.Common.{◌≡◌, length, take}
use Rattle.toml.specs.View.{items_view}
use Rattle.fax_config.specs.Members.{AreTold}
use Rattle.fax_config.specs.Configurations.{IsRedialOf}
use Rattle.fax_config.proofs.redial.redials_of_items.Given as goal

-- the redial lines so far
abbrev pub invariant-loop-item : goal.invariant-loop-item
invariant-loop-item l = record {
  told : AreTold IsRedialOf (items_view (take l.item-index l.items.items)) l.redials.items;
  as_many : length l.redials.items ≡ l.item-index;
}
