use Rattle.std.proofs.Common.{◌≡◌, length, take, All}
use Rattle.toml.specs.View.{items_view}
use Rattle.fax_config.specs.Configurations.{AreLines, IsInRange}
use Rattle.fax_config.proofs.reading.lines_of_items.Given as goal

-- the lines so far
abbrev pub invariant-loop-item : goal.invariant-loop-item
invariant-loop-item l = record {
  told : AreLines (items_view (take l.item-index l.items.items)) l.lines.items;
  in_range : All IsInRange l.lines.items;
  as_many : length l.lines.items ≡ l.item-index;
}
