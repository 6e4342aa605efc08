use Rattle.std.proofs.Common.{◌≡◌, length, take}
use Rattle.toml.specs.View.{items_view}
use Rattle.fax_config.specs.SipConfigurations.{AreRoutes}
use Rattle.fax_config.proofs.routes.routes_of_items.Given as goal

-- the routes so far
abbrev pub invariant-loop-item : goal.invariant-loop-item
invariant-loop-item l = record {
  told : AreRoutes l.trunks (items_view (take l.item-index l.items.items)) l.routes.items;
  as_many : length l.routes.items ≡ l.item-index;
}
