use Rattle.std.proofs.Common.{rules, arith, ◌≡◌, ◌+◌, ◌<◌, ℕ, List, [], ◌∷◌, ◌++◌, length, get_or, take, Some, codes, sym, ◌∙◌, ap, subst}
use Rattle.std.proofs.lemmas.Grind.{common_steps}
use Rattle.std.proofs.lemmas.List.{length-append}
use Rattle.toml.specs.Data.{Members, array, get_member}
use Rattle.toml.specs.View.{array_view, items_view, table_view, view}
use Rattle.toml.specs.declared.value.Value.{Value}
use Rattle.toml.proofs.Views.{get_item_within}
use Rattle.fax_config.specs.declared.sip.RouteConfig.{RouteConfig}
use Rattle.fax_config.specs.SipConfigurations.{AreRoutes, AreTrunksAt, IsRouteOf}
use Rattle.fax_config.specs.Faults.{HasRouteMisfit}
use Rattle.fax_config.proofs.LineLemmas.{no_table_at, told_more}
use Rattle.fax_config.proofs.MemberLemmas.{seen_none, seen_some, is_table}
use Rattle.fax_config.proofs.SipLemmas.{misfit_of_route}
use Rattle.fax_config.proofs.routes.routes_of_items.Goals as goal

pub returns-in_default-clause-fault : goal.returns-in_default-clause-fault
returns-in_default-clause-fault c = λ members at told.
    let within : c.loop-item.item-index < length c.args.items.now.items = search rules in
    let is : c.item-item.result ≡ get_or c.args.items.now.items c.loop-item.item-index c.item-item.result =
    c.item-item.is ∙ ap (λ (values : List Value). get_or values c.loop-item.item-index c.item-item.result) c.deref-item-items.ensures.value in
    no_table_at (get_member (codes "routes") members) (array_view c.args.items.now) c.loop-item.item-index (view c.item-item.result) at
    (sym (get_item_within c.args.items.now.items c.loop-item.item-index c.item-item.result within) ∙ ap (λ v. Some (view v)) (sym is))
    (seen_none _ c.as_table.result _ c.in_default.is c.as_table.ensures)

pub returns-in_err-route-clause-fault : goal.returns-in_err-route-clause-fault
returns-in_err-route-clause-fault c =
    let within : c.loop-item.item-index < length c.args.items.now.items = search rules in
    let is : c.item-item.result ≡ get_or c.args.items.now.items c.loop-item.item-index c.item-item.result =
    c.item-item.is ∙ ap (λ (values : List Value). get_or values c.loop-item.item-index c.item-item.result) c.deref-item-items.ensures.value in
    let after : c.len.result ≡ c.loop-item.item-index = first_of (search rules, omega arith) in
    let inner = seen_some _ c.as_table.result _ c.in-Some.table c.in-Some.is c.as_table.ensures in
    let here = sym (get_item_within c.args.items.now.items c.loop-item.item-index c.item-item.result within) ∙ ap (λ v. Some (view v)) (sym is) ∙ ap (λ d. Some d) (is_table _ _ inner) in
    let fault = λ (members : Members) (at : get_member (codes "routes") members ≡ Some (array (array_view c.args.items.now))) (told : AreTrunksAt members c.args.trunks.now).
    misfit_of_route members (array_view c.args.items.now) c.args.trunks.now c.loop-item.item-index (table_view c.in-Some.table.now) c.in_err-route.field-0.0 here
    (subst (λ (n : ℕ). HasRouteMisfit c.args.trunks.now n (table_view c.in-Some.table.now) c.in_err-route.field-0.0) after c.in_err-route.ensures.fault) at told in
    search rules

pub loop-item-preserved : goal.loop-item-preserved
loop-item-preserved c =
    let within : c.loop-item.item-index < length c.args.items.now.items = search rules in
    let is : c.item-item.result ≡ get_or c.args.items.now.items c.loop-item.item-index c.item-item.result =
    c.item-item.is ∙ ap (λ (values : List Value). get_or values c.loop-item.item-index c.item-item.result) c.deref-item-items.ensures.value in
    let route = c.in_ok-route.route in
    let so_far = c.loop-item.routes.items in
    let pushed : c.push.new.self.items ≡ so_far ++ route ∷ [] = first_of (search rules, grind (arith, common_steps)) in
    let inner = seen_some _ c.as_table.result _ c.in-Some.table c.in-Some.is c.as_table.ensures in record {
      told = subst (λ (all : List RouteConfig). AreRoutes c.args.trunks.now (items_view (take (c.loop-item.item-index + 1) c.args.items.now.items)) all) (sym pushed)
          (told_more (IsRouteOf c.args.trunks.now) c.args.items.now.items c.loop-item.item-index c.item-item.result so_far route within is c.loop-item.invariant.told (table_view c.in-Some.table.now, is_table _ _ inner, c.in_ok-route.ensures.told));
      as_many = omega (arith, length-append so_far (route ∷ []), ap (λ (all : List RouteConfig). length all) pushed, c.loop-item.invariant.as_many);
    }
