use Rattle.std.proofs.Common.{rules, arith, ◌≡◌, ◌+◌, ◌<◌, ℕ, List, [], ◌∷◌, ◌++◌, length, get_or, take, Some, codes, sym, ◌∙◌, ap, subst}
use Rattle.std.proofs.lemmas.Grind.{common_steps}
use Rattle.std.proofs.lemmas.List.{length-append}
use Rattle.toml.specs.Data.{Members, array, get_member}
use Rattle.toml.specs.View.{array_view, items_view, table_view, view}
use Rattle.toml.specs.declared.value.Value.{Value}
use Rattle.toml.proofs.Views.{get_item_within}
use Rattle.fax_config.specs.declared.config.RedialConfig.{RedialConfig}
use Rattle.fax_config.specs.Members.{AreTold}
use Rattle.fax_config.specs.Configurations.{IsRedialOf}
use Rattle.fax_config.specs.Faults.{HasRedialMisfit}
use Rattle.fax_config.proofs.LineLemmas.{misfit_of_redial, no_table_at, told_more}
use Rattle.fax_config.proofs.MemberLemmas.{seen_none, seen_some, is_table}
use Rattle.fax_config.proofs.redial.redials_of_items.Goals as goal

pub returns-in_default-clause-fault : goal.returns-in_default-clause-fault
returns-in_default-clause-fault c = λ members at.
    let within : c.loop-item.item-index < length c.args.items.now.items = search rules in
    let is : c.item-item.result ≡ get_or c.args.items.now.items c.loop-item.item-index c.item-item.result =
    c.item-item.is ∙ ap (λ (values : List Value). get_or values c.loop-item.item-index c.item-item.result) c.deref-item-items.ensures.value in
    no_table_at (get_member (codes "redial") members) (array_view c.args.items.now) c.loop-item.item-index (view c.item-item.result) at
    (sym (get_item_within c.args.items.now.items c.loop-item.item-index c.item-item.result within) ∙ ap (λ v. Some (view v)) (sym is))
    (seen_none _ c.as_table.result _ c.in_default.is c.as_table.ensures)

pub returns-in_err-redial-clause-fault : goal.returns-in_err-redial-clause-fault
returns-in_err-redial-clause-fault c =
    let within : c.loop-item.item-index < length c.args.items.now.items = search rules in
    let is : c.item-item.result ≡ get_or c.args.items.now.items c.loop-item.item-index c.item-item.result =
    c.item-item.is ∙ ap (λ (values : List Value). get_or values c.loop-item.item-index c.item-item.result) c.deref-item-items.ensures.value in
    let after : c.len.result ≡ c.loop-item.item-index = first_of (search rules, omega arith) in
    let inner = seen_some _ c.as_table.result _ c.in-Some.table c.in-Some.is c.as_table.ensures in
    let here = sym (get_item_within c.args.items.now.items c.loop-item.item-index c.item-item.result within) ∙ ap (λ v. Some (view v)) (sym is) ∙ ap (λ d. Some d) (is_table _ _ inner) in
    let fault = λ (members : Members) (at : get_member (codes "redial") members ≡ Some (array (array_view c.args.items.now))).
    misfit_of_redial members (array_view c.args.items.now) c.loop-item.item-index (table_view c.in-Some.table.now) c.in_err-redial.field-0.0 here
    (subst (λ (n : ℕ). HasRedialMisfit n (table_view c.in-Some.table.now) c.in_err-redial.field-0.0) after c.in_err-redial.ensures.fault) at in
    search rules

pub loop-item-preserved : goal.loop-item-preserved
loop-item-preserved c =
    let within : c.loop-item.item-index < length c.args.items.now.items = search rules in
    let is : c.item-item.result ≡ get_or c.args.items.now.items c.loop-item.item-index c.item-item.result =
    c.item-item.is ∙ ap (λ (values : List Value). get_or values c.loop-item.item-index c.item-item.result) c.deref-item-items.ensures.value in
    let redial = c.in_ok-redial.redial in
    let so_far = c.loop-item.redials.items in
    let pushed : c.push.new.self.items ≡ so_far ++ redial ∷ [] = first_of (search rules, grind (arith, common_steps)) in
    let inner = seen_some _ c.as_table.result _ c.in-Some.table c.in-Some.is c.as_table.ensures in record {
      told = subst (λ (redials : List RedialConfig). AreTold IsRedialOf (items_view (take (c.loop-item.item-index + 1) c.args.items.now.items)) redials) (sym pushed)
          (told_more IsRedialOf c.args.items.now.items c.loop-item.item-index c.item-item.result so_far redial within is c.loop-item.invariant.told (table_view c.in-Some.table.now, is_table _ _ inner, c.in_ok-redial.ensures.told));
      as_many = omega (arith, length-append so_far (redial ∷ []), ap (λ (redials : List RedialConfig). length redials) pushed, c.loop-item.invariant.as_many);
    }
