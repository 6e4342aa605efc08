use Rattle.std.proofs.Common.{rules, arith, ◌≡◌, ◌+◌, ◌<◌, w64, ℕ, List, [], ◌∷◌, ◌++◌, length, get_or, take, Some, codes, sym, ◌∙◌, ap, subst}
use mir.Val.{SFits}
use Rattle.std.proofs.lemmas.Grind.{common_steps}
use Rattle.std.proofs.lemmas.Int.{to_z-of_z}
use Rattle.std.proofs.lemmas.List.{length-append}
use Rattle.toml.specs.Data.{Members, array, get_member, integer}
use Rattle.toml.specs.View.{array_view, items_view, view}
use Rattle.toml.specs.declared.value.Value.{Value}
use Rattle.toml.proofs.Views.{get_item_within}
use Rattle.fax_config.specs.Members.{AreTold}
use Rattle.fax_config.specs.Configurations.{IsWait}
use Rattle.fax_config.proofs.LineLemmas.{no_number_at, no_wait_at, told_more}
use Rattle.fax_config.proofs.MemberLemmas.{is_integer, seen_none}
use Rattle.fax_config.proofs.retry.waits_of_items.Goals as goal

pub returns-in_default-clause-fault : goal.returns-in_default-clause-fault
returns-in_default-clause-fault c = λ members at.
    let within : c.loop-item.item-index < length c.args.items.now.items = search rules in
    let is : c.item-item.result ≡ get_or c.args.items.now.items c.loop-item.item-index c.item-item.result =
    c.item-item.is ∙ ap (λ (values : List Value). get_or values c.loop-item.item-index c.item-item.result) c.deref-item-items.ensures.value in
    no_number_at (get_member (codes "after_seconds") members) (array_view c.args.items.now) c.loop-item.item-index (view c.item-item.result) at
    (sym (get_item_within c.args.items.now.items c.loop-item.item-index c.item-item.result within) ∙ ap (λ v. Some (view v)) (sym is))
    (sym c.as_integer.ensures ∙ c.in_default.is)

pub loop-item-preserved : goal.loop-item-preserved
loop-item-preserved c =
    let within : c.loop-item.item-index < length c.args.items.now.items = search rules in
    let is : c.item-item.result ≡ get_or c.args.items.now.items c.loop-item.item-index c.item-item.result =
    c.item-item.is ∙ ap (λ (values : List Value). get_or values c.loop-item.item-index c.item-item.result) c.deref-item-items.ensures.value in
    let seconds = c.in-Some-in_range.seconds in
    let so_far = c.loop-item.waits.items in
    let pushed : c.push.new.self.items ≡ so_far ++ seconds ∷ [] = first_of (search rules, grind (arith, common_steps)) in
    let n = is_integer _ _ (sym c.as_integer.ensures ∙ c.in-Some.is) in
    let fits : SFits w64 c.in-Some.number = search rules in
    let told = n ∙ ap (λ z. integer z) (sym (to_z-of_z w64 _ fits) ∙ c.in-Some-in_range.ensures.same) in record {
      told = subst (λ (waits : List ℕ). AreTold IsWait (items_view (take (c.loop-item.item-index + 1) c.args.items.now.items)) waits) (sym pushed)
          (told_more IsWait c.args.items.now.items c.loop-item.item-index c.item-item.result so_far seconds within is c.loop-item.invariant.told (told, c.in-Some-in_range.ensures.within.0, c.in-Some-in_range.ensures.within.1));
      as_many = omega (arith, length-append so_far (seconds ∷ []), ap (λ (waits : List ℕ). length waits) pushed, c.loop-item.invariant.as_many);
    }

pub returns-in_default-in_range-clause-fault : goal.returns-in_default-in_range-clause-fault
returns-in_default-in_range-clause-fault c = λ members at.
    let within : c.loop-item.item-index < length c.args.items.now.items = search rules in
    let is : c.item-item.result ≡ get_or c.args.items.now.items c.loop-item.item-index c.item-item.result =
    c.item-item.is ∙ ap (λ (values : List Value). get_or values c.loop-item.item-index c.item-item.result) c.deref-item-items.ensures.value in
    let n = is_integer _ _ (sym c.as_integer.ensures ∙ c.in-Some.is) in
    let fits : SFits w64 c.in-Some.number = search rules in
    let told = n ∙ ap (λ z. integer z) (sym (to_z-of_z w64 _ fits)) in
    let here = sym (get_item_within c.args.items.now.items c.loop-item.item-index c.item-item.result within) ∙ ap (λ v. Some (view v)) (sym is) ∙ ap (λ d. Some d) told in
    no_wait_at members (array_view c.args.items.now) c.loop-item.item-index _ at here c.in_default-in_range.ensures.without
