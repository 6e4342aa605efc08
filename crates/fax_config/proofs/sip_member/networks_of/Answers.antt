use Rattle.std.proofs.Common.{rules, arith, ◌≡◌, ◌+◌, ◌<◌, ℕ, List, [], ◌∷◌, ◌++◌, length, get_or, take, Some, codes, sym, ◌∙◌, ap, subst}
use Rattle.std.proofs.lemmas.Grind.{common_steps}
use Rattle.std.proofs.lemmas.List.{length-append}
use Rattle.toml.specs.Data.{Members, array, get_member}
use Rattle.toml.specs.View.{array_view, items_view, table_view, view}
use Rattle.toml.specs.declared.value.Value.{Value}
use Rattle.toml.proofs.Views.{get_item_within}
use Rattle.fax_trunks.specs.declared.network.Network.{Network}
use Rattle.fax_config.specs.Faults.{IsNoNetwork}
use Rattle.fax_config.specs.SipMembers.{AreNetworks, IsNetworkOf}
use Rattle.fax_config.proofs.LineLemmas.{told_more}
use Rattle.fax_config.proofs.SipLemmas.{item_with}
use Rattle.fax_config.proofs.sip_member.networks_of.Goals as goal

pub returns-in_default-clause-none : goal.returns-in_default-clause-none
returns-in_default-clause-none c =
    let within : c.loop-item.item-index < length c.args.items.now.items = search rules in
    let is : c.item-item.result ≡ get_or c.args.items.now.items c.loop-item.item-index c.item-item.result =
    c.item-item.is ∙ ap (λ (values : List Value). get_or values c.loop-item.item-index c.item-item.result) c.deref-item-items.ensures.value in
    let here = sym (get_item_within c.args.items.now.items c.loop-item.item-index c.item-item.result within) ∙ ap (λ v. Some (view v)) (sym is) in
    let no = rw c.in_default.is at c.network_of.ensures.none in
    (c.loop-item.item-index, item_with IsNoNetwork (array_view c.args.items.now) c.loop-item.item-index (view c.item-item.result) here no)

pub loop-item-preserved : goal.loop-item-preserved
loop-item-preserved c =
    let within : c.loop-item.item-index < length c.args.items.now.items = search rules in
    let is : c.item-item.result ≡ get_or c.args.items.now.items c.loop-item.item-index c.item-item.result =
    c.item-item.is ∙ ap (λ (values : List Value). get_or values c.loop-item.item-index c.item-item.result) c.deref-item-items.ensures.value in
    let network = c.in-Some.network in
    let so_far = c.loop-item.networks.items in
    let pushed : c.push.new.self.items ≡ so_far ++ network ∷ [] = first_of (search rules, grind (arith, common_steps)) in
    let tells = rw c.in-Some.is at c.network_of.ensures.some in
    subst (λ (all : List Network). AreNetworks (items_view (take (c.loop-item.item-index + 1) c.args.items.now.items)) all) (sym pushed)
    (told_more IsNetworkOf c.args.items.now.items c.loop-item.item-index c.item-item.result so_far network within is c.loop-item.invariant tells)
