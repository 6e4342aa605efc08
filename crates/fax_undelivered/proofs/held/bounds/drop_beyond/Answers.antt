use Rattle.std.proofs.Common.{◌≡◌, List, Some, slice_get, ◌∙◌, ap, sym, subst, arith}
use Rattle.std.proofs.lemmas.Grind.{common_steps}
use Rattle.std.proofs.lemmas.Option.{gets}
use Rattle.fax_undelivered.specs.Calls.{CallValue}
use Rattle.fax_undelivered.specs.held.Bounds.{dropped_next}
use Rattle.fax_undelivered.proofs.held.Dropping.{dropped_so, named_so}
use Rattle.fax_undelivered.proofs.held.bounds.drop_beyond.Goals as goal

pub returns-clause-dropped : goal.returns-clause-dropped
returns-clause-dropped g c =
    let k = c.in-Some.k in
    let call = c.in-Some-get.call.now in
    let next = sym (c.in-Some.ensures ∙ ap (λ (l : List CallValue). dropped_next c.args.under_way.now l) c.calls.ensures) in
    let there : slice_get c.calls-2.result.now k ≡ Some call = grind (arith, common_steps, gets, c.in-Some-get.ensures.lookup) in
    let found = subst (λ (l : List CallValue). slice_get l k ≡ Some call) c.calls-2.ensures there in
    let name = c.in_ok-dropped.ensures.name in
    let named = named_so c.name.inside.life c.name.inside.call c.as_slice.result.now c.name.inside.line.items _ _ c.as_slice.ensures.value c.name.view_is name in
    (k, call, next, found, name, c.in_ok-dropped.ensures.tag, dropped_so _ _ _ c.args.kept.now c.discard.new.self _ _ c.in_ok-discard.field-0 _ c.if-not-branch.false named c.in_ok-discard.ensures.gone.1)
