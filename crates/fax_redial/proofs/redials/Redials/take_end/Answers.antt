use Rattle.std.proofs.Common.{◌≡◌, Some, position, sym, ap, ◌∙◌}
use Rattle.fax_redial.specs.Befalls.{Tries, is_over_if}
use Rattle.fax_redial.specs.Telling.{RedialsValue}
use Rattle.fax_redial.proofs.Redialling.{ends_first, over_is_there}
use Rattle.fax_redial.proofs.redials.Redials.take_end.Goals as goal

pub returns-in_err-held-clause-none : goal.returns-in_err-held-clause-none
returns-in_err-held-clause-none g c =
    let tries : Tries = c.self.inside.tries.items in
    let found : position is_over_if tries ≡ Some c.in_ok-i.i = ap (λ (t : Tries). position is_over_if t) (sym c.as_slice.ensures.value) ∙ sym c.first_over.ensures ∙ c.in_ok-i.was in
    absurd (over_is_there tries c.in_ok-i.i c.index_mut.result.now found c.index_mut.ensures.value (sym c.take.ensures.value ∙ c.in_err-held.was))

pub returns-clause-ended : goal.returns-clause-ended
returns-clause-ended g c =
    let tries : Tries = c.self.inside.tries.items in
    let found : position is_over_if tries ≡ Some c.in_ok-i.i = ap (λ (t : Tries). position is_over_if t) (sym c.as_slice.ensures.value) ∙ sym c.first_over.ensures ∙ c.in_ok-i.was in
    ends_first tries c.args.self.now.tries c.in_ok-i.i c.index_mut.result.now c.take.new.self c.in_ok-held.held c.into_end.result (ap (λ (r : RedialsValue). r.tries) c.self.view_is) found c.index_mut.ensures.value
    (sym c.take.ensures.value ∙ c.in_ok-held.was) c.take.ensures.after c.into_end.ensures
