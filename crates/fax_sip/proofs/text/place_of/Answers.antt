use Rattle.std.proofs.Common.{◌∙◌, ◌+◌, drop, get_or, sym, ap, refl, arith}
use Rattle.fax_sip.specs.declared.mark.Quoting.{Quoting}
use Rattle.fax_sip.specs.declared.mark.Quoting.TheVariants.{Outside}
use Rattle.std.proofs.lemmas.List.{take_rest}
use Rattle.fax_sip.specs.Texts.{place_of, stands}
use Rattle.fax_sip.proofs.TextLemmas.{onward, place_found, place_further, place_nowhere}
use Rattle.fax_sip.proofs.text.place_of.Goals as goal

pub returns-then-stands-clause-place : goal.returns-then-stands-clause-place
returns-then-stands-clause-place c =
    let text = c.args.text.now in
    place_found c.args.mark c.loop-i.quoting text (place_of c.args.mark Outside text) c.loop-i.i (omega arith) c.loop-i.invariant (sym (ap (stands c.args.mark c.loop-i.quoting) (take_rest text c.loop-i.i)) ∙ sym c.stands.ensures.value ∙ c.if-stands.true)

pub loop-i-preserved : goal.loop-i-preserved
loop-i-preserved c =
    let text = c.args.text.now in
    let i = c.loop-i.i in
    place_further c.args.mark c.loop-i.quoting text (place_of c.args.mark Outside text) i (get_or text i 0) (omega arith) refl c.loop-i.invariant (sym (ap (stands c.args.mark c.loop-i.quoting) (take_rest text i)) ∙ sym c.stands.ensures.value ∙ c.if-stands.false)
    ∙ ap (λ (quoting : Quoting). onward (i + 1) (place_of c.args.mark quoting (drop (i + 1) text))) (sym c.after-quoting.ensures)

pub returns-clause-place : goal.returns-clause-place
returns-clause-place c =
    let text = c.args.text.now in
    place_nowhere c.args.mark c.loop-i.quoting text (place_of c.args.mark Outside text) c.loop-i.i (omega arith) c.loop-i.invariant
