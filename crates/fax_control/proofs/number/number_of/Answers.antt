use Rattle.std.proofs.Common.{◌≡◌, Ok, arith, sym, ◌∙◌, ap, decimal}
use Rattle.std.proofs.lemmas.Fmt.{parse-decimal}
use Rattle.std.specs.Cmp.Lexicographic.{other_text}
use Rattle.fax_control.proofs.number.number_of.Goals as goal

pub returns-in_default-clause-only : goal.returns-in_default-clause-only
returns-in_default-clause-only c = λ number small is.
    let found : c.parse.result ≡ Ok number = parse-decimal 32 number c.args.text.now c.parse.result small (omega arith) is c.parse.ensures.value.0 in
    cc

pub returns-then-eq-clause-only : goal.returns-then-eq-clause-only
returns-then-eq-clause-only c = λ number small is.
    let found : c.parse.result ≡ Ok number = parse-decimal 32 number c.args.text.now c.parse.result small (omega arith) is c.parse.ensures.value.0 in
    cc

pub returns-else-eq-clause-only : goal.returns-else-eq-clause-only
returns-else-eq-clause-only c = λ number small is.
    let found : c.parse.result ≡ Ok number = parse-decimal 32 number c.args.text.now c.parse.result small (omega arith) is c.parse.ensures.value.0 in
    let same : c.in-Ok.number ≡ number = cc in
    absurd (other_text c.format.result.now c.args.text.now c.if-eq.ensures (c.format.ensures.text ∙ ap decimal same ∙ sym is))
