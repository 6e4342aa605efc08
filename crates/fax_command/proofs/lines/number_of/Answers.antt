use Rattle.std.proofs.Common.{◌≡◌, Ok, arith, sym, ◌∙◌, ap, subst}
use Rattle.std.proofs.lemmas.Fmt.{IsAscii-decimal, parse-decimal}
use Rattle.std.proofs.lemmas.Str.{IsUtf8-from_ascii}
use Rattle.std.specs.Cmp.Lexicographic.{other_text}
use Rattle.std.specs.Fmt.{decimal}
use Rattle.std.specs.Str.{IsUtf8}
use Rattle.fax_command.proofs.lines.number_of.Goals as goal

pub returns-in_default-clause-none : goal.returns-in_default-clause-none
returns-in_default-clause-none c = λ number small is.
    let text : IsUtf8 c.args.text.now = subst IsUtf8 (sym is) (IsUtf8-from_ascii _ (IsAscii-decimal number (omega arith))) in
    c.in_default.ensures.cases.0 text

pub returns-in_default-parse-clause-none : goal.returns-in_default-parse-clause-none
returns-in_default-parse-clause-none c = λ number small is.
    let found : c.parse.result ≡ Ok number =
    parse-decimal 16 number c.in-Ok.digits.now c.parse.result small (omega arith) (c.in-Ok.ensures.cases.0 ∙ is) c.parse.ensures.value.0 in
    cc

pub returns-else-eq-clause-none : goal.returns-else-eq-clause-none
returns-else-eq-clause-none c = λ number small is.
    let found : c.parse.result ≡ Ok number =
    parse-decimal 16 number c.in-Ok.digits.now c.parse.result small (omega arith) (c.in-Ok.ensures.cases.0 ∙ is) c.parse.ensures.value.0 in
    let same : c.in-Ok-parse.number ≡ number = cc in
    other_text c.as_bytes.result.now c.args.text.now c.if-eq.ensures
    (c.as_bytes.ensures.value ∙ c.format.ensures.text ∙ ap decimal same ∙ sym is)
