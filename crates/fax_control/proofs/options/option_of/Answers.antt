use Rattle.std.proofs.Common.{◌≡◌, Some, sym, ◌∙◌, ap, subst, arith}
use Rattle.fax_control.specs.Options.{text_of}
use Rattle.fax_control.specs.Words.{IsWithin}
use Rattle.fax_control.proofs.OptionLemmas.{no_value, a_value}
use Rattle.fax_control.proofs.options.option_of.Goals as goal

pub returns-in_default-value_of-clause-only : goal.returns-in_default-value_of-clause-only
returns-in_default-value_of-clause-only c = λ value rest is within other.
    let said : text_of c.args.words ≡ Some c.in-Some.text.now = ap text_of c.in-Some.is in
    let found = no_value c.args.name.now c.in-Some.text.now c.first_word.result.0.now _ rest value c.args.least c.args.most (omega (arith, c.ranges.most.fits))
    c.first_word.ensures.said c.first_word.ensures.word c.requires within c.in_default-value_of.ensures.none (sym said ∙ is) in
    (sym found.0, said ∙ sym found.1)

pub returns-in_err-value-clause-only : goal.returns-in_err-value-clause-only
returns-in_err-value-clause-only c = λ value rest is within other.
    let said : text_of c.args.words ≡ Some c.in-Some.text.now = ap text_of c.in-Some.is in
    let (n, has, small, digits, after) = a_value c.args.name.now c.in-Some.text.now c.first_word.result.0.now c.in-Some-value_of.digits.now _ rest value c.args.least c.args.most (omega (arith, c.ranges.most.fits))
    c.first_word.ensures.said c.first_word.ensures.word c.requires within c.in-Some-value_of.ensures.some other (sym said ∙ is) in
    let read = c.in_err-value.ensures.only n small digits in
    absurd (cc)

pub returns-then-value-least-clause-only : goal.returns-then-value-least-clause-only
returns-then-value-least-clause-only c = λ value rest is within other.
    let said : text_of c.args.words ≡ Some c.in-Some.text.now = ap text_of c.in-Some.is in
    let (n, has, small, digits, after) = a_value c.args.name.now c.in-Some.text.now c.first_word.result.0.now c.in-Some-value_of.digits.now _ rest value c.args.least c.args.most (omega (arith, c.ranges.most.fits))
    c.first_word.ensures.said c.first_word.ensures.word c.requires within c.in-Some-value_of.ensures.some other (sym said ∙ is) in
    let read : Some c.in_ok-value.value ≡ Some n = c.in_ok-value.ensures.only n small digits in
    let same : c.in_ok-value.value ≡ n = cc in
    let fits = subst (IsWithin c.args.least c.args.most) has within in
    absurd (omega (arith, fits.0, c.if-value-least.true, same))

pub returns-then-most-value-clause-only : goal.returns-then-most-value-clause-only
returns-then-most-value-clause-only c = λ value rest is within other.
    let said : text_of c.args.words ≡ Some c.in-Some.text.now = ap text_of c.in-Some.is in
    let (n, has, small, digits, after) = a_value c.args.name.now c.in-Some.text.now c.first_word.result.0.now c.in-Some-value_of.digits.now _ rest value c.args.least c.args.most (omega (arith, c.ranges.most.fits))
    c.first_word.ensures.said c.first_word.ensures.word c.requires within c.in-Some-value_of.ensures.some other (sym said ∙ is) in
    let read : Some c.in_ok-value.value ≡ Some n = c.in_ok-value.ensures.only n small digits in
    let same : c.in_ok-value.value ≡ n = cc in
    let fits = subst (IsWithin c.args.least c.args.most) has within in
    absurd (omega (arith, fits.1, c.if-most-value.true, same))

pub returns-else-most-value-clause-only : goal.returns-else-most-value-clause-only
returns-else-most-value-clause-only c = λ value rest is within other.
    let said : text_of c.args.words ≡ Some c.in-Some.text.now = ap text_of c.in-Some.is in
    let (n, has, small, digits, after) = a_value c.args.name.now c.in-Some.text.now c.first_word.result.0.now c.in-Some-value_of.digits.now _ rest value c.args.least c.args.most (omega (arith, c.ranges.most.fits))
    c.first_word.ensures.said c.first_word.ensures.word c.requires within c.in-Some-value_of.ensures.some other (sym said ∙ is) in
    let read : Some c.in_ok-value.value ≡ Some n = c.in_ok-value.ensures.only n small digits in
    (read ∙ sym has, after)
