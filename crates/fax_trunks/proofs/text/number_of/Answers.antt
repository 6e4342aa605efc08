use Rattle.std.proofs.Common.{◌∙◌, sym, ap}
use Rattle.std.specs.Result.{result_ok}
use Rattle.fax_trunks.proofs.TextLemmas.{number_none, number_parsed}
use Rattle.fax_trunks.proofs.text.number_of.Goals as goal

pub returns-then-not-has_digits_alone : goal.returns-then-not-has_digits_alone
returns-then-not-has_digits_alone c = sym (number_none c.args.text.now (sym c.has_digits_alone.ensures ∙ c.if-not-has_digits_alone.true))

pub returns-in-Ok : goal.returns-in-Ok
returns-in-Ok c = sym (number_parsed c.args.text.now c.parse.result (sym c.has_digits_alone.ensures ∙ c.if-not-has_digits_alone.false) c.parse.ensures.value.0 ∙ ap result_ok c.in-Ok.is)

pub returns-in-Err : goal.returns-in-Err
returns-in-Err c = sym (number_parsed c.args.text.now c.parse.result (sym c.has_digits_alone.ensures ∙ c.if-not-has_digits_alone.false) c.parse.ensures.value.0 ∙ ap result_ok c.in-Err.is)
