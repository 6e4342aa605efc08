use Rattle.std.proofs.Common.{◌∙◌, sym}
use Rattle.fax_sip.proofs.TextLemmas.{digits_are_text, number_none}
use Rattle.fax_requests.proofs.seconds.number_of.Goals as goal

pub returns-then-not-has_digits_alone : goal.returns-then-not-has_digits_alone
returns-then-not-has_digits_alone c = sym (number_none c.args.text.now (sym c.has_digits_alone.ensures ∙ c.if-not-has_digits_alone.true))

pub returns-in-Err : goal.returns-in-Err
returns-in-Err c = absurd (c.in-Err.ensures.cases.0 (digits_are_text c.args.text.now (sym c.has_digits_alone.ensures ∙ c.if-not-has_digits_alone.false)))
