use Rattle.std.proofs.Common.{inl, inr}
use Rattle.fax_control.proofs.options.is_option.Goals as goal

pub returns-in-Some-clause-yes : goal.returns-in-Some-clause-yes
returns-in-Some-clause-yes c = λ _. inl (c.in-Some.field-0.now, c.in-Some.ensures.some)

pub returns-in-Some-value_of-clause-yes : goal.returns-in-Some-value_of-clause-yes
returns-in-Some-value_of-clause-yes c = λ _. inr (c.in-Some-value_of.field-0.now, c.in-Some-value_of.ensures.some)
