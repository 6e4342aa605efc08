use Rattle.std.proofs.Common.{length, sym, ◌∙◌, ap}
use Rattle.std.proofs.lemmas.Bool.{eqb-true}
use Rattle.std.specs.Char.{is_ascii_digit}
use Rattle.fax_pbm.proofs.HeadLemmas.{no_first}
use Rattle.fax_pbm.proofs.head.begins_with_digit.Goals as goal

pub returns-then-is_empty : goal.returns-then-is_empty
returns-then-is_empty c = sym (ap is_ascii_digit (no_first c.args.text.now (eqb-true (length c.args.text.now) 0 (sym c.is_empty.ensures ∙ c.if-is_empty.true))))
