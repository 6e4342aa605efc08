use Rattle.std.proofs.Common.{◌∙◌, sym}
use Rattle.fax_sip.proofs.FieldLemmas.{values_end}
use Rattle.fax_sip.proofs.field.next_value.Goals as goal

pub returns-clause-none : goal.returns-clause-none
returns-clause-none c = sym c.loop-line.invariant.same ∙ values_end c.args.name c.loop-line.rest.now c.in_default.ensures.none
