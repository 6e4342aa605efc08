use Rattle.std.proofs.Common.{◌∙◌, sym}
use Rattle.fax_sip.proofs.FieldLemmas.{fields_end}
use Rattle.fax_sip.proofs.field.are_fields.Goals as goal

pub returns : goal.returns
returns c = sym (fields_end c.loop-line.rest.now c.in_default.ensures.none) ∙ c.loop-line.invariant
