use Rattle.fax_sip.proofs.TextLemmas.{first_part_cut, first_part_whole}
use Rattle.fax_sip.proofs.parts.first_part.Goals as goal

pub returns-in-Some-clause-parts : goal.returns-in-Some-clause-parts
returns-in-Some-clause-parts c = first_part_cut c.args.separator c.args.text.now c.in-Some.part.now c.in-Some.rest.now c.in-Some.ensures.parts

pub returns-in-None-clause-parts : goal.returns-in-None-clause-parts
returns-in-None-clause-parts c = first_part_whole c.args.separator c.args.text.now c.in-None.ensures.parts
