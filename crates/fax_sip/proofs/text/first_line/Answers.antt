use Rattle.fax_sip.proofs.TextLemmas.{first_line_cut, first_line_whole, long_text}
use Rattle.fax_sip.proofs.text.first_line.Goals as goal

pub returns-in-Some-clause-lines : goal.returns-in-Some-clause-lines
returns-in-Some-clause-lines c = first_line_cut c.args.text.now c.in-Some.line.now c.in-Some.rest.now c.in-Some.ensures.parts

pub returns-in-None-clause-lines : goal.returns-in-None-clause-lines
returns-in-None-clause-lines c =
    first_line_whole c.args.text.now (long_text c.args.text.now c.is_empty.result c.is_empty.ensures c.if-is_empty.false) c.in-None.ensures.parts
