use Rattle.std.proofs.Common.{◌≡◌, Some}
use Rattle.fax_sdp.specs.Texts.{cut_at}
use Rattle.fax_sdp.proofs.TextLemmas.{lines_of_cut, lines_of_whole, long_text}
use Rattle.fax_sdp.proofs.lines.first_line.Goals as goal

pub returns-in-Some-clause-lines : goal.returns-in-Some-clause-lines
returns-in-Some-clause-lines c =
    let cut : cut_at 10 c.args.text.now ≡ Some (c.in-Some.line.now, c.in-Some.rest.now) = c.in-Some.ensures.parts in
    lines_of_cut c.args.text.now c.in-Some.line.now c.in-Some.rest.now c.bare.result.now cut c.bare.ensures

pub returns-in-None-clause-lines : goal.returns-in-None-clause-lines
returns-in-None-clause-lines c =
    lines_of_whole c.args.text.now c.bare-in-None.result.now (long_text c.args.text.now c.is_empty.result c.is_empty.ensures c.if-is_empty.false) c.in-None.ensures.parts c.bare-in-None.ensures
