use Rattle.std.proofs.Common.{◌∙◌, sym}
use Rattle.fax_sdp.proofs.ReadLemmas.{described_lines, described_nil, described_other}
use Rattle.fax_sdp.proofs.reading.session_in.Goals as goal

pub returns-then-eq : goal.returns-then-eq
returns-then-eq c =
    c.media_in.ensures ∙ sym (described_lines c.args.text.now c.in-Some.line.now c.in-Some.rest.now c.in-Some.ensures.lines (sym c.if-eq.ensures))

pub returns-else-eq : goal.returns-else-eq
returns-else-eq c = sym (described_other c.args.text.now c.in-Some.line.now c.in-Some.rest.now c.in-Some.ensures.lines (sym c.if-eq.ensures))

pub returns-in-None : goal.returns-in-None
returns-in-None c = sym (described_nil c.args.text.now c.in-None.ensures.none)
