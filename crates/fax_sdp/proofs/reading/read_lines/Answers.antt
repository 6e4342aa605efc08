use Rattle.std.proofs.Common.{rules, ◌∙◌}
use Rattle.fax_sdp.specs.Readers.{reading_of}
use Rattle.fax_sdp.proofs.ReadLemmas.{read_end, read_fault, read_more}
use Rattle.fax_sdp.proofs.reading.read_lines.Goals as goal

pub loop-line-preserved : goal.loop-line-preserved
loop-line-preserved c = (
  search rules,
  read_more (reading_of c.loop-line.reader) (reading_of c.in-Ok.next) c.loop-line.rest.now c.in-Some.line.now c.in-Some.after.now c.in-Some.ensures.lines c.in-Ok.ensures
      ∙ c.loop-line.invariant.1,
)

pub returns-in-Err : goal.returns-in-Err
returns-in-Err c =
    read_fault (reading_of c.loop-line.reader) c.in-Err.fault c.loop-line.rest.now c.in-Some.line.now c.in-Some.after.now c.in-Some.ensures.lines c.in-Err.ensures
    ∙ c.loop-line.invariant.1

pub returns : goal.returns
returns c = read_end (reading_of c.loop-line.reader) c.loop-line.rest.now c.in_default.ensures.none ∙ c.loop-line.invariant.1
