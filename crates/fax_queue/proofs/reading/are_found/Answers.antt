use Rattle.std.proofs.Common.{map}
use Rattle.fax_spool.specs.Waits.{name_of}
use Rattle.fax_queue.proofs.ReadBack.{all_at_end, all_later}
use Rattle.fax_spool.proofs.Loops.{none_more}
use Rattle.fax_queue.proofs.reading.are_found.Goals as goal

pub loop-page-preserved : goal.loop-page-preserved
loop-page-preserved c = λ later. c.loop-page.invariant (all_later c.args.line.now (map name_of c.args.found.now) _ c.in-Some.after.now c.in-Some.page.now c.in-Some.ensures.cases.0 (c.is_there.ensures c.if-not-is_there.false) later)

pub returns : goal.returns
returns c = λ yes. c.loop-page.invariant (all_at_end c.args.line.now (map name_of c.args.found.now) c.loop-page.rest.now (none_more c.loop-page.rest.now c.in_default.ensures.cases))
