use Rattle.std.proofs.Common.{sym}
use Rattle.fax_undelivered.proofs.Listing.{at_read, none_more}
use Rattle.fax_undelivered.proofs.call.first_of.Goals as goal

pub loop-i-preserved : goal.loop-i-preserved
loop-i-preserved c =
    none_more c.args.page.now c.args.calls.now c.loop-i.i c.index-calls-i.result (at_read c.args.calls.now c.loop-i.i c.index-calls-i.result c.loop-i-test.true c.index-calls-i.is) (sym c.if-has.ensures) c.loop-i.invariant
