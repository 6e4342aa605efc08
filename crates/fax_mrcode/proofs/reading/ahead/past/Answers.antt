use Rattle.std.proofs.Common.{◌*◌, ◌%◌, ◌^◌, arith}
use Rattle.fax_mrcode.proofs.VerticalLemmas.{ShowsAfter-next, moved_up}
use Rattle.fax_mrcode.proofs.reading.ahead.past.Goals as goal

pub returns-clause-after : goal.returns-clause-after
returns-clause-after c = ShowsAfter-next c.args.ahead.window c.args.ahead.left c.args.n (c.args.ahead.window * 2 ^ c.args.n % 2 ^ 64) c.requires.within (moved_up c.args.ahead.window c.args.n (omega (arith, c.requires.known, c.requires.within)))
