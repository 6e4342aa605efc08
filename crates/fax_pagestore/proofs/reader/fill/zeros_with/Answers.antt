use Rattle.std.proofs.Common.{arith}
use Rattle.fax_pagestore.proofs.FillLemmas.{zeros-some, zeros-more, zeros-most}
use Rattle.fax_pagestore.proofs.reader.fill.zeros_with.Goals as goal

pub returns-then-octet-ne0 : goal.returns-then-octet-ne0
returns-then-octet-ne0 c = zeros-some c.args.zeros c.args.octet (λ e. omega (arith, e, c.if-octet-ne0.true))

pub returns-then-zeros-lt-MOST_ZEROS : goal.returns-then-zeros-lt-MOST_ZEROS
returns-then-zeros-lt-MOST_ZEROS c = zeros-more c.args.zeros c.args.octet (omega (arith, c.if-octet-ne0.false)) (omega (arith, c.if-zeros-lt-MOST_ZEROS.true))

pub returns-else-zeros-lt-MOST_ZEROS : goal.returns-else-zeros-lt-MOST_ZEROS
returns-else-zeros-lt-MOST_ZEROS c = zeros-most c.args.zeros c.args.octet (omega (arith, c.if-octet-ne0.false)) (omega (arith, c.if-zeros-lt-MOST_ZEROS.false))
