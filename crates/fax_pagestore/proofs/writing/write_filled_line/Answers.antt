use Rattle.std.proofs.Common.{arith}
use Rattle.std.proofs.lemmas.Result.{on_ok_weaker}
use Rattle.fax_pagestore.proofs.WritingLemmas.{filled_line, no_fill}
use Rattle.fax_pagestore.proofs.writing.write_filled_line.Goals as goal

pub returns-clause-ok : goal.returns-clause-ok
returns-clause-ok c =
    let line = c.in_ok-write_line.ensures.ok in
    on_ok_weaker c.zeros.result
    (λ zeros. (
      line.0,
      line.1,
      filled_line c.args.least_bits c.bits-before.result c.bits.result c.fill_bits.result c.args.writer.now line.0
          c.write_line.new.writer c.zeros.new.self c.bits-before.ensures line.2 c.bits.ensures c.fill_bits.ensures zeros,
    ))
    c.zeros.ensures.ok

pub returns-then-least_bits-le-END_OF_LINE_BITS-clause-ok : goal.returns-then-least_bits-le-END_OF_LINE_BITS-clause-ok
returns-then-least_bits-le-END_OF_LINE_BITS-clause-ok c =
    let line = c.in_ok-write_line.ensures.ok in
    (line.0, line.1, no_fill c.args.least_bits c.args.writer.now line.0 c.write_line.new.writer (omega arith) line.2)
