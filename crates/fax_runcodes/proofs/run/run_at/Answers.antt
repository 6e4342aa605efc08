use Rattle.std.proofs.Common.{arith}
use Rattle.fax_bits.specs.Bits.{word_bits}
use Rattle.fax_bits.proofs.BitsLemmas.{length-word_bits}
use Rattle.fax_runcodes.proofs.RunAtLemmas.{entry_few, entry_found, run_at_long, run_at_short}
use Rattle.fax_runcodes.proofs.WordLaws.{word_size}
use Rattle.fax_runcodes.proofs.run.run_at.Goals as goal

pub returns-then-first-lt64 : goal.returns-then-first-lt64
returns-then-first-lt64 c =
    run_at_short c.args.colour (word_bits 56 c.args.window) c.look_up-first.result c.from-bits.result c.look_up-first.ensures (omega arith) c.from-bits.ensures

pub after-requires-clause-few : goal.after-requires-clause-few
after-requires-clause-few c =
    let found = entry_found c.args.colour (word_bits 56 c.args.window) c.look_up-first.result c.look_up-first.ensures (omega arith) in
    omega (arith, found.bits_is, (word_size c.args.colour found.word found.begins.0).few, c.from-bits.ensures)

pub overflow_add-elements : goal.overflow_add-elements
overflow_add-elements c =
    let last = entry_few c.args.colour (word_bits 56 c.after.result) c.look_up-last.result c.look_up-last.ensures in
    omega (arith, last, c.if-first-gt-LONGEST_RUN.false)

pub returns : goal.returns
returns c =
    run_at_long c.args.colour (word_bits 56 c.args.window) (word_bits 56 c.after.result) c.look_up-first.result c.look_up-last.result c.from-bits.result c.from.result (length-word_bits 56 c.args.window)
    c.look_up-first.ensures (omega arith) c.from-bits.ensures c.after.ensures.bits c.look_up-last.ensures (omega arith) c.from.ensures (omega arith)
