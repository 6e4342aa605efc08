use Rattle.std.proofs.Common.{◌≡◌, ◌+◌, ◌<◌, ◌≤◌, length, arith, ap, length-append, ◌++◌}
use Rattle.std.proofs.lemmas.Result.{err_from_is_err_and}
use Rattle.fax_runcodes.proofs.WordLaws.{word_size, is_terminating, is_make_up}
use Rattle.fax_runcodes.proofs.RunLemmas.{RunSoFar-more, SpellsRun-from, FailsRun-from}
use Rattle.fax_runcodes.proofs.run.read_words.Goals as goal

pub returns-in_err-word-clause-fault : goal.returns-in_err-word-clause-fault
returns-in_err-word-clause-fault c =
    let p = err_from_is_err_and c.from_residual.result c.from_residual.ensures.1 in
    rw (p.1, p.2) (FailsRun-from c.args.colour c.args.reader.now c.loop-word.reader c.loop-word.run _ c.loop-word.invariant (c.in_err-word.ensures.fault c.loop-word.run))

pub overflow_add-run : goal.overflow_add-run
overflow_add-run c =
    let word = c.in_ok-word.ensures.ok in
    let size : word.0.run ≤ 2560 = (word_size c.args.colour word.0 word.1).run in
    let within : c.loop-word.run ≤ 2432 = c.loop-word.invariant.within in
    let is : word.0.run ≡ c.in_ok-word.word = word.2 in
    omega arith

pub returns-then-word-lt64-clause-ok : goal.returns-then-word-lt64-clause-ok
returns-then-word-lt64-clause-ok c =
    let word = c.in_ok-word.ensures.ok in
    let is : word.0.run ≡ c.in_ok-word.word = word.2 in
    let ends = is_terminating c.args.colour word.0 word.1 (omega arith) in
    rw (← is) (SpellsRun-from c.args.colour c.args.reader.now c.loop-word.reader c.read_word.new.reader c.loop-word.run word.0 c.loop-word.invariant ends word.3)

pub loop-word-smaller : goal.loop-word-smaller
loop-word-smaller c =
    let word = c.in_ok-word.ensures.ok in
    let size : 1 < length word.0.word = (word_size c.args.colour word.0 word.1).some in
    let shorter : length c.loop-word.reader.left ≡ length (word.0.word ++ c.read_word.new.reader.left) = ap length word.3.bits in
    let parts : length (word.0.word ++ c.read_word.new.reader.left) ≡ length word.0.word + length c.read_word.new.reader.left = length-append word.0.word c.read_word.new.reader.left in
    let less : length c.read_word.new.reader.left < length c.loop-word.reader.left = omega arith in
    less

pub loop-word-preserved : goal.loop-word-preserved
loop-word-preserved c =
    let word = c.in_ok-word.ensures.ok in
    let is : word.0.run ≡ c.in_ok-word.word = word.2 in
    let make_up = is_make_up c.args.colour word.0 word.1 (omega arith) in
    rw (← is) (RunSoFar-more c.args.colour c.args.reader.now c.loop-word.reader c.read_word.new.reader c.loop-word.run word.0 c.loop-word.invariant make_up word.3 (omega arith))
