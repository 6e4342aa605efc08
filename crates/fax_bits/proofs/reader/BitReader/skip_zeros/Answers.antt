use Rattle.std.proofs.Common.{◌-◌, false, replicate, take}
use Rattle.fax_bits.specs.Reading.{Passes}
use Rattle.fax_bits.proofs.ZerosLemmas.{Passes-zeros}
use Rattle.fax_bits.proofs.reader.BitReader.skip_zeros.Goals as goal

pub returns-then-zeros-lt56-clause-passes : goal.returns-then-zeros-lt56-clause-passes
returns-then-zeros-lt56-clause-passes c =
    let start = c.loop-self.invariant.start in
    let before : Passes c.args.self.now c.loop-self.self (replicate (c.loop-self.self.passed - c.args.self.now.passed) false) = rw start at c.loop-self.invariant.passes in
    rw (c.place.ensures, start) (Passes-zeros c.args.self.now c.loop-self.self c.skip.new.self (take c.zeros_ahead-zeros.result c.loop-self.self.left) c.zeros_ahead-zeros.result before c.skip.ensures c.zeros_ahead-zeros.ensures.zeros)

pub loop-self-preserved : goal.loop-self-preserved
loop-self-preserved c =
    let start = c.loop-self.invariant.start in
    let before : Passes c.args.self.now c.loop-self.self (replicate (c.loop-self.self.passed - c.args.self.now.passed) false) = rw start at c.loop-self.invariant.passes in
    record {
      start = start;
      passes = rw start (Passes-zeros c.args.self.now c.loop-self.self c.skip.new.self (take c.zeros_ahead-zeros.result c.loop-self.self.left) c.zeros_ahead-zeros.result before c.skip.ensures c.zeros_ahead-zeros.ensures.zeros);
    }
