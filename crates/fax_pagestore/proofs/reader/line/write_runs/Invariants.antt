use Rattle.std.proofs.Common.{◌≡◌, ◌++◌, drop}
use Rattle.fax_runcodes.specs.declared.Colour.TheVariants.{White}
use Rattle.fax_mhcode.specs.Lines.{written_runs}
use Rattle.fax_pagestore.proofs.reader.line.write_runs.Given as goal

abbrev pub invariant-loop-run : goal.invariant-loop-run
invariant-loop-run l = l.writer ++ written_runs l.colour (drop l.run-index l.runs) ≡ l.fn.writer ++ written_runs White l.fn.runs
