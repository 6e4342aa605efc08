use Rattle.std.proofs.Common.{length, arith}
use Rattle.fax_runcodes.proofs.PaintedLemmas.{rising_count}
use Rattle.fax_c.proofs.RunsLemmas.{runs_of_changes}
use Rattle.fax_c.proofs.reading.count_runs.Goals as goal

pub returns-clause-runs : goal.returns-clause-runs
returns-clause-runs c = runs_of_changes c.changes.result.now c.args.row.now c.changes.ensures.rising c.changes.ensures.painted

pub returns-clause-few : goal.returns-clause-few
returns-clause-few c = omega (arith, rising_count 0 c.changes.result.now (length c.args.row.now) c.changes.ensures.rising)
