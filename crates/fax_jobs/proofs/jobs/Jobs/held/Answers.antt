use Rattle.std.proofs.Common.{arith}
use Rattle.fax_jobs.proofs.OctetsLemmas.{counted_few}
use Rattle.fax_jobs.proofs.jobs.Jobs.held.Goals as goal

pub returns-clause-few : goal.returns-clause-few
returns-clause-few g c =
    let few = counted_few _ _ _ _ c.self.invariant.5 in
    let waiting = c.len.result in
    omega (arith, c.len.ensures)
