use Rattle.std.proofs.Common.{◌<◌, arith}
use Rattle.fax_jobs.specs.Jobs.{JobValue}
use Rattle.fax_jobs.specs.Octets.{octets_of_pages}
use Rattle.fax_jobs.proofs.OctetsLemmas.{octets_of_job-few}
use Rattle.fax_jobs.proofs.job.Job.held.Goals as goal

pub returns-clause-few : goal.returns-clause-few
returns-clause-few g c =
    let job : JobValue = record { call = c.self.inside.call; format = c.self.inside.format; pages = c.self.inside.pages } in
    let few : octets_of_pages c.self.inside.pages < 549755813888 = octets_of_job-few job c.self.invariant.0 in
    omega (arith, c.self.invariant.1)
