use Rattle.std.proofs.Common.{List, None, sym, subst, rules}
use Rattle.fax_jobs.specs.Jobs.{JobValue}
use Rattle.fax_jobs.specs.Octets.{IsCounted}
use Rattle.fax_jobs.proofs.OctetsLemmas.{counted_new}
use Rattle.fax_jobs.proofs.jobs.Jobs.new.Goals as goal

pub invariant_of-result : goal.invariant_of-result
invariant_of-result g c = (search rules, search rules, search rules, search rules, search rules, subst (λ (w : List JobValue). IsCounted None w None 0) (sym c.new.ensures.items) counted_new)
