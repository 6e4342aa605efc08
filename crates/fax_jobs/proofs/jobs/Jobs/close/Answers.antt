use Rattle.std.proofs.Common.{◌≡◌, ◌++◌, ◌∷◌, [], List, Option, Some, None, sym, subst, rules}
use Rattle.fax_jobs.specs.Jobs.{JobValue}
use Rattle.fax_jobs.specs.Octets.{IsCounted}
use Rattle.fax_jobs.proofs.OctetsLemmas.{counted_closed}
use Rattle.fax_jobs.proofs.jobs.Jobs.close.Goals as goal

pub invariant_of-self : goal.invariant_of-self
invariant_of-self g c =
    let job : JobValue = c.in-Some.job in
    let was : c.self.inside.open_job ≡ Some job = search rules in
    let none : c.take.new.self ≡ None = search rules in
    let waits : c.push_back_reserved.new.self.items ≡ c.self.inside.waiting.items ++ job ∷ [] = search rules in
    let old = subst (λ (o : Option JobValue). IsCounted o c.self.inside.waiting.items c.self.inside.sending c.self.inside.held) was c.self.invariant.5 in
    let new = counted_closed job c.self.inside.waiting.items c.self.inside.sending c.self.inside.held old in (
      search rules,
      search rules,
      search rules,
      search rules,
      search rules,
      subst (λ (o : Option JobValue). IsCounted o c.push_back_reserved.new.self.items c.self.inside.sending c.self.inside.held) (sym none)
          (subst (λ (w : List JobValue). IsCounted None w c.self.inside.sending c.self.inside.held) (sym waits) new),
    )
