use Rattle.std.proofs.Common.{◌≡◌, List, Option, None, drop, sym, subst, rules}
use Rattle.fax_jobs.specs.Jobs.{JobValue}
use Rattle.fax_jobs.specs.Books.{first_of}
use Rattle.fax_jobs.specs.Octets.{IsCounted}
use Rattle.fax_jobs.proofs.OctetsLemmas.{counted_taken}
use Rattle.fax_jobs.proofs.jobs.Jobs.next.Goals as goal

pub invariant_of-self : goal.invariant_of-self
invariant_of-self g c =
    let none : c.self.inside.sending ≡ None = search rules in
    let front : c.pop_front.result ≡ first_of c.self.inside.waiting.items = search rules in
    let rest : c.pop_front.new.self.items ≡ drop 1 c.self.inside.waiting.items = search rules in
    let old = subst (λ (s : Option JobValue). IsCounted c.self.inside.open_job c.self.inside.waiting.items s c.self.inside.held) none c.self.invariant.5 in
    let new = counted_taken c.self.inside.open_job c.self.inside.waiting.items c.self.inside.held old in (
      search rules,
      search rules,
      search rules,
      search rules,
      search rules,
      subst (λ (s : Option JobValue). IsCounted c.self.inside.open_job c.pop_front.new.self.items s c.self.inside.held) (sym front)
          (subst (λ (w : List JobValue). IsCounted c.self.inside.open_job w (first_of c.self.inside.waiting.items) c.self.inside.held) (sym rest) new),
    )
