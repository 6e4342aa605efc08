use Rattle.std.proofs.Common.{◌≡◌, ℕ, ◌+◌, ◌<◌, List, Option, Some, sym, subst, arith, rules}
use Rattle.std.proofs.lemmas.Grind.{common_steps}
use Rattle.fax_pagestore.specs.Octets.{octets_of_page}
use Rattle.fax_jobs.specs.Jobs.{JobValue}
use Rattle.fax_jobs.specs.Books.{after, job_of}
use Rattle.fax_jobs.specs.Octets.{IsCounted, most_of_job}
use Rattle.fax_jobs.proofs.OctetsLemmas.{counted_few, counted_opened}
use Rattle.fax_jobs.proofs.jobs.Jobs.open_next.Goals as goal

pub overflow_add-held : goal.overflow_add-held
overflow_add-held g c =
    let few = counted_few _ _ _ _ c.self.invariant.5 in
    omega (arith, c.len.ensures, c.from.ensures, c.held.ensures.few)

pub invariant_of-self-in-Some : goal.invariant_of-self-in-Some
invariant_of-self-in-Some g c =
    let inside = c.self.inside in
    let job : JobValue = job_of c.args.call c.args.page in
    let few : octets_of_page c.args.page < most_of_job = omega (arith, c.held.ensures.octets, c.held.ensures.few) in
    let is = counted_opened inside.open_job inside.waiting.items inside.sending inside.held c.args.call c.args.page c.self.invariant.5 few in
    let opened : c.replace.new.self ≡ Some job = search rules in
    let waits : c.push_back_reserved.new.self.items ≡ after inside.waiting.items inside.open_job = search rules in
    let sum : inside.held + c.from.result ≡ inside.held + octets_of_page c.args.page = omega (arith, c.from.ensures, c.held.ensures.octets) in (
      search rules,
      search rules,
      search rules,
      search rules,
      search rules,
      subst (λ (o : Option JobValue). IsCounted o c.push_back_reserved.new.self.items inside.sending (inside.held + c.from.result)) (sym opened)
          (subst (λ (w : List JobValue). IsCounted (Some job) w inside.sending (inside.held + c.from.result)) (sym waits)
          (subst (λ (n : ℕ). IsCounted (Some job) (after inside.waiting.items inside.open_job) inside.sending n) (sym sum) is)),
    )

pub invariant_of-self-in_default : goal.invariant_of-self-in_default
invariant_of-self-in_default g c =
    let inside = c.self.inside in
    let job : JobValue = job_of c.args.call c.args.page in
    let few : octets_of_page c.args.page < most_of_job = omega (arith, c.held.ensures.octets, c.held.ensures.few) in
    let is = counted_opened inside.open_job inside.waiting.items inside.sending inside.held c.args.call c.args.page c.self.invariant.5 few in
    let opened : c.replace.new.self ≡ Some job = search rules in
    let waits : c.reserve.new.self.items ≡ after inside.waiting.items inside.open_job = grind (arith, common_steps) in
    let sum : inside.held + c.from.result ≡ inside.held + octets_of_page c.args.page = omega (arith, c.from.ensures, c.held.ensures.octets) in (
      search rules,
      search rules,
      search rules,
      search rules,
      search rules,
      subst (λ (o : Option JobValue). IsCounted o c.reserve.new.self.items inside.sending (inside.held + c.from.result)) (sym opened)
          (subst (λ (w : List JobValue). IsCounted (Some job) w inside.sending (inside.held + c.from.result)) (sym waits)
          (subst (λ (n : ℕ). IsCounted (Some job) (after inside.waiting.items inside.open_job) inside.sending n) (sym sum) is)),
    )
