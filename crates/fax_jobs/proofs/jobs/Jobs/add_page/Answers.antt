use Rattle.std.proofs.Common.{◌≡◌, ℕ, ◌+◌, Option, Some, sym, subst, arith, rules}
use Rattle.fax_pagestore.specs.Octets.{octets_of_page}
use Rattle.fax_jobs.specs.Jobs.{JobValue}
use Rattle.fax_jobs.specs.Books.{longer}
use Rattle.fax_jobs.specs.Octets.{IsCounted, IsFew}
use Rattle.fax_jobs.proofs.OctetsLemmas.{counted_added, counted_few}
use Rattle.fax_jobs.proofs.jobs.Jobs.add_page.Goals as goal

pub overflow_add-held : goal.overflow_add-held
overflow_add-held g c =
    let few = counted_few _ _ _ _ c.self.invariant.5 in
    omega (arith, c.len.ensures, c.from.ensures, c.held.ensures.few)

pub invariant_of-self-then-self-eq0 : goal.invariant_of-self-then-self-eq0
invariant_of-self-then-self-eq0 g c =
    let inside = c.self.inside in
    let job : JobValue = c.in-Some.job in
    let was : inside.open_job ≡ Some job = search rules in
    let longer_is : c.add_page.new.self ≡ longer job c.args.page = c.in_ok-add_page-in-Some.ensures.added in
    let few : IsFew (longer job c.args.page) = subst (λ (j : JobValue). IsFew j) longer_is (omega (arith, c.held-then-self-eq0.ensures.octets, c.held-then-self-eq0.ensures.few)) in
    let old = subst (λ (o : Option JobValue). IsCounted o inside.waiting.items inside.sending inside.held) was c.self.invariant.5 in
    let new = counted_added job inside.waiting.items inside.sending inside.held c.args.page old few in
    let sum : inside.held + c.from.result ≡ inside.held + octets_of_page c.args.page = omega (arith, c.from.ensures, c.held.ensures.octets) in (
      search rules,
      search rules,
      search rules,
      search rules,
      search rules,
      subst (λ (j : JobValue). IsCounted (Some j) inside.waiting.items inside.sending (inside.held + c.from.result)) (sym longer_is)
          (subst (λ (n : ℕ). IsCounted (Some (longer job c.args.page)) inside.waiting.items inside.sending n) (sym sum) new),
    )

pub invariant_of-self-in-Some : goal.invariant_of-self-in-Some
invariant_of-self-in-Some g c =
    let inside = c.self.inside in
    let job : JobValue = c.in-Some.job in
    let was : inside.open_job ≡ Some job = search rules in
    let longer_is : c.add_within.new.self ≡ longer job c.args.page = c.add_within.ensures.added in
    let few : IsFew (longer job c.args.page) = subst (λ (j : JobValue). IsFew j) longer_is (omega (arith, c.held-in-Some.ensures.octets, c.held-in-Some.ensures.few)) in
    let old = subst (λ (o : Option JobValue). IsCounted o inside.waiting.items inside.sending inside.held) was c.self.invariant.5 in
    let new = counted_added job inside.waiting.items inside.sending inside.held c.args.page old few in
    let sum : inside.held + c.from.result ≡ inside.held + octets_of_page c.args.page = omega (arith, c.from.ensures, c.held.ensures.octets) in (
      search rules,
      search rules,
      search rules,
      search rules,
      search rules,
      subst (λ (j : JobValue). IsCounted (Some j) inside.waiting.items inside.sending (inside.held + c.from.result)) (sym longer_is)
          (subst (λ (n : ℕ). IsCounted (Some (longer job c.args.page)) inside.waiting.items inside.sending n) (sym sum) new),
    )
