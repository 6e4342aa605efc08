use Rattle.std.proofs.Common.{◌≡◌, ◌+◌, ◌<◌, ◌++◌, ◌∷◌, [], List, length, sym, ◌∙◌, ap, subst, arith, rules}
use Rattle.fax_pagestore.specs.Pages.{PageValue, IsPage}
use Rattle.fax_jobs.specs.Jobs.{JobValue, IsJob, most_pages}
use Rattle.fax_jobs.specs.Octets.{octets_of_pages}
use Rattle.fax_jobs.proofs.FirstFormat.{grown}
use Rattle.fax_jobs.proofs.OctetsLemmas.{octets_of_job-few, octets_of_pages-push}
use Rattle.fax_jobs.proofs.job.Job.add_page.Goals as goal

pub overflow_add-held : goal.overflow_add-held
overflow_add-held g c =
    let job : JobValue = record { call = c.self.inside.call; format = c.self.inside.format; pages = c.self.inside.pages } in
    let few : octets_of_pages c.self.inside.pages < 549755813888 = octets_of_job-few job c.self.invariant.0 in
    omega (arith, c.self.invariant.1, c.held.ensures.few)

pub invariant_of-self : goal.invariant_of-self
invariant_of-self g c =
    let same : c.push.new.self ≡ c.self.inside.pages = c.in_err-push.ensures.err in (
      subst (λ (pages : List PageValue). IsJob (record { call = c.self.inside.call; format = c.self.inside.format; pages = pages })) (sym same) c.self.invariant.0,
      c.self.invariant.1 ∙ ap (λ (pages : List PageValue). octets_of_pages pages) (sym same),
    )

pub invariant_of-self-2 : goal.invariant_of-self-2
invariant_of-self-2 g c =
    let few : length c.self.inside.pages < most_pages = search rules in
    let page : IsPage c.args.page = search rules in
    let longer : c.push.new.self ≡ c.self.inside.pages ++ c.args.page ∷ [] = c.in_ok-push.ensures.pushed in
    let more = octets_of_pages-push c.self.inside.pages c.args.page in
    let sum : c.self.inside.held + c.held.result ≡ octets_of_pages (c.self.inside.pages ++ c.args.page ∷ []) = omega (arith, c.self.invariant.1, c.held.ensures.octets) in (
      subst (λ (pages : List PageValue). IsJob (record { call = c.self.inside.call; format = c.self.inside.format; pages = pages })) (sym longer)
          (grown c.self.inside.call c.self.inside.format c.self.inside.pages c.args.page c.self.invariant.0 few page),
      sum ∙ ap (λ (pages : List PageValue). octets_of_pages pages) (sym longer),
    )
