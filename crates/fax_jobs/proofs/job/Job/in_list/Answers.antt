use Rattle.std.proofs.Common.{◌≡◌, ◌∷◌, [], List, sym, ◌∙◌, ap, arith, rules}
use Rattle.std.proofs.lemmas.Grind.{common_steps}
use Rattle.fax_pagestore.specs.Pages.{PageValue}
use Rattle.fax_jobs.specs.Octets.{octets_of_pages}
use Rattle.fax_jobs.proofs.OctetsLemmas.{octets_of_pages-one}
use Rattle.fax_jobs.proofs.job.Job.in_list.Goals as goal

pub invariant_of-result : goal.invariant_of-result
invariant_of-result g c =
    let pages_are : c.from_vec.result ≡ c.args.page ∷ [] = grind (arith, common_steps) in (
      search rules,
      c.held-held.ensures.octets ∙ sym (octets_of_pages-one c.args.page) ∙ ap (λ (pages : List PageValue). octets_of_pages pages) (sym pages_are),
    )
