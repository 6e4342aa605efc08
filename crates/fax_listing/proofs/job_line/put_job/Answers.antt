use Rattle.std.proofs.Common.{◌∙◌, ap}
use Rattle.fax_spool.specs.RecordOctets.{PageValue}
use Rattle.fax_listing.proofs.TextLemmas.{job_written}
use Rattle.fax_listing.specs.Jobs.{JobValue, state_name}
use Rattle.fax_listing.specs.Lines.{tag_shown}
use Rattle.fax_listing.proofs.job_line.put_job.Goals as goal

pub returns : goal.returns
returns c =
    let job = c.job.view_is in
    let page = c.page.view_is in
    job_written c.put_format.result c.args.job.now _ _ _ _ _ _ _ _ _ _ _ _ _ _ _ _ _
    c.in_ok-put_text.ensures c.in_ok-put_text-2.ensures c.in_ok-put_number.ensures c.in_ok-put_number-2.ensures c.in_ok-put_tag.ensures c.in_ok-put_number-3.ensures c.in_ok-put_number-4.ensures c.put_format.ensures
    (c.name.ensures ∙ ap (λ (j : JobValue). state_name j.state) job)
    (c.from.ensures ∙ ap (λ (p : PageValue). p.life) page ∙ ap (λ (j : JobValue). j.first.life) job)
    (c.from-2.ensures ∙ ap (λ (p : PageValue). p.call) page ∙ ap (λ (j : JobValue). j.first.call) job)
    (c.tag_shown.ensures ∙ ap tag_shown (c.as_slice.ensures.value ∙ ap (λ (p : PageValue). p.tag) page ∙ ap (λ (j : JobValue). j.first.tag) job))
    (c.from-3.ensures ∙ ap (λ (p : PageValue). p.number) page ∙ ap (λ (j : JobValue). j.first.number) job)
    (ap (λ (j : JobValue). j.pages) job)
    (ap (λ (p : PageValue). p.format) page ∙ ap (λ (j : JobValue). j.first.format) job)
