use Rattle.std.proofs.Common.{◌≡◌, ◌+◌, ◌∙◌, ◌<◌, ◌≤◌, ℕ, List, [], ◌∷◌, not, drop, length, get_or, refl, sym, ap, arith}
use Rattle.std.specs.List.{filter}
use Rattle.std.proofs.lemmas.List.{drop_all, drop_more}
use Rattle.fax_spool.specs.RecordOctets.{EndedValue}
use Rattle.fax_spool.specs.StoredPages.{known_without}
use Rattle.fax_spool.specs.Waits.{ends}
use Rattle.fax_spool.specs.declared.stored_page.StoredPage.{StoredPage}
use Rattle.fax_spool.proofs.spool.forget_all_ended.Goals as goal

next_forgotten : (ended : List EndedValue) (i : ℕ) (job : EndedValue) (before after : List StoredPage) → i < length ended → get_or ended i job ≡ job → after ≡ filter (λ page. not (ends job page.name)) before
    → known_without (drop (i + 1) ended) after ≡ known_without (drop i ended) before
next_forgotten ended i job before after low got same =
    ap (λ (l : List StoredPage). known_without (drop (i + 1) ended) l) same
    ∙ sym (ap (λ (l : List EndedValue). known_without l before) (drop_more ended i job low ∙ ap (λ (e : EndedValue). e ∷ drop (i + 1) ended) got))

none_to_come : (ended : List EndedValue) (i : ℕ) (pages : List StoredPage) → length ended ≤ i → known_without (drop i ended) pages ≡ pages
none_to_come ended i pages all = ap (λ (l : List EndedValue). known_without l pages) (drop_all i ended all)

pub loop-job-init : goal.loop-job-init
loop-job-init c = refl

pub loop-job-preserved : goal.loop-job-preserved
loop-job-preserved c =
    next_forgotten c.args.ended.now c.loop-job.job-index c.job-item.result c.loop-job.pages.items c.forget_ended.new.pages.items c.loop-job-test.true (sym c.job-item.is) c.forget_ended.ensures
    ∙ c.loop-job.invariant

pub returns : goal.returns
returns c = sym (none_to_come c.args.ended.now c.loop-job.job-index c.loop-job.pages.items (omega (arith, c.loop-job-test.false))) ∙ c.loop-job.invariant
