use Rattle.std.proofs.Common.{List, ◌∙◌, ap}
use Rattle.fax_spool.specs.RecordOctets.{EndedValue, PageValue}
use Rattle.fax_spool.specs.Waits.{ended_by}
use Rattle.fax_undelivered.specs.Calls.{firsts}
use Rattle.fax_undelivered.proofs.undelivered.Undelivered.pages_of.Goals as goal

pub returns-clause-found : goal.returns-clause-found
returns-clause-found g c = λ clean waits was.
    c.keep_first.ensures
    ∙ ap (λ (l : List PageValue). firsts l) (c.in_ok-pages.ensures.found clean was.olds was.news was.kept
    ∙ ap (λ (l : List PageValue). ended_by c.end_from-ended.result l) was.wait
    ∙ ap (λ (e : EndedValue). ended_by e waits) c.end_from-ended.ensures)
