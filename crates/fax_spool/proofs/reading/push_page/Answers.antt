use Rattle.fax_spool.proofs.ReadBack.{none_ended, one_ended}
use Rattle.std.proofs.Common.{sym, ◌∙◌}
use Rattle.fax_spool.proofs.reading.push_page.Goals as goal

pub returns-then-not-is_ended_by-clause-found : goal.returns-then-not-is_ended_by-clause-found
returns-then-not-is_ended_by-clause-found g c = λ clean rs page settled kept. none_ended c.args.ended.now page _ _ kept.0 (sym c.is_ended_by.ensures ∙ c.if-not-is_ended_by.true)

pub returns-clause-found : goal.returns-clause-found
returns-clause-found g c = λ clean rs page settled kept. one_ended c.args.ended.now page _ _ _ _ kept.0 (sym c.is_ended_by.ensures ∙ c.if-not-is_ended_by.false) c.in_ok-push.ensures.items (c.in_ok-read_page.ensures.page clean rs page settled kept)
