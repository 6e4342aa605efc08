use Rattle.fax_runs.proofs.Openings.{over_these}
use Rattle.fax_serve.proofs.run.serve_spooled.Goals as goal

pub returns-clause-kept : goal.returns-clause-kept
returns-clause-kept g c = over_these _ _ _ _ _ _ _ _ _ _ _ _ _ _ c.serve_opened.result c.serve_opened.ensures.kept c.in_ok-opened.ensures.opened
