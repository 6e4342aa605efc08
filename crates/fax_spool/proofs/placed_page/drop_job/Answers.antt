use Rattle.std.proofs.Common.{rules, tests}
use Rattle.std.proofs.lemmas.Fn.{filter_same}
use Rattle.fax_spool.proofs.placed_page.drop_job.Goals as goal

pub returns : goal.returns
returns c = filter_same _ _ _ (λ x b q k. search (rules, tests)) _ _ c.retain.ensures.filtered
