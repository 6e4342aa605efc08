use Rattle.fax_undelivered.proofs.held.Ending.{puts_kept, puts_not}
use Rattle.fax_undelivered.proofs.held.texts.put_pages.Goals as goal

pub returns-in-Ok-keep-clause-kept : goal.returns-in-Ok-keep-clause-kept
returns-in-Ok-keep-clause-kept g c = λ _. puts_kept _ _ _ c.args.pages.now _ _ c.args.undelivered.now c.keep.new.self c.in-Ok.ensures c.in-Ok-keep.ensures.kept c.in-Ok-keep.ensures.does

pub returns-clause-not_put : goal.returns-clause-not_put
returns-clause-not_put g c = λ _. puts_not _ _ _ c.args.pages.now _ c.args.undelivered.now c.keep.new.self c.in-Err.ensures.does c.in-Err.ensures.same
