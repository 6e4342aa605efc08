use Rattle.std.proofs.Common.{refl}
use Rattle.fax_queue.proofs.Refusing.{not_turned}
use Rattle.fax_queue.proofs.Tidying.{tidy_failed, tidy_same}
use Rattle.fax_queue.proofs.storage.put_again.Goals as goal

pub returns-in-Ok-clause-stays : goal.returns-in-Ok-clause-stays
returns-in-Ok-clause-stays g c = c.in-Ok.ensures.does.done refl

pub returns-in-Ok-clause-same : goal.returns-in-Ok-clause-same
returns-in-Ok-clause-same g c = tidy_same _ _ _ c.args.spool.now c.put_again.new.self _ c.in-Ok.was c.in-Ok.ensures.put

pub returns-in-Err-clause-failed : goal.returns-in-Err-clause-failed
returns-in-Err-clause-failed g c = tidy_failed _ _ _ c.args.spool.now c.put_again.new.self c.in-Err.ensures.does

pub returns-in-Err-clause-told : goal.returns-in-Err-clause-told
returns-in-Err-clause-told g c = not_turned _ _ _ c.args.spool.now c.put_again.new.self c.in-Err.ensures.does
