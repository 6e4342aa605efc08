use Rattle.fax_spool.specs.Spools.{epoch_now}
use Rattle.fax_queue.proofs.Refusing.{not_turned}
use Rattle.fax_queue.proofs.Tidying.{tidy_failed, tidy_same}
use Rattle.fax_queue.proofs.Waits.{wait_changed}
use Rattle.fax_queue.proofs.storage.change.Goals as goal

pub returns-in-Ok-clause-stays : goal.returns-in-Ok-clause-stays
returns-in-Ok-clause-stays g c = wait_changed c.args.spool.now c.change.new.self c.in-Ok.was (epoch_now c.change.new.self) c.in-Ok.ensures.changed

pub returns-in-Ok-clause-same : goal.returns-in-Ok-clause-same
returns-in-Ok-clause-same g c = tidy_same _ _ _ c.args.spool.now c.change.new.self _ c.in-Ok.was c.in-Ok.ensures.changed

pub returns-in-Err-clause-failed : goal.returns-in-Err-clause-failed
returns-in-Err-clause-failed g c = tidy_failed _ _ _ c.args.spool.now c.change.new.self c.in-Err.ensures.does

pub returns-in-Err-clause-told : goal.returns-in-Err-clause-told
returns-in-Err-clause-told g c = not_turned _ _ _ c.args.spool.now c.change.new.self c.in-Err.ensures.does
