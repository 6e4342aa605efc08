use Rattle.fax_queue.proofs.Refusing.{not_turned}
use Rattle.fax_queue.proofs.Tidying.{tidy_cleared}
use Rattle.fax_queue.proofs.Waits.{wait_cleared}
use Rattle.fax_queue.proofs.storage.clear_older.Goals as goal

pub returns-in-Ok-clause-stays : goal.returns-in-Ok-clause-stays
returns-in-Ok-clause-stays g c = wait_cleared c.args.spool.now c.clear.new.self c.in-Ok.was c.files_share_what_waits.ensures c.in-Ok.ensures.cleared

pub returns-in-Ok-clause-tidy : goal.returns-in-Ok-clause-tidy
returns-in-Ok-clause-tidy g c = tidy_cleared _ _ _ c.args.spool.now c.clear.new.self c.in-Ok.was c.in-Ok.ensures.cleared

pub returns-in-Err-clause-failed : goal.returns-in-Err-clause-failed
returns-in-Err-clause-failed g c = λ waits rest. c.in-Err.ensures.failed rest.olds rest.news rest.kept

pub returns-in-Err-clause-told : goal.returns-in-Err-clause-told
returns-in-Err-clause-told g c = not_turned _ _ _ c.args.spool.now c.clear.new.self c.in-Err.ensures.does
