use Rattle.fax_queue.proofs.Lives.{restored_queues_agree}
use Rattle.fax_queue.proofs.laws.restored_queues_agree.Goals as goal

pub returns : goal.returns
returns c = restored_queues_agree
