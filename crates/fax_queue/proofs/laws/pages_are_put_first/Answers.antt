use Rattle.fax_queue.proofs.Lives.{put_first}
use Rattle.fax_queue.proofs.laws.pages_are_put_first.Goals as goal

pub returns : goal.returns
returns c = put_first
