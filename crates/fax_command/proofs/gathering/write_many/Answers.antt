use Rattle.fax_command.proofs.PutLemmas.{Puts-nothing}
use Rattle.fax_command.proofs.gathering.write_many.Goals as goal

pub returns-else-len-ge-MOST_WAITING-clause-text : goal.returns-else-len-ge-MOST_WAITING-clause-text
returns-else-len-ge-MOST_WAITING-clause-text g c = Puts-nothing (g.O.Sink.contents c.args.sink.now) c.args.waiting.now.items
