use Rattle.fax_command.proofs.PutLemmas.{Puts-written}
use Rattle.fax_command.proofs.gathering.write_waiting.Goals as goal

pub returns-clause-text : goal.returns-clause-text
returns-clause-text g c =
    let sink = g.O.Sink in
    let written = rw c.as_slice.ensures.value at c.in_ok-write_all.ensures.octets in
    Puts-written (sink.contents c.args.sink.now) (sink.contents c.write_all.new.self) c.args.waiting.now.items c.clear.new.self.items written c.clear.ensures.items
