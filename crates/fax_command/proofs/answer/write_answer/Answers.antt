use Rattle.std.proofs.Common.{sym, append-nil}
use Rattle.std.proofs.KnownBytes.{Appends-kept}
use Rattle.fax_command.proofs.PutLemmas.{Puts-then, Puts-same, Puts-all, OnOk-then}
use Rattle.fax_command.proofs.answer.write_answer.Goals as goal

pub returns-clause-text : goal.returns-clause-text
returns-clause-text g c =
    let sink = g.O.Sink in
    let (text, is, put) = c.in_ok-put_answer.ensures.text in
    let whole = Puts-same _ _ _ _ _ _ (Puts-then _ _ _ _ _ _ _ _ put c.in_ok-write_waiting.ensures.text) (sym (append-nil text)) in
    let written = Puts-all _ _ _ _ text c.new-waiting.ensures.items c.in_ok-write_waiting.ensures.none whole in
    OnOk-then c.flush.result c.flush.ensures.octets (λ kept. (text, is, Appends-kept (sink.contents c.args.sink.now) (sink.contents c.write_waiting.new.sink) (sink.contents c.flush.new.self) text written kept))
