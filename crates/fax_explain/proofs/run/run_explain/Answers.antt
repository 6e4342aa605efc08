use Rattle.std.proofs.Common.{ℕ, List, ◌++◌, codes, refl, ap}
use Rattle.fax_explain.proofs.ExplainLemmas.{Explains-read, Explains-unread}
use Rattle.fax_explain.proofs.run.run_explain.Goals as goal

pub returns-in-Err-NoMemory-clause-answers : goal.returns-in-Err-NoMemory-clause-answers
returns-in-Err-NoMemory-clause-answers g c = λ other.
    Explains-unread c.args.settings (g.I.Source.remaining c.args.source.now) _ _ (g.O.Sink.contents c.args.sink.now) _ (c.written.ensures.status other)
    (ap (λ (text : List ℕ). text ++ codes "fault memory\n") c.new.ensures.items) (c.written.ensures.text other)

pub returns-clause-answers : goal.returns-clause-answers
returns-clause-answers g c = λ other.
    Explains-read c.args.settings (g.I.Source.remaining c.args.source.now) _ _ _ _ _ (g.O.Sink.contents c.args.sink.now) _ c.in-Ok.ensures.whole
    (rw c.as_slice.ensures.value at c.explain-explanation.ensures) (c.written-2.ensures.status other) refl (c.written-2.ensures.text other)
