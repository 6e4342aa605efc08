use Rattle.std.proofs.Common.{◌≡◌, ◌∙◌}
use Rattle.fax_loop.specs.Answers.{ending_status}
use Rattle.fax_loop.proofs.AnswerLemmas.{Answers-ended, Runs-ended}
use Rattle.fax_loop.proofs.run.run_loop.Goals as goal

pub returns-clause-answers : goal.returns-clause-answers
returns-clause-answers g c = λ other.
    let is : c.code.result ≡ ending_status c.play_loop.result = c.code.ensures ∙ c.status.ensures in
    let old = g.O.Sink.contents c.args.sink.now in
    let new = g.O.Sink.contents c.play_loop.new.sink in
    Answers-ended _ (g.I.Source.remaining c.args.source.now) c.play_loop.result c.code.result old new (c.play_loop.ensures.answers (λ four. other (is ∙ four))) is

pub returns-clause-run : goal.returns-clause-run
returns-clause-run g c =
    let is : c.code.result ≡ ending_status c.play_loop.result = c.code.ensures ∙ c.status.ensures in
    Runs-ended c.play_loop.ensures.run is
