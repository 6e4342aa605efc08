use Rattle.std.proofs.Common.{◌≡◌, ◌∙◌}
use Rattle.fax_command.specs.Statuses.{status_code}
use Rattle.fax_trace.proofs.AnswerLemmas.{Answers-played}
use Rattle.fax_trace.proofs.run.run_trace.Goals as goal

pub returns-clause-answers : goal.returns-clause-answers
returns-clause-answers g c = λ other.
    let is : c.code.result ≡ status_code c.play_script.result.status = c.code.ensures in
    let old = g.O.Sink.contents c.args.sink.now in
    let new = g.O.Sink.contents c.play_script.new.sink in
    Answers-played c.args.settings (g.I.Source.remaining c.args.source.now) c.play_script.result.played _ c.code.result old new (c.play_script.ensures.answers (λ four. other (is ∙ four))) is

pub returns-clause-run : goal.returns-clause-run
returns-clause-run g c = rw c.code.ensures c.play_script.ensures.run
