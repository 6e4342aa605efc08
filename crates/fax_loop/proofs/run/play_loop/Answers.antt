use Rattle.std.proofs.Common.{rules, ◌≡◌, ◌∙◌, ap}
use Rattle.fax_loop.specs.Rep.{IsAnswerText, ending_of_answer}
use Rattle.fax_loop.proofs.AnswerLemmas.{EndsSo-read, EndsSo-unread}
use Rattle.fax_loop.proofs.run.play_loop.Goals as goal
use Rattle.fax_loop.proofs.run.play_loop.Goals.{in-Ok+in-Ok-answer_to, in-Err-NoMemory}

pub returns-in-Ok-write-clause-answers : goal.returns-in-Ok-write-clause-answers
returns-in-Ok-write-clause-answers g c = λ other.
    let ending : c.ending.result ≡ ending_of_answer c.match-read_input.answer = c.ending.ensures in
    let (text, is, written) = c.in-Ok-write.ensures.text in
    let told = g.I.Source.remaining c.args.source.now in
    let old = g.O.Sink.contents c.args.sink.now in
    let new = g.O.Sink.contents c.write.new.sink in
    elim c.match-read_input.branch [
      | in-Ok+in-Ok-answer_to w ↦
          let text_of : IsAnswerText w.in-Ok-answer_to.answer text = rw w.answer-is at is in
          EndsSo-read _ told _ _ _ text old new w.in-Ok.ensures.whole (w.in-Ok-answer_to.ensures text text_of) (ending ∙ ap ending_of_answer w.answer-is) written
      | in-Err-NoMemory w ↦
          EndsSo-unread _ told _ text old new (ending ∙ ap ending_of_answer w.answer-is) (rw w.answer-is at is) written
    ]

pub returns-in-Ok-write-clause-run : goal.returns-in-Ok-write-clause-run
returns-in-Ok-write-clause-run g c = record {
  handed_on = search rules;
  unwritten = search rules;
  too_long = search rules;
  reads = search rules;
  given = search rules;
  failed_read = search rules;
  too_much = search rules;
  failed_write = search rules;
}
