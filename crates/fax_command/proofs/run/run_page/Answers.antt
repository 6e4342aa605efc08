use Rattle.std.proofs.Common.{rules, ◌≡◌, ◌∙◌, ap, subst}
use Rattle.fax_command.specs.declared.answer.Answer.{Answer}
use Rattle.fax_command.specs.AnswerValues.{status_of_answer, IsAnswerText}
use Rattle.fax_command.proofs.AnswerLemmas.{Answers-read, Answers-unread}
use Rattle.fax_command.proofs.run.run_page.Goals as goal
use Rattle.fax_command.proofs.run.run_page.Goals.{in-Ok, in-Err-NoMemory}

pub returns-in-Ok-write_answer-clause-answers : goal.returns-in-Ok-write_answer-clause-answers
returns-in-Ok-write_answer-clause-answers g c = λ other.
    let (text, is, written) = c.in-Ok-write_answer.ensures.text in
    let status : c.code-in-Ok-write_answer.result ≡ status_of_answer c.match-read_input.answer = c.code-in-Ok-write_answer.ensures ∙ c.status.ensures in
    let told = g.I.Source.remaining c.args.source.now in
    let old = g.O.Sink.contents c.args.sink.now in
    let new = g.O.Sink.contents c.write_answer.new.sink in
    elim c.match-read_input.branch [
      | in-Ok w ↦
          let read = w.answer_to-answer.ensures text (subst (λ (a : Answer). IsAnswerText a text) w.answer-is is) in
          Answers-read told c.args.options _ _ _ text old new w.in-Ok.ensures.whole read (status ∙ ap status_of_answer w.answer-is) written
      | in-Err-NoMemory w ↦
          let wanting = subst (λ (a : Answer). IsAnswerText a text) w.answer-is is in
          Answers-unread told c.args.options _ text old new (status ∙ ap status_of_answer w.answer-is) wanting written
    ]

pub returns-in-Ok-write_answer-clause-run : goal.returns-in-Ok-write_answer-clause-run
returns-in-Ok-write_answer-clause-run g c = record {
  over = record {
    handed_on = search rules;
    unwritten = search rules;
    too_long = search rules;
    reads = search rules;
    given = search rules;
    failed_read = search rules;
    too_much = search rules;
    failed_write = search rules;
  };
  stream = search rules;
}
