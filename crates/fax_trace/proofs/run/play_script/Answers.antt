use Rattle.std.proofs.Common.{rules, ℕ, List, ◌++◌, codes, ◌∙◌, ap}
use Rattle.fax_trace.specs.declared.answer.PlayedScript.{PlayedScript}
use Rattle.fax_trace.specs.Rep.{status_of_answer, text_of_answer}
use Rattle.fax_trace.proofs.AnswerLemmas.{Answers-read, Answers-unread}
use Rattle.fax_trace.proofs.run.play_script.Goals as goal
use Rattle.fax_trace.proofs.run.play_script.Goals.{in-Ok, in-Err-NoMemory}

pub returns-in-Ok-write-clause-answers : goal.returns-in-Ok-write-clause-answers
returns-in-Ok-write-clause-answers g c = λ other.
    let answer = c.match-read_input.played.answer in
    let status = c.status.ensures in
    let told = g.I.Source.remaining c.args.source.now in
    let old = g.O.Sink.contents c.args.sink.now in
    let new = g.O.Sink.contents c.write.new.sink in
    elim c.match-read_input.branch [
      | in-Ok w ↦
          let answers = rw w.as_slice.ensures.value at w.play-played.ensures in
          Answers-read c.args.settings told _ _ _ _ _ _ _ old new w.in-Ok.ensures.whole answers (ap (λ (p : PlayedScript). p.lines) w.played-is)
          (status ∙ ap (λ (p : PlayedScript). status_of_answer p.answer) w.played-is) (ap (λ (p : PlayedScript). text_of_answer p.answer) w.played-is) c.in-Ok-write.ensures.text
      | in-Err-NoMemory w ↦
          Answers-unread c.args.settings told _ _ _ old new (ap (λ (p : PlayedScript). p.lines) w.played-is)
          (status ∙ ap (λ (p : PlayedScript). status_of_answer p.answer) w.played-is)
          (ap (λ (p : PlayedScript). text_of_answer p.answer) w.played-is ∙ ap (λ (text : List ℕ). text ++ codes "fault memory\n") w.new.ensures.items) c.in-Ok-write.ensures.text
    ]

pub returns-in-Ok-write-clause-run : goal.returns-in-Ok-write-clause-run
returns-in-Ok-write-clause-run g c = record {
  over = record {
    handed_on = search rules;
    unwritten = search rules;
    too_long = search rules;
    reads = search rules;
    given = search rules;
    failed_read = search rules;
    too_much = search rules;
    failed_write = search rules;
  };
  stream = search rules;
}
