use Rattle.fax_capture.proofs.AnswerLemmas.{Answers-fault, Answers-script}
use Rattle.fax_capture.proofs.answer.answer_to.Goals as goal

pub returns-in-Ok-clause-answers : goal.returns-in-Ok-clause-answers
returns-in-Ok-clause-answers g c =
    Answers-script c.args.options.now (g.I.Source.remaining c.args.source.now) c.in-Ok.made.text.items c.in-Ok.made.counts c.in-Ok.ensures.ok

pub returns-in-Err-Script-clause-answers : goal.returns-in-Err-Script-clause-answers
returns-in-Err-Script-clause-answers g c =
    let fails = rw c.in-Err-Script.field-0-is at c.in-Err-Script.ensures.err in
    Answers-fault c.args.options.now (g.I.Source.remaining c.args.source.now) c.in-Err-Script.fault fails
