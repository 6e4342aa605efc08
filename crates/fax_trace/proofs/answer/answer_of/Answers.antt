use Rattle.std.proofs.Common.{◌≡◌, ℕ, List, ◌++◌, Ok, Err, codes, refl, append-nil, sym, ◌∙◌, ap, subst}
use Rattle.fax_trace.specs.declared.script_fault.ScriptFault.TheVariants.{Line, NoMemory}
use Rattle.fax_trace.specs.Answers.{Outcome}
use Rattle.fax_trace.specs.Rep.{HasPlayed}
use Rattle.fax_trace.proofs.AnswerLemmas.{answers_played, played_to_memory}
use Rattle.fax_trace.proofs.answer.answer_of.Goals as goal

pub returns-in-Ok : goal.returns-in-Ok
returns-in-Ok c = λ settings script lines played.
    answers_played settings script _ _ (Ok c.in-Ok.field-0) lines (subst (λ (o : Outcome). HasPlayed settings script o lines c.args.text.items) c.in-Ok.is played)
    (sym (append-nil c.args.text.items))

pub returns-in-Err-NoMemory : goal.returns-in-Err-NoMemory
returns-in-Err-NoMemory c = λ settings script lines played.
    answers_played settings script _ _ (Err NoMemory) lines (subst (λ (o : Outcome). HasPlayed settings script o lines c.args.text.items) (c.in-Err-NoMemory.is ∙ ap Err (rw c.in-Err-NoMemory.is at c.in-Err-NoMemory.field-0-is)) played) refl

pub returns-in-Ok-push_fault : goal.returns-in-Ok-push_fault
returns-in-Ok-push_fault c = λ settings script lines played.
    let number = c.in-Err-Line.number in
    let outcome : c.args.outcome ≡ Err (Line number) = c.in-Err-Line.is ∙ ap Err (rw c.in-Err-Line.is at c.in-Err-Line.field-0-is) in
    answers_played settings script _ _ (Err (Line number)) lines (subst (λ (o : Outcome). HasPlayed settings script o lines c.args.text.items) outcome played)
    c.in-Ok-push_fault.ensures.ok

pub returns-in-Err : goal.returns-in-Err
returns-in-Err c = λ settings script lines played.
    let number = c.in-Err-Line.number in
    let outcome : c.args.outcome ≡ Err (Line number) = c.in-Err-Line.is ∙ ap Err (rw c.in-Err-Line.is at c.in-Err-Line.field-0-is) in
    answers_played settings script _ _ (Err NoMemory) lines (played_to_memory settings script _ number lines (subst (λ (o : Outcome). HasPlayed settings script o lines c.args.text.items) outcome played))
    (ap (λ (text : List ℕ). text ++ codes "fault memory\n") c.in-Err.ensures.err)
