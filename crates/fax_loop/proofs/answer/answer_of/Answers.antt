use Rattle.std.proofs.Common.{◌∷◌, [], ◌++◌, ◌∙◌, ap, refl}
use Rattle.fax_command.specs.declared.input_fault.InputFault.TheVariants.{NoMemory}
use Rattle.fax_command.specs.RowLines.{text_of_lines}
use Rattle.fax_loop.specs.Answers.{Reports, Refuses, rows_of}
use Rattle.fax_loop.proofs.answer.answer_of.Goals as goal

pub returns-in-Ok : goal.returns-in-Ok
returns-in-Ok c = λ text told.
    record {
      outcome = Reports c.in-Some.report (rows_of c.args.ended.confirmed.items);
      is_of = (c.in-Some.is, refl);
      ending_is = refl;
      text_is = (told.0, told.1, told.2 ∙ ap (λ line. (line ++ 10 ∷ []) ++ text_of_lines told.0) c.in-Ok.ensures.ok);
    }

pub returns-in-Err : goal.returns-in-Err
returns-in-Err c = λ text told.
    record { outcome = Refuses NoMemory; is_of = refl; ending_is = refl; text_is = told }
