use Rattle.std.proofs.Common.{◌++◌, ◌∷◌, [], ap, subst}
use Rattle.std.proofs.KnownBytes.{Appends-trans, Appends-kept}
use Rattle.fax_command.specs.RowLines.{TellRows, text_of_lines}
use Rattle.fax_loop.specs.Answers.{rows_of}
use Rattle.fax_loop.proofs.answer.Answer.write.Goals as goal

pub returns-in_ok-flush-in-Reported-clause-text : goal.returns-in_ok-flush-in-Reported-clause-text
returns-in_ok-flush-in-Reported-clause-text g c =
    let (lines, tell, pages) = c.in_ok-write_pages-in-Reported.ensures.text in
    rw c.in-Reported.is (_, (lines, subst (λ pages. TellRows lines (rows_of pages)) c.as_slice.ensures.value tell, ap (λ line. (line ++ 10 ∷ []) ++ text_of_lines lines) c.as_bytes.ensures.value), Appends-kept _ _ _ _ (Appends-trans _ _ _ _ _ (Appends-trans _ _ _ _ _ c.in_ok-write_all-in-Reported.ensures.octets c.in_ok-write_all-in-Reported-2.ensures.octets) pages) c.in_ok-flush-in-Reported.ensures.octets)
