-- The notes are of all that was told.
use Rattle.std.proofs.Common.{List, [], ◌∷◌, ◌++◌, sym, ◌∙◌, ap, append_assoc}
use Rattle.std.proofs.lemmas.List.{append-nil}
use Rattle.fax_notes.specs.declared.answer_notes.AnswerNote.{AnswerNote}
use Rattle.fax_notes.specs.declared.call_notes.CallNote.{CallNote}
use Rattle.fax_notes.specs.AnswerValues.{AnswerNotesValue}
use Rattle.fax_notes.specs.CallValues.{CallNotesValue}
use Rattle.fax_notes.specs.Notes.{came_in, answer_note, answer_notes, call_note, call_notes, KeepsAnswers, KeepsCalls}

pub keeps_answers : KeepsAnswers
keeps_answers [] old new w none =
    (ap (λ (v : AnswerNotesValue). v.is_lacking) (sym w) ∙ none, ap (λ (v : AnswerNotesValue). v.notes) w ∙ sym (append-nil old.notes))
keeps_answers (t ∷ more) old new w none =
    let later = keeps_answers more w.0 new w.2 none in
    let first = w.1 later.0 in
    (first.0, later.1 ∙ ap (λ (ns : List AnswerNote). ns ++ answer_notes more) first.1 ∙ append_assoc old.notes (answer_note t (came_in t.piece)) (answer_notes more))

pub keeps_calls : KeepsCalls
keeps_calls [] old new w none =
    (ap (λ (v : CallNotesValue). v.is_lacking) (sym w) ∙ none, ap (λ (v : CallNotesValue). v.notes) w ∙ sym (append-nil old.notes))
keeps_calls (t ∷ more) old new w none =
    let later = keeps_calls more w.0 new w.2 none in
    let first = w.1 later.0 in
    (first.0, later.1 ∙ ap (λ (ns : List CallNote). ns ++ call_notes more) first.1 ∙ append_assoc old.notes (call_note t (came_in t.piece)) (call_notes more))
