-- What is kept.
use Rattle.std.specs.Prelude.{Bool, List}
use Rattle.fax_notes.specs.declared.answer_notes.AnswerNote.{AnswerNote}

pub record AnswerNotesValue : Type 0 where
  pub notes : List AnswerNote
  pub is_lacking : Bool
