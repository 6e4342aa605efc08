-- What is kept.
use Rattle.std.specs.Prelude.{Bool, List}
use Rattle.fax_notes.specs.declared.call_notes.CallNote.{CallNote}

pub record CallNotesValue : Type 0 where
  pub notes : List CallNote
  pub is_lacking : Bool
