-- What is noted of what is told. (This project's profile.)
use Rattle.std.specs.Prelude.{◌≡◌, false, List, [], ◌∷◌, ◌++◌, Option, Some, None}
use Rattle.fax_ifp.specs.Pieces as pieces
use Rattle.fax_answer.specs.Watching as answer
use Rattle.fax_call.specs.Watching as call
use Rattle.fax_notes.specs.declared.came.Came.{Came}
use Rattle.fax_notes.specs.declared.came.Came.TheVariants as came
use Rattle.fax_notes.specs.declared.answer_notes.AnswerNote.{AnswerNote}
use Rattle.fax_notes.specs.declared.call_notes.CallNote.{CallNote}
use Rattle.fax_notes.specs.AnswerValues.{AnswerNotesValue}
use Rattle.fax_notes.specs.CallValues.{CallNotesValue}

-- frames, and the beginnings and the ends of signals
abbrev pub came_in : pieces.Piece → Option Came
came_in (pieces.Frame octets) = Some came.Frame
came_in (pieces.Start kind) = Some came.Start
came_in (pieces.End whole) = Some came.End
came_in (pieces.Octets octets) = None
came_in pieces.Gap = None

-- the note of what is told of a piece
abbrev pub answer_note : answer.Telling → Option Came → List AnswerNote
answer_note t None = []
answer_note t (Some c) =
    record { state = t.state; waits = t.waits; came = c; decision = t.verdict } ∷ []

abbrev pub call_note : call.Telling → Option Came → List CallNote
call_note t None = []
call_note t (Some c) =
    record { state = t.state; waits = t.waits; came = c; decision = t.verdict } ∷ []

abbrev pub answer_notes : List answer.Telling → List AnswerNote
answer_notes [] = []
answer_notes (t ∷ more) = answer_note t (came_in t.piece) ++ answer_notes more

abbrev pub call_notes : List call.Telling → List CallNote
call_notes [] = []
call_notes (t ∷ more) = call_note t (came_in t.piece) ++ call_notes more

-- telling it makes this of the notes, where memory was not lacking
abbrev pub NotesAnswer : answer.Telling → (old new : AnswerNotesValue) → Type 0
NotesAnswer t old new = new.is_lacking ≡ false
    → (old.is_lacking ≡ false) × (new.notes ≡ old.notes ++ answer_note t (came_in t.piece))

abbrev pub NotesCall : call.Telling → (old new : CallNotesValue) → Type 0
NotesCall t old new = new.is_lacking ≡ false
    → (old.is_lacking ≡ false) × (new.notes ≡ old.notes ++ call_note t (came_in t.piece))

-- and so the notes are of all that was told
abbrev pub KeepsAnswers : Type 0
KeepsAnswers = (told : List answer.Telling) (old new : AnswerNotesValue)
    → answer.Watches NotesAnswer old new told → new.is_lacking ≡ false
    → (old.is_lacking ≡ false) × (new.notes ≡ old.notes ++ answer_notes told)

abbrev pub KeepsCalls : Type 0
KeepsCalls = (told : List call.Telling) (old new : CallNotesValue)
    → call.Watches NotesCall old new told
    → new.is_lacking ≡ false → (old.is_lacking ≡ false) × (new.notes ≡ old.notes ++ call_notes told)
