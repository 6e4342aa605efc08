-- What is printed of what a server answers, and how a word ends (this project's profile).
use Rattle.std.specs.Prelude.{◌≡◌, ℕ, Bool, true, false, List, [], ◌++◌, Option, None, Some, if◌then◌else◌}
use Rattle.std.specs.Io.KnownBytes.{Appends, Consumes, IsAtEnd}
use Rattle.fax_command.specs.declared.status.Status.{Status}
use Rattle.fax_command.specs.declared.status.Status.TheVariants as status
use Rattle.fax_control.specs.ClientStreams.{fitting}
use Rattle.fax_say.specs.declared.last.Last.{Last}
use Rattle.fax_say.specs.declared.last.Last.TheVariants.{Done, Refused}
use Rattle.fax_say.specs.declared.ending.Ending.{Ending}
use Rattle.fax_say.specs.declared.ending.Ending.TheVariants.{Answered, Unanswered}
use Rattle.fax_say.specs.Answers.{IsAnswer, IsBegun, IsNoAnswer}

-- whether more is waited for after an answer that says this, where more is after a word that was done
abbrev pub waits : Bool → Last → Bool
waits stays Done = stays
waits stays Refused = false

-- The octets are an answer that says this, and what came after it where more is waited for.
pub record IsTold (stays : Bool) (last : Last) (octets : List ℕ) : Type 0 where
  pub answer : List ℕ
  pub after : List ℕ
  pub whole : octets ≡ answer ++ after
  pub is_answer : IsAnswer answer last
  pub no_more : waits stays last ≡ false → after ≡ []

-- How far an answer has come: whether more is waited for after it where the word was done, what has come of a line (none where that is
-- too long), and what its last line said, once that has come.
pub record HearingValue : Type 0 where
  pub stays : Bool
  pub part : Option (List ℕ)
  pub last : Option Last

-- these octets have begun an answer, of whose next line so much has come
abbrev pub HasBegun : Option (List ℕ) → List ℕ → Type 0
HasBegun part octets = (line : List ℕ) × IsBegun octets line × (part ≡ fitting line)

-- this is so of each octets that have begun so
abbrev pub EachBegun : Option (List ℕ) → (List ℕ → Type 0) → Type 0
EachBegun part IsSo = (before : List ℕ) → HasBegun part before → IsSo before

-- octets came, and no answer ended in them: after each that had begun
abbrev pub GoesOnWith : (octets : List ℕ) → (old new : Option (List ℕ)) → Type 0
GoesOnWith octets old new = EachBegun old (λ before. HasBegun new (before ++ octets))

-- what octets are with whose end a line ended: an answer, where that was its last line, or one that is begun
abbrev pub IsEnded : Option Last → Option (List ℕ) → List ℕ → Type 0
IsEnded None part octets = HasBegun part octets
IsEnded (Some last) part octets = IsAnswer octets last

-- what these octets have come to: an answer that is begun, or one that is told
abbrev pub HasComeTo : Bool → Option (List ℕ) → Option Last → List ℕ → Type 0
HasComeTo stays part None octets = HasBegun part octets
HasComeTo stays part (Some last) octets = IsTold stays last octets

abbrev pub HasHeard : HearingValue → List ℕ → Type 0
HasHeard hearing octets = HasComeTo hearing.stays hearing.part hearing.last octets

-- more octets were heard: after each that had come to this
abbrev pub HearsMore : (octets : List ℕ) → (old new : HearingValue) → Type 0
HearsMore octets old new = (before : List ℕ) → HasHeard old before → HasHeard new (before ++ octets)

-- what the last line said, where nothing more is waited for
abbrev pub over : Bool → Option Last → Option Last
over stays None = None
over stays (Some last) = if waits stays last then None else Some last

-- Octets of one stream were printed on another, and those after them were dropped: what was to come and what was held, before and
-- after, where that is known.
pub record HasPassed (coming comes held holds : Option (List ℕ)) (octets dropped : List ℕ) :
    Type 0 where
  pub came : Consumes coming comes (octets ++ dropped)
  pub printed : Appends held holds octets

-- A word was answered so: the answer was printed, and where more is waited for after it all that came until the stream ended.
pub record HasPrinted (stays : Bool) (last : Last) (coming comes held holds : Option (List ℕ)) :
    Type 0 where
  pub octets : List ℕ
  pub dropped : List ℕ
  pub told : IsTold stays last octets
  pub passed : HasPassed coming comes held holds octets dropped
  pub to_its_end : waits stays last ≡ true → (dropped ≡ []) × IsAtEnd comes

-- A stream ended before an answer did: all that came was printed.
pub record HasPrintedAll (coming comes held holds : Option (List ℕ)) : Type 0 where
  pub octets : List ℕ
  pub no_answer : IsNoAnswer octets
  pub passed : HasPassed coming comes held holds octets []
  pub at_its_end : IsAtEnd comes

-- how a word ends whose stream was closed, by what the last line of its answer said
abbrev pub ending_after : Option Last → Ending
ending_after None = Unanswered
ending_after (Some last) = Answered last

-- the exit status
abbrev pub status_of_ending : Ending → Status
status_of_ending (Answered Done) = status.Done
status_of_ending (Answered Refused) = status.Fault
status_of_ending ending = status.Stream
