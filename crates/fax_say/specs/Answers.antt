-- The answers to control words, as octets come of them (this project's profile).
use Rattle.std.specs.Prelude.{◌≡◌, ℕ, Bool, List, [], ◌∷◌, ◌++◌, codes, bytes_eq, nat_eq, ◌||◌, flat_map, All, Option, None, Some, if◌then◌else◌}
use Rattle.std.specs.List.{starts_with}
use Rattle.fax_control.specs.ClientStreams.{HasNoLineFeed, fitting}
use Rattle.fax_control.specs.declared.answer.Answer.{Answer}
use Rattle.fax_control.specs.declared.answer.Answer.TheVariants as answer
use Rattle.fax_say.specs.declared.last.Last.{Last}
use Rattle.fax_say.specs.declared.last.Last.TheVariants.{Done, Refused}
use Rattle.fax_say.specs.Sayings.{ended}

-- the line ends an answer that says that the word was done
abbrev pub is_done : List ℕ → Bool
is_done line = bytes_eq line (codes "ok")
    || bytes_eq line (codes "# EOF") || starts_with nat_eq line (codes "ok ")

-- what a line says that is the last one of an answer; none of any other
abbrev pub said_by : List ℕ → Option Last
said_by line = if is_done line
    then Some Done else if starts_with nat_eq line (codes "refused ") then Some Refused else None

-- the same of a line as it was heard: one that was too long is the last of no answer
abbrev pub said_by_heard : Option (List ℕ) → Option Last
said_by_heard None = None
said_by_heard (Some line) = said_by line

abbrev pub last_of : List ℕ → Option Last
last_of line = said_by_heard (fitting line)

-- a line of an answer that is not its last one
abbrev pub GoesOn : List ℕ → Type 0
GoesOn line = HasNoLineFeed line × (last_of line ≡ None)

-- The octets are lines of an answer, none of them its last one, and after them what has come of one more.
pub record IsBegun (octets part : List ℕ) : Type 0 where
  pub lines : List (List ℕ)
  pub whole : octets ≡ flat_map ended lines ++ part
  pub each : All GoesOn lines
  pub one_line : HasNoLineFeed part

-- no answer ends in these octets
abbrev pub IsNoAnswer : List ℕ → Type 0
IsNoAnswer octets = (part : List ℕ) × IsBegun octets part

-- The octets are an answer: lines that go on, and the last one, which says this.
pub record IsAnswer (octets : List ℕ) (last : Last) : Type 0 where
  pub begun : List ℕ
  pub line : List ℕ
  pub whole : octets ≡ begun ++ 10 ∷ []
  pub is_begun : IsBegun begun line
  pub says : last_of line ≡ Some last

-- what the last line of an answer says of a server's answer
abbrev pub last_of_answer : Answer → Last
last_of_answer (answer.Refused refusal) = Refused
last_of_answer given = Done
