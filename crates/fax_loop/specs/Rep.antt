-- What is kept of an exchange, and of an answer.
use Rattle.std.specs.Prelude.{◌≡◌, ◌↔◌, ℕ, ◌<◌, Bool, true, false, IsTrue, List, [], ◌∷◌, ◌++◌, codes, string_bytes, length, reverse, Option, Some, None}
use Rattle.fax_jobs.specs.Jobs.{JobValue}
use Rattle.fax_call.specs.Writings.{IsWriting, Writing}
use Rattle.fax_gateway.specs.Driving.{HasMade, failed_in_a_row, most_failed, receipts}
use Rattle.fax_gateway.specs.Reached.{IsCalled, IsReachedBy}
use Rattle.fax_gateway.specs.Setups.{Setup}
use Rattle.fax_command.specs.RowLines.{TellRows, text_of_lines}
use Rattle.fax_terminal.specs.Terminals.{pages_on}
use Rattle.fax_terminal.specs.Turns.{IsAnswering}
use Rattle.fax_loop.specs.declared.answer.Answer.{Answer}
use Rattle.fax_loop.specs.declared.answer.Answer.TheVariants as answer
use Rattle.fax_loop.specs.declared.ending.Ending.{Ending}
use Rattle.fax_loop.specs.declared.ending.Ending.TheVariants as endings
use Rattle.fax_loop.specs.declared.exchange.Parties.{Parties}
use Rattle.fax_loop.specs.Answers.{rows_of}
use Rattle.fax_loop.specs.Exchanges.{AreRounds, CarriesRounds, IsOver, Lines, Round, answerer_after, caller_after, log_after, moment_after, most_rounds, reported, trace_after}

-- ---- an exchange: these rounds led to it, since the lines were so
pub record HasPlayed (setup : Setup) (writes : Writing)
    (job : JobValue) (rounds : List Round) (before after : Lines) (parties : Parties) : Type 0 where
  pub are_rounds : AreRounds setup writes rounds
  pub gateway : IsReachedBy setup writes (trace_after rounds) parties.gateway
  pub driver : HasMade (log_after rounds) parties.driver
  pub caller : IsCalled setup writes (Some (caller_after setup writes job rounds)) parties.caller
  pub answerer : IsAnswering setup (answerer_after setup rounds) parties.answerer
  pub pages_are : reverse parties.confirmed.items ≡ pages_on (answerer_after setup rounds)
  pub carried : CarriesRounds setup writes job rounds before after

-- this is so of each setup and right writing, and of lines from which on no round led to it
abbrev pub EachBeginning : JobValue → (now : Lines) → Parties → (Setup → Writing → Lines → Type 0)
    → Type 0
EachBeginning job now parties IsSo =
    (setup : Setup) (writes : Writing) (before : Lines) → IsWriting writes
    → HasPlayed setup writes job [] before now parties → IsSo setup writes before

-- this is so of each setup and right writing, and of the rounds that led to it from lines on, where
-- one more is played, at this moment
abbrev pub EachGoing : JobValue → (moment : ℕ) → (now : Lines) → Parties
    → (Setup → Writing → List Round → Lines → Type 0) → Type 0
EachGoing job moment now parties IsSo =
    (setup : Setup) (writes : Writing) (rounds : List Round) (before : Lines)
    → IsWriting writes → moment ≡ moment_after rounds
    → length rounds < most_rounds → reported setup writes rounds ≡ None
    → failed_in_a_row (receipts (log_after rounds)) < most_failed
    → HasPlayed setup writes job rounds before now parties → IsSo setup writes rounds before

-- one more was played, and this says whether the gateway's last 100 receives did not all fail
abbrev pub PlaysRound : Setup → Writing → JobValue → List Round → (goes_on : Bool)
    → (before after : Lines) → Parties → Type 0
PlaysRound setup writes job rounds goes_on before after parties = (round : Round)
    × (IsTrue goes_on ↔ (failed_in_a_row (receipts (log_after (round ∷ rounds))) < most_failed))
    × HasPlayed setup writes job (round ∷ rounds) before after parties

-- so many rounds, after which this says whether the gateway's last 100 receives did not all fail
pub record HasGone (setup : Setup) (writes : Writing) (job : JobValue)
    (count : ℕ) (goes_on : Bool) (before after : Lines) (parties : Parties) : Type 0 where
  pub rounds : List Round
  pub many : length rounds ≡ count
  pub receives : IsTrue goes_on ↔ (failed_in_a_row (receipts (log_after rounds)) < most_failed)
  pub played : HasPlayed setup writes job rounds before after parties

-- and no more are played
pub record HasEnded (setup : Setup)
    (writes : Writing) (job : JobValue) (before after : Lines) (parties : Parties) : Type 0 where
  pub rounds : List Round
  pub over : IsOver setup writes rounds
  pub played : HasPlayed setup writes job rounds before after parties

-- this is so of each setup, writing and job, and of lines before and after, with which it has ended
abbrev pub EachEnd : Parties → (Setup → Writing → JobValue → (before after : Lines) → Type 0)
    → Type 0
EachEnd parties IsSo =
    (setup : Setup) (writes : Writing) (job : JobValue) (before after : Lines)
    → HasEnded setup writes job before after parties → IsSo setup writes job before after

-- ---- this text is that of an answer
abbrev pub IsAnswerText : Answer → List ℕ → Type 0
IsAnswerText (answer.Reported told) text =
    (lines : List (List ℕ)) × TellRows lines (rows_of told.confirmed.items)
    × (text ≡ (string_bytes told.line ++ 10 ∷ []) ++ text_of_lines lines)
IsAnswerText answer.Unreported text = text ≡ []
IsAnswerText (answer.Fault line) text = text ≡ line.items
IsAnswerText answer.NoMemory text = text ≡ codes "fault memory\n"

-- how a run with an answer ends
abbrev pub ending_of_answer : Answer → Ending
ending_of_answer (answer.Reported told) = endings.Reported told.outcome
ending_of_answer answer.Unreported = endings.Unreported
ending_of_answer (answer.Fault line) = endings.Fault
ending_of_answer answer.NoMemory = endings.NoMemory
