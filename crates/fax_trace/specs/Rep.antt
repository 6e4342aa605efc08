-- What a player and an answer hold of what was played.
use Rattle.std.specs.Prelude.{◌≡◌, ℕ, ◌⊎◌, List, [], ◌∷◌, ◌++◌, length, codes}
use Rattle.fax_call.specs.Writings.{IsWriting, Writing}
use Rattle.fax_gateway.specs.declared.settings.Settings.{Settings}
use Rattle.fax_gateway.specs.Events.{Event, moment_of}
use Rattle.fax_gateway.specs.Setups.{AreSet, Setup}
use Rattle.fax_gateway.specs.Reached.{IsReachedBy}
use Rattle.fax_command.specs.RowLines.{lines_of, text_of_lines}
use Rattle.fax_trace.specs.declared.event.ScriptEvent.{ScriptEvent}
use Rattle.fax_trace.specs.declared.player.Player.{Player}
use Rattle.fax_trace.specs.declared.answer.Answer.{Answer}
use Rattle.fax_trace.specs.declared.answer.Answer.TheVariants.{Done, Fault, NoMemory}
use Rattle.fax_trace.specs.Scripts.{TellEvents}
use Rattle.fax_trace.specs.Told.{lines_told}
use Rattle.fax_trace.specs.Playing.{PlayedScript, Plays, IsRefusal, moment_at, nothing_played, scripted}
use Rattle.fax_trace.specs.Answers.{Outcome, Ends, AreTold, IsWantedIf}

-- this was played on its gateway, and told in its text
pub record IsPlaying (setup : Setup) (writes : Writing) (played : PlayedScript) (player : Player) :
    Type 0 where
  pub reached : IsReachedBy setup writes played.trace player.gateway
  pub at : player.moment ≡ played.moment
  pub told : player.text.items ≡ text_of_lines played.lines

-- one event more
pub record PlaysOn (setup : Setup)
    (writes : Writing) (old : PlayedScript) (event : ScriptEvent) (player : Player) : Type 0 where
  pub new : PlayedScript
  pub plays : Plays setup writes old event new
  pub is_playing : IsPlaying setup writes new player

-- Its gateway accepted one event more, and a text has the lines of its answer.
pub record HasAccepted (setup : Setup) (writes : Writing)
    (old : PlayedScript) (event : ScriptEvent) (text : List ℕ) (player : Player) : Type 0 where
  pub accepted : Event
  pub event_is : scripted accepted ≡ event
  pub at : moment_of accepted ≡ moment_at event old.moment
  pub reached : IsReachedBy setup writes (accepted ∷ old.trace) player.gateway
  pub moment : player.moment ≡ moment_of accepted
  pub text_is : text ≡ text_of_lines (lines_told accepted)

-- or it refused it, and a text has the line that says why
pub record HasRefused (setup : Setup) (writes : Writing)
    (old : PlayedScript) (event : ScriptEvent) (text : List ℕ) (player : Player) : Type 0 where
  pub line : List ℕ
  pub cause : IsRefusal setup writes old.trace event line
  pub reached : IsReachedBy setup writes old.trace player.gateway
  pub moment : player.moment ≡ moment_at event old.moment
  pub text_is : text ≡ text_of_lines (line ∷ [])

abbrev pub HasAnswered : Setup → Writing → PlayedScript → ScriptEvent → List ℕ → Player → Type 0
HasAnswered setup writes old event text player =
    HasAccepted setup writes old event text player ⊎ HasRefused setup writes old event text player

-- nothing was played
abbrev pub IsNew : Player → Type 0
IsNew player = (setup : Setup) (writes : Writing)
    → AreSet setup player.gateway.settings → IsPlaying setup writes nothing_played player

-- so many lines of a script were played, up to where playing ended, and told in a text
pub record HasPlayed (settings : Settings)
    (script : List ℕ) (outcome : Outcome) (played : ℕ) (text : List ℕ) : Type 0 where
  pub before : List (List ℕ)
  pub so_many : length before ≡ played
  pub others : List (List ℕ)
  pub lines_are : lines_of script ≡ before ++ others
  pub events : List ScriptEvent
  pub tell : TellEvents before events
  pub ends : Ends (length before) others outcome
  pub told : (setup : Setup) (writes : Writing)
      → AreSet setup settings → IsWriting writes → AreTold setup writes events
      (λ trace. IsWantedIf outcome setup writes trace before others) [] text

-- the exit status and the text of an answer
abbrev pub status_of_answer : Answer → ℕ
status_of_answer (Done text) = 0
status_of_answer (Fault text) = 1
status_of_answer (NoMemory text) = 3

abbrev pub text_of_answer : Answer → List ℕ
text_of_answer (Done text) = text.items
text_of_answer (Fault text) = text.items
text_of_answer (NoMemory text) = text.items ++ codes "fault memory\n"
