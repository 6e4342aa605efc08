-- What was played on a player: its contracts are told over each setup, writing and script that was.
use Rattle.std.specs.Prelude.{ℕ, List, Option}
use Rattle.fax_call.specs.Writings.{IsWriting, Writing}
use Rattle.fax_gateway.specs.declared.settings.Settings.{Settings}
use Rattle.fax_gateway.specs.BothLegs.{job_asked}
use Rattle.fax_gateway.specs.Setups.{Setup}
use Rattle.fax_gateway.specs.Turns.{call_asked}
use Rattle.fax_trace.specs.declared.event.ScriptEvent.{ScriptEvent}
use Rattle.fax_trace.specs.declared.player.Player.{Player}
use Rattle.fax_trace.specs.Answers.{IsEarlyTick, Outcome}
use Rattle.fax_trace.specs.Playing.{PlayedScript}
use Rattle.fax_trace.specs.Rep.{HasAnswered, HasPlayed, IsPlaying, PlaysOn}

-- this is so of each setup, writing and script that was played on it
abbrev pub EachScript : Player → (Setup → Writing → PlayedScript → Type 0) → Type 0
EachScript player IsSo =
    (setup : Setup) (writes : Writing) (played : PlayedScript)
    → IsPlaying setup writes played player → IsSo setup writes played

-- the same, where pages are written as a right writing has them
abbrev pub EachWrittenScript : Player → (Setup → Writing → PlayedScript → Type 0) → Type 0
EachWrittenScript player IsSo =
    (setup : Setup) (writes : Writing) (played : PlayedScript) → IsWriting writes
    → IsPlaying setup writes played player → IsSo setup writes played

-- AN EVENT WAS ANSWERED: after each script that was played on the old player it is answered by this
-- text, and the new one has taken it
abbrev pub AnswersEvent : (old : Player) → ScriptEvent → (text : List ℕ) → (new : Player) → Type 0
AnswersEvent old event text new =
    EachScript old (λ setup writes played. HasAnswered setup writes played event text new)

-- the same of an event at which pages may be written
abbrev pub AnswersByWriting : (old : Player) → ScriptEvent → (text : List ℕ) → (new : Player)
    → Type 0
AnswersByWriting old event text new =
    EachWrittenScript old (λ setup writes played. HasAnswered setup writes played event text new)

-- AN EVENT WAS PLAYED: the new player has told what was answered
abbrev pub PlaysEvent : (old : Player) → ScriptEvent → (new : Player) → Type 0
PlaysEvent old event new =
    EachWrittenScript old (λ setup writes played. PlaysOn setup writes played event new)

-- this is so where the event is a tick before one is due, after a script that was played on it
abbrev pub WhereEarly : Player → ScriptEvent → Type 0 → Type 0
WhereEarly player event IsSo =
    EachScript player (λ setup writes played. IsEarlyTick setup writes played.trace event → IsSo)

-- the call that the gateway of a player asks for
abbrev pub asked_of : Player → Option ℕ
asked_of player = call_asked (job_asked player.gateway.settings.asks player.gateway.book)

-- this is so of the settings and the octets of each script that was played up to such an end and
-- told in this text, and of how many of its lines were
abbrev pub EachPlay : Outcome → (text : List ℕ)
    → (Settings → (script : List ℕ) → (played : ℕ) → Type 0) → Type 0
EachPlay outcome text IsSo =
    (settings : Settings) (script : List ℕ) (played : ℕ)
    → HasPlayed settings script outcome played text → IsSo settings script played
