-- What is told of a call while it goes on: of each piece that comes what it was taken as, and of a tick which timer acts.
-- (This project's profile.)
use Rattle.std.specs.Prelude.{◌≡◌, ℕ, Bool, List, [], ◌∷◌, Option, Some, None, if◌then◌else◌}
use Rattle.fax_ifp.specs.Pieces as pieces
use Rattle.fax_timers.specs.Moments.{is_due}
use Rattle.fax_answer.specs.declared.decision.Decision as code
use Rattle.fax_answer.specs.declared.state.State.{State}
use Rattle.fax_answer.specs.declared.state.State.TheVariants.{Idle, Identify, Again, Closing}
use Rattle.fax_answer.specs.declared.timers.ActingTimer.{ActingTimer}
use Rattle.fax_answer.specs.declared.timers.ActingTimer.TheVariants.{T1, T2, T4}
use Rattle.fax_answer.specs.declared.timers.Timers.{Timers}
use Rattle.fax_answer.specs.History.{Entry}
use Rattle.fax_answer.specs.Table.{Reading, decision}
use Rattle.fax_answer.specs.Replies.{is_waiting}
use Rattle.fax_answer.specs.Calls.{AnswererCore, asked, came, came_all, timed, says_goodbye, identifies_again, identifies_anew}
use Rattle.fax_answer.specs.Confirmation.{IfAsked}
use Rattle.fax_answer.specs.Rep.{verdict_of}

-- of a piece: the state before it, whether a packet waited, and what was decided at it
pub record Telling : Type 0 where
  pub state : State
  pub waits : Bool
  pub piece : pieces.Piece
  pub verdict : code.Decision

abbrev pub telling : Reading → AnswererCore → pieces.Piece → Telling
telling read a piece = record {
  state = a.state;
  waits = is_waiting a.waiting;
  piece = piece;
  verdict = verdict_of (decision read a.state (is_waiting a.waiting) a.history piece);
}

-- a lost slot is not told of: nothing is decided at it
abbrev pub telling_with : pieces.Piece → Telling → List Telling → List Telling
telling_with pieces.Gap t more = more
telling_with (pieces.Frame octets) t more = t ∷ more
telling_with (pieces.Start kind) t more = t ∷ more
telling_with (pieces.Octets octets) t more = t ∷ more
telling_with (pieces.End whole) t more = t ∷ more

-- of the pieces of a datagram, in the order of time
abbrev pub tellings : Reading → AnswererCore → List pieces.Piece → ℕ → List Telling
tellings read a [] now = []
tellings read a (piece ∷ more) now =
    telling_with piece (telling read a piece) (tellings read (came read a piece now) more now)

-- A watcher was told just this, one after another, by what telling it makes of it.
abbrev pub Watches : {W : Type 0}
    → (tells : Telling → W → W → Type 0) → (old new : W) → List Telling → Type 0
Watches tells old new [] = new ≡ old
Watches {W} tells old new (t ∷ more) =
    (between : W) × tells t old between × Watches tells between new more

-- nothing was told
abbrev pub TellsNothing : List Telling → Type 0
TellsNothing told = told ≡ []

-- pieces that come one after another, each with a reading of its own, which is right where it is asked for; and what is told
-- of them
abbrev pub CameTold : AnswererCore → List pieces.Piece → ℕ → AnswererCore → List Telling → Type 0
CameTold a [] now z told = (a ≡ z) × (told ≡ [])
CameTold a (piece ∷ more) now z told = (read : Reading) × IfAsked (asked a piece) read
    × (later : List Telling) × (told ≡ telling_with piece (telling read a piece) later)
    × CameTold (came read a piece now) more now z later

-- WHAT IS TOLD IS WHAT WAS DONE: each entry of the history, but those of lost slots, in their order; and nothing else.
pub record Shown : Type 0 where
  pub piece : pieces.Piece
  pub verdict : code.Decision

abbrev pub shown_with : pieces.Piece → Shown → List Shown → List Shown
shown_with pieces.Gap s more = more
shown_with (pieces.Frame octets) s more = s ∷ more
shown_with (pieces.Start kind) s more = s ∷ more
shown_with (pieces.Octets octets) s more = s ∷ more
shown_with (pieces.End whole) s more = s ∷ more

-- the entries of a history, the newest first, and what is told, in the order of time
abbrev pub shown_of : List Entry → List Shown
shown_of [] = []
shown_of (e ∷ before) = shown_with e.piece (record {
  piece = e.piece;
  verdict = verdict_of e.decision;
}) (shown_of before)

abbrev pub told_after : List Telling → List Shown → List Shown
told_after [] before = before
told_after (t ∷ more) before =
    told_after more (record { piece = t.piece; verdict = t.verdict } ∷ before)

abbrev pub TellsTheHistory : Type 0
TellsTheHistory = (read : Reading) (a : AnswererCore) (given : List pieces.Piece) (now : ℕ)
    → shown_of (came_all read a given now).history
    ≡ told_after (tellings read a given now) (shown_of a.history)

-- TIMERS. The one that acts in a tick, where no packet waits: T1 before the others
abbrev pub acting_in : State → Timers → ℕ → Option ActingTimer
acting_in Idle t now = None
acting_in Closing t now = None
acting_in Identify t now =
    if is_due t.t1 now then Some T1 else if is_due t.t4 now then Some T4 else None
acting_in state t now = if is_due t.t2 now then Some T2 else None

abbrev pub acting : AnswererCore → ℕ → Option ActingTimer
acting a now = if is_waiting a.waiting then None else acting_in a.state a.timers now

-- what it does: DCN is given, but T4 gives DIS again, and so does T2 after an EOM
abbrev pub acts_by_t2 : State → AnswererCore → ℕ → AnswererCore
acts_by_t2 Again a now = identifies_anew a now
acts_by_t2 state a now = says_goodbye a

abbrev pub acted_by : Option ActingTimer → AnswererCore → ℕ → AnswererCore
acted_by None a now = a
acted_by (Some T1) a now = says_goodbye a
acted_by (Some T2) a now = acts_by_t2 a.state a now
acted_by (Some T4) a now = identifies_again a

-- What acts is what is told of it, in every state.
abbrev pub TellsWhatActs : Type 0
TellsWhatActs = (a : AnswererCore) (now : ℕ) → timed a now ≡ acted_by (acting a now) a now
