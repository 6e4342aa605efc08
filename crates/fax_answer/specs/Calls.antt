-- The answerer over a call: what waits, timers, the pace, ticks. (ITU-T T.30, 5.4.3 for T1, T2 and T4; that
-- timers act in ticks alone, and the pace, are this project's profile.)
use Rattle.std.specs.Prelude.{ℕ, Bool, true, false, not, ◌&&◌, List, [], ◌∷◌, ◌++◌, Option, Some, None, if◌then◌else◌}
use Rattle.fax_frames.specs.declared.writing.Plain.TheVariants.{Dcn}
use Rattle.fax_frames.specs.Capabilities.{our_dis}
use Rattle.fax_frames.specs.Written.{written_dis}
use Rattle.fax_timers.specs.Moments.{moment_after, is_due}
use Rattle.fax_timers.specs.Paces.{PaceValue, new_pace, pace_after, pace_allows}
use Rattle.fax_timers.specs.Spans as spans
use Rattle.fax_ifp.specs.Pieces as pieces
use Rattle.fax_answer.specs.declared.state.State.{State}
use Rattle.fax_answer.specs.declared.timers.Timers.{Timers}
use Rattle.fax_answer.specs.declared.state.State.TheVariants.{Idle, Identify, Listen, Train, Page, Again, Closing}
use Rattle.fax_answer.specs.History.{Decision, PassesOver, Trains, HangsUp, GivesCfr, GivesFtt, GivesMcf, GivesRtn, Entry}
use Rattle.fax_answer.specs.Table.{Reading, Question, decision, asked_of, state_after}
use Rattle.fax_answer.specs.Replies.{WaitingPacket, silent, called_tone, is_preamble, frame_reply, plain_reply, reply_to, is_waiting}

-- our own DIS (this project's profile: all that we read)
abbrev pub dis_reply : List WaitingPacket
dis_reply = frame_reply (written_dis our_dis) None

abbrev pub no_timers : Timers
no_timers = record { t1 = None; t2 = None; t4 = None }

-- the answerer: its state, the history of the call, the packets that wait, the first of them first, its timers,
-- and the pace of its leg
pub record AnswererCore : Type 0 where
  pub state : State
  pub history : List Entry
  pub waiting : List WaitingPacket
  pub timers : Timers
  pub pace : PaceValue

-- no call was on the leg, and this pause is set
abbrev pub new_answering : ℕ → AnswererCore
new_answering pause =
    record { state = Idle; history = []; waiting = []; timers = no_timers; pace = new_pace pause }

-- IDLE, a ring: CED and DIS; T1 is set
abbrev pub rung : AnswererCore → ℕ → AnswererCore
rung a now =
    record {
      state = Identify;
      history = [];
      waiting = silent called_tone ∷ dis_reply;
      timers = record { t1 = Some (moment_after now spans.t1); t2 = None; t4 = None };
      pace = a.pace;
    }

-- LISTEN, TRAIN, PAGE, AGAIN: T2 is set anew by each frame, each signal that begins and each octet of one, while no packet
-- waits
abbrev pub is_heard : State → pieces.Piece → Bool
is_heard state pieces.Gap = false
is_heard state (pieces.End whole) = false
is_heard Listen piece = true
is_heard (Train dcs) piece = true
is_heard (Page dcs) piece = true
is_heard Again piece = true
is_heard state piece = false

-- the timers after a decision: a DCS that trains clears T1 and T4 and sets T2; T2 and T4 are clear while packets wait
abbrev pub timers_after : AnswererCore → pieces.Piece → Decision → ℕ → Timers
timers_after a piece (Trains dcs) now =
    record { t1 = None; t2 = Some (moment_after now spans.t2); t4 = None }
timers_after a piece HangsUp now = no_timers
timers_after a piece PassesOver now = if not (is_waiting a.waiting) && is_heard a.state piece
    then record { t1 = a.timers.t1; t2 = Some (moment_after now spans.t2); t4 = a.timers.t4 }
    else a.timers
timers_after a piece (GivesCfr dcs) now = record { t1 = a.timers.t1; t2 = None; t4 = None }
timers_after a piece GivesFtt now = record { t1 = a.timers.t1; t2 = None; t4 = None }
timers_after a piece (GivesMcf command page) now = record { t1 = a.timers.t1; t2 = None; t4 = None }
timers_after a piece GivesRtn now = record { t1 = a.timers.t1; t2 = None; t4 = None }

-- after a decision at a piece
abbrev pub decided : AnswererCore → pieces.Piece → Decision → ℕ → AnswererCore
decided a piece d now =
    record {
      state = state_after a.state d;
      history = record { piece = piece; decision = d } ∷ a.history;
      waiting = a.waiting ++ reply_to d;
      timers = timers_after a piece d now;
      pace = a.pace;
    }

-- a piece comes, with the reading of what it asks
abbrev pub came : Reading → AnswererCore → pieces.Piece → ℕ → AnswererCore
came read a piece now =
    decided a piece (decision read a.state (is_waiting a.waiting) a.history piece) now

abbrev pub asked : AnswererCore → pieces.Piece → Option Question
asked a piece = asked_of a.state (is_waiting a.waiting) a.history piece

-- What is asked while these pieces come: the first that asks. Its reply waits then, and the pieces after it ask nothing.
abbrev pub or_else : Option Question → Option Question → Option Question
or_else None other = other
or_else (Some q) other = Some q

abbrev pub first_asked : AnswererCore → List pieces.Piece → ℕ → Option Question
first_asked a [] now = None
first_asked a (piece ∷ more) now =
    or_else (asked a piece) (first_asked (came None a piece now) more now)

-- the pieces of a datagram come, with its reading
abbrev pub came_all : Reading → AnswererCore → List pieces.Piece → ℕ → AnswererCore
came_all read a [] now = a
came_all read a (piece ∷ more) now = came_all read (came read a piece now) more now

-- A TICK. Timers act where no packet waits: T1 before the others.
abbrev pub says_goodbye : AnswererCore → AnswererCore
says_goodbye a = record a { state = Closing; waiting = plain_reply Dcn None; timers = no_timers }

abbrev pub identifies_again : AnswererCore → AnswererCore
identifies_again a =
    record a { waiting = dis_reply; timers = record { t1 = a.timers.t1; t2 = None; t4 = None } }

abbrev pub identifies_anew : AnswererCore → ℕ → AnswererCore
identifies_anew a now = record a {
  state = Identify;
  waiting = dis_reply;
  timers = record {
    t1 = Some (moment_after now spans.t1);
    t2 = None;
    t4 = None;
  };
}

-- IDENTIFY: T1 due, DCN; T4 due, DIS again. LISTEN, TRAIN, PAGE: T2 due, DCN. AGAIN: T2 due, DIS, and Identify with T1 set
-- (that T2 is waited for here is this project's profile)
abbrev pub timed_in : State → AnswererCore → ℕ → AnswererCore
timed_in Idle a now = a
timed_in Closing a now = a
timed_in Identify a now =
    if is_due a.timers.t1 now then says_goodbye a
    else if is_due a.timers.t4 now then identifies_again a else a
timed_in Again a now = if is_due a.timers.t2 now then identifies_anew a now else a
timed_in state a now = if is_due a.timers.t2 now then says_goodbye a else a

abbrev pub timed : AnswererCore → ℕ → AnswererCore
timed a now = if is_waiting a.waiting then a else timed_in a.state a now

-- the last packet that waits is given: Closing becomes Idle, and the state's T4 or T2 is set
abbrev pub state_when_given : State → State
state_when_given Closing = Idle
state_when_given state = state

abbrev pub timers_when_given : State → Timers → ℕ → Timers
timers_when_given Identify t now =
    record { t1 = t.t1; t2 = None; t4 = Some (moment_after now spans.t4) }
timers_when_given Listen t now =
    record { t1 = t.t1; t2 = Some (moment_after now spans.t2); t4 = None }
timers_when_given (Train dcs) t now =
    record { t1 = t.t1; t2 = Some (moment_after now spans.t2); t4 = None }
timers_when_given (Page dcs) t now =
    record { t1 = t.t1; t2 = Some (moment_after now spans.t2); t4 = None }
timers_when_given Again t now =
    record { t1 = t.t1; t2 = Some (moment_after now spans.t2); t4 = None }
timers_when_given state t now = t

abbrev pub is_closing : State → Bool
is_closing Closing = true
is_closing state = false

-- what a tick leaves, the packet that it gives, and whether the call has ended
pub record TickResult : Type 0 where
  pub core : AnswererCore
  pub given : Option WaitingPacket
  pub ended : Bool

-- one packet is given where one waits
abbrev pub given_first : AnswererCore → ℕ → List WaitingPacket → TickResult
given_first a now [] = record { core = a; given = None; ended = false }
given_first a now (w ∷ []) =
    record {
      core = record {
        state = state_when_given a.state;
        history = a.history;
        waiting = [];
        timers = timers_when_given a.state a.timers now;
        pace = pace_after (is_preamble w.packet) a.pace now;
      };
      given = Some w;
      ended = is_closing a.state;
    }
given_first a now (w ∷ v ∷ waiting) =
    record {
      core = record {
        state = a.state;
        history = a.history;
        waiting = v ∷ waiting;
        timers = a.timers;
        pace = pace_after (is_preamble w.packet) a.pace now;
      };
      given = Some w;
      ended = false;
    }

-- and where the pace allows
abbrev pub paced : AnswererCore → ℕ → TickResult
paced a now = if pace_allows a.pace.last now
    then given_first a now a.waiting else record { core = a; given = None; ended = false }

abbrev pub ticked : AnswererCore → ℕ → TickResult
ticked a now = paced (timed a now) now

-- A CALL: the pieces that come, each with the reading of what it asks, and the ticks, the newest first
pub data CallEvent : Type 0 where
  Comes : (piece : pieces.Piece) → (now : ℕ) → (read : Reading) → CallEvent
  Ticks : (now : ℕ) → CallEvent

abbrev pub after_event : AnswererCore → CallEvent → AnswererCore
after_event a (Comes piece now read) = came read a piece now
after_event a (Ticks now) = (ticked a now).core

-- from the core as it was rung, through these events
abbrev pub after_events : AnswererCore → List CallEvent → AnswererCore
after_events a [] = a
after_events a (e ∷ before) = after_event (after_events a before) e
