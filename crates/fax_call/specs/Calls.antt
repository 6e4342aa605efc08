-- The caller over a call: what waits, timers, the pace, ticks. (ITU-T T.30, 5.4.3 for T1 and T4; that timers act in
-- ticks alone, and the pace, are this project's profile.)
use Rattle.std.specs.Prelude.{ℕ, ◌+◌, nat_le, true, false, List, [], ◌∷◌, length, map, take, drop, Option, Some, None, slice_get, if◌then◌else◌}
use Rattle.fax_runcodes.specs.declared.format.Format.{Format}
use Rattle.fax_frames.specs.declared.dcs.Dcs.{Dcs}
use Rattle.fax_frames.specs.Capabilities.{coding_of, least_bits_of}
use Rattle.fax_frames.specs.Frames.{frame_of}
use Rattle.fax_frames.specs.Rates.{kind_of}
use Rattle.fax_timers.specs.Moments.{moment_after, is_due}
use Rattle.fax_timers.specs.Paces.{PaceValue, new_pace, pace_after, pace_allows}
use Rattle.fax_timers.specs.Spans as spans
use Rattle.fax_pagestore.specs.Pages.{PageValue}
use Rattle.fax_ifp.specs.Pieces as pieces
use Rattle.fax_jobs.specs.declared.outcome.Outcome.{Outcome}
use Rattle.fax_jobs.specs.declared.outcome.Outcome.TheVariants as outcomes
use Rattle.fax_jobs.specs.Jobs.{JobValue}
use Rattle.fax_call.specs.declared.state.State.{State}
use Rattle.fax_call.specs.declared.state.State.TheVariants.{Idle, AwaitDis, AwaitCfr, AwaitMcf, Closing}
use Rattle.fax_call.specs.Writings.{Writing}
use Rattle.fax_call.specs.Replies.{Packet, Part, Due, One, Text, waits, signals_preamble, part_length, calling_tone, training, command_after, turn_after, command, image, goodbye}
use Rattle.fax_call.specs.Table.{Counts, no_counts, Move, Stays, Trains, Sends, AsksAgain, Turns, Closes, HangsUp, on_frame, on_timers}

-- the caller: its state, the format of the page due, those of all pages, the number of pages, its counts, what waits,
-- the first of it first, T1 and T4, the pace of its leg, and the outcome of a call that has ended
pub record CallerCore : Type 0 where
  pub state : State
  pub format : Format
  pub formats : List Format
  pub pages : ℕ
  pub counts : Counts
  pub waiting : List Due
  pub t1 : Option ℕ
  pub t4 : Option ℕ
  pub pace : PaceValue
  pub outcome : Option Outcome

-- no call was on the leg, and this pause is set
abbrev pub new_calling : ℕ → Format → CallerCore
new_calling pause format = record {
  state = Idle;
  format = format;
  formats = format ∷ [];
  pages = 1;
  counts = no_counts;
  waiting = [];
  t1 = None;
  t4 = None;
  pace = new_pace pause;
  outcome = None;
}

-- the formats of the pages of a job
abbrev pub formats_of : JobValue → List Format
formats_of job = map (λ page. page.format) job.pages

-- IDLE, the call of a job is started: CNG; T1 is set
abbrev pub started : CallerCore → JobValue → ℕ → CallerCore
started a job now =
    record {
      state = AwaitDis;
      format = job.format;
      formats = formats_of job;
      pages = length job.pages;
      counts = no_counts;
      waiting = calling_tone;
      t1 = Some (moment_after now spans.t1);
      t4 = None;
      pace = a.pace;
      outcome = None;
    }

-- IDLE, the call of a job could not be placed: it is over as it begins, and nothing is given. (This project's profile.)
abbrev pub not_placed : CallerCore → JobValue → CallerCore
not_placed a job =
    record {
      state = Idle;
      format = job.format;
      formats = formats_of job;
      pages = length job.pages;
      counts = no_counts;
      waiting = [];
      t1 = None;
      t4 = None;
      pace = a.pace;
      outcome = Some outcomes.NotPlaced;
    }

-- after a move; T1 and T4 are clear while packets wait
abbrev pub replied_with : CallerCore → State → Counts → List Due → CallerCore
replied_with a state c due =
    record {
      state = state;
      format = a.format;
      formats = a.formats;
      pages = a.pages;
      counts = c;
      waiting = due;
      t1 = None;
      t4 = None;
      pace = a.pace;
      outcome = a.outcome;
    }

abbrev pub moved : CallerCore → Move → CallerCore
moved a Stays = a
moved a (Trains dis dcs c) = replied_with a (AwaitCfr dis dcs) c (training dcs)
moved a (Sends dis dcs c) =
    replied_with a (AwaitMcf dis dcs) c (image (command_after a.formats a.pages c.page) c.page dcs)
moved a (AsksAgain c) = replied_with a a.state c (command (command_after a.formats a.pages c.page))
moved a (Turns format t1 c) =
    record {
      state = AwaitDis;
      format = format;
      formats = a.formats;
      pages = a.pages;
      counts = c;
      waiting = [];
      t1 = Some t1;
      t4 = None;
      pace = a.pace;
      outcome = a.outcome;
    }
moved a (Closes outcome c) = replied_with a (Closing outcome) c goodbye
moved a HangsUp = record {
  state = Idle;
  format = a.format;
  formats = a.formats;
  pages = a.pages;
  counts = a.counts;
  waiting = [];
  t1 = None;
  t4 = None;
  pace = a.pace;
  outcome = Some outcomes.HungUp;
}

-- A PIECE comes: frames alone matter, and none while packets wait
abbrev pub heard : CallerCore → pieces.Piece → ℕ → Move
heard a (pieces.Frame octets) now = if waits a.waiting then Stays else on_frame
    now a.format (turn_after a.formats a.counts.page) a.pages a.state a.counts (frame_of octets)
heard a piece now = Stays

abbrev pub came : CallerCore → pieces.Piece → ℕ → CallerCore
came a piece now = moved a (heard a piece now)

-- the pieces of a datagram, in the order of time
abbrev pub came_all : CallerCore → List pieces.Piece → ℕ → CallerCore
came_all a [] now = a
came_all a (piece ∷ more) now = came_all (came a piece now) more now

-- A TICK. Timers act where no packet waits.
abbrev pub timed : CallerCore → ℕ → CallerCore
timed a now = moved a (if waits a.waiting
    then Stays else on_timers (is_due a.t1 now) (is_due a.t4 now) a.state a.counts)

-- the text of a page of the job under a DCS: in its coding, with its least bits of a line
abbrev pub text_if : Writing → Dcs → Option PageValue → List ℕ
text_if writes dcs None = []
text_if writes dcs (Some page) = writes page (coding_of dcs) (least_bits_of dcs)

abbrev pub text_at : Writing → JobValue → ℕ → Dcs → List ℕ
text_at writes job page dcs = text_if writes dcs (slice_get job.pages page)

-- what is given of what waits, and what is left of it
pub record TakenPart : Type 0 where
  pub packet : Packet
  pub rest : List Due

abbrev pub taken_text : ℕ → Dcs → ℕ → List ℕ → List Due → TakenPart
taken_text page dcs from text due =
    if nat_le (length (drop from text)) (part_length dcs)
    then record { packet = Part (kind_of dcs.rate) true (drop from text); rest = due }
    else record {
      packet = Part (kind_of dcs.rate) false (take (part_length dcs) (drop from text));
      rest = Text page dcs (from + part_length dcs) ∷ due;
    }

abbrev pub taken : Writing → JobValue → Due → List Due → TakenPart
taken writes job (One packet) due = record { packet = packet; rest = due }
taken writes job (Text page dcs from) due =
    taken_text page dcs from (text_at writes job page dcs) due

-- the last packet that waits is given: Closing becomes Idle, with its outcome, and T4 is set
abbrev pub state_when_given : State → State
state_when_given (Closing outcome) = Idle
state_when_given state = state

abbrev pub outcome_when_given : State → Option Outcome → Option Outcome
outcome_when_given (Closing outcome) old = Some outcome
outcome_when_given state old = old

abbrev pub t4_when_given : State → Option ℕ → ℕ → Option ℕ
t4_when_given (AwaitCfr dis dcs) old now = Some (moment_after now spans.t4)
t4_when_given (AwaitMcf dis dcs) old now = Some (moment_after now spans.t4)
t4_when_given state old now = old

abbrev pub after_giving : CallerCore → ℕ → Packet → List Due → CallerCore
after_giving a now packet [] =
    record {
      state = state_when_given a.state;
      format = a.format;
      formats = a.formats;
      pages = a.pages;
      counts = a.counts;
      waiting = [];
      t1 = a.t1;
      t4 = t4_when_given a.state a.t4 now;
      pace = pace_after (signals_preamble packet) a.pace now;
      outcome = outcome_when_given a.state a.outcome;
    }
after_giving a now packet (d ∷ due) =
    record a { waiting = d ∷ due; pace = pace_after (signals_preamble packet) a.pace now }

-- what a tick leaves, and the packet that it gives
pub record TickResult : Type 0 where
  pub core : CallerCore
  pub given : Option Packet

-- one packet is given where one waits, and where the pace allows
abbrev pub given_first : Writing → JobValue → CallerCore → ℕ → List Due → TickResult
given_first writes job a now [] = record { core = a; given = None }
given_first writes job a now (d ∷ due) =
    let t : TakenPart = taken writes job d due in
    record { core = after_giving a now t.packet t.rest; given = Some t.packet }

abbrev pub paced : Writing → JobValue → CallerCore → ℕ → TickResult
paced writes job a now = if pace_allows a.pace.last now
    then given_first writes job a now a.waiting else record { core = a; given = None }

abbrev pub ticked : Writing → JobValue → CallerCore → ℕ → TickResult
ticked writes job a now = paced writes job (timed a now) now

-- A CALL over one unchanged job: what comes, with its moment, and the ticks, the newest first
pub data CallEvent : Type 0 where
  Comes : (piece : pieces.Piece) → (now : ℕ) → CallEvent
  Ticks : (now : ℕ) → CallEvent

abbrev pub after_event : Writing → JobValue → CallerCore → CallEvent → CallerCore
after_event writes job a (Comes piece now) = came a piece now
after_event writes job a (Ticks now) = (ticked writes job a now).core

abbrev pub after_events : Writing → JobValue → CallerCore → List CallEvent → CallerCore
after_events writes job a [] = a
after_events writes job a (e ∷ before) = after_event writes job (after_events writes job a before) e
