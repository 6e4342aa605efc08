-- LADDERS: the lines that `faxgate explain` prints: what is told of each event, at its moment. (This project's profile.)
use Rattle.std.specs.Prelude.{◌≡◌, ℕ, ◌⊎◌, max, Bool, true, false, List, [], ◌∷◌, ◌++◌, length, Option, Some, None, codes, decimal, map}
use Rattle.fax_udptl.specs.Datagrams.{DatagramValue, datagram_of}
use Rattle.fax_jobs.specs.declared.report.Report.{Report}
use Rattle.fax_jobs.specs.Jobs.{JobValue}
use Rattle.fax_jobs.specs.ReportTexts.{report_text}
use Rattle.fax_answer.specs.Table.{Reading}
use Rattle.fax_call.specs.Delivery.{is_over}
use Rattle.fax_call.specs.declared.state.State.{State}
use Rattle.fax_call.specs.Writings.{Writing}
use Rattle.fax_gateway.specs.Asking.{asked_after}
use Rattle.fax_gateway.specs.declared.given.Kept.{Kept}
use Rattle.fax_gateway.specs.declared.given.RefusedPage.{RefusedPage}
use Rattle.fax_gateway.specs.CallingLegs.{CallingLeg, calling_leg, core_of, is_idle}
use Rattle.fax_gateway.specs.CalledLegs as called_legs
use Rattle.fax_gateway.specs.CalledLegs.{CalledLeg}
use Rattle.fax_gateway.specs.BothLegs.{both_legs, in_tick}
use Rattle.fax_gateway.specs.Events.{Event, Given, Ring, FromCalling, FromCalled, Tick, Placed, clock}
use Rattle.fax_gateway.specs.Reached.{given_on}
use Rattle.fax_gateway.specs.Reports.{job_sent}
use Rattle.fax_gateway.specs.Setups.{Setup}
use Rattle.fax_gateway.specs.Turns.{IsRefusedAt, call_on, kept_at}
use Rattle.fax_gateway.specs.Watched.{called_acting, called_state, called_tellings, calling_acting, calling_state, calling_tellings}
use Rattle.fax_notes.specs.Notes.{answer_notes, call_notes}
use Rattle.fax_trace.specs.declared.event.ScriptEvent.{ScriptEvent}
use Rattle.fax_trace.specs.Playing.{PlayedScript, Accepts, Refuses, newly_asked}
use Rattle.fax_descriptions.specs.declared.lane.Lane.{Lane}
use Rattle.fax_descriptions.specs.declared.lane.Lane.TheVariants.{FromCaller, FromCalled, ToCaller, ToCalled}
use Rattle.fax_descriptions.specs.Reasons.{ended_text, refusal_text}
use Rattle.fax_descriptions.specs.Tales.{inside, last_with, line_text}
use Rattle.fax_descriptions.specs.Tellings.{Description}
use Rattle.fax_descriptions.specs.Words.{format_text}
use Rattle.fax_explain.specs.Given.{TellsGiven, called_timer_lines, given_datagrams, given_to, timer_lines, to_called}
use Rattle.fax_explain.specs.Heard.{AreAll, TellsDatagram, arrived_with}
use Rattle.fax_explain.specs.Listening.{in_call, outside_call}
use Rattle.fax_explain.specs.Marks.{given_signal, mark_of_answer, mark_of_call}
use Rattle.fax_explain.specs.Places.{confirmed_text, next_if}
use Rattle.fax_explain.specs.declared.mark.Mark.{Mark}

-- where a job ended, its report is told, in the gateway itself, and after it why it ended so
abbrev pub report_tellings : Option Report → List Description
report_tellings None = []
report_tellings (Some report) = inside (report_text report ++ ended_text report.outcome) ∷ []

-- where a page is confirmed, the last line of what is given, which is its MCF, goes on with the page: its number in its call, and what
-- the gateway keeps of it
abbrev pub with_page : Option Kept → (page : ℕ) → List Description → List Description
with_page None page told = told
with_page (Some kept) page told = last_with (confirmed_text kept page) told

-- how many pages of the last call were confirmed; their numbers stop at the greatest of 32 bits
abbrev pub pages_so_far : Setup → List Event → ℕ
pages_so_far setup [] = 0
pages_so_far setup (Ring now number ∷ earlier) = 0
pages_so_far setup (FromCalling octets now decided read ∷ earlier) = pages_so_far setup earlier
pages_so_far setup (FromCalled octets now decided ∷ earlier) = pages_so_far setup earlier
pages_so_far setup (Tick now given ∷ earlier) =
    next_if (kept_at (calling_leg setup earlier) (max now (clock earlier)))
    (pages_so_far setup earlier)
pages_so_far setup (Placed now connected ∷ earlier) = pages_so_far setup earlier

-- where a page is refused, the last line of what is given, which is its RTN, goes on with why
abbrev pub with_why : Option RefusedPage → List Description → List Description
with_why None told = told
with_why (Some refused) told = last_with (codes ": " ++ refusal_text refused.why) told

-- the timers that act in a tick are told: that of the calling leg, and that of the called leg
abbrev pub timers_told : Option CallingLeg → (now : ℕ) → List Description
timers_told leg now = timer_lines (calling_acting leg now) (calling_state leg)

abbrev pub called_timers_told : Writing → Option CalledLeg → (now : ℕ) → List Description
called_timers_told writes leg now = called_timer_lines (called_acting writes leg now)

-- where the call of a job begins, that is told in the gateway itself: with the number of the call that its pages came in, the format
-- of the first, and how many there are
abbrev pub begun_text : JobValue → List ℕ
begun_text job = codes "the job of call " ++ (decimal job.call ++ (codes " is sent on: "
    ++ (format_text job.format ++ (codes ", pages: " ++ decimal (length job.pages)))))

abbrev pub begun_tellings : Option JobValue → List Description
begun_tellings None = []
begun_tellings (Some job) = inside (begun_text job) ∷ []

-- the call of a job is placed, which is told on the called leg, and begins; or it could not be placed
abbrev pub on_called : List ℕ → Description
on_called words = record { lane = ToCalled; words = words }

abbrev pub placed_tellings : (connected : Bool) → JobValue → List Description
placed_tellings true job =
    on_called (codes "the call is placed: it has answered") ∷ inside (begun_text job) ∷ []
placed_tellings false job = on_called (codes "the call could not be placed") ∷ []

-- the end of a call is told, where it ends
abbrev pub over_tellings : (before after : Option ℕ) → List Description
over_tellings (Some call) None = inside (codes "call " ++ (decimal call ++ codes " is over")) ∷ []
over_tellings before after = []

-- THE MARKS of a datagram's pieces: the gateway is told of each frame, each beginning and each end of a signal, in the order of
-- time, what it was taken as, and each of these has the mark of what was told of it (specs/Watched of fax_gateway)
abbrev pub caller_marks : Option CallingLeg → (now : ℕ) → (octets : List ℕ) → Reading → List Mark
caller_marks leg now octets read =
    map mark_of_answer (answer_notes (calling_tellings leg now octets read))

abbrev pub called_marks : Writing → Option CalledLeg → (now : ℕ) → (octets : List ℕ) → List Mark
called_marks writes leg now octets =
    map mark_of_call (call_notes (called_tellings writes leg now octets))

-- A datagram comes from the caller in a call: after those that arrived in this call, a line for each thing that it brings, and no
-- others, that of a piece in the words of its mark, which each has; and last that the call is over, where it ends.
pub record TellsInCall (marks : List Mark)
    (arrived : List DatagramValue) (octets : List ℕ) (over told : List Description) : Type 0 where
  pub own : List Description
  pub brought : TellsDatagram (in_call FromCaller) marks arrived (datagram_of octets) [] own
  pub each : AreAll marks arrived (datagram_of octets)
  pub told_is : told ≡ own ++ over

-- the datagrams that came from the caller since the last call began, in it and after it; before a first call all that came
abbrev pub came_from_caller : List Event → List DatagramValue
came_from_caller [] = []
came_from_caller (Ring now number ∷ earlier) = []
came_from_caller (FromCalling octets now decided read ∷ earlier) =
    arrived_with (came_from_caller earlier) (datagram_of octets)
came_from_caller (FromCalled octets now decided ∷ earlier) = came_from_caller earlier
came_from_caller (Tick now given ∷ earlier) = came_from_caller earlier
came_from_caller (Placed now connected ∷ earlier) = came_from_caller earlier

-- the call of a job begins where one is sent and none was
abbrev pub newly_sent : (before after : Option JobValue) → Option JobValue
newly_sent None after = after
newly_sent (Some job) after = None

-- none, where the call of a job begins
abbrev pub since_begun : Option JobValue → List DatagramValue → List DatagramValue
since_begun None came = came
since_begun (Some job) came = []

-- and those that came from the called machine since the call of the last job began, or could not be placed
abbrev pub came_from_called : Setup → Writing → List Event → List DatagramValue
came_from_called setup writes [] = []
came_from_called setup writes (Ring now number ∷ earlier) = came_from_called setup writes earlier
came_from_called setup writes (FromCalling octets now decided read ∷ earlier) =
    came_from_called setup writes earlier
came_from_called setup writes (FromCalled octets now decided ∷ earlier) =
    arrived_with (came_from_called setup writes earlier) (datagram_of octets)
came_from_called setup writes (Tick now given ∷ earlier) =
    since_begun (newly_sent (job_sent (both_legs setup writes earlier).leg) (job_sent (both_legs
    setup writes (Tick now given ∷ earlier)).leg)) (came_from_called setup writes earlier)
came_from_called setup writes (Placed now connected ∷ earlier) = []

-- While no call is on: a line for each thing that it brings after those that came since the last call began, which ends with that no call
-- is on, where it is told whole.
abbrev pub TellsOutside : Lane
    → (came : List DatagramValue) → (octets : List ℕ) → List Description → Type 0
TellsOutside lane came octets told =
    TellsDatagram (outside_call lane) [] came (datagram_of octets) [] told

abbrev pub InCall : (is_over : Bool) → (outside inside : Type 0) → Type 0
InCall true outside inside = outside
InCall false outside inside = inside

abbrev pub TellsFromCaller : (before after : Option CallingLeg)
    → List Mark → (came : List DatagramValue) → (octets : List ℕ) → List Description → Type 0
TellsFromCaller None after marks came octets told = TellsOutside FromCaller came octets told
TellsFromCaller (Some leg) after marks came octets told =
    InCall (is_idle (core_of leg).state) (TellsOutside FromCaller came octets told)
    (TellsInCall marks leg.arrived octets (over_tellings (Some leg.number) (call_on after)) told)

-- the same of one that comes from the called machine while the call of its job is on; the end of that call is told by its report
abbrev pub TellsFromCalled : Writing → Option CalledLeg
    → List Mark → (came : List DatagramValue) → (octets : List ℕ) → List Description → Type 0
TellsFromCalled writes None marks came octets told = TellsOutside FromCalled came octets told
TellsFromCalled writes (Some leg) marks came octets told =
    InCall (is_over (called_legs.core_of writes leg).state) (TellsOutside FromCalled came
    octets told) (TellsDatagram (in_call FromCalled) marks leg.arrived (datagram_of octets) [] told
    × AreAll marks leg.arrived (datagram_of octets))

-- what a tick gives on each leg, after what was given in this call: a line for each thing, and no others. What signals are to the
-- called machine the state of the call tells.
abbrev pub TellsToCaller : Setup → Option CallingLeg → Option (List ℕ) → List Description → Type 0
TellsToCaller setup leg given told =
    TellsGiven (in_call ToCaller) (given_datagrams setup (given_on leg)) given [] told

abbrev pub TellsToCalled : Setup
    → Option CalledLeg → State → Option (List ℕ) → List Description → Type 0
TellsToCalled setup leg state given told =
    TellsGiven (to_called (given_signal state)) (given_datagrams setup (given_to leg)) given [] told

-- A TICK after these events tells in this order, and nothing else: the timers that act in it; what it gives to the caller, and the page
-- where that confirms one, or why where it refuses one; that the call is over, where it ends it; the job whose call begins in it; what
-- it gives to the called machine; and the report of the job that ended in it.
pub record TellsTick (setup : Setup) (writes : Writing)
    (earlier : List Event) (at : ℕ) (given : Given) (told : List Description) : Type 0 where
  pub to_caller : List Description
  pub gives_caller : TellsToCaller setup (calling_leg setup earlier) given.on_calling to_caller
  pub refused : Option RefusedPage
  pub is_refused : IsRefusedAt (calling_leg setup earlier) (max at (clock earlier)) refused
  pub to_called : List Description
  pub gives_called : TellsToCalled setup (in_tick setup writes earlier at).leg (called_state
      writes (both_legs setup writes (Tick at given ∷ earlier)).leg) given.on_called to_called
  pub told_is : told ≡ timers_told (calling_leg setup earlier) (max at (clock earlier))
      ++ (called_timers_told writes (both_legs setup writes earlier).leg (max at (clock earlier))
      ++ (with_why refused (with_page (kept_at (calling_leg setup earlier) (max at (clock earlier)))
      (pages_so_far setup (Tick at given ∷ earlier)) to_caller) ++ (over_tellings
      (call_on (calling_leg setup earlier)) (call_on (calling_leg setup (Tick at given ∷ earlier)))
      ++ (begun_tellings (newly_sent (job_sent (both_legs setup writes earlier).leg)
      (job_sent (both_legs setup writes (Tick at given ∷ earlier)).leg))
      ++ (to_called ++ report_tellings given.report)))))

-- what is told of an event that is accepted after these has the gateway's answer: a ring its call's number; a datagram what it brings,
-- and in a call as what each piece of it was taken; a tick all that it does; and a call that is placed or not the job that was asked for
abbrev pub HasAnswer : Setup → Writing → (earlier : List Event) → Event → List Description → Type 0
HasAnswer setup writes earlier (Ring now number) told =
    told ≡ inside (codes "ring " ++ decimal number) ∷ []
HasAnswer setup writes earlier (FromCalling octets now decided read) told =
    let leg = calling_leg setup earlier
    in TellsFromCaller leg (calling_leg setup (FromCalling octets now decided read ∷ earlier))
    (caller_marks leg (max now (clock earlier)) octets read) (came_from_caller earlier) octets told
HasAnswer setup writes earlier (FromCalled octets now decided) told =
    let leg = (both_legs setup writes earlier).leg
    in TellsFromCalled writes leg (called_marks writes leg (max now (clock earlier)) octets)
    (came_from_called setup writes earlier) octets told
HasAnswer setup writes earlier (Tick now given) told = TellsTick setup writes earlier now given told
HasAnswer setup writes earlier (Placed now connected) told = (job : JobValue)
    × (asked_after setup writes earlier ≡ Some job) × (told ≡ placed_tellings connected job)

-- the call of a job is asked for
abbrev pub asked_tellings : Option ℕ → List Description
asked_tellings None = []
asked_tellings (Some call) = inside (codes "asks " ++ (decimal call
    ++ (codes ": a call is to be placed for the job of call " ++ decimal call))) ∷ []

-- the gateway accepts an event, and its answer is told, and after it the call that it asks for from then on
pub record TellsAccepted (setup : Setup) (writes : Writing) (old : PlayedScript)
    (event : ScriptEvent) (new : PlayedScript) (told : List Description) : Type 0 where
  pub accepts : Accepts setup writes old event new
  pub own : List Description
  pub answer : HasAnswer setup writes old.trace accepts.accepted own
  pub told_is : told ≡ own ++ asked_tellings (newly_asked setup writes old.trace accepts.accepted)

-- or it refuses an event, and why is told as `faxgate trace` tells it
pub record TellsRefused (setup : Setup) (writes : Writing) (old : PlayedScript)
    (event : ScriptEvent) (new : PlayedScript) (told : List Description) : Type 0 where
  pub refuses : Refuses setup writes old event new
  pub why : List ℕ
  pub told_is : told ≡ inside (refuses.line ++ why) ∷ []

abbrev pub TellsPlay : Setup
    → Writing → PlayedScript → ScriptEvent → PlayedScript → List Description → Type 0
TellsPlay setup writes old event new told =
    TellsAccepted setup writes old event new told ⊎ TellsRefused setup writes old event new told

-- Events are played on a gateway, and lines tell them: a line for each thing that is told of an event, at its moment, those of
-- each event together, in the order of the events.
abbrev pub TellAll : Setup
    → Writing → PlayedScript → List ScriptEvent → PlayedScript → List (List ℕ) → Type 0
TellAll setup writes old [] new lines = (new ≡ old) × (lines ≡ [])
TellAll setup writes old (event ∷ events) new lines =
    (next : PlayedScript) × (told : List Description)
    × (rest : List (List ℕ)) × TellsPlay setup writes old event next told
    × (lines ≡ map (line_text next.moment) told ++ rest) × TellAll setup writes next events new rest
