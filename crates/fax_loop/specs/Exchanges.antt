-- AN EXCHANGE: a machine calls a gateway and sends the page of a job, and the gateway calls another machine, in rounds. In each
-- round the machine that calls has its turn, then the gateway, and then the machine that is called. (This project's profile.)
-- Lists have the newest first.
use Rattle.std.specs.Prelude.{◌≡◌, ℕ, ◌<◌, ◌≤◌, ◌⊎◌, List, [], ◌∷◌, ◌++◌, flat_map, length, reverse, slice_get, Option, None, IsSome}
use Rattle.fax_pagestore.specs.Pages.{PageValue}
use Rattle.fax_jobs.specs.declared.report.Report.{Report}
use Rattle.fax_jobs.specs.Jobs.{JobValue}
use Rattle.fax_call.specs.Writings.{IsWriting, Writing}
use Rattle.fax_gateway.specs.declared.settings.Settings.{Settings}
use Rattle.fax_gateway.specs.Setups.{AreSet, Setup}
use Rattle.fax_gateway.specs.Events.{Event, Ring}
use Rattle.fax_gateway.specs.Wires.{Grows, KnownWire}
use Rattle.fax_gateway.specs.Driving.{Carries, Entry, HasFailed, IsTurn, events, failed_in_a_row, moment_of, most_datagrams, most_failed, receipts}
use Rattle.fax_gateway.specs.CallingLegs.{CallingLeg}
use Rattle.fax_gateway.specs.CalledLegs.{CalledLeg}
use Rattle.fax_gateway.specs.Reached.{given_on}
use Rattle.fax_gateway.specs.BothLegs.{book_of, both_legs}
use Rattle.fax_gateway.specs.Traces.{IsTrace}
use Rattle.fax_terminal.specs.Ends.{EndTraffic}
use Rattle.fax_terminal.specs.Terminals.{AreCame, ReadDatagram, begins, called_turned, calling_turned, datagrams_of, octets_of, pages_on}

-- A round: what came to the machine that calls, the log of the gateway's turn, and what came to the machine that is called
pub record Round : Type 0 where
  pub calling : List (List ℕ)
  pub gateway : List Entry
  pub called : List ReadDatagram

-- rounds are 40 ms apart: the moment of the one after these
abbrev pub moment_after : List Round → ℕ
moment_after earlier = moment_of 0 (length earlier)

abbrev pub most_rounds : ℕ
most_rounds = 300000

-- ---- after rounds: the machines, the log of the gateway's turns, and its trace, which begins with a ring at moment 0
abbrev pub caller_after : Setup → Writing → JobValue → List Round → CalledLeg
caller_after setup writes job [] = begins setup writes job 0
caller_after setup writes job (round ∷ earlier) = calling_turned
    writes (moment_after earlier) round.calling (caller_after setup writes job earlier)

abbrev pub answerer_after : Setup → List Round → Option CallingLeg
answerer_after setup [] = None
answerer_after setup (round ∷ earlier) =
    called_turned setup (moment_after earlier) round.called (answerer_after setup earlier)

abbrev pub log_after : List Round → List Entry
log_after rounds = flat_map (λ round. round.gateway) rounds

abbrev pub trace_after : List Round → List Event
trace_after rounds = events (log_after rounds) ++ Ring 0 0 ∷ []

-- the report of the gateway's first job, once it is made
abbrev pub reported : Setup → Writing → List Round → Option Report
reported setup writes rounds =
    slice_get (book_of (both_legs setup writes (trace_after rounds))).reports 0

-- ---- Each round is played at its moment, after fewer than 300,000 others, and only where no job is reported and the gateway's
-- last 100 receives did not all fail; and each machine hears at most 16 datagrams.
pub record IsRound (setup : Setup) (writes : Writing) (earlier : List Round) (round : Round) :
    Type 0 where
  pub few : length earlier < most_rounds
  pub unreported : reported setup writes earlier ≡ None
  pub receives : failed_in_a_row (receipts (log_after earlier)) < most_failed
  pub few_calling : length round.calling ≤ most_datagrams
  pub turn : IsTurn (moment_after earlier) round.gateway
  pub few_called : length round.called ≤ most_datagrams
  pub read : AreCame setup (moment_after earlier) round.called (answerer_after setup earlier)

abbrev pub AreRounds : Setup → Writing → List Round → Type 0
AreRounds setup writes [] = Unit {0}
AreRounds setup writes (round ∷ earlier) =
    IsRound setup writes earlier round × AreRounds setup writes earlier

-- no more is played: the job is reported, the last 100 receives failed, or there were 300,000 rounds
abbrev pub IsOver : Setup → Writing → List Round → Type 0
IsOver setup writes rounds = IsSome (reported setup writes rounds)
    ⊎ (HasFailed (log_after rounds) ⊎ (length rounds ≡ most_rounds))

-- ---- what is known of what an exchange goes over: the ends of both machines, and the gateway's wire
pub record Lines : Type 0 where
  pub caller : EndTraffic
  pub wire : KnownWire
  pub answerer : EndTraffic

-- In these rounds they carried what each machine heard and gave, and what the gateway's log tells.
pub record CarriesRounds (setup : Setup)
    (writes : Writing) (job : JobValue) (rounds : List Round) (before after : Lines) : Type 0 where
  pub came_to_caller :
      Grows (flat_map (λ round. round.calling) rounds) before.caller.received after.caller.received
  pub caller_sent : Grows (datagrams_of setup (caller_after setup writes job rounds).given)
      before.caller.sent after.caller.sent
  pub wire : Carries (log_after rounds) before.wire after.wire
  pub came_to_answerer : Grows (flat_map
      (λ round. octets_of round.called) rounds) before.answerer.received after.answerer.received
  pub answerer_sent : Grows (datagrams_of setup (given_on (answerer_after setup rounds)))
      before.answerer.sent after.answerer.sent

-- It was played to its end: the gateway reported so, and these are the pages that the machine that is called confirmed, in order.
pub record IsPlayed (setup : Setup) (writes : Writing) (job : JobValue)
    (before after : Lines) (report : Option Report) (pages : List PageValue) : Type 0 where
  pub rounds : List Round
  pub are_rounds : AreRounds setup writes rounds
  pub over : IsOver setup writes rounds
  pub trace : IsTrace setup writes (trace_after rounds)
  pub carried : CarriesRounds setup writes job rounds before after
  pub report_is : report ≡ reported setup writes rounds
  pub pages_are : reverse pages ≡ pages_on (answerer_after setup rounds)

-- So it is of machines and a gateway with these settings, whatever gives the texts of pages.
abbrev pub IsExchange : Settings
    → JobValue → Lines → Lines → Option Report → List PageValue → Type 0
IsExchange settings job before after report pages = (setup : Setup) (writes : Writing)
    → AreSet setup settings → IsWriting writes → IsPlayed setup writes job before after report pages
