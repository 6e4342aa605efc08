-- EXCHANGES OVER LINKED LINES GO ON, whatever comes of what was handed over. So no law over linked lines speaks of nothing. (This
-- project's profile.) Lists have the newest first.
use Rattle.std.specs.Prelude.{◌≡◌, ℕ, ◌+◌, ◌<◌, ◌≤◌, All, Contains, List, [], ◌∷◌, ◌++◌, flat_map, length, Option, Some}
use Rattle.std.specs.List.{count_by}
use Rattle.fax_pagestore.specs.Pages.{PageValue}
use Rattle.fax_jobs.specs.declared.report.Report.{Report}
use Rattle.fax_jobs.specs.Jobs.{JobValue}
use Rattle.fax_call.specs.Writings.{Writing}
use Rattle.fax_gateway.specs.Setups.{Setup}
use Rattle.fax_gateway.specs.Driving.{Entry, is_failed_receive, is_failed_send, most_datagrams, receipts, sent}
use Rattle.fax_gateway.specs.Reached.{given_on}
use Rattle.fax_gateway.specs.Traces.{IsTrace}
use Rattle.fax_loop.specs.Exchanges.{AreRounds, CarriesRounds, IsOver, IsPlayed, Lines, Round, answerer_after, caller_after, log_after, moment_after, trace_after}
use Rattle.fax_loop.specs.Links.{AreLinked, AreLinkedBack, came_called, came_calling, handed_called, most_near}
use Rattle.fax_terminal.specs.Terminals.{ReadDatagram, calling_turned, datagrams_of, octets_of}

-- what lines tell after these rounds that tell all that went over them in these
abbrev pub lines_after : Setup → Writing → JobValue → List Round → Lines
lines_after setup writes job rounds =
    record {
      caller = record {
        received = Some (flat_map (λ round. round.calling) rounds);
        sent = Some (datagrams_of setup (caller_after setup writes job rounds).given);
      };
      wire = record {
        failures = count_by is_failed_receive (log_after rounds)
            + count_by is_failed_send (log_after rounds);
        received = Some (receipts (log_after rounds));
        sent = Some (sent (log_after rounds));
      };
      answerer = record {
        received = Some (flat_map (λ round. octets_of round.called) rounds);
        sent = Some (datagrams_of setup (given_on (answerer_after setup rounds)));
      };
    }

-- AN EXCHANGE SO FAR over lines that are linked both ways, from when nothing had gone over them
pub record IsLinkedSoFar (setup : Setup) (writes : Writing) (job : JobValue) (rounds : List Round) :
    Type 0 where
  pub are_rounds : AreRounds setup writes rounds
  pub trace : IsTrace setup writes (trace_after rounds)
  pub carried : CarriesRounds setup writes job rounds (lines_after setup writes job [])
      (lines_after setup writes job rounds)
  pub linked : AreLinked (lines_after setup writes job []) (lines_after setup writes job rounds)
  pub linked_back :
      AreLinkedBack (lines_after setup writes job []) (lines_after setup writes job rounds)

-- ---- what was handed over until a turn of the next round: by the machine that calls, to which these come in it; by the machine that
-- is called; and on the gateway's called leg, where this is its turn
abbrev pub by_caller : Setup → Writing → JobValue → List Round → List (List ℕ) → List (List ℕ)
by_caller setup writes job rounds came = datagrams_of setup
    (calling_turned writes (moment_after rounds) came (caller_after setup writes job rounds)).given

abbrev pub by_answerer : Setup → List Round → List (List ℕ)
by_answerer setup rounds = datagrams_of setup (given_on (answerer_after setup rounds))

abbrev pub by_gateway : List Round → List Entry → List (List ℕ)
by_gateway rounds turn = handed_called (sent (turn ++ log_after rounds))

-- What comes in the next round, at most 16 datagrams each: any to the machine that calls, and to the gateway some of those that were
-- handed over at the other end, in any order, some of them more than once.
pub record Comes (setup : Setup) (writes : Writing) (job : JobValue)
    (rounds : List Round) (to_caller on_calling on_called : List (List ℕ)) : Type 0 where
  pub few_to_caller : length to_caller ≤ most_datagrams
  pub few_on_calling : length on_calling ≤ most_datagrams
  pub few_on_called : length on_called ≤ most_datagrams
  pub from_caller : All (Contains (by_caller setup writes job rounds to_caller)) on_calling
  pub from_answerer : All (Contains (by_answerer setup rounds)) on_called

-- The gateway has a turn in which just these come. And whichever then come to the machine that is called, of those that the gateway
-- handed over, the exchange goes on with that round.
pub record GoesOn (setup : Setup) (writes : Writing) (job : JobValue)
    (rounds : List Round) (to_caller on_calling on_called : List (List ℕ)) : Type 0 where
  pub turn : List Entry
  pub calling_is : came_calling (receipts turn) ≡ on_calling
  pub called_is : came_called (receipts turn) ≡ on_called
  pub round : (to_answerer : List (List ℕ)) → length to_answerer ≤ most_datagrams
      → All (Contains (by_gateway rounds turn)) to_answerer → (came : List ReadDatagram)
      × (octets_of came ≡ to_answerer) × IsLinkedSoFar setup writes job (record {
        calling = to_caller;
        gateway = turn;
        called = came;
      } ∷ rounds)

-- ---- laws

-- It begins.
abbrev pub LinksBegin : Type 0
LinksBegin = (setup : Setup) (writes : Writing) (job : JobValue) → IsLinkedSoFar setup writes job []

-- It goes on while it is not over, for 32,767 rounds: whatever is lost, repeated, late and out of order. So all may come at once that
-- was handed over, and nothing may.
abbrev pub LinksGoOn : Type 0
LinksGoOn = (setup : Setup) (writes : Writing)
    (job : JobValue) (rounds : List Round) (to_caller on_calling on_called : List (List ℕ))
    → IsLinkedSoFar setup writes job rounds → (IsOver setup writes rounds → ⊥)
    → length rounds + 1 < most_near → Comes setup writes job rounds to_caller on_calling on_called
    → GoesOn setup writes job rounds to_caller on_calling on_called

-- And there is one that is played to its end: all receives of the gateway fail.
abbrev pub LinksArePlayed : Type 0
LinksArePlayed = (setup : Setup) (writes : Writing) (job : JobValue)
    → (before after : Lines) × (report : Option Report)
    × (pages : List PageValue) × IsPlayed setup writes job before after report pages
    × AreLinked before after × AreLinkedBack before after
