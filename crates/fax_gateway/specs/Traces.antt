-- TRACES: what can come to a gateway, with its answers, from its beginning on: a new one, or one that was restored after a crash,
-- as the setup says. A trace is a list of accepted events, the newest first. A ring is accepted while no call is on, and a call is
-- placed, or not, where one is asked for; what was refused, for want of memory too, is not in it.
use Rattle.std.specs.Prelude.{◌≡◌, ℕ, ◌<◌, max, true, IsSome, List, [], ◌∷◌}
use Rattle.fax_answer.specs.Confirmation.{IsRead}
use Rattle.fax_call.specs.Writings.{Writing}
use Rattle.fax_gateway.specs.Setups.{Setup}
use Rattle.fax_gateway.specs.Events.{Event, Ring, FromCalling, FromCalled, Tick, Placed, clock, rings}
use Rattle.fax_gateway.specs.CallingLegs.{calling_leg, idle_after, decided_calling, question, told_calling}
use Rattle.fax_gateway.specs.CalledLegs.{decided_called, told_called, told_report}
use Rattle.fax_gateway.specs.BothLegs.{book_of, job_asked, both_legs, in_tick}

-- The answer to an event is the one that the tables of both machines give. A ring has the number of rings before it.
abbrev pub IsAnswered : Setup → Writing → List Event → Event → Type 0
IsAnswered setup writes earlier (Ring at number) = (number ≡ rings earlier)
    × (number < 4294967296) × (idle_after (calling_leg setup earlier) ≡ true)
IsAnswered setup writes earlier (FromCalling octets at decided read) =
    (decided ≡ decided_calling (calling_leg setup earlier) octets)
    × IsRead (question (calling_leg setup earlier) (max at (clock earlier)) octets) read
IsAnswered setup writes earlier (FromCalled octets at decided) =
    decided ≡ decided_called writes (both_legs setup writes earlier).leg octets
IsAnswered setup writes earlier (Tick at given) =
    let now : ℕ = max at (clock earlier) in
    given ≡ record {
      on_calling = told_calling setup (calling_leg setup earlier) now;
      on_called = told_called setup writes (in_tick setup writes earlier at).leg now;
      report = told_report writes (in_tick setup writes earlier at).leg now;
    }
IsAnswered setup writes earlier (Placed at connected) =
    IsSome (job_asked setup.asks (book_of (both_legs setup writes earlier)))

abbrev pub IsTrace : Setup → Writing → List Event → Type 0
IsTrace setup writes [] = Unit {0}
IsTrace setup writes (e ∷ earlier) =
    IsAnswered setup writes earlier e × IsTrace setup writes earlier
