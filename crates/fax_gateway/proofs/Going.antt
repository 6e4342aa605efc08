-- Every trace goes on.
use Rattle.std.proofs.Common.{ℕ, max, refl}
use Rattle.fax_answer.proofs.Readings.{questions_are_known}
use Rattle.fax_gateway.specs.Events.{Given, clock}
use Rattle.fax_gateway.specs.CallingLegs.{calling_leg, decided_calling, question, told_calling}
use Rattle.fax_gateway.specs.CalledLegs.{decided_called, told_called, told_report}
use Rattle.fax_gateway.specs.BothLegs.{both_legs, in_tick}
use Rattle.fax_gateway.specs.GoesOn.{TracesGoOn}

pub goes_on : TracesGoOn
goes_on setup writes earlier t =
    record {
      ring = λ at idle few. ((refl, few, idle), t);
      from_calling = λ octets at.
          let r = questions_are_known (question (calling_leg setup earlier) (max at (clock earlier)) octets) in
          (decided_calling (calling_leg setup earlier) octets, r.0, ((refl, r.1), t));
      from_called = λ octets at. (decided_called writes (both_legs setup writes earlier).leg octets, (refl, t));
      tick = λ at.
          let now : ℕ = max at (clock earlier) in
          let given : Given = record {
            on_calling = told_calling setup (calling_leg setup earlier) now;
            on_called = told_called setup writes (in_tick setup writes earlier at).leg now;
            report = told_report writes (in_tick setup writes earlier at).leg now;
          } in
          (given, (refl, t));
      placed = λ at connected asked. (asked, t);
    }
