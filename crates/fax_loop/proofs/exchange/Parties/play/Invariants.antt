use Rattle.fax_call.specs.Following.{IsJobOfCall}
use Rattle.fax_call.specs.Writings.{IsWriting, Writing}
use Rattle.std.proofs.Common.{[]}
use Rattle.fax_gateway.specs.Setups.{Setup}
use Rattle.fax_loop.specs.Exchanges.{Lines}
use Rattle.fax_loop.specs.Rep.{HasGone, HasPlayed}
use Rattle.fax_loop.proofs.exchange.Parties.play.Given as goal

-- the job is that of the call, and so many rounds were played
abbrev pub invariant-loop-round : goal.invariant-loop-round
invariant-loop-round g l =
    let told = g.E.End.told in
    let known = g.W.Wire.known in
    record {
      job : IsJobOfCall l.self.caller.caller.procedure l.job;
      gone :
          (setup : Setup) (writes : Writing) (before : Lines) → IsWriting writes
          → HasPlayed setup writes l.job [] before (record { caller = told l.fn.lines.caller; wire = known l.fn.lines.wire; answerer = told l.fn.lines.answerer }) l.fn.self
          → HasGone setup writes l.job l.round l.goes_on before (record { caller = told l.lines.caller; wire = known l.lines.wire; answerer = told l.lines.answerer }) l.self;
    }
