use Rattle.std.proofs.Common.{map, subst}
use Rattle.fax_gateway.specs.Restored.{call_shown}
use Rattle.fax_gateway.specs.Setups.{AreSetWith}
use Rattle.fax_line.proofs.line.Line.restore.Goals as goal

pub returns-clause-begins : goal.returns-clause-begins
returns-clause-begins g c = record {
  gateway = λ setup writes set. c.in_ok-gateway.ensures.reached setup writes (subst (λ s. AreSetWith setup s (map call_shown c.args.calls.items)) c.in_ok-gateway.ensures.settings set);
  driver = c.new.ensures;
}
