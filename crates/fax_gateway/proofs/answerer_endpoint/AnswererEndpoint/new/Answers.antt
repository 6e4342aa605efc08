use Rattle.std.proofs.Common.{ℕ, [], subst}
use Rattle.fax_udptl.specs.Slots.{slots, newest_slots}
use Rattle.fax_answer.specs.Calls.{new_answering}
use Rattle.fax_answer.specs.Reached.{IsReached}
use Rattle.fax_gateway.proofs.answerer_endpoint.AnswererEndpoint.new.Goals as goal

pub returns : goal.returns
unfolding newest_slots slots
returns g c setup set = record {
  number = tt;
  core = subst (λ (pause : ℕ). IsReached (newest_slots []) (new_answering pause) c.new-2.result) set.pause c.new-2.ensures;
  on_leg = c.in_ok-leg.ensures setup set.redundancy;
}
