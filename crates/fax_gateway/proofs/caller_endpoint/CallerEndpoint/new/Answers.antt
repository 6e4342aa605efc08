use Rattle.std.proofs.Common.{ℕ, [], subst}
use Rattle.fax_call.specs.Calls.{new_calling}
use Rattle.fax_call.specs.Reached.{IsReached}
use Rattle.fax_gateway.proofs.caller_endpoint.CallerEndpoint.new.Goals as goal

pub returns-clause-reached : goal.returns-clause-reached
returns-clause-reached c setup writes set = record {
  core = λ job. subst (λ (pause : ℕ). IsReached writes job [] (new_calling pause c.new-2.result.procedure.format) c.new-2.result) set.pause (c.new-2.ensures.reached writes job);
  on_leg = tt;
}
