use Rattle.std.proofs.Common.{reverse, ap}
use Rattle.fax_loop.proofs.ExchangeLemmas.{carried_none}
use Rattle.fax_loop.proofs.exchange.Parties.new.Goals as goal

pub returns-clause-job : goal.returns-clause-job
returns-clause-job c = c.in_ok-caller.ensures.job

pub returns-clause-begun : goal.returns-clause-begun
returns-clause-begun c = λ setup writes lines set. record {
  are_rounds = tt;
  gateway = c.in_ok-gateway.ensures setup writes set;
  driver = c.in_ok-driver.ensures;
  caller = c.in_ok-caller.ensures.begun setup writes set.set;
  answerer = c.in_ok-answerer.ensures setup set.set;
  pages_are = ap reverse c.new-4.ensures.items;
  carried = carried_none setup writes c.args.job.now lines;
}
