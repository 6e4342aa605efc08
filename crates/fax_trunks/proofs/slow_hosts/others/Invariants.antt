use Rattle.std.proofs.Common.{◌≡◌, ◌≤◌, length, take}
use Rattle.fax_trunks.specs.SlowHosts.{without}
use Rattle.fax_trunks.proofs.slow_hosts.others.Given as goal

abbrev pub invariant-loop-slow : goal.invariant-loop-slow
invariant-loop-slow l = record {
  others : l.others.items ≡ without (take l.slow-index l.hosts) l.host;
  few : length l.others.items ≤ l.slow-index;
}
