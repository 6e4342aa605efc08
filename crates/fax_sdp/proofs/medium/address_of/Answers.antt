use Rattle.std.proofs.Common.{subst, sym, arith}
use Rattle.std.specs.Net.Grammar.{IsIpText}
use Rattle.std.specs.Net.Socket.{socket_ip}
use Rattle.fax_sdp.proofs.medium.address_of.Goals as goal

pub returns-in-Ok-clause-some : goal.returns-in-Ok-clause-some
returns-in-Ok-clause-some c = record {
  spelled = subst (IsIpText c.args.host.now) (sym c.new.ensures.ip) c.in-Ok.ensures.value;
  port_is = c.new.ensures.port;
  is_open = omega arith;
  flow_is = c.new.ensures.flowinfo;
  scope_is = c.new.ensures.scope_id;
}

pub returns-in-Err-clause-none : goal.returns-in-Err-clause-none
returns-in-Err-clause-none c = λ address is. c.in-Err.ensures.value (socket_ip address) is.spelled
