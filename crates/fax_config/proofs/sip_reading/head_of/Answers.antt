use Rattle.std.proofs.Common.{rules, arith, ◌≡◌, codes, Some, sym, subst}
use Rattle.std.proofs.lemmas.Grind.{common_steps}
use Rattle.std.specs.declared.net.socket_addr.SocketAddr.{SocketAddr}
use Rattle.toml.specs.View.{table_view}
use Rattle.fax_config.specs.Members.{IsAddressAt}
use Rattle.fax_config.proofs.sip_reading.head_of.Goals as goal

pub returns-then-eq-clause-fault : goal.returns-then-eq-clause-fault
returns-then-eq-clause-fault c =
    let same : c.in-Ok.head.local ≡ c.in-Ok.head.audio = first_of (search rules, grind (arith, common_steps)) in
    (c.in-Ok.head.local, c.in-Ok.ensures.local, subst (λ (address : SocketAddr). IsAddressAt (codes "audio") (table_view c.args.table.now) (Some address)) (sym same) c.in-Ok.ensures.audio)
