use Rattle.toml.specs.View.{table_view}
use Rattle.fax_config.specs.SipConfigurations.{IsSip}
use Rattle.fax_config.proofs.SipLemmas.{misfit_of_taken}
use Rattle.fax_config.proofs.reading.sip_with.Goals as goal

pub returns-in-Err-sip_unlike-clause-fault : goal.returns-in-Err-sip_unlike-clause-fault
returns-in-Err-sip_unlike-clause-fault c =
    let told : IsSip (table_view c.args.table.now) c.in-Ok-Some.sip = rw c.in-Ok-Some.field-0-is at c.in-Ok-Some.ensures.told in
    misfit_of_taken (table_view c.args.table.now) told.head.0 c.in-Ok-Some.sip.local c.in-Ok-Some.sip.audio c.in-Ok-Some.sip.ring_seconds c.in-Err-sip_unlike.misfit told.head.1 told.head.2
    c.in-Err-sip_unlike.ensures.fault
