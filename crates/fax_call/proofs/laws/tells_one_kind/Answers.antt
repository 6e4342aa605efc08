use Rattle.fax_call.proofs.FinePackets.{tells_one_kind}
use Rattle.fax_call.proofs.laws.tells_one_kind.Goals as goal

pub returns : goal.returns
returns c = tells_one_kind
