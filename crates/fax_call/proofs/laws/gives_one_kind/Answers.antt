use Rattle.fax_call.proofs.OneKind.{gives_one_kind}
use Rattle.fax_call.proofs.laws.gives_one_kind.Goals as goal

pub returns : goal.returns
returns c = gives_one_kind
