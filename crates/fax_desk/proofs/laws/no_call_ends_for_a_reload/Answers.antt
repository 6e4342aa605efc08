use Rattle.fax_desk.proofs.LawLemmas.{calm_first}
use Rattle.fax_desk.proofs.laws.no_call_ends_for_a_reload.Goals as goal

pub returns : goal.returns
returns c = calm_first
