use Rattle.fax_call.proofs.Tries as lemmas
use Rattle.fax_call.proofs.laws.asks_three_times.Goals as goal

pub returns : goal.returns
returns c = lemmas.three_tries
