use Rattle.fax_undelivered.proofs.CardBack.{cards_back}
use Rattle.fax_undelivered.proofs.laws.cards_are_read_back.Goals as goal

pub returns : goal.returns
returns c = cards_back
