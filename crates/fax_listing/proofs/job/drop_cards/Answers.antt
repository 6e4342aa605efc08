use Rattle.std.proofs.Common.{rules, tests}
use Rattle.std.proofs.lemmas.Fn.{filter_same}
use Rattle.fax_listing.proofs.job.drop_cards.Goals as goal

pub returns : goal.returns
returns c = filter_same _ _ _ (λ x b q k. search (rules, tests)) _ _ c.retain.ensures.filtered
