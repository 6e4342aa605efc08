use Rattle.std.proofs.Common.{refl}
use Rattle.fax_loop.specs.Exchanges.{trace_after}
use Rattle.fax_loop.proofs.ExchangeLemmas.{played_ended}
use Rattle.fax_loop.proofs.exchange.Parties.end.Goals as goal

pub returns : goal.returns
returns c = λ setup writes job before after ended.
    played_ended setup writes job before after _ _ _ (λ rounds reached. c.report.ensures.told setup writes (trace_after rounds) reached) refl ended
