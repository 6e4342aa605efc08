use Rattle.fax_loop.proofs.ExchangeLemmas.{played_of}
use Rattle.fax_loop.proofs.LinkedPages.{exchange_is_faithful}
use Rattle.fax_loop.proofs.exchange.exchange.Goals as goal

pub returns-clause-played : goal.returns-clause-played
returns-clause-played g c = λ setup writes set writing.
    played_of setup writes _ _ _ _ _ _ c.in-Ok.ensures.made (c.in_ok-ended.ensures setup writes _ writing (c.in_ok-parties.ensures.begun setup writes _ set))

pub returns-clause-faithful : goal.returns-clause-faithful
returns-clause-faithful g c = exchange_is_faithful c.confirms_the_page_over_links.ensures _ _ _ _ _ _ c.requires c.rows.ensures.are_rows (returns-clause-played g c)
