use Rattle.fax_loop.proofs.exchange.send_page.Goals as goal

pub returns : goal.returns
returns g c = record { before = c.in_ok-lines.lines; after = c.exchange.new.lines; is_opened = c.in_ok-lines.ensures; exchange = c.in_ok-ended.ensures.played; faithful = c.in_ok-ended.ensures.faithful }
