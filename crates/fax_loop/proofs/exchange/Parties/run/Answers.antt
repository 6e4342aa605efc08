use Rattle.fax_loop.proofs.exchange.Parties.run.Goals as goal

pub returns : goal.returns
returns g c = λ setup writes before writing played. c.end.ensures setup writes c.args.job.now before _ (c.in_ok-play.ensures setup writes before writing played)
