use Rattle.std.proofs.Common.{string_bytes}
use Rattle.fax_listing.proofs.LookLemmas.{answered}
use Rattle.fax_listing.proofs.run.run_spool.Goals as goal

pub returns-in-Ok-clause-answers : goal.returns-in-Ok-clause-answers
returns-in-Ok-clause-answers g c =
    λ no_stream no_memory.
    answered (g.I.Source.remaining c.args.one.now) (g.I.Source.remaining c.args.other.now) (g.I.Source.remaining c.args.kept_one.now) (g.I.Source.remaining c.args.kept_other.now) c.args.options _ _ c.in-Ok.seen c.print.result.status (string_bytes c.print.result.told) _ _
    (c.print.ensures.status no_stream) c.print.ensures.told (c.print.ensures.text no_stream) c.in-Ok.ensures.seen
