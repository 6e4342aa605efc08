use Rattle.std.proofs.Common.{sym, ◌∙◌, rules}
use Rattle.fax_call.proofs.RepLemmas.{step_few}
use Rattle.fax_call.proofs.procedure.Procedure.by_choice.Goals as goal

pub returns-in-Ok-clause-fits : goal.returns-in-Ok-clause-fits
returns-in-Ok-clause-fits c = (
  record {
    scan_time = search rules;
    step = step_few c.args.dis c.args.self.now.format c.args.counts.step c.in-Ok.dcs (sym c.choose.ensures.chosen ∙ c.in-Ok.is);
    delivered = c.requires.delivered;
  },
  c.requires.page,
)
