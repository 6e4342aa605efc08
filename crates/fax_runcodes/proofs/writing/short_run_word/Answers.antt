use Rattle.std.proofs.Common.{sym, ◌∙◌}
use Rattle.fax_runcodes.proofs.WriteLemmas.{written_run-short}
use Rattle.fax_runcodes.proofs.writing.short_run_word.Goals as goal

pub returns-clause-text : goal.returns-clause-text
returns-clause-text c = c.terminating_word.ensures.text_is ∙ sym (written_run-short c.args.colour c.args.n c.requires)
