use Rattle.std.proofs.Common.{◌++◌, List, Bool, ap₂, sym, ◌∙◌}
use Rattle.fax_runcodes.proofs.WriteLemmas.{written_run-two}
use Rattle.fax_runcodes.proofs.writing.run_word.Goals as goal

pub returns-clause-text : goal.returns-clause-text
returns-clause-text c =
    c.then.ensures.text ∙ ap₂ (λ (s t : List Bool). s ++ t) c.make_up_word.ensures.text_is c.terminating_word.ensures.text_is
    ∙ sym (written_run-two c.args.colour c.args.n)
