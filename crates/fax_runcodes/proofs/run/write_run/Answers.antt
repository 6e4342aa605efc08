use Rattle.fax_runcodes.proofs.run.write_run.Goals as goal

pub returns-clause-ok : goal.returns-clause-ok
returns-clause-ok c = rw c.from.ensures at (rw c.run_word-word.ensures.text at c.put.ensures.ok)
