use Rattle.fax_bits.specs.Bits.{word_bits}
use Rattle.fax_runcodes.proofs.ReadLemmas.{found_of, none_begins}
use Rattle.fax_runcodes.proofs.run.word_at.Goals as goal

pub returns-clause-none : goal.returns-clause-none
returns-clause-none c = none_begins c.args.colour (word_bits 56 c.args.window) c.look_up.result c.look_up.ensures

pub returns-clause-found : goal.returns-clause-found
returns-clause-found c = found_of c.args.colour (word_bits 56 c.args.window) c.look_up.result c.look_up.ensures
