use Rattle.std.proofs.Common.{Bool, List}
use Rattle.fax_bits.specs.Reading.{Passes}
use Rattle.fax_pagestore.specs.PageTexts.{InARow}
use Rattle.fax_pagestore.proofs.reading.pass_return_to_control.Given as goal

abbrev pub invariant-loop : goal.invariant-loop
invariant-loop l = (text : List Bool) × InARow l.coding l.first l.counter text l.tag × Passes l.fn.reader l.reader text
