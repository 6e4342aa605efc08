use Rattle.std.proofs.Common.{rules, List, Bool, true, None, Ok, ap, ◌∙◌}
use Rattle.fax_bits.specs.Reading.{Passes}
use Rattle.fax_runcodes.specs.Widths.{elements_of}
use Rattle.fax_mhcode.specs.Lines as mh
use Rattle.fax_pagestore.specs.PageFaults.{LineBegins}
use Rattle.fax_pagestore.specs.declared.reading.Ahead.{Ahead}
use Rattle.fax_pagestore.proofs.PageReading.{row_goes_on}
use Rattle.fax_pagestore.proofs.reading.read_row_alone.Goals as goal

pub returns-in-Line-clause-fault : goal.returns-in-Line-clause-fault
returns-in-Line-clause-fault c =
    let read : (text : List Bool) × mh.SpellsLine (elements_of c.args.width) text c.read_line_1d_into.new.line × Passes c.args.reader.now c.read_line_1d_into.new.reader text = search rules in
    let begins : LineBegins c.read_line_1d_into.new.reader.left = c.pass_separator.ensures.line (c.in_ok-next.was ∙ ap (λ (ahead : Ahead). Ok ahead) c.in-Line.is) in
    λ rows size wants. row_goes_on c.args.coding (elements_of c.args.width) true None c.args.reader.now c.read_line_1d_into.new.reader rows c.read_line_1d_into.new.line
    c.args.n read begins size (λ e. cc) wants
