use Rattle.std.proofs.Common.{sym, ◌∙◌, arith}
use Rattle.fax_pagestore.proofs.PageReading.{return_breaks_off}
use Rattle.fax_pagestore.proofs.ReaderLemmas.{return_fails_page, broken_stays, none_stay, rows_stay}
use Rattle.fax_pagestore.proofs.reader.settled.pass_end.Goals as goal

pub returns-in-Whole-clause-settled : goal.returns-in-Whole-clause-settled
returns-in-Whole-clause-settled c = λ width octets more rows size few read.
    none_stay c.args.coding width octets more rows c.args.tag c.args.reader.now c.pass_return_to_control.new.reader (sym size ∙ c.if-count-eq0.true) read (c.pass_return_to_control.ensures.whole c.in-Whole.is)

pub returns-in-Whole-2-clause-settled : goal.returns-in-Whole-2-clause-settled
returns-in-Whole-2-clause-settled c = λ width octets more rows size few read.
    rows_stay c.args.coding width octets more rows c.args.tag c.args.reader.now c.pass_return_to_control.new.reader (omega (arith, size, c.if-count-eq0.false)) few read
    (c.pass_return_to_control.ensures.whole c.in-Whole-2.is)

pub returns-in-Broken-clause-settled : goal.returns-in-Broken-clause-settled
returns-in-Broken-clause-settled c = λ width octets more rows size few read.
    broken_stays c.args.coding width octets more rows c.args.tag c.args.reader.now.left few read (c.pass_return_to_control.ensures.broken c.in-Broken.is)

pub returns-in-BreaksOff-clause-none : goal.returns-in-BreaksOff-clause-none
returns-in-BreaksOff-clause-none c = λ none width octets rows size few read.
    return_fails_page c.args.coding width octets rows c.args.tag c.args.reader.now.left few read
    (return_breaks_off c.args.coding width rows c.args.tag c.args.reader.now.left (c.pass_return_to_control.ensures.breaks_off c.in-BreaksOff.is))
