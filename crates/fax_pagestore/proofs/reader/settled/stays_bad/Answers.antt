use Rattle.std.proofs.Common.{Ok, ap, ◌∙◌}
use Rattle.fax_runcodes.specs.Widths.{elements_of}
use Rattle.fax_pagestore.specs.declared.reading.Ahead.{Ahead}
use Rattle.fax_pagestore.proofs.StaysLemmas.{after_stays, bad_stays}
use Rattle.fax_pagestore.proofs.reader.settled.stays_bad.Goals as goal

pub returns-in-Ok-Line : goal.returns-in-Ok-Line
returns-in-Ok-Line g c = λ _ more.
    let read = c.pass_line.ensures.line c.in-Whole.is in
    let begins = c.pass_separator.ensures.line (c.in-Ok-Line.is ∙ ap (λ (ahead : Ahead). Ok ahead) c.in-Ok-Line.field-0-is) in
    after_stays c.args.coding (elements_of c.args.width) (g.S.RowStore.rows c.args.rows.now) c.args.tag c.args.reader.now.left c.pass_line.new.reader.left more c.requires.wants
    (read.1, read.0, read.2, read.3.bits) begins

pub returns-in-Broken : goal.returns-in-Broken
returns-in-Broken g c = λ _ more.
    bad_stays c.args.coding (elements_of c.args.width) (g.S.RowStore.rows c.args.rows.now) c.args.tag c.args.reader.now.left more c.requires.wants (c.pass_line.ensures.stays c.in-Broken.is more)
