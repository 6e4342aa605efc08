use Rattle.fax_runcodes.specs.Widths.{elements_of}
use Rattle.std.proofs.Common.{◌++◌}
use Rattle.fax_pagestore.proofs.StaysLemmas.{bad_wants, bad_numbered, many_stay}
use Rattle.fax_pagestore.proofs.reader.settled.stays.Goals as goal

pub returns-in-TooManyRows-clause-stays : goal.returns-in-TooManyRows-clause-stays
returns-in-TooManyRows-clause-stays g c = λ _ more.
    many_stay c.args.coding (elements_of c.args.width) (g.S.RowStore.rows c.args.rows.now) c.args.tag c.args.reader.now.left more c.args.fault c.in-TooManyRows.is c.requires.stops

pub stays_bad-requires-clause-wants : goal.stays_bad-requires-clause-wants
stays_bad-requires-clause-wants g c =
    bad_wants c.args.coding (elements_of c.args.width) (g.S.RowStore.rows c.args.rows.now) c.args.tag c.args.reader.now.left c.args.fault c.in-BadLine.field-0 c.in-BadLine.is c.requires.stops

pub returns-in-BadLine-clause-stays : goal.returns-in-BadLine-clause-stays
returns-in-BadLine-clause-stays g c = λ yes more.
    bad_numbered c.args.coding (elements_of c.args.width) (g.S.RowStore.rows c.args.rows.now) c.args.tag c.args.reader.now.left (c.args.reader.now.left ++ more) c.args.fault c.in-BadLine.field-0
    c.in-BadLine.is c.requires.stops (c.stays_bad.ensures yes more)
