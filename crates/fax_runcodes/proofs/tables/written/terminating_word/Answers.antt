use Rattle.std.proofs.Common.{◌≡◌, arith}
use Rattle.fax_runcodes.specs.declared.Colour.TheVariants.{White, Black}
use Rattle.fax_runcodes.proofs.WrittenRules.{white_terminating_at, black_terminating_at}
use Rattle.fax_runcodes.proofs.tables.written.terminating_word.Goals as goal

pub returns-in-White : goal.returns-in-White
returns-in-White c =
    let colour : c.args.colour ≡ White = c.in-White.is in
    rw colour (white_terminating_at c.args.run (omega arith) c.white_terminating.result c.white_terminating.ensures)

pub returns-in-Black : goal.returns-in-Black
returns-in-Black c =
    let colour : c.args.colour ≡ Black = c.in-Black.is in
    rw colour (black_terminating_at c.args.run (omega arith) c.black_terminating.result c.black_terminating.ensures)
