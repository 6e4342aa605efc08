use Rattle.std.proofs.Common.{◌≡◌, arith}
use Rattle.fax_runcodes.specs.declared.Colour.TheVariants.{White, Black}
use Rattle.fax_runcodes.proofs.WrittenRules.{white_make_up_at, black_make_up_at}
use Rattle.fax_runcodes.proofs.tables.written.make_up_word.Goals as goal

pub returns-in-White : goal.returns-in-White
returns-in-White c =
    let colour : c.args.colour ≡ White = c.in-White.is in
    rw colour (white_make_up_at c.args.times (omega arith) c.white_make_up.result c.white_make_up.ensures)

pub returns-in-Black : goal.returns-in-Black
returns-in-Black c =
    let colour : c.args.colour ≡ Black = c.in-Black.is in
    rw colour (black_make_up_at c.args.times (omega arith) c.black_make_up.result c.black_make_up.ensures)
