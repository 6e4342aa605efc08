use Rattle.std.proofs.Common.{arith}
use Rattle.fax_runcodes.specs.declared.Colour.TheVariants.{Black}
use Rattle.fax_runcodes.specs.declared.tables.black.TheConstants.{FIRST_SIX, FIRST_TWELVE, FIRST_THIRTEEN}
use Rattle.fax_runcodes.proofs.TableRules.{IsEntryAt-lookup, black_first_six, black_first_twelve, black_first_thirteen}
use Rattle.fax_runcodes.proofs.run.black_word.Goals as goal

pub returns-then-window : goal.returns-then-window
returns-then-window c =
    IsEntryAt-lookup Black 6 50 4 FIRST_SIX black_first_six c.args.window (omega arith) (omega arith) c.first_six.result c.first_six.ensures

pub returns-then-window-2 : goal.returns-then-window-2
returns-then-window-2 c =
    IsEntryAt-lookup Black 12 44 64 FIRST_TWELVE black_first_twelve c.args.window (omega arith) (omega arith) c.first_twelve.result c.first_twelve.ensures

pub returns-else-window-2 : goal.returns-else-window-2
returns-else-window-2 c =
    IsEntryAt-lookup Black 13 43 0 FIRST_THIRTEEN black_first_thirteen c.args.window (omega arith) (omega arith) c.first_thirteen.result c.first_thirteen.ensures
