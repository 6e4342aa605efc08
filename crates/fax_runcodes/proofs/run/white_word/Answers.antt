use Rattle.std.proofs.Common.{arith}
use Rattle.fax_runcodes.specs.declared.Colour.TheVariants.{White}
use Rattle.fax_runcodes.specs.declared.tables.white.TheConstants.{FIRST_NINE, FIRST_TWELVE}
use Rattle.fax_runcodes.proofs.TableRules.{IsEntryAt-lookup, white_first_nine, white_first_twelve}
use Rattle.fax_runcodes.proofs.run.white_word.Goals as goal

pub returns-then-window : goal.returns-then-window
returns-then-window c =
    IsEntryAt-lookup White 9 47 4 FIRST_NINE white_first_nine c.args.window (omega arith) (omega arith) c.first_nine.result c.first_nine.ensures

pub returns-else-window : goal.returns-else-window
returns-else-window c =
    IsEntryAt-lookup White 12 44 0 FIRST_TWELVE white_first_twelve c.args.window (omega arith) (omega arith) c.first_twelve.result c.first_twelve.ensures
