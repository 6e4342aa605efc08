use Rattle.std.proofs.Common.{◌≡◌, ◌++◌, refl}
use Rattle.fax_bits.specs.Bits.{bit, word_bits}
use Rattle.fax_runcodes.specs.declared.Colour.TheVariants.{White}
use Rattle.fax_runcodes.specs.declared.Width.TheVariants.{W1728, W2048, W2432}
use Rattle.fax_runcodes.specs.CodeTables.{white_terminating, white_make_up, common_make_up}
use Rattle.fax_runcodes.specs.Spelling.{written_run}
use Rattle.fax_pagestore.specs.PageTexts.{end_of_line}
use Rattle.fax_pagestore.proofs.WhiteLemmas as white
use Rattle.fax_pagestore.proofs.white.white_line.Goals as goal

-- the words of each width, and the EOL
word_of_1728 : word_bits 29 162746369 ≡ written_run White 1728 ++ end_of_line
unfolding bit word_bits written_run white_terminating white_make_up common_make_up end_of_line
word_of_1728 = refl

word_of_2048 : word_bits 32 20140033 ≡ written_run White 2048 ++ end_of_line
unfolding bit word_bits written_run white_terminating white_make_up common_make_up end_of_line
word_of_2048 = refl

word_of_2432 : word_bits 32 30625793 ≡ written_run White 2432 ++ end_of_line
unfolding bit word_bits written_run white_terminating white_make_up common_make_up end_of_line
word_of_2432 = refl

pub returns-in-W1728-clause-spelt : goal.returns-in-W1728-clause-spelt
returns-in-W1728-clause-spelt c = rw c.in-W1728.is (written_run White 1728, white.white_line W1728, word_of_1728)

pub returns-in-W2048-clause-spelt : goal.returns-in-W2048-clause-spelt
returns-in-W2048-clause-spelt c = rw c.in-W2048.is (written_run White 2048, white.white_line W2048, word_of_2048)

pub returns-in-W2432-clause-spelt : goal.returns-in-W2432-clause-spelt
returns-in-W2432-clause-spelt c = rw c.in-W2432.is (written_run White 2432, white.white_line W2432, word_of_2432)
