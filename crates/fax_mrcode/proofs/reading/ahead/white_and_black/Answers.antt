use Rattle.std.proofs.Common.{◌≡◌, ◌++◌, ◌<◌, ℕ, length, length-append, sym, ◌∙◌, subst, arith}
use Rattle.fax_bits.specs.Bits.{word_bits}
use Rattle.fax_runcodes.specs.Spelling.{SpellsRun}
use Rattle.fax_runcodes.specs.declared.Colour.TheVariants.{White, Black}
use Rattle.fax_runcodes.proofs.RunAtLemmas.{short_spelt}
use Rattle.fax_runcodes.proofs.WordLaws.{terminating_run}
use Rattle.fax_mrcode.proofs.VerticalLemmas.{FirstAre-word, first_56}
use Rattle.fax_mrcode.proofs.reading.ahead.white_and_black.Goals as goal

pub returns-clause-few : goal.returns-clause-few
returns-clause-few c =
    let found = c.in-Some.ensures.some in
    let white : found.white.run < 64 = terminating_run White found.white found.begins.white_ends in
    let black : found.black.run < 64 = terminating_run Black found.black found.begins.black_ends in
    (omega (arith, white, found.white_is, c.from.ensures), omega (arith, black, found.black_is))

pub returns-clause-spelt : goal.returns-clause-spelt
returns-clause-spelt c =
    let found = c.in-Some.ensures.some in
    let begins = found.begins in
    let words = found.white.word ++ found.black.word in
    let size : length words ≡ c.from-bits.result = length-append found.white.word found.black.word ∙ found.bits_is ∙ sym c.from-bits.ensures in (
      found.white.word,
      found.black.word,
      subst (λ (n : ℕ). SpellsRun White found.white.word n) (found.white_is ∙ sym c.from.ensures) (short_spelt White found.white begins.white_ends),
      subst (λ (n : ℕ). SpellsRun Black found.black.word n) found.black_is (short_spelt Black found.black begins.black_ends),
      rw c.past.ensures.left (FirstAre-word c.args.ahead.window c.args.ahead.left c.from-bits.result words (begins.rest ++ word_bits 8 c.args.ahead.window) size (omega arith) (first_56 c.args.ahead.window words begins.rest begins.bits_are)),
    )
