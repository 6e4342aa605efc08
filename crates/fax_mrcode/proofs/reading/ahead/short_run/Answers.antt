use Rattle.std.proofs.Common.{◌≡◌, ◌++◌, length, sym, ◌∙◌, subst, ℕ, arith}
use Rattle.fax_bits.specs.Bits.{word_bits}
use Rattle.fax_runcodes.specs.Spelling.{SpellsRun}
use Rattle.fax_runcodes.proofs.WordLaws.{is_terminating}
use Rattle.fax_runcodes.proofs.RunAtLemmas.{short_spelt}
use Rattle.fax_mrcode.proofs.VerticalLemmas.{FirstAre-word, first_56}
use Rattle.fax_mrcode.proofs.reading.ahead.short_run.Goals as goal

pub returns-clause-spelt : goal.returns-clause-spelt
returns-clause-spelt c =
    let found = c.word_at-word.ensures.found (omega arith) in
    let run : found.word.run ≡ c.word_at-word.result.run = found.run_is in
    let ends = is_terminating c.args.colour found.word found.begins.0 (omega arith) in
    let size : length found.word.word ≡ c.from-bits.result = found.bits_is ∙ sym c.from-bits.ensures in (
      found.word.word,
      subst (λ (n : ℕ). SpellsRun c.args.colour found.word.word n) run (short_spelt c.args.colour found.word ends),
      rw c.past.ensures.left (FirstAre-word c.args.ahead.window c.args.ahead.left c.from-bits.result found.word.word (found.begins.1 ++ word_bits 8 c.args.ahead.window) size (omega arith) (first_56 c.args.ahead.window found.word.word found.begins.1 found.begins.2)),
    )
