use Rattle.std.proofs.Common.{◌≡◌, ◌==◌, ◌++◌, ◌∷◌, [], ℕ, List, length, true, refl, sym, arith}
use Rattle.std.proofs.lemmas.Bool.{eqb-true}
use Rattle.fax_bits.specs.Bits.{bit, word_bits}
use Rattle.fax_runcodes.specs.Widths.{elements_of}
use Rattle.fax_pagestore.specs.PageTexts.{end_of_line}
use Rattle.fax_pagestore.proofs.WhiteLemmas.{white_after}
use Rattle.fax_pagestore.proofs.white.white_line_after.Goals as goal

-- V0 and the EOL
word_of_vertical : word_bits 13 4097 ≡ (true ∷ []) ++ end_of_line
unfolding bit word_bits end_of_line
word_of_vertical = refl

-- what has no items
no_places : (places : List ℕ) → true ≡ (length places == 0) → places ≡ []
no_places [] e = refl
no_places (place ∷ places) e = absurd (let none : length (place ∷ places) ≡ 0 = eqb-true (length (place ∷ places)) 0 (sym e) in omega arith)

pub returns-then-is_empty-clause-spelt : goal.returns-then-is_empty-clause-spelt
returns-then-is_empty-clause-spelt c =
    let painted_is = rw c.lend.ensures at c.changes.ensures.painted in (
      true ∷ [],
      white_after (elements_of c.args.width) c.args.n c.args.tag c.args.kept.now c.changes.result.now c.if-tag.false c.if-n-gt0.true (c.requires c.if-tag.false c.if-n-gt0.true) painted_is
          (no_places c.changes.result.now c.if-is_empty.ensures),
      word_of_vertical,
    )
