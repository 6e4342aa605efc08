use Rattle.std.proofs.Common.{◌≡◌, ◌+◌, ◌-◌, ◌++◌, length, replicate, Some, sym, ap, ◌∙◌, subst, arith}
use Rattle.fax_runcodes.specs.declared.Colour.TheVariants.{White}
use Rattle.fax_runcodes.specs.Rows.{Elements}
use Rattle.fax_runcodes.specs.Widths.{elements_of}
use Rattle.fax_runcodes.specs.Painted.{AreRising}
use Rattle.fax_pagestore.proofs.RowsWritten.{width_of_row}
use Rattle.fax_pagestore.proofs.ReaderLemmas.{last_of_at, white_may_turn, white_turned}
use Rattle.fax_pagestore.proofs.reader.rows.keep_last.Goals as goal
use Rattle.fax_pagestore.proofs.reader.rows.keep_last.Goals.{After-paint}
use Rattle.fax_pagestore.proofs.reader.rows.keep_last.Given.{Over}

-- the builder is white throughout
white : (g : Over) (c : After-paint g) → c.paint.new.self ≡ replicate (elements_of c.args.width) White
white g c = c.paint.ensures ∙ ap (λ (row : Elements). row ++ replicate c.elements.result White) c.clear.ensures ∙ ap (λ n. replicate n White) c.elements.ensures

-- the last row has the width
wide : (g : Over) (c : After-paint g) → length c.lend-last.result ≡ elements_of c.args.width
wide g c =
    width_of_row (elements_of c.args.width) (g.S.RowStore.rows c.args.rows.now) (c.len-count.result - 1) c.lend-last.result (omega (arith, c.len-count.ensures, c.if-count-gt0.true)) c.lend-last.ensures c.requires

pub turn_at_all-requires-clause-same : goal.turn_at_all-requires-clause-same
turn_at_all-requires-clause-same g c =
    let at = (goal.at.turn_at_all-requires-clause-same g c).After-paint in
    white_may_turn c.paint.new.self (elements_of c.args.width) c.changes.result.now (white g at) (subst (AreRising 0 c.changes.result.now) (wide g at) c.changes.ensures.rising)

pub returns-then-count-gt0 : goal.returns-then-count-gt0
returns-then-count-gt0 g c = λ two some.
    let at = (goal.at.returns-then-count-gt0 g c).After-paint in
    let index : c.len-count.result - 1 + 1 ≡ length (g.S.RowStore.rows c.args.rows.now) = omega (arith, c.len-count.ensures, c.if-count-gt0.true) in
    last_of_at (g.S.RowStore.rows c.args.rows.now) (c.len-count.result - 1) c.lend-last.result index c.lend-last.ensures
    ∙ ap (λ (row : Elements). Some row)
    (sym (white_turned c.paint.new.self c.turn_at_all.new.self c.lend-last.result (elements_of c.args.width) c.changes.result.now (white g at) (wide g at) c.changes.ensures.rising c.changes.ensures.painted c.turn_at_all.ensures))
