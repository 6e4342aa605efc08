use Rattle.std.proofs.Common.{◌-◌, ◌++◌, Bool, sym, arith, subst}
use Rattle.fax_runcodes.specs.Widths.{elements_of}
use Rattle.fax_pagestore.specs.PageFaults.{FailsRow, last_of}
use Rattle.fax_pagestore.proofs.ReaderLemmas.{last_of_at, OnOk_is, SpellsRow-last, FailsRow-last}
use Rattle.fax_pagestore.proofs.StaysLemmas.{one_stays, two_stays, two_fails}
use Rattle.fax_pagestore.proofs.reader.judging.pass_line.Goals as goal

pub returns-then-tag-clause-stays : goal.returns-then-tag-clause-stays
returns-then-tag-clause-stays g c = λ is more.
    subst (λ (t : Bool). FailsRow (elements_of c.args.width) t (last_of (g.S.RowStore.rows c.args.rows.now)) (c.args.reader.now.left ++ more)) (sym c.if-tag.true)
    (one_stays c.pass_line_1d-passed.result (elements_of c.args.width) c.args.reader.now.left c.pass_line_1d-passed.new.reader.left more c.pass_line_1d-passed.ensures.fault (c.ending_of.ensures.stays is)
    (λ ok. absurd (cc (is, c.ending_of.ensures.line.1 ok))))

pub returns-clause-line : goal.returns-clause-line
returns-clause-line g c = λ is.
    SpellsRow-last (elements_of c.args.width) c.args.tag (g.S.RowStore.rows c.args.rows.now) c.lend.result c.args.reader.now c.pass_line_2d-passed.new.reader c.if-tag.false
    (last_of_at (g.S.RowStore.rows c.args.rows.now) (c.len-count.result - 1) c.lend.result (omega (arith, c.len-count.ensures, c.if-count-eq0.false)) c.lend.ensures)
    (OnOk_is c.pass_line_2d-passed.result _ c.pass_line_2d-passed.ensures.ok (c.ending_of-2.ensures.line.0 is))

pub returns-clause-fails : goal.returns-clause-fails
returns-clause-fails g c = λ no.
    FailsRow-last (elements_of c.args.width) c.args.tag (g.S.RowStore.rows c.args.rows.now) c.lend.result c.args.reader.now.left c.if-tag.false
    (last_of_at (g.S.RowStore.rows c.args.rows.now) (c.len-count.result - 1) c.lend.result (omega (arith, c.len-count.ensures, c.if-count-eq0.false)) c.lend.ensures)
    (two_fails c.pass_line_2d-passed.result c.lend.result c.args.reader.now c.pass_line_2d-passed.new.reader c.pass_line_2d-passed.ensures.fault (λ ok. no (c.ending_of-2.ensures.line.1 ok)))

pub returns-clause-stays : goal.returns-clause-stays
returns-clause-stays g c = λ is more.
    FailsRow-last (elements_of c.args.width) c.args.tag (g.S.RowStore.rows c.args.rows.now) c.lend.result (c.args.reader.now.left ++ more) c.if-tag.false
    (last_of_at (g.S.RowStore.rows c.args.rows.now) (c.len-count.result - 1) c.lend.result (omega (arith, c.len-count.ensures, c.if-count-eq0.false)) c.lend.ensures)
    (two_stays c.pass_line_2d-passed.result c.lend.result c.args.reader.now c.pass_line_2d-passed.new.reader more c.pass_line_2d-passed.ensures.fault (c.ending_of-2.ensures.stays is)
    (λ ok. absurd (cc (is, c.ending_of-2.ensures.line.1 ok))))
