use Rattle.std.proofs.Common.{List, [], ◌∷◌, ◌++◌, sym, ◌∙◌, ap, append_assoc, take}
use Rattle.fax_runcodes.specs.Rows.{Elements}
use Rattle.fax_explain.proofs.RowLemmas.{take_one_more}
use Rattle.fax_explain.proofs.copies.add_rows.Goals as goal

pub loop-i-preserved : goal.loop-i-preserved
loop-i-preserved c =
    c.in_ok-push_lent.ensures.pushed ∙ ap (λ (rows : List Elements). rows ++ c.lend.result ∷ []) c.loop-i.invariant
    ∙ append_assoc c.args.rows.now (take c.loop-i.i c.args.others.now) (c.lend.result ∷ [])
    ∙ ap (λ (rows : List Elements). c.args.rows.now ++ rows) (sym (take_one_more c.args.others.now c.loop-i.i c.lend.result c.lend.ensures))
