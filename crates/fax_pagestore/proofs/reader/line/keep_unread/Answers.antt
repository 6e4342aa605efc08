use Rattle.std.proofs.Common.{length, ap, arith, inl, inr}
use Rattle.fax_pagestore.proofs.LineLemmas.{IfOk_map}
use Rattle.fax_pagestore.proofs.reader.line.keep_unread.Goals as goal

pub returns-then-is_one_dimensional-clause-kept : goal.returns-then-is_one_dimensional-clause-kept
returns-then-is_one_dimensional-clause-kept c =
    let alone = c.is_one_dimensional.ensures c.if-is_one_dimensional.true in
    IfOk_map c.keep_line.result _ _ (λ used kept. elim kept [ inl same ↦ inl same | inr line ↦ inr (alone.0, alone.1, line) ]) c.keep_line.ensures.kept

pub returns-clause-kept : goal.returns-clause-kept
returns-clause-kept c = IfOk_map c.keep_from.result _ _ (λ used same. inl same) c.keep_from.ensures.kept

pub returns-clause-no_more : goal.returns-clause-no_more
returns-clause-no_more c = IfOk_map c.keep_from.result _ _ (λ used same. omega (arith, ap length same)) c.keep_from.ensures.kept
