use Rattle.std.proofs.Common.{true, false, ◌∙◌, sym}
use Rattle.fax_sdp.proofs.AttributeLemmas.{valued_by}
use Rattle.fax_sdp.proofs.attribute.valued_of.Goals as goal

pub returns-then-same_word-3 : goal.returns-then-same_word-3
returns-then-same_word-3 c =
    c.correction_of.ensures
    ∙ sym (valued_by c.args.name.now c.args.value.now false false true (sym c.same_word.ensures ∙ c.if-same_word.false)
    (sym c.same_word-else-same_word.ensures ∙ c.if-same_word-2.false) (sym c.same_word-else-same_word-2.ensures ∙ c.if-same_word-3.true))

pub returns-else-same_word-3 : goal.returns-else-same_word-3
returns-else-same_word-3 c =
    c.bound_of.ensures
    ∙ sym (valued_by c.args.name.now c.args.value.now false false false (sym c.same_word.ensures ∙ c.if-same_word.false)
    (sym c.same_word-else-same_word.ensures ∙ c.if-same_word-2.false) (sym c.same_word-else-same_word-2.ensures ∙ c.if-same_word-3.false))
