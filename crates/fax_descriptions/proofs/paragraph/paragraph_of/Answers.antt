use Rattle.std.proofs.Common.{◌∙◌}
use Rattle.fax_descriptions.proofs.TaleLemmas.{paragraph_more}
use Rattle.fax_descriptions.proofs.paragraph.paragraph_of.Goals as goal

pub loop-entry-preserved : goal.loop-entry-preserved
loop-entry-preserved c =
    c.in_ok-push_line.ensures
    ∙ paragraph_more c.args.moment c.args.entries.now c.loop-entry.entry-index c.entry-item.result _ c.loop-entry-test.true c.entry-item.is c.loop-entry.invariant
