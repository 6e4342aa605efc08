use Rattle.std.proofs.Common.{◌∷◌, ◌∙◌, ◌+◌, List, drop, refl, sym, ap, subst, arith}
use Rattle.std.proofs.lemmas.List.{drop_more, drop_all}
use Rattle.fax_spool.specs.RecordOctets.{PageValue}
use Rattle.fax_spool.specs.Places.{AreReadAt}
use Rattle.fax_spool.specs.Waits.{left_after, left_of}
use Rattle.fax_spool.specs.declared.spool_record.SpoolRecord.{SpoolRecord}
use Rattle.fax_spool.proofs.placed_page.drop_ended.Goals as goal

pub loop-kept-init : goal.loop-kept-init
loop-kept-init c = λ items waits are. (waits, are, refl)

pub loop-kept-preserved : goal.loop-kept-preserved
loop-kept-preserved c = λ items waits are.
    let was = c.loop-kept.invariant items waits are in
    let split = drop_more c.args.records.now c.loop-kept.kept-index c.kept-item.result c.loop-kept-test.true ∙ ap (λ (r : SpoolRecord). r ∷ drop (c.loop-kept.kept-index + 1) c.args.records.now) (sym c.kept-item.is) in
    (left_of was.0 c.kept-item.result, c.drop_ended_by.ensures items was.0 was.1, sym (ap (λ (l : List SpoolRecord). left_after was.0 l) split) ∙ was.2)

pub returns : goal.returns
returns c = λ items waits are.
    let was = c.loop-kept.invariant items waits are in
    let none = drop_all c.loop-kept.kept-index c.args.records.now (omega (arith, c.loop-kept-test.false)) in
    subst (λ (l : List PageValue). AreReadAt items c.loop-kept.pages.items l) (sym (ap (λ (l : List SpoolRecord). left_after was.0 l) none) ∙ was.2) was.1
