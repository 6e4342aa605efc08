use Rattle.std.proofs.Common.{◌≤◌, List, [], ◌∙◌, length, refl, sym, ap, subst, arith}
use Rattle.std.proofs.lemmas.List.{take_all}
use Rattle.fax_spool.specs.RecordOctets.{PageValue}
use Rattle.fax_spool.specs.StoredPages.{AreKnownAs}
use Rattle.fax_spool.specs.Waits.{name_of}
use Rattle.fax_spool.proofs.KnownPages.{next_kept, same_kept}
use Rattle.fax_spool.proofs.Places.{read_at_index, read_at_many, same_stands}
use Rattle.fax_spool.proofs.ReadRecords.{read_through}
use Rattle.fax_spool.specs.declared.spool_record.SpoolRecord.TheVariants.{Page}
use Rattle.fax_spool.proofs.stored_page.keep_placed_pages.Goals as goal

pub loop-placed-init : goal.loop-placed-init
loop-placed-init c = λ items waits are. same_kept items [] _ [] [] c.in_ok-kept.ensures.items refl tt

pub loop-placed-preserved : goal.loop-placed-preserved
loop-placed-preserved c = λ items waits are.
    let it = read_at_index items c.args.pages.now waits c.loop-placed.placed-index c.placed-item.result are c.loop-placed-test.true (sym c.placed-item.is) in
    next_kept items c.loop-placed.kept.items c.push.new.self.items (record { name = c.in_ok-name.name; source = c.in_ok-source.source }) waits c.loop-placed.placed-index it.0 it.2 it.3 c.in_ok-push.ensures.items
    (c.in_ok-name.ensures ∙ ap (λ (p : PageValue). name_of p) (c.page.ensures ∙ it.1.0), c.in_ok-source.ensures items it.0 (same_stands items _ _ _ _ c.place.ensures c.item.ensures it.1.1) (read_through _ _ (Page it.0) c.item.ensures it.1.2)) (c.loop-placed.invariant items waits are)

pub returns : goal.returns
returns c = λ items waits are.
    let many : length waits ≤ c.loop-placed.placed-index = omega (arith, read_at_many items c.args.pages.now waits are, c.loop-placed-test.false) in
    subst (λ (l : List PageValue). AreKnownAs items c.loop-placed.kept.items l) (take_all c.loop-placed.placed-index waits many) (c.loop-placed.invariant items waits are)
