use Rattle.std.proofs.Common.{◌+◌, ◌≤◌, ℕ, Vec, Global, map, List, false, refl, arith, ap}
use Rattle.fax_spool.specs.Waits.{waiting, left_after}
use Rattle.fax_spool.specs.StoredPages.{AreKnownAs}
use Rattle.fax_spool.specs.Spools.{epoch_records, greatest_epoch}
use Rattle.fax_spool.specs.declared.spool.Spool.{Spool}
use Rattle.fax_spool.proofs.Places.{same_read_at}
use Rattle.fax_spool.proofs.SpoolSteps.{begun, keeps_epochs, read_all_through}
use Rattle.fax_spool.proofs.spool.Spool.begin.Goals as goal

pub returns-clause-begun : goal.returns-clause-begun
returns-clause-begun g c = λ older olds_read newer news_read.
    let olds = c.args.olds.now in
    let news = c.args.news.now in
    let older_items = map (λ (v : Vec ℕ Global). v.items) c.args.older_items.now in
    let newer_items = map (λ (v : Vec ℕ Global). v.items) c.args.newer_items.now in
    let number = c.max-greatest.result + 1 in
    let before : Spool g.row.D.Denot = record { older = c.args.older; newer = c.args.newer; older_pages = c.in_ok-older_pages.older_pages; newer_pages = c.in_ok-newer_pages.newer_pages; room = c.keep_placed_pages-2.new.room; epoch = number; refuses = false } in
    let after : Spool g.row.D.Denot = record before { newer = c.append_all.new.file; refuses = c.append_all.new.refuses } in
    let older_kept : AreKnownAs older_items before.older_pages.items (left_after (waiting olds) news) =
    c.in_ok-older_pages.ensures older_items (left_after (waiting olds) news)
    (same_read_at older_items _ _ (left_after (waiting olds) news) c.as_slice.ensures.value (c.drop_ended.ensures older_items (waiting olds) (c.in_ok-pages.ensures olds_read))) in
    let newer_kept : AreKnownAs newer_items before.newer_pages.items (waiting news) =
    c.in_ok-newer_pages.ensures newer_items (waiting news) (same_read_at newer_items _ _ (waiting news) c.as_slice-2.ensures.value (c.in_ok-pages-2.ensures news_read)) in
    let most : greatest_epoch news ≤ number = omega (arith, c.newest_epoch-2.ensures, c.max-greatest.ensures) in
    let k = begun _ _ _ before olds news older_items newer_items older olds_read newer news_read older_kept newer_kept most in
    let are = read_all_through _ _ (epoch_records number) (ap (λ (l : List (Vec ℕ Global)). map (λ (v : Vec ℕ Global). v.items) l) c.as_slice-3.ensures.value) c.in_ok-items.ensures in
    keeps_epochs _ _ _ before after olds news k (map (λ (v : Vec ℕ Global). v.items) c.as_slice-3.result.now) number are refl
    (c.in_ok-append_all.ensures.acknowledged k.newer_items k.newer) refl refl (omega arith) (omega arith)
