use Rattle.std.proofs.Common.{List, ℕ, Vec, Global, ◌++◌, map, sym, subst}
use Rattle.fax_spool.specs.Settled.{IsSettled}
use Rattle.fax_spool.specs.SpoolRecords.{AreReadAs}
use Rattle.fax_spool.specs.Spools.{Stores, epoch_now, epoch_records}
use Rattle.fax_spool.specs.declared.spool_record.SpoolRecord.{SpoolRecord}
use Rattle.fax_spool.proofs.opening.begin.Goals as goal

pub returns-clause-begun : goal.returns-clause-begun
returns-clause-begun g c = λ older older_read newer newer_read.
    let one = c.as_slice-3.ensures.value in
    let other = c.as_slice-4.ensures.value in
    let olds = c.as_slice-5.ensures.value in
    let news = c.as_slice-6.ensures.value in
    let older_items = map (λ (v : Vec ℕ Global). v.items) c.args.older_found.now.items.items in
    let newer_items = map (λ (v : Vec ℕ Global). v.items) c.args.newer_found.now.items.items in
    subst (λ (l : List SpoolRecord). Stores g.D.Disk.seen g.D.Disk.may_leave g.D.Disk.is_usable c.in_ok-spool.spool l (c.args.news.items ++ epoch_records (epoch_now c.in_ok-spool.spool))) olds
    (subst (λ (l : List SpoolRecord). Stores g.D.Disk.seen g.D.Disk.may_leave g.D.Disk.is_usable c.in_ok-spool.spool c.as_slice-5.result.now (l ++ epoch_records (epoch_now c.in_ok-spool.spool))) news
    (c.in_ok-spool.ensures.begun
    (subst (λ (l : List (Vec ℕ Global)). IsSettled g.D.Disk.seen g.D.Disk.may_leave g.D.Disk.is_usable c.args.older.disk c.args.older.end (map (λ (v : Vec ℕ Global). v.items) l)) (sym one) older)
    (subst (λ (l : List (Vec ℕ Global)). AreReadAs (map (λ (v : Vec ℕ Global). v.items) l) c.as_slice-5.result.now) (sym one) (subst (λ (l : List SpoolRecord). AreReadAs older_items l) (sym olds) older_read))
    (subst (λ (l : List (Vec ℕ Global)). IsSettled g.D.Disk.seen g.D.Disk.may_leave g.D.Disk.is_usable c.args.newer.disk c.args.newer.end (map (λ (v : Vec ℕ Global). v.items) l)) (sym other) newer)
    (subst (λ (l : List (Vec ℕ Global)). AreReadAs (map (λ (v : Vec ℕ Global). v.items) l) c.as_slice-6.result.now) (sym other) (subst (λ (l : List SpoolRecord). AreReadAs newer_items l) (sym news) newer_read))))
