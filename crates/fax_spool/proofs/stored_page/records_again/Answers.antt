use Rattle.std.proofs.Common.{List, [], ◌++◌, Vec, Global, ℕ, map, sym, subst}
use Rattle.fax_spool.specs.SpoolRecords.{AreReadAs, page_record}
use Rattle.fax_spool.specs.StoredPages.{ended_alone}
use Rattle.fax_spool.specs.declared.spool_record.SpoolRecord.{SpoolRecord}
use Rattle.fax_spool.proofs.KnownPages.{again_split}
use Rattle.fax_spool.proofs.stored_page.records_again.Goals as goal

pub returns : goal.returns
returns c = λ older_items newer_items olds news older newer.
    let empty = subst (λ (l : List (Vec ℕ Global)). AreReadAs (map (λ (v : Vec ℕ Global). v.items) l) []) (sym c.new-items.ensures.items) tt in
    let one = c.in_ok-push_ends.ensures older_items [] olds empty older in
    let two = c.in_ok-push_ends-2.ensures newer_items (map ended_alone olds) news one newer in
    let three = c.in_ok-push_pages.ensures older_items (map ended_alone olds ++ map ended_alone news) olds two older in
    let four = c.in_ok-push_pages-2.ensures newer_items ((map ended_alone olds ++ map ended_alone news) ++ map page_record olds) news three newer in
    subst (λ (l : List SpoolRecord). AreReadAs (map (λ (v : Vec ℕ Global). v.items) c.push_pages-2.new.items.items) l) (again_split olds news) four
