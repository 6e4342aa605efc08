-- Pages that are put under the tags of their lines' calls.
use Rattle.std.proofs.Common.{◌≡◌, ℕ, Bool, List, ◌++◌, map, Result, Ok, Err, OnOk, sym, subst}
use Rattle.fax_wires.specs.declared.holding.storing.StoreFault.{StoreFault}
use Rattle.fax_line.specs.declared.settling.PageToStore.{PageToStore}
use Rattle.fax_spool.specs.RecordOctets.{PageValue}
use Rattle.fax_spool.specs.SpoolRecords.{page_record}
use Rattle.fax_spool.specs.Spools.{Stores}
use Rattle.fax_spool.specs.declared.spool_record.SpoolRecord.{SpoolRecord}
use Rattle.fax_spool.specs.declared.spool.Spool.{Spool}
use Rattle.fax_queue.specs.CallTags.{CallTagValue}
use Rattle.fax_queue.specs.Storing.{AreRecordsUnder}
use Rattle.fax_queue.specs.Tags.{AreTagged, PutsTagged}
use Rattle.fax_queue.proofs.Records.{are_records}
use Rattle.fax_queue.proofs.Queueing.{wait_put}

module _ {D : Type 0} (seen : D → List ℕ) (may_leave : D → List ℕ → Type 0) (is_usable : D → Bool) where
  pub puts_tagged :
      (life : ℕ) (lines : List (List ℕ)) (pages : List PageToStore) (numbers : List ℕ) (tags : List CallTagValue) (values : List PageValue) (before after : Spool D) → AreRecordsUnder life lines pages numbers values
      → AreTagged tags pages values
      → ((olds news : List SpoolRecord) → Stores seen may_leave is_usable before olds news → Stores seen may_leave is_usable after olds (news ++ map page_record values))
      → PutsTagged seen may_leave is_usable tags pages before after
  puts_tagged life lines pages numbers tags values before after are tagged put = record {
    values = values;
    are = are_records life lines pages numbers values are;
    tagged = tagged;
    wait = wait_put before after values put;
  }

  -- what else changes of a server's keeping leaves it so
  pub tagged_through : (answer : Result (Unit {0}) StoreFault) (pages : List PageToStore) (tags tags_1 : List CallTagValue) (before before_1 put last : Spool D) → tags_1 ≡ tags → before_1 ≡ before → last ≡ put
      → OnOk answer (PutsTagged seen may_leave is_usable tags_1 pages before_1 put) → OnOk answer (PutsTagged seen may_leave is_usable tags pages before last)
  tagged_through (Err e) pages tags tags_1 before before_1 put last same begun left is = tt
  tagged_through (Ok u) pages tags tags_1 before before_1 put last same begun left is =
      subst (λ (s : Spool D). PutsTagged seen may_leave is_usable tags pages before s) (sym left)
      (subst (λ (s : Spool D). PutsTagged seen may_leave is_usable tags pages s put) begun (subst (λ (t : List CallTagValue). PutsTagged seen may_leave is_usable t pages before_1 put) same is))
