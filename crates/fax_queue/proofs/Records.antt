-- More records of pages.
use Rattle.std.proofs.Common.{◌≡◌, ◌∙◌, ◌+◌, ◌<◌, Bool, List, [], ◌∷◌, ◌++◌, ℕ, Some, Result, OnOk, Ok, Err, length, map, take, ap, arith, sym, subst, append_assoc, slice_get, slice_index_or}
use Rattle.std.proofs.lemmas.List.{length-take-le, take_more}
use Rattle.fax_wires.specs.declared.holding.storing.StoreFault.{StoreFault}
use Rattle.fax_line.specs.declared.settling.PageToStore.{PageToStore}
use Rattle.fax_spool.specs.SpoolRecords.{page_record}
use Rattle.fax_spool.specs.RecordOctets.{PageValue}
use Rattle.fax_spool.specs.Spools.{Stores}
use Rattle.fax_spool.specs.declared.spool_record.SpoolRecord.{SpoolRecord}
use Rattle.fax_spool.specs.declared.spool.Spool.{Spool}
use Rattle.fax_queue.specs.CallTags.{CallTagValue}
use Rattle.fax_queue.specs.Storing.{AreRecordsOf, AreRecordsUnder, IsRecordUnder, PutsRecords, StoresPages}
use Rattle.fax_queue.specs.Tags.{AreTagged, tag_of}

records_both : (pages more : List PageToStore) (records others : List SpoolRecord) → AreRecordsOf pages records → AreRecordsOf more others → AreRecordsOf (pages ++ more) (records ++ others)
records_both [] more [] others are then = then
records_both [] more (r ∷ records) others are then = absurd are
records_both (p ∷ pages) more [] others are then = absurd are
records_both (p ∷ pages) more (r ∷ records) others are then = (are.0, records_both pages more records others are.1 then)

-- ---- records under names

under_more :
    (life : ℕ) (lines : List (List ℕ)) (pages : List PageToStore) (numbers : List ℕ) (values : List PageValue) (page : PageToStore) (number : ℕ) (value : PageValue)
    → slice_get numbers (length pages) ≡ Some number → slice_get lines page.line ≡ Some value.line → IsRecordUnder life page number value
    → AreRecordsUnder life lines pages numbers values → AreRecordsUnder life lines (pages ++ page ∷ []) numbers (values ++ value ∷ [])
under_more life lines [] [] values page number value at line is are = cc
under_more life lines [] (n ∷ numbers) [] page number value at line is are =
    let same : number ≡ n = cc in (line, subst (λ (m : ℕ). IsRecordUnder life page m value) same is, tt)
under_more life lines [] (n ∷ numbers) (v ∷ values) page number value at line is are = absurd are
under_more life lines (p ∷ pages) [] values page number value at line is are = absurd are
under_more life lines (p ∷ pages) (n ∷ numbers) [] page number value at line is are = absurd are
under_more life lines (p ∷ pages) (n ∷ numbers) (v ∷ values) page number value at line is are = (are.0, are.1, under_more life lines pages numbers values page number value at line is are.2)

-- ---- records under tags

tagged_more : (tags : List CallTagValue) (pages : List PageToStore) (values : List PageValue) (page : PageToStore) (value : PageValue) → value.tag ≡ tag_of tags page.line → AreTagged tags pages values
    → AreTagged tags (pages ++ page ∷ []) (values ++ value ∷ [])
tagged_more tags [] [] page value is are = (is, tt)
tagged_more tags [] (v ∷ values) page value is are = absurd are
tagged_more tags (p ∷ pages) [] page value is are = absurd are
tagged_more tags (p ∷ pages) (v ∷ values) page value is are = (are.0, tagged_more tags pages values page value is are.1)

pub next_tagged : (tags : List CallTagValue) (pages : List PageToStore) (values : List PageValue) (k : ℕ) (page : PageToStore) (value : PageValue) → k < length pages → page ≡ slice_index_or pages k page
    → value.tag ≡ tag_of tags page.line → AreTagged tags (take k pages) values → AreTagged tags (take (k + 1) pages) (values ++ value ∷ [])
next_tagged tags pages values k page value low got is are =
    subst (λ (l : List PageToStore). AreTagged tags l (values ++ value ∷ [])) (sym (take_more pages k page low))
    (subst (λ (p : PageToStore). AreTagged tags (take k pages ++ p ∷ []) (values ++ value ∷ [])) got (tagged_more tags (take k pages) values page value is are))

-- the record of the page that is next
pub next_under :
    (life : ℕ) (lines : List (List ℕ)) (pages : List PageToStore) (numbers : List ℕ) (values : List PageValue) (k : ℕ) (page : PageToStore) (number : ℕ) (value : PageValue)
    → k < length pages → page ≡ slice_index_or pages k page → slice_get numbers k ≡ Some number → slice_get lines page.line ≡ Some value.line → IsRecordUnder life page number value
    → AreRecordsUnder life lines (take k pages) numbers values → AreRecordsUnder life lines (take (k + 1) pages) numbers (values ++ value ∷ [])
next_under life lines pages numbers values k page number value low got at line is are =
    subst (λ (l : List PageToStore). AreRecordsUnder life lines l numbers (values ++ value ∷ [])) (sym (take_more pages k page low))
    (subst (λ (p : PageToStore). AreRecordsUnder life lines (take k pages ++ p ∷ []) numbers (values ++ value ∷ [])) got
    (under_more life lines (take k pages) numbers values page number value (ap (λ (j : ℕ). slice_get numbers j) (length-take-le k pages (omega (arith, low))) ∙ at) line is are))

pub are_records : (life : ℕ) (lines : List (List ℕ)) (pages : List PageToStore) (numbers : List ℕ) (values : List PageValue) → AreRecordsUnder life lines pages numbers values → AreRecordsOf pages (map page_record values)
are_records life lines [] [] [] are = tt
are_records life lines [] (n ∷ numbers) [] are = tt
are_records life lines [] [] (v ∷ values) are = absurd are
are_records life lines [] (n ∷ numbers) (v ∷ values) are = absurd are
are_records life lines (p ∷ pages) [] values are = absurd are
are_records life lines (p ∷ pages) (n ∷ numbers) [] are = absurd are
are_records life lines (p ∷ pages) (n ∷ numbers) (v ∷ values) are = (are.1.is_record, are_records life lines pages numbers values are.2)

-- ---- pages that are stored

keeps_more :
    {D : Type 0} {seen : D → List ℕ} {may_leave : D → List ℕ → Type 0} {is_usable : D → Bool} (old new : Spool D) (pages : List PageToStore) (records : List SpoolRecord)
    → ((olds news : List SpoolRecord) → Stores seen may_leave is_usable old olds news → Stores seen may_leave is_usable new olds (news ++ records))
    → AreRecordsOf pages records
    → (before : List PageToStore) → StoresPages seen may_leave is_usable old before → StoresPages seen may_leave is_usable new (before ++ pages)
keeps_more {seen = seen} {may_leave = may_leave} {is_usable = is_usable} old new pages records put are before keeps = record {
  olds = keeps.olds;
  earlier = keeps.earlier;
  newest = keeps.newest ++ records;
  kept = subst (λ (l : List SpoolRecord). Stores seen may_leave is_usable new keeps.olds l) (append_assoc keeps.earlier keeps.newest records) (put keeps.olds (keeps.earlier ++ keeps.newest) keeps.kept);
  are = records_both before pages keeps.newest records keeps.are are;
}

pub keeps_put :
    {D : Type 0} (seen : D → List ℕ) (may_leave : D → List ℕ → Type 0) (is_usable : D → Bool) (answer : Result (Unit {0}) StoreFault) (life : ℕ) (lines : List (List ℕ)) (pages : List PageToStore) (numbers : List ℕ) (before after : Spool D)
    → OnOk answer (PutsRecords seen may_leave is_usable life lines pages numbers before after)
    → OnOk answer ((olds : List PageToStore) → StoresPages seen may_leave is_usable before olds → StoresPages seen may_leave is_usable after (olds ++ pages))
keeps_put seen may_leave is_usable (Ok u) life lines pages numbers before after puts = keeps_more before after pages (map page_record puts.values) puts.put (are_records life lines pages numbers puts.values puts.are)
keeps_put seen may_leave is_usable (Err e) life lines pages numbers before after puts = tt

-- what else changes of a server's keeping leaves its spool as it is
pub keeps_on :
    {D : Type 0} (seen : D → List ℕ) (may_leave : D → List ℕ → Type 0) (is_usable : D → Bool) (answer : Result (Unit {0}) StoreFault) (old begun put last : Spool D) (pages : List PageToStore)
    → begun ≡ old → last ≡ put
    → OnOk answer ((before : List PageToStore) → StoresPages seen may_leave is_usable begun before → StoresPages seen may_leave is_usable put (before ++ pages))
    → OnOk answer ((before : List PageToStore) → StoresPages seen may_leave is_usable old before → StoresPages seen may_leave is_usable last (before ++ pages))
keeps_on {D = D} seen may_leave is_usable answer old begun put last pages first then kept =
    subst (λ (s : Spool D). OnOk answer ((before : List PageToStore) → StoresPages seen may_leave is_usable old before → StoresPages seen may_leave is_usable s (before ++ pages))) (sym then)
    (subst (λ (s : Spool D). OnOk answer ((before : List PageToStore) → StoresPages seen may_leave is_usable s before → StoresPages seen may_leave is_usable put (before ++ pages))) first kept)
