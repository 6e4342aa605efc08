-- Pages that are put under the next numbers of their calls.
use Rattle.std.proofs.Common.{◌≡◌, ◌∙◌, ◌<◌, ℕ, Bool, List, [], ◌∷◌, ◌++◌, length, Result, Ok, Err, OnOk, slice_index_or, ap, arith, sym, subst}
use Rattle.fax_wires.specs.declared.holding.storing.StoreFault.{StoreFault}
use Rattle.fax_line.specs.declared.settling.PageToStore.{PageToStore}
use Rattle.fax_spool.specs.RecordOctets.{PageValue}
use Rattle.fax_spool.specs.declared.spool.Spool.{Spool}
use Rattle.fax_queue.specs.Storing.{AreNumbered, AreNumbersOf, AreRecordsUnder, PutsNumbered, PutsRecords, number_at}
use Rattle.fax_queue.specs.Queues.{QueueValue}
use Rattle.fax_queue.proofs.Records.{are_records}
use Rattle.fax_queue.proofs.Queueing.{wait_put}

-- the number of one more page
pub numbers_more : (queues : List QueueValue) (life : ℕ) (pages : List PageToStore) (numbers : List ℕ) (page : PageToStore) (number : ℕ) → length numbers < length pages → page ≡ slice_index_or pages (length numbers) page
    → number ≡ number_at queues life page.line page.kept.call → AreNumbersOf queues life pages numbers → AreNumbersOf queues life pages (numbers ++ number ∷ [])
numbers_more queues life [] numbers page number low got is are = absurd (omega (arith, low))
numbers_more queues life (p ∷ pages) [] page number low got is are = (is ∙ ap (λ (q : PageToStore). number_at queues life q.line q.kept.call) got, tt)
numbers_more queues life (p ∷ pages) (n ∷ numbers) page number low got is are = (are.0, numbers_more queues life pages numbers page number (omega (arith, low)) got is are.1)

numbered_so : (queues : List QueueValue) (life : ℕ) (lines : List (List ℕ)) (pages : List PageToStore) (numbers : List ℕ) (values : List PageValue) → AreNumbersOf queues life pages numbers → AreRecordsUnder life lines pages numbers values
    → AreNumbered queues life pages values
numbered_so queues life lines [] numbers [] nums are = tt
numbered_so queues life lines [] numbers (v ∷ values) nums are = absurd are
numbered_so queues life lines (p ∷ pages) [] [] nums are = absurd are
numbered_so queues life lines (p ∷ pages) [] (v ∷ values) nums are = absurd are
numbered_so queues life lines (p ∷ pages) (n ∷ numbers) [] nums are = absurd are
numbered_so queues life lines (p ∷ pages) (n ∷ numbers) (v ∷ values) nums are = (are.1.life_is, are.1.number_is ∙ nums.0, numbered_so queues life lines pages numbers values nums.1 are.2)

module _ {D : Type 0} (seen : D → List ℕ) (may_leave : D → List ℕ → Type 0) (is_usable : D → Bool) where
  pub numbered_through : (answer : Result (Unit {0}) StoreFault) (life : ℕ) (lines : List (List ℕ)) (pages : List PageToStore) (numbers numbers_1 : List ℕ) (queues : List QueueValue) (before put last : Spool D) → numbers_1 ≡ numbers → last ≡ put
      → AreNumbersOf queues life pages numbers → OnOk answer (PutsRecords seen may_leave is_usable life lines pages numbers_1 before put) → OnOk answer (PutsNumbered seen may_leave is_usable queues life pages before last)
  numbered_through (Err e) life lines pages numbers numbers_1 queues before put last same left nums is = tt
  numbered_through (Ok u) life lines pages numbers numbers_1 queues before put last same left nums is =
      let are : AreRecordsUnder life lines pages numbers is.values = subst (λ (l : List ℕ). AreRecordsUnder life lines pages l is.values) same is.are in
      subst (λ (s : Spool D). PutsNumbered seen may_leave is_usable queues life pages before s) (sym left) (record {
        values = is.values;
        are = are_records life lines pages numbers is.values are;
        numbered = numbered_so queues life lines pages numbers is.values nums are;
        wait = wait_put before put is.values is.put;
      })
