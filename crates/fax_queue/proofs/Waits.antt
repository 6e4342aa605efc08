-- What waits on a disk, after one more record or fewer.
use Rattle.std.proofs.Common.{◌≡◌, ◌∙◌, ℕ, ◌+◌, ◌<◌, ◌&&◌, nat_eq, nat_le, nat_lt, bytes_eq, inl, inr, Bool, true, false, not, cond, List, [], ◌∷◌, ◌++◌, map, refl, sym, ap, subst, append_assoc, append-nil}
use Rattle.std.specs.Bool.{MatchBool}
use Rattle.fax_spool.specs.RecordOctets.{EndedValue, PageValue}
use Rattle.fax_spool.specs.Calls.{Refuses, Rests}
use Rattle.fax_spool.specs.SpoolRecords.{page_record}
use Rattle.fax_spool.specs.Spools.{NoneIsLeft, Stores, epoch_records, greatest_epoch}
use Rattle.fax_spool.specs.Waits.{PageName, SharesWhatWaits, after, ends, name_of, waiting, waiting_after, without}
use Rattle.fax_spool.specs.declared.spool_record.SpoolRecord.{SpoolRecord}
use Rattle.fax_spool.specs.declared.spool.Spool.{Spool}
use Rattle.fax_spool.proofs.Order.{order_changed, waits_after_epoch}
use Rattle.fax_queue.specs.declared.queue.QueuedPage.{QueuedPage}
use Rattle.fax_queue.specs.Queues.{AreAmong, IsAmong, NoneIsForgotten, QueueValue, left_by, name_in}
use Rattle.fax_queue.specs.Jobs.{EndsJob, WaitSo}

-- ---- records

pub one_more : (pages : List PageValue) (records : List SpoolRecord) (r : SpoolRecord) → waiting_after pages (records ++ r ∷ []) ≡ after (waiting_after pages records) r
one_more pages [] r = refl
one_more pages (q ∷ records) r = one_more (after pages q) records r

after_both : (pages : List PageValue) (records more : List SpoolRecord) → waiting_after pages (records ++ more) ≡ waiting_after (waiting_after pages records) more
after_both pages [] more = refl
after_both pages (r ∷ records) more = after_both (after pages r) records more

all_wait : (pages values : List PageValue) → waiting_after pages (map page_record values) ≡ pages ++ values
all_wait pages [] = sym (append-nil pages)
all_wait pages (v ∷ values) = all_wait (pages ++ v ∷ []) values ∙ append_assoc pages (v ∷ []) values

-- pages that are put wait after the others
pub put_after : (pages : List PageValue) (records : List SpoolRecord) (values : List PageValue) → waiting_after pages (records ++ map page_record values) ≡ waiting_after pages records ++ values
put_after pages records values = after_both pages records (map page_record values) ∙ all_wait (waiting_after pages records) values

pub wait_cleared :
    {D : Type 0} {seen : D → List ℕ} {may_leave : D → List ℕ → Type 0} {is_usable : D → Bool} (old new : Spool D) (cleared : Bool) → SharesWhatWaits
    → ((olds news : List SpoolRecord) → Stores seen may_leave is_usable old olds news
    → MatchBool cleared (NoneIsLeft olds news × Stores seen may_leave is_usable new [] news) ((¬ NoneIsLeft olds news) × Stores seen may_leave is_usable new olds news))
    → (waits : List PageValue) → Rests seen may_leave is_usable old waits → Rests seen may_leave is_usable new waits
wait_cleared old new true shares cleared waits was =
    let is = cleared was.olds was.news was.kept in record {
      olds = [];
      news = was.news;
      kept = is.1;
      in_order = inl refl;
      wait = ap (λ (l : List PageValue). l ++ waiting was.news) (sym is.0) ∙ sym (shares was.olds was.news) ∙ was.wait;
    }
wait_cleared old new false shares cleared waits was = record { olds = was.olds; news = was.news; kept = (cleared was.olds was.news was.kept).1; in_order = was.in_order; wait = was.wait }

pub wait_changed :
    {D : Type 0} {seen : D → List ℕ} {may_leave : D → List ℕ → Type 0} {is_usable : D → Bool} (old new : Spool D) (changed : Bool) (number : ℕ)
    → ((olds news : List SpoolRecord) → Stores seen may_leave is_usable old olds news
    → MatchBool changed ((olds ≡ []) × (greatest_epoch news < number) × Stores seen may_leave is_usable new news (epoch_records number)) (Stores seen may_leave is_usable new olds news))
    → (waits : List PageValue) → Rests seen may_leave is_usable old waits → Rests seen may_leave is_usable new waits
wait_changed old new true number changed waits was =
    let is = changed was.olds was.news was.kept in record {
      olds = was.news;
      news = epoch_records number;
      kept = is.2;
      in_order = order_changed was.news number is.1;
      wait = waits_after_epoch was.news number ∙ ap (λ (l : List SpoolRecord). waiting (l ++ was.news)) (sym is.0) ∙ was.wait;
    }
wait_changed old new false number changed waits was = record { olds = was.olds; news = was.news; kept = changed was.olds was.news was.kept; in_order = was.in_order; wait = was.wait }

-- ---- a job that ended

-- what is done with the files after it changes nothing of what waits
pub job_stays :
    {D : Type 0} (seen : D → List ℕ) (may_leave : D → List ℕ → Type 0) (is_usable : D → Bool) (pages : ℕ) (old new : QueueValue) (before between after : Spool D) → EndsJob seen may_leave is_usable pages old new before between
    → ((waits : List PageValue) → Rests seen may_leave is_usable between waits → WaitSo seen may_leave is_usable after (λ told. told ≡ waits)) → (Refuses between → after ≡ between)
    → EndsJob seen may_leave is_usable pages old new before after
job_stays {D = D} seen may_leave is_usable pages old new before between after ends told same = record {
  ended = ends.ended;
  line_is = ends.line_is;
  named = ends.named;
  first = ends.first;
  whole = ends.whole;
  leaves = ends.leaves;
  wait = λ waits was. still (without ends.ended waits) (ends.wait waits was);
}
  where
    still : (left : List PageValue) → WaitSo seen may_leave is_usable between (λ t. t ≡ left) → WaitSo seen may_leave is_usable after (λ t. t ≡ left)
    still left (inl is) = subst (λ (l : List PageValue). WaitSo seen may_leave is_usable after (λ t. t ≡ l)) is.2 (told is.0 is.1)
    still left (inr is) = subst (λ (s : Spool D). WaitSo seen may_leave is_usable s (λ t. t ≡ left)) (sym (same is.0)) (inr is)

-- ---- another line

and_false : (a b : Bool) → b ≡ false → (a && b) ≡ false
and_false true b unlike = unlike
and_false false b unlike = refl

-- the end of a job of another line names no page of this one
pub ends_none_of : (ended : EndedValue) (name : PageName) → bytes_eq ended.line name.line ≡ false → ends ended name ≡ false
ends_none_of ended name unlike =
    ap (λ (b : Bool). b && nat_le ended.first name.number && nat_lt name.number (ended.first + ended.pages))
    (and_false (nat_eq ended.life name.life && nat_eq ended.call name.call) (bytes_eq ended.line name.line) unlike)

-- ---- the other pages of the queue

stays : (ended : EndedValue) (name : PageName) (waits : List PageValue) → ends ended name ≡ false → IsAmong name (map name_of waits) → IsAmong name (map name_of (without ended waits))
stays ended name [] not_ended among = among
stays ended name (page ∷ waits) not_ended (inl same) =
    let left : ends ended (name_of page) ≡ false = ap (λ (n : PageName). ends ended n) same ∙ not_ended in
    subst (λ (b : Bool). IsAmong name (map name_of (cond (not b) (page ∷ without ended waits) (without ended waits)))) (sym left) (inl same)
stays ended name (page ∷ waits) not_ended (inr among) =
    elim (ends ended (name_of page)) as (λ b. IsAmong name (map name_of (cond (not b) (page ∷ without ended waits) (without ended waits)))) [
      | true ↦ stays ended name waits not_ended among
      | false ↦ inr (stays ended name waits not_ended among)
    ]

stay : (ended : EndedValue) (line : List ℕ) (page : QueuedPage) (pages : List QueuedPage) (waits : List PageValue) (b : Bool) → ends ended (name_in line page) ≡ b
    → (page.is_stored ≡ true → IsAmong (name_in line page) (map name_of waits)) → AreAmong line (left_by ended line pages) (map name_of (without ended waits))
    → AreAmong line (cond (not b) (page ∷ left_by ended line pages) (left_by ended line pages)) (map name_of (without ended waits))
stay ended line page pages waits true is among more = more
stay ended line page pages waits false is among more = (λ kept. stays ended (name_in line page) waits is (among kept), more)

pub none_is_forgotten : NoneIsForgotten
none_is_forgotten ended line [] waits are = tt
none_is_forgotten ended line (page ∷ pages) waits are = stay ended line page pages waits (ends ended (name_in line page)) refl are.0 (none_is_forgotten ended line pages waits are.1)
