-- The end of a job whose pages are held.
use Rattle.std.proofs.Common.{◌≡◌, ℕ, ◌-◌, ◌++◌, min, Bool, true, false, inr, List, length, take, drop, Option, IfSome, ◌∙◌, ap, subst}
use Rattle.std.proofs.lemmas.List.{take_min, drop_min}
use Rattle.fax_jobs.specs.declared.report.Report.{Report}
use Rattle.fax_spool.specs.RecordOctets.{PageValue}
use Rattle.fax_spool.specs.Calls.{Does, Puts}
use Rattle.fax_queue.specs.Queues.{NamesLeft, QueueValue, stored_count}
use Rattle.fax_queue.specs.declared.queue.EndedJob.{EndedJob}
use Rattle.fax_undelivered.specs.Calls.{with_its_card}
use Rattle.fax_undelivered.specs.Cards.{CardValue}
use Rattle.fax_undelivered.specs.Keeps.{Keeps}
use Rattle.fax_undelivered.specs.StoredEnds.{PutsPages}
use Rattle.fax_undelivered.specs.declared.undelivered.Undelivered.{Undelivered}
use Rattle.fax_undelivered.specs.held.Held.{IsPut, IsNotPut, PutsLast, job_texts, last_of, texts_after}

-- the texts of a job that are there are its first ones
pub first_texts : (pages count kept : ℕ) (queue : QueueValue) (texts : List PageValue) → count ≡ min kept (length texts) → kept ≡ stored_count (take pages queue.waits) → take count texts ≡ job_texts pages queue texts
first_texts pages count kept queue texts is names =
    ap (λ n. take n texts) is ∙ take_min kept texts ∙ ap (λ n. take n texts) names

pub other_texts : (pages count kept : ℕ) (queue : QueueValue) (texts : List PageValue) → count ≡ min kept (length texts) → kept ≡ stored_count (take pages queue.waits) → drop count texts ≡ texts_after pages true queue texts
other_texts pages count kept queue texts is names =
    ap (λ n. drop n texts) is ∙ drop_min kept texts ∙ ap (λ n. drop n texts) names

pub is_put :
    {U : Type 0} (seen : U → List ℕ) (may_leave : U → List ℕ → Type 0) (is_usable : U → Bool) (report : Report) (card : CardValue) (queue : QueueValue) (texts : List PageValue) (old new : Undelivered U) (left : Option EndedJob) (pages : List PageValue)
    → pages ≡ job_texts report.pages queue texts → IfSome left (λ job. NamesLeft report.pages report.delivered job queue.waits) → PutsLast seen may_leave is_usable report card left pages old new
    → IsPut seen may_leave is_usable report card queue texts old new
is_put seen may_leave is_usable report card queue texts old new left pages are names kept = record {
  failed = kept.failed;
  left = kept.job;
  names = subst (λ (o : Option EndedJob). IfSome o (λ job. NamesLeft report.pages report.delivered job queue.waits)) kept.is names;
  has_all = kept.has_all;
  put = subst (λ (l : List PageValue). PutsPages seen may_leave is_usable (last_of (report.pages - report.delivered) l) card true old new) are kept.put;
}

-- pages were put with their card
pub puts_kept :
    {U : Type 0} (seen : U → List ℕ) (may_leave : U → List ℕ → Type 0) (is_usable : U → Bool) (pages : List PageValue) (card wanted : CardValue) (old new : Undelivered U) → card ≡ wanted
    → ((waits : List PageValue) → Keeps seen may_leave is_usable old waits → Keeps seen may_leave is_usable new (waits ++ with_its_card pages card))
    → Does seen may_leave is_usable (Puts (with_its_card pages card)) true old.spool new.spool → PutsPages seen may_leave is_usable pages wanted true old new
puts_kept seen may_leave is_usable pages card wanted old new is kept does =
    subst (λ (c : CardValue). PutsPages seen may_leave is_usable pages c true old new) is (record {
      kept = λ _. kept;
      does = does;
      same = λ un. let wrong : true ≡ false = un in absurd (cc);
    })

-- or were not
pub puts_not :
    {U : Type 0} (seen : U → List ℕ) (may_leave : U → List ℕ → Type 0) (is_usable : U → Bool) (pages : List PageValue) (card : CardValue) (old new : Undelivered U)
    → Does seen may_leave is_usable (Puts (with_its_card pages card)) false old.spool new.spool → new.calls.items ≡ old.calls.items → IsNotPut seen may_leave is_usable old new
puts_not seen may_leave is_usable pages card old new does same = inr (
  pages,
  card,
  record {
    kept = λ so. let wrong : false ≡ true = so in absurd (cc);
    does = does;
    same = λ _. same;
  },
)
