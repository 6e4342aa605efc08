-- The end of a job, after its pages were read and kept.
use Rattle.std.specs.Result.{is_ok}
use Rattle.std.specs.Prelude.{◌==◌}
use Rattle.fax_spool.specs.Calls.{Does, Puts, Rests}
use Rattle.fax_undelivered.specs.Calls.{with_its_card}
use Rattle.fax_undelivered.specs.Keeps.{Keeps}
use Rattle.std.proofs.Common.{Result, Ok, Err, OnOk, OnErr, ◌≡◌, ◌⊎◌, ℕ, ◌<◌, inl, inr, Bool, true, false, not, ◌&&◌, List, [], ◌∷◌, ◌++◌, length, MatchOption, Option, Some, None, slice_get, refl, sym, ◌∙◌, ap, subst}
use Rattle.fax_jobs.specs.declared.report.Report.{Report}
use Rattle.fax_spool.specs.RecordOctets.{PageValue}
use Rattle.fax_spool.specs.Calls.{IsRead, Refuses, refuses_now}
use Rattle.fax_spool.specs.declared.spool.Spool.{Spool}
use Rattle.fax_queue.specs.declared.end_fault.EndFault.{EndFault}
use Rattle.fax_queue.specs.declared.end_fault.EndFault.TheVariants as faults
use Rattle.fax_queue.specs.EndFaults.{IsWhy}
use Rattle.fax_queue.specs.Jobs.{EndsJobAt, ReadsLeft, WaitSo}
use Rattle.fax_queue.specs.Lives.{state_of}
use Rattle.fax_queue.specs.Queues.{QueueValue}
use Rattle.fax_queue.specs.Refusals.{EndsSomehowAt, IsAnEnd, notes_of}
use Rattle.fax_queue.specs.SpoolStorage.{EndsJobIf}
use Rattle.fax_queue.specs.Storing.{Agree}
use Rattle.fax_undelivered.specs.Cards.{CardValue}
use Rattle.fax_undelivered.specs.StoredEnds.{EndsStored, EndsWhere, KeepsLeft, MayEnd, PutsIf, card_for}
use Rattle.fax_undelivered.specs.declared.undelivered.Undelivered.{Undelivered}

-- ---- a spool that was read

module _ {D : Type 0} (seen : D → List ℕ) (may_leave : D → List ℕ → Type 0) (is_usable : D → Bool) (before read : Spool D) (is : IsRead seen may_leave is_usable before read) where
  pub wait_still : (waits : List PageValue) → Rests seen may_leave is_usable before waits → Rests seen may_leave is_usable read waits
  wait_still waits was = record { olds = was.olds; news = was.news; kept = is.keeps was.olds was.news was.kept; in_order = was.in_order; wait = was.wait }

  agree_still : (queues : List QueueValue) → Agree seen may_leave is_usable before queues → Agree seen may_leave is_usable read queues
  agree_still queues agree = record { pages = agree.pages; wait = wait_still agree.pages agree.wait; among = agree.among }

  notes_still : (queue : QueueValue) → notes_of read queue ≡ notes_of before queue
  notes_still queue = ap (λ (b : Bool). queue.is_whole && not b) is.refuses

  ends_still : (pages line : ℕ) (olds news : List QueueValue) (after : Spool D) → EndsJobAt seen may_leave is_usable pages line olds news read after → EndsJobAt seen may_leave is_usable pages line olds news before after
  ends_still pages line olds news after e = record {
    old = e.old;
    new = e.new;
    was = e.was;
    is = e.is;
    are = e.are;
    ends = record {
      ended = e.ends.ended;
      line_is = e.ends.line_is;
      named = e.ends.named;
      first = e.ends.first;
      whole = e.ends.whole;
      leaves = e.ends.leaves;
      wait = λ waits was. e.ends.wait waits (wait_still waits was);
    };
  }

  somehow_still : (pages line : ℕ) (olds news : List QueueValue) (after : Spool D) → EndsSomehowAt seen may_leave is_usable pages line olds news read after
      → EndsSomehowAt seen may_leave is_usable pages line olds news before after
  somehow_still pages line olds news after e = record {
    old = e.old;
    new = e.new;
    was = e.was;
    is = e.is;
    are = e.are;
    ends = record {
      line_is = e.ends.line_is;
      left = λ waits was.
          subst (λ (b : Bool). WaitSo seen may_leave is_usable after (λ told. IsAnEnd e.old.line pages (state_of e.old b waits) (state_of e.new (notes_of after e.new) told))) (notes_still e.old)
          (e.ends.left waits (wait_still waits was));
    };
  }

  -- its end is what it would be had it not been read
  pub ends_read : (line : ℕ) (report : Report) (olds news : List QueueValue) (after : Spool D) → (Refuses before → read ≡ before) → EndsJobIf seen may_leave is_usable line report olds news read after
      → EndsJobIf seen may_leave is_usable line report olds news before after
  ends_read line report olds news after same e = record {
    noted = e.noted;
    ends = λ so. ends_still report.pages line olds news after (e.ends so);
    why = e.why;
    left = λ un low. somehow_still report.pages line olds news after (e.left un low);
    agree = λ so own agree accepts. e.agree so own (agree_still olds agree) accepts;
    sure = λ so queue at. sym (notes_still queue) ∙ e.sure so queue at;
    refuses = λ refuses. let was = e.refuses (is.refuses ∙ refuses) in (was.0, was.1 ∙ same refuses);
  }

-- ---- an end that is not noted, since the pages could not be kept

why_left : {D : Type 0} (pages : ℕ) (o : Option QueueValue) (now : Spool D) → (fault : EndFault) × MatchOption o (fault ≡ faults.NoLine) (λ was. IsWhy fault pages was now)
why_left pages None now = (faults.NoLine, refl)
why_left pages (Some queue) now = (faults.NotStored, tt)

pub not_ended : {D : Type 0} (seen : D → List ℕ) (may_leave : D → List ℕ → Type 0) (is_usable : D → Bool) (line : ℕ) (report : Report) (olds news : List QueueValue) (before after : Spool D) → after ≡ before
    → ((pages : ℕ) → line < length olds → EndsSomehowAt seen may_leave is_usable pages line olds news before after) → EndsJobIf seen may_leave is_usable line report olds news before after
not_ended seen may_leave is_usable line report olds news before after same left = record {
  noted = false;
  ends = λ so. absurd (cc);
  why = λ un. why_left report.pages (slice_get olds line) after;
  left = λ un low. left report.pages low;
  agree = λ so. absurd (cc);
  sure = λ so. absurd (cc);
  refuses = λ refuses. (refl, same);
}

-- ---- pages that are kept

pub keeps_left :
    {D U : Type 0} (seen : D → List ℕ) (may_leave : D → List ℕ → Type 0) (is_usable is_clean : D → Bool) (seen_too : U → List ℕ) (may_leave_too : U → List ℕ → Type 0) (is_usable_too : U → Bool)
    (line : ℕ) (report : Report) (card : CardValue) (queues : List QueueValue) (before read : Spool D) (is_ok : Bool) (old new : Undelivered U) (pages : List PageValue) (o : Option QueueValue) → slice_get queues line ≡ o
    → MatchOption o ⊥ (λ queue. ReadsLeft seen may_leave is_usable is_clean report.pages report.delivered queue before read pages) → PutsIf seen_too may_leave_too is_usable_too pages card is_ok old new
    → KeepsLeft seen may_leave is_usable is_clean seen_too may_leave_too is_usable_too line report card queues before read is_ok old new
keeps_left seen may_leave is_usable is_clean seen_too may_leave_too is_usable_too line report card queues before read is_ok old new pages None at left put = absurd left
keeps_left seen may_leave is_usable is_clean seen_too may_leave_too is_usable_too line report card queues before read is_ok old new pages (Some queue) at left put =
    record { queue = queue; was = at; pages = pages; left = left; put = put }

-- ---- both

pub ends_kept :
    {D U : Type 0} (seen : D → List ℕ) (may_leave : D → List ℕ → Type 0) (is_usable is_clean : D → Bool) (seen_too : U → List ℕ) (may_leave_too : U → List ℕ → Type 0) (is_usable_too : U → Bool)
    (line day : ℕ) (report : Report) (said cause : List ℕ) (olds queues news : List QueueValue) (before read after : Spool D) (may : Bool) (old new : Option (Undelivered U)) → said ≡ cause
    → MayEnd seen may_leave is_usable is_clean seen_too may_leave_too is_usable_too line report (card_for report said day) olds before read may old new
    → IsRead seen may_leave is_usable before read → (Refuses before → read ≡ before) → queues ≡ olds → EndsWhere seen may_leave is_usable may line report queues news read after
    → EndsStored seen may_leave is_usable is_clean seen_too may_leave_too is_usable_too line report (card_for report cause day) olds news before after old new
unfolding ends_read
ends_kept seen may_leave is_usable is_clean seen_too may_leave_too is_usable_too line day report said cause olds queues news before read after may old new causes first is_read still same ends =
    let here : EndsWhere seen may_leave is_usable may line report olds news read after = subst (λ (q : List QueueValue). EndsWhere seen may_leave is_usable may line report q news read after) same ends in
    record {
      ends = ends_read seen may_leave is_usable before read is_read line report olds news after still here.ends;
      read = read;
      is_read = is_read;
      may = may;
      first = subst (λ (l : List ℕ). MayEnd seen may_leave is_usable is_clean seen_too may_leave_too is_usable_too line report (card_for report l day) olds before read may old new) causes first;
      owed = here.owed;
    }

pub ends_where_not : {D : Type 0} (seen : D → List ℕ) (may_leave : D → List ℕ → Type 0) (is_usable : D → Bool) (may : Bool) (line : ℕ) (report : Report) (olds news : List QueueValue) (before after : Spool D) → after ≡ before
    → ((pages : ℕ) → line < length olds → EndsSomehowAt seen may_leave is_usable pages line olds news before after) → EndsWhere seen may_leave is_usable may line report olds news before after
unfolding not_ended
ends_where_not seen may_leave is_usable may line report olds news before after same left = record {
  ends = not_ended seen may_leave is_usable line report olds news before after same left;
  owed = λ un. (refl, same);
}

pub ends_where : {D : Type 0} (seen : D → List ℕ) (may_leave : D → List ℕ → Type 0) (is_usable : D → Bool) (may : Bool) (line : ℕ) (report : Report) (olds news : List QueueValue) (before after : Spool D) → may ≡ true
    → EndsJobIf seen may_leave is_usable line report olds news before after → EndsWhere seen may_leave is_usable may line report olds news before after
ends_where seen may_leave is_usable may line report olds news before after so ends = record { ends = ends; owed = λ un. let wrong : true ≡ false = sym so ∙ un in absurd (cc) }

-- what is put of pages
pub puts_if :
    {U E : Type 0} (seen : U → List ℕ) (may_leave : U → List ℕ → Type 0) (is_usable : U → Bool) (pages : List PageValue) (card : CardValue) (answer : Result (Unit {0}) E) (b : Bool) (old new : Undelivered U) → false ≡ (length pages == 0)
    → b ≡ is_ok answer → OnOk answer ((waits : List PageValue) → Keeps seen may_leave is_usable old waits → Keeps seen may_leave is_usable new (waits ++ with_its_card pages card))
    → Does seen may_leave is_usable (Puts (with_its_card pages card)) (is_ok answer) old.spool new.spool → OnErr answer (new.calls.items ≡ old.calls.items) → PutsIf seen may_leave is_usable pages card b old new
puts_if seen may_leave is_usable [] card answer b old new some is kept does same = absurd (cc)
puts_if seen may_leave is_usable (p ∷ pages) card (Ok x) b old new some is kept does same = record {
  kept = λ so. kept;
  does = subst (λ (t : Bool). Does seen may_leave is_usable (Puts (with_its_card (p ∷ pages) card)) t old.spool new.spool) (sym is) does;
  same = λ un. let wrong : true ≡ false = sym is ∙ un in absurd (cc);
}
puts_if seen may_leave is_usable (p ∷ pages) card (Err e) b old new some is kept does same = record {
  kept = λ so. let wrong : false ≡ true = sym is ∙ so in absurd (cc);
  does = subst (λ (t : Bool). Does seen may_leave is_usable (Puts (with_its_card (p ∷ pages) card)) t old.spool new.spool) (sym is) does;
  same = λ un. same;
}
