-- No page is dropped.
use Rattle.std.proofs.Common.{◌≡◌, ◌⊎◌, ℕ, ◌<◌, ◌≤◌, inl, inr, Bool, true, false, not, cond, List, [], ◌∷◌, ◌++◌, Option, Some, refl, sym, ◌∙◌, ap, subst, arith, append_assoc}
use Rattle.std.specs.List.{filter}
use Rattle.std.proofs.lemmas.List.{append-nil}
use Rattle.std.proofs.lemmas.Bool.Decides.{nat_tests}
use Rattle.fax_jobs.specs.declared.outcome.Outcome.TheVariants.{Delivered}
use Rattle.fax_jobs.specs.declared.report.Report.{Report}
use Rattle.fax_spool.specs.Calls as spools
use Rattle.fax_spool.specs.RecordOctets.{EndedValue, PageValue}
use Rattle.fax_spool.specs.Spools.{AreClean, files_of}
use Rattle.fax_spool.specs.Torn.{CallName}
use Rattle.fax_spool.specs.Waits.{PageName, ended_by, ends, name_of, without}
use Rattle.fax_spool.specs.declared.spool.Spool.{Spool}
use Rattle.fax_queue.specs.Jobs.{AreLeft}
use Rattle.fax_queue.specs.Queues.{QueueValue}
use Rattle.fax_undelivered.specs.Cards.{CardValue, card_octets}
use Rattle.fax_undelivered.specs.Calls.{card_records, end_from, end_of, with_its_card}
use Rattle.fax_undelivered.specs.Keeps.{Keeps}
use Rattle.fax_undelivered.specs.StoredEnds.{EndsStored, KeepsLeft, MayEnd, MayEndWith, PutsIf}
use Rattle.fax_undelivered.specs.Dropped.{AreKept, AreNotDelivered, Arrives, Befell, Comes, Discards, Ends, EndsAs, Event, FailedPutsLeaveJobs, Goes, IsIn, IsNotDropped, StoredEndsAreEvents, MayPut, NothingIsDropped, Pairs, Puts, Rests, put_in, with_if}
use Rattle.fax_undelivered.specs.declared.undelivered.Undelivered.{Undelivered}
use Rattle.fax_undelivered.proofs.Ending.{wait_still}
use Rattle.fax_undelivered.proofs.Numbered.{ended_is_of, in_filter}

-- ---- pages of a list

pub in_front : (page : PageValue) (a b : List PageValue) → IsIn page a → IsIn page (a ++ b)
in_front page [] b is = absurd is
in_front page (p ∷ a) b (inl same) = inl same
in_front page (p ∷ a) b (inr is) = inr (in_front page a b is)

pub in_back : (page : PageValue) (a b : List PageValue) → IsIn page b → IsIn page (a ++ b)
in_back page [] b is = is
in_back page (p ∷ a) b is = inr (in_back page a b is)

in_either : (page : PageValue) (a b : List PageValue) → IsIn page (a ++ b) → IsIn page a ⊎ IsIn page b
in_either page [] b is = inr is
in_either page (p ∷ a) b (inl same) = inl (inl same)
in_either page (p ∷ a) b (inr is) = elim (in_either page a b is) [ inl here ↦ inl (inr here) | inr there ↦ inr there ]

in_ended : (e : EndedValue) (page : PageValue) (pages : List PageValue) → ends e (name_of page) ≡ true → IsIn page pages → IsIn page (ended_by e pages)
in_ended e page pages so is = in_filter (λ p. ends e (name_of p)) page pages so is

in_without : (e : EndedValue) (page : PageValue) (pages : List PageValue) → ends e (name_of page) ≡ false → IsIn page pages → IsIn page (without e pages)
in_without e page pages un is = in_filter (λ p. not (ends e (name_of p))) page pages (ap not un) is

moved : (page : PageValue) (a b : List PageValue) → b ≡ a → IsIn page a → IsIn page b
moved page a b same is = subst (λ (l : List PageValue). IsIn page l) (sym same) is

with_more : (page : PageValue) (b : Bool) (waits pages : List PageValue) → IsIn page waits → IsIn page (with_if b waits pages)
with_more page true waits pages is = in_front page waits pages is
with_more page false waits pages is = is

-- ---- one event

module _ (page : PageValue) (events : List Event) (old new : Pairs) where
  after_end : (e left : EndedValue) → Goes (Ends e left) old new → IsIn page old.first → (b : Bool) → ends e (name_of page) ≡ b → IsNotDropped page (Ends e left ∷ events) new
  after_end e left goes is false un = inl (moved page _ new.first goes.0 (in_without e page old.first un is))
  after_end e left goes is true so = elim (goes.2 page is so) [
    | inl delivered ↦ inr (inr (inl (inl (so, delivered))))
    | inr kept ↦ inr (inl (moved page _ new.second goes.1 kept))
  ]

  after_discard : (name : CallName) → Goes (Discards name) old new → IsIn page old.second → (b : Bool) → ends (end_of name) (name_of page) ≡ b → IsNotDropped page (Discards name ∷ events) new
  after_discard name goes is false un = inr (inl (moved page _ new.second goes.1 (in_without (end_of name) page old.second un is)))
  after_discard name goes is true so = inr (inr (inr (inl so)))

  after_try : (name : CallName) (numbers : List ℕ) → Goes (Arrives name numbers) old new → 0 < page.number → IsIn page old.second → (b : Bool) → ends (end_of name) (name_of page) ≡ b
      → IsNotDropped page (Arrives name numbers ∷ events) new
  after_try name numbers goes some is false un = inr (inl (moved page _ new.second goes.1 (in_without (end_of name) page old.second un is)))
  after_try name numbers goes some is true so = inr (inr (inl (inl (ended_is_of name page so, goes.2 page is so some))))

  -- a page that was not dropped before is not by it
  still : (event : Event) → 0 < page.number → Goes event old new → IsNotDropped page events old → IsNotDropped page (event ∷ events) new
  still (Puts pages) some goes (inl is) = inl (moved page _ new.first goes.0 (in_front page old.first pages is))
  still (Puts pages) some goes (inr (inl is)) = inr (inl (moved page _ new.second goes.1 is))
  still (Puts pages) some goes (inr (inr (inl is))) = inr (inr (inl is))
  still (Puts pages) some goes (inr (inr (inr is))) = inr (inr (inr is))
  still (MayPut pages b) some goes (inl is) = inl (moved page _ new.first goes.0 (with_more page b old.first pages is))
  still (MayPut pages b) some goes (inr (inl is)) = inr (inl (moved page _ new.second goes.1 is))
  still (MayPut pages b) some goes (inr (inr (inl is))) = inr (inr (inl is))
  still (MayPut pages b) some goes (inr (inr (inr is))) = inr (inr (inr is))
  still (Comes pages b) some goes (inl is) = inl (moved page _ new.first goes.0 is)
  still (Comes pages b) some goes (inr (inl is)) = inr (inl (moved page _ new.second goes.1 (with_more page b old.second pages is)))
  still (Comes pages b) some goes (inr (inr (inl is))) = inr (inr (inl is))
  still (Comes pages b) some goes (inr (inr (inr is))) = inr (inr (inr is))
  still (Ends e left) some goes (inl is) = after_end e left goes is (ends e (name_of page)) refl
  still (Ends e left) some goes (inr (inl is)) = inr (inl (moved page _ new.second goes.1 is))
  still (Ends e left) some goes (inr (inr (inl is))) = inr (inr (inl (inr is)))
  still (Ends e left) some goes (inr (inr (inr is))) = inr (inr (inr is))
  still (Discards name) some goes (inl is) = inl (moved page _ new.first goes.0 is)
  still (Discards name) some goes (inr (inl is)) = after_discard name goes is (ends (end_of name) (name_of page)) refl
  still (Discards name) some goes (inr (inr (inl is))) = inr (inr (inl is))
  still (Discards name) some goes (inr (inr (inr is))) = inr (inr (inr (inr is)))
  still (Arrives name numbers) some goes (inl is) = inl (moved page _ new.first goes.0 is)
  still (Arrives name numbers) some goes (inr (inl is)) = after_try name numbers goes some is (ends (end_of name) (name_of page)) refl
  still (Arrives name numbers) some goes (inr (inr (inl is))) = inr (inr (inl (inr is)))
  still (Arrives name numbers) some goes (inr (inr (inr is))) = inr (inr (inr is))
  still Rests some goes (inl is) = inl (moved page _ new.first goes.0 is)
  still Rests some goes (inr (inl is)) = inr (inl (moved page _ new.second goes.1 is))
  still Rests some goes (inr (inr (inl is))) = inr (inr (inl is))
  still Rests some goes (inr (inr (inr is))) = inr (inr (inr is))

-- ---- all of them

pub nothing_is_dropped : NothingIsDropped
nothing_is_dropped begun now [] page some befell is = elim (in_either page begun.first begun.second is) [
  | inl first ↦ inl (moved page _ now.first (ap (λ (p : Pairs). p.first) befell) first)
  | inr second ↦ inr (inl (moved page _ now.second (ap (λ (p : Pairs). p.second) befell) second))
]
nothing_is_dropped begun now (Puts pages ∷ events) page some befell is = elim (in_either page (put_in begun events) pages is) [
  | inl before ↦ still page events befell.0 now (Puts pages) some befell.2 (nothing_is_dropped begun befell.0 events page some befell.1 before)
  | inr put ↦ inl (moved page _ now.first befell.2.0 (in_back page befell.0.first pages put))
]
nothing_is_dropped begun now (MayPut pages b ∷ events) page some befell is = still page events befell.0 now (MayPut pages b) some befell.2 (nothing_is_dropped begun befell.0 events page some befell.1 is)
nothing_is_dropped begun now (Comes pages b ∷ events) page some befell is = still page events befell.0 now (Comes pages b) some befell.2 (nothing_is_dropped begun befell.0 events page some befell.1 is)
nothing_is_dropped begun now (Ends e left ∷ events) page some befell is = still page events befell.0 now (Ends e left) some befell.2 (nothing_is_dropped begun befell.0 events page some befell.1 is)
nothing_is_dropped begun now (Discards name ∷ events) page some befell is = still page events befell.0 now (Discards name) some befell.2 (nothing_is_dropped begun befell.0 events page some befell.1 is)
nothing_is_dropped begun now (Arrives name numbers ∷ events) page some befell is = still page events befell.0 now (Arrives name numbers) some befell.2 (nothing_is_dropped begun befell.0 events page some befell.1 is)
nothing_is_dropped begun now (Rests ∷ events) page some befell is = still page events befell.0 now Rests some befell.2 (nothing_is_dropped begun befell.0 events page some befell.1 is)

-- ---- the end of a job

-- a record of no pages
abbrev none : EndedValue
none = end_from 0 0 (record { life = 0; call = 0; line = [] })

none_ends : (page : PageName) → ends none page ≡ false
none_ends page = grind (arith, nat_tests)

none_left : (waits second : List PageValue) (e : EndedValue) → AreKept e none (record { first = waits; second = second })
none_left waits second e = λ page is ended. inl (none_ends (name_of page))

are_kept_by : (e left : EndedValue) (waits kept more pages : List PageValue) → pages ≡ ended_by left waits → ((page : PageValue) → IsIn page pages → IsIn page more) → AreKept e left (record { first = waits; second = kept ++ more })
are_kept_by e left waits kept more pages are within = λ page is ended. one page is (ends left (name_of page)) refl
  where
    one : (page : PageValue) → IsIn page waits → (b : Bool) → ends left (name_of page) ≡ b → (ends left (name_of page) ≡ false) ⊎ IsIn page (kept ++ more)
    one page is false un = inl un
    one page is true so = inr (in_back page kept more (within page (moved page (ended_by left waits) pages are (in_ended left page waits so is))))

module _ {D U : Type 0} (seen : D → List ℕ) (may_leave : D → List ℕ → Type 0) (is_usable is_clean : D → Bool) (seen_too : U → List ℕ) (may_leave_too : U → List ℕ → Type 0) (is_usable_too : U → Bool) where
  keeps_same : (old now : Undelivered U) (kept : List PageValue) → now ≡ old → Keeps seen_too may_leave_too is_usable_too old kept → Keeps seen_too may_leave_too is_usable_too now (kept ++ [])
  keeps_same old now kept same keeps = subst (λ (l : List PageValue). Keeps seen_too may_leave_too is_usable_too now l) (sym (append-nil kept)) (subst (λ (u : Undelivered U). Keeps seen_too may_leave_too is_usable_too u kept) (sym same) keeps)

  -- what was put of them
  came : (pages : List PageValue) (card : CardValue) (may : Bool) (old now : Undelivered U) (kept : List PageValue) → may ≡ true → PutsIf seen_too may_leave_too is_usable_too pages card may old now → Keeps seen_too may_leave_too is_usable_too old kept
      → (more : List PageValue) × Keeps seen_too may_leave_too is_usable_too now (kept ++ more) × ((page : PageValue) → IsIn page pages → IsIn page more)
  came [] card may old now kept so put keeps = ([], keeps_same old now kept put.1 keeps, λ page is. is)
  came (p ∷ pages) card may old now kept so put keeps =
      (with_its_card (p ∷ pages) card, put.kept so kept keeps, λ page is. in_front page (p ∷ pages) (card_records (p ∷ pages) (card_octets card)) is)

  module _ (line : ℕ) (report : Report) (card : CardValue) (olds news : List QueueValue) (before after : Spool D) (old : Undelivered U) (new : Option (Undelivered U)) (waits kept : List PageValue)
      (e : EndsStored seen may_leave is_usable is_clean seen_too may_leave_too is_usable_too line report card olds news before after (Some old) new) (so : e.ends.noted ≡ true)
      (wait : spools.Rests seen may_leave is_usable before waits) (keeps : Keeps seen_too may_leave_too is_usable_too old kept) (clean : AreClean is_clean (files_of e.read)) where
    may_so : (b : Bool) → e.may ≡ b → e.may ≡ true
    may_so true is = is
    may_so false is = let wrong : true ≡ false = sym so ∙ (e.owed is).0 in absurd (cc)

    may : e.may ≡ true
    may = may_so e.may refl

    as_event : (more : List PageValue) (left : EndedValue) → Keeps seen_too may_leave_too is_usable_too e.first.0 (kept ++ more) → AreKept (e.ends.ends so).ends.ended left (record { first = waits; second = kept ++ more })
        → AreNotDelivered report (e.ends.ends so).old left → EndsAs seen may_leave is_usable seen_too may_leave_too is_usable_too line report olds waits kept after new
    as_event more left keeping kept_all told = record {
      more = more;
      now = e.first.0;
      is = e.first.1;
      keeps = keeping;
      ended = (e.ends.ends so).ends.ended;
      left = left;
      wait = (e.ends.ends so).ends.wait waits wait;
      are_kept = kept_all;
      queue = (e.ends.ends so).old;
      was = (e.ends.ends so).was;
      not_delivered = told;
    }

    by_left : (k : KeepsLeft seen may_leave is_usable is_clean seen_too may_leave_too is_usable_too line report card olds before e.read e.may old e.first.0)
        → ((report.pages ≤ report.delivered) × (k.pages ≡ [])) ⊎ AreLeft seen may_leave is_usable is_clean report.pages report.delivered k.queue before e.read k.pages
        → EndsAs seen may_leave is_usable seen_too may_leave_too is_usable_too line report olds waits kept after new
    by_left k (inl all) =
        let it = came k.pages card e.may old e.first.0 kept may k.put keeps in
        as_event it.0 none it.1 (none_left waits (kept ++ it.0) (e.ends.ends so).ends.ended) (inl (inr all.0, refl))
    by_left k (inr some) =
        let it = came k.pages card e.may old e.first.0 kept may k.put keeps in
        let queue : (e.ends.ends so).old ≡ k.queue = let both : Some (e.ends.ends so).old ≡ Some k.queue = sym (e.ends.ends so).was ∙ k.was in cc in
        as_event it.0 some.reads.ended it.1 (are_kept_by (e.ends.ends so).ends.ended some.reads.ended waits kept it.0 k.pages (some.reads.found clean waits wait) it.2)
        (subst (λ (q : QueueValue). AreNotDelivered report q some.reads.ended) (sym queue) (inr (some.left, some.names, some.reads.is_end)))

    by_first : MayEndWith seen may_leave is_usable is_clean seen_too may_leave_too is_usable_too line report card olds before e.read e.may old e.first.0
        → EndsAs seen may_leave is_usable seen_too may_leave_too is_usable_too line report olds waits kept after new
    by_first (inl delivered) = as_event [] none (keeps_same old e.first.0 kept delivered.2 keeps) (none_left waits (kept ++ []) (e.ends.ends so).ends.ended) (inl (inl delivered.0, refl))
    by_first (inr (inl failed)) = let wrong : true ≡ false = sym may ∙ failed.0 in absurd (cc)
    by_first (inr (inr k)) = by_left k k.left.are

    ends_as : EndsAs seen may_leave is_usable seen_too may_leave_too is_usable_too line report olds waits kept after new
    ends_as = by_first e.first.2

  pub stored_ends_are_events : StoredEndsAreEvents seen may_leave is_usable is_clean seen_too may_leave_too is_usable_too
  stored_ends_are_events line report card olds news before after old new waits kept e so wait keeps clean = ends_as line report card olds news before after old new waits kept e so wait keeps clean

  pub failed_puts_leave_jobs : FailedPutsLeaveJobs seen may_leave is_usable is_clean seen_too may_leave_too is_usable_too
  failed_puts_leave_jobs line report card olds news before after old new waits e failed wait =
      subst (λ (s : Spool D). spools.Rests seen may_leave is_usable s waits) (sym (e.owed failed).1) (wait_still seen may_leave is_usable before e.read e.is_read waits wait)
