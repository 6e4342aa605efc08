-- What becomes of a line's past where pages that were not handed over are noted, and where jobs end.
use Rattle.std.proofs.Common.{◌≡◌, ◌≢◌, ◌∙◌, ℕ, zero, suc, ◌<◌, inl, inr, ◌⊎◌, Bool, true, false, not, ◌&&◌, bytes_eq, List, [], ◌∷◌, ◌++◌, length, drop, Option, Some, None, slice_get, arith, refl, sym, ap, subst}
use Rattle.std.specs.Prelude.{slice_set}
use Rattle.std.proofs.lemmas.Option.{slice_get_within}
use Rattle.fax_jobs.specs.declared.report.Report.{Report}
use Rattle.fax_line.specs.StoredRuns.{reports_of}
use Rattle.fax_line.specs.declared.settling.LineReport.{LineReport}
use Rattle.fax_spool.specs.RecordOctets.{EndedValue, PageValue}
use Rattle.fax_spool.specs.Calls.{Refuses, refuses_now, Rests}
use Rattle.fax_spool.specs.Waits.{ends, name_of, without, without_all}
use Rattle.fax_spool.specs.declared.spool.Spool.{Spool}
use Rattle.fax_queue.specs.Restorations.{own_pages}
use Rattle.fax_queue.specs.Queues.{IsQueued, QueueValue, left_by, lines_of}
use Rattle.fax_queue.specs.declared.queue.QueuedPage.{QueuedPage}
use Rattle.fax_queue.specs.Jobs.{EndsJob, EndsJobAt, WaitSo}
use Rattle.fax_queue.specs.Storing.{AddsTo, placed_as}
use Rattle.fax_queue.specs.Lives.{NotesStill, state_of}
use Rattle.fax_queue.specs.Refusals.{EndsSomehow, EndsSomehowAt, IsAnEnd, notes_of}
use Rattle.fax_queue.specs.SpoolStorage.{EndsJobIf, NotesPage}
use Rattle.fax_queue.specs.Together.{AreOfOthers, EndsOne, EndsTogether, HasRecord, LetsGo, StaysUnnoted}
use Rattle.fax_gateway.specs.Restored.{CallPage}
use Rattle.fax_queue.specs.Book.{BookEntry, Reports}
use Rattle.fax_queue.proofs.Lives.{commute, others_are_beside}
use Rattle.fax_queue.proofs.Pasts.{PastAs, past_beside, past_ends, past_noted, past_refuses, wait_map}
use Rattle.fax_queue.proofs.PastPuts.{AreOtherNames, IsConfirmed, line_at, notes_before, notes_so, set_line, still_refuses}
use Rattle.fax_queue.proofs.Refusing.{refusing, sure_so}
use Rattle.fax_queue.proofs.Queueing.{set_at}
use Rattle.fax_queue.proofs.Slots.{set_other}
use Rattle.fax_queue.proofs.Together.{without_split}

no_both : (b : Bool) → b ≡ true → b ≡ false → ⊥
no_both b on off = let no : true ≡ false = sym on ∙ off in cc

same_queue : (a b : QueueValue) → Some a ≡ Some b → a ≡ b
same_queue a b same = cc

-- a place that has a name has a queue
low_place : (queues : List QueueValue) (names : List (List ℕ)) (place : ℕ) → lines_of queues ≡ names → place < length names → place < length queues
low_place [] names place are low = let none : length names ≡ 0 = ap length (sym are) in omega (arith, low, none)
low_place (s ∷ queues) names zero are low = omega arith
low_place (s ∷ queues) [] (suc place) are low = absurd (omega (arith, low))
low_place (s ∷ queues) (n ∷ names) (suc place) are low =
    let rest : lines_of queues ≡ names = cc in
    let less : place < length queues = low_place queues names place rest (omega (arith, low)) in omega (arith, less)

-- ---- what is held of a line

-- the queue of this line at its place, under these names, and its past, whatever crash follows
pub record Held {D : Type 0} (seen : D → List ℕ) (may_leave : D → List ℕ → Type 0) (is_usable : D → Bool) (A : Type 0) (number : ℕ) (line : List ℕ) (names : List (List ℕ)) (t : List BookEntry) (q : List CallPage) (queues : List QueueValue) (spool : Spool D) : Type 0 where
  pub queue : QueueValue
  pub there : slice_get queues number ≡ Some queue
  pub named : queue.line ≡ line
  pub lines : lines_of queues ≡ names
  pub waits : WaitSo seen may_leave is_usable spool (PastAs A line t q queue (notes_of spool queue))

module _ {D : Type 0} (seen : D → List ℕ) (may_leave : D → List ℕ → Type 0) (is_usable : D → Bool) where
  -- ---- what each crash tells after the end of a job

  ends_ok :
      (pages : ℕ) (old new : QueueValue) (before after : Spool D) (P Q : List PageValue → Type 0) (job : EndsJob seen may_leave is_usable pages old new before after) → (Refuses before → ⊥)
      → ((told : List PageValue) → P told → Q (without job.ended told)) → WaitSo seen may_leave is_usable before P → WaitSo seen may_leave is_usable after Q
  ends_ok pages old new before after P Q job accepts step (inl is) =
      wait_map seen may_leave is_usable after (λ told. told ≡ without job.ended is.0) Q (λ told same. subst Q (sym same) (step is.0 is.2)) (job.wait is.0 is.1)
  ends_ok pages old new before after P Q job accepts step (inr is) = absurd (accepts is.0)

  ends_err :
      (pages : ℕ) (old new : QueueValue) (before after : Spool D) (P Q : List PageValue → Type 0) (some : EndsSomehow seen may_leave is_usable pages old new before after) → (Refuses before → after ≡ before)
      → ((told more : List PageValue) → IsAnEnd old.line pages (state_of old (notes_of before old) told) (state_of new (notes_of after new) more) → P told → Q more) → (Refuses before → (told : List PageValue) → P told → Q told)
      → WaitSo seen may_leave is_usable before P → WaitSo seen may_leave is_usable after Q
  ends_err pages old new before after P Q some same step still (inl is) =
      wait_map seen may_leave is_usable after (λ more. IsAnEnd old.line pages (state_of old (notes_of before old) is.0) (state_of new (notes_of after new) more)) Q (λ more ends. step is.0 more ends is.2) (some.left is.0 is.1)
  ends_err pages old new before after P Q some same step still (inr is) =
      subst (λ (s : Spool D). WaitSo seen may_leave is_usable s Q) (sym (same is.0)) (wait_map seen may_leave is_usable before P Q (still is.0) (inr is))

  -- ---- of another line

  own_by_end : (line other : List ℕ) (pages : ℕ) (old new queue : QueueValue) (a b : Bool) (told more : List PageValue) → other ≢ line → IsAnEnd other pages (state_of old a told) (state_of new b more)
      → own_pages line more ≡ own_pages line told
  own_by_end line other pages old new queue a b told more unlike (inl is) =
      ap (λ (l : List PageValue). own_pages line l) is.gone ∙ ((others_are_beside line queue true told).1 is.ended (λ same. unlike (sym is.named ∙ same))).same
  own_by_end line other pages old new queue a b told more unlike (inr (inl is)) = ap (λ (l : List PageValue). own_pages line l) is.0
  own_by_end line other pages old new queue a b told more unlike (inr (inr is)) = ap (λ (l : List PageValue). own_pages line l) is.same

  module _ (A : Type 0) (number : ℕ) (line : List ℕ) (names : List (List ℕ)) (other : AreOtherNames number line names) (low_number : number < length names) (t : List BookEntry) (q : List CallPage) where
    abbrev pub Holds : List BookEntry → List QueueValue → Spool D → Type 0
    Holds u queues spool = Held seen may_leave is_usable A number line names u q queues spool

    -- the queue at another place has another name
    unlike_name : (place : ℕ) (queues : List QueueValue) (old : QueueValue) → lines_of queues ≡ names → place ≢ number → slice_get queues place ≡ Some old → old.line ≢ line
    unlike_name place queues old lines unlike was = other place old.line (ap (λ (l : List (List ℕ)). slice_get l place) (sym lines) ∙ line_at queues place old was) unlike

    -- one queue of another line changes
    stays_at : (place : ℕ) (olds news : List QueueValue) (old new : QueueValue) (before after : Spool D) (held : Holds t olds before) → place ≢ number → slice_get olds place ≡ Some old → news ≡ slice_set olds place new
        → new.line ≡ old.line → WaitSo seen may_leave is_usable after (PastAs A line t q held.queue (notes_of after held.queue)) → Holds t news after
    stays_at place olds news old new before after held unlike was are same waits = record {
      queue = held.queue;
      there = ap (λ (l : List QueueValue). slice_get l number) are ∙ set_other olds place number new unlike ∙ held.there;
      named = held.named;
      lines = ap lines_of are ∙ set_line olds place old new was same ∙ held.lines;
      waits = waits;
    }

    pub other_ended : (place : ℕ) (report : Report) (olds news : List QueueValue) (before after : Spool D) → place ≢ number → place < length names
        → EndsJobIf seen may_leave is_usable place report olds news before after → Holds t olds before → Holds t news after
    other_ended place report olds news before after unlike low ends held = by ends.noted refl
      where
        by : (b : Bool) → ends.noted ≡ b → Holds t news after
        by true on =
            let at : EndsJobAt seen may_leave is_usable report.pages place olds news before after = ends.ends on in
            let job : EndsJob seen may_leave is_usable report.pages at.old at.new before after = at.ends in
            let differ : at.old.line ≢ line = unlike_name place olds at.old held.lines unlike at.was in
            let accepts : Refuses before → ⊥ = λ refuses. no_both ends.noted on (ends.refuses refuses).0 in
            stays_at place olds news at.old at.new before after held unlike at.was at.are job.line_is
            (ends_ok report.pages at.old at.new before after (PastAs A line t q held.queue (notes_of before held.queue)) (PastAs A line t q held.queue (notes_of after held.queue)) job accepts
            (λ told past. past_beside A line t q held.queue held.queue (notes_of before held.queue) (notes_of after held.queue) told (without job.ended told) refl
            ((others_are_beside line held.queue true told).1 job.ended (λ same. differ (sym job.named ∙ same))).same
            (notes_before seen may_leave is_usable before after held.queue (λ refuses. (ends.refuses refuses).1)) past) held.waits)
        by false off =
            let some : EndsSomehowAt seen may_leave is_usable report.pages place olds news before after = ends.left off (low_place olds names place held.lines low) in
            let differ : some.old.line ≢ line = unlike_name place olds some.old held.lines unlike some.was in
            let same : Refuses before → after ≡ before = λ refuses. (ends.refuses refuses).1 in
            let still : notes_of after held.queue ≡ true → notes_of before held.queue ≡ true = notes_before seen may_leave is_usable before after held.queue same in
            stays_at place olds news some.old some.new before after held unlike some.was some.are some.ends.line_is
            (ends_err report.pages some.old some.new before after (PastAs A line t q held.queue (notes_of before held.queue)) (PastAs A line t q held.queue (notes_of after held.queue)) some.ends same
            (λ told more is past. past_beside A line t q held.queue held.queue (notes_of before held.queue) (notes_of after held.queue) told more refl
            (own_by_end line some.old.line report.pages some.old some.new held.queue (notes_of before some.old) (notes_of after some.new) told more differ is) still past)
            (λ refuses told past. past_beside A line t q held.queue held.queue (notes_of before held.queue) (notes_of after held.queue) told told refl refl still past) held.waits)

    -- ---- of the line itself

    changes_at : (u : List BookEntry) (olds news : List QueueValue) (old new : QueueValue) (before after : Spool D) (held : Holds t olds before) → slice_get olds number ≡ Some old → news ≡ slice_set olds number new
        → new.line ≡ old.line → WaitSo seen may_leave is_usable after (PastAs A line u q new (notes_of after new)) → Holds u news after
    changes_at u olds news old new before after held was are same waits = record {
      queue = new;
      there = ap (λ (l : List QueueValue). slice_get l number) are ∙ set_at olds number new (slice_get_within olds number old was);
      named = same ∙ ap (λ (s : QueueValue). s.line) (same_queue old held.queue (sym was ∙ held.there)) ∙ held.named;
      lines = ap lines_of are ∙ set_line olds number old new was same ∙ held.lines;
      waits = waits;
    }

    -- its past, by the queue that is there
    past_of : (olds : List QueueValue) (before : Spool D) (old : QueueValue) (held : Holds t olds before) → slice_get olds number ≡ Some old → WaitSo seen may_leave is_usable before (PastAs A line t q old (notes_of before old))
    past_of olds before old held was =
        subst (λ (s : QueueValue). WaitSo seen may_leave is_usable before (PastAs A line t q s (notes_of before s))) (same_queue held.queue old (sym held.there ∙ was)) held.waits

    name_of_old : (olds : List QueueValue) (before : Spool D) (old : QueueValue) (held : Holds t olds before) → slice_get olds number ≡ Some old → old.line ≡ line
    name_of_old olds before old held was = ap (λ (s : QueueValue). s.line) (same_queue old held.queue (sym was ∙ held.there)) ∙ held.named

    pub own_ended : (report : Report) (olds news : List QueueValue) (before after : Spool D) → (ends : EndsJobIf seen may_leave is_usable number report olds news before after) → (A → ends.noted ≡ true) → Holds t olds before → Holds (Reports report.pages ∷ t) news after
    own_ended report olds news before after ends sure held = by ends.noted refl
      where
        u : List BookEntry
        u = Reports report.pages ∷ t

        by : (b : Bool) → ends.noted ≡ b → Holds u news after
        by true on =
            let at : EndsJobAt seen may_leave is_usable report.pages number olds news before after = ends.ends on in
            let job : EndsJob seen may_leave is_usable report.pages at.old at.new before after = at.ends in
            let named : at.old.line ≡ line = name_of_old olds before at.old held at.was in
            let accepts : Refuses before → ⊥ = λ refuses. no_both ends.noted on (ends.refuses refuses).0 in
            changes_at u olds news at.old at.new before after held at.was at.are job.line_is
            (ends_ok report.pages at.old at.new before after (PastAs A line t q at.old (notes_of before at.old)) (PastAs A line u q at.new (notes_of after at.new)) job accepts
            (λ told past. past_noted A line t q report.pages at.old at.new (notes_of before at.old) (notes_of after at.new) told (without job.ended told)
            (record {
              ended = job.ended;
              named = job.named ∙ named;
              sure = ends.sure on at.old at.was;
              leaves = subst (λ (l : List ℕ). left_by job.ended l at.old.waits ≡ drop report.pages at.old.waits) named (job.leaves ∙ job.first);
              gone = refl;
              queued = λ still. job.first;
            }) past) (past_of olds before at.old held at.was))
        by false off =
            let some : EndsSomehowAt seen may_leave is_usable report.pages number olds news before after = ends.left off (low_place olds names number held.lines low_number) in
            let named : some.old.line ≡ line = name_of_old olds before some.old held some.was in
            let same : Refuses before → after ≡ before = λ refuses. (ends.refuses refuses).1 in
            changes_at u olds news some.old some.new before after held some.was some.are some.ends.line_is
            (ends_err report.pages some.old some.new before after (PastAs A line t q some.old (notes_of before some.old)) (PastAs A line u q some.new (notes_of after some.new)) some.ends same
            (λ told more is past. past_ends A (λ a. no_both ends.noted (sure a) off) line t q report.pages some.old some.new (notes_of before some.old) (notes_of after some.new) told more
            (subst (λ (l : List ℕ). IsAnEnd l report.pages (state_of some.old (notes_of before some.old) told) (state_of some.new (notes_of after some.new) more)) named is) past)
            (λ refuses told past. past_ends A (λ a. no_both ends.noted (sure a) off) line t q report.pages some.old some.new (notes_of before some.old) (notes_of after some.new) told told
            (inr (inl (refl, refusing seen may_leave is_usable after some.new (still_refuses seen may_leave is_usable before after same refuses)))) past)
            (past_of olds before some.old held some.was))

    -- ---- a page that was not handed over

    pub other_noted : (place call : ℕ) (olds news : List QueueValue) (before after : Spool D) → place ≢ number → NotesPage place call olds news before after → Holds t olds before → Holds t news after
    other_noted place call olds news before after unlike notes held = by (slice_get olds place) refl notes.waits.2
      where
        waits : WaitSo seen may_leave is_usable after (PastAs A line t q held.queue (notes_of after held.queue))
        waits = subst (λ (s : Spool D). WaitSo seen may_leave is_usable s (PastAs A line t q held.queue (notes_of s held.queue))) (sym notes.spool) held.waits

        by : (o : Option QueueValue) → slice_get olds place ≡ o → AddsTo (record { life = notes.waits.0; call = call; number = notes.waits.1; is_stored = false }) place olds news o → Holds t news after
        by None was adds = record {
          queue = held.queue;
          there = ap (λ (l : List QueueValue). slice_get l number) adds ∙ held.there;
          named = held.named;
          lines = ap lines_of adds ∙ held.lines;
          waits = waits;
        }
        by (Some old) was adds = stays_at place olds news old adds.0 before after held unlike was adds.1 adds.2.line waits

    -- a page of the line that is noted, under some number of some life, is told as one that is not on the disk
    pub own_noted : (A → ⊥) → (R : List BookEntry → Type 0) (call : ℕ) (olds news : List QueueValue) (before after : Spool D)
        → ((life its_number : ℕ) → (u : List BookEntry) × R u × (value : PageValue) × (value.line ≡ line) × (value.life ≡ life) × (value.call ≡ call) × (value.number ≡ its_number) × IsConfirmed seen may_leave is_usable t u value)
        → NotesPage number call olds news before after → Holds t olds before → (u : List BookEntry) × R u × Holds u news after
    own_noted never R call olds news before after tell notes held =
        let life : ℕ = notes.waits.0 in
        let its : ℕ = notes.waits.1 in
        let page : QueuedPage = record { life = life; call = call; number = its; is_stored = false } in
        let adds : AddsTo page number olds news (Some held.queue) = subst (λ (o : Option QueueValue). AddsTo page number olds news o) held.there notes.waits.2 in
        let told = tell life its in
        let is : IsConfirmed seen may_leave is_usable t told.0 told.2 = told.7 in
        let new : QueueValue = adds.0 in
        let same : placed_as is.page.waits false ≡ page = ap (λ (v : PageValue). placed_as v false) is.waits ∙ as_page told.2 life call its told.4 told.5 told.6 in
        let queued : IsQueued (placed_as is.page.waits false) held.queue new = subst (λ (w : QueuedPage). IsQueued w held.queue new) (sym same) adds.2 in
        let notes_are : NotesStill (notes_of before held.queue) (notes_of before new) new = notes_so seen may_leave is_usable false before before is.page.waits held.queue new (λ refuses. refl) queued in (
          told.0,
          told.1,
          changes_at told.0 olds news held.queue new before after held held.there adds.1 adds.2.line
              (subst (λ (s : Spool D). WaitSo seen may_leave is_usable s (PastAs A line told.0 q new (notes_of s new))) (sym notes.spool)
              (wait_map seen may_leave is_usable before (PastAs A line t q held.queue (notes_of before held.queue)) (PastAs A line told.0 q new (notes_of before new))
              (λ l past. subst (λ (x : List BookEntry). PastAs A line x q new (notes_of before new) l) (sym is.tells)
              (past_refuses A never line t q is.given is.page held.queue new (notes_of before held.queue) (notes_of before new) l (ap (λ (v : PageValue). v.line) is.waits ∙ told.3) is.means queued notes_are past)) held.waits)),
        )
      where
        as_page : (value : PageValue) (life call its : ℕ) → value.life ≡ life → value.call ≡ call → value.number ≡ its → placed_as value false ≡ record { life = life; call = call; number = its; is_stored = false }
        as_page value life call its a b c = cc

    -- ---- many at once

    -- records of other lines leave what is there of this one
    without_others : (olds : List QueueValue) (kept : List EndedValue) (told : List PageValue) → lines_of olds ≡ names → AreOfOthers (lines_of olds) number kept → own_pages line (without_all kept told) ≡ own_pages line told
    without_others olds [] told lines others = refl
    without_others olds (e ∷ kept) told lines others =
        without_others olds kept (without e told) lines others.1
        ∙ ((others_are_beside line (the_queue e) true told).1 e (other others.0.0 e.line (ap (λ (l : List (List ℕ)). slice_get l others.0.0) (sym lines) ∙ others.0.2) others.0.1)).same
      where
        the_queue : EndedValue → QueueValue
        the_queue e = record { line = e.line; waits = []; is_whole = true; tags = []; aside = []; newest = None }

    -- whether they are of this line depends on those of this line alone
    own_without : (e : EndedValue) (told more : List PageValue) → own_pages line more ≡ own_pages line told → own_pages line (without e more) ≡ own_pages line (without e told)
    own_without e told more same =
        commute (λ (p : PageValue). bytes_eq p.line line) (λ (p : PageValue). not (ends e (name_of p))) more ∙ ap (λ (l : List PageValue). without e l) same
        ∙ sym (commute (λ (p : PageValue). bytes_eq p.line line) (λ (p : PageValue). not (ends e (name_of p))) told)

    -- among them one of its own
    own_among : (olds : List QueueValue) (pages : ℕ) (kept : List EndedValue) (old new : QueueValue) (told : List PageValue) → lines_of olds ≡ names → (has : HasRecord (lines_of olds) pages number kept old new)
        → own_pages line (without_all kept told) ≡ own_pages line (without has.ended told)
    own_among olds pages kept old new told lines has =
        ap (λ (l : List EndedValue). own_pages line (without_all l told)) has.is
        ∙ ap (λ (l : List PageValue). own_pages line l) (without_split has.before has.after has.ended told)
        ∙ without_others olds has.after (without has.ended (without_all has.before told)) lines has.alone.1
        ∙ own_without has.ended told (without_all has.before told) (without_others olds has.before told lines has.alone.0)

    module _ (jobs : List LineReport) (olds news : List QueueValue) (before after : Spool D) (e : EndsTogether seen may_leave is_usable jobs olds news before after) where
      -- what each crash tells of the line
      together_waits : (P Q : List PageValue → Type 0) → (Refuses before → (told : List PageValue) → P told → Q told) → (e.is_ok ≡ false → (told : List PageValue) → P told → Q told)
          → (refuses_now before ≡ false → (told : List PageValue) → P told → Q (without_all e.kept told)) → WaitSo seen may_leave is_usable before P → WaitSo seen may_leave is_usable after Q
      together_waits P Q refused still gone was = by (refuses_now before) refl was
        where
          put : refuses_now before ≡ false → (told : List PageValue) → Rests seen may_leave is_usable before told → P told → (b : Bool) → e.is_ok ≡ b → WaitSo seen may_leave is_usable after Q
          put accepts told wait past true ok = wait_map seen may_leave is_usable after (λ more. more ≡ without_all e.kept told) Q (λ more same. subst Q (sym same) (gone accepts told past)) (e.wait ok told wait)
          put accepts told wait past false err = wait_map seen may_leave is_usable after (λ more. (more ≡ told) ⊎ (more ≡ without_all e.kept told)) Q
              (λ more some. elim some [ inl same ↦ subst Q (sym same) (still err told past) | inr same ↦ subst Q (sym same) (gone accepts told past) ]) (e.left err told wait)

          by : (b : Bool) → refuses_now before ≡ b → WaitSo seen may_leave is_usable before P → WaitSo seen may_leave is_usable after Q
          by true refuses was = subst (λ (s : Spool D). WaitSo seen may_leave is_usable s Q) (sym (e.refuses refuses).1) (wait_map seen may_leave is_usable before P Q (refused refuses) was)
          by false accepts (inl is) = put accepts is.0 is.1 is.2 e.is_ok refl
          by false accepts (inr is) = absurd (no_both (refuses_now before) is.0 accepts)

      notes_so_far : (queue : QueueValue) → notes_of after queue ≡ true → notes_of before queue ≡ true
      notes_so_far queue = notes_before seen may_leave is_usable before after queue (λ refuses. (e.refuses refuses).1)

      pub together_other : reports_of number jobs ≡ [] → Holds t olds before → Holds t news after
      together_other none held =
          let it = e.others number none in record {
            queue = held.queue;
            there = it.0 ∙ held.there;
            named = held.named;
            lines = e.lines ∙ held.lines;
            waits = together_waits (PastAs A line t q held.queue (notes_of before held.queue)) (PastAs A line t q held.queue (notes_of after held.queue))
                (λ refuses told past. past_beside A line t q held.queue held.queue (notes_of before held.queue) (notes_of after held.queue) told told refl refl (notes_so_far held.queue) past)
                (λ err told past. past_beside A line t q held.queue held.queue (notes_of before held.queue) (notes_of after held.queue) told told refl refl (notes_so_far held.queue) past)
                (λ accepts told past. past_beside A line t q held.queue held.queue (notes_of before held.queue) (notes_of after held.queue) told (without_all e.kept told) refl (without_others olds e.kept told held.lines it.1) (notes_so_far held.queue) past) held.waits;
          }

      module _ (report : Report) (is_own : reports_of number jobs ≡ report ∷ []) (held : Holds t olds before) (new : QueueValue) (now : slice_get news number ≡ Some new) where
        abbrev pub u : List BookEntry
        u = Reports report.pages ∷ t

        abbrev pub old : QueueValue
        old = held.queue

        abbrev Past : List PageValue → Type 0
        Past told = PastAs A line t q old (notes_of before old) told

        abbrev After : List PageValue → Type 0
        After told = PastAs A line u q new (notes_of after new) told

        -- the same, but for pages of other lines
        beside : (told more : List PageValue) → own_pages line more ≡ own_pages line told → After told → After more
        beside told more same past = past_beside A line u q new new (notes_of after new) (notes_of after new) told more refl same (λ on. on) past

        -- the spool refused, or it did not
        accepts_or : (b : Bool) → refuses_now before ≡ b → Refuses before ⊎ (refuses_now before ≡ false)
        accepts_or true is = inl is
        accepts_or false is = inr is

        noted_past : (has : HasRecord (lines_of olds) report.pages number e.kept old new) → (notes_of after new ≡ true → new.waits ≡ drop report.pages old.waits) → refuses_now before ≡ false → (told : List PageValue) → Past told
            → After (without_all e.kept told)
        noted_past has queued accepts told past =
            beside (without has.ended told) (without_all e.kept told) (own_among olds report.pages e.kept old new told held.lines has)
            (past_noted A line t q report.pages old new (notes_of before old) (notes_of after new) told (without has.ended told) (record {
              ended = has.ended;
              named = has.named ∙ held.named;
              sure = sure_so seen may_leave is_usable before old has.whole accepts;
              leaves = subst (λ (l : List ℕ). left_by has.ended l old.waits ≡ drop report.pages old.waits) held.named has.leaves;
              gone = refl;
              queued = queued;
            }) past)

        left_past : (A → ⊥) → notes_of after new ≡ false → (told : List PageValue) → Past told → After told
        left_past never off told past = past_ends A never line t q report.pages old new (notes_of before old) (notes_of after new) told told (inr (inl (refl, off))) past

        off_whole : new.is_whole ≡ false → notes_of after new ≡ false
        off_whole unsure = ap (λ (b : Bool). b && not (refuses_now after)) unsure

        off_refused : Refuses before → notes_of after new ≡ false
        off_refused refuses = refusing seen may_leave is_usable after new (ap (λ (s : Spool D). refuses_now s) (e.refuses refuses).1 ∙ refuses)

        -- it let its pages go, none of which is there
        lets_past : LetsGo report.pages old new → (A → ⊥) → (told : List PageValue) → Past told → After told
        lets_past lets never told past = elim (accepts_or (refuses_now before) refl) [
          | inl refuses ↦ left_past never (off_refused refuses) told past
          | inr accepts ↦ past_ends A never line t q report.pages old new (notes_of before old) (notes_of after new) told told
              (inr (inr (record { sure = sure_so seen may_leave is_usable before old lets.whole accepts; none = lets.none; same = refl; queued = λ still. lets.gone }))) past
        ]

        stays_past : StaysUnnoted report.pages old new → (A → ⊥) → (told : List PageValue) → Past told → After told
        stays_past is never told past = elim is.stays [
          | inl unsure ↦ left_past never (off_whole unsure) told past
          | inr lets ↦ lets_past lets never told past
        ]

        own_waits : (b : Bool) → EndsOne b (lines_of olds) report.pages number e.kept e.is_ok old new → (A → b ≡ true) → WaitSo seen may_leave is_usable after After
        own_waits true is sure =
            together_waits Past After (λ refuses told past. absurd (no_both e.is_ok is.0 (e.refuses refuses).0)) (λ err told past. absurd (no_both e.is_ok is.0 err))
            (λ accepts told past. noted_past is.1.has (λ still. is.1.gone) accepts told past) held.waits
        own_waits false (inl is) sure =
            together_waits Past After (λ refuses told past. left_past never (off_whole is.2) told past) (λ err told past. left_past never (off_whole is.2) told past)
            (λ accepts told past. noted_past is.1 (λ still. absurd (no_both (notes_of after new) still (off_whole is.2))) accepts told past) held.waits
          where
            never : A → ⊥
            never a = no_both false (sure a) refl
        own_waits false (inr is) sure =
            together_waits Past After (λ refuses told past. stays_past is.0 never told past) (λ err told past. stays_past is.0 never told past)
            (λ accepts told past. beside told (without_all e.kept told) (without_others olds e.kept told held.lines is.1) (stays_past is.0 never told past)) held.waits
          where
            never : A → ⊥
            never a = no_both false (sure a) refl

        pub together_own : (A → (e.each number report old new is_own held.there now).0 ≡ true) → Holds u news after
        together_own sure =
            let it = e.each number report old new is_own held.there now in record {
              queue = new;
              there = now;
              named = line_of_it it.0 it.1 ∙ held.named;
              lines = e.lines ∙ held.lines;
              waits = own_waits it.0 it.1 sure;
            }
          where
            line_of_it : (b : Bool) → EndsOne b (lines_of olds) report.pages number e.kept e.is_ok old new → new.line ≡ old.line
            line_of_it true is = is.1.has.line_is
            line_of_it false (inl is) = is.1.line_is
            line_of_it false (inr is) = is.0.line_is
