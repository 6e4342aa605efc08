-- What the calls of a server leave that answer an `Err`.
use Rattle.std.proofs.Common.{◌≡◌, ◌⊎◌, ◌∙◌, ℕ, zero, suc, ◌<◌, inl, inr, Bool, true, false, not, ◌&&◌, List, [], ◌∷◌, length, drop, take, count_by, All, Option, Some, None, slice_get, slice_index_or, arith, Result, Ok, Err, OnErr, refl, sym, ap, subst}
use Rattle.std.specs.Prelude.{slice_set}
use Rattle.fax_wires.specs.declared.holding.storing.StoreFault.{StoreFault}
use Rattle.fax_line.specs.declared.settling.PageToStore.{PageToStore}
use Rattle.fax_spool.specs.RecordOctets.{EndedValue, PageValue}
use Rattle.fax_spool.specs.Calls.{Call, Does, IsAsBefore, Refuses, refuses_now, Rests}
use Rattle.fax_spool.specs.Calls.{Puts as PutsCall, Ends as EndsCall, Turns as TurnsCall}
use Rattle.fax_spool.specs.Waits.{without}
use Rattle.fax_spool.specs.declared.spool.Spool.{Spool}
use Rattle.fax_queue.specs.declared.queue.EndedJob.{EndedJob}
use Rattle.fax_queue.specs.declared.queue.QueuedPage.{QueuedPage}
use Rattle.fax_queue.specs.Queues.{IsEndOf, NamesFirst, QueueValue, left_by, lines_of}
use Rattle.fax_queue.specs.Jobs.{EndsJob, WaitSo}
use Rattle.fax_queue.specs.Storing.{AddAll, AddsTo, AllArePlaced, AreRecordsUnder, IsPlaced, noted_as}
use Rattle.fax_queue.specs.Lives.{State, state_of}
use Rattle.fax_queue.specs.Lives.{Turns, Begins, Stores, Refuses as RefusesAction, Ends, Leaves, Lets, Beside, Stops}
use Rattle.fax_queue.specs.declared.end_fault.EndFault.{EndFault}
use Rattle.fax_queue.specs.declared.end_fault.EndFault.TheVariants as faults
use Rattle.fax_queue.specs.EndFaults.{IsWhy}
use Rattle.fax_queue.specs.Together.{IsNotTaken, StaysUnnoted}
use Rattle.fax_queue.specs.Refusals.{AreRefused, EndsSomehow, IsAnEnd, MayHavePut, NoneIsNoted, NotesStay, PutsEnd, RefusalsAreActions, notes_of}
use Rattle.fax_queue.proofs.Queueing.{all_placed}

pub on_err : {T E : Type 0} {P : Type 0} (r : Result T E) → P → OnErr r P
on_err (Ok x) p = tt
on_err (Err e) p = p

-- ---- what a refused page would be on the disk

no_queue : (queues : List QueueValue) (place : ℕ) → place < length queues → slice_get queues place ≡ None → ⊥
no_queue [] place low none = omega (arith, low)
no_queue (s ∷ queues) zero low none = cc
no_queue (s ∷ queues) (suc place) low none = no_queue queues place (omega (arith, low)) none

set_length : (queues : List QueueValue) (place : ℕ) (queue : QueueValue) → length (slice_set queues place queue) ≡ length queues
set_length [] place queue = refl
set_length (s ∷ queues) zero queue = refl
set_length (s ∷ queues) (suc place) queue = ap suc (set_length queues place queue)

adds_length : (page : QueuedPage) (place : ℕ) (olds news : List QueueValue) (o : Option QueueValue) → AddsTo page place olds news o → length news ≡ length olds
adds_length page place olds news None adds = ap length adds
adds_length page place olds news (Some old) adds = ap length adds.1 ∙ set_length olds place adds.0

abbrev value_as : ℕ → ℕ → List ℕ → PageToStore → PageValue
value_as life number line page =
    record { life = life; call = page.kept.call; number = number; format = page.kept.format; closes = page.kept.closes; line = line; tag = []; text = page.text }

refused_at : (life number : ℕ) (page : PageToStore) (olds news : List QueueValue) (o : Option QueueValue) → slice_get olds page.line ≡ o → page.line < length olds → AddsTo (noted_as life number false page) page.line olds news o
    → (value : PageValue) × IsPlaced false page value olds news
refused_at life number page olds news None at low adds = absurd (no_queue olds page.line low at)
refused_at life number page olds news (Some old) at low adds = (
  value_as life number old.line page,
  record {
    is_record = record { value = value_as life number old.line page; is_page = refl; call = refl; format = refl; closes = refl; text = refl };
    old = old;
    new = adds.0;
    was = at;
    are = adds.1;
    line_is = refl;
    queued = adds.2;
  },
)

still_low : (page : PageToStore) (pages : List PageToStore) (count more : ℕ) → more ≡ count → All (λ p. p.line < count) (page ∷ pages) → All (λ p. p.line < more) pages
still_low page pages count more same all = λ k d low. let first : (slice_index_or pages k d).line < count = all (suc k) d (omega (arith, low)) in omega (arith, first, same)

refused_values : (life : ℕ) (pages : List PageToStore) (numbers : List ℕ) (olds news : List QueueValue) → All (λ p. p.line < length olds) pages → AddAll life false pages numbers olds news
    → (values : List PageValue) × AllArePlaced false pages values olds news
refused_values life [] numbers olds news all adds = ([], adds)
refused_values life (p ∷ pages) [] olds news all adds =
    let first = refused_at life adds.0 p olds adds.1 (slice_get olds p.line) refl (all zero p (omega arith)) adds.2 in
    let same : length adds.1 ≡ length olds = adds_length (noted_as life adds.0 false p) p.line olds adds.1 (slice_get olds p.line) adds.2 in
    let rest = refused_values life pages [] adds.1 news (still_low p pages (length olds) (length adds.1) same all) adds.3 in
    (first.0 ∷ rest.0, (adds.1, first.1, rest.1))
refused_values life (p ∷ pages) (n ∷ numbers) olds news all adds =
    let first = refused_at life n p olds adds.0 (slice_get olds p.line) refl (all zero p (omega arith)) adds.1 in
    let same : length adds.0 ≡ length olds = adds_length (noted_as life n false p) p.line olds adds.0 (slice_get olds p.line) adds.1 in
    let rest = refused_values life pages numbers adds.0 news (still_low p pages (length olds) (length adds.0) same all) adds.2 in
    (first.0 ∷ rest.0, (adds.0, first.1, rest.1))

module _ {D : Type 0} (seen : D → List ℕ) (may_leave : D → List ℕ → Type 0) (is_usable : D → Bool) where
  pub rest_still : (before after : Spool D) (waits : List PageValue) → IsAsBefore seen may_leave is_usable before after → Rests seen may_leave is_usable before waits → Rests seen may_leave is_usable after waits
  rest_still before after waits same was = record { olds = was.olds; news = was.news; kept = same.keeps was.olds was.news was.kept; in_order = was.in_order; wait = was.wait }

  -- ---- pages that are not put

  refuses_put : (pages : List PageToStore) (values : List PageValue) (olds news : List QueueValue) (before after : Spool D) → AllArePlaced false pages values olds news
      → Does seen may_leave is_usable (PutsCall values) false before after → AreRefused seen may_leave is_usable pages olds news before after
  refuses_put pages values olds news before after placed does = record {
    values = values;
    queued = placed;
    left = λ waits was. elim (does.failed refl) [
      | inl refuses ↦ inr (refuses, does.left refl waits was)
      | inr same ↦ inl (rest_still before after waits same was)
    ];
  }

  refuses_none : (life : ℕ) (pages : List PageToStore) (numbers : List ℕ) (olds news : List QueueValue) (before after : Spool D) → after ≡ before → All (λ p. p.line < length olds) pages
      → AddAll life false pages numbers olds news → AreRefused seen may_leave is_usable pages olds news before after
  refuses_none life pages numbers olds news before after same all adds =
      let placed = refused_values life pages numbers olds news all adds in record {
        values = placed.0;
        queued = placed.1;
        left = λ waits was. inl (subst (λ (s : Spool D). Rests seen may_leave is_usable s waits) (sym same) was);
      }

  pub refuse_through :
      (answer : Result (Unit {0}) StoreFault) (life : ℕ) (pages : List PageToStore) (numbers numbers_1 numbers_2 : List ℕ) (b : Bool) (olds olds_1 olds_2 news : List QueueValue) (before before_1 put last : Spool D)
      → numbers_1 ≡ numbers → numbers_2 ≡ numbers → olds_1 ≡ olds → olds_2 ≡ olds → before_1 ≡ before → last ≡ put → OnErr answer (b ≡ false)
      → OnErr answer ((put ≡ before_1) ⊎ MayHavePut seen may_leave is_usable life (lines_of olds_1) pages numbers_1 before_1 put) → AddAll life b pages numbers_2 olds_2 news
      → OnErr answer (All (λ p. p.line < length olds) pages → AreRefused seen may_leave is_usable pages olds news before last)
  refuse_through (Ok u) life pages numbers numbers_1 numbers_2 b olds olds_1 olds_2 news before before_1 put last e1 e2 e3 e4 e5 e6 kept failed adds = tt
  refuse_through (Err e) life pages numbers numbers_1 numbers_2 b olds olds_1 olds_2 news before before_1 put last e1 e2 e3 e4 e5 e6 kept failed adds = λ all.
      let added : AddAll life false pages numbers olds news =
      subst (λ (l : List QueueValue). AddAll life false pages numbers l news) e4
      (subst (λ (n : List ℕ). AddAll life false pages n olds_2 news) e2
      (subst (λ (t : Bool). AddAll life t pages numbers_2 olds_2 news) kept adds)) in
      elim failed [
        | inl same ↦ refuses_none life pages numbers olds news before last (e6 ∙ same ∙ e5) all added
        | inr may ↦
            let are : AreRecordsUnder life (lines_of olds) pages numbers may.values =
            subst (λ (l : List QueueValue). AreRecordsUnder life (lines_of l) pages numbers may.values) e3 (subst (λ (n : List ℕ). AreRecordsUnder life (lines_of olds_1) pages n may.values) e1 may.are) in
            let does : Does seen may_leave is_usable (PutsCall may.values) false before last =
            subst (λ (s : Spool D). Does seen may_leave is_usable (PutsCall may.values) false s last) e5
            (subst (λ (s : Spool D). Does seen may_leave is_usable (PutsCall may.values) false before_1 s) (sym e6) may.does) in
            refuses_put pages may.values olds news before last (all_placed life false pages numbers may.values olds news are added) does
      ]

  -- ---- the end of a job

  unsure : (spool : Spool D) (queue : QueueValue) → queue.is_whole ≡ false → notes_of spool queue ≡ false
  unsure spool queue none = ap (λ (b : Bool). b && not (refuses_now spool)) none

  off : (whole : Bool) → (whole && false) ≡ false
  off true = refl
  off false = refl

  pub refusing : (spool : Spool D) (queue : QueueValue) → Refuses spool → notes_of spool queue ≡ false
  refusing spool queue refuses = ap (λ (b : Bool). queue.is_whole && not b) refuses ∙ off queue.is_whole

  pub sure_so : (spool : Spool D) (queue : QueueValue) → queue.is_whole ≡ true → refuses_now spool ≡ false → notes_of spool queue ≡ true
  sure_so spool queue whole accepts = ap (λ (b : Bool). b && not (refuses_now spool)) whole ∙ ap (λ (b : Bool). not b) accepts

  -- which pages the job had is not known
  pub ends_unknown : (pages : ℕ) (old new : QueueValue) (spool : Spool D) → new.line ≡ old.line → new.is_whole ≡ false → EndsSomehow seen may_leave is_usable pages old new spool spool
  ends_unknown pages old new spool line none = record {
    line_is = line;
    left = λ waits was. inl (waits, was, inr (inl (refl, unsure spool new none)));
  }

  let_go : (b : Bool) (pages : ℕ) (old new : QueueValue) (spool : Spool D) → refuses_now spool ≡ b → new.line ≡ old.line → old.is_whole ≡ true → count_by (λ page. page.is_stored) (take pages old.waits) ≡ 0
      → new.waits ≡ drop pages old.waits → EndsSomehow seen may_leave is_usable pages old new spool spool
  let_go true pages old new spool refuses line whole none gone = record {
    line_is = line;
    left = λ waits was. inl (waits, was, inr (inl (refl, refusing spool new refuses)));
  }
  let_go false pages old new spool accepts line whole none gone = record {
    line_is = line;
    left = λ waits was. inl (waits, was, inr (inr (record { sure = sure_so spool old whole accepts; none = none; same = refl; queued = λ still. gone })));
  }

  -- none of its pages is on the disk
  pub ends_none_there : (pages : ℕ) (old new : QueueValue) (spool : Spool D) → new.line ≡ old.line → old.is_whole ≡ true → count_by (λ page. page.is_stored) (take pages old.waits) ≡ 0
      → new.waits ≡ drop pages old.waits → EndsSomehow seen may_leave is_usable pages old new spool spool
  ends_none_there pages old new spool line whole none gone = let_go (refuses_now spool) pages old new spool refl line whole none gone

  -- it is not noted, whichever of both it is
  pub unnoted_somehow : (pages : ℕ) (old new : QueueValue) (spool : Spool D) → StaysUnnoted pages old new → EndsSomehow seen may_leave is_usable pages old new spool spool
  unnoted_somehow pages old new spool is = elim is.stays [
    | inl unsure ↦ ends_unknown pages old new spool is.line_is unsure
    | inr lets ↦ ends_none_there pages old new spool is.line_is lets.whole lets.none lets.gone
  ]

  -- its record is on the disk
  is_noted : (pages : ℕ) (old new : QueueValue) (before after : Spool D) (ended : EndedValue) (waits told : List PageValue) → ended.line ≡ old.line → notes_of before old ≡ true
      → left_by ended old.line old.waits ≡ drop pages old.waits → told ≡ without ended waits → (notes_of after new ≡ true → new.waits ≡ drop pages old.waits)
      → IsAnEnd old.line pages (state_of old (notes_of before old) waits) (state_of new (notes_of after new) told)
  is_noted pages old new before after ended waits told named sure leaves gone queued = inl (record { ended = ended; named = named; sure = sure; leaves = leaves; gone = gone; queued = queued })

  tried : (b : Bool) (pages : ℕ) (old new : QueueValue) (before after : Spool D) (kept : EndedValue) → refuses_now before ≡ b → new.line ≡ old.line → old.is_whole ≡ true → new.is_whole ≡ false
      → kept.line ≡ old.line → left_by kept old.line old.waits ≡ drop pages old.waits → Does seen may_leave is_usable (EndsCall (kept ∷ [])) false before after → EndsSomehow seen may_leave is_usable pages old new before after
  tried true pages old new before after kept refuses line whole none named leaves does =
      subst (λ (s : Spool D). EndsSomehow seen may_leave is_usable pages old new before s) (sym (does.refused refuses).1) (ends_unknown pages old new before line none)
  tried false pages old new before after kept accepts line whole none named leaves does = record {
    line_is = line;
    left = λ waits was. elim (does.failed refl) [
      | inl refuses ↦ inr (
        refuses,
        λ older newer left.
            let it = does.left refl waits was older newer left in (
              it.0,
              it.1,
              elim it.2 [
                | inl same ↦ inr (inl (same, unsure after new none))
                | inr done ↦ is_noted pages old new before after kept waits it.0 named (sure_so before old whole accepts) leaves done (λ still. absurd (let no : true ≡ false = sym still ∙ unsure after new none in cc))
              ],
            ),
      )
      | inr same ↦ inl (waits, rest_still before after waits same was, inr (inl (refl, unsure after new none)))
    ];
  }

  -- its record could not be put, or is there though the answer is an `Err`
  pub ends_tried : (pages : ℕ) (old new : QueueValue) (before after : Spool D) (ended : EndedJob) (line : List ℕ) → line ≡ old.line → new.line ≡ old.line → old.is_whole ≡ true → new.is_whole ≡ false
      → NamesFirst pages ended old.waits → PutsEnd seen may_leave is_usable ended line false before after → EndsSomehow seen may_leave is_usable pages old new before after
  ends_tried pages old new before after ended line same new_line whole none names puts =
      let is : IsEndOf ended old.line puts.kept = subst (λ (l : List ℕ). IsEndOf ended l puts.kept) same puts.is_end in
      tried (refuses_now before) pages old new before after puts.kept refl new_line whole none is.line_is (names.leaves old.line puts.kept is) puts.does

  -- its record was put
  pub job_is_ended : (pages : ℕ) (old new : QueueValue) (before after : Spool D) (ended : EndedJob) (line : List ℕ) → line ≡ old.line → new.line ≡ old.line → NamesFirst pages ended old.waits → new.waits ≡ drop pages old.waits
      → new.is_whole ≡ true → PutsEnd seen may_leave is_usable ended line true before after → EndsJob seen may_leave is_usable pages old new before after
  job_is_ended pages old new before after ended line same new_line names gone whole puts =
      let is : IsEndOf ended old.line puts.kept = subst (λ (l : List ℕ). IsEndOf ended l puts.kept) same puts.is_end in record {
        ended = puts.kept;
        line_is = new_line;
        named = is.line_is;
        first = gone;
        whole = whole;
        leaves = names.leaves old.line puts.kept is ∙ sym gone;
        wait = λ waits was. inl (without puts.kept waits, puts.does.done refl waits was, refl);
      }

  accepted : (b : Bool) (call : Call) (before after : Spool D) → refuses_now before ≡ b → Does seen may_leave is_usable call true before after → refuses_now before ≡ false
  accepted true call before after refuses does = let no : true ≡ false = (does.refused refuses).0 in cc
  accepted false call before after accepts does = accepts

  pub job_is_sure : (queue : QueueValue) (before after : Spool D) (ended : EndedJob) (line : List ℕ) → queue.is_whole ≡ true → PutsEnd seen may_leave is_usable ended line true before after → notes_of before queue ≡ true
  job_is_sure queue before after ended line whole puts = sure_so before queue whole (accepted (refuses_now before) (EndsCall (puts.kept ∷ [])) before after refl puts.does)

  -- a file is not cleared, nor taken into use, and what waits is as it was
  pub not_turned : (before after : Spool D) → Does seen may_leave is_usable TurnsCall false before after → (waits : List PageValue) → Rests seen may_leave is_usable before waits
      → WaitSo seen may_leave is_usable after (λ told. told ≡ waits)
  not_turned before after does waits was = elim (does.failed refl) [
    | inl refuses ↦ inr (refuses, λ older newer left. let it = does.left refl waits was older newer left in (it.0, it.1, elim it.2 [ inl same ↦ same | inr same ↦ same ]))
    | inr same ↦ inl (waits, rest_still before after waits same was, refl)
  ]

-- why no record can be put, beside a spool
pub why_not_taken : {D : Type 0} (fault : EndFault) (pages : ℕ) (was : QueueValue) (now : Spool D) → IsNotTaken fault pages was → IsWhy fault pages was now
why_not_taken faults.NoLine pages was now is = is
why_not_taken faults.Unsure pages was now is = is
why_not_taken faults.NoneThere pages was now is = is
why_not_taken faults.LongName pages was now is = is
why_not_taken faults.NoMemory pages was now is = absurd is
why_not_taken faults.DiskFailed pages was now is = absurd is
why_not_taken faults.NotStored pages was now is = tt

-- ---- laws

no_true : (b : Bool) → b ≡ true → b ≡ false → ⊥
no_true b on none = let no : true ≡ false = sym on ∙ none in cc

pub refusals_are_actions : RefusalsAreActions
refusals_are_actions given page true old new before after pages named means queued notes none = (
  record { line_is = named; means = means; there = refl; queued = λ still. absurd (no_true after still (none refl)) },
  λ there. none refl,
)
refusals_are_actions given page false old new before after pages named means queued notes none = (
  record { line_is = named; means = means; there = refl; queued = λ still. ((notes still).0, (queued.whole (notes still).1).1) },
  λ there. absurd (no_true false there refl),
)

both : (a b : Bool) → (a && b) ≡ true → (a ≡ true) × (b ≡ true)
both true b on = (refl, on)
both false b on = cc

speaks : (before after : Bool) → (before ≡ true → after ≡ true) → not after ≡ true → not before ≡ true
speaks true after rises on = absurd (no_true (not after) on (ap not (rises refl)))
speaks false after rises on = refl

both_on : (a b : Bool) → a ≡ true → b ≡ true → (a && b) ≡ true
both_on a b first second = ap (λ (t : Bool). t && b) first ∙ second

pub notes_stay : NotesStay
notes_stay page old new before after queued rises still =
    let are = both new.is_whole (not after) still in
    (both_on old.is_whole (not before) (queued.whole are.0).0 (speaks before after rises are.1), are.0)

turned_off : (b : Bool) → (b ≡ true → ⊥) → b ≡ false
turned_off true none = absurd (none refl)
turned_off false none = refl

pub none_is_noted : NoneIsNoted
none_is_noted line (Turns given) old new here goes none = (ap (λ (s : State). s.notes) goes ∙ none, λ pages same. cc)
none_is_noted line Begins old new here goes none = (ap (λ (s : State). s.notes) goes ∙ none, λ pages same. cc)
none_is_noted line (Stores given page) old new here goes none = (turned_off new.notes (λ still. no_true old.notes (goes.queued still).0 none), λ pages same. cc)
none_is_noted line (RefusesAction given page there) old new here goes none = (turned_off new.notes (λ still. no_true old.notes (goes.0.queued still).0 none), λ pages same. cc)
none_is_noted line (Ends pages) old new here goes none = absurd (no_true old.notes goes.sure none)
none_is_noted line (Leaves pages) old new here goes none = (goes.1, λ count same. cc)
none_is_noted line (Lets pages) old new here goes none = absurd (no_true old.notes goes.sure none)
none_is_noted line Beside old new here goes none = (turned_off new.notes (λ still. no_true old.notes (goes.queued still).0 none), λ pages same. cc)
none_is_noted line Stops old new here goes none = absurd (here refl)
