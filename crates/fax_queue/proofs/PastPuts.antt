-- What becomes of a line's past where pages of lines are put at once.
use Rattle.std.proofs.Common.{◌≡◌, ◌≢◌, ◌∙◌, ℕ, zero, suc, ◌<◌, inl, inr, Bool, true, false, not, ◌&&◌, ◌||◌, nat_eq, List, [], ◌∷◌, ◌++◌, length, All, AllPairs, Option, Some, slice_get, slice_index_or, arith, refl, sym, ap, subst, append_assoc, append-nil}
use Rattle.std.specs.Prelude.{slice_set}
use Rattle.std.proofs.lemmas.Bool.{eqb-true}
use Rattle.fax_line.specs.declared.settling.PageToStore.{PageToStore}
use Rattle.fax_line.specs.Settling.{has_page}
use Rattle.fax_spool.specs.RecordOctets.{PageValue}
use Rattle.fax_spool.specs.Calls.{Refuses, refuses_now}
use Rattle.fax_spool.specs.declared.spool.Spool.{Spool}
use Rattle.fax_spool.specs.declared.spool_record.SpoolRecord.TheVariants.{Page}
use Rattle.fax_queue.specs.Restorations.{Means, ReadPage}
use Rattle.fax_queue.specs.Queues.{IsQueued, QueueValue, lines_of}
use Rattle.fax_queue.specs.Jobs.{WaitSo}
use Rattle.fax_queue.specs.Storing.{AllArePlaced, ArePut, IsPlaced, IsRecordOf, placed_as}
use Rattle.fax_queue.specs.Lives.{EachIsPlaced, IsPlacedOf, NotesStill}
use Rattle.fax_queue.specs.Refusals.{AreRefused, notes_of}
use Rattle.fax_queue.specs.SpoolStorage.{PutsPages}
use Rattle.fax_gateway.specs.Restored.{CallPage}
use Rattle.fax_runcodes.specs.declared.format.Coding.TheVariants as codings
use Rattle.fax_runcodes.specs.declared.format.Format.{Format}
use Rattle.fax_pagestore.specs.PageTexts.{MeansPage}
use Rattle.fax_line.specs.StoredRuns.{kept_if}
use Rattle.fax_queue.specs.Histories.{AreStoredOf, IsStoredPage}
use Rattle.fax_queue.specs.Book.{BookEntry, Confirms, page_of}
use Rattle.fax_queue.proofs.Pasts.{AreOthers, PastAs, own_same, past_beside, past_keeps, past_refused_there, past_refuses, wait_map}
use Rattle.fax_queue.proofs.Refusing.{notes_stay, refusing}
use Rattle.fax_queue.proofs.Slots.{slots_are_puts, slots_are_refusals}

-- ---- the names of the lines

-- no other of these names is this one
abbrev pub AreOtherNames : ℕ → List ℕ → List (List ℕ) → Type 0
AreOtherNames number line names = (place : ℕ) (name : List ℕ) → slice_get names place ≡ Some name → place ≢ number → name ≢ line

abbrev pub AreNamed : List (List ℕ) → List PageToStore → List PageValue → Type 0
AreNamed names [] [] = Unit {0}
AreNamed names (page ∷ pages) (value ∷ values) = (slice_get names page.line ≡ Some value.line) × AreNamed names pages values
AreNamed names pages values = ⊥

pub set_line : (queues : List QueueValue) (place : ℕ) (old new : QueueValue) → slice_get queues place ≡ Some old → new.line ≡ old.line → lines_of (slice_set queues place new) ≡ lines_of queues
set_line [] place old new at line = cc
set_line (s ∷ queues) zero old new at line = let same : old ≡ s = cc in ap (λ (l : List ℕ). l ∷ lines_of queues) (line ∙ ap (λ (v : QueueValue). v.line) same)
set_line (s ∷ queues) (suc place) old new at line = ap (λ (l : List (List ℕ)). s.line ∷ l) (set_line queues place old new at line)

pub line_at : (queues : List QueueValue) (place : ℕ) (queue : QueueValue) → slice_get queues place ≡ Some queue → slice_get (lines_of queues) place ≡ Some queue.line
line_at [] place queue at = cc
line_at (s ∷ queues) zero queue at = let same : queue ≡ s = cc in ap (λ (v : QueueValue). Some v.line) (sym same)
line_at (s ∷ queues) (suc place) queue at = line_at queues place queue at

placed_lines : (b : Bool) (page : PageToStore) (value : PageValue) (olds news : List QueueValue) → IsPlaced b page value olds news → lines_of news ≡ lines_of olds
placed_lines b page value olds news is = ap lines_of is.are ∙ set_line olds page.line is.old is.new is.was is.queued.line

pub all_lines : (b : Bool) (pages : List PageToStore) (values : List PageValue) (olds news : List QueueValue) → AllArePlaced b pages values olds news → lines_of news ≡ lines_of olds
all_lines b [] [] olds news put = ap lines_of put
all_lines b [] (v ∷ values) olds news put = absurd put
all_lines b (p ∷ pages) [] olds news put = absurd put
all_lines b (p ∷ pages) (v ∷ values) olds news put = all_lines b pages values put.0 news put.2 ∙ placed_lines b p v olds put.0 put.1

are_named : (b : Bool) (pages : List PageToStore) (values : List PageValue) (olds news : List QueueValue) → AllArePlaced b pages values olds news → AreNamed (lines_of olds) pages values
are_named b [] [] olds news put = tt
are_named b [] (v ∷ values) olds news put = absurd put
are_named b (p ∷ pages) [] olds news put = absurd put
are_named b (p ∷ pages) (v ∷ values) olds news put = (
  line_at olds p.line put.1.old put.1.was ∙ ap (λ (l : List ℕ). Some l) (sym put.1.line_is),
  subst (λ (n : List (List ℕ)). AreNamed n pages values) (placed_lines b p v olds put.0 put.1) (are_named b pages values put.0 news put.2),
)

-- ---- the page of the line among them

abbrev pub IsOfNone : ℕ → List PageToStore → Type 0
IsOfNone number [] = Unit {0}
IsOfNone number (page ∷ pages) = (page.line ≢ number) × IsOfNone number pages

others_of : (number : ℕ) (line : List ℕ) (names : List (List ℕ)) (pages : List PageToStore) (values : List PageValue) → AreOtherNames number line names → IsOfNone number pages → AreNamed names pages values → AreOthers line values
others_of number line names [] [] other none named = tt
others_of number line names [] (v ∷ values) other none named = absurd named
others_of number line names (p ∷ pages) [] other none named = absurd named
others_of number line names (p ∷ pages) (v ∷ values) other none named = (other p.line v.line named.0 none.0, others_of number line names pages values other none.1 named.1)

pub not_eq : (a b : ℕ) → nat_eq a b ≡ false → a ≢ b
not_eq a b unlike same = let no : true ≡ false = sym (nat_eq_refl b) ∙ ap (λ (n : ℕ). nat_eq n b) (sym same) ∙ unlike in cc
  where
    nat_eq_refl : (n : ℕ) → nat_eq n n ≡ true
    nat_eq_refl n = grind (arith)

none_first : (number : ℕ) (page : PageToStore) (pages : List PageToStore) (b : Bool) → nat_eq page.line number ≡ b → (b || has_page pages number) ≡ false → (has_page pages number ≡ false → IsOfNone number pages)
    → IsOfNone number (page ∷ pages)
none_first number page pages true is none rest = let on : true ≡ false = none in cc
none_first number page pages false is none rest = (not_eq page.line number is, rest none)

none_of : (number : ℕ) (pages : List PageToStore) → has_page pages number ≡ false → IsOfNone number pages
none_of number [] none = tt
none_of number (page ∷ pages) none = none_first number page pages (nat_eq page.line number) refl none (λ rest. none_of number pages rest)

unlike_at : (number : ℕ) (page : PageToStore) (pages : List PageToStore) → page.line ≢ number → All (λ p. p.line ≢ number) pages → (k : ℕ) (d : PageToStore) → k < length (page ∷ pages)
    → (slice_index_or (page ∷ pages) k d).line ≢ number
unlike_at number page pages first rest zero d low = first
unlike_at number page pages first rest (suc k) d low = rest k d (omega (arith, low))

unlike : (number : ℕ) (pages : List PageToStore) → IsOfNone number pages → All (λ page. page.line ≢ number) pages
unlike number [] none = λ k d low. absurd (omega (arith, low))
unlike number (page ∷ pages) none = λ k d low. unlike_at number page pages none.0 (unlike number pages none.1) k d low

pub after_none : (page : PageToStore) (pages : List PageToStore) (number : ℕ) → page.line ≡ number → AllPairs (λ page those_after. page.line < those_after.line) (page ∷ pages) → IsOfNone number pages
after_none page pages number is all = none_from pages (λ k d low. all zero (suc k) d (omega arith) (omega (arith, low)))
  where
    none_from : (pages : List PageToStore) → ((k : ℕ) (d : PageToStore) → k < length pages → page.line < (slice_index_or pages k d).line) → IsOfNone number pages
    none_from [] low = tt
    none_from (p ∷ pages) low = (
      λ same. let less : page.line < p.line = low zero p (omega arith) in omega (arith, less, same, is),
      none_from pages (λ k d less. low (suc k) d (omega (arith, less))),
    )

pub kept_none : (number : ℕ) (pages : List PageToStore) → IsOfNone number pages → AreStoredOf number pages []
kept_none number [] none = refl
kept_none number (page ∷ pages) none = (none.0, kept_none number pages none.1)

pub kept_of_none : (number : ℕ) (pages : List PageToStore) → has_page pages number ≡ false → AreStoredOf number pages []
kept_of_none number pages none = kept_none number pages (none_of number pages none)

same_value : (value other : PageValue) → Page value ≡ Page other → value ≡ other
same_value value other same = cc

-- the page of this line, the pages in front of it, and those after it
pub record Own (number : ℕ) (line : List ℕ) (b : Bool) (pages : List PageToStore) (values : List PageValue) (olds news : List QueueValue) : Type 0 where
  pub page : PageToStore
  pub value : PageValue
  pub front : List PageValue
  pub those_after : List PageValue
  pub at : ℕ
  pub low : at < length pages
  pub is_at : (other : PageToStore) → slice_index_or pages at other ≡ page
  pub line_is : page.line ≡ number
  pub values_are : values ≡ front ++ value ∷ those_after
  pub placed : IsPlacedOf b page value olds news
  pub in_front : AreOthers line front
  pub are_after : AreOthers line those_after
  pub kept : (p : CallPage) → IsStoredPage page p → AreStoredOf number pages (p ∷ [])

own_first : (number : ℕ) (line : List ℕ) (names : List (List ℕ)) (b : Bool) (p : PageToStore) (pages : List PageToStore) (v : PageValue) (values : List PageValue) (olds news : List QueueValue) → AreOtherNames number line names
    → AreNamed names (p ∷ pages) (v ∷ values) → AllPairs (λ page those_after. page.line < those_after.line) (p ∷ pages) → EachIsPlaced b (p ∷ pages) (v ∷ values) olds news → (c : Bool) → nat_eq p.line number ≡ c
    → (c || has_page pages number) ≡ true → (has_page pages number ≡ true → Own number line b pages values olds news) → Own number line b (p ∷ pages) (v ∷ values) olds news
own_first number line names b p pages v values olds news other named rising each true is has rest = record {
  page = p;
  value = v;
  front = [];
  those_after = values;
  at = 0;
  low = omega arith;
  is_at = λ d. refl;
  line_is = eqb-true p.line number is;
  values_are = refl;
  placed = each.0;
  in_front = tt;
  are_after = others_of number line names pages values other (after_none p pages number (eqb-true p.line number is) rising) named.1;
  kept = λ k its. inl (eqb-true p.line number is, its, kept_none number pages (after_none p pages number (eqb-true p.line number is) rising));
}
own_first number line names b p pages v values olds news other named rising each false is has rest =
    let own : Own number line b pages values olds news = rest has in record {
      page = own.page;
      value = own.value;
      front = v ∷ own.front;
      those_after = own.those_after;
      at = suc own.at;
      low = let low = own.low in omega (arith, low);
      is_at = λ d. own.is_at d;
      line_is = own.line_is;
      values_are = ap (λ (l : List PageValue). v ∷ l) own.values_are;
      placed = own.placed;
      in_front = (other p.line v.line named.0 (not_eq p.line number is), own.in_front);
      are_after = own.are_after;
      kept = λ k its. inr (not_eq p.line number is, own.kept k its);
    }

pub own_of : (number : ℕ) (line : List ℕ) (names : List (List ℕ)) (b : Bool) (pages : List PageToStore) (values : List PageValue) (olds news : List QueueValue) → AreOtherNames number line names → AreNamed names pages values
    → AllPairs (λ page those_after. page.line < those_after.line) pages → EachIsPlaced b pages values olds news → has_page pages number ≡ true → Own number line b pages values olds news
own_of number line names b [] [] olds news other named rising each has = let no : false ≡ true = has in cc
own_of number line names b [] (v ∷ values) olds news other named rising each has = absurd named
own_of number line names b (p ∷ pages) [] olds news other named rising each has = absurd named
own_of number line names b (p ∷ pages) (v ∷ values) olds news other named rising each has =
    own_first number line names b p pages v values olds news other named rising each (nat_eq p.line number) refl has
    (λ rest. own_of number line names b pages values olds news other named.1 (λ i j d less low. rising (suc i) (suc j) d (omega (arith, less)) (omega (arith, low))) each.1 rest)

-- ---- put, whatever crash follows

module _ {D : Type 0} (seen : D → List ℕ) (may_leave : D → List ℕ → Type 0) (is_usable : D → Bool) where
  not_both : (b : Bool) → b ≡ true → b ≡ false → ⊥
  not_both b on off = let no : true ≡ false = sym on ∙ off in cc

  -- what each crash tells after a put, by what becomes of it where the pages are put
  pub puts_ok :
      (pages : List PageToStore) (olds news : List QueueValue) (before after : Spool D) (P Q : List PageValue → Type 0) (put : ArePut seen may_leave is_usable pages olds news before after)
      → (Refuses before → ⊥) → ((told : List PageValue) → P told → Q (told ++ put.values)) → WaitSo seen may_leave is_usable before P → WaitSo seen may_leave is_usable after Q
  puts_ok pages olds news before after P Q put accepts ok (inl is) = inl (is.0 ++ put.values, put.wait is.0 is.1, ok is.0 is.2)
  puts_ok pages olds news before after P Q put accepts ok (inr is) = absurd (accepts is.0)

  -- where they are not; and where they are there all the same
  pub puts_err :
      (pages : List PageToStore) (olds news : List QueueValue) (before after : Spool D) (P Q : List PageValue → Type 0) (refused : AreRefused seen may_leave is_usable pages olds news before after)
      → (Refuses before → after ≡ before) → ((told : List PageValue) → P told → Q told) → (Refuses after → (told : List PageValue) → P told → Q (told ++ refused.values))
      → WaitSo seen may_leave is_usable before P → WaitSo seen may_leave is_usable after Q
  puts_err pages olds news before after P Q refused same none there (inl is) =
      elim (refused.left is.0 is.1) [
        | inl rests ↦ inl (is.0, rests, none is.0 is.2)
        | inr each ↦ inr (
          each.0,
          λ older newer left.
              let it = each.1 older newer left in
              (it.0, it.1, elim it.2 [ inl stays ↦ subst Q (sym stays) (none is.0 is.2) | inr done ↦ subst Q (sym done) (there each.0 is.0 is.2) ]),
        )
      ]
  puts_err pages olds news before after P Q refused same none there (inr is) =
      subst (λ (s : Spool D). WaitSo seen may_leave is_usable s Q) (sym (same is.0)) (wait_map seen may_leave is_usable before P Q none (inr is))

  -- a spool that refused refuses still
  pub still_refuses : (before after : Spool D) → (Refuses before → after ≡ before) → refuses_now before ≡ true → refuses_now after ≡ true
  still_refuses before after same refuses = ap (λ (s : Spool D). refuses_now s) (same refuses) ∙ refuses

  pub notes_so : (b : Bool) (before after : Spool D) (value : PageValue) (old new : QueueValue) → (Refuses before → after ≡ before) → IsQueued (placed_as value b) old new → NotesStill (notes_of before old) (notes_of after new) new
  notes_so b before after value old new same queued = notes_stay (placed_as value b) old new (refuses_now before) (refuses_now after) queued (still_refuses before after same)

  both_notes : (a b c : Bool) → (c ≡ true → b ≡ true) → (a && not b) ≡ true → (a && not c) ≡ true
  both_notes true true c still on = cc
  both_notes true false true still on = let no : false ≡ true = still refl in cc
  both_notes true false false still on = refl
  both_notes false b c still on = cc

  pub notes_before : (before after : Spool D) (queue : QueueValue) → (Refuses before → after ≡ before) → notes_of after queue ≡ true → notes_of before queue ≡ true
  notes_before before after queue same on = both_notes queue.is_whole (refuses_now after) (refuses_now before) (still_refuses before after same) on

  -- of a line that has no page among them
  pub puts_others :
      (A : Type 0) (number : ℕ) (line : List ℕ) (t : List BookEntry) (q : List CallPage) (queue : QueueValue) (pages : List PageToStore) (is_stored : Bool) (olds news : List QueueValue) (before after : Spool D)
      → PutsPages seen may_leave is_usable pages is_stored olds news before after → All (λ page. page.line < length olds) pages → AreOtherNames number line (lines_of olds) → has_page pages number ≡ false
      → WaitSo seen may_leave is_usable before (PastAs A line t q queue (notes_of before queue)) → WaitSo seen may_leave is_usable after (PastAs A line t q queue (notes_of after queue))
  puts_others A number line t q queue pages true olds news before after puts low other none was =
      let put = puts.put refl in
      let others = others_of number line (lines_of olds) pages put.values other (none_of number pages none) (are_named true pages put.values olds news put.queued) in
      puts_ok pages olds news before after (PastAs A line t q queue (notes_of before queue)) (PastAs A line t q queue (notes_of after queue)) put (λ refuses. not_both true refl (puts.refuses refuses).0)
      (λ told past. past_beside A line t q queue queue (notes_of before queue) (notes_of after queue) told (told ++ put.values) refl (own_same line told put.values others) (notes_before before after queue (λ refuses. (puts.refuses refuses).1)) past) was
  puts_others A number line t q queue pages false olds news before after puts low other none was =
      let refused = puts.refused refl low in
      let same : Refuses before → after ≡ before = λ refuses. (puts.refuses refuses).1 in
      let others = others_of number line (lines_of olds) pages refused.values other (none_of number pages none) (are_named false pages refused.values olds news refused.queued) in
      puts_err pages olds news before after (PastAs A line t q queue (notes_of before queue)) (PastAs A line t q queue (notes_of after queue)) refused same
      (λ told past. past_beside A line t q queue queue (notes_of before queue) (notes_of after queue) told told refl refl (notes_before before after queue same) past)
      (λ refuses told past. past_beside A line t q queue queue (notes_of before queue) (notes_of after queue) told (told ++ refused.values) refl (own_same line told refused.values others) (notes_before before after queue same) past)
      was

  -- its queue stays then
  pub puts_stay : (number : ℕ) (pages : List PageToStore) (is_stored : Bool) (olds news : List QueueValue) (before after : Spool D)
      → PutsPages seen may_leave is_usable pages is_stored olds news before after → All (λ page. page.line < length olds) pages → has_page pages number ≡ false
      → (slice_get news number ≡ slice_get olds number) × (lines_of news ≡ lines_of olds)
  puts_stay number pages true olds news before after puts low none =
      let put = puts.put refl in ((slots_are_puts pages put.values olds news put.queued).1 number (unlike number pages (none_of number pages none)), all_lines true pages put.values olds news put.queued)
  puts_stay number pages false olds news before after puts low none =
      let refused = puts.refused refl low in ((slots_are_refusals pages refused.values olds news refused.queued).1 number (unlike number pages (none_of number pages none)), all_lines false pages refused.values olds news refused.queued)

  -- ---- of a line that has one

  -- the value among all that were put
  around : (line : List ℕ) (told front those_after values : List PageValue) (value : PageValue) → values ≡ front ++ value ∷ those_after → ((told ++ front) ++ value ∷ []) ++ those_after ≡ told ++ values
  around line told front those_after values value are =
      append_assoc (told ++ front) (value ∷ []) those_after ∙ append_assoc told front (value ∷ those_after) ∙ ap (λ (l : List PageValue). told ++ l) (sym are)

  -- its action, between those of the others
  around_past :
      (A : Type 0) (line : List ℕ) (t u : List BookEntry) (q r : List CallPage) (queue new : QueueValue) (before after : Bool) (told front those_after values : List PageValue) (value : PageValue) (given : Option (List ℕ)) (page : ReadPage)
      → (PastAs A line t q queue before (told ++ front) → PastAs A line (Confirms given (page_of page) page.waits.closes ∷ t) r new after ((told ++ front) ++ page.waits ∷ []))
      → AreOthers line front → AreOthers line those_after → values ≡ front ++ value ∷ those_after → page.waits ≡ value → u ≡ Confirms given (page_of page) page.waits.closes ∷ t
      → PastAs A line t q queue before told → PastAs A line u r new after (told ++ values)
  around_past A line t u q r queue new before after told front those_after values value given page action in_front are_after are is tells past =
      let first : PastAs A line t q queue before (told ++ front) = past_beside A line t q queue queue before before told (told ++ front) refl (own_same line told front in_front) (λ on. on) past in
      let mine : PastAs A line (Confirms given (page_of page) page.waits.closes ∷ t) r new after ((told ++ front) ++ page.waits ∷ []) = action first in
      let mid : List PageValue = (told ++ front) ++ page.waits ∷ [] in
      let last : PastAs A line (Confirms given (page_of page) page.waits.closes ∷ t) r new after (mid ++ those_after) =
      past_beside A line (Confirms given (page_of page) page.waits.closes ∷ t) r new new after after mid (mid ++ those_after) refl (own_same line mid those_after are_after) (λ on. on) mine in
      subst (λ (l : List BookEntry). PastAs A line l r new after (told ++ values)) (sym tells)
      (subst (λ (l : List PageValue). PastAs A line (Confirms given (page_of page) page.waits.closes ∷ t) r new after l)
      (ap (λ (v : PageValue). ((told ++ front) ++ v ∷ []) ++ those_after) is ∙ around line told front those_after values value are) last)

  -- what is told of a page that was put as this
  pub record IsConfirmed (t u : List BookEntry) (value : PageValue) : Type 0 where
    pub page : ReadPage
    pub waits : page.waits ≡ value
    pub means : Means page.waits page.page
    pub given : Option (List ℕ)
    pub tells : u ≡ Confirms given (page_of page) page.waits.closes ∷ t

  same_queue : (a b : QueueValue) → Some a ≡ Some b → a ≡ b
  same_queue a b same = cc

  -- the queue of the line has the page, and it is told
  pub record HasPage (A : Type 0) (number : ℕ) (line : List ℕ) (q : List CallPage) (pages : List PageToStore) (R : List BookEntry → Type 0) (olds news : List QueueValue) (after : Spool D) : Type 0 where
    pub entries : List BookEntry
    pub right : R entries
    pub puts : List CallPage
    pub are_put : AreStoredOf number pages puts
    pub queue : QueueValue
    pub there : slice_get news number ≡ Some queue
    pub named : queue.line ≡ line
    pub lines : lines_of news ≡ lines_of olds
    pub waits : WaitSo seen may_leave is_usable after (PastAs A line entries (q ++ puts) queue (notes_of after queue))

  module _
      (A : Type 0) (number : ℕ) (line : List ℕ) (t : List BookEntry) (q : List CallPage) (queue : QueueValue) (pages : List PageToStore) (olds news : List QueueValue) (before after : Spool D) (R : List BookEntry → Type 0)
      (low : All (λ page. page.line < length olds) pages) (other : AreOtherNames number line (lines_of olds)) (there : slice_get olds number ≡ Some queue) (named : queue.line ≡ line)
      (rising : AllPairs (λ page those_after. page.line < those_after.line) pages) (has : has_page pages number ≡ true)
      (tell : (at : ℕ) (page : PageToStore) (value : PageValue) → at < length pages → ((other : PageToStore) → slice_index_or pages at other ≡ page) → page.line ≡ number → IsRecordOf page (Page value)
      → (u : List BookEntry) × R u × IsConfirmed t u value) where
    its_queue : (b : Bool) (values : List PageValue) (own : Own number line b pages values olds news) → own.placed.old ≡ queue
    its_queue b values own = same_queue own.placed.old queue (sym own.placed.was ∙ ap (λ (n : ℕ). slice_get olds n) own.line_is ∙ there)

    its_name : (b : Bool) (values : List PageValue) (own : Own number line b pages values olds news) → own.value.line ≡ line
    its_name b values own = own.placed.line_is ∙ ap (λ (s : QueueValue). s.line) (its_queue b values own) ∙ named

    on_queue : (b : Bool) (values : List PageValue) (own : Own number line b pages values olds news) (page : ReadPage) → page.waits ≡ own.value → IsQueued (placed_as page.waits b) queue own.placed.new
    on_queue b values own page is =
        subst (λ (v : PageValue). IsQueued (placed_as v b) queue own.placed.new) (sym is) (subst (λ (s : QueueValue). IsQueued (placed_as own.value b) s own.placed.new) (its_queue b values own) own.placed.queued)

    has_own : (b : Bool) (values : List PageValue) (own : Own number line b pages values olds news) (u : List BookEntry) → R u → (puts : List CallPage) → AreStoredOf number (kept_if b pages) puts → lines_of news ≡ lines_of olds
        → WaitSo seen may_leave is_usable after (PastAs A line u (q ++ puts) own.placed.new (notes_of after own.placed.new)) → HasPage A number line q (kept_if b pages) R olds news after
    has_own b values own u right puts are_put lines waits = record {
      entries = u;
      right = right;
      puts = puts;
      are_put = are_put;
      queue = own.placed.new;
      there = ap (λ (n : ℕ). slice_get news n) (sym own.line_is) ∙ own.placed.is;
      named = own.placed.queued.line ∙ ap (λ (s : QueueValue). s.line) (its_queue b values own) ∙ named;
      lines = lines;
      waits = waits;
    }

    -- the page that was put is the one that is told
    is_stored : (page : PageToStore) (value : PageValue) (r : ReadPage) → IsRecordOf page (Page value) → r.waits ≡ value → Means r.waits r.page → IsStoredPage page (page_of r)
    is_stored page value r recorded is means =
        let same : recorded.value ≡ r.waits = same_value recorded.value r.waits (sym recorded.is_page ∙ ap (λ (v : PageValue). Page v) (sym is)) in
        let format : r.waits.format ≡ page.kept.format = ap (λ (v : PageValue). v.format) (sym same) ∙ recorded.format in
        let text : r.waits.text ≡ page.text = ap (λ (v : PageValue). v.text) (sym same) ∙ recorded.text in (
          ap (λ (v : PageValue). v.call) (sym same) ∙ recorded.call,
          subst (λ (f : Format). MeansPage f codings.Mr page.text r.page) format (subst (λ (x : List ℕ). MeansPage r.waits.format codings.Mr x r.page) text means),
        )

    pub own_ok : (put : ArePut seen may_leave is_usable pages olds news before after) → (Refuses before → ⊥) → WaitSo seen may_leave is_usable before (PastAs A line t q queue (notes_of before queue)) → HasPage A number line q pages R olds news after
    own_ok put accepts was =
        let own : Own number line true pages put.values olds news =
        own_of number line (lines_of olds) true pages put.values olds news other (are_named true pages put.values olds news put.queued) rising ((slots_are_puts pages put.values olds news put.queued).0 rising) has in
        let told = tell own.at own.page own.value own.low own.is_at own.line_is own.placed.is_record in
        let new : QueueValue = own.placed.new in
        let page : ReadPage = told.2.page in
        let queued : IsQueued (placed_as page.waits true) queue new = on_queue true put.values own page told.2.waits in
        let notes : NotesStill (notes_of before queue) (notes_of after new) new = notes_so true before after page.waits queue new (λ refuses. absurd (accepts refuses)) queued in
        let name : page.waits.line ≡ line = ap (λ (v : PageValue). v.line) told.2.waits ∙ its_name true put.values own in
        has_own true put.values own told.0 told.1 (page_of page ∷ []) (own.kept (page_of page) (is_stored own.page own.value page own.placed.is_record told.2.waits told.2.means)) (all_lines true pages put.values olds news put.queued)
        (puts_ok pages olds news before after (PastAs A line t q queue (notes_of before queue)) (PastAs A line told.0 (q ++ page_of page ∷ []) new (notes_of after new)) put accepts
        (λ l past. around_past A line t told.0 q (q ++ page_of page ∷ []) queue new (notes_of before queue) (notes_of after new) l own.front own.those_after put.values own.value told.2.given page
        (λ first. past_keeps A line t q told.2.given page queue new (notes_of before queue) (notes_of after new) (l ++ own.front) name told.2.means queued notes first) own.in_front own.are_after own.values_are
        told.2.waits told.2.tells past) was)

    pub own_err : (A → ⊥) → (refused : AreRefused seen may_leave is_usable pages olds news before after) → (Refuses before → after ≡ before) → WaitSo seen may_leave is_usable before (PastAs A line t q queue (notes_of before queue)) → HasPage A number line q [] R olds news after
    own_err never refused same was =
        let own : Own number line false pages refused.values olds news =
        own_of number line (lines_of olds) false pages refused.values olds news other (are_named false pages refused.values olds news refused.queued) rising
        ((slots_are_refusals pages refused.values olds news refused.queued).0 rising) has in
        let told = tell own.at own.page own.value own.low own.is_at own.line_is own.placed.is_record in
        let new : QueueValue = own.placed.new in
        let page : ReadPage = told.2.page in
        let queued : IsQueued (placed_as page.waits false) queue new = on_queue false refused.values own page told.2.waits in
        let notes : NotesStill (notes_of before queue) (notes_of after new) new = notes_so false before after page.waits queue new same queued in
        let name : page.waits.line ≡ line = ap (λ (v : PageValue). v.line) told.2.waits ∙ its_name false refused.values own in
        has_own false refused.values own told.0 told.1 [] refl (all_lines false pages refused.values olds news refused.queued)
        (subst (λ (p : List CallPage). WaitSo seen may_leave is_usable after (PastAs A line told.0 p new (notes_of after new))) (sym (append-nil q))
        (puts_err pages olds news before after (PastAs A line t q queue (notes_of before queue)) (PastAs A line told.0 q new (notes_of after new)) refused same
        (λ l past. subst (λ (x : List BookEntry). PastAs A line x q new (notes_of after new) l) (sym told.2.tells)
        (past_refuses A never line t q told.2.given page queue new (notes_of before queue) (notes_of after new) l name told.2.means queued notes past))
        (λ refuses l past. around_past A line t told.0 q q queue new (notes_of before queue) (notes_of after new) l own.front own.those_after refused.values own.value told.2.given page
        (λ first. past_refused_there A line t q told.2.given page queue new (notes_of before queue) (notes_of after new) (l ++ own.front) name told.2.means (refusing seen may_leave is_usable after new refuses) first) own.in_front
        own.are_after own.values_are told.2.waits told.2.tells past) was))
