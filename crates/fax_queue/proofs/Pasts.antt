-- Actions of a line that go on: what was done of its pages so far, and one action more.
use Rattle.std.proofs.Common.{◌≡◌, ◌≢◌, ◌∙◌, ℕ, inl, inr, Bool, true, false, cond, List, [], ◌∷◌, ◌++◌, Option, bytes_eq, refl, sym, ap, append-nil}
use Rattle.std.proofs.lemmas.Slice.Eq.{bytes_eq-Decides}
use Rattle.fax_spool.specs.RecordOctets as spool
use Rattle.fax_spool.specs.declared.spool.Spool.{Spool}
use Rattle.fax_queue.specs.Restorations.{Means, ReadPage, own_pages}
use Rattle.fax_queue.specs.Queues.{IsQueued, QueueValue}
use Rattle.fax_queue.specs.Jobs.{WaitSo}
use Rattle.fax_queue.specs.Storing.{placed_as}
use Rattle.fax_queue.specs.Lives as lives
use Rattle.fax_queue.specs.Lives.{Goes, NotesStill, PageAction, State, WasDone, state_of}
use Rattle.fax_queue.specs.Refusals.{IsAnEnd}
use Rattle.fax_gateway.specs.Restored.{CallPage}
use Rattle.fax_queue.specs.Book.{AllIsPut, BookEntry, Confirms, Reports, page_of, pages_put, told_by}

-- Actions that were done, after which the line has this queue, and these pages wait on the disk; by which this is told, and by which
-- these pages were put; and where this holds all is put and noted.
pub record PastAs (A : Type 0) (line : List ℕ) (entries : List BookEntry) (puts : List CallPage) (queue : QueueValue) (notes : Bool) (told : List spool.PageValue) : Type 0 where
  pub actions : List PageAction
  pub done : WasDone line actions (state_of queue notes told)
  pub tells : told_by actions ≡ entries
  pub put : pages_put actions ≡ puts
  pub all : A → AllIsPut actions

-- nothing is done with the line's own pages
pub past_beside :
    (A : Type 0) (line : List ℕ) (t : List BookEntry) (q : List CallPage) (old new : QueueValue) (before after : Bool) (told more : List spool.PageValue) → new ≡ old → own_pages line more ≡ own_pages line told → (after ≡ true → before ≡ true)
    → PastAs A line t q old before told → PastAs A line t q new after more
past_beside A line t q old new before after told more same own still past = record {
  actions = lives.Beside ∷ past.actions;
  done = (state_of old before told, past.done, record { same = own; queued = λ on. (still on, ap (λ (s : QueueValue). s.waits) same) });
  tells = past.tells;
  put = past.put;
  all = past.all;
}

pub past_keeps :
    (A : Type 0) (line : List ℕ) (t : List BookEntry) (q : List CallPage) (given : Option (List ℕ)) (page : ReadPage) (old new : QueueValue) (before after : Bool) (told : List spool.PageValue) → page.waits.line ≡ line → Means page.waits page.page
    → IsQueued (placed_as page.waits true) old new → NotesStill before after new → PastAs A line t q old before told
    → PastAs A line (Confirms given (page_of page) page.waits.closes ∷ t) (q ++ page_of page ∷ []) new after (told ++ page.waits ∷ [])
past_keeps A line t q given page old new before after told named means queued notes past = record {
  actions = lives.Stores given page ∷ past.actions;
  done = (state_of old before told, past.done, record { line_is = named; means = means; there = refl; queued = λ still. ((notes still).0, (queued.whole (notes still).1).1) });
  tells = ap (λ (l : List BookEntry). Confirms given (page_of page) page.waits.closes ∷ l) past.tells;
  put = ap (λ (l : List CallPage). l ++ page_of page ∷ []) past.put;
  all = past.all;
}

-- a page is refused, and is not on the disk
pub past_refuses :
    (A : Type 0) (never : A → ⊥) (line : List ℕ) (t : List BookEntry) (q : List CallPage) (given : Option (List ℕ)) (page : ReadPage) (old new : QueueValue) (before after : Bool) (told : List spool.PageValue) → page.waits.line ≡ line → Means page.waits page.page
    → IsQueued (placed_as page.waits false) old new → NotesStill before after new → PastAs A line t q old before told
    → PastAs A line (Confirms given (page_of page) page.waits.closes ∷ t) q new after told
past_refuses A never line t q given page old new before after told named means queued notes past = record {
  actions = lives.Refuses given page false ∷ past.actions;
  done = (
    state_of old before told,
    past.done,
    (
      record { line_is = named; means = means; there = refl; queued = λ still. ((notes still).0, (queued.whole (notes still).1).1) },
      λ there. let no : false ≡ true = there in cc,
    ),
  );
  tells = ap (λ (l : List BookEntry). Confirms given (page_of page) page.waits.closes ∷ l) past.tells;
  put = past.put;
  all = λ a. absurd (never a);
}

no_true : (b : Bool) → b ≡ true → b ≡ false → ⊥
no_true b on none = let no : true ≡ false = sym on ∙ none in cc

-- or it is there all the same
pub past_refused_there :
    (A : Type 0) (line : List ℕ) (t : List BookEntry) (q : List CallPage) (given : Option (List ℕ)) (page : ReadPage) (old new : QueueValue) (before after : Bool) (told : List spool.PageValue) → page.waits.line ≡ line → Means page.waits page.page
    → after ≡ false → PastAs A line t q old before told → PastAs A line (Confirms given (page_of page) page.waits.closes ∷ t) q new after (told ++ page.waits ∷ [])
past_refused_there A line t q given page old new before after told named means none past = record {
  actions = lives.Refuses given page true ∷ past.actions;
  done = (
    state_of old before told,
    past.done,
    (record { line_is = named; means = means; there = refl; queued = λ still. absurd (no_true after still none) }, λ there. none),
  );
  tells = ap (λ (l : List BookEntry). Confirms given (page_of page) page.waits.closes ∷ l) past.tells;
  put = past.put;
  all = λ a. (refl, past.all a);
}

-- a job ends, which is noted
pub past_noted :
    (A : Type 0) (line : List ℕ) (t : List BookEntry) (q : List CallPage) (pages : ℕ) (old new : QueueValue) (before after : Bool) (told more : List spool.PageValue) → Goes line (lives.Ends pages) (state_of old before told) (state_of new after more)
    → PastAs A line t q old before told → PastAs A line (Reports pages ∷ t) q new after more
past_noted A line t q pages old new before after told more is past = record {
  actions = lives.Ends pages ∷ past.actions;
  done = (state_of old before told, past.done, is);
  tells = ap (λ (l : List BookEntry). Reports pages ∷ l) past.tells;
  put = past.put;
  all = past.all;
}

-- or somehow
pub past_ends :
    (A : Type 0) (never : A → ⊥) (line : List ℕ) (t : List BookEntry) (q : List CallPage) (pages : ℕ) (old new : QueueValue) (before after : Bool) (told more : List spool.PageValue) → IsAnEnd line pages (state_of old before told) (state_of new after more)
    → PastAs A line t q old before told → PastAs A line (Reports pages ∷ t) q new after more
past_ends A never line t q pages old new before after told more (inl is) past = record {
  actions = lives.Ends pages ∷ past.actions;
  done = (state_of old before told, past.done, is);
  tells = ap (λ (l : List BookEntry). Reports pages ∷ l) past.tells;
  put = past.put;
  all = past.all;
}
past_ends A never line t q pages old new before after told more (inr (inl is)) past = record {
  actions = lives.Leaves pages ∷ past.actions;
  done = (state_of old before told, past.done, is);
  tells = ap (λ (l : List BookEntry). Reports pages ∷ l) past.tells;
  put = past.put;
  all = λ a. absurd (never a);
}
past_ends A never line t q pages old new before after told more (inr (inr is)) past = record {
  actions = lives.Lets pages ∷ past.actions;
  done = (state_of old before told, past.done, is);
  tells = ap (λ (l : List BookEntry). Reports pages ∷ l) past.tells;
  put = past.put;
  all = past.all;
}

-- ---- pages of other lines

-- each is of another line than this
abbrev pub AreOthers : List ℕ → List spool.PageValue → Type 0
AreOthers line [] = Unit {0}
AreOthers line (v ∷ values) = (v.line ≢ line) × AreOthers line values

own_append : (line : List ℕ) (xs ys : List spool.PageValue) → own_pages line (xs ++ ys) ≡ own_pages line xs ++ own_pages line ys
own_append line [] ys = refl
own_append line (x ∷ xs) ys =
    elim (bytes_eq x.line line) as (λ b. cond b (x ∷ own_pages line (xs ++ ys)) (own_pages line (xs ++ ys)) ≡ cond b (x ∷ own_pages line xs) (own_pages line xs) ++ own_pages line ys) [
      | true ↦ ap (λ (l : List spool.PageValue). x ∷ l) (own_append line xs ys)
      | false ↦ own_append line xs ys
    ]

not_own : (line : List ℕ) (v : spool.PageValue) (b : Bool) → bytes_eq v.line line ≡ b → v.line ≢ line → b ≡ false
not_own line v true same other = absurd (other ((bytes_eq-Decides v.line line).0 same))
not_own line v false same other = refl

own_of_others : (line : List ℕ) (values : List spool.PageValue) → AreOthers line values → own_pages line values ≡ []
own_of_others line [] others = refl
own_of_others line (v ∷ values) others =
    ap (λ (b : Bool). cond b (v ∷ own_pages line values) (own_pages line values)) (not_own line v (bytes_eq v.line line) refl others.0) ∙ own_of_others line values others.1

pub own_same : (line : List ℕ) (told values : List spool.PageValue) → AreOthers line values → own_pages line (told ++ values) ≡ own_pages line told
own_same line told values others =
    own_append line told values ∙ ap (λ (l : List spool.PageValue). own_pages line told ++ l) (own_of_others line values others) ∙ append-nil (own_pages line told)

-- ---- what is told by each crash

module _ {D : Type 0} (seen : D → List ℕ) (may_leave : D → List ℕ → Type 0) (is_usable : D → Bool) where
  pub wait_map : (now : Spool D) (P Q : List spool.PageValue → Type 0) → ((told : List spool.PageValue) → P told → Q told) → WaitSo seen may_leave is_usable now P → WaitSo seen may_leave is_usable now Q
  wait_map now P Q f (inl is) = inl (is.0, is.1, f is.0 is.2)
  wait_map now P Q f (inr is) = inr (is.0, λ older newer left. let it = is.1 older newer left in (it.0, it.1, f it.0 it.2))
