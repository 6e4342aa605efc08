-- One more page of a line that is restored.
use Rattle.std.proofs.Common.{◌≡◌, ◌≢◌, ◌∙◌, ℕ, zero, suc, ◌+◌, ◌-◌, ◌<◌, All, take, get_or, inl, inr, Bool, true, false, not, ◌&&◌, cond, if◌then◌else◌, List, [], ◌∷◌, ◌++◌, length, map, Some, slice_get, refl, sym, ap, subst, arith, nat_eq, bytes_eq, append_assoc, Result, Ok, Err, OnOk}
use Rattle.std.proofs.lemmas.Bool.Decides.{nat_tests}
use Rattle.fax_pagestore.specs.Pages.{PageValue}
use Rattle.fax_jobs.specs.Cuts.{Confirmation}
use Rattle.fax_answer.specs.declared.step.Confirmed.{Confirmed}
use Rattle.fax_spool.specs.RecordOctets as spool
use Rattle.fax_gateway.specs.Restored.{RestoredCall, call_shown, confirmation_shown}
use Rattle.fax_gateway.specs.declared.restored.RestoredCall as shown
use Rattle.std.proofs.lemmas.List.{append-nil, map-append, take_more}
use Rattle.std.proofs.lemmas.List.Elements.{All-head, All-tail, filter-append}
use Rattle.fax_spool.specs.Torn.{CallName, is_of_any}
use Rattle.fax_queue.specs.Queues.{AreInOrder, TagValue}
use Rattle.fax_queue.specs.declared.queue.Aside.{Aside}
use Rattle.fax_queue.specs.declared.queue.QueuedPage.{QueuedPage}
use Rattle.fax_queue.specs.declared.restored.RestoredLine.{RestoredLine}
use Rattle.fax_queue.specs.Restorations.{AreAside, AreIn, AreRead, Means, MeansNone, ReadPage, Restores, aside_of, before, before_all, begins, begun, call_with, calls_of, confirmation_of, in_one_call, onto_last, own_pages, own_tag, tags_after, tags_of, waiting_of, whole_pages, NoneIsTorn, WholeLinesAreRestored}
use Rattle.fax_queue.proofs.Naming.{in_order_front}

-- ---- the calls

abbrev pub with_begun : Bool → spool.PageValue → List RestoredCall → List RestoredCall
with_begun true page calls = calls ++ begun page ∷ []
with_begun false page calls = calls

onto_call : (b : Bool) (c : Confirmation) (page : spool.PageValue) (first next : RestoredCall) (calls : List RestoredCall)
    → onto_last c (with_begun b page (first ∷ next ∷ calls)) ≡ first ∷ onto_last c (with_begun b page (next ∷ calls))
onto_call true c page first next calls = refl
onto_call false c page first next calls = refl

-- there is a call where there is a page
some_call : (r : ReadPage) (read : List ReadPage) → (call : RestoredCall) × (calls : List RestoredCall) × (calls_of (r ∷ read) ≡ call ∷ calls)
some_call r [] = (call_with r, [], refl)
some_call r (next ∷ read) =
    let there = some_call next read in
    elim (in_one_call r.waits next.waits) as (λ b. (call : RestoredCall) × (calls : List RestoredCall) × ((if b then before_all r (calls_of (next ∷ read)) else call_with r ∷ calls_of (next ∷ read)) ≡ call ∷ calls)) [
      | true ↦ (record { number = there.0.number; confirmed = confirmation_of r ∷ there.0.confirmed }, there.1, ap (λ (l : List RestoredCall). before_all r l) there.2)
      | false ↦ (call_with r, calls_of (next ∷ read), refl)
    ]

joins : (b : Bool) (c : Confirmation) (page : spool.PageValue) (r : ReadPage) (call : RestoredCall) (calls : List RestoredCall)
    → before_all r (onto_last c (with_begun b page (call ∷ calls))) ≡ onto_last c (with_begun b page (before_all r (call ∷ calls)))
joins true c page r call [] = refl
joins true c page r call (next ∷ calls) = refl
joins false c page r call [] = refl
joins false c page r call (next ∷ calls) = refl

stands_before : (b t : Bool) (c : Confirmation) (page : spool.PageValue) (r : ReadPage) (call : RestoredCall) (calls : List RestoredCall)
    → (if t then before_all r (onto_last c (with_begun b page (call ∷ calls))) else call_with r ∷ onto_last c (with_begun b page (call ∷ calls)))
    ≡ onto_last c (with_begun b page (if t then before_all r (call ∷ calls) else call_with r ∷ call ∷ calls))
stands_before b true c page r call calls = joins b c page r call calls
stands_before b false c page r call calls = sym (onto_call b c page (call_with r) call calls)

one_more : (x r : ReadPage) (t : Bool) → in_one_call x.waits r.waits ≡ t
    → (if t then before_all x (call_with r ∷ []) else call_with x ∷ call_with r ∷ []) ≡ onto_last (confirmation_of r) (with_begun (not t) r.waits (call_with x ∷ []))
one_more x r true is =
    let same : r.waits.call ≡ x.waits.call = grind (arith, nat_tests) in
    ap (λ (n : ℕ). record { number = n; confirmed = confirmation_of x ∷ confirmation_of r ∷ [] } ∷ []) same
one_more x r false is = refl

pub calls_more : (read : List ReadPage) (r : ReadPage) → calls_of (read ++ r ∷ []) ≡ onto_last (confirmation_of r) (with_begun (begins (map waiting_of read) r.waits) r.waits (calls_of read))
calls_more [] r = refl
calls_more (x ∷ []) r = one_more x r (in_one_call x.waits r.waits) refl
calls_more (x ∷ y ∷ read) r =
    let b = begins (map waiting_of (y ∷ read)) r.waits in
    let t = in_one_call x.waits y.waits in
    let some = some_call y read in
    ap (λ (l : List RestoredCall). if t then before_all x l else call_with x ∷ l) (calls_more (y ∷ read) r ∙ ap (λ (l : List RestoredCall). onto_last (confirmation_of r) (with_begun b r.waits l)) some.2)
    ∙ stands_before b t (confirmation_of r) r.waits x some.0 some.1
    ∙ ap (λ (l : List RestoredCall). onto_last (confirmation_of r) (with_begun b r.waits (if t then before_all x l else call_with x ∷ l))) (sym some.2)

-- ---- the pages that are read

pub own_more : (line : List ℕ) (pages : List spool.PageValue) (page : spool.PageValue) → own_pages line (pages ++ page ∷ []) ≡ own_pages line pages ++ own_pages line (page ∷ [])
own_more line [] page = refl
own_more line (p ∷ pages) page =
    elim (bytes_eq p.line line) as (λ b. cond b (p ∷ own_pages line (pages ++ page ∷ [])) (own_pages line (pages ++ page ∷ [])) ≡ cond b (p ∷ own_pages line pages) (own_pages line pages) ++ own_pages line (page ∷ [])) [
      | true ↦ ap (λ (l : List spool.PageValue). p ∷ l) (own_more line pages page)
      | false ↦ own_more line pages page
    ]

read_more : (waits : List spool.PageValue) (read : List ReadPage) (w : spool.PageValue) (page : PageValue) → AreRead waits read → Means w page → AreRead (waits ++ w ∷ []) (read ++ record { waits = w; page = page } ∷ [])
read_more [] [] w page are means = inl (refl, means, refl)
read_more [] (r ∷ read) w page are means = absurd (cc)
read_more (v ∷ waits) [] w page are means = inr (are.0, read_more waits [] w page are.1 means)
read_more (v ∷ waits) (r ∷ read) w page (inl is) means = inl (is.0, is.1, read_more waits read w page is.2 means)
read_more (v ∷ waits) (r ∷ read) w page (inr none) means = inr (none.0, read_more waits (r ∷ read) w page none.1 means)

read_aside : (waits : List spool.PageValue) (read : List ReadPage) (w : spool.PageValue) → AreRead waits read → MeansNone w → AreRead (waits ++ w ∷ []) read
read_aside [] [] w are none = (none, refl)
read_aside [] (r ∷ read) w are none = absurd (cc)
read_aside (v ∷ waits) [] w are none = (are.0, read_aside waits [] w are.1 none)
read_aside (v ∷ waits) (r ∷ read) w (inl is) none = inl (is.0, is.1, read_aside waits read w is.2 none)
read_aside (v ∷ waits) (r ∷ read) w (inr is) none = inr (is.0, read_aside waits (r ∷ read) w is.1 none)

aside_same : (waits : List spool.PageValue) (aside : List Aside) (w : spool.PageValue) (page : PageValue) → AreAside waits aside → Means w page → AreAside (waits ++ w ∷ []) aside
aside_same [] [] w page are means = ((page, means), refl)
aside_same [] (a ∷ aside) w page are means = absurd (cc)
aside_same (v ∷ waits) [] w page are means = (are.0, aside_same waits [] w page are.1 means)
aside_same (v ∷ waits) (a ∷ aside) w page (inl is) means = inl (is.0, aside_same waits (a ∷ aside) w page is.1 means)
aside_same (v ∷ waits) (a ∷ aside) w page (inr is) means = inr (is.0, is.1, aside_same waits aside w page is.2 means)

aside_more : (waits : List spool.PageValue) (aside : List Aside) (w : spool.PageValue) → AreAside waits aside → MeansNone w → AreAside (waits ++ w ∷ []) (aside ++ aside_of w ∷ [])
aside_more [] [] w are none = inr (none, refl, refl)
aside_more [] (a ∷ aside) w are none = absurd (cc)
aside_more (v ∷ waits) [] w are none = inl (are.0, aside_more waits [] w are.1 none)
aside_more (v ∷ waits) (a ∷ aside) w (inl is) none = inl (is.0, aside_more waits (a ∷ aside) w is.1 none)
aside_more (v ∷ waits) (a ∷ aside) w (inr is) none = inr (is.0, is.1, aside_more waits aside w is.2 none)

-- ---- the last one that waits

last_begins : (waits : List QueuedPage) (last : QueuedPage) (n : ℕ) (page : spool.PageValue) → n ≡ length waits - 1 → slice_get waits n ≡ Some last → begins waits page ≡ not (nat_eq last.life page.life && nat_eq last.call page.call)
last_begins [] last n page end at = cc
last_begins (w ∷ []) last zero page end at = let same : w ≡ last = cc in ap (λ (v : QueuedPage). not (nat_eq v.life page.life && nat_eq v.call page.call)) same
last_begins (w ∷ []) last (suc n) page end at = cc
last_begins (w ∷ v ∷ waits) last zero page end at = absurd (omega arith)
last_begins (w ∷ v ∷ waits) last (suc n) page end at = last_begins (v ∷ waits) last n page (omega arith) at

pub begins_so : (waits : List QueuedPage) (last : QueuedPage) (page : spool.PageValue) (b : Bool) → slice_get waits (length waits - 1) ≡ Some last → b ≡ not (nat_eq last.life page.life && nat_eq last.call page.call) → b ≡ begins waits page
begins_so waits last page b at is = is ∙ sym (last_begins waits last (length waits - 1) page refl at)

differ_life : (a b c d : ℕ) → a ≢ b → not (nat_eq a b) ≡ not (nat_eq a b && nat_eq c d)
differ_life a b c d h = grind (arith, nat_tests)

differ_call : (a b c d : ℕ) → a ≡ b → not (nat_eq c d) ≡ not (nat_eq a b && nat_eq c d)
differ_call a b c d h = grind (arith, nat_tests)

pub begins_in_life : (waits : List QueuedPage) (last : QueuedPage) (page : spool.PageValue) → slice_get waits (length waits - 1) ≡ Some last → last.life ≢ page.life → not (nat_eq last.life page.life) ≡ begins waits page
begins_in_life waits last page at h = begins_so waits last page _ at (differ_life last.life page.life last.call page.call h)

pub begins_in_call : (waits : List QueuedPage) (last : QueuedPage) (page : spool.PageValue) → slice_get waits (length waits - 1) ≡ Some last → last.life ≡ page.life → not (nat_eq last.call page.call) ≡ begins waits page
begins_in_call waits last page at h = begins_so waits last page _ at (differ_call last.life page.life last.call page.call h)

-- ---- what the code does

onto_after : (calls : List RestoredCall) (call : RestoredCall) (c : Confirmation) → onto_last c (calls ++ call ∷ []) ≡ calls ++ record { number = call.number; confirmed = call.confirmed ++ c ∷ [] } ∷ []
onto_after [] call c = refl
onto_after (x ∷ []) call c = refl
onto_after (x ∷ y ∷ calls) call c = ap (λ (l : List RestoredCall). x ∷ l) (onto_after (y ∷ calls) call c)

pub confirms : {S : Type 0} (before : List (shown.RestoredCall S)) (call more : shown.RestoredCall S) (confirmed : Confirmed S) (olds news : List (shown.RestoredCall S))
    → olds ≡ before ++ call ∷ [] → news ≡ before ++ more ∷ [] → more.number ≡ call.number → more.confirmed.items ≡ call.confirmed.items ++ confirmed ∷ []
    → map call_shown news ≡ onto_last (confirmation_shown confirmed) (map call_shown olds)
confirms {S} before call more confirmed olds news was is number items =
    let shown_more : call_shown more ≡ record { number = call.number; confirmed = map confirmation_shown call.confirmed.items ++ confirmation_shown confirmed ∷ [] } =
    ap (λ (n : ℕ). record { number = n; confirmed = map confirmation_shown more.confirmed.items }) number
    ∙ ap (λ (l : List Confirmation). record { number = call.number; confirmed = l }) (ap (λ (l : List (Confirmed S)). map confirmation_shown l) items ∙ map-append confirmation_shown call.confirmed.items (confirmed ∷ [])) in
    ap (λ (l : List (shown.RestoredCall S)). map call_shown l) is
    ∙ map-append call_shown before (more ∷ [])
    ∙ ap (λ (r : RestoredCall). map call_shown before ++ r ∷ []) shown_more
    ∙ sym (onto_after (map call_shown before) (call_shown call) (confirmation_shown confirmed))
    ∙ ap (λ (l : List RestoredCall). onto_last (confirmation_shown confirmed) l) (sym (map-append call_shown before (call ∷ [])) ∙ ap (λ (l : List (shown.RestoredCall S)). map call_shown l) (sym was))

-- what stands before its confirmation: its call where it begins one
pub is_begun : {S : Type 0} (b : Bool) (page : spool.PageValue) (olds news : List (shown.RestoredCall S)) (call : shown.RestoredCall S) → call_shown call ≡ begun page → news ≡ cond b (olds ++ call ∷ []) olds
    → map call_shown news ≡ with_begun b page (map call_shown olds)
is_begun {S} true page olds news call shows is =
    ap (λ (l : List (shown.RestoredCall S)). map call_shown l) is ∙ map-append call_shown olds (call ∷ []) ∙ ap (λ (r : RestoredCall). map call_shown olds ++ r ∷ []) shows
is_begun {S} false page olds news call shows is = ap (λ (l : List (shown.RestoredCall S)). map call_shown l) is

-- the tag of one more page's call
tags_more : (before : List QueuedPage) (read : List ReadPage) (r : ReadPage)
    → tags_after before (read ++ r ∷ []) ≡ tags_after before read ++ (if begins (before ++ map waiting_of read) r.waits then own_tag r.waits else [])
tags_more before [] r =
    append-nil (if begins before r.waits then own_tag r.waits else [])
    ∙ ap (λ (l : List QueuedPage). if begins l r.waits then own_tag r.waits else []) (sym (append-nil before))
tags_more before (x ∷ read) r =
    let first : List TagValue = if begins before x.waits then own_tag x.waits else [] in
    ap (λ (l : List TagValue). first ++ l) (tags_more (before ++ waiting_of x ∷ []) read r)
    ∙ sym (append_assoc first (tags_after (before ++ waiting_of x ∷ []) read) (if begins ((before ++ waiting_of x ∷ []) ++ map waiting_of read) r.waits then own_tag r.waits else []))
    ∙ ap (λ (l : List QueuedPage). (first ++ tags_after (before ++ waiting_of x ∷ []) read) ++ (if begins l r.waits then own_tag r.waits else [])) (append_assoc before (waiting_of x ∷ []) (map waiting_of read))

pub in_more : (line : List ℕ) (read : List ReadPage) (r : ReadPage) (old new : RestoredLine) (b : Bool) (between : List RestoredCall) → b ≡ begins old.queue.waits r.waits → between ≡ with_begun b r.waits (map call_shown old.calls.items)
    → map call_shown new.calls.items ≡ onto_last (confirmation_of r) between → new.queue.waits ≡ old.queue.waits ++ waiting_of r ∷ [] → new.queue.line ≡ old.queue.line → new.queue.tags ≡ old.queue.tags ++ (if b then own_tag r.waits else [])
    → (old.queue.is_whole ≡ true → AreInOrder (old.queue.waits ++ waiting_of r ∷ []) → new.queue.is_whole ≡ true) → AreIn line read old → AreIn line (read ++ r ∷ []) new
in_more line read r old new b between tells begun_is calls waits same tags stays are = record {
  named = same ∙ are.named;
  calls =
      calls
      ∙ ap (λ (l : List RestoredCall). onto_last (confirmation_of r) l) (begun_is ∙ ap (λ (t : Bool). with_begun t r.waits (map call_shown old.calls.items)) (tells ∙ ap (λ (l : List QueuedPage). begins l r.waits) are.waits) ∙ ap (λ (l : List RestoredCall). with_begun (begins (map waiting_of read) r.waits) r.waits l) are.calls)
      ∙ sym (calls_more read r);
  waits = waits ∙ ap (λ (l : List QueuedPage). l ++ waiting_of r ∷ []) are.waits ∙ sym (map-append waiting_of read (r ∷ []));
  whole = λ order.
      let all : AreInOrder (old.queue.waits ++ waiting_of r ∷ []) = subst (λ (l : List QueuedPage). AreInOrder l) waits order in
      stays (are.whole (in_order_front old.queue.waits (waiting_of r) all)) all;
  tags =
      tags
      ∙ ap (λ (l : List TagValue). l ++ (if b then own_tag r.waits else [])) are.tags
      ∙ ap (λ (t : Bool). tags_of read ++ (if t then own_tag r.waits else [])) (tells ∙ ap (λ (l : List QueuedPage). begins l r.waits) are.waits)
      ∙ sym (tags_more [] read r);
}

pub shows_begun : {S : Type 0} (call : shown.RestoredCall S) (page : spool.PageValue) → call.number ≡ page.call → call.confirmed.items ≡ [] → call_shown call ≡ begun page
shows_begun {S} call page number none =
    ap (λ (n : ℕ). record { number = n; confirmed = map confirmation_shown call.confirmed.items }) number
    ∙ ap (λ (l : List (Confirmed S)). record { number = page.call; confirmed = map confirmation_shown l }) none

-- ---- one more page of all that wait

own_one : (line : List ℕ) (w : spool.PageValue) (b : Bool) → bytes_eq w.line line ≡ b → own_pages line (w ∷ []) ≡ cond b (w ∷ []) []
own_one line w b is = ap (λ (t : Bool). cond t (w ∷ []) []) is

pub restores_more : (line : List ℕ) (pages : List spool.PageValue) (w : spool.PageValue) (page : PageValue) (old new : RestoredLine) → bytes_eq w.line line ≡ true → Means w page
    → ((name : List ℕ) (read : List ReadPage) → AreIn name read old → AreIn name (read ++ record { waits = w; page = page } ∷ []) new) → new.queue.aside ≡ old.queue.aside → Restores line pages old → Restores line (pages ++ w ∷ []) new
restores_more line pages w page old new is means more same was = record {
  read = was.read ++ record { waits = w; page = page } ∷ [];
  own = subst (λ (l : List spool.PageValue). AreRead l (was.read ++ record { waits = w; page = page } ∷ [])) (sym (own_more line pages w ∙ ap (λ (l : List spool.PageValue). own_pages line pages ++ l) (own_one line w true is)))
      (read_more (own_pages line pages) was.read w page was.own means);
  are = more line was.read was.are;
  aside = subst (λ (l : List spool.PageValue). AreAside l new.queue.aside) (sym (own_more line pages w ∙ ap (λ (l : List spool.PageValue). own_pages line pages ++ l) (own_one line w true is)))
      (subst (λ (l : List Aside). AreAside (own_pages line pages ++ w ∷ []) l) (sym same) (aside_same (own_pages line pages) old.queue.aside w page was.aside means));
}

pub restores_aside : (line : List ℕ) (pages : List spool.PageValue) (w : spool.PageValue) (old new : RestoredLine) → bytes_eq w.line line ≡ true → MeansNone w
    → map call_shown new.calls.items ≡ map call_shown old.calls.items → new.queue.line ≡ old.queue.line → new.queue.waits ≡ old.queue.waits → new.queue.is_whole ≡ old.queue.is_whole → new.queue.tags ≡ old.queue.tags → new.queue.aside ≡ old.queue.aside ++ aside_of w ∷ []
    → Restores line pages old → Restores line (pages ++ w ∷ []) new
restores_aside line pages w old new is none calls named waits whole tags aside was = record {
  read = was.read;
  own = subst (λ (l : List spool.PageValue). AreRead l was.read) (sym (own_more line pages w ∙ ap (λ (l : List spool.PageValue). own_pages line pages ++ l) (own_one line w true is)))
      (read_aside (own_pages line pages) was.read w was.own none);
  are = record {
    named = named ∙ was.are.named;
    calls = calls ∙ was.are.calls;
    waits = waits ∙ was.are.waits;
    whole = λ order. whole ∙ was.are.whole (subst (λ (l : List QueuedPage). AreInOrder l) waits order);
    tags = tags ∙ was.are.tags;
  };
  aside = subst (λ (l : List spool.PageValue). AreAside l new.queue.aside) (sym (own_more line pages w ∙ ap (λ (l : List spool.PageValue). own_pages line pages ++ l) (own_one line w true is)))
      (subst (λ (l : List Aside). AreAside (own_pages line pages ++ w ∷ []) l) (sym aside) (aside_more (own_pages line pages) old.queue.aside w was.aside none));
}

pub restores_other : (line : List ℕ) (pages : List spool.PageValue) (w : spool.PageValue) (old : RestoredLine) → bytes_eq w.line line ≡ false → Restores line pages old → Restores line (pages ++ w ∷ []) old
restores_other line pages w old is was = record {
  read = was.read;
  own = subst (λ (l : List spool.PageValue). AreRead l was.read) (sym (own_more line pages w ∙ ap (λ (l : List spool.PageValue). own_pages line pages ++ l) (own_one line w false is) ∙ append-nil (own_pages line pages))) was.own;
  are = was.are;
  aside = subst (λ (l : List spool.PageValue). AreAside l old.queue.aside) (sym (own_more line pages w ∙ ap (λ (l : List spool.PageValue). own_pages line pages ++ l) (own_one line w false is) ∙ append-nil (own_pages line pages))) was.aside;
}

-- ---- where an answer is an `Ok`

pub taken : {E : Type 0} (answer : Result (Unit {0}) E) (line : List ℕ) (w : spool.PageValue) (page : PageValue) (old new : RestoredLine) → bytes_eq w.line line ≡ true → Means w page
    → OnOk answer ((name : List ℕ) (read : List ReadPage) → AreIn name read old → AreIn name (read ++ record { waits = w; page = page } ∷ []) new)
    → OnOk answer (new.queue.aside ≡ old.queue.aside)
    → OnOk answer ((pages : List spool.PageValue) → Restores line pages old → Restores line (pages ++ w ∷ []) new)
taken (Ok u) line w page old new is means more same = λ pages was. restores_more line pages w page old new is means more same was
taken (Err e) line w page old new is means more same = tt

pub put_aside : {E : Type 0} (answer : Result (Unit {0}) E) (line : List ℕ) (w : spool.PageValue) (old new : RestoredLine) → bytes_eq w.line line ≡ true → MeansNone w
    → map call_shown new.calls.items ≡ map call_shown old.calls.items → new.queue.line ≡ old.queue.line → new.queue.waits ≡ old.queue.waits → new.queue.is_whole ≡ old.queue.is_whole → new.queue.tags ≡ old.queue.tags
    → OnOk answer (new.queue.aside ≡ old.queue.aside ++ aside_of w ∷ []) → OnOk answer ((pages : List spool.PageValue) → Restores line pages old → Restores line (pages ++ w ∷ []) new)
put_aside (Ok u) line w old new is none calls named waits whole tags aside = λ pages was. restores_aside line pages w old new is none calls named waits whole tags aside was
put_aside (Err e) line w old new is none calls named waits whole tags aside = tt

-- where no page waits there is no call
pub no_calls : (line : List ℕ) (pages : List spool.PageValue) (restored : RestoredLine) → Restores line pages restored → pages ≡ [] → map call_shown restored.calls.items ≡ []
no_calls line pages restored is none = is.are.calls ∙ ap (λ (l : List ReadPage). calls_of l) (subst (λ (l : List spool.PageValue). AreRead (own_pages line l) is.read) none is.own)

-- ---- the pages of calls that are torn are left out

whole_one : (torn : List CallName) (w : spool.PageValue) (b : Bool) → is_of_any torn w ≡ b → whole_pages torn (w ∷ []) ≡ cond (not b) (w ∷ []) []
whole_one torn w b is = ap (λ (t : Bool). cond (not t) (w ∷ []) []) is

whole_more : (torn : List CallName) (pages : List spool.PageValue) (n : ℕ) (w : spool.PageValue) (b : Bool) → n < length pages → get_or pages n w ≡ w → is_of_any torn w ≡ b
    → whole_pages torn (take (n + 1) pages) ≡ whole_pages torn (take n pages) ++ cond (not b) (w ∷ []) []
whole_more torn pages n w b low got is =
    ap (λ (l : List spool.PageValue). whole_pages torn l) (take_more pages n w low ∙ ap (λ (v : spool.PageValue). take n pages ++ v ∷ []) got)
    ∙ filter-append (λ (page : spool.PageValue). not (is_of_any torn page)) (take n pages) (w ∷ [])
    ∙ ap (λ (l : List spool.PageValue). whole_pages torn (take n pages) ++ l) (whole_one torn w b is)

-- one more page that is not of a torn call, and one that is
pub more_of_whole : (line : List ℕ) (torn : List CallName) (pages : List spool.PageValue) (n : ℕ) (w : spool.PageValue) (new : RestoredLine) → n < length pages → get_or pages n w ≡ w → is_of_any torn w ≡ false
    → Restores line (whole_pages torn (take n pages) ++ w ∷ []) new → Restores line (whole_pages torn (take (n + 1) pages)) new
more_of_whole line torn pages n w new low got is restores = subst (λ (l : List spool.PageValue). Restores line l new) (sym (whole_more torn pages n w false low got is)) restores

pub more_of_torn : (line : List ℕ) (torn : List CallName) (pages : List spool.PageValue) (n : ℕ) (w : spool.PageValue) (old : RestoredLine) → n < length pages → get_or pages n w ≡ w → is_of_any torn w ≡ true
    → Restores line (whole_pages torn (take n pages)) old → Restores line (whole_pages torn (take (n + 1) pages)) old
more_of_torn line torn pages n w old low got is restores =
    subst (λ (l : List spool.PageValue). Restores line l old) (sym (whole_more torn pages n w true low got is ∙ append-nil (whole_pages torn (take n pages)))) restores

-- ---- where each of a line's own pages is of a whole call

own_rest : (line : List ℕ) (torn : List CallName) (p : spool.PageValue) (pages : List spool.PageValue) (own : Bool) → bytes_eq p.line line ≡ own → NoneIsTorn line torn (p ∷ pages) → NoneIsTorn line torn pages
own_rest line torn p pages true own none =
    All-tail (λ page. is_of_any torn page ≡ false) p (own_pages line pages) (subst (λ (b : Bool). All (λ page. is_of_any torn page ≡ false) (cond b (p ∷ own_pages line pages) (own_pages line pages))) own none)
own_rest line torn p pages false own none = subst (λ (b : Bool). All (λ page. is_of_any torn page ≡ false) (cond b (p ∷ own_pages line pages) (own_pages line pages))) own none

own_first : (line : List ℕ) (torn : List CallName) (p : spool.PageValue) (pages : List spool.PageValue) → bytes_eq p.line line ≡ true → NoneIsTorn line torn (p ∷ pages) → is_of_any torn p ≡ false
own_first line torn p pages own none =
    All-head (λ page. is_of_any torn page ≡ false) p (own_pages line pages) (subst (λ (b : Bool). All (λ page. is_of_any torn page ≡ false) (cond b (p ∷ own_pages line pages) (own_pages line pages))) own none)

own_step : (line : List ℕ) (torn : List CallName) (p : spool.PageValue) (pages : List spool.PageValue) (own t : Bool) → bytes_eq p.line line ≡ own → is_of_any torn p ≡ t → (own ≡ true → t ≡ false)
    → own_pages line (whole_pages torn pages) ≡ own_pages line pages → own_pages line (whole_pages torn (p ∷ pages)) ≡ own_pages line (p ∷ pages)
own_step line torn p pages true true own is none rec = let no : true ≡ false = none refl in absurd (cc)
own_step line torn p pages true false own is none rec =
    ap (λ (b : Bool). own_pages line (cond (not b) (p ∷ whole_pages torn pages) (whole_pages torn pages))) is
    ∙ ap (λ (b : Bool). cond b (p ∷ own_pages line (whole_pages torn pages)) (own_pages line (whole_pages torn pages))) own
    ∙ ap (λ (l : List spool.PageValue). p ∷ l) rec
    ∙ sym (ap (λ (b : Bool). cond b (p ∷ own_pages line pages) (own_pages line pages)) own)
own_step line torn p pages false true own is none rec =
    ap (λ (b : Bool). own_pages line (cond (not b) (p ∷ whole_pages torn pages) (whole_pages torn pages))) is
    ∙ rec
    ∙ sym (ap (λ (b : Bool). cond b (p ∷ own_pages line pages) (own_pages line pages)) own)
own_step line torn p pages false false own is none rec =
    ap (λ (b : Bool). own_pages line (cond (not b) (p ∷ whole_pages torn pages) (whole_pages torn pages))) is
    ∙ ap (λ (b : Bool). cond b (p ∷ own_pages line (whole_pages torn pages)) (own_pages line (whole_pages torn pages))) own
    ∙ rec
    ∙ sym (ap (λ (b : Bool). cond b (p ∷ own_pages line pages) (own_pages line pages)) own)

own_whole : (line : List ℕ) (torn : List CallName) (pages : List spool.PageValue) → NoneIsTorn line torn pages → own_pages line (whole_pages torn pages) ≡ own_pages line pages
own_whole line torn [] none = refl
own_whole line torn (p ∷ pages) none =
    own_step line torn p pages (bytes_eq p.line line) (is_of_any torn p) refl refl (λ own. own_first line torn p pages own none) (own_whole line torn pages (own_rest line torn p pages (bytes_eq p.line line) refl none))

pub whole_lines_are_restored : WholeLinesAreRestored
whole_lines_are_restored line torn pages restored none restores =
    let same : own_pages line (whole_pages torn pages) ≡ own_pages line pages = own_whole line torn pages none in
    record {
      read = restores.read;
      own = subst (λ (l : List spool.PageValue). AreRead l restores.read) same restores.own;
      are = restores.are;
      aside = subst (λ (l : List spool.PageValue). AreAside l restored.queue.aside) same restores.aside;
    }
