-- What a job's end names, of pages that are in the order in which they came.
use Rattle.std.proofs.Common.{◌≡◌, ◌∙◌, ℕ, zero, suc, ◌+◌, ◌^◌, ◌<◌, ◌≤◌, ◌⊎◌, inl, inr, Bool, true, false, not, cond, List, [], ◌∷◌, ◌++◌, length, take, drop, count_by, Option, None, Some, IfNone, IfSome, slice_get, refl, sym, ap, subst, ◌-◌, arith, bytes_eq}
use Rattle.std.proofs.Common.{length-drop}
use Rattle.std.proofs.Math.Seq.{take-length}
use Rattle.std.proofs.lemmas.Bool.Decides.{nat_tests}
use Rattle.std.proofs.lemmas.Slice.Eq.{bytes_eq-Decides}
use Rattle.fax_spool.specs.RecordOctets.{EndedValue}
use Rattle.fax_spool.specs.Waits.{PageName, ends}
use Rattle.fax_queue.specs.declared.queue.QueuedPage.{QueuedPage}
use Rattle.fax_queue.specs.declared.queue.EndedJob.{EndedJob}
use Rattle.fax_queue.specs.Queues.{AreAfter, AreInOrder, BeginsAt, IsAfter, IsFirstJob, NamesFirst, NamesLeft, left_by, name_in}

-- ---- one page

same_line : (line : List ℕ) → bytes_eq line line ≡ true
same_line line = (bytes_eq-Decides line line).1 refl

had : (life call first pages number : ℕ) (e : EndedValue) (line : List ℕ) → e.life ≡ life → e.call ≡ call → e.line ≡ line → e.first ≡ first → e.pages ≡ pages → first ≤ number → number < first + pages
    → ends e (record { life = life; call = call; number = number; line = line }) ≡ true
had life call first pages number e line a b c d f low high = let same = same_line line in rw (a, b, c, d, f) (grind (arith, nat_tests))

had_not : (e : EndedValue) (page : PageName) → (e.life ≡ page.life → e.call ≡ page.call → e.first + e.pages ≤ page.number) → ends e page ≡ false
had_not e page h = grind (arith, nat_tests)

-- a page after the first one of a job, up to its last one
own : (e : EndedValue) (line : List ℕ) (first page last : QueuedPage) → IsAfter page first → (page ≡ last) ⊎ IsAfter last page → first.life ≡ last.life → first.call ≡ last.call
    → e.life ≡ first.life → e.call ≡ first.call → e.line ≡ line → e.first ≡ first.number → e.first + e.pages ≡ last.number + 1 → ends e (name_in line page) ≡ true
own e line first page last after (inl is) life call a b c d end =
    let high : page.number ≡ last.number = ap (λ (w : QueuedPage). w.number) is in
    let l : page.life ≡ last.life = ap (λ (w : QueuedPage). w.life) is in
    let k : page.call ≡ last.call = ap (λ (w : QueuedPage). w.call) is in
    let low : first.number < page.number = grind arith in
    had page.life page.call e.first e.pages page.number e line (a ∙ life ∙ sym l) (b ∙ call ∙ sym k) c refl refl (omega arith) (omega arith)
own e line first page last after (inr before) life call a b c d end =
    let l : page.life ≡ first.life = grind arith in
    let k : page.call ≡ first.call = grind arith in
    let low : first.number < page.number = grind arith in
    let high : page.number < last.number = grind arith in
    had page.life page.call e.first e.pages page.number e line (a ∙ sym l) (b ∙ sym k) c refl refl (omega arith) (omega arith)

-- ---- many

after_at : (pages : List QueuedPage) (page last : QueuedPage) (n : ℕ) → AreAfter pages page → slice_get pages n ≡ Some last → IsAfter last page
after_at [] page last n are at = cc
after_at (other ∷ others) page last zero are at = let same : other ≡ last = cc in subst (λ (w : QueuedPage). IsAfter w page) same are.0
after_at (other ∷ others) page last (suc n) are at = after_at others page last n are.1 at

-- where each came after the last page of the job, none of them is named
left : (e : EndedValue) (line : List ℕ) (last : QueuedPage) (pages : List QueuedPage) → AreAfter pages last → e.life ≡ last.life → e.call ≡ last.call → e.first + e.pages ≡ last.number + 1 → left_by e line pages ≡ pages
left e line last [] are life call end = refl
left e line last (page ∷ pages) are life call end =
    let after : IsAfter page last = are.0 in
    let no : ends e (name_in line page) ≡ false = had_not e (name_in line page) (λ l k. grind arith) in
    subst (λ (b : Bool). cond (not b) (page ∷ left_by e line pages) (left_by e line pages) ≡ page ∷ pages) (sym no) (ap (λ (l : List QueuedPage). page ∷ l) (left e line last pages are.1 life call end))

-- those from after the first one up to the last one are named, and none after that
leaves : (e : EndedValue) (line : List ℕ) (first last : QueuedPage) (n : ℕ) (pages : List QueuedPage) → AreAfter pages first → AreInOrder pages → slice_get pages n ≡ Some last
    → first.life ≡ last.life → first.call ≡ last.call → e.life ≡ first.life → e.call ≡ first.call → e.line ≡ line → e.first ≡ first.number → e.first + e.pages ≡ last.number + 1
    → left_by e line pages ≡ drop (suc n) pages
leaves e line first last n [] are order at life call a b c d end = cc
leaves e line first last zero (page ∷ pages) are order at life call a b c d end =
    let same : page ≡ last = cc in
    let yes : ends e (name_in line page) ≡ true = own e line first page last are.0 (inl same) life call a b c d end in
    subst (λ (t : Bool). cond (not t) (page ∷ left_by e line pages) (left_by e line pages) ≡ pages) (sym yes)
    (left e line last pages (subst (λ (w : QueuedPage). AreAfter pages w) same order.0) (a ∙ life) (b ∙ call) end)
leaves e line first last (suc n) (page ∷ pages) are order at life call a b c d end =
    let yes : ends e (name_in line page) ≡ true = own e line first page last are.0 (inr (after_at pages page last n order.0 at)) life call a b c d end in
    subst (λ (t : Bool). cond (not t) (page ∷ left_by e line pages) (left_by e line pages) ≡ drop (suc n) pages) (sym yes)
    (leaves e line first last n pages are.1 order.1 at life call a b c d end)

there : (pages : List QueuedPage) (n : ℕ) (page : QueuedPage) → slice_get pages n ≡ Some page → suc n ≤ length pages
there [] n page at = cc
there (other ∷ pages) zero page at = omega arith
there (other ∷ pages) (suc n) page at = let low = there pages n page at in omega arith

-- the first page of the job, and those up to its last one
all_leave : (e : EndedValue) (line : List ℕ) (waits : List QueuedPage) (first last : QueuedPage) (n : ℕ) → AreInOrder waits → slice_get waits 0 ≡ Some first → slice_get waits n ≡ Some last
    → first.life ≡ last.life → first.call ≡ last.call → e.life ≡ first.life → e.call ≡ first.call → e.line ≡ line → e.first ≡ first.number → e.first + e.pages ≡ last.number + 1
    → first.number ≤ last.number → left_by e line waits ≡ drop (suc n) waits
all_leave e line [] first last n order begins at life call a b c d end low = cc
all_leave e line (page ∷ pages) first last zero order begins at life call a b c d end low =
    let is : page ≡ first = cc in
    let same : first ≡ last = cc in
    let l : page.life ≡ first.life = ap (λ (w : QueuedPage). w.life) is in
    let k : page.call ≡ first.call = ap (λ (w : QueuedPage). w.call) is in
    let m : page.number ≡ first.number = ap (λ (w : QueuedPage). w.number) is in
    let yes : ends e (name_in line page) ≡ true = had page.life page.call e.first e.pages page.number e line (a ∙ sym l) (b ∙ sym k) c refl refl (omega arith) (omega arith) in
    subst (λ (t : Bool). cond (not t) (page ∷ left_by e line pages) (left_by e line pages) ≡ pages) (sym yes)
    (left e line last pages (subst (λ (w : QueuedPage). AreAfter pages w) (is ∙ same) order.0) (a ∙ life) (b ∙ call) end)
all_leave e line (page ∷ pages) first last (suc n) order begins at life call a b c d end low =
    let is : page ≡ first = cc in
    let l : page.life ≡ first.life = ap (λ (w : QueuedPage). w.life) is in
    let k : page.call ≡ first.call = ap (λ (w : QueuedPage). w.call) is in
    let m : page.number ≡ first.number = ap (λ (w : QueuedPage). w.number) is in
    let yes : ends e (name_in line page) ≡ true = had page.life page.call e.first e.pages page.number e line (a ∙ sym l) (b ∙ sym k) c refl refl (omega arith) (omega arith) in
    subst (λ (t : Bool). cond (not t) (page ∷ left_by e line pages) (left_by e line pages) ≡ drop (suc n) pages) (sym yes)
    (leaves e line first last n pages (subst (λ (w : QueuedPage). AreAfter pages w) is order.0) order.1 at life call a b c d end)

pub names_first : (waits : List QueuedPage) (first last : QueuedPage) (n : ℕ) (ended : EndedJob) → AreInOrder waits → slice_get waits 0 ≡ Some first → slice_get waits n ≡ Some last
    → first.life ≡ last.life → first.call ≡ last.call → ended.life ≡ first.life → ended.call ≡ first.call → ended.first ≡ first.number → first.number ≤ last.number → ended.first + ended.pages ≡ last.number + 1
    → ended.stored ≡ count_by (λ page. page.is_stored) (take (suc n) waits) → NamesFirst (suc n) ended waits
names_first waits first last n ended order begins at life call a b d low end count = record {
  kept = count;
  as_many = there waits n last at;
  leaves = λ line e is. all_leave e line waits first last n order begins at life call (is.life ∙ a) (is.call ∙ b) is.line_is (is.first ∙ d) (let f : e.first ≡ ended.first = is.first in let p : e.pages ≡ ended.pages = is.pages in omega arith) low;
}

-- ---- those of a job that are left

had_not_before : (e : EndedValue) (page : PageName) → (e.life ≡ page.life → e.call ≡ page.call → page.number < e.first) → ends e page ≡ false
had_not_before e page h = grind (arith, nat_tests)

-- a record that begins with a page names none of those before it
before_left : (e : EndedValue) (line : List ℕ) (first : QueuedPage) (n : ℕ) (pages : List QueuedPage) → AreInOrder pages → slice_get pages n ≡ Some first → e.life ≡ first.life → e.call ≡ first.call → e.first ≡ first.number
    → left_by e line (take n pages) ≡ take n pages
before_left e line first zero pages order at life call low = refl
before_left e line first (suc n) [] order at life call low = refl
before_left e line first (suc n) (page ∷ pages) order at life call low =
    let after : IsAfter first page = after_at pages page first n order.0 at in
    let no : ends e (name_in line page) ≡ false = had_not_before e (name_in line page) (λ l k. grind arith) in
    subst (λ (b : Bool). cond (not b) (page ∷ left_by e line (take n pages)) (left_by e line (take n pages)) ≡ page ∷ take n pages) (sym no)
    (ap (λ (l : List QueuedPage). page ∷ l) (before_left e line first n pages order.1 at life call low))

first_of_drop : (n : ℕ) (pages : List QueuedPage) → slice_get (drop n pages) 0 ≡ slice_get pages n
first_of_drop zero pages = refl
first_of_drop (suc n) [] = refl
first_of_drop (suc n) (page ∷ pages) = first_of_drop n pages

names_left : (pages delivered : ℕ) (left : EndedJob) (waits : List QueuedPage) → AreInOrder waits → NamesFirst (pages - delivered) left (drop delivered waits) → BeginsAt left (drop delivered waits) → NamesLeft pages delivered left waits
names_left pages delivered left waits order names begins = record {
  names = names;
  before = λ line e is.
      before_left e line begins.first delivered waits order (sym (first_of_drop delivered waits) ∙ begins.is_first) (is.life ∙ begins.life) (is.call ∙ begins.call) (is.first ∙ begins.number);
}

-- the slice from a place on
pub rest_is : (n : ℕ) (slice waits : List QueuedPage) → slice ≡ waits → take (length slice - n) (drop n slice) ≡ drop n waits
rest_is n slice waits same = ap (λ (m : ℕ). take m (drop n slice)) (sym (length-drop n slice)) ∙ take-length (drop n slice) ∙ ap (λ (l : List QueuedPage). drop n l) same

pub if_names_left : (o : Option EndedJob) (pages delivered count : ℕ) (waits rest : List QueuedPage) → rest ≡ drop delivered waits → count ≡ pages - delivered → AreInOrder waits
    → IfSome o (λ ended. NamesFirst count ended rest) → IfSome o (λ ended. BeginsAt ended rest) → IfSome o (λ left. NamesLeft pages delivered left waits)
if_names_left None pages delivered count waits rest same counts order names begins = tt
if_names_left (Some e) pages delivered count waits rest same counts order names begins =
    names_left pages delivered e waits order (subst (λ (n : ℕ). NamesFirst n e (drop delivered waits)) counts (subst (λ (l : List QueuedPage). NamesFirst count e l) same names))
    (subst (λ (l : List QueuedPage). BeginsAt e l) same begins)

pub if_none_left : (o : Option EndedJob) (whole : Bool) (pages delivered count : ℕ) (waits rest : List QueuedPage) → rest ≡ drop delivered waits → count ≡ pages - delivered
    → IfNone o (¬ IsFirstJob count rest) → IfNone o ((whole ≡ false) ⊎ (¬ IsFirstJob (pages - delivered) (drop delivered waits)))
if_none_left None whole pages delivered count waits rest same counts none =
    inr (λ is. none (subst (λ (n : ℕ). IsFirstJob n rest) (sym counts) (subst (λ (l : List QueuedPage). IsFirstJob (pages - delivered) l) (sym same) is)))
if_none_left (Some e) whole pages delivered count waits rest same counts none = tt

-- none is first of no pages, and no job of none is
pub no_first : (count : ℕ) → IsFirstJob count [] → ⊥
no_first count is = let none = is.begins in cc

-- ---- the job that is first

same_page : (a b : QueuedPage) → Some a ≡ Some b → a ≡ b
same_page a b same = cc

-- the last page of one call came after the first
rises : (waits : List QueuedPage) (first last : QueuedPage) (n : ℕ) → AreInOrder waits → slice_get waits 0 ≡ Some first → slice_get waits n ≡ Some last → first.life ≡ last.life → first.call ≡ last.call → first.number ≤ last.number
rises [] first last n order begins at life call = cc
rises (page ∷ pages) first last zero order begins at life call = let same : first ≡ last = same_page first last (sym begins ∙ at) in let e : first.number ≡ last.number = ap (λ (w : QueuedPage). w.number) same in omega arith
rises (page ∷ pages) first last (suc n) order begins at life call =
    let same : page ≡ first = same_page page first begins in
    let after : IsAfter last first = subst (λ (w : QueuedPage). IsAfter last w) same (after_at pages page last n order.0 at) in
    let low : first.number < last.number = grind arith in omega arith

-- What a job that is first says of the pages that are there: none is lacking, they came in one call, and a record can count them.
pub record SaysOf (pages : ℕ) (first last : QueuedPage) : Type 0 where
  pub some : 0 < pages
  pub one_life : first.life ≡ last.life
  pub one_call : first.call ≡ last.call
  pub low : first.number ≤ last.number
  pub counted : last.number + 1 < first.number + 2 ^ 32

pub says_of : (pages : ℕ) (waits : List QueuedPage) (first last : QueuedPage) → AreInOrder waits → slice_get waits 0 ≡ Some first → slice_get waits (pages - 1) ≡ Some last → IsFirstJob pages waits → SaysOf pages first last
says_of pages waits first last order begins at is =
    let a : is.first ≡ first = same_page is.first first (sym is.begins ∙ begins) in
    let b : is.last ≡ last = same_page is.last last (sym is.ends ∙ at) in
    let life : first.life ≡ last.life = ap (λ (w : QueuedPage). w.life) (sym a) ∙ sym is.one_life ∙ ap (λ (w : QueuedPage). w.life) b in
    let call : first.call ≡ last.call = ap (λ (w : QueuedPage). w.call) (sym a) ∙ sym is.one_call ∙ ap (λ (w : QueuedPage). w.call) b in record {
      some = is.some;
      one_life = life;
      one_call = call;
      low = rises waits first last (pages - 1) order begins at life call;
      counted = subst (λ (w : QueuedPage). w.number + 1 < first.number + 2 ^ 32) b (subst (λ (w : QueuedPage). is.last.number + 1 < w.number + 2 ^ 32) a is.counted);
    }

-- ---- the order

after_too : (page other last : QueuedPage) → IsAfter page last → IsAfter last other → IsAfter page other
after_too page other last after before = grind arith

after_more : (pages : List QueuedPage) (other page : QueuedPage) → AreAfter pages other → IsAfter page other → AreAfter (pages ++ page ∷ []) other
after_more [] other page are is = (is, tt)
after_more (p ∷ pages) other page are is = (are.0, after_more pages other page are.1 is)

pub in_order_more : (pages : List QueuedPage) (last page : QueuedPage) (n : ℕ) → n ≡ length pages - 1 → slice_get pages n ≡ Some last → IsAfter page last → AreInOrder pages → AreInOrder (pages ++ page ∷ [])
in_order_more [] last page n end at is order = cc
in_order_more (p ∷ []) last page zero end at is order = let same : p ≡ last = cc in ((subst (λ (w : QueuedPage). IsAfter page w) (sym same) is, tt), order)
in_order_more (p ∷ []) last page (suc n) end at is order = cc
in_order_more (p ∷ q ∷ pages) last page zero end at is order = absurd (omega arith)
in_order_more (p ∷ q ∷ pages) last page (suc n) end at is order =
    (after_more (q ∷ pages) p page order.0 (after_too page p last is (after_at (q ∷ pages) p last n order.0 at)), in_order_more (q ∷ pages) last page n (omega arith) at is order.1)

front_after : (pages : List QueuedPage) (page other : QueuedPage) → AreAfter (pages ++ page ∷ []) other → AreAfter pages other
front_after [] page other are = tt
front_after (p ∷ pages) page other are = (are.0, front_after pages page other are.1)

-- those in front are in order too
pub in_order_front : (pages : List QueuedPage) (page : QueuedPage) → AreInOrder (pages ++ page ∷ []) → AreInOrder pages
in_order_front [] page order = tt
in_order_front (p ∷ pages) page order = (front_after pages page p order.0, in_order_front pages page order.1)

-- where they are in order the last one came after the one before it
last_after : (pages : List QueuedPage) (page last : QueuedPage) (n : ℕ) → n ≡ length pages - 1 → slice_get pages n ≡ Some last → AreInOrder (pages ++ page ∷ []) → IsAfter page last
last_after [] page last n end at order = cc
last_after (p ∷ []) page last zero end at order = let same : p ≡ last = cc in subst (λ (w : QueuedPage). IsAfter page w) same order.0.0
last_after (p ∷ []) page last (suc n) end at order = cc
last_after (p ∷ q ∷ pages) page last zero end at order = absurd (omega arith)
last_after (p ∷ q ∷ pages) page last (suc n) end at order = last_after (q ∷ pages) page last n (omega arith) at order.1

pub not_in_order : (pages : List QueuedPage) (page last : QueuedPage) (n : ℕ) → n ≡ length pages - 1 → slice_get pages n ≡ Some last → (IsAfter page last → ⊥) → AreInOrder (pages ++ page ∷ []) → ⊥
not_in_order pages page last n end at unlike order = unlike (last_after pages page last n end at order)

pub in_order_after : (n : ℕ) (pages : List QueuedPage) → AreInOrder pages → AreInOrder (drop n pages)
in_order_after zero pages order = order
in_order_after (suc n) [] order = order
in_order_after (suc n) (p ∷ pages) order = in_order_after n pages order.1
