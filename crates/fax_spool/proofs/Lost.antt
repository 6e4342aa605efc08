-- Pages that were lost tear their call.
use Rattle.std.proofs.Common.{◌≡◌, ◌⊎◌, inl, inr, ◌+◌, ◌<◌, Bool, true, false, not, ◌&&◌, ◌||◌, nat_eq, nat_lt, bytes_eq, List, [], ◌∷◌, ◌++◌, refl, sym, ◌∙◌, ap, subst, arith, append_assoc, if◌then◌else◌}
use Rattle.std.specs.List.{All, Contains, list_any}
use Rattle.std.proofs.lemmas.List.{append-nil}
use Rattle.std.proofs.lemmas.List.Elements.{All-cons, All-contains, All-nil}
use Rattle.std.proofs.lemmas.List.Folds.{list_any-append}
use Rattle.std.proofs.lemmas.Bool.{eq-eqb, eqb-true}
use Rattle.std.proofs.lemmas.Bool.Decides.{nat_tests}
use Rattle.std.proofs.lemmas.Slice.Eq.{bytes_eq-Decides}
use Rattle.fax_spool.specs.RecordOctets.{PageValue}
use Rattle.fax_spool.specs.Torn.{CallName, call_of, has_damage, is_damaged, is_next, is_of, is_of_any, is_previous, lacks_after, lacks_before, same_call, torn_among, torn_by, torn_calls}
use Rattle.fax_spool.specs.Harm.{AreOfOneJob, ArePutOnce, IsHarmed, StandInOrder, is_page, tell_page}
use Rattle.fax_spool.specs.declared.spool_record.SpoolRecord.{SpoolRecord}
use Rattle.fax_spool.specs.declared.spool_record.SpoolRecord.TheVariants.{Page, Ended, Epoch, Damaged}
use Rattle.fax_spool.proofs.TornCalls.{both_false, or_false, torn_append}

-- ---- tests

pub both_true : (a b : Bool) → (a && b) ≡ true → (a ≡ true) × (b ≡ true)
both_true true b yea = (refl, yea)
both_true false b yea = absurd (cc)

pub and_true : (a b : Bool) → a ≡ true → b ≡ true → (a && b) ≡ true
and_true a b p q = ap (λ (t : Bool). t && b) p ∙ q

pub or_right : (a b : Bool) → b ≡ true → (a || b) ≡ true
or_right true b yea = refl
or_right false b yea = yea

pub or_left : (a b : Bool) → a ≡ true → (a || b) ≡ true
or_left a b yea = ap (λ (t : Bool). t || b) yea

not_both : (b : Bool) → b ≡ true → b ≡ false → ⊥
not_both b yea nay = let bad : true ≡ false = sym yea ∙ nay in cc

untrue : (b : Bool) → (b ≡ true → ⊥) → b ≡ false
untrue true nay = absurd (nay refl)
untrue false nay = refl

-- where each element that passes one test passes another
none_of : (f g : SpoolRecord → Bool) → ((r : SpoolRecord) → f r ≡ true → g r ≡ true) → (l : List SpoolRecord) → list_any g l ≡ false → list_any f l ≡ false
none_of f g more [] none = refl
none_of f g more (r ∷ l) none =
    let parts = or_false (g r) (list_any g l) none in
    both_false (f r) (list_any f l) (untrue (f r) (λ yea. not_both (g r) (more r yea) parts.0)) (none_of f g more l parts.1)

-- ---- names

call_back : (a b : PageValue) → same_call a b ≡ true → call_of a ≡ call_of b
call_back a b yea =
    let first = both_true (nat_eq a.life b.life && nat_eq a.call b.call) (bytes_eq a.line b.line) yea in
    let numbers = both_true (nat_eq a.life b.life) (nat_eq a.call b.call) first.0 in
    built (eqb-true a.life b.life numbers.0) (eqb-true a.call b.call numbers.1) ((bytes_eq-Decides a.line b.line).0 first.1)
  where
    built : a.life ≡ b.life → a.call ≡ b.call → a.line ≡ b.line → call_of a ≡ call_of b
    built life call line = cc

call_so : (a b : PageValue) → call_of a ≡ call_of b → same_call a b ≡ true
call_so a b same =
    and_true (nat_eq a.life b.life && nat_eq a.call b.call) (bytes_eq a.line b.line)
    (and_true (nat_eq a.life b.life) (nat_eq a.call b.call) (eq-eqb a.life b.life (ap (λ (c : CallName). c.life) same)) (eq-eqb a.call b.call (ap (λ (c : CallName). c.call) same)))
    ((bytes_eq-Decides a.line b.line).1 (ap (λ (c : CallName). c.line) same))

page_so : (a b : PageValue) → call_of a ≡ call_of b → a.number ≡ b.number → is_page a (Page b) ≡ true
page_so a b call number = and_true (same_call a b) (nat_eq a.number b.number) (call_so a b call) (eq-eqb a.number b.number number)

page_back : (a b : PageValue) → is_page a (Page b) ≡ true → (call_of a ≡ call_of b) × (a.number ≡ b.number)
page_back a b yea = let parts = both_true (same_call a b) (nat_eq a.number b.number) yea in (call_back a b parts.0, eqb-true a.number b.number parts.1)

next_back : (a b : PageValue) → is_next a (Page b) ≡ true → (call_of a ≡ call_of b) × (b.number ≡ a.number + 1)
next_back a b yea = let parts = both_true (same_call a b) (nat_eq b.number (a.number + 1)) yea in (call_back a b parts.0, eqb-true b.number (a.number + 1) parts.1)

previous_back : (a b : PageValue) → is_previous a (Page b) ≡ true → (call_of a ≡ call_of b) × (a.number ≡ b.number + 1)
previous_back a b yea = let parts = both_true (same_call a b) (nat_eq a.number (b.number + 1)) yea in (call_back a b parts.0, eqb-true a.number (b.number + 1) parts.1)

is_itself : (page : PageValue) → is_page page (Page page) ≡ true
is_itself page = page_so page page refl refl

is_turned : (a b : PageValue) → is_page a (Page b) ≡ false → is_page b (Page a) ≡ false
is_turned a b nay = untrue (is_page b (Page a)) (λ yea. let parts = page_back b a yea in not_both (is_page a (Page b)) (page_so a b (sym parts.0) (sym parts.1)) nay)

-- the page after p is q
next_is : (p q : PageValue) → is_next p (Page q) ≡ true → (r : SpoolRecord) → is_next p r ≡ true → is_page q r ≡ true
next_is p q next (Page o) yea = let one = next_back p q next in let other = next_back p o yea in page_so q o (sym one.0 ∙ other.0) (one.1 ∙ sym other.1)
next_is p q next (Ended ended) yea = absurd (cc)
next_is p q next (Epoch number) yea = absurd (cc)
next_is p q next Damaged yea = absurd (cc)

previous_is : (p q : PageValue) → is_next p (Page q) ≡ true → (r : SpoolRecord) → is_previous q r ≡ true → is_page p r ≡ true
previous_is p q next (Page o) yea = let one = next_back p q next in let other = previous_back q o yea in page_so p o (one.0 ∙ other.0) (omega (arith, one.1, other.1))
previous_is p q next (Ended ended) yea = absurd (cc)
previous_is p q next (Epoch number) yea = absurd (cc)
previous_is p q next Damaged yea = absurd (cc)

-- ---- a page is put once

once_after : (before rest : List SpoolRecord) (page : PageValue) → ArePutOnce (before ++ Page page ∷ rest) → tell_page rest page ≡ false
once_after [] rest page once = once.0
once_after (Page other ∷ before) rest page once = once_after before rest page once.1
once_after (Ended ended ∷ before) rest page once = once_after before rest page once
once_after (Epoch number ∷ before) rest page once = once_after before rest page once
once_after (Damaged ∷ before) rest page once = once_after before rest page once

once_before : (before rest : List SpoolRecord) (page : PageValue) → ArePutOnce (before ++ Page page ∷ rest) → tell_page before page ≡ false
once_before [] rest page once = refl
once_before (Page other ∷ before) rest page once =
    let parts = or_false (tell_page before other) (is_page other (Page page) || tell_page rest other) (sym (list_any-append (is_page other) before (Page page ∷ rest)) ∙ once.0) in
    both_false (is_page page (Page other)) (tell_page before page) (is_turned other page (or_false (is_page other (Page page)) (tell_page rest other) parts.1).0) (once_before before rest page once.1)
once_before (Ended ended ∷ before) rest page once = once_before before rest page once
once_before (Epoch number ∷ before) rest page once = once_before before rest page once
once_before (Damaged ∷ before) rest page once = once_before before rest page once

-- harm adds no page
still_none : (f : SpoolRecord → Bool) → f Damaged ≡ false → (records found : List SpoolRecord) → IsHarmed records found → list_any f records ≡ false → list_any f found ≡ false
still_none f nay [] [] harmed none = refl
still_none f nay [] (x ∷ found) harmed none = absurd harmed
still_none f nay (r ∷ records) [] harmed none = absurd harmed
still_none f nay (r ∷ records) (x ∷ found) harmed none =
    let parts = or_false (f r) (list_any f records) none in
    both_false (f x) (list_any f found) (elim harmed.0 [ inl is ↦ ap f is ∙ parts.0 | inr is ↦ ap f is ∙ nay ]) (still_none f nay records found harmed.1 parts.1)

pub harmed_both : (a b c d : List SpoolRecord) → IsHarmed a b → IsHarmed c d → IsHarmed (a ++ c) (b ++ d)
harmed_both [] [] c d first second = second
harmed_both [] (x ∷ b) c d first second = absurd first
harmed_both (r ∷ a) [] c d first second = absurd first
harmed_both (r ∷ a) (x ∷ b) c d first second = (first.0, harmed_both a b c d first.1 second)

-- ---- where a page stands

record Placed (page : PageValue) (pages : List PageValue) (records found : List SpoolRecord) : Type 0 where
  before : List SpoolRecord
  rest : List SpoolRecord
  front : List SpoolRecord
  here : SpoolRecord
  after : List SpoolRecord
  split : records ≡ before ++ Page page ∷ rest
  others : StandInOrder pages rest
  found_split : found ≡ front ++ here ∷ after
  is : (here ≡ Page page) ⊎ (here ≡ Damaged)
  harmed_before : IsHarmed before front
  harmed_rest : IsHarmed rest after

placed : (page : PageValue) (pages : List PageValue) (records found : List SpoolRecord) → IsHarmed records found → StandInOrder (page ∷ pages) records → Placed page pages records found
placed page pages [] found harmed stand = absurd stand
placed page pages (r ∷ records) [] harmed stand = absurd harmed
placed page pages (r ∷ records) (x ∷ found) harmed (inl stand) = record {
  before = [];
  rest = records;
  front = [];
  here = x;
  after = found;
  split = ap (λ (k : SpoolRecord). k ∷ records) stand.0;
  others = stand.1;
  found_split = refl;
  is = elim harmed.0 [ inl same ↦ inl (same ∙ stand.0) | inr lost ↦ inr lost ];
  harmed_before = tt;
  harmed_rest = harmed.1;
}
placed page pages (r ∷ records) (x ∷ found) harmed (inr stand) =
    let p = placed page pages records found harmed.1 stand in record {
      before = r ∷ p.before;
      rest = p.rest;
      front = x ∷ p.front;
      here = p.here;
      after = p.after;
      split = ap (λ (l : List SpoolRecord). r ∷ l) p.split;
      others = p.others;
      found_split = ap (λ (l : List SpoolRecord). x ∷ l) p.found_split;
      is = p.is;
      harmed_before = (harmed.0, p.harmed_before);
      harmed_rest = p.harmed_rest;
    }

-- a call is named where a page lacks
named : (front after : List SpoolRecord) (page : PageValue) → (lacks_before front page || lacks_after page after) ≡ true → is_of_any (torn_calls (front ++ Page page ∷ after)) page ≡ true
named front after page lacks =
    let own : torn_by front (Page page) (after ++ []) ≡ call_of page ∷ [] =
    ap (λ (l : List SpoolRecord). torn_by front (Page page) l) (append-nil after) ∙ ap (λ (b : Bool). if b then call_of page ∷ [] else []) lacks in
    let mine : is_of page (call_of page) ≡ true = call_so page page refl in
    ap (λ (l : List CallName). is_of_any l page) (torn_append [] front (Page page ∷ after) [])
    ∙ list_any-append (is_of page) (torn_among [] front (Page page ∷ after ++ [])) (torn_among front (Page page ∷ after) [])
    ∙ or_right (is_of_any (torn_among [] front (Page page ∷ after ++ [])) page) (is_of_any (torn_among front (Page page ∷ after) []) page)
    (list_any-append (is_of page) (torn_by front (Page page) (after ++ [])) (torn_among (front ++ Page page ∷ []) after [])
    ∙ or_left (is_of_any (torn_by front (Page page) (after ++ [])) page) (is_of_any (torn_among (front ++ Page page ∷ []) after []) page)
    (ap (λ (l : List CallName). is_of_any l page) own ∙ or_left (is_of page (call_of page)) false mine))

damage_there : (front after : List SpoolRecord) → has_damage (front ++ Damaged ∷ after) ≡ true
damage_there front after = list_any-append is_damaged front (Damaged ∷ after) ∙ or_right (has_damage front) true refl

told_there : (front after : List SpoolRecord) (page : PageValue) → tell_page (front ++ Page page ∷ after) page ≡ true
told_there front after page =
    list_any-append (is_page page) front (Page page ∷ after)
    ∙ or_right (tell_page front page) (is_page page (Page page) || tell_page after page) (or_left (is_page page (Page page)) (tell_page after page) (is_itself page))

untold_there : (front after : List SpoolRecord) (page : PageValue) → tell_page front page ≡ false → tell_page after page ≡ false → tell_page (front ++ Damaged ∷ after) page ≡ false
untold_there front after page first second = list_any-append (is_page page) front (Damaged ∷ after) ∙ both_false (tell_page front page) (tell_page after page) first second

-- ---- two pages, one after the other

untold_parts : (front after : List SpoolRecord) (page : PageValue) (r : SpoolRecord) → tell_page (front ++ r ∷ after) page ≡ false → (tell_page front page ≡ false) × (is_page page r ≡ false) × (tell_page after page ≡ false)
untold_parts front after page r nay =
    let parts = or_false (tell_page front page) (is_page page r || tell_page after page) (sym (list_any-append (is_page page) front (r ∷ after)) ∙ nay) in
    let more = or_false (is_page page r) (tell_page after page) parts.1 in
    (parts.0, more.0, more.1)

-- the second one lacks
second_lost :
    (p q : PageValue) (front middle after : List SpoolRecord) → p.closes ≡ false → is_next p (Page q) ≡ true → tell_page (middle ++ Damaged ∷ after) q ≡ false
    → is_of_any (torn_calls (front ++ Page p ∷ (middle ++ Damaged ∷ after))) p ≡ true
second_lost p q front middle after open_job next lost =
    let rest = middle ++ Damaged ∷ after in
    let none : list_any (is_next p) rest ≡ false = none_of (is_next p) (is_page q) (next_is p q next) rest lost in
    named front rest p
    (or_right (lacks_before front p) (lacks_after p rest)
    (and_true (not p.closes) (not (list_any (is_next p) rest) && has_damage rest) (ap not open_job)
    (and_true (not (list_any (is_next p) rest)) (has_damage rest) (ap not none) (damage_there middle after))))

-- the first one lacks
first_lost :
    (p q : PageValue) (front middle after : List SpoolRecord) → 0 < p.number → is_next p (Page q) ≡ true → tell_page (front ++ Damaged ∷ middle) p ≡ false
    → is_of_any (torn_calls ((front ++ Damaged ∷ middle) ++ Page q ∷ after)) q ≡ true
first_lost p q front middle after some next lost =
    let before = front ++ Damaged ∷ middle in
    let none : list_any (is_previous q) before ≡ false = none_of (is_previous q) (is_page p) (previous_is p q next) before lost in
    let more : nat_lt 1 q.number ≡ true = grind (arith, nat_tests, some, (next_back p q next).1) in
    named before after q
    (or_left (lacks_before before q) (lacks_after q after)
    (and_true (nat_lt 1 q.number) (not (list_any (is_previous q) before) && has_damage before) more
    (and_true (not (list_any (is_previous q) before)) (has_damage before) (ap not none) (damage_there front middle))))

-- a page is of a call as far as its name goes
of_call : (calls : List CallName) (a b : PageValue) → call_of a ≡ call_of b → is_of_any calls a ≡ true → is_of_any calls b ≡ true
of_call calls a b same torn = subst (λ (c : CallName). list_any (λ (name : CallName). nat_eq name.life c.life && nat_eq name.call c.call && bytes_eq name.line c.line) calls ≡ true) same torn

module _ (records found : List SpoolRecord) (harmed : IsHarmed records found) (once : ArePutOnce records) where
  -- where p's record was harmed, p is not told
  untold : (page : PageValue) (pages : List PageValue) (at : Placed page pages records found) → at.here ≡ Damaged → tell_page found page ≡ false
  untold page pages at lost =
      let own : ArePutOnce (at.before ++ Page page ∷ at.rest) = subst ArePutOnce at.split once in
      ap (λ (l : List SpoolRecord). tell_page l page) (at.found_split ∙ ap (λ (k : SpoolRecord). at.front ++ k ∷ at.after) lost)
      ∙ untold_there at.front at.after page
      (still_none (is_page page) refl at.before at.front at.harmed_before (once_before at.before at.rest page own))
      (still_none (is_page page) refl at.rest at.after at.harmed_rest (once_after at.before at.rest page own))

  told : (page : PageValue) (pages : List PageValue) (at : Placed page pages records found) → at.here ≡ Page page → tell_page found page ≡ true
  told page pages at kept = ap (λ (l : List SpoolRecord). tell_page l page) (at.found_split ∙ ap (λ (k : SpoolRecord). at.front ++ k ∷ at.after) kept) ∙ told_there at.front at.after page

  -- the same of a page after another one
  abbrev second_at : (p q : PageValue) (pages : List PageValue) (at : Placed p (q ∷ pages) records found) (to : Placed q pages at.rest at.after) → Placed q pages records found
  second_at p q pages at to = record {
    before = at.before ++ Page p ∷ to.before;
    rest = to.rest;
    front = at.front ++ at.here ∷ to.front;
    here = to.here;
    after = to.after;
    split = at.split ∙ ap (λ (l : List SpoolRecord). at.before ++ Page p ∷ l) to.split ∙ sym (append_assoc at.before (Page p ∷ to.before) (Page q ∷ to.rest));
    others = to.others;
    found_split = at.found_split ∙ ap (λ (l : List SpoolRecord). at.front ++ at.here ∷ l) to.found_split ∙ sym (append_assoc at.front (at.here ∷ to.front) (to.here ∷ to.after));
    is = to.is;
    harmed_before = harmed_both at.before at.front (Page p ∷ to.before) (at.here ∷ to.front) at.harmed_before (at.is, to.harmed_before);
    harmed_rest = to.harmed_rest;
  }

  -- one of them is told, and the other one is not
  pair : (p q : PageValue) (pages : List PageValue) → StandInOrder (p ∷ q ∷ pages) records → 0 < p.number → p.closes ≡ false → is_next p (Page q) ≡ true
      → (tell_page found q ≡ tell_page found p) ⊎ (is_of_any (torn_calls found) p ≡ true)
  pair p q pages stand some open_job next =
      let at = placed p (q ∷ pages) records found harmed stand in
      let to = placed q pages at.rest at.after at.harmed_rest at.others in
      let there = second_at p q pages at to in
      let calls = (next_back p q next).0 in
      elim at.is [
        | inl kept ↦ elim to.is [
          | inl also ↦ inl (told q pages there also ∙ sym (told p (q ∷ pages) at kept))
          | inr lost ↦
              let is : found ≡ at.front ++ Page p ∷ (to.front ++ Damaged ∷ to.after) =
              at.found_split ∙ ap (λ (k : SpoolRecord). at.front ++ k ∷ at.after) kept ∙ ap (λ (l : List SpoolRecord). at.front ++ Page p ∷ l) (to.found_split ∙ ap (λ (k : SpoolRecord). to.front ++ k ∷ to.after) lost) in
              let none : tell_page (to.front ++ Damaged ∷ to.after) q ≡ false =
              (untold_parts at.front (to.front ++ Damaged ∷ to.after) q (Page p) (ap (λ (l : List SpoolRecord). tell_page l q) (sym is) ∙ untold q pages there lost)).2 in
              inr (ap (λ (l : List SpoolRecord). is_of_any (torn_calls l) p) is ∙ second_lost p q at.front to.front to.after open_job next none)
        ]
        | inr gone ↦ elim to.is [
          | inl kept ↦
              let is : found ≡ (at.front ++ Damaged ∷ to.front) ++ Page q ∷ to.after =
              there.found_split ∙ ap (λ (k : SpoolRecord). (at.front ++ at.here ∷ to.front) ++ k ∷ to.after) kept ∙ ap (λ (k : SpoolRecord). (at.front ++ k ∷ to.front) ++ Page q ∷ to.after) gone in
              let none : tell_page (at.front ++ Damaged ∷ to.front) p ≡ false =
              (untold_parts (at.front ++ Damaged ∷ to.front) to.after p (Page q) (ap (λ (l : List SpoolRecord). tell_page l p) (sym is) ∙ untold p (q ∷ pages) at gone)).0 in
              inr (of_call (torn_calls found) q p (sym calls) (ap (λ (l : List SpoolRecord). is_of_any (torn_calls l) q) is ∙ first_lost p q at.front to.front to.after some next none))
          | inr lost ↦ inl (untold q pages there lost ∙ sym (untold p (q ∷ pages) at gone))
        ]
      ]

  stand_after : (p : PageValue) (pages : List PageValue) (rest : List SpoolRecord) → StandInOrder (p ∷ pages) rest → StandInOrder pages rest
  stand_after p [] rest stand = tt
  stand_after p (q ∷ pages) [] stand = absurd stand
  stand_after p (q ∷ pages) (r ∷ rest) (inl stand) = inr stand.1
  stand_after p (q ∷ pages) (r ∷ rest) (inr stand) = inr (stand_after p (q ∷ pages) rest stand)

  -- each of them is told as the first one is
  abbrev IsAlike : PageValue → PageValue → Type 0
  IsAlike p r = (tell_page found r ≡ tell_page found p) × (call_of r ≡ call_of p)

  alike_after : (p q : PageValue) (pages : List PageValue) → IsAlike p q → All (IsAlike q) pages → All (IsAlike p) pages
  alike_after p q pages is all = λ k d lt. let it = all k d lt in (it.0 ∙ is.0, it.1 ∙ is.1)

  chase : (p : PageValue) (pages : List PageValue) → AreOfOneJob (p ∷ pages) → StandInOrder (p ∷ pages) records → All (IsAlike p) (p ∷ pages) ⊎ (is_of_any (torn_calls found) p ≡ true)
  chase p [] job stand = inl (All-cons (IsAlike p) p [] (refl, refl) (All-nil (IsAlike p)))
  chase p (q ∷ pages) job stand =
      let calls = (next_back p q job.2).0 in
      elim (pair p q pages stand job.0 job.1 job.2) [
        | inl same ↦ elim (chase q pages job.3 (stand_after p (q ∷ pages) records stand)) [
          | inl all ↦ inl (All-cons (IsAlike p) p (q ∷ pages) (refl, refl) (alike_after p q (q ∷ pages) (same, sym calls) all))
          | inr torn ↦ inr (of_call (torn_calls found) q p (sym calls) torn)
        ]
        | inr torn ↦ inr torn
      ]

  one_call : (p : PageValue) (pages : List PageValue) → AreOfOneJob (p ∷ pages) → All (λ (r : PageValue). call_of r ≡ call_of p) (p ∷ pages)
  one_call p [] job = All-cons (λ (r : PageValue). call_of r ≡ call_of p) p [] refl (All-nil (λ (r : PageValue). call_of r ≡ call_of p))
  one_call p (q ∷ pages) job =
      let calls = (next_back p q job.2).0 in
      let all = one_call q pages job.3 in
      All-cons (λ (r : PageValue). call_of r ≡ call_of p) p (q ∷ pages) refl (λ k d lt. all k d lt ∙ sym calls)

pub harmed_pages_tear_their_call :
    (records found : List SpoolRecord) (pages : List PageValue) (there lost : PageValue) → IsHarmed records found → ArePutOnce records → AreOfOneJob pages → StandInOrder pages records
    → Contains pages there → Contains pages lost → tell_page found there ≡ true → tell_page found lost ≡ false → is_of_any (torn_calls found) lost ≡ true
harmed_pages_tear_their_call records found [] there lost harmed once job stand some other kept gone = absurd (omega (arith, some.1))
harmed_pages_tear_their_call records found (p ∷ pages) there lost harmed once job stand some other kept gone =
    elim (chase records found harmed once p pages job stand) [
      | inl all ↦
          let one = All-contains (IsAlike records found harmed once p) (p ∷ pages) there all some in
          let two = All-contains (IsAlike records found harmed once p) (p ∷ pages) lost all other in
          absurd (not_both (tell_page found lost) (two.0 ∙ sym one.0 ∙ kept) gone)
      | inr torn ↦ of_call (torn_calls found) p lost (sym (All-contains (λ (r : PageValue). call_of r ≡ call_of p) (p ∷ pages) lost (one_call records found harmed once p pages job) other)) torn
    ]
