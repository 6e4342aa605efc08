-- The pages of a call are listed by their numbers.
use Rattle.std.proofs.Common.{◌≡◌, ◌⊎◌, inl, inr, ℕ, ◌+◌, ◌-◌, ◌^◌, ◌<◌, ◌≤◌, Bool, true, false, not, ◌&&◌, ◌||◌, cond, nat_eq, nat_lt, nat_le, bytes_eq, List, [], ◌∷◌, ◌++◌, map, Option, Some, None, refl, sym, ◌∙◌, ap, subst, arith}
use Rattle.std.specs.List.{filter, list_any}
use Rattle.std.proofs.lemmas.List.{append-nil, map-append}
use Rattle.std.proofs.lemmas.Bool.{eq-eqb}
use Rattle.std.proofs.lemmas.Bool.Decides.{nat_tests}
use Rattle.std.proofs.lemmas.Slice.Eq.{bytes_eq-Decides}
use Rattle.fax_spool.specs.RecordOctets.{PageValue}
use Rattle.fax_spool.specs.Torn.{CallName, call_of}
use Rattle.fax_spool.specs.Waits as records
use Rattle.fax_spool.specs.Waits.{ended_by, ends}
use Rattle.fax_undelivered.specs.Cards.{CardValue, card_in, card_record}
use Rattle.fax_undelivered.specs.Calls.{CallValue, PagesAreListed, begun_by, calls_after, end_of, firsts_after, has_number, is_among, is_named, is_of, is_page, name_of, number_of, numbers_named, one_more, pages_end, pages_named, told_by, with_card, with_number, with_page}
use Rattle.fax_undelivered.specs.Dropped.{IsIn}
use Rattle.fax_undelivered.proofs.Listing.{begun, heard, name_of_it, not_begun, not_heard}
use Rattle.fax_undelivered.proofs.Dropping
use Rattle.fax_undelivered.proofs.Dropping.{ended_own, named_still}
use Rattle.fax_undelivered.proofs.PutAgain.{again_of_it, first_of_it, joined}

-- ---- which call a record is of

-- a call that is named so has that name
named_so : (name : CallName) (c : CallValue) → is_named name c ≡ true → name_of c ≡ name
named_so name c is = name_of_it c (card_record name [] []) is

bytes_itself : (xs : List ℕ) → bytes_eq xs xs ≡ true
bytes_itself xs = (bytes_eq-Decides xs xs).1 refl

all_three : (a b c : Bool) → a ≡ true → b ≡ true → c ≡ true → (a && b && c) ≡ true
all_three true true true p q r = refl
all_three true true false p q r = r
all_three true false c p q r = q
all_three false b c p q r = p

-- a record that a call has is of each call of its name
of_itself : (page : PageValue) → is_of (begun_by page) page ≡ true
of_itself page =
    all_three (nat_eq page.life page.life) (nat_eq page.call page.call) (bytes_eq page.line page.line) (eq-eqb page.life page.life refl) (eq-eqb page.call page.call refl) (bytes_itself page.line)

-- the record of another call than this one is not named as it is
not_own : (name : CallName) (page : PageValue) (c : CallValue) (b : Bool) → is_named name (begun_by page) ≡ b → is_named name c ≡ true → is_of c page ≡ false → b ≡ false
not_own name page c false own named other = refl
not_own name page c true own named other =
    let same : name_of c ≡ name_of (begun_by page) = named_so name c named ∙ sym (named_so name (begun_by page) own) in
    let is : is_of c page ≡ true = ap (λ (n : CallName). nat_eq n.life page.life && nat_eq n.call page.call && bytes_eq n.line page.line) same ∙ of_itself page in
    sym is ∙ other

-- ---- a page of the call

abbrev is_one : CallName → PageValue → Bool
is_one name page = is_named name (begun_by page) && is_page page

same_tests : (a b : Bool) → (a ≡ true → b ≡ true) → (b ≡ true → a ≡ true) → a ≡ b
same_tests true true p q = refl
same_tests true false p q = sym (p refl)
same_tests false true p q = q refl
same_tests false false p q = refl

ends_one : (name : CallName) (page : PageValue) → ends (pages_end name) (records.name_of page) ≡ is_one name page
ends_one name page =
    let to : bytes_eq name.line page.line ≡ true → bytes_eq page.line name.line ≡ true = λ so. (bytes_eq-Decides page.line name.line).1 (sym ((bytes_eq-Decides name.line page.line).0 so)) in
    let from : bytes_eq page.line name.line ≡ true → bytes_eq name.line page.line ≡ true = λ so. (bytes_eq-Decides name.line page.line).1 (sym ((bytes_eq-Decides page.line name.line).0 so)) in
    same_tests (ends (pages_end name) (records.name_of page)) (is_one name page) (λ is. grind (arith, nat_tests, to)) (λ is. grind (arith, nat_tests, from))

-- ---- the numbers that are listed of it

named_head : (name : CallName) (c : CallValue) (calls : List CallValue) → is_named name c ≡ true → numbers_named name (c ∷ calls) ≡ c.numbers
named_head name c calls is = subst (λ (b : Bool). cond b c.numbers (numbers_named name calls) ≡ c.numbers) (sym is) refl

other_head : (name : CallName) (c : CallValue) (calls : List CallValue) → is_named name c ≡ false → numbers_named name (c ∷ calls) ≡ numbers_named name calls
other_head name c calls un = subst (λ (b : Bool). cond b c.numbers (numbers_named name calls) ≡ numbers_named name calls) (sym un) refl

-- one number more, where it is not there
abbrev with_one : ℕ → List ℕ → List ℕ
with_one number numbers = cond (is_among number numbers) numbers (numbers ++ number ∷ [])

carded : (o : Option CardValue) (c : CallValue) → (with_card o c).numbers ≡ c.numbers
carded None c = refl
carded (Some card) c = refl

numbered : (number : ℕ) (c : CallValue) (m : Bool) → (cond m c (one_more number c)).numbers ≡ cond m c.numbers (c.numbers ++ number ∷ [])
numbered number c true = refl
numbered number c false = refl

numbers_with : (page : PageValue) (c : CallValue) (o p : Bool) → (o ≡ true → p ≡ false)
    → (cond o (with_card (card_in page.text) c) (cond p (with_number page.number c) c)).numbers ≡ cond p (with_one page.number c.numbers) c.numbers
numbers_with page c true true none = let wrong : true ≡ false = none refl in absurd (cc)
numbers_with page c true false none = carded (card_in page.text) c
numbers_with page c false true none = numbered page.number c (is_among page.number c.numbers)
numbers_with page c false false none = refl

told_numbers : (page : PageValue) (c : CallValue) → (told_by page c).numbers ≡ cond (is_page page) (with_one page.number c.numbers) c.numbers
told_numbers page c = numbers_with page c (nat_eq page.number 0) (is_page page) (λ none. no_page none)
  where
    no_page : nat_eq page.number 0 ≡ true → is_page page ≡ false
    no_page none = grind (arith, nat_tests)

-- what a record makes of them
abbrev stepped : CallName → PageValue → List ℕ → List ℕ
stepped name page numbers = cond (is_one name page) (with_one page.number numbers) numbers

-- of no call before, or of another one
none_of_it : (w : Bool) (l r : List ℕ) → cond (w && false) l r ≡ r
none_of_it true l r = refl
none_of_it false l r = refl

own_first : (number : ℕ) (w : Bool) → cond w (number ∷ []) [] ≡ cond (w && true) (number ∷ []) []
own_first number true = refl
own_first number false = refl

module _ (name : CallName) (page : PageValue) where
  first_step : (p : Bool) → is_page page ≡ p → numbers_named name (with_page page []) ≡ stepped name page []
  first_step true so =
      ap (λ (l : List CallValue). numbers_named name l) (begun page so) ∙ own_first page.number (is_named name (begun_by page))
      ∙ ap (λ (b : Bool). cond (is_named name (begun_by page) && b) (page.number ∷ []) []) (sym so)
  first_step false un =
      ap (λ (l : List CallValue). numbers_named name l) (not_begun page un)
      ∙ sym (ap (λ (b : Bool). cond (is_named name (begun_by page) && b) (page.number ∷ []) []) un ∙ none_of_it (is_named name (begun_by page)) (page.number ∷ []) [])

  own_step : (w : Bool) (numbers : List ℕ) → is_named name (begun_by page) ≡ w → cond (w && is_page page) (with_one page.number numbers) numbers ≡ stepped name page numbers
  own_step w numbers own = ap (λ (b : Bool). cond (b && is_page page) (with_one page.number numbers) numbers) (sym own)

  heard_step : (c : CallValue) (calls : List CallValue) (w : Bool) → is_of c page ≡ true → is_named name c ≡ w → numbers_named name (with_page page (c ∷ calls)) ≡ stepped name page (numbers_named name (c ∷ calls))
  heard_step c calls true so named =
      let own : is_named name (begun_by page) ≡ true = sym (Dropping.name_of_it name c page so) ∙ named in
      ap (λ (l : List CallValue). numbers_named name l) (heard page c calls so)
      ∙ named_head name (told_by page c) calls (named_still name page c ∙ named)
      ∙ told_numbers page c
      ∙ own_step true c.numbers own
      ∙ ap (λ (l : List ℕ). stepped name page l) (sym (named_head name c calls named))
  heard_step c calls false so named =
      let own : is_named name (begun_by page) ≡ false = sym (Dropping.name_of_it name c page so) ∙ named in
      ap (λ (l : List CallValue). numbers_named name l) (heard page c calls so)
      ∙ other_head name (told_by page c) calls (named_still name page c ∙ named)
      ∙ sym (other_head name c calls named)
      ∙ own_step false (numbers_named name (c ∷ calls)) own

  unheard_step : (c : CallValue) (calls : List CallValue) (w : Bool) → is_of c page ≡ false → is_named name c ≡ w → numbers_named name (with_page page calls) ≡ stepped name page (numbers_named name calls)
      → numbers_named name (with_page page (c ∷ calls)) ≡ stepped name page (numbers_named name (c ∷ calls))
  unheard_step c calls true un named rest =
      ap (λ (l : List CallValue). numbers_named name l) (not_heard page c calls un)
      ∙ named_head name c (with_page page calls) named
      ∙ own_step false c.numbers (not_own name page c (is_named name (begun_by page)) refl named un)
      ∙ ap (λ (l : List ℕ). stepped name page l) (sym (named_head name c calls named))
  unheard_step c calls false un named rest =
      ap (λ (l : List CallValue). numbers_named name l) (not_heard page c calls un)
      ∙ other_head name c (with_page page calls) named
      ∙ rest
      ∙ ap (λ (l : List ℕ). stepped name page l) (sym (other_head name c calls named))

  next_step : (c : CallValue) (calls : List CallValue) (b : Bool) → is_of c page ≡ b → numbers_named name (with_page page calls) ≡ stepped name page (numbers_named name calls)
      → numbers_named name (with_page page (c ∷ calls)) ≡ stepped name page (numbers_named name (c ∷ calls))
  next_step c calls true so rest = heard_step c calls (is_named name c) so refl
  next_step c calls false un rest = unheard_step c calls (is_named name c) un refl rest

  one_step : (calls : List CallValue) → numbers_named name (with_page page calls) ≡ stepped name page (numbers_named name calls)
  one_step [] = first_step (is_page page) refl
  one_step (c ∷ calls) = next_step c calls (is_of c page) refl (one_step calls)

-- ---- all records

any_mapped : (number : ℕ) (pages : List PageValue) → is_among number (map number_of pages) ≡ list_any (has_number number) pages
any_mapped number [] = refl
any_mapped number (p ∷ pages) = ap (λ (b : Bool). nat_eq p.number number || b) (any_mapped number pages)

ended_too : (name : CallName) (page : PageValue) (pages : List PageValue) → is_one name page ≡ true → ended_by (pages_end name) (page ∷ pages) ≡ page ∷ ended_by (pages_end name) pages
ended_too name page pages is =
    subst (λ (b : Bool). cond b (page ∷ ended_by (pages_end name) pages) (ended_by (pages_end name) pages) ≡ page ∷ ended_by (pages_end name) pages) (sym (ends_one name page ∙ is)) refl

not_ended : (name : CallName) (page : PageValue) (pages : List PageValue) → is_one name page ≡ false → ended_by (pages_end name) (page ∷ pages) ≡ ended_by (pages_end name) pages
not_ended name page pages un =
    subst (λ (b : Bool). cond b (page ∷ ended_by (pages_end name) pages) (ended_by (pages_end name) pages) ≡ ended_by (pages_end name) pages) (sym (ends_one name page ∙ un)) refl

one_so : (name : CallName) (page : PageValue) (numbers : List ℕ) (b : Bool) → is_one name page ≡ b → stepped name page numbers ≡ cond b (with_one page.number numbers) numbers
one_so name page numbers b is = ap (λ (t : Bool). cond t (with_one page.number numbers) numbers) is

among_so : (number : ℕ) (numbers : List ℕ) (b : Bool) → is_among number numbers ≡ b → with_one number numbers ≡ cond b numbers (numbers ++ number ∷ [])
among_so number numbers b is = ap (λ (t : Bool). cond t numbers (numbers ++ number ∷ [])) is

-- those of the first pages of it, where others were before
abbrev Listed : CallName → (calls : List CallValue) → (waits before : List PageValue) → Type 0
Listed name calls waits before = numbers_named name calls ≡ map number_of (before ++ firsts_after before (ended_by (pages_end name) waits))

listed_so : (name : CallName) (waits before all : List PageValue) (calls : List CallValue) → all ≡ firsts_after before (ended_by (pages_end name) waits) → numbers_named name calls ≡ map number_of (before ++ all) → Listed name calls waits before
listed_so name waits before all calls same is = is ∙ ap (λ (l : List PageValue). map number_of (before ++ l)) same

-- and so with one record more before them
module _ (name : CallName) (page : PageValue) (waits : List PageValue) (calls : List CallValue) (before : List PageValue) (there : numbers_named name (with_page page calls) ≡ stepped name page (map number_of before))
    (later : (calls : List CallValue) (before : List PageValue) → numbers_named name calls ≡ map number_of before → Listed name (calls_after calls waits) waits before) where
  with_next : (b m : Bool) → is_one name page ≡ b → list_any (has_number page.number) before ≡ m → Listed name (calls_after (with_page page calls) waits) (page ∷ waits) before
  with_next false m un has =
      listed_so name (page ∷ waits) before (firsts_after before (ended_by (pages_end name) waits)) (calls_after (with_page page calls) waits)
      (ap (λ (l : List PageValue). firsts_after before l) (sym (not_ended name page waits un)))
      (later (with_page page calls) before (there ∙ one_so name page (map number_of before) false un))
  with_next true true is has =
      listed_so name (page ∷ waits) before (firsts_after before (ended_by (pages_end name) waits)) (calls_after (with_page page calls) waits)
      (sym (ap (λ (l : List PageValue). firsts_after before l) (ended_too name page waits is) ∙ again_of_it before page (ended_by (pages_end name) waits) has))
      (later (with_page page calls) before (there ∙ one_so name page (map number_of before) true is ∙ among_so page.number (map number_of before) true (any_mapped page.number before ∙ has)))
  with_next true false is has =
      listed_so name (page ∷ waits) before (page ∷ firsts_after (before ++ page ∷ []) (ended_by (pages_end name) waits)) (calls_after (with_page page calls) waits)
      (sym (ap (λ (l : List PageValue). firsts_after before l) (ended_too name page waits is) ∙ first_of_it before page (ended_by (pages_end name) waits) has))
      (later (with_page page calls) (before ++ page ∷ [])
      (there ∙ one_so name page (map number_of before) true is ∙ among_so page.number (map number_of before) false (any_mapped page.number before ∙ has) ∙ sym (map-append number_of before (page ∷ [])))
      ∙ ap (λ (l : List PageValue). map number_of l) (joined before page (firsts_after (before ++ page ∷ []) (ended_by (pages_end name) waits))))

along : (name : CallName) (waits : List PageValue) (calls : List CallValue) (before : List PageValue) → numbers_named name calls ≡ map number_of before → Listed name (calls_after calls waits) waits before
along name [] calls before same = same ∙ ap (λ (l : List PageValue). map number_of l) (sym (append-nil before))
along name (page ∷ waits) calls before same =
    with_next name page waits calls before (one_step name page calls ∙ ap (λ (l : List ℕ). stepped name page l) same) (along name waits) (is_one name page) (list_any (has_number page.number) before) refl refl

pub pages_are_listed : PagesAreListed
pages_are_listed name waits = along name waits [] [] refl

-- ---- each page of a call has one of the numbers

or_left : (a b : Bool) → a ≡ true → (a || b) ≡ true
or_left true b is = refl
or_left false b is = absurd (cc)

or_right : (a b : Bool) → b ≡ true → (a || b) ≡ true
or_right true b is = refl
or_right false b is = is

or_goes : (a b c : Bool) → (b ≡ true → c ≡ true) → (a || b) ≡ true → (a || c) ≡ true
or_goes true b c goes is = refl
or_goes false b c goes is = goes is

any_front : (number : ℕ) (a b : List PageValue) → list_any (has_number number) a ≡ true → list_any (has_number number) (a ++ b) ≡ true
any_front number [] b is = absurd (cc)
any_front number (p ∷ a) b is = or_goes (has_number number p) (list_any (has_number number) a) (list_any (has_number number) (a ++ b)) (λ so. any_front number a b so) is

any_at : (number : ℕ) (a : List PageValue) (p : PageValue) (b : List PageValue) → has_number number p ≡ true → list_any (has_number number) (a ++ p ∷ b) ≡ true
any_at number [] p b is = or_left (has_number number p) (list_any (has_number number) b) is
any_at number (q ∷ a) p b is = or_right (has_number number q) (list_any (has_number number) (a ++ p ∷ b)) (any_at number a p b is)

has_own : (p page : PageValue) → p ≡ page → has_number page.number p ≡ true
has_own p page same = eq-eqb p.number page.number (ap (λ (x : PageValue). x.number) same)

-- one of these and of those still to come
module _ (page p : PageValue) (pages before : List PageValue) (later : (before : List PageValue) → IsIn page pages → list_any (has_number page.number) (before ++ firsts_after before pages) ≡ true) where
  one_of : (m : Bool) → list_any (has_number p.number) before ≡ m → IsIn page (p ∷ pages) → list_any (has_number page.number) (before ++ firsts_after before (p ∷ pages)) ≡ true
  one_of true has (inl same) = any_front page.number before (firsts_after before (p ∷ pages)) (subst (λ (x : PageValue). list_any (has_number x.number) before ≡ true) same has)
  one_of true has (inr is) = subst (λ (l : List PageValue). list_any (has_number page.number) (before ++ l) ≡ true) (sym (again_of_it before p pages has)) (later before is)
  one_of false has (inl same) =
      subst (λ (l : List PageValue). list_any (has_number page.number) (before ++ l) ≡ true) (sym (first_of_it before p pages has))
      (any_at page.number before p (firsts_after (before ++ p ∷ []) pages) (has_own p page same))
  one_of false has (inr is) =
      subst (λ (l : List PageValue). list_any (has_number page.number) (before ++ l) ≡ true) (sym (first_of_it before p pages has))
      (subst (λ (l : List PageValue). list_any (has_number page.number) l ≡ true) (joined before p (firsts_after (before ++ p ∷ []) pages)) (later (before ++ p ∷ []) is))

one_of_firsts : (page : PageValue) (pages before : List PageValue) → IsIn page pages → list_any (has_number page.number) (before ++ firsts_after before pages) ≡ true
one_of_firsts page [] before is = absurd is
one_of_firsts page (p ∷ pages) before is = one_of page p pages before (one_of_firsts page pages) (list_any (has_number p.number) before) refl is

kept_here : (test : PageValue → Bool) (p page : PageValue) (pages : List PageValue) (b : Bool) → test p ≡ b → test page ≡ true → p ≡ page → IsIn page (cond b (p ∷ filter test pages) (filter test pages))
kept_here test p page pages true is so same = inl same
kept_here test p page pages false is so same = let wrong : true ≡ false = sym so ∙ sym (ap test same) ∙ is in absurd (cc)

kept_there : (test : PageValue → Bool) (p page : PageValue) (pages : List PageValue) (b : Bool) → IsIn page (filter test pages) → IsIn page (cond b (p ∷ filter test pages) (filter test pages))
kept_there test p page pages true is = inr is
kept_there test p page pages false is = is

pub in_filter : (test : PageValue → Bool) (page : PageValue) (pages : List PageValue) → test page ≡ true → IsIn page pages → IsIn page (filter test pages)
in_filter test page [] so is = absurd is
in_filter test page (p ∷ pages) so (inl same) = kept_here test p page pages (test p) refl so same
in_filter test page (p ∷ pages) so (inr is) = kept_there test p page pages (test p) (in_filter test page pages so is)

pub each_is_listed : (name : CallName) (waits : List PageValue) (page : PageValue) → IsIn page waits → ends (pages_end name) (records.name_of page) ≡ true → is_among page.number (map number_of (pages_named name waits)) ≡ true
each_is_listed name waits page is so =
    any_mapped page.number (pages_named name waits) ∙ one_of_firsts page (ended_by (pages_end name) waits) [] (in_filter (λ p. ends (pages_end name) (records.name_of p)) page waits so is)

-- ---- what the end of all of a call has

-- a record of it is of that call
pub ended_is_of : (name : CallName) (page : PageValue) → ends (end_of name) (records.name_of page) ≡ true → call_of page ≡ name
ended_is_of name page is = named_so name (begun_by page) (ended_own name page is)

-- and, but for cards, a page
pub ended_page : (name : CallName) (page : PageValue) → ends (end_of name) (records.name_of page) ≡ true → 0 < page.number → ends (pages_end name) (records.name_of page) ≡ true
ended_page name page is some = grind (arith, nat_tests)
