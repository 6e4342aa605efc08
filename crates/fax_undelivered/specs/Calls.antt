-- The calls of which pages wait that could not be delivered, by the records of pages and cards. Lists have the oldest first. (This project's
-- profile.)
use Rattle.std.specs.Prelude.{◌≡◌, ℕ, ◌+◌, ◌-◌, ◌^◌, min, Bool, true, false, not, ◌&&◌, nat_eq, nat_lt, bytes_eq, List, [], ◌∷◌, ◌++◌, Option, Some, None, MatchOption, slice_get, map, take, if◌then◌else◌}
use Rattle.std.specs.List.{filter, list_any}
use Rattle.fax_jobs.specs.declared.outcome.Outcome.TheVariants.{NotPlaced}
use Rattle.fax_spool.specs.RecordOctets.{EndedValue, PageValue}
use Rattle.fax_spool.specs.Torn.{CallName, call_of}
use Rattle.fax_spool.specs.Waits.{ended_by}
use Rattle.fax_undelivered.specs.Cards.{CardValue, card_format, card_in, card_octets, card_record, unknown}

-- which call, the tag that it had, how many of its pages wait, under which numbers, and its card
pub record CallValue : Type 0 where
  pub line : List ℕ
  pub life : ℕ
  pub call : ℕ
  pub tag : List ℕ
  pub pages : ℕ
  pub numbers : List ℕ
  pub card : CardValue

-- the record is of this call
abbrev pub is_of : CallValue → PageValue → Bool
is_of call page =
    nat_eq call.life page.life && nat_eq call.call page.call && bytes_eq call.line page.line

abbrev pub is_named : CallName → CallValue → Bool
is_named name call =
    nat_eq call.life name.life && nat_eq call.call name.call && bytes_eq call.line name.line

-- The pages of a call have the numbers from 1 on; 0 is that of a card, and 2 ^ 32 - 1 of none.
abbrev pub is_page : PageValue → Bool
is_page page = nat_lt 0 page.number && nat_lt page.number (2 ^ 32 - 1)

-- one page more of a call
abbrev pub one_more : (number : ℕ) → CallValue → CallValue
one_more number call = record {
  line = call.line;
  life = call.life;
  call = call.call;
  tag = call.tag;
  pages = min (call.pages + 1) (2 ^ 32 - 1);
  numbers = call.numbers ++ number ∷ [];
  card = call.card;
}

-- it is one of these numbers
abbrev pub is_among : (number : ℕ) → (numbers : List ℕ) → Bool
is_among number numbers = list_any (λ n. nat_eq n number) numbers

-- A PAGE THAT IS PUT AGAIN COUNTS ONCE: a job whose end was not noted before a crash is sent again, and where it fails again its pages are put
-- under their numbers once more.
abbrev pub with_number : (number : ℕ) → CallValue → CallValue
with_number number call = if is_among number call.numbers then call else one_more number call

-- another card, where it can be read
abbrev pub with_card : Option CardValue → CallValue → CallValue
with_card None call = call
with_card (Some card) call = record {
  line = call.line;
  life = call.life;
  call = call.call;
  tag = call.tag;
  pages = call.pages;
  numbers = call.numbers;
  card = card;
}

-- one record more of it
abbrev pub told_by : PageValue → CallValue → CallValue
told_by page call = if nat_eq page.number 0 then with_card (card_in page.text) call
    else (if is_page page then with_number page.number call else call)

-- a call of which this is the first page
abbrev pub begun_by : PageValue → CallValue
begun_by page = record {
  line = page.line;
  life = page.life;
  call = page.call;
  tag = page.tag;
  pages = 1;
  numbers = page.number ∷ [];
  card = unknown;
}

-- A call is listed from its first page on; of its cards the last one counts, and one before its first page is none.
abbrev pub with_page : PageValue → List CallValue → List CallValue
with_page page [] = if is_page page then begun_by page ∷ [] else []
with_page page (call ∷ calls) =
    if is_of call page then told_by page call ∷ calls else call ∷ with_page page calls

abbrev pub calls_after : List CallValue → List PageValue → List CallValue
calls_after calls [] = calls
calls_after calls (page ∷ pages) = calls_after (with_page page calls) pages

-- THE CALLS OF WHICH PAGES WAIT, by the records that wait.
abbrev pub calls_of : List PageValue → List CallValue
calls_of pages = calls_after [] pages

-- the name of a call
abbrev pub name_of : CallValue → CallName
name_of call = record { life = call.life; call = call.call; line = call.line }

-- No call before place i has the name of the one there, where one is.
abbrev pub IsFirst : List CallValue → ℕ → Type 0
IsFirst calls i = MatchOption (slice_get calls i) (Unit {0})
    (λ call. list_any (is_named (name_of call)) (take i calls) ≡ false)

-- all but one
abbrev pub but : CallName → List CallValue → List CallValue
but name calls = filter (λ call. not (is_named name call)) calls

-- the end of so many numbers of a call, from this one on
abbrev pub end_from : (first pages : ℕ) → CallName → EndedValue
end_from first pages name = record {
  life = name.life;
  call = name.call;
  first = first;
  pages = pages;
  delivered = 0;
  format = card_format;
  outcome = NotPlaced;
  line = name.line;
}

-- the end of all pages of a call and of its cards
abbrev pub end_of : CallName → EndedValue
end_of name = end_from 0 (2 ^ 32 - 1) name

-- and that of its pages alone
abbrev pub pages_end : CallName → EndedValue
pages_end name = end_from 1 (2 ^ 32 - 2) name

-- the record of a card of this text, of the call of these pages
abbrev pub card_records : List PageValue → (text : List ℕ) → List PageValue
card_records [] text = []
card_records (page ∷ pages) text = card_record (call_of page) page.tag text ∷ []

-- pages of a job, and its card after them
abbrev pub with_its_card : List PageValue → CardValue → List PageValue
with_its_card pages card = pages ++ card_records pages (card_octets card)

-- ---- the pages of a call

abbrev pub has_number : (number : ℕ) → PageValue → Bool
has_number number page = nat_eq page.number number

-- of these pages, after those that were before, each that is the first of its number
abbrev pub firsts_after : (before pages : List PageValue) → List PageValue
firsts_after before [] = []
firsts_after before (page ∷ pages) = if list_any (has_number page.number) before
    then firsts_after before pages else page ∷ firsts_after (before ++ page ∷ []) pages

-- THE PAGES OF A CALL, in the order in which they came first: of those that were put under one number the first one. So what comes later
-- stands after all that was there, also where one of those is put again.
abbrev pub firsts : List PageValue → List PageValue
firsts pages = firsts_after [] pages

-- those of these records
abbrev pub pages_named : CallName → List PageValue → List PageValue
pages_named name waits = firsts (ended_by (pages_end name) waits)

-- ---- and their numbers

abbrev pub number_of : PageValue → ℕ
number_of page = page.number

-- those that are listed of a call, of these: none where it is none of them
abbrev pub numbers_named : CallName → List CallValue → List ℕ
numbers_named name [] = []
numbers_named name (call ∷ calls) =
    if is_named name call then call.numbers else numbers_named name calls

-- THE NUMBERS THAT ARE LISTED OF A CALL are those of its pages, in their order.
abbrev pub PagesAreListed : Type 0
PagesAreListed = (name : CallName) (waits : List PageValue)
    → numbers_named name (calls_of waits) ≡ map number_of (pages_named name waits)
