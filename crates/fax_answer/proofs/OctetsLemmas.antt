-- How many octets readers of images take, whichever comes first.
use Rattle.std.proofs.Common.{◌≡◌, ℕ, ◌+◌, ◌<◌, ◌≤◌, List, [], ◌++◌, Option, Some, None, is_some, cond, length, take, drop, reverse, get_or, refl, sym, ◌∙◌, ap, arith}
use Rattle.std.proofs.lemmas.List.Sums.{sum_by_more, sum_by-append, sum_by-take-le, sum_by-take-drop, sum_by-drop_more}
use Rattle.std.proofs.lemmas.List.Sorted.{IsPermutation-reverse, sum_by-IsPermutation}
use Rattle.fax_runcodes.specs.Rows.{Elements}
use Rattle.fax_pagestore.specs.Octets.{octets_of_page, octets_of_reader, octets_of_rows}
use Rattle.fax_pagestore.specs.Pages.{PageValue}
use Rattle.fax_pagestore.specs.Readers.{ReaderValue}
use Rattle.fax_answer.specs.declared.step.Confirmed.{Confirmed}
use Rattle.fax_answer.specs.Octets.{octets_confirmed, octets_of_readers}
use Rattle.fax_answer.specs.Shown.{confirmed_shown}

pub octets_of_readers-none : octets_of_readers [] ≡ 0
unfolding octets_of_readers
octets_of_readers-none = refl

-- one more of the first
pub octets_of_readers-more : (readers : List ReaderValue) (i : ℕ) (d : ReaderValue) → i < length readers
    → octets_of_readers (take (i + 1) readers) ≡ octets_of_readers (take i readers) + octets_of_reader (get_or readers i d)
unfolding octets_of_readers
octets_of_readers-more readers i d lt = sum_by_more octets_of_reader readers i d lt

pub octets_of_readers-reverse : (readers : List ReaderValue) → octets_of_readers (reverse readers) ≡ octets_of_readers readers
unfolding octets_of_readers
octets_of_readers-reverse readers = sum_by-IsPermutation octets_of_reader readers (reverse readers) (IsPermutation-reverse readers)

-- the first ones
pub octets_of_readers-take : (n : ℕ) (readers : List ReaderValue) → octets_of_readers (take n readers) ≤ octets_of_readers readers
unfolding octets_of_readers
octets_of_readers-take n readers = sum_by-take-le octets_of_reader readers n

-- all but one
octets_of_readers-but : (readers : List ReaderValue) (n : ℕ) (d : ReaderValue) → n < length readers
    → octets_of_readers (take n readers ++ drop (n + 1) readers) + octets_of_reader (get_or readers n d) ≡ octets_of_readers readers
unfolding octets_of_readers
octets_of_readers-but readers n d lt =
    let parts = sum_by-append octets_of_reader (take n readers) (drop (n + 1) readers) in
    let all = sum_by-take-drop octets_of_reader readers n in
    let one = sum_by-drop_more octets_of_reader readers n d lt in
    omega arith

-- one is taken out
pub octets_of_readers-without : (readers left : List ReaderValue) (n : ℕ) (reader : ReaderValue) → n < length readers → reader ≡ get_or readers n reader
    → left ≡ take n readers ++ drop (n + 1) readers → octets_of_readers left + octets_of_reader reader ≡ octets_of_readers readers
octets_of_readers-without readers left n reader lt is left_are =
    let all = octets_of_readers-but readers n reader lt in
    let one : octets_of_reader reader ≡ octets_of_reader (get_or readers n reader) = ap (λ (r : ReaderValue). octets_of_reader r) is in
    let rest : octets_of_readers left ≡ octets_of_readers (take n readers ++ drop (n + 1) readers) = ap (λ (rs : List ReaderValue). octets_of_readers rs) left_are in
    omega arith

-- a page that is found is kept in place of another
pub octets_kept : {S : Type 0} (found kept new : Option (Confirmed S)) → new ≡ cond (is_some found) found kept
    → octets_confirmed (confirmed_shown new) ≤ octets_confirmed (confirmed_shown found) + octets_confirmed (confirmed_shown kept)
octets_kept {S} None kept new is = let e : octets_confirmed (confirmed_shown new) ≡ octets_confirmed (confirmed_shown kept) = ap (λ (c : Option (Confirmed S)). octets_confirmed (confirmed_shown c)) is in omega arith
octets_kept {S} (Some c) kept new is = let e : octets_confirmed (confirmed_shown new) ≡ octets_confirmed (confirmed_shown (Some c)) = ap (λ (c : Option (Confirmed S)). octets_confirmed (confirmed_shown c)) is in omega arith

-- a reader is taken out, the oldest first, where they are seen the newest first
pub octets_let_go : (items left readers : List ReaderValue) (n : ℕ) (reader : ReaderValue) → n < length items → reader ≡ get_or items n reader
    → left ≡ take n items ++ drop (n + 1) items → reverse items ≡ readers → octets_of_readers (reverse left) + octets_of_reader reader ≡ octets_of_readers readers
octets_let_go items left readers n reader lt is left_are seen =
    let rest = octets_of_readers-without items left n reader lt is left_are in
    let shown = octets_of_readers-reverse left in
    let all : octets_of_readers readers ≡ octets_of_readers items = ap (λ (rs : List ReaderValue). octets_of_readers rs) (sym seen) ∙ octets_of_readers-reverse items in
    omega arith

-- and what it read is a page, of no more octets
pub octets_finished : (items left readers : List ReaderValue) (n : ℕ) (reader : ReaderValue) (page : PageValue) → n < length items → reader ≡ get_or items n reader
    → left ≡ take n items ++ drop (n + 1) items → reverse items ≡ readers → page.rows ≡ reader.rows → octets_of_readers (reverse left) + octets_of_page page ≤ octets_of_readers readers
octets_finished items left readers n reader page lt is left_are seen rows =
    let all = octets_let_go items left readers n reader lt is left_are seen in
    let own : octets_of_page page ≡ octets_of_rows reader.rows = ap (λ (rs : List Elements). octets_of_rows rs) rows in
    omega arith
