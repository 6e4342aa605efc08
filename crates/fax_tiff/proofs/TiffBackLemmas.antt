-- A whole TIFF that was written is read back.
use Rattle.std.proofs.Common.{◌≡◌, ◌≢◌, ℕ, zero, suc, ◌+◌, ◌-◌, ◌*◌, ◌^◌, ◌<◌, ◌≤◌, ◌==◌, Bool, true, false, if◌then◌else◌, List, [], ◌∷◌, ◌++◌, length, take, drop, map, Result, Ok, Err, refl, sym, ◌∙◌, ap, subst, arith, append_assoc, append-nil, length-append, lit<}
use Rattle.std.proofs.lemmas.List.{take_at}
use Rattle.fax_pagestore.specs.Pages.{IsPage, PageValue}
use Rattle.fax_tiff.specs.declared.number.ByteOrder.{ByteOrder}
use Rattle.fax_tiff.specs.declared.number.ByteOrder.TheVariants.{Little}
use Rattle.fax_tiff.specs.declared.fault.TiffFault.{TiffFault}
use Rattle.fax_tiff.specs.declared.fault.TiffFault.TheVariants.{NoPages}
use Rattle.fax_tiff.specs.Directories.{◌>>=◌, number_16, number_32, part_of}
use Rattle.fax_tiff.specs.ReadTiffs.{MeanPages, MeansTiff, PageRead, PageText, most_pages, order_of, page_at, pages_at, texts_of}
use Rattle.fax_tiff.specs.Strips.{CodedPage, IsCodedPage}
use Rattle.fax_tiff.specs.TiffLaws.{AreCodedPages, TiffIsReadBack}
use Rattle.fax_tiff.specs.WrittenTiffs.{end_of_page, file_head, head_octets, next_after, pages_from, tiff_of}
use Rattle.fax_tiff.proofs.BackLemmas.{part_back}
use Rattle.fax_tiff.proofs.ChainLemmas.{chain_at, chain_ends}
use Rattle.fax_tiff.proofs.FilledLemmas.{coded_means}
use Rattle.fax_tiff.proofs.ReadBackLemmas.{StandsAt, page_back, read_as, text_back}
use Rattle.fax_tiff.proofs.WritingLemmas.{length-head}

-- the rows of each page are few
abbrev AreFew : List CodedPage → Type 0
AreFew [] = Unit {0}
AreFew (page ∷ pages) = (page.height < 2 ^ 32) × AreFew pages

abbrev then_page : PageText → Result (List PageText) TiffFault → Result (List PageText) TiffFault
then_page page read = read >>= λ more. Ok (page ∷ more)

abbrev then_chain : (most : ℕ) → List ℕ → Result PageRead TiffFault → Result (List PageText) TiffFault
then_chain most file read = read >>= λ page. then_page page.page (pages_at most Little file page.next page.left)

next_few : (end : ℕ) (pages : List CodedPage) → end < 2 ^ 32 → next_after end pages < 2 ^ 32
next_few end [] few = lit< tt
next_few end (page ∷ pages) few = few

-- the pages that stand from a place on are read
chain_back : (pages : List CodedPage) (file front : List ℕ) (place number total most left : ℕ) → file ≡ front ++ pages_from place number total pages → length front ≡ place → 0 < place
    → length file < 2 ^ 32 → AreFew pages → number + length pages ≤ 65535 → total < 2 ^ 16 → length pages ≤ most → length file ≤ left + place
    → pages_at most Little file (next_after place pages) left ≡ Ok (map text_back pages)
chain_back [] file front place number total most left e at some short few numbers t m enough = chain_ends most Little file 0 left refl
chain_back (page ∷ pages) file front place number total zero left e at some short few numbers t m enough = absurd (omega arith)
chain_back (page ∷ pages) file front place number total (suc most) left e at some short few numbers t m enough =
    let end : ℕ = end_of_page place page in
    let next : ℕ = next_after end pages in
    let head : List ℕ = head_octets place number total next page in
    let more : List ℕ = pages_from end (number + 1) total pages in
    let size : length head ≡ 214 = length-head place number total next page in
    let whole : length file ≡ place + ((214 + length page.strip) + length more) =
    ap length e ∙ length-append front ((head ++ page.strip) ++ more)
    ∙ ap (λ (n : ℕ). length front + n) (length-append (head ++ page.strip) more ∙ ap (λ (n : ℕ). n + length more) (length-append head page.strip ∙ ap (λ (n : ℕ). n + length page.strip) size))
    ∙ ap (λ (n : ℕ). n + ((214 + length page.strip) + length more)) at in
    let within : place + 214 + length page.strip < 2 ^ 32 = omega (arith, whole, short) in
    let stands : StandsAt file place number total next page = record {
      front = front;
      more = more;
      file_is = e;
      at = at;
      within = within;
      next_few = next_few end pages within;
      number_few = omega (arith, numbers);
      total_few = t;
      height_few = few.0;
    } in
    let after : file ≡ (front ++ (head ++ page.strip)) ++ more = e ∙ sym (append_assoc front (head ++ page.strip) more) in
    let ends : length (front ++ (head ++ page.strip)) ≡ end = omega (arith, length-append front (head ++ page.strip), length-append head page.strip, size, at) in
    let rest : pages_at most Little file next (left - (196 + length page.strip)) ≡ Ok (map text_back pages) =
    chain_back pages file (front ++ (head ++ page.strip)) end (number + 1) total most (left - (196 + length page.strip)) after ends (omega arith) short few.1 (omega (arith, numbers)) t (omega (arith, m)) (omega (arith, whole, enough)) in
    chain_at most Little file place left (λ z. omega arith)
    ∙ ap (then_chain most file) (page_back file place number total next page stands left (omega (arith, whole, enough)))
    ∙ ap (then_page (text_back page)) rest

-- ---- the head of the file

head_size : length file_head ≡ 8
unfolding file_head
head_size = refl

little : order_of file_head ≡ Ok Little
unfolding order_of file_head number_16
little = refl

first_place : number_32 Little file_head 4 ≡ 8
unfolding file_head number_32 number_16
first_place = refl

abbrev order_read : (file head : List ℕ) → Result ByteOrder TiffFault → Result (List PageText) TiffFault
order_read file head read = read >>= λ order. if number_32 order head 4 == 0 then Err NoPages else pages_at most_pages order file (number_32 order head 4) (length file)

abbrev head_read : (file : List ℕ) → Result (List ℕ) TiffFault → Result (List PageText) TiffFault
head_read file read = read >>= λ head. order_read file head (order_of head)

abbrev place_read : (file : List ℕ) → ℕ → Result (List PageText) TiffFault
place_read file place = if place == 0 then Err NoPages else pages_at most_pages Little file place (length file)

texts_from : (file rest : List ℕ) → file ≡ file_head ++ rest → texts_of file ≡ pages_at most_pages Little file 8 (length file)
unfolding texts_of
texts_from file rest e =
    ap (head_read file) (part_back file [] file_head rest 0 8 e refl head_size)
    ∙ ap (order_read file file_head) little
    ∙ ap (place_read file) first_place

tiff_is : (pages : List CodedPage) → tiff_of pages ≡ file_head ++ pages_from 8 0 (length pages) pages
unfolding tiff_of
tiff_is pages = refl

texts_back : (pages : List CodedPage) → 0 < length pages → length pages < 2 ^ 16 → length (tiff_of pages) < 2 ^ 32 → AreFew pages → texts_of (tiff_of pages) ≡ Ok (map text_back pages)
texts_back [] some few short heights = absurd (omega arith)
texts_back (page ∷ pages) some few short heights =
    texts_from (tiff_of (page ∷ pages)) (pages_from 8 0 (length (page ∷ pages)) (page ∷ pages)) (tiff_is (page ∷ pages))
    ∙ chain_back (page ∷ pages) (tiff_of (page ∷ pages)) file_head 8 0 (length (page ∷ pages)) most_pages (length (tiff_of (page ∷ pages))) (tiff_is (page ∷ pages)) head_size (lit< tt)
    short heights (omega (arith, few)) few (omega (arith, few)) (omega arith)

-- ---- pages

height_few : (page : PageValue) (coded : CodedPage) → length page.rows ≤ 65535 → coded.height ≡ length page.rows → coded.height < 2 ^ 32
height_few page coded few e = omega arith

heights_few : (pages : List PageValue) (coded : List CodedPage) → AreCodedPages pages coded → AreFew coded
heights_few [] [] are = tt
heights_few (page ∷ pages) (coded ∷ more) are = (height_few page coded are.0.few are.1.height_is, heights_few pages more are.2)
heights_few [] (coded ∷ more) are = absurd are
heights_few (page ∷ pages) [] are = absurd are

all_mean : (pages : List PageValue) (coded : List CodedPage) → AreCodedPages pages coded → MeanPages (map text_back coded) pages
all_mean [] [] are = tt
all_mean (page ∷ pages) (coded ∷ more) are = (coded_means page coded are.0 are.1, all_mean pages more are.2)
all_mean [] (coded ∷ more) are = absurd are
all_mean (page ∷ pages) [] are = absurd are

-- The TIFF that is written of pages means them.
pub tiff_is_read_back : TiffIsReadBack
tiff_is_read_back pages coded are some few short = record {
  texts = map text_back coded;
  read = texts_back coded some few short (heights_few pages coded are);
  mean = all_mean pages coded are;
}
