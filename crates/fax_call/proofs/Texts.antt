-- Each page has a text, and one only.
use Rattle.std.proofs.Common.{◌≡◌, ◌≢◌, ◌⊎◌, ℕ, ◌<◌, ◌≤◌, Bool, List, [], ◌∷◌, All, length, inl, inr, refl, arith}
use Rattle.std.proofs.lemmas.List.Elements.{All-nil, All-cons, All-head, All-tail}
use Rattle.std.proofs.lemmas.Bool.{cases_lt}
use Rattle.fax_runcodes.specs.declared.Width.{Width}
use Rattle.fax_runcodes.specs.declared.Width.TheVariants.{W1728, W2048, W2432}
use Rattle.fax_runcodes.specs.declared.format.Coding.{Coding}
use Rattle.fax_runcodes.specs.Rows.{Elements, IsWidth}
use Rattle.fax_runcodes.specs.Widths.{elements_of}
use Rattle.fax_pagestore.specs.PageRows.{AreRows, most_rows}
use Rattle.fax_pagestore.specs.Pages.{PageValue, IsPage}
use Rattle.fax_pagestore.specs.WrittenPages.{WritesPage}
use Rattle.fax_pagestore.proofs.WrittenOnce.{pages_are_written, written_octets_are_unique}
use Rattle.fax_call.specs.Writings.{IsWrittenAs, PagesHaveTexts, TextsAreOne}
use Rattle.fax_call.proofs.Paddings.{Padded, padded}

-- ---- one only

is_width : (width : Width) → IsWidth (elements_of width)
is_width W1728 = inl refl
is_width W2048 = inr (inl refl)
is_width W2432 = inr (inr refl)

pub texts_are_one : TextsAreOne
texts_are_one page coding least octets others is a b =
    written_octets_are_unique (elements_of page.format.width) coding page.format.fine least page.rows a.text b.text octets others (is_width page.format.width)
    is a.writes b.writes a.are_octets b.are_octets a.padded b.padded

-- ---- some

-- whether a value is a page is decided
same_or_not : (m n : ℕ) → (m ≡ n) ⊎ (m ≢ n)
same_or_not m n = by (cases_lt m n) (cases_lt n m)
  where
    by : (m < n) ⊎ (n ≤ m) → (n < m) ⊎ (m ≤ n) → (m ≡ n) ⊎ (m ≢ n)
    by (inl l) r = inr (λ e. absurd (omega arith))
    by (inr l) (inl g) = inr (λ e. absurd (omega arith))
    by (inr l) (inr g) = inl (omega arith)

AreEach : ℕ → List Elements → Type 0
AreEach width rows = All (λ row. length row ≡ width) rows

each_or_not : (width : ℕ) (rows : List Elements) → AreEach width rows ⊎ ¬ (AreEach width rows)
unfolding AreEach
each_or_not width [] = inl (All-nil (λ (r : Elements). length r ≡ width))
each_or_not width (row ∷ rows) = by (same_or_not (length row) width) (each_or_not width rows)
  where
    by : (length row ≡ width) ⊎ (length row ≢ width) → AreEach width rows ⊎ ¬ (AreEach width rows) → AreEach width (row ∷ rows) ⊎ ¬ (AreEach width (row ∷ rows))
    by (inl e) (inl each) = inl (All-cons (λ (r : Elements). length r ≡ width) row rows e each)
    by (inr n) each = inr (λ all. n (All-head (λ (r : Elements). length r ≡ width) row rows all))
    by (inl e) (inr n) = inr (λ all. n (All-tail (λ (r : Elements). length r ≡ width) row rows all))

rows_or_not : (width : ℕ) (rows : List Elements) → AreRows width rows ⊎ ¬ (AreRows width rows)
unfolding AreEach
rows_or_not width rows = by (cases_lt 0 (length rows)) (cases_lt most_rows (length rows)) (each_or_not width rows)
  where
    by : (0 < length rows) ⊎ (length rows ≤ 0) → (most_rows < length rows) ⊎ (length rows ≤ most_rows) → AreEach width rows ⊎ ¬ (AreEach width rows) → AreRows width rows ⊎ ¬ (AreRows width rows)
    by (inr none) few each = inr (λ are. let some : 0 < length rows = are.some in absurd (omega arith))
    by (inl some) (inl many) each = inr (λ are. let few : length rows ≤ most_rows = are.few in absurd (omega arith))
    by (inl some) (inr few) (inr n) = inr (λ are. n are.each)
    by (inl some) (inr few) (inl each) = inl (record { some = some; few = few; each = each })

-- octets that hold the text of a value, where that is a page
record TextOf (page : PageValue) (coding : Coding) (least : ℕ) : Type 0 where
  octets : List ℕ
  is_text : IsPage page → IsWrittenAs page coding least octets

text_of : (page : PageValue) (coding : Coding) (least : ℕ) → TextOf page coding least
text_of page coding least = by (rows_or_not (elements_of page.format.width) page.rows)
  where
    by : IsPage page ⊎ ¬ (IsPage page) → TextOf page coding least
    by (inr n) = record { octets = []; is_text = λ is. absurd (n is) }
    by (inl is) =
        let text : (text : List Bool) × WritesPage coding page.format.fine least page.rows text =
        pages_are_written (elements_of page.format.width) coding page.format.fine least page.rows is in
        let p : Padded text.0 = padded text.0 in
        record { octets = p.octets; is_text = λ also. record { are_octets = p.are_octets; text = text.0; writes = text.1; padded = p.is_padded } }

pub pages_have_texts : PagesHaveTexts
pages_have_texts = (λ page coding least. (text_of page coding least).octets, λ page coding least is. (text_of page coding least).is_text is)
