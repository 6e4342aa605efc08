-- What octets mean as a TIFF: at most one list of pages, or one fault.
use Rattle.std.proofs.Common.{◌≡◌, ◌≢◌, ◌⊎◌, ℕ, ◌+◌, ◌<◌, List, [], ◌∷◌, ◌++◌, length, take, drop, get_or, Result, Ok, Err, refl, sym, ◌∙◌, ap, subst, inl, inr}
use Rattle.std.proofs.lemmas.List.{drop_more, take-append-drop, take_more}
use Rattle.std.specs.Result.{IfErr, IfOk, IsOkAnd}
use Rattle.fax_runcodes.specs.declared.format.Format.{Format}
use Rattle.fax_runcodes.specs.Rows.{Elements}
use Rattle.fax_runcodes.specs.Widths.{elements_of}
use Rattle.fax_mhcode.proofs.LineLaws.{IsWidth-elements}
use Rattle.fax_pagestore.specs.declared.fault.PageFault.{PageFault}
use Rattle.fax_pagestore.specs.Pages.{PageValue}
use Rattle.fax_pagestore.specs.PageTexts.{MeansPage}
use Rattle.fax_pagestore.specs.PageFaults.{FailsPage}
use Rattle.fax_pagestore.proofs.PageLaws.{faults_are_unique, pages_are_unique, pages_dont_fail}
use Rattle.fax_tiff.specs.declared.fault.TiffFault.{TiffFault}
use Rattle.fax_tiff.specs.declared.fault.TiffFault.TheVariants.{NoTiff, Cut, Overlap, Lacks, BadField, NoPages, TooManyPages, BadPage, BadHeight, NoMemory}
use Rattle.fax_tiff.specs.ReadTiffs.{FailPages, FailsText, FailsTiff, MeanPages, MeansText, MeansTiff, PageText, texts_of}

-- ---- one text

page_is : (format : Format) (p q : PageValue) → p.format ≡ format → q.format ≡ format → p.rows ≡ q.rows → p ≡ q
page_is format p q e f rows =
    ap (λ (x : Format). let page : PageValue = record { format = x; rows = p.rows } in page) (e ∙ sym f)
    ∙ ap (λ (x : List Elements). let page : PageValue = record { format = q.format; rows = x } in page) rows

page_one : (text : PageText) (p q : PageValue) → MeansPage text.format text.coding text.text p → MeansPage text.format text.coding text.text q → p ≡ q
page_one text p q m n =
    page_is text.format p q m.0 n.0 (pages_are_unique (elements_of text.format.width) text.coding text.text p.rows q.rows (IsWidth-elements text.format.width) m.1 n.1)

text_one : (text : PageText) (p q : PageValue) → MeansText text p → MeansText text q → p ≡ q
text_one text p q m n = page_one text p q m.means n.means

-- the two ways in which a text means no page of its height
abbrev Ways : PageText → TiffFault → Type 0
Ways text fault = ((bad : PageFault) × (fault ≡ BadPage bad) × FailsPage (elements_of text.format.width) text.coding text.text bad)
    ⊎ ((fault ≡ BadHeight) × ((page : PageValue) × MeansPage text.format text.coding text.text page × (length page.rows ≢ text.height)))

ways : (text : PageText) (fault : TiffFault) → FailsText text fault → Ways text fault
ways text NoTiff h = absurd h
ways text Cut h = absurd h
ways text Overlap h = absurd h
ways text (Lacks tag) h = absurd h
ways text (BadField tag) h = absurd h
ways text NoPages h = absurd h
ways text TooManyPages h = absurd h
ways text (BadPage bad) h = inl (bad, refl, h)
ways text BadHeight h = inr (refl, h)
ways text NoMemory h = absurd h

means_and_fails : (text : PageText) (page : PageValue) (fault : TiffFault) → MeansText text page → FailsText text fault → ⊥
means_and_fails text page fault m f = elim (ways text fault f) [
  | inl w ↦ pages_dont_fail (elements_of text.format.width) text.coding text.text page.rows w.0 (IsWidth-elements text.format.width) m.means.1 w.2
  | inr w ↦ w.1.2 (ap (λ (p : PageValue). length p.rows) (page_one text w.1.0 page w.1.1 m.means) ∙ m.height)
]

fault_one : (text : PageText) (f g : TiffFault) → FailsText text f → FailsText text g → f ≡ g
fault_one text f g a b = elim (ways text f a) [
  | inl w ↦ elim (ways text g b) [
    | inl v ↦ w.1 ∙ ap (λ (bad : PageFault). BadPage bad) (faults_are_unique (elements_of text.format.width) text.coding text.text w.0 v.0 (IsWidth-elements text.format.width) w.2 v.2) ∙ sym v.1
    | inr v ↦ absurd (pages_dont_fail (elements_of text.format.width) text.coding text.text v.1.0.rows w.0 (IsWidth-elements text.format.width) v.1.1.1 w.2)
  ]
  | inr w ↦ elim (ways text g b) [
    | inl v ↦ absurd (pages_dont_fail (elements_of text.format.width) text.coding text.text w.1.0.rows v.0 (IsWidth-elements text.format.width) w.1.1.1 v.2)
    | inr v ↦ w.0 ∙ sym v.0
  ]
]

-- ---- texts

pages_one : (texts : List PageText) (ps qs : List PageValue) → MeanPages texts ps → MeanPages texts qs → ps ≡ qs
pages_one [] [] [] m n = refl
pages_one (text ∷ texts) (p ∷ ps) (q ∷ qs) m n =
    ap (λ (x : PageValue). x ∷ ps) (text_one text p q m.0 n.0) ∙ ap (λ (xs : List PageValue). q ∷ xs) (pages_one texts ps qs m.1 n.1)
pages_one [] (p ∷ ps) qs m n = absurd m
pages_one [] [] (q ∷ qs) m n = absurd n
pages_one (text ∷ texts) [] qs m n = absurd m
pages_one (text ∷ texts) (p ∷ ps) [] m n = absurd n

mean_and_fail : (texts : List PageText) (pages : List PageValue) (fault : TiffFault) → MeanPages texts pages → FailPages texts fault → ⊥
mean_and_fail [] pages fault m f = f
mean_and_fail (text ∷ texts) [] fault m f = m
mean_and_fail (text ∷ texts) (page ∷ pages) fault m f = elim f [
  | inl here ↦ means_and_fails text page fault m.0 here
  | inr later ↦ mean_and_fail texts pages fault m.1 later.2
]

faults_one : (texts : List PageText) (f g : TiffFault) → FailPages texts f → FailPages texts g → f ≡ g
faults_one [] f g a b = absurd a
faults_one (text ∷ texts) f g a b = elim a [
  | inl here ↦ elim b [ inl too ↦ fault_one text f g here too | inr later ↦ absurd (means_and_fails text later.0 f later.1 here) ]
  | inr later ↦ elim b [ inl here ↦ absurd (means_and_fails text later.0 g later.1 here) | inr too ↦ faults_one texts f g later.2 too.2 ]
]

-- ---- a loop over texts

pub pages_push : (texts : List PageText) (pages : List PageValue) (text : PageText) (page : PageValue) → MeanPages texts pages → MeansText text page
    → MeanPages (texts ++ text ∷ []) (pages ++ page ∷ [])
pages_push [] [] text page m n = (n, tt)
pages_push [] (p ∷ ps) text page m n = absurd m
pages_push (t ∷ ts) [] text page m n = absurd m
pages_push (t ∷ ts) (p ∷ ps) text page m n = (m.0, pages_push ts ps text page m.1 n)

pub fails_at : (texts : List PageText) (pages : List PageValue) (text : PageText) (rest : List PageText) (fault : TiffFault) → MeanPages texts pages → FailsText text fault
    → FailPages (texts ++ text ∷ rest) fault
fails_at [] pages text rest fault m f = inl f
fails_at (t ∷ ts) [] text rest fault m f = absurd m
fails_at (t ∷ ts) (p ∷ ps) text rest fault m f = inr (p, m.0, fails_at ts ps text rest fault m.1 f)

-- ---- files

texts_same : (octets : List ℕ) (a b : List PageText) → texts_of octets ≡ Ok a → texts_of octets ≡ Ok b → a ≡ b
texts_same octets a b e f = cc

-- Octets mean at most one list of pages.
pub tiffs_are_unique : (octets : List ℕ) (ps qs : List PageValue) → MeansTiff octets ps → MeansTiff octets qs → ps ≡ qs
tiffs_are_unique octets ps qs m n =
    pages_one m.texts ps qs m.mean (subst (λ (t : List PageText). MeanPages t qs) (texts_same octets n.texts m.texts n.read m.read) n.mean)

-- Octets that mean pages meet no fault.
pub tiffs_dont_fail : (octets : List ℕ) (pages : List PageValue) (fault : TiffFault) → MeansTiff octets pages → FailsTiff octets fault → ⊥
tiffs_dont_fail octets pages fault m f = elim f [
  | inl e ↦ let read : texts_of octets ≡ Ok m.texts = m.read in cc
  | inr g ↦ mean_and_fail m.texts pages fault m.mean (subst (λ (t : List PageText). FailPages t fault) (texts_same octets g.0 m.texts g.1 m.read) g.2)
]

-- Octets meet at most one fault.
pub tiff_faults_are_unique : (octets : List ℕ) (f g : TiffFault) → FailsTiff octets f → FailsTiff octets g → f ≡ g
tiff_faults_are_unique octets f g a b = elim a [
  | inl e ↦ elim b [ inl d ↦ cc | inr v ↦ let read : texts_of octets ≡ Ok v.0 = v.1 in cc ]
  | inr w ↦ elim b [
    | inl d ↦ let read : texts_of octets ≡ Ok w.0 = w.1 in cc
    | inr v ↦ faults_one w.0 f g w.2 (subst (λ (t : List PageText). FailPages t g) (texts_same octets v.0 w.0 v.1 w.1) v.2)
  ]
]

-- ---- what a reader answers, memory aside

memory_or : (fault : TiffFault) → (fault ≡ NoMemory) ⊎ (fault ≢ NoMemory)
memory_or NoTiff = inr (λ h. cc)
memory_or Cut = inr (λ h. cc)
memory_or Overlap = inr (λ h. cc)
memory_or (Lacks tag) = inr (λ h. cc)
memory_or (BadField tag) = inr (λ h. cc)
memory_or NoPages = inr (λ h. cc)
memory_or TooManyPages = inr (λ h. cc)
memory_or (BadPage fault) = inr (λ h. cc)
memory_or BadHeight = inr (λ h. cc)
memory_or NoMemory = inl refl

pub reads_from : {V : Type 0} (result : Result V TiffFault) (items : V → List PageValue) (octets : List ℕ) → IfOk result (λ v. MeansTiff octets (items v))
    → IfErr result (λ fault. fault ≢ NoMemory → FailsTiff octets fault)
    → (pages : List PageValue) → MeansTiff octets pages → IsOkAnd result (λ v. items v ≡ pages) ⊎ (result ≡ Err NoMemory)
reads_from (Ok v) items octets ok err pages means = inl (tiffs_are_unique octets (items v) pages ok means)
reads_from (Err fault) items octets ok err pages means = elim (memory_or fault) [
  | inl same ↦ inr (ap (λ (f : TiffFault). Err f) same)
  | inr apart ↦ absurd (tiffs_dont_fail octets pages fault means (err apart))
]

pub fails_from : {V : Type 0} (result : Result V TiffFault) (items : V → List PageValue) (octets : List ℕ) → IfOk result (λ v. MeansTiff octets (items v))
    → IfErr result (λ fault. fault ≢ NoMemory → FailsTiff octets fault)
    → (fault : TiffFault) → FailsTiff octets fault → (result ≡ Err fault) ⊎ (result ≡ Err NoMemory)
fails_from (Ok v) items octets ok err fault fails = absurd (tiffs_dont_fail octets (items v) fault ok fails)
fails_from (Err other) items octets ok err fault fails = elim (memory_or other) [
  | inl same ↦ inr (ap (λ (f : TiffFault). Err f) same)
  | inr apart ↦ inl (ap (λ (f : TiffFault). Err f) (tiff_faults_are_unique octets other fault (err apart) fails))
]

-- ---- a loop over texts, by an index

-- a text more means a page
pub means_more : (texts : List PageText) (i : ℕ) (text : PageText) (pages : List PageValue) (page : PageValue) → i < length texts → text ≡ get_or texts i text
    → MeanPages (take i texts) pages → MeansText text page → MeanPages (take (i + 1) texts) (pages ++ page ∷ [])
means_more texts i text pages page l is m n =
    subst (λ (t : List PageText). MeanPages t (pages ++ page ∷ [])) (sym (take_more texts i text l ∙ ap (λ (t : PageText). take i texts ++ t ∷ []) (sym is)))
    (pages_push (take i texts) pages text page m n)

-- the text at an index means none
pub fails_in : (texts : List PageText) (i : ℕ) (text : PageText) (pages : List PageValue) (fault : TiffFault) → i < length texts → text ≡ get_or texts i text
    → MeanPages (take i texts) pages → FailsText text fault → FailPages texts fault
fails_in texts i text pages fault l is m f =
    subst (λ (t : List PageText). FailPages t fault)
    (ap (λ (r : List PageText). take i texts ++ r) (ap (λ (t : PageText). t ∷ drop (i + 1) texts) is ∙ sym (drop_more texts i text l)) ∙ take-append-drop i texts)
    (fails_at (take i texts) pages text (drop (i + 1) texts) fault m f)

-- what texts mean, octets mean
pub meant_by : {V : Type 0} (result : Result V TiffFault) (items : V → List PageValue) (octets : List ℕ) (texts : List PageText) → texts_of octets ≡ Ok texts
    → IfOk result (λ v. MeanPages texts (items v)) → IfOk result (λ v. MeansTiff octets (items v))
meant_by (Ok v) items octets texts e m = record { texts = texts; read = e; mean = m }
meant_by (Err fault) items octets texts e m = tt

pub failed_by : {V : Type 0} (result : Result V TiffFault) (octets : List ℕ) (texts : List PageText) → texts_of octets ≡ Ok texts
    → IfErr result (λ fault. fault ≢ NoMemory → FailPages texts fault) → IfErr result (λ fault. fault ≢ NoMemory → FailsTiff octets fault)
failed_by (Ok v) octets texts e f = tt
failed_by (Err fault) octets texts e f = λ apart. inr (texts, e, f apart)
