-- Where records stand in their file.
use Rattle.std.proofs.Common.{◌≡◌, ℕ, ◌+◌, ◌<◌, zero, suc, Bool, not, true, false, cond, List, [], ◌∷◌, ◌++◌, Vec, Global, length, take, drop, get_or, refl, sym, ◌∙◌, ap, subst, arith, append_assoc, length-append}
use Rattle.std.specs.Vec.{vec_len}
use Rattle.std.specs.List.{filter}
use Rattle.std.proofs.lemmas.List.{drop-drop, drop_at, take_at}
use Rattle.sqlite_disk.specs.Disk.{Holds}
use Rattle.fax_spool.specs.Records.{AreRead}
use Rattle.fax_spool.specs.Settled.{IsSettled}
use Rattle.fax_spool.specs.RecordOctets.{PageValue, EndedValue}
use Rattle.fax_spool.specs.SpoolRecords.{AreReadAs, IsReadAs}
use Rattle.fax_spool.specs.Places.{AreReadAt, IsReadAt, PlacedPage, StandsAt, octets_of}
use Rattle.fax_spool.specs.Waits.{after, ends, name_of, waiting, waiting_after, without}
use Rattle.fax_spool.proofs.Files.{held}
use Rattle.fax_spool.specs.declared.record_place.RecordPlace.{RecordPlace}
use Rattle.fax_spool.specs.declared.spool_record.SpoolRecord.{SpoolRecord}

pub vec_length : (v : Vec ℕ Global) → vec_len v ≡ length v.items
vec_length v = omega (arith, v.ok.0)

-- so many octets have the records that a file begins with
pub front_octets : (front : List ℕ) (rs : List (List ℕ)) → AreRead front rs → length front ≡ octets_of rs
front_octets front [] read = ap length read
front_octets front (r ∷ rs) read =
    omega (arith, ap length read.1.split, length-append read.1.head (r ++ read.0), length-append r read.0, read.1.size, front_octets read.0 rs read.2)

pub more_octets : (rs more : List (List ℕ)) → octets_of (rs ++ more) ≡ octets_of rs + octets_of more
more_octets [] more = omega arith
more_octets (r ∷ rs) more = omega (arith, more_octets rs more)

pub one_more : (rs : List (List ℕ)) (r : List ℕ) → octets_of (rs ++ r ∷ []) ≡ octets_of rs + 15 + length r
one_more rs r = omega (arith, more_octets rs (r ∷ []))

-- ---- what stands at a place

pub stands_more : (items more : List (List ℕ)) (place : RecordPlace) (item : List ℕ) → StandsAt items place item → StandsAt (items ++ more) place item
stands_more items more place item s = record {
  before = s.before;
  after = s.after ++ more;
  split = ap (λ (l : List (List ℕ)). l ++ more) s.split ∙ append_assoc s.before (item ∷ s.after) more;
  at = s.at;
  size = s.size;
}

pub same_stands : (items : List (List ℕ)) (place other : RecordPlace) (item more : List ℕ) → other ≡ place → more ≡ item → StandsAt items place item → StandsAt items other more
same_stands items place other item more same are stands =
    subst (λ (p : RecordPlace). StandsAt items p more) (sym same) (subst (λ (l : List ℕ). StandsAt items place l) (sym are) stands)

pub stands_next : (before after : List (List ℕ)) (place : RecordPlace) (item : List ℕ) → place.at ≡ octets_of before + 15 → place.octets ≡ length item → StandsAt (before ++ item ∷ after) place item
stands_next before after place item at size = record { before = before; after = after; split = refl; at = at; size = size }

-- a record that is read there
read_there : (before after : List (List ℕ)) (item front tail : List ℕ) → AreRead front (before ++ item ∷ after) → take (length item) (drop (octets_of before + 15) (front ++ tail)) ≡ item
read_there [] after item front tail read =
    let rest = read.0 in
    let head = read.1.head in
    let is : front ++ tail ≡ head ++ (item ++ (rest ++ tail)) =
    ap (λ (l : List ℕ). l ++ tail) read.1.split ∙ append_assoc head (item ++ rest) tail ∙ ap (λ (l : List ℕ). head ++ l) (append_assoc item rest tail) in
    ap (λ (l : List ℕ). take (length item) (drop 15 l)) is
    ∙ ap (λ (l : List ℕ). take (length item) l) (drop_at head (item ++ (rest ++ tail)) 15 read.1.size)
    ∙ take_at item (rest ++ tail) (length item) refl
read_there (b ∷ before) after item front tail read =
    let rest = read.0 in
    let first = read.1.head ++ b in
    let is : front ++ tail ≡ first ++ (rest ++ tail) =
    ap (λ (l : List ℕ). l ++ tail) (read.1.split ∙ sym (append_assoc read.1.head b rest)) ∙ append_assoc first rest tail in
    let long : length first ≡ 15 + length b = omega (arith, length-append read.1.head b, read.1.size) in
    let count : octets_of (b ∷ before) + 15 ≡ (15 + length b) + (octets_of before + 15) = omega arith in
    ap (λ (n : ℕ). take (length item) (drop n (front ++ tail))) count
    ∙ ap (λ (l : List ℕ). take (length item) l) (sym (drop-drop (octets_of before + 15) (15 + length b) (front ++ tail)))
    ∙ ap (λ (l : List ℕ). take (length item) (drop (octets_of before + 15) (drop (15 + length b) l))) is
    ∙ ap (λ (l : List ℕ). take (length item) (drop (octets_of before + 15) l)) (drop_at first (rest ++ tail) (15 + length b) long)
    ∙ read_there before after item rest tail read.2

module _ {D : Type 0} (seen : D → List ℕ) (may_leave : D → List ℕ → Type 0) (is_usable : D → Bool) (disk : D) (at : ℕ) (rs : List (List ℕ)) (s : IsSettled seen may_leave is_usable disk at rs) where
  -- where its records end
  pub settled_end : at ≡ octets_of rs
  settled_end = s.place ∙ front_octets s.front rs s.read

  -- A RECORD IS READ AT ITS PLACE: so many octets there are just those of the record.
  pub reads_there : (place : RecordPlace) (item : List ℕ) → StandsAt rs place item → take place.octets (drop place.at (seen disk)) ≡ item
  reads_there place item stands =
      ap (λ (n : ℕ). take n (drop place.at (seen disk))) stands.size
      ∙ ap (λ (n : ℕ). take (length item) (drop n (seen disk))) stands.at
      ∙ ap (λ (l : List ℕ). take (length item) (drop (octets_of stands.before + 15) l)) s.file
      ∙ read_there stands.before stands.after item s.front (s.gate ++ s.after) (subst (λ (l : List (List ℕ)). AreRead s.front l) stands.split s.read)

  -- those that are put next stand after them
  pub stands_put : (after : List (List ℕ)) (place : RecordPlace) (item : List ℕ) → place.at ≡ at + 15 → place.octets ≡ length item → StandsAt (rs ++ item ∷ after) place item
  stands_put after place item here size = stands_next rs after place item (omega (arith, here, settled_end)) size

-- what a read of so many octets there holds
pub none_there : (octets : List ℕ) → length octets ≡ 0 → octets ≡ []
none_there [] none = refl
none_there (o ∷ octets) none = absurd (omega (arith, none))

read_of : (file : List ℕ) (at : ℕ) (octets : List ℕ) (n : ℕ) → n ≡ length octets → (0 < n → Holds file at octets) → octets ≡ take n (drop at file)
read_of file at octets zero size read = none_there octets (sym size)
read_of file at octets (suc n) size read = sym (held file at octets (read (omega arith))) ∙ ap (λ (m : ℕ). take m (drop at file)) (sym size)

module _ {D : Type 0} (seen : D → List ℕ) (may_leave : D → List ℕ → Type 0) (is_usable : D → Bool) (disk : D) (at : ℕ) (rs : List (List ℕ)) (s : IsSettled seen may_leave is_usable disk at rs) where
  pub read_right : (place : RecordPlace) (item : List ℕ) → StandsAt rs place item → (octets : List ℕ) → place.octets ≡ length octets → (0 < place.octets → Holds (seen disk) place.at octets) → octets ≡ item
  read_right place item stands octets size read = read_of (seen disk) place.at octets place.octets size read ∙ reads_there seen may_leave is_usable disk at rs s place item stands

-- ---- pages that were read

pub read_at_append : (items : List (List ℕ)) (ks more : List PlacedPage) (pages others : List PageValue) → AreReadAt items ks pages → AreReadAt items more others → AreReadAt items (ks ++ more) (pages ++ others)
read_at_append items [] more [] others are after = after
read_at_append items [] more (p ∷ pages) others are after = absurd are
read_at_append items (k ∷ ks) more [] others are after = absurd are
read_at_append items (k ∷ ks) more (p ∷ pages) others are after = (are.0, read_at_append items ks more pages others are.1 after)

pub read_at_left : (items : List (List ℕ)) (e : EndedValue) (ks : List PlacedPage) (pages : List PageValue) → AreReadAt items ks pages
    → AreReadAt items (filter (λ (k : PlacedPage). not (ends e (name_of k.page))) ks) (without e pages)
read_at_left items e [] [] are = tt
read_at_left items e [] (p ∷ pages) are = absurd are
read_at_left items e (k ∷ ks) [] are = absurd are
read_at_left items e (k ∷ ks) (p ∷ pages) are =
    let left : List PlacedPage = filter (λ (k : PlacedPage). not (ends e (name_of k.page))) ks in
    let rest : AreReadAt items left (without e pages) = read_at_left items e ks pages are.1 in
    subst (λ (q : PageValue). AreReadAt items (cond (not (ends e (name_of q))) (k ∷ left) left) (without e (p ∷ pages))) (sym are.0.0)
    (elim (ends e (name_of p)) as (λ b. AreReadAt items (cond (not b) (k ∷ left) left) (cond (not b) (p ∷ without e pages) (without e pages))) [ true ↦ rest | false ↦ (are.0, rest) ])

pub same_read_at : (items : List (List ℕ)) (ks others : List PlacedPage) (pages : List PageValue) → others ≡ ks → AreReadAt items ks pages → AreReadAt items others pages
same_read_at items ks others pages same are = subst (λ (l : List PlacedPage). AreReadAt items l pages) (sym same) are

-- which of the pages the one at a place is
pub read_at_index : (items : List (List ℕ)) (ks : List PlacedPage) (pages : List PageValue) (i : ℕ) (k : PlacedPage) → AreReadAt items ks pages → i < length ks → get_or ks i k ≡ k
    → (page : PageValue) × IsReadAt items k page × (i < length pages) × (get_or pages i page ≡ page)
read_at_index items [] pages i k are lt got = absurd (omega (arith, lt))
read_at_index items (x ∷ ks) [] i k are lt got = absurd are
read_at_index items (x ∷ ks) (p ∷ pages) zero k are lt got = (p, subst (λ (y : PlacedPage). IsReadAt items y p) got are.0, omega arith, refl)
read_at_index items (x ∷ ks) (p ∷ pages) (suc i) k are lt got =
    let it = read_at_index items ks pages i k are.1 (omega (arith, lt)) got in
    (it.0, it.1, omega (arith, it.2), it.3)

pub read_at_many : (items : List (List ℕ)) (ks : List PlacedPage) (pages : List PageValue) → AreReadAt items ks pages → length pages ≡ length ks
read_at_many items [] [] are = refl
read_at_many items [] (p ∷ pages) are = absurd are
read_at_many items (k ∷ ks) [] are = absurd are
read_at_many items (k ∷ ks) (p ∷ pages) are = omega (arith, read_at_many items ks pages are.1)

-- ---- one record more is read

-- These are read so far, up to this place; and the pages that wait by them.
abbrev pub ArePlacedSo : (all rest : List (List ℕ)) (end : ℕ) (records left : List SpoolRecord) (pages : List PlacedPage) → Type 0
ArePlacedSo all rest end records left pages =
    (before : List (List ℕ)) × (all ≡ before ++ rest) × (end ≡ octets_of before)
    × (AreReadAs all records → AreReadAs rest left × ((waits : List PageValue) × AreReadAt all pages waits × (waiting_after waits left ≡ waiting records)))

pub none_placed : (all rest : List (List ℕ)) (records : List SpoolRecord) (pages : List PlacedPage) → rest ≡ all → pages ≡ [] → ArePlacedSo all rest 0 records records pages
none_placed all rest records pages whole none =
    ([], sym whole, refl, λ are. (subst (λ (l : List (List ℕ)). AreReadAs l records) (sym whole) are, ([], same_read_at all [] pages [] none tt, refl)))

pub next_placed :
    (all rest tail : List (List ℕ)) (item : List ℕ) (records left more : List SpoolRecord) (r : SpoolRecord) (pages next : List PlacedPage) (end : ℕ) (place : RecordPlace) → ArePlacedSo all rest end records left pages
    → rest ≡ item ∷ tail → left ≡ r ∷ more → place.at ≡ end + 15 → place.octets ≡ length item
    → ((items : List (List ℕ)) (waits : List PageValue) → AreReadAt items pages waits → StandsAt items place item → IsReadAs item r → AreReadAt items next (after waits r))
    → ArePlacedSo all tail (place.at + place.octets) records more next
next_placed all rest tail item records left more r pages next end place so split_rest split_left here size follows =
    let before = so.0 in
    let whole : all ≡ before ++ item ∷ tail = so.1 ∙ ap (λ (l : List (List ℕ)). before ++ l) split_rest in
    let stands : StandsAt all place item = record { before = before; after = tail; split = whole; at = omega (arith, here, so.2); size = size } in (
      before ++ item ∷ [],
      whole ∙ sym (append_assoc before (item ∷ []) tail),
      omega (arith, here, size, so.2, one_more before item),
      λ are.
          let was = so.3 are in
          let read : AreReadAs (item ∷ tail) (r ∷ more) = subst (λ (l : List (List ℕ)). AreReadAs l (r ∷ more)) split_rest (subst (λ (l : List SpoolRecord). AreReadAs rest l) split_left was.0) in (
            read.1,
            (
              after was.1.0 r,
              follows all was.1.0 was.1.1 stands read.0,
              sym (ap (λ (l : List SpoolRecord). waiting_after was.1.0 l) split_left) ∙ was.1.2,
            ),
          ),
    )

pub all_placed : (all rest : List (List ℕ)) (end : ℕ) (records left : List SpoolRecord) (pages : List PlacedPage) → ArePlacedSo all rest end records left pages → left ≡ [] → AreReadAs all records → AreReadAt all pages (waiting records)
all_placed all rest end records left pages so none are =
    let it = (so.3 are).1 in
    subst (λ (l : List PageValue). AreReadAt all pages l) (sym (ap (λ (l : List SpoolRecord). waiting_after it.0 l) none) ∙ it.2) it.1
