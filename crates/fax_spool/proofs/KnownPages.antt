-- The pages that a spool knows in memory.
use Rattle.std.proofs.Common.{◌≡◌, ◌∙◌, ◌+◌, ◌<◌, ◌≤◌, ℕ, zero, suc, Bool, true, false, not, cond, ◌&&◌, List, [], ◌∷◌, ◌++◌, Vec, Global, length, map, take, get_or, refl, sym, ap, subst, arith, append_assoc}
use Rattle.std.specs.List.{filter, list_all}
use Rattle.std.proofs.lemmas.List.{append-nil, map-append, map_push, take_all, take_more}
use Rattle.fax_spool.specs.RecordOctets.{PageValue, EndedValue}
use Rattle.fax_spool.specs.Waits.{PageName, name_of, ends, without, without_all}
use Rattle.fax_spool.specs.SpoolRecords.{AreReadAs, IsReadAs, page_record}
use Rattle.fax_spool.specs.StoredPages.{AreKnownAs, IsKnownAs, IsRecordOf, ended_alone, is_in_memory, known_without, memory_has, put_again}
use Rattle.fax_spool.specs.declared.stored_page.StoredPage.{StoredPage}
use Rattle.fax_spool.specs.declared.stored_page.RecordSource.{RecordSource}
use Rattle.fax_spool.specs.declared.stored_page.RecordSource.TheVariants.{Memory, File}
use Rattle.fax_spool.specs.declared.spool_record.SpoolRecord.{SpoolRecord}
use Rattle.fax_spool.specs.Places.{StandsAt, octets_of}
use Rattle.fax_spool.specs.declared.record_place.RecordPlace.{RecordPlace}
use Rattle.fax_spool.proofs.Places.{one_more, stands_more, stands_next}
use Rattle.fax_spool.proofs.ReadRecords.{read_push}

pub kept_append : (items : List (List ℕ)) (ks more : List StoredPage) (pages others : List PageValue) → AreKnownAs items ks pages → AreKnownAs items more others → AreKnownAs items (ks ++ more) (pages ++ others)
kept_append items [] more [] others are after = after
kept_append items [] more (p ∷ pages) others are after = absurd are
kept_append items (k ∷ ks) more [] others are after = absurd are
kept_append items (k ∷ ks) more (p ∷ pages) others are after = (are.0, kept_append items ks more pages others are.1 after)

-- those that wait still, where a job ended
pub kept_left : (items : List (List ℕ)) (e : EndedValue) (ks : List StoredPage) (pages : List PageValue) → AreKnownAs items ks pages → AreKnownAs items (filter (λ (k : StoredPage). not (ends e k.name)) ks) (without e pages)
kept_left items e [] [] are = tt
kept_left items e [] (p ∷ pages) are = absurd are
kept_left items e (k ∷ ks) [] are = absurd are
kept_left items e (k ∷ ks) (p ∷ pages) are =
    let left : List StoredPage = filter (λ (k : StoredPage). not (ends e k.name)) ks in
    let rest : AreKnownAs items left (without e pages) = kept_left items e ks pages are.1 in
    subst (λ (n : PageName). AreKnownAs items (cond (not (ends e n)) (k ∷ left) left) (without e (p ∷ pages))) (sym are.0.0)
    (elim (ends e (name_of p)) as (λ b. AreKnownAs items (cond (not b) (k ∷ left) left) (cond (not b) (p ∷ without e pages) (without e pages))) [ true ↦ rest | false ↦ (are.0, rest) ])

pub kept_left_all : (items : List (List ℕ)) (es : List EndedValue) (ks : List StoredPage) (pages : List PageValue) → AreKnownAs items ks pages → AreKnownAs items (known_without es ks) (without_all es pages)
kept_left_all items [] ks pages are = are
kept_left_all items (e ∷ es) ks pages are = kept_left_all items es (filter (λ (k : StoredPage). not (ends e k.name)) ks) (without e pages) (kept_left items e ks pages are)

pub no_pages : (items : List (List ℕ)) (pages : List PageValue) → AreKnownAs items [] pages → pages ≡ []
no_pages items [] are = refl
no_pages items (p ∷ pages) are = absurd are

pub none_kept : (items : List (List ℕ)) (ks : List StoredPage) → AreKnownAs items ks [] → ks ≡ []
none_kept items [] are = refl
none_kept items (k ∷ ks) are = absurd are

-- the same pages, in the same place
pub same_kept : (items : List (List ℕ)) (ks others : List StoredPage) (pages more : List PageValue) → others ≡ ks → more ≡ pages → AreKnownAs items ks pages → AreKnownAs items others more
same_kept items ks others pages more same are kept =
    subst (λ (l : List StoredPage). AreKnownAs items l more) (sym same) (subst (λ (l : List PageValue). AreKnownAs items ks l) (sym are) kept)

-- ---- where their records are

source_more : (items more : List (List ℕ)) (source : RecordSource) (page : PageValue) → IsRecordOf items source page → IsRecordOf (items ++ more) source page
source_more items more (Memory octets) page is = is
source_more items more (File place) page is = (is.0, stands_more items more place is.0 is.1, is.2)

-- records that are put leave those before them where they are
pub kept_more : (items more : List (List ℕ)) (ks : List StoredPage) (pages : List PageValue) → AreKnownAs items ks pages → AreKnownAs (items ++ more) ks pages
kept_more items more [] [] are = tt
kept_more items more [] (p ∷ pages) are = absurd are
kept_more items more (k ∷ ks) [] are = absurd are
kept_more items more (k ∷ ks) (p ∷ pages) are = ((are.0.0, source_more items more k.source p are.0.1), kept_more items more ks pages are.1)

memory_anywhere : (items others : List (List ℕ)) (source : RecordSource) (page : PageValue) → memory_has source ≡ true → IsRecordOf items source page → IsRecordOf others source page
memory_anywhere items others (Memory octets) page has is = is
memory_anywhere items others (File place) page has is = cc

both_true : (a b : Bool) → (a && b) ≡ true → (a ≡ true) × (b ≡ true)
both_true true b both = (refl, both)
both_true false b both = cc

-- of pages whose records are in memory, it does not matter what their file has
pub kept_anywhere : (items others : List (List ℕ)) (ks : List StoredPage) (pages : List PageValue) → list_all is_in_memory ks ≡ true → AreKnownAs items ks pages → AreKnownAs others ks pages
kept_anywhere items others [] [] all are = tt
kept_anywhere items others [] (p ∷ pages) all are = absurd are
kept_anywhere items others (k ∷ ks) [] all are = absurd are
kept_anywhere items others (k ∷ ks) (p ∷ pages) all are =
    let parts = both_true (is_in_memory k) (list_all is_in_memory ks) all in
    ((are.0.0, memory_anywhere items others k.source p parts.0 are.0.1), kept_anywhere items others ks pages parts.1 are.1)

-- nor of none
pub none_anywhere : (items others : List (List ℕ)) (ks : List StoredPage) → AreKnownAs items ks [] → AreKnownAs others ks []
none_anywhere items others [] are = tt
none_anywhere items others (k ∷ ks) are = absurd are

-- one page more is known
pub next_kept : (items : List (List ℕ)) (before after : List StoredPage) (k : StoredPage) (pages : List PageValue) (i : ℕ) (page : PageValue) → i < length pages → get_or pages i page ≡ page
    → after ≡ before ++ k ∷ [] → IsKnownAs items k page → AreKnownAs items before (take i pages) → AreKnownAs items after (take (i + 1) pages)
next_kept items before after k pages i page lt got pushed is was =
    same_kept items (before ++ k ∷ []) after (take i pages ++ page ∷ []) (take (i + 1) pages) pushed (take_more pages i page lt ∙ ap (λ (p : PageValue). take i pages ++ p ∷ []) got)
    (kept_append items before (k ∷ []) (take i pages) (page ∷ []) was (is, tt))

pub none_added : (before : List (List ℕ)) (items : List (Vec ℕ Global)) → items ≡ [] → before ++ map (λ (w : Vec ℕ Global). w.items) items ≡ before
none_added before items none = ap (λ (l : List (Vec ℕ Global)). before ++ map (λ (w : Vec ℕ Global). w.items) l) none ∙ append-nil before

-- one page more, whose record is put after the others
pub next_known :
    (before : List (List ℕ)) (items after : List (Vec ℕ Global)) (v : Vec ℕ Global) (item : List ℕ) (ks more : List StoredPage) (k : StoredPage) (pages : List PageValue) (i : ℕ) (page : PageValue) (at : ℕ) (place : RecordPlace)
    → after ≡ items ++ v ∷ [] → item ≡ v.items → more ≡ ks ++ k ∷ [] → i < length pages → get_or pages i page ≡ page → place.at ≡ at + 15 → place.octets ≡ length v.items → k.name ≡ name_of page
    → ((there : List (List ℕ)) → StandsAt there place item → IsRecordOf there k.source page)
    → at ≡ octets_of (before ++ map (λ (w : Vec ℕ Global). w.items) items) → AreKnownAs (before ++ map (λ (w : Vec ℕ Global). w.items) items) ks (take i pages)
    → (place.at + place.octets ≡ octets_of (before ++ map (λ (w : Vec ℕ Global). w.items) after)) × AreKnownAs (before ++ map (λ (w : Vec ℕ Global). w.items) after) more (take (i + 1) pages)
next_known before items after v item ks more k pages i page at place pushed is known lt got here size named source ends was =
    let rs : List (List ℕ) = before ++ map (λ (w : Vec ℕ Global). w.items) items in
    let same : before ++ map (λ (w : Vec ℕ Global). w.items) after ≡ rs ++ v.items ∷ [] =
    ap (λ (l : List (Vec ℕ Global)). before ++ map (λ (w : Vec ℕ Global). w.items) l) pushed ∙ ap (λ (l : List (List ℕ)). before ++ l) (map_push (λ (w : Vec ℕ Global). w.items) items v)
    ∙ sym (append_assoc before (map (λ (w : Vec ℕ Global). w.items) items) (v.items ∷ [])) in
    let stands : StandsAt (rs ++ v.items ∷ []) place v.items = stands_next rs [] place v.items (omega (arith, here, ends)) size in (
      omega (arith, here, ends, size, one_more rs v.items, ap octets_of same),
      subst (λ (l : List (List ℕ)). AreKnownAs l more (take (i + 1) pages)) (sym same)
          (next_kept (rs ++ v.items ∷ []) ks more k pages i page lt got known
          (named, source (rs ++ v.items ∷ []) (subst (λ (l : List ℕ). StandsAt (rs ++ v.items ∷ []) place l) (sym is) stands))
          (kept_more rs (v.items ∷ []) ks (take i pages) was)),
    )

-- which of the pages the one at a place is
pub kept_at : (items : List (List ℕ)) (ks : List StoredPage) (pages : List PageValue) (i : ℕ) (k : StoredPage) → AreKnownAs items ks pages → i < length ks → get_or ks i k ≡ k
    → (page : PageValue) × IsKnownAs items k page × (i < length pages) × (get_or pages i page ≡ page)
kept_at items [] pages i k are lt got = absurd (omega (arith, lt))
kept_at items (x ∷ ks) [] i k are lt got = absurd are
kept_at items (x ∷ ks) (p ∷ pages) zero k are lt got = (p, subst (λ (y : StoredPage). IsKnownAs items y p) got are.0, omega arith, refl)
kept_at items (x ∷ ks) (p ∷ pages) (suc i) k are lt got =
    let it = kept_at items ks pages i k are.1 (omega (arith, lt)) got in
    (it.0, it.1, omega (arith, it.2), it.3)

pub as_many : (items : List (List ℕ)) (ks : List StoredPage) (pages : List PageValue) → AreKnownAs items ks pages → length pages ≡ length ks
as_many items [] [] are = refl
as_many items [] (p ∷ pages) are = absurd are
as_many items (k ∷ ks) [] are = absurd are
as_many items (k ∷ ks) (p ∷ pages) are = omega (arith, as_many items ks pages are.1)

-- ---- records of pages after others

pub no_more : (f : PageValue → SpoolRecord) (items : List (List ℕ)) (records : List SpoolRecord) (pages : List PageValue) → AreReadAs items records → AreReadAs items (records ++ map f (take 0 pages))
no_more f items records pages are = subst (λ (l : List SpoolRecord). AreReadAs items l) (sym (append-nil records)) are

pub next_again : (f : PageValue → SpoolRecord) (before after : List (Vec ℕ Global)) (v : Vec ℕ Global) (records : List SpoolRecord) (pages : List PageValue) (i : ℕ) (page : PageValue) → i < length pages → get_or pages i page ≡ page
    → after ≡ before ++ v ∷ [] → IsReadAs v.items (f page) → AreReadAs (map (λ (w : Vec ℕ Global). w.items) before) (records ++ map f (take i pages))
    → AreReadAs (map (λ (w : Vec ℕ Global). w.items) after) (records ++ map f (take (i + 1) pages))
next_again f before after v records pages i page lt got pushed is was =
    let items : map (λ (w : Vec ℕ Global). w.items) after ≡ map (λ (w : Vec ℕ Global). w.items) before ++ v.items ∷ [] =
    ap (λ (l : List (Vec ℕ Global)). map (λ (w : Vec ℕ Global). w.items) l) pushed ∙ map_push (λ (w : Vec ℕ Global). w.items) before v in
    let more : records ++ map f (take (i + 1) pages) ≡ (records ++ map f (take i pages)) ++ f page ∷ [] =
    ap (λ (l : List PageValue). records ++ map f l) (take_more pages i page lt ∙ ap (λ (p : PageValue). take i pages ++ p ∷ []) got)
    ∙ ap (λ (l : List SpoolRecord). records ++ l) (map_push f (take i pages) page) ∙ sym (append_assoc records (map f (take i pages)) (f page ∷ [])) in
    subst (λ (l : List (List ℕ)). AreReadAs l (records ++ map f (take (i + 1) pages))) (sym items)
    (subst (λ (l : List SpoolRecord). AreReadAs (map (λ (w : Vec ℕ Global). w.items) before ++ v.items ∷ []) l) (sym more)
    (read_push (map (λ (w : Vec ℕ Global). w.items) before) (records ++ map f (take i pages)) v.items (f page) was is))

pub all_again : (f : PageValue → SpoolRecord) (items : List (List ℕ)) (records : List SpoolRecord) (pages : List PageValue) (i : ℕ) → length pages ≤ i → AreReadAs items (records ++ map f (take i pages)) → AreReadAs items (records ++ map f pages)
all_again f items records pages i all are = subst (λ (l : List PageValue). AreReadAs items (records ++ map f l)) (take_all i pages all) are

-- the ends of the pages of two files, and then the pages
pub again_split : (olds news : List PageValue) → ((map ended_alone olds ++ map ended_alone news) ++ map page_record olds) ++ map page_record news ≡ put_again (olds ++ news)
again_split olds news =
    append_assoc (map ended_alone olds ++ map ended_alone news) (map page_record olds) (map page_record news)
    ∙ ap (λ (l : List SpoolRecord). l ++ (map page_record olds ++ map page_record news)) (sym (map-append ended_alone olds news))
    ∙ ap (λ (l : List SpoolRecord). map ended_alone (olds ++ news) ++ l) (sym (map-append page_record olds news))
