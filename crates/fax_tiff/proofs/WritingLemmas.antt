-- Pages that are added to a TIFF, one after the other.
use Rattle.std.proofs.Common.{◌≡◌, ℕ, ◌+◌, ◌<◌, ◌≤◌, ◌==◌, Bool, if◌then◌else◌, List, [], ◌∷◌, ◌++◌, length, get_or, drop, refl, sym, ◌∙◌, ap, subst, arith, append_assoc, length-append, length-drop}
use Rattle.std.proofs.Math.Dec.{eqb-suc-zero}
use Rattle.std.proofs.lemmas.List.{drop_more}
use Rattle.fax_tiff.specs.Strips.{CodedPage}
use Rattle.fax_tiff.specs.WrittenTiffs.{end_of_page, field_octets, fields_of, file_head, fraction, head_octets, next_after, pages_from, tiff_of, value_octets}

-- How many octets stand before a strip.
pub length-head : (place number total next : ℕ) (page : CodedPage) → length (head_octets place number total next page) ≡ 214
unfolding head_octets fields_of field_octets value_octets fraction
length-head place number total next page = refl

next_of : (rest : List CodedPage) (end : ℕ) (b : Bool) → b ≡ (length rest == 0) → (if b then 0 else end) ≡ next_after end rest
next_of [] end b e = ap (λ (t : Bool). if t then 0 else end) e
next_of (page ∷ rest) end b e = ap (λ (t : Bool). if t then 0 else end) (e ∙ eqb-suc-zero (length rest))

is_last : (pages : List CodedPage) (i : ℕ) → i < length pages → (i + 1 == length pages) ≡ (length (drop (i + 1) pages) == 0)
is_last pages i l = grind (arith, l, length-drop (i + 1) pages)

-- the page at an index and those after it
at_page : (pages : List CodedPage) (i : ℕ) (page : CodedPage) → i < length pages → page ≡ get_or pages i page → drop i pages ≡ page ∷ drop (i + 1) pages
at_page pages i page l is = drop_more pages i page l ∙ ap (λ (p : CodedPage). p ∷ drop (i + 1) pages) (sym is)

-- where a page ends that is added
end_is : (octets new head : List ℕ) (page : CodedPage) → length head ≡ 214 → new ≡ octets ++ (head ++ page.strip) → length new ≡ end_of_page (length octets) page
end_is octets new head page size e =
    ap length e ∙ length-append octets (head ++ page.strip) ∙ ap (λ (n : ℕ). length octets + n) (length-append head page.strip ∙ ap (λ (n : ℕ). n + length page.strip) size) ∙ omega arith

-- One page was added: with those that are left it is all of them, as before.
pub one_page_more : (pages : List CodedPage) (i total : ℕ) (page : CodedPage) (octets new : List ℕ) (b : Bool) → i < length pages → page ≡ get_or pages i page
    → b ≡ (i + 1 == length pages)
    → new ≡ octets ++ (head_octets (length octets) i total (if b then 0 else end_of_page (length octets) page) page ++ page.strip)
    → new ++ pages_from (length new) (i + 1) total (drop (i + 1) pages) ≡ octets ++ pages_from (length octets) i total (drop i pages)
one_page_more pages i total page octets new b l is last e =
    let rest : List CodedPage = drop (i + 1) pages in
    let end : ℕ = end_of_page (length octets) page in
    let head : List ℕ = head_octets (length octets) i total (next_after end rest) page in
    let next : (if b then 0 else end) ≡ next_after end rest = next_of rest end b (last ∙ is_last pages i l) in
    let put : new ≡ octets ++ (head ++ page.strip) = e ∙ ap (λ (n : ℕ). octets ++ (head_octets (length octets) i total n page ++ page.strip)) next in
    let size : length new ≡ end = end_is octets new head page (length-head (length octets) i total (next_after end rest) page) put in
    ap (λ (n : ℕ). new ++ pages_from n (i + 1) total rest) size
    ∙ ap (λ (o : List ℕ). o ++ pages_from end (i + 1) total rest) put
    ∙ append_assoc octets (head ++ page.strip) (pages_from end (i + 1) total rest)
    ∙ ap (λ (p : List CodedPage). octets ++ pages_from (length octets) i total p) (sym (at_page pages i page l is))

-- The page at an index does not fit: no more do all of them.
pub too_long : (pages : List CodedPage) (i total : ℕ) (page : CodedPage) (octets : List ℕ) → i < length pages → page ≡ get_or pages i page
    → end_of_page (length octets) page ≤ length (octets ++ pages_from (length octets) i total (drop i pages))
too_long pages i total page octets l is =
    let rest : List CodedPage = drop (i + 1) pages in
    let end : ℕ = end_of_page (length octets) page in
    let head : List ℕ = head_octets (length octets) i total (next_after end rest) page in
    let more : List ℕ = pages_from end (i + 1) total rest in
    subst (λ (p : List CodedPage). end ≤ length (octets ++ pages_from (length octets) i total p)) (sym (at_page pages i page l is))
    (omega (arith, length-append octets (head ++ page.strip ++ more), length-append (head ++ page.strip) more, length-append head page.strip, length-head (length octets) i total (next_after end rest) page))

-- where an added page ends
pub added_end : (octets new : List ℕ) (place number total next : ℕ) (page : CodedPage) → new ≡ octets ++ (head_octets place number total next page ++ page.strip)
    → length new ≡ end_of_page (length octets) page
added_end octets new place number total next page e = end_is octets new (head_octets place number total next page) page (length-head place number total next page) e

-- ---- the file

eight : length file_head ≡ 8
unfolding file_head
eight = refl

-- the head of a file and all its pages are the file
pub whole_file : (pages : List CodedPage) (total : ℕ) (head : List ℕ) → head ≡ file_head → total ≡ length pages → head ++ pages_from (length head) 0 total pages ≡ tiff_of pages
unfolding tiff_of
whole_file pages total head h t =
    ap (λ (o : List ℕ). o ++ pages_from (length o) 0 total pages) h ∙ ap (λ (n : ℕ). file_head ++ pages_from n 0 total pages) eight
    ∙ ap (λ (n : ℕ). file_head ++ pages_from 8 0 n pages) t
