-- Rows that share one list of changing places: what more places leave, and one more row.
use Rattle.std.proofs.Common.{◌≡◌, ℕ, ◌+◌, ◌<◌, ◌≤◌, ◌⊎◌, inl, inr, List, [], ◌∷◌, ◌++◌, All, length, take, drop, map, get_or, suc, refl, sym, ◌∙◌, ap, subst, arith, length-append}
use Rattle.std.proofs.Math.Seq.{drop-append_seam, take-length, get_or-append_seam}
use Rattle.std.proofs.lemmas.List.{map-append, take-map, take-append-drop, length-take-le, get_or-take, get_or_append_left}
use Rattle.std.proofs.lemmas.List.Elements.{All-push, All-weaker}
use Rattle.fax_bits.proofs.BitsLemmas.{take-drop-append}
use Rattle.fax_runcodes.specs.declared.Colour.TheVariants.{White}
use Rattle.fax_runcodes.specs.Rows.{Elements, IsWidth}
use Rattle.fax_runcodes.specs.Painted.{painted, AreRising}
use Rattle.fax_pagestore.specs.declared.store.packed.Extent.{Extent}
use Rattle.fax_pagestore.specs.PackedRows.{places_at, row_at, HasRowAt, AreInOrder}

-- an extent within the places
abbrev pub HasExtent : List ℕ → Extent → Type 0
HasExtent places e = HasRowAt places e.start e.count e.width

-- the row of an extent
abbrev pub row_of : List ℕ → Extent → Elements
row_of places e = row_at places e.start e.count e.width

-- more places after
places_at-more : (places more : List ℕ) (start count : ℕ) → start + count ≤ length places
    → places_at (places ++ more) start count ≡ places_at places start count
places_at-more places more start count le = take-drop-append count start places more le

HasExtent-more : (places more : List ℕ) (e : Extent) → HasExtent places e → HasExtent (places ++ more) e
HasExtent-more places more e has = record {
  within = let longer = length-append places more in let le = has.within in omega arith;
  rising = subst (λ ps. AreRising 0 ps e.width) (sym (places_at-more places more e.start e.count has.within)) has.rising;
  is_width = has.is_width;
}

row_of-more : (places more : List ℕ) (e : Extent) → HasExtent places e → row_of (places ++ more) e ≡ row_of places e
row_of-more places more e has = ap (λ ps. painted White 0 ps e.width) (places_at-more places more e.start e.count has.within)

-- the places that stand after the others
places_at-new : (places changes : List ℕ) → places_at (places ++ changes) (length places) (length changes) ≡ changes
places_at-new places changes = ap (take (length changes)) (drop-append_seam places changes) ∙ take-length changes

-- equal values at each element
map_same : {X Y : Type 0} (P : X → Type 0) (f g : X → Y) → ((x : X) → P x → f x ≡ g x) → (xs : List X) → All P xs → map f xs ≡ map g xs
map_same P f g same [] all = refl
map_same P f g same (x ∷ xs) all =
    ap (λ y. y ∷ map f xs) (same x (all 0 x (omega arith)))
    ∙ ap (λ ys. g x ∷ ys) (map_same P f g same xs (λ k d lt. all (suc k) d (omega arith)))

-- an extent is that of new places after the others
pub record IsNewExtent (places changes : List ℕ) (width : ℕ) (e : Extent) : Type 0 where
  pub start : e.start ≡ length places
  pub count : e.count ≡ length changes
  pub wide : e.width ≡ width

new_places : (places changes : List ℕ) (width : ℕ) (e : Extent) → IsNewExtent places changes width e
    → places_at (places ++ changes) e.start e.count ≡ changes
new_places places changes width e is =
    ap (λ n. places_at (places ++ changes) n e.count) is.start ∙ ap (λ n. places_at (places ++ changes) (length places) n) is.count ∙ places_at-new places changes

-- One more extent, of new places after the others.
pub HasExtents-push : (places changes : List ℕ) (width : ℕ) (extents : List Extent) (e : Extent) → IsNewExtent places changes width e
    → AreRising 0 changes width → IsWidth width → All (λ x. HasExtent places x) extents → All (λ x. HasExtent (places ++ changes) x) (extents ++ e ∷ [])
HasExtents-push places changes width extents e is rising wide all =
    let has : HasExtent (places ++ changes) e = record {
      within = let longer = length-append places changes in let start = is.start in let count = is.count in omega arith;
      rising = rw (new_places places changes width e is, is.wide) rising;
      is_width = rw is.wide wide;
    } in
    All-push (λ x. HasExtent (places ++ changes) x) extents e
    (All-weaker (λ x. HasExtent places x) (λ x. HasExtent (places ++ changes) x) (λ x has. HasExtent-more places changes x has) extents all) has

pub rows_of-push : (places changes : List ℕ) (width : ℕ) (extents : List Extent) (e : Extent) (row : Elements) → IsNewExtent places changes width e
    → row ≡ painted White 0 changes width → All (λ x. HasExtent places x) extents
    → map (λ x. row_of (places ++ changes) x) (extents ++ e ∷ []) ≡ map (λ x. row_of places x) extents ++ row ∷ []
rows_of-push places changes width extents e row is row_is all =
    let new : row_of (places ++ changes) e ≡ row =
    ap (λ ps. painted White 0 ps e.width) (new_places places changes width e is) ∙ ap (λ w. painted White 0 changes w) is.wide ∙ sym row_is in
    map-append (λ x. row_of (places ++ changes) x) extents (e ∷ [])
    ∙ ap (λ rows. rows ++ row_of (places ++ changes) e ∷ [])
    (map_same (λ x. HasExtent places x) (λ x. row_of (places ++ changes) x) (λ x. row_of places x) (λ x has. row_of-more places changes x has) extents all)
    ∙ ap (λ r. map (λ x. row_of places x) extents ++ r ∷ []) new

-- an extent after all others
below_or_last : (k n : ℕ) → k < n + 1 → (k < n) ⊎ (k ≡ n)
below_or_last k n lt = grind arith

pub AreInOrder-push : (places : List ℕ) (extents : List Extent) (e : Extent) → e.start ≡ length places
    → All (λ x. HasExtent places x) extents → AreInOrder extents → AreInOrder (extents ++ e ∷ [])
AreInOrder-push places extents e start all order j k d jk lt =
    let longer : length (extents ++ e ∷ []) ≡ length extents + 1 = length-append extents (e ∷ []) in
    elim (below_or_last k (length extents) (omega arith)) [
      | inl below ↦ rw (get_or_append_left extents (e ∷ []) d j (omega arith), get_or_append_left extents (e ∷ []) d k below) (order j k d jk below)
      | inr last ↦ let inside : j < length extents = omega arith in
          let within = (all j d inside).within in
          rw (last, get_or-append_seam extents e [] d, get_or_append_left extents (e ∷ []) d j inside, start) within
    ]

-- the extents before one stand before its places
AreBefore : (extents : List Extent) (n : ℕ) (e d : Extent) → n < length extents → get_or extents n d ≡ e → AreInOrder extents
    → (k : ℕ) → k < n → (get_or extents k d).start + (get_or extents k d).count ≤ e.start
AreBefore extents n e d lt is order k kn = subst (λ (x : Extent). (get_or extents k d).start + (get_or extents k d).count ≤ x.start) is (order k n d kn lt)

-- the first places
places_at-cut : (places : List ℕ) (m start count : ℕ) → start + count ≤ m → m ≤ length places
    → places_at (take m places) start count ≡ places_at places start count
places_at-cut places m start count within le =
    let len = length-take-le m places le in
    sym (subst (λ (ps : List ℕ). places_at ps start count ≡ places_at (take m places) start count) (take-append-drop m places)
    (places_at-more (take m places) (drop m places) start count (omega arith)))

-- an extent within the first places
pub record HasExtentBelow (places : List ℕ) (m : ℕ) (e : Extent) : Type 0 where
  pub has : HasExtent places e
  pub below : e.start + e.count ≤ m
  pub inside : m ≤ length places

HasExtent-cut : (places : List ℕ) (m : ℕ) (e : Extent) → HasExtentBelow places m e → HasExtent (take m places) e
HasExtent-cut places m e has = record {
  within = let len = length-take-le m places has.inside in let le = has.below in omega arith;
  rising = subst (λ (ps : List ℕ). AreRising 0 ps e.width) (sym (places_at-cut places m e.start e.count has.below has.inside)) has.has.rising;
  is_width = has.has.is_width;
}

row_of-cut : (places : List ℕ) (m : ℕ) (e : Extent) → HasExtentBelow places m e → row_of (take m places) e ≡ row_of places e
row_of-cut places m e has = ap (λ (ps : List ℕ). painted White 0 ps e.width) (places_at-cut places m e.start e.count has.below has.inside)

-- the first extents of some, of which the next is this
pub record IsNext (places : List ℕ) (extents : List Extent) (n : ℕ) (e : Extent) : Type 0 where
  pub inside : n < length extents
  pub is : (d : Extent) → get_or extents n d ≡ e
  pub all : All (λ x. HasExtent places x) extents
  pub order : AreInOrder extents

HasExtentsBelow-cut : (places : List ℕ) (extents : List Extent) (n : ℕ) (e : Extent) → IsNext places extents n e
    → All (λ x. HasExtentBelow places e.start x) (take n extents)
HasExtentsBelow-cut places extents n e next k d lt =
    let inside = next.inside in
    let first : length (take n extents) ≡ n = length-take-le n extents (omega arith) in
    let kn : k < n = omega arith in
    let own : HasExtent places e = subst (λ (x : Extent). HasExtent places x) (next.is d) (next.all n d inside) in
    rw (get_or-take n extents k d kn) record {
      has = next.all k d (omega arith);
      below = AreBefore extents n e d inside (next.is d) next.order k kn;
      inside = let within = own.within in omega arith;
    }

-- The first extents keep their rows where the places of the next and of those after it go.
pub HasExtents-cut : (places : List ℕ) (extents : List Extent) (n : ℕ) (e : Extent) → IsNext places extents n e
    → All (λ x. HasExtent (take e.start places) x) (take n extents)
HasExtents-cut places extents n e next =
    All-weaker (λ x. HasExtentBelow places e.start x) (λ x. HasExtent (take e.start places) x) (λ x has. HasExtent-cut places e.start x has) (take n extents)
    (HasExtentsBelow-cut places extents n e next)

pub AreInOrder-cut : (extents : List Extent) (n : ℕ) → n < length extents → AreInOrder extents → AreInOrder (take n extents)
AreInOrder-cut extents n inside order j k d jk lt =
    let first : length (take n extents) ≡ n = length-take-le n extents (omega arith) in
    rw (get_or-take n extents j d (omega arith), get_or-take n extents k d (omega arith)) (order j k d jk (omega arith))

pub rows_of-cut : (places : List ℕ) (extents : List Extent) (n : ℕ) (e : Extent) → IsNext places extents n e
    → map (λ x. row_of (take e.start places) x) (take n extents) ≡ take n (map (λ x. row_of places x) extents)
rows_of-cut places extents n e next =
    map_same (λ x. HasExtentBelow places e.start x) (λ x. row_of (take e.start places) x) (λ x. row_of places x)
    (λ x has. row_of-cut places e.start x has) (take n extents) (HasExtentsBelow-cut places extents n e next)
    ∙ sym (take-map (λ x. row_of places x) n extents)
