-- Octets less the zeros of long fill.
use Rattle.std.proofs.Common.{◌≡◌, ℕ, zero, suc, ◌+◌, ◌-◌, ◌<◌, ◌≤◌, List, [], ◌∷◌, ◌++◌, length, take, drop, get_or, replicate, refl, sym, ◌∙◌, ap, subst, arith, append_assoc, append-nil, length-drop, inl, inr}
use Rattle.std.proofs.lemmas.List.{take_more, take_all, replicate_more}
use Rattle.std.proofs.lemmas.Bool.{cases_lt}
use Rattle.std.proofs.Math.Seq.{take-add}
use Rattle.fax_pagestore.specs.Fill.{zeros_with, zeros_after, kept_octet, less_fill}

pub zeros_after-append : (before : ℕ) (a b : List ℕ) → zeros_after before (a ++ b) ≡ zeros_after (zeros_after before a) b
unfolding zeros_after
zeros_after-append before [] b = refl
zeros_after-append before (octet ∷ a) b = zeros_after-append (zeros_with before octet) a b

pub less_fill-append : (before : ℕ) (a b : List ℕ) → less_fill before (a ++ b) ≡ less_fill before a ++ less_fill (zeros_after before a) b
unfolding less_fill zeros_after
less_fill-append before [] b = refl
less_fill-append before (octet ∷ a) b =
    ap (λ os. kept_octet before octet ++ os) (less_fill-append (zeros_with before octet) a b)
    ∙ sym (append_assoc (kept_octet before octet) (less_fill (zeros_with before octet) a) (less_fill (zeros_after (zeros_with before octet) a) b))

pub zeros_after-one : (before octet : ℕ) → zeros_after before (octet ∷ []) ≡ zeros_with before octet
unfolding zeros_after
zeros_after-one before octet = refl

pub less_fill-one : (before octet : ℕ) → less_fill before (octet ∷ []) ≡ kept_octet before octet
unfolding less_fill
less_fill-one before octet = append-nil (kept_octet before octet)

pub less_fill-none : (before : ℕ) → less_fill before [] ≡ []
unfolding less_fill
less_fill-none before = refl

pub zeros_after-none : (before : ℕ) → zeros_after before [] ≡ before
unfolding zeros_after
zeros_after-none before = refl

pub kept-some : (before octet : ℕ) → (octet ≡ 0 → before < 4) → kept_octet before octet ≡ octet ∷ []
unfolding kept_octet
kept-some before zero few = grind (arith, few refl)
kept-some before (suc n) few = refl

pub kept-none : (before octet : ℕ) → octet ≡ 0 → 4 ≤ before → kept_octet before octet ≡ []
unfolding kept_octet
kept-none before zero e many = grind (arith, many)
kept-none before (suc n) e many = absurd (omega (arith, e))

pub zeros-some : (before octet : ℕ) → (octet ≡ 0 → ⊥) → 0 ≡ zeros_with before octet
unfolding zeros_with
zeros-some before zero some = absurd (some refl)
zeros-some before (suc n) some = refl

pub zeros-more : (before octet : ℕ) → octet ≡ 0 → before < 4 → before + 1 ≡ zeros_with before octet
unfolding zeros_with
zeros-more before zero e few = grind (arith, few)
zeros-more before (suc n) e few = absurd (omega (arith, e))

pub zeros-most : (before octet : ℕ) → octet ≡ 0 → 4 ≤ before → before ≡ zeros_with before octet
unfolding zeros_with
zeros-most before zero e many = grind (arith, many)
zeros-most before (suc n) e many = absurd (omega (arith, e))

-- one octet more
pub zeros-step : (before : ℕ) (octets : List ℕ) (i count : ℕ) → i < length octets → count ≡ zeros_after before (take i octets)
    → zeros_with count (get_or octets i 0) ≡ zeros_after before (take (i + 1) octets)
zeros-step before octets i count inside e =
    ap (λ n. zeros_with n (get_or octets i 0)) e ∙ sym (zeros_after-one (zeros_after before (take i octets)) (get_or octets i 0))
    ∙ sym (zeros_after-append before (take i octets) (get_or octets i 0 ∷ [])) ∙ ap (zeros_after before) (sym (take_more octets i 0 inside))

-- one octet more that is kept
pub kept-step : (before : ℕ) (octets : List ℕ) (i count : ℕ) → i < length octets → count ≡ zeros_after before (take i octets) → (get_or octets i 0 ≡ 0 → count < 4)
    → less_fill before (take i octets) ≡ take i octets → less_fill before (take (i + 1) octets) ≡ take (i + 1) octets
kept-step before octets i count inside e few kept =
    let octet : ℕ = get_or octets i 0 in
    let one : less_fill (zeros_after before (take i octets)) (octet ∷ []) ≡ octet ∷ [] =
    ap (λ n. less_fill n (octet ∷ [])) (sym e) ∙ less_fill-one count octet ∙ kept-some count octet few in
    ap (less_fill before) (take_more octets i 0 inside) ∙ less_fill-append before (take i octets) (octet ∷ []) ∙ ap (λ os. os ++ less_fill (zeros_after before (take i octets)) (octet ∷ [])) kept
    ∙ ap (λ os. take i octets ++ os) one ∙ sym (take_more octets i 0 inside)

-- octets from a place on of which none is 0
abbrev pub AreSome : List ℕ → ℕ → ℕ → Type 0
AreSome octets from end = (i : ℕ) → from ≤ i → i < end → 0 < get_or octets i 0

-- All of them are kept, and none of zeros stands at their end.
pub some-kept : (before : ℕ) (octets : List ℕ) (i k : ℕ) → i + k ≤ length octets → AreSome octets i (i + k)
    → less_fill before (take i octets) ≡ take i octets → (less_fill before (take (i + k) octets) ≡ take (i + k) octets) × (0 < k → 0 ≡ zeros_after before (take (i + k) octets))
some-kept before octets i zero inside some kept =
    let same : i + zero ≡ i = omega arith in
    (subst (λ n. less_fill before (take n octets) ≡ take n octets) (sym same) kept, λ none. absurd (omega (arith, none)))
some-kept before octets i (suc k) inside some kept =
    let size : i + k + 1 ≡ i + suc k = omega arith in
    let here : i + k < length octets = omega (arith, inside) in
    let one : 0 < get_or octets (i + k) 0 = some (i + k) (omega arith) (omega arith) in
    let octet : get_or octets (i + k) 0 ≡ 0 → ⊥ = λ e. omega (arith, one, e) in
    let so_far = (some-kept before octets i k (omega (arith, inside)) (λ j from end. some j from (omega (arith, end))) kept).0 in
    let count : ℕ = zeros_after before (take (i + k) octets) in (
      subst (λ n. less_fill before (take n octets) ≡ take n octets) size (kept-step before octets (i + k) count here refl (λ e. absurd (octet e)) so_far),
      λ _. zeros-some count (get_or octets (i + k) 0) octet ∙ zeros-step before octets (i + k) count here refl ∙ ap (λ n. zeros_after before (take n octets)) size,
    )

-- ---- octets of zeros after as many as are kept

zeros_dropped : (count n : ℕ) → 4 ≤ count → less_fill count (replicate n 0) ≡ []
unfolding less_fill
zeros_dropped count zero many = refl
zeros_dropped count (suc n) many =
    ap (λ os. os ++ less_fill (zeros_with count 0) (replicate n 0)) (kept-none count 0 refl many) ∙ ap (λ z. less_fill z (replicate n 0)) (sym (zeros-most count 0 refl many)) ∙ zeros_dropped count n many

zeros_stay : (count n : ℕ) → 4 ≤ count → zeros_after count (replicate n 0) ≡ count
unfolding zeros_after
zeros_stay count zero many = refl
zeros_stay count (suc n) many = ap (λ z. zeros_after z (replicate n 0)) (sym (zeros-most count 0 refl many)) ∙ zeros_stay count n many

-- of octets of zeros no more are kept than are missing to four
pub few_zeros_kept : (count n : ℕ) → length (less_fill count (replicate n 0)) + (4 - zeros_after count (replicate n 0)) ≤ 4 - count
few_zeros_kept count zero = omega (arith, ap length (less_fill-none count), zeros_after-none count)
few_zeros_kept count (suc n) = elim (cases_lt count 4) [
  | inl few ↦
      let one : less_fill count (0 ∷ []) ≡ 0 ∷ [] = less_fill-one count 0 ∙ kept-some count 0 (λ _. few) in
      let next : zeros_after count (0 ∷ []) ≡ count + 1 = zeros_after-one count 0 ∙ sym (zeros-more count 0 refl few) in
      let less : less_fill count (replicate (suc n) 0) ≡ 0 ∷ less_fill (count + 1) (replicate n 0) =
      less_fill-append count (0 ∷ []) (replicate n 0) ∙ ap (λ os. os ++ less_fill (zeros_after count (0 ∷ [])) (replicate n 0)) one ∙ ap (λ z. 0 ∷ less_fill z (replicate n 0)) next in
      let after : zeros_after count (replicate (suc n) 0) ≡ zeros_after (count + 1) (replicate n 0) = zeros_after-append count (0 ∷ []) (replicate n 0) ∙ ap (λ z. zeros_after z (replicate n 0)) next in
      omega (arith, ap length less, after, few, few_zeros_kept (count + 1) n)
  | inr many ↦ omega (arith, ap length (zeros_dropped count (suc n) many), zeros_stay count (suc n) many)
]

-- ---- a piece gone over in spans: octets that are kept, and octets of zeros after them that are not

-- What was added of the octets before a place, and how many of zeros stand at their end.
pub record AddedUpTo (before : ℕ) (piece old items : List ℕ) (place count : ℕ) : Type 0 where
  pub within : place ≤ length piece
  pub items_are : items ≡ old ++ less_fill before (take place piece)
  pub count_is : count ≡ zeros_after before (take place piece)

pub AddedUpTo-none : (before : ℕ) (piece old : List ℕ) → AddedUpTo before piece old old 0 before
AddedUpTo-none before piece old = record {
  within = omega arith;
  items_are = sym (append-nil old) ∙ ap (λ os. old ++ os) (sym (less_fill-none before));
  count_is = sym (zeros_after-none before);
}

-- Octets that are kept.
added_kept : (before : ℕ) (piece old items new : List ℕ) (place count k next : ℕ) → AddedUpTo before piece old items place count → place + k ≤ length piece
    → less_fill count (take k (drop place piece)) ≡ take k (drop place piece) → next ≡ zeros_after count (take k (drop place piece))
    → new ≡ items ++ take k (drop place piece) → AddedUpTo before piece old new (place + k) next
added_kept before piece old items new place count k next so inside kept is e =
    let front : List ℕ = take place piece in
    let span : List ℕ = take k (drop place piece) in
    let whole : take (place + k) piece ≡ front ++ span = take-add place k piece in
    record {
      within = inside;
      items_are = e ∙ ap (λ os. os ++ span) so.items_are ∙ append_assoc old (less_fill before front) span
          ∙ ap (λ os. old ++ (less_fill before front ++ os)) (sym kept ∙ ap (λ n. less_fill n span) so.count_is)
          ∙ ap (λ os. old ++ os) (sym (less_fill-append before front span) ∙ ap (less_fill before) (sym whole));
      count_is = is ∙ ap (λ n. zeros_after n span) so.count_is ∙ sym (zeros_after-append before front span) ∙ ap (zeros_after before) (sym whole);
    }

-- Octets of zeros that are not.
added_zeros : (before : ℕ) (piece old items : List ℕ) (end count n : ℕ) → AddedUpTo before piece old items end count → end + n ≤ length piece
    → take n (drop end piece) ≡ replicate n 0 → (0 < n → 4 ≤ count) → AddedUpTo before piece old items (end + n) count
added_zeros before piece old items end count zero so inside zeros many =
    let same : end ≡ end + 0 = omega arith in
    subst (λ k. AddedUpTo before piece old items k count) same so
added_zeros before piece old items end count (suc n) so inside zeros many =
    let front : List ℕ = take end piece in
    let full : 4 ≤ count = many (omega arith) in
    let whole : take (end + suc n) piece ≡ front ++ replicate (suc n) 0 = take-add end (suc n) piece ∙ ap (λ os. front ++ os) zeros in
    let none : less_fill (zeros_after before front) (replicate (suc n) 0) ≡ [] = ap (λ z. less_fill z (replicate (suc n) 0)) (sym so.count_is) ∙ zeros_dropped count (suc n) full in
    record {
      within = inside;
      items_are = so.items_are
          ∙ ap (λ os. old ++ os) (sym (append-nil (less_fill before front)) ∙ ap (λ os. less_fill before front ++ os) (sym none) ∙ sym (less_fill-append before front (replicate (suc n) 0))
          ∙ ap (less_fill before) (sym whole));
      count_is = sym (zeros_stay count (suc n) full) ∙ ap (λ z. zeros_after z (replicate (suc n) 0)) so.count_is
          ∙ sym (zeros_after-append before front (replicate (suc n) 0)) ∙ ap (zeros_after before) (sym whole);
    }

-- One span.
pub AddedUpTo-span : (before : ℕ) (piece old items new : List ℕ) (place count k next n : ℕ) → AddedUpTo before piece old items place count → place + k + n ≤ length piece
    → less_fill count (take k (drop place piece)) ≡ take k (drop place piece) → next ≡ zeros_after count (take k (drop place piece))
    → new ≡ items ++ take k (drop place piece) → take n (drop (place + k) piece) ≡ replicate n 0 → (0 < n → 4 ≤ next) → AddedUpTo before piece old new (place + k + n) next
AddedUpTo-span before piece old items new place count k next n so inside kept is e zeros many =
    added_zeros before piece old new (place + k) next n (added_kept before piece old items new place count k next so (omega (arith, inside)) kept is e) inside zeros many

-- all of it
pub AddedUpTo-all : (before : ℕ) (piece old items : List ℕ) (place count : ℕ) → AddedUpTo before piece old items place count → length piece ≤ place
    → (items ≡ old ++ less_fill before piece) × (count ≡ zeros_after before piece)
AddedUpTo-all before piece old items place count so all =
    let whole : take place piece ≡ piece = take_all place piece all in
    (so.items_are ∙ ap (λ os. old ++ less_fill before os) whole, so.count_is ∙ ap (zeros_after before) whole)

-- one octet of zeros more in front
pub zeros-in_front : (octets : List ℕ) (i : ℕ) → i < length octets → get_or octets i 0 ≡ 0 → take i octets ≡ replicate i 0 → take (i + 1) octets ≡ replicate (i + 1) 0
zeros-in_front octets i inside none zeros =
    take_more octets i 0 inside ∙ ap (λ os. os ++ get_or octets i 0 ∷ []) zeros ∙ ap (λ n. replicate i 0 ++ n ∷ []) none ∙ replicate_more i 0

-- the octets from a place on, as a slice
pub slice_from : (piece : List ℕ) (place : ℕ) → take (length piece - place) (drop place piece) ≡ drop place piece
slice_from piece place = take_all (length piece - place) (drop place piece) (omega (arith, length-drop place piece))
