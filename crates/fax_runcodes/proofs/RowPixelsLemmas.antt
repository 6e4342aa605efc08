-- The picture elements of a row, black run by black run.
use Rattle.std.proofs.Common.{◌≡◌, ℕ, zero, suc, ◌+◌, ◌-◌, ◌*◌, ◌%◌, ◌<◌, ◌≤◌, Bool, true, false, List, [], ◌∷◌, ◌++◌, length, take, drop, get_or, map, replicate, length-append, ◌≢◌, inl, inr, refl, sym, ◌∙◌, ap, subst, arith, append_assoc}
use Rattle.std.proofs.lemmas.List.{take_more, take_at, drop_at, take_all, get_or-take, length-take-le, length-replicate, replicate-append-replicate, append-nil, map-append, take-map, drop-map}
use Rattle.fax_bits.specs.Bits.{bits_of}
use Rattle.fax_bits.proofs.CutLemmas.{bits_of-zeros}
use Rattle.fax_runcodes.specs.declared.Colour.{Colour}
use Rattle.fax_runcodes.specs.declared.Colour.TheVariants.{White, Black}
use Rattle.fax_runcodes.specs.Pixels.{pixel}
use Rattle.fax_runcodes.specs.Rows.{Elements, IsWidth, other}
use Rattle.fax_runcodes.specs.Painted.{painted, AreRising}
use Rattle.fax_runcodes.proofs.PaintedLemmas.{after_even, after_odd, painted-same, painted-other, length-painted_all, rising_le, rising_push}

pub map_pixel_replicate : (n : ℕ) (colour : Colour) → map pixel (replicate n colour) ≡ replicate n (pixel colour)
map_pixel_replicate zero colour = refl
map_pixel_replicate (suc n) colour = ap (λ (bits : List Bool). pixel colour ∷ bits) (map_pixel_replicate n colour)

-- ---- rising places: each is after the one before it, and before the end

rising_at : (from : ℕ) (ps : List ℕ) (end i : ℕ) → i < length ps → AreRising from ps end → (from ≤ get_or ps i 0) × (get_or ps i 0 < end)
unfolding AreRising
rising_at from [] end i within r = absurd (omega arith)
rising_at from (p ∷ ps) end zero within r = let here : from ≤ p = r.0 in let past : p + 1 ≤ end = rising_le (p + 1) ps end r.1 in (here, omega arith)
rising_at from (p ∷ ps) end (suc i) within r =
    let rest : (p + 1 ≤ get_or ps i 0) × (get_or ps i 0 < end) = rising_at (p + 1) ps end i (omega arith) r.1 in
    let here : from ≤ p = r.0 in
    (let past : p + 1 ≤ get_or ps i 0 = rest.0 in omega arith, rest.1)

pub rising_before_end : (ps : List ℕ) (end i : ℕ) → i < length ps → AreRising 0 ps end → get_or ps i 0 < end
rising_before_end ps end i within r = (rising_at 0 ps end i within r).1

-- the places before one rise up to it
pub rising_front : (from : ℕ) (ps : List ℕ) (end i : ℕ) → i < length ps → AreRising from ps end → AreRising from (take i ps) (get_or ps i 0)
unfolding AreRising
rising_front from [] end i within r = absurd (omega arith)
rising_front from (p ∷ ps) end zero within r = r.0
rising_front from (p ∷ ps) end (suc i) within r = (r.0, rising_front (p + 1) ps end i (omega arith) r.1)

pub rising_next : (ps : List ℕ) (end i : ℕ) → i + 1 < length ps → AreRising 0 ps end → get_or ps i 0 < get_or ps (i + 1) 0
rising_next ps end i within r =
    let here : i < length ps = omega arith in
    let front : AreRising 0 (take (i + 1) ps) (get_or ps (i + 1) 0) = rising_front 0 ps end (i + 1) within r in
    let size : length (take (i + 1) ps) ≡ i + 1 = length-take-le (i + 1) ps (omega arith) in
    let last : get_or (take (i + 1) ps) i 0 < get_or ps (i + 1) 0 = rising_before_end (take (i + 1) ps) (get_or ps (i + 1) 0) i (omega arith) front in
    subst (λ (n : ℕ). n < get_or ps (i + 1) 0) (get_or-take (i + 1) ps i 0 (omega arith)) last

-- ---- elements blackened from one place to another

-- bits set are elements blackened
pub set_is_blackened : (bits : List Bool) (es : Elements) (from to : ℕ) → bits ≡ map pixel es
    → take from bits ++ (replicate (to - from) true ++ drop to bits) ≡ map pixel (take from es ++ (replicate (to - from) Black ++ drop to es))
set_is_blackened bits es from to e =
    rw e (sym (map-append pixel (take from es) (replicate (to - from) Black ++ drop to es)
    ∙ ap (λ (b : List Bool). map pixel (take from es) ++ b) (map-append pixel (replicate (to - from) Black) (drop to es))
    ∙ ap (λ (b : List Bool). map pixel (take from es) ++ (b ++ map pixel (drop to es))) (map_pixel_replicate (to - from) Black)
    ∙ ap (λ (b : List Bool). b ++ (replicate (to - from) true ++ map pixel (drop to es))) (sym (take-map pixel from es))
    ∙ ap (λ (b : List Bool). take from (map pixel es) ++ (replicate (to - from) true ++ b)) (sym (drop-map pixel to es))))

-- what stands before a place after which all is white, and after a later place
white_after : (ps : List ℕ) (from to end : ℕ) → AreRising 0 ps from → length ps % 2 ≡ 0 → from ≤ to → to ≤ end
    → take from (painted White 0 ps end) ++ (replicate (to - from) Black ++ drop to (painted White 0 ps end))
    ≡ painted White 0 ps from ++ (replicate (to - from) Black ++ replicate (end - to) White)
white_after ps from to end r even order within =
    let size : length (painted White 0 ps from) ≡ from = length-painted_all ps from r in
    let sum : from + (end - from) ≡ end = omega arith in
    let parts : end - from ≡ (to - from) + (end - to) = omega arith in
    let front : List Colour = painted White 0 ps from in
    let whole : painted White 0 ps end ≡ front ++ replicate (end - from) White =
    ap (λ n. painted White 0 ps n) (sym sum) ∙ painted-same ps from (end - from) White r (sym (after_even (length ps) even)) in
    let split : replicate (end - from) White ≡ replicate (to - from) White ++ replicate (end - to) White =
    ap (λ n. replicate n White) parts ∙ sym (replicate-append-replicate (to - from) (end - to) White) in
    let later : painted White 0 ps end ≡ (front ++ replicate (to - from) White) ++ replicate (end - to) White =
    whole ∙ ap (λ (es : Elements). front ++ es) split ∙ sym (append_assoc front (replicate (to - from) White) (replicate (end - to) White)) in
    let reach : length (front ++ replicate (to - from) White) ≡ to = omega (arith, length-append front (replicate (to - from) White), length-replicate (to - from) White) in
    ap (λ (es : Elements). es ++ (replicate (to - from) Black ++ drop to (painted White 0 ps end)))
    (ap (take from) whole ∙ take_at front (replicate (end - from) White) from size)
    ∙ ap (λ (es : Elements). front ++ (replicate (to - from) Black ++ es)) (ap (drop to) later ∙ drop_at (front ++ replicate (to - from) White) (replicate (end - to) White) to reach)

-- a black run that ends at the end
pub painted_black : (ps : List ℕ) (from end : ℕ) → AreRising 0 ps from → length ps % 2 ≡ 0 → from ≤ end
    → take from (painted White 0 ps end) ++ (replicate (end - from) Black ++ drop end (painted White 0 ps end)) ≡ painted White 0 (ps ++ from ∷ []) end
painted_black ps from end r even order =
    let sum : from + (end - from) ≡ end = omega arith in
    let none : end - end ≡ 0 = omega arith in
    let black : painted White 0 (ps ++ from ∷ []) (from + (end - from)) ≡ painted White 0 ps from ++ replicate (end - from) Black =
    painted-other ps from (end - from) Black r (ap other (after_even (length ps) even)) in
    white_after ps from end end r even order (omega arith)
    ∙ ap (λ n. painted White 0 ps from ++ (replicate (end - from) Black ++ replicate n White)) none
    ∙ ap (λ (es : Elements). painted White 0 ps from ++ es) (append-nil (replicate (end - from) Black))
    ∙ sym black ∙ ap (λ n. painted White 0 (ps ++ from ∷ []) n) sum

-- one that a white run follows
pub painted_pair : (ps : List ℕ) (from to end : ℕ) → AreRising 0 ps from → length ps % 2 ≡ 0 → from < to → to ≤ end
    → take from (painted White 0 ps end) ++ (replicate (to - from) Black ++ drop to (painted White 0 ps end)) ≡ painted White 0 ((ps ++ from ∷ []) ++ to ∷ []) end
painted_pair ps from to end r even order within =
    let sum : from + (to - from) ≡ to = omega arith in
    let sum_end : to + (end - to) ≡ end = omega arith in
    let black : painted White 0 (ps ++ from ∷ []) (from + (to - from)) ≡ painted White 0 ps from ++ replicate (to - from) Black =
    painted-other ps from (to - from) Black r (ap other (after_even (length ps) even)) in
    let rising : AreRising 0 (ps ++ from ∷ []) to = subst (λ n. AreRising 0 (ps ++ from ∷ []) n) sum (rising_push 0 ps from (to - from) (omega arith) r) in
    let odd : length (ps ++ from ∷ []) % 2 ≢ 0 = λ h. omega (arith, length-append ps (from ∷ [])) in
    let white : painted White 0 ((ps ++ from ∷ []) ++ to ∷ []) (to + (end - to)) ≡ painted White 0 (ps ++ from ∷ []) to ++ replicate (end - to) White =
    painted-other (ps ++ from ∷ []) to (end - to) White rising (ap other (after_odd (length (ps ++ from ∷ [])) odd)) in
    white_after ps from to end r even (omega arith) within
    ∙ sym (append_assoc (painted White 0 ps from) (replicate (to - from) Black) (replicate (end - to) White))
    ∙ ap (λ (es : Elements). es ++ replicate (end - to) White) (sym black ∙ ap (λ n. painted White 0 (ps ++ from ∷ []) n) sum)
    ∙ sym white ∙ ap (λ n. painted White 0 ((ps ++ from ∷ []) ++ to ∷ []) n) sum_end

-- ---- step by step: no changes, two more, and the last

pub no_pixels : (n end : ℕ) → end ≡ 8 * n → bits_of (replicate n 0) ≡ map pixel (painted White 0 [] end)
unfolding painted
no_pixels n end e =
    let size : 8 * n ≡ end - 0 = omega arith in
    bits_of-zeros n ∙ ap (λ k. replicate k false) size ∙ sym (map_pixel_replicate (end - 0) White)

pub pair_of_pixels : (bits new : List Bool) (ps : List ℕ) (i end : ℕ) → i + 1 < length ps → i % 2 ≡ 0 → AreRising 0 ps end
    → bits ≡ map pixel (painted White 0 (take i ps) end)
    → new ≡ take (get_or ps i 0) bits ++ (replicate (get_or ps (i + 1) 0 - get_or ps i 0) true ++ drop (get_or ps (i + 1) 0) bits)
    → new ≡ map pixel (painted White 0 (take (i + 1 + 1) ps) end)
pair_of_pixels bits new ps i end within even r so_far is =
    let here : i < length ps = omega arith in
    let a : ℕ = get_or ps i 0 in
    let b : ℕ = get_or ps (i + 1) 0 in
    let size : length (take i ps) ≡ i = length-take-le i ps (omega arith) in
    let before : b < end = rising_before_end ps end (i + 1) within r in
    let two : take (i + 1 + 1) ps ≡ (take i ps ++ a ∷ []) ++ b ∷ [] = take_more ps (i + 1) 0 within ∙ ap (λ (qs : List ℕ). qs ++ b ∷ []) (take_more ps i 0 here) in
    is ∙ set_is_blackened bits (painted White 0 (take i ps) end) a b so_far
    ∙ ap (map pixel) (painted_pair (take i ps) a b end (rising_front 0 ps end i here r) (ap (λ n. n % 2) size ∙ even) (rising_next ps end i within r) (omega arith))
    ∙ ap (λ (qs : List ℕ). map pixel (painted White 0 qs end)) (sym two)

pub last_pixels : (bits new : List Bool) (ps : List ℕ) (i end : ℕ) → i + 1 ≡ length ps → i % 2 ≡ 0 → AreRising 0 ps end
    → bits ≡ map pixel (painted White 0 (take i ps) end)
    → new ≡ take (get_or ps i 0) bits ++ (replicate (end - get_or ps i 0) true ++ drop end bits)
    → new ≡ map pixel (painted White 0 ps end)
last_pixels bits new ps i end last even r so_far is =
    let here : i < length ps = omega arith in
    let a : ℕ = get_or ps i 0 in
    let size : length (take i ps) ≡ i = length-take-le i ps (omega arith) in
    let before : a < end = rising_before_end ps end i here r in
    let all : take i ps ++ a ∷ [] ≡ ps = sym (take_more ps i 0 here) ∙ take_all (i + 1) ps (omega arith) in
    is ∙ set_is_blackened bits (painted White 0 (take i ps) end) a end so_far
    ∙ ap (map pixel) (painted_black (take i ps) a end (rising_front 0 ps end i here r) (ap (λ n. n % 2) size ∙ even) (omega arith))
    ∙ ap (λ (qs : List ℕ). map pixel (painted White 0 qs end)) all

-- ---- the octets of a row come in fours
pub in_fours : (octets width : ℕ) → IsWidth width → width ≡ 8 * octets → octets % 4 ≡ 0
in_fours octets width (inl is) e = omega arith
in_fours octets width (inr (inl is)) e = omega arith
in_fours octets width (inr (inr is)) e = omega arith
