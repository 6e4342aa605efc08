-- Numbers at the wrap, and the slots that one more datagram decides.
use Rattle.std.proofs.Common.{◌≡◌, ℕ, zero, suc, ◌+◌, ◌-◌, ◌<◌, ◌≤◌, max, Bool, true, false, nat_le, is_some, List, [], ◌∷◌, ◌++◌, map, replicate, reverse, Option, Some, None, refl, ◌∙◌, ap, arith, if◌then◌else◌}
use Rattle.std.specs.Prelude.{filter_map}
use Rattle.std.specs.List.{cons_option}
use Rattle.std.proofs.lemmas.List.{reverse-append}
use Rattle.fax_udptl.specs.Datagrams.{DatagramValue}
use Rattle.fax_udptl.specs.Slots.{nearest, IsNearest, greatest, integer_after, said_of, decision, first_slot, integers_from, slots, newest_slots}
use Rattle.fax_udptl.specs.Taking.{DecidedValue, Decides, slots_in}

pub is_nearest : (e number : ℕ) → 65536 ≤ e → number < 65536 → IsNearest e number (nearest e number)
is_nearest e number h n = record { agrees = omega arith; above = omega arith; below = omega arith }

-- A slot is decided exactly where it is not past the greatest integer.
decided_by : (s : Option (Option (List ℕ))) (b : Bool) (t : Option (List ℕ)) → is_some (if is_some s then s else if b then Some t else None) ≡ (if is_some s then true else b)
decided_by (Some s) b t = refl
decided_by None true t = refl
decided_by None false t = refl

or_max : (k m n : ℕ) → (if nat_le k m then true else nat_le k n) ≡ nat_le k (max n m)
or_max k m n = by (nat_le k m) (nat_le k n) refl refl
  where
    by : (a b : Bool) → nat_le k m ≡ a → nat_le k n ≡ b → (if a then true else b) ≡ nat_le k (max n m)
    by true b p q = let l : k ≤ m = grind (arith) in let r : k ≤ max n m = omega arith in grind (arith)
    by false true p q = let l : k ≤ n = grind (arith) in let r : k ≤ max n m = omega arith in grind (arith)
    by false false p q = let l : m < k = grind (arith) in let o : n < k = grind (arith) in let r : max n m < k = omega arith in grind (arith)

pub decided_below : (d : DatagramValue) (earlier : List DatagramValue) (k : ℕ) → is_some (decision (d ∷ earlier) k) ≡ nat_le k (greatest (d ∷ earlier))
decided_below d [] k = decided_by None (nat_le k (integer_after [] d)) (said_of (integer_after [] d) d k)
decided_below d (e ∷ earlier) k =
    decided_by (decision (e ∷ earlier) k) (nat_le k (integer_after (e ∷ earlier) d)) (said_of (integer_after (e ∷ earlier) d) d k)
    ∙ ap (λ (b : Bool). if b then true else nat_le k (integer_after (e ∷ earlier) d)) (decided_below e earlier k)
    ∙ or_max k (greatest (e ∷ earlier)) (integer_after (e ∷ earlier) d)

-- One more datagram adds slots after those that were decided.
integers_both : (a m n : ℕ) → integers_from a (m + n) ≡ integers_from a m ++ integers_from (a + m) n
integers_both a zero n =
    ap (λ (k : ℕ). integers_from a k) (let e : zero + n ≡ n = omega arith in e) ∙ ap (λ (k : ℕ). integers_from k n) (let e : a ≡ a + zero = omega arith in e)
integers_both a (suc m) n =
    ap (λ (k : ℕ). integers_from a k) (let e : suc m + n ≡ suc (m + n) = omega arith in e)
    ∙ ap (λ (xs : List ℕ). a ∷ xs) (integers_both (a + 1) m n ∙ ap (λ (k : ℕ). integers_from (a + 1) m ++ integers_from k n) (let e : a + 1 + m ≡ a + suc m = omega arith in e))

filter_map_both : {X A : Type 0} (f : X → Option A) (xs ys : List X) → filter_map f (xs ++ ys) ≡ filter_map f xs ++ filter_map f ys
filter_map_both f [] ys = refl
filter_map_both f (x ∷ xs) ys = grind (arith, filter_map_both f xs ys)

kept : (s t : Option (Option (List ℕ))) → is_some s ≡ true → (if is_some s then s else t) ≡ s
kept (Some s) t h = refl
kept None t h = cc

le_true : (k n : ℕ) → k ≤ n → nat_le k n ≡ true
le_true k n h = grind (arith)

slot_stays : (d e : DatagramValue) (earlier : List DatagramValue) (k : ℕ) → k ≤ greatest (e ∷ earlier) → decision (d ∷ e ∷ earlier) k ≡ decision (e ∷ earlier) k
slot_stays d e earlier k h =
    kept (decision (e ∷ earlier) k) (if nat_le k (integer_after (e ∷ earlier) d) then Some (said_of (integer_after (e ∷ earlier) d) d k) else None)
    (decided_below e earlier k ∙ le_true k (greatest (e ∷ earlier)) h)

same_on : (d e : DatagramValue) (earlier : List DatagramValue) (a n : ℕ) → a + n ≤ greatest (e ∷ earlier) + 1 →
    filter_map (decision (d ∷ e ∷ earlier)) (integers_from a n) ≡ filter_map (decision (e ∷ earlier)) (integers_from a n)
same_on d e earlier a zero h = refl
same_on d e earlier a (suc n) h =
    ap (λ (o : Option (Option (List ℕ))). cons_option o (filter_map (decision (d ∷ e ∷ earlier)) (integers_from (a + 1) n))) (slot_stays d e earlier a (omega arith))
    ∙ ap (cons_option (decision (e ∷ earlier) a)) (same_on d e earlier (a + 1) n (omega arith))

pub first_is_near : (e : DatagramValue) (earlier : List DatagramValue) → first_slot (e ∷ earlier) ≤ greatest (e ∷ earlier) + 1
first_is_near e [] = omega arith
first_is_near e (f ∷ earlier) = let h : first_slot (f ∷ earlier) ≤ greatest (f ∷ earlier) + 1 = first_is_near f earlier in omega arith

-- what one more datagram decides
abbrev pub decided_now : DatagramValue → List DatagramValue → List (Option (List ℕ))
decided_now d earlier = filter_map (decision (d ∷ earlier)) (integers_from (greatest earlier + 1) (greatest (d ∷ earlier) - greatest earlier))

pub slots_go_on : (d e : DatagramValue) (earlier : List DatagramValue) → slots (d ∷ e ∷ earlier) ≡ slots (e ∷ earlier) ++ decided_now d (e ∷ earlier)
unfolding slots
slots_go_on d e earlier =
    let g : ℕ = greatest (e ∷ earlier) in
    let f : ℕ = first_slot (e ∷ earlier) in
    let n : ℕ = greatest (d ∷ e ∷ earlier) in
    let near : f ≤ g + 1 = first_is_near e earlier in
    let up : g ≤ n = omega arith in
    let all : n + 1 - f ≡ (g + 1 - f) + (n - g) = omega arith in
    let seam : f + (g + 1 - f) ≡ g + 1 = omega arith in
    let F : List ℕ → List (Option (List ℕ)) = filter_map (decision (d ∷ e ∷ earlier)) in
    ap (λ (k : ℕ). F (integers_from f k)) all
    ∙ ap F (integers_both f (g + 1 - f) (n - g))
    ∙ filter_map_both (decision (d ∷ e ∷ earlier)) (integers_from f (g + 1 - f)) (integers_from (f + (g + 1 - f)) (n - g))
    ∙ ap (λ (ss : List (Option (List ℕ))). ss ++ F (integers_from (f + (g + 1 - f)) (n - g))) (same_on d e earlier f (g + 1 - f) (omega arith))
    ∙ ap (λ (k : ℕ). slots (e ∷ earlier) ++ F (integers_from k (n - g))) seam

-- The same with the newest slot first.
pub newest_at_first : newest_slots [] ≡ []
unfolding newest_slots slots
newest_at_first = refl

pub newest_go_on : (d : DatagramValue) (arrived : List DatagramValue) (decided : DecidedValue) → Decides arrived d decided
    → newest_slots (d ∷ arrived) ≡ reverse (slots_in decided) ++ newest_slots arrived
unfolding newest_slots
newest_go_on d arrived decided h = ap (λ (s : List (Option (List ℕ))). reverse s) h.slots ∙ reverse-append (slots arrived) (slots_in decided)

one_after : (n : ℕ) (x : Option (List ℕ)) → replicate n x ++ x ∷ [] ≡ x ∷ replicate n x
one_after zero x = refl
one_after (suc n) x = ap (λ (s : List (Option (List ℕ))). x ∷ s) (one_after n x)

same_reversed : (n : ℕ) (x : Option (List ℕ)) → reverse (replicate n x) ≡ replicate n x
same_reversed zero x = refl
same_reversed (suc n) x =
    reverse-append (x ∷ []) (replicate n x) ∙ ap (λ (s : List (Option (List ℕ))). s ++ x ∷ []) (same_reversed n x) ∙ one_after n x

pub newest_of_decided : (decided : DecidedValue) → reverse (slots_in decided) ≡ reverse (map Some decided.packets) ++ replicate decided.lost None
newest_of_decided decided =
    reverse-append (replicate decided.lost None) (map Some decided.packets)
    ∙ ap (λ (s : List (Option (List ℕ))). reverse (map Some decided.packets) ++ s) (same_reversed decided.lost None)
