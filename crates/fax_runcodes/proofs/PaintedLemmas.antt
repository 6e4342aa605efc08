-- Elements by their changing places: what one more stretch does.
use Rattle.std.proofs.Common.{◌≡◌, ◌≢◌, ℕ, suc, ◌+◌, ◌-◌, ◌%◌, ◌<◌, ◌≤◌, ◌==◌, true, false, not, cond, List, [], ◌∷◌, ◌++◌, length, replicate, refl, sym, ◌∙◌, ap, arith, append_assoc, length-append, inl, inr}
use Rattle.std.proofs.lemmas.List.{replicate-append-replicate, length-replicate}
use Rattle.std.proofs.lemmas.Bool.{eq-eqb, ne_eqb, cases_eq}
use Rattle.fax_runcodes.specs.declared.Colour.{Colour}
use Rattle.fax_runcodes.specs.declared.Colour.TheVariants.{White, Black}
use denote.Enum.Bare.{sameb}
use Rattle.fax_runcodes.specs.contracts.Colour.{the_type}
use Rattle.fax_runcodes.specs.Rows.{Elements, other}
use Rattle.fax_runcodes.specs.Painted.{painted, AreRising, colour_after_changes}

-- the colour after changes
abbrev pub colour_then : Colour → List ℕ → Colour
colour_then colour [] = colour
colour_then colour (p ∷ ps) = colour_then (other colour) ps

pub rising_le : (from : ℕ) (ps : List ℕ) (end : ℕ) → AreRising from ps end → from ≤ end
unfolding AreRising
rising_le from [] end r = r
rising_le from (p ∷ ps) end r = let rest : p + 1 ≤ end = rising_le (p + 1) ps end r.1 in let here : from ≤ p = r.0 in omega arith

pub rising_lower : (from low : ℕ) (ps : List ℕ) (end : ℕ) → low ≤ from → AreRising from ps end → AreRising low ps end
unfolding AreRising
rising_lower from low [] end le r = let here : from ≤ end = r in omega arith
rising_lower from low (p ∷ ps) end le r = let here : from ≤ p = r.0 in (omega arith, r.1)

pub rising_longer : (from : ℕ) (ps : List ℕ) (end longer : ℕ) → end ≤ longer → AreRising from ps end → AreRising from ps longer
unfolding AreRising
rising_longer from [] end longer le r = let here : from ≤ end = r in omega arith
rising_longer from (p ∷ ps) end longer le r = (r.0, rising_longer (p + 1) ps end longer le r.1)

pub rising_push : (from : ℕ) (ps : List ℕ) (end n : ℕ) → 0 < n → AreRising from ps end → AreRising from (ps ++ end ∷ []) (end + n)
unfolding AreRising
rising_push from [] end n some r = (r, omega arith)
rising_push from (p ∷ ps) end n some r = (r.0, rising_push (p + 1) ps end n some r.1)

pub length-painted : (colour : Colour) (from : ℕ) (ps : List ℕ) (end : ℕ) → AreRising from ps end → length (painted colour from ps end) ≡ end - from
unfolding painted AreRising
length-painted colour from [] end r = length-replicate (end - from) colour
length-painted colour from (p ∷ ps) end r =
    let here : from ≤ p = r.0 in
    let past : p + 1 ≤ end = rising_le (p + 1) ps end r.1 in
    let rest : length (painted (other colour) p ps end) ≡ end - p = length-painted (other colour) p ps end (rising_lower (p + 1) p ps end (omega arith) r.1) in
    let parts : length (replicate (p - from) colour ++ painted (other colour) p ps end) ≡ length (replicate (p - from) colour) + length (painted (other colour) p ps end) = length-append (replicate (p - from) colour) (painted (other colour) p ps end) in
    let first : length (replicate (p - from) colour) ≡ p - from = length-replicate (p - from) colour in
    omega arith

-- a stretch of the same colour
pub painted-extend : (colour : Colour) (from : ℕ) (ps : List ℕ) (end n : ℕ) → AreRising from ps end → painted colour from ps (end + n) ≡ painted colour from ps end ++ replicate n (colour_then colour ps)
unfolding painted AreRising
painted-extend colour from [] end n r =
    let here : from ≤ end = r in
    let sum : end + n - from ≡ end - from + n = omega arith in
    ap (λ m. replicate m colour) sum ∙ sym (replicate-append-replicate (end - from) n colour)
painted-extend colour from (p ∷ ps) end n r =
    let rest : painted (other colour) p ps (end + n) ≡ painted (other colour) p ps end ++ replicate n (colour_then (other colour) ps) =
    painted-extend (other colour) p ps end n (rising_lower (p + 1) p ps end (omega arith) r.1) in
    ap (λ (es : Elements). replicate (p - from) colour ++ es) rest ∙ sym (append_assoc (replicate (p - from) colour) (painted (other colour) p ps end) (replicate n (colour_then (other colour) ps)))

-- a stretch of the other colour
pub painted-change : (colour : Colour) (from : ℕ) (ps : List ℕ) (end n : ℕ) → AreRising from ps end → painted colour from (ps ++ end ∷ []) (end + n) ≡ painted colour from ps end ++ replicate n (other (colour_then colour ps))
unfolding painted AreRising
painted-change colour from [] end n r = let sum : end + n - end ≡ n = omega arith in ap (λ m. replicate (end - from) colour ++ replicate m (other colour)) sum
painted-change colour from (p ∷ ps) end n r =
    let rest : painted (other colour) p (ps ++ end ∷ []) (end + n) ≡ painted (other colour) p ps end ++ replicate n (other (colour_then (other colour) ps)) =
    painted-change (other colour) p ps end n (rising_lower (p + 1) p ps end (omega arith) r.1) in
    ap (λ (es : Elements). replicate (p - from) colour ++ es) rest ∙ sym (append_assoc (replicate (p - from) colour) (painted (other colour) p ps end) (replicate n (other (colour_then (other colour) ps))))

-- ---- the colour by the number of changes
other_other : (colour : Colour) → other (other colour) ≡ colour
other_other White = refl
other_other Black = refl

pub after_even : (n : ℕ) → n % 2 ≡ 0 → colour_after_changes n ≡ White
after_even n e = let t : (n % 2 == 0) ≡ true = eq-eqb (n % 2) 0 e in ap (λ b. cond b White Black) t

pub after_odd : (n : ℕ) → n % 2 ≢ 0 → colour_after_changes n ≡ Black
after_odd n ne = let t : (n % 2 == 0) ≡ false = ne_eqb (n % 2) 0 ne in ap (λ b. cond b White Black) t

colour_after-suc : (n : ℕ) → colour_after_changes (suc n) ≡ other (colour_after_changes n)
colour_after-suc n = elim (cases_eq (n % 2) 0) [
  | inl even ↦ after_odd (suc n) (λ h. omega arith) ∙ ap other (sym (after_even n even))
  | inr odd ↦ after_even (suc n) (omega arith) ∙ ap other (sym (after_odd n odd))
]

pub colour_after_other : (colour : Colour) (ps : List ℕ) → colour_then (other colour) ps ≡ other (colour_then colour ps)
colour_after_other colour [] = refl
colour_after_other colour (p ∷ ps) = colour_after_other (other colour) ps

pub colour_after_white : (ps : List ℕ) → colour_then White ps ≡ colour_after_changes (length ps)
colour_after_white [] = refl
colour_after_white (p ∷ ps) = colour_after_other White ps ∙ ap other (colour_after_white ps) ∙ sym (colour_after-suc (length ps))

-- what the derived `!=` of two colours says
pub other_if_ne : (a b : Colour) → not (sameb the_type a b) ≡ true → other b ≡ a
other_if_ne White White h = cc
other_if_ne White Black h = refl
other_if_ne Black White h = refl
other_if_ne Black Black h = cc

pub same_if_not_ne : (a b : Colour) → not (sameb the_type a b) ≡ false → a ≡ b
same_if_not_ne White White h = refl
same_if_not_ne White Black h = cc
same_if_not_ne Black White h = cc
same_if_not_ne Black Black h = refl

-- all elements, from the first on
pub length-painted_all : (ps : List ℕ) (end : ℕ) → AreRising 0 ps end → length (painted White 0 ps end) ≡ end
length-painted_all ps end r = let size : length (painted White 0 ps end) ≡ end - 0 = length-painted White 0 ps end r in omega arith

-- one more stretch, of the colour after the changes or of the other
pub painted-same : (ps : List ℕ) (end n : ℕ) (colour : Colour) → AreRising 0 ps end → colour ≡ colour_after_changes (length ps)
    → painted White 0 ps (end + n) ≡ painted White 0 ps end ++ replicate n colour
painted-same ps end n colour r e = painted-extend White 0 ps end n r ∙ ap (λ c. painted White 0 ps end ++ replicate n c) (colour_after_white ps ∙ sym e)

pub painted-other : (ps : List ℕ) (end n : ℕ) (colour : Colour) → AreRising 0 ps end → other (colour_after_changes (length ps)) ≡ colour
    → painted White 0 (ps ++ end ∷ []) (end + n) ≡ painted White 0 ps end ++ replicate n colour
painted-other ps end n colour r e = painted-change White 0 ps end n r ∙ ap (λ c. painted White 0 ps end ++ replicate n c) (ap other (colour_after_white ps) ∙ e)

-- rising places are no more than the elements
pub rising_count : (from : ℕ) (ps : List ℕ) (end : ℕ) → AreRising from ps end → from + length ps ≤ end
unfolding AreRising
rising_count from [] end r = let here : from ≤ end = r in omega arith
rising_count from (p ∷ ps) end r = let rest : p + 1 + length ps ≤ end = rising_count (p + 1) ps end r.1 in let here : from ≤ p = r.0 in omega arith

-- ---- changing places after others
pub rising_join : (from : ℕ) (ps : List ℕ) (mid : ℕ) (qs : List ℕ) (end : ℕ) → AreRising from ps mid → AreRising mid qs end → AreRising from (ps ++ qs) end
unfolding AreRising
rising_join from [] mid qs end r s = rising_lower mid from qs end r s
rising_join from (p ∷ ps) mid qs end r s = (r.0, rising_join (p + 1) ps mid qs end r.1 s)

-- the colour does not change where they meet
pub painted-join : (colour : Colour) (from : ℕ) (ps : List ℕ) (mid : ℕ) (qs : List ℕ) (end : ℕ) → AreRising from ps mid → AreRising mid qs end
    → painted colour from (ps ++ qs) end ≡ painted colour from ps mid ++ painted (colour_then colour ps) mid qs end
unfolding painted AreRising
painted-join colour from [] mid [] end r s =
    let sum : end - from ≡ (mid - from) + (end - mid) = omega arith in
    ap (λ (n : ℕ). replicate n colour) sum ∙ sym (replicate-append-replicate (mid - from) (end - mid) colour)
painted-join colour from [] mid (q ∷ qs) end r s =
    let here : mid ≤ q = s.0 in
    let sum : q - from ≡ (mid - from) + (q - mid) = omega arith in
    ap (λ (n : ℕ). replicate n colour ++ painted (other colour) q qs end) sum
    ∙ ap (λ (es : Elements). es ++ painted (other colour) q qs end) (sym (replicate-append-replicate (mid - from) (q - mid) colour))
    ∙ append_assoc (replicate (mid - from) colour) (replicate (q - mid) colour) (painted (other colour) q qs end)
painted-join colour from (p ∷ ps) mid qs end r s =
    ap (λ (es : Elements). replicate (p - from) colour ++ es) (painted-join (other colour) p ps mid qs end (rising_lower (p + 1) p ps mid (omega arith) r.1) s)
    ∙ sym (append_assoc (replicate (p - from) colour) (painted (other colour) p ps mid) (painted (colour_then (other colour) ps) mid qs end))

-- the colour changes where they meet
pub painted-turn : (colour : Colour) (from : ℕ) (ps : List ℕ) (mid : ℕ) (qs : List ℕ) (end : ℕ)
    → painted colour from (ps ++ mid ∷ qs) end ≡ painted colour from ps mid ++ painted (other (colour_then colour ps)) mid qs end
unfolding painted
painted-turn colour from [] mid qs end = refl
painted-turn colour from (p ∷ ps) mid qs end =
    ap (λ (es : Elements). replicate (p - from) colour ++ es) (painted-turn (other colour) p ps mid qs end)
    ∙ sym (append_assoc (replicate (p - from) colour) (painted (other colour) p ps mid) (painted (other (colour_then (other colour) ps)) mid qs end))
