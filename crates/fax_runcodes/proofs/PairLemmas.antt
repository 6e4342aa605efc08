-- A white run and a black one, painted at once.
use Rattle.std.proofs.Common.{◌≡◌, ℕ, ◌+◌, ◌<◌, List, [], ◌∷◌, ◌++◌, length, replicate, refl, sym, ◌∙◌, ap, subst, arith}
use Rattle.fax_runcodes.specs.declared.Colour.{Colour}
use Rattle.fax_runcodes.specs.declared.Colour.TheVariants.{White, Black}
use Rattle.fax_runcodes.specs.Rows.{Elements, other}
use Rattle.fax_runcodes.specs.Painted.{painted, AreRising, colour_after_changes}
use Rattle.fax_runcodes.proofs.PaintedLemmas.{colour_after_white, colour_then, painted-change, painted-other, painted-same, rising_longer, rising_push}

-- the places after both runs
pub pair_rising : (ps : List ℕ) (end white black : ℕ) → 0 < white → 0 < black → AreRising 0 ps end
    → AreRising 0 ((ps ++ end ∷ []) ++ (end + white) ∷ []) (end + (white + black))
pair_rising ps end white black w b r =
    subst (λ (n : ℕ). AreRising 0 ((ps ++ end ∷ []) ++ (end + white) ∷ []) n) (let e : end + white + black ≡ end + (white + black) = omega arith in e)
    (rising_push 0 (ps ++ end ∷ []) (end + white) black b (rising_push 0 ps end white w r))

after_push : (colour : Colour) (ps : List ℕ) (p : ℕ) → colour_then colour (ps ++ p ∷ []) ≡ other (colour_then colour ps)
after_push colour [] p = refl
after_push colour (q ∷ ps) p = after_push (other colour) ps p

-- after a black run, a white one and a black one
pub pair_painted : (ps : List ℕ) (end white black : ℕ) → 0 < white → colour_after_changes (length ps) ≡ Black → AreRising 0 ps end
    → painted White 0 ((ps ++ end ∷ []) ++ (end + white) ∷ []) (end + (white + black)) ≡ (painted White 0 ps end ++ replicate white White) ++ replicate black Black
pair_painted ps end white black w is_black r =
    let after : colour_then White ps ≡ Black = colour_after_white ps ∙ is_black in
    let sum : end + (white + black) ≡ end + white + black = omega arith in
    ap (λ (n : ℕ). painted White 0 ((ps ++ end ∷ []) ++ (end + white) ∷ []) n) sum
    ∙ painted-change White 0 (ps ++ end ∷ []) (end + white) black (rising_push 0 ps end white w r)
    ∙ ap (λ (es : Elements). es ++ replicate black (other (colour_then White (ps ++ end ∷ [])))) (painted-change White 0 ps end white r)
    ∙ ap (λ (c : Colour). (painted White 0 ps end ++ replicate white (other (colour_then White ps))) ++ replicate black (other c)) (after_push White ps end)
    ∙ ap (λ (c : Colour). (painted White 0 ps end ++ replicate white (other c)) ++ replicate black (other (other c))) after

-- the places after both runs, where the white one goes on with the elements before it
pub longer_rising : (ps : List ℕ) (end white black : ℕ) → 0 < black → AreRising 0 ps end → AreRising 0 (ps ++ (end + white) ∷ []) (end + (white + black))
longer_rising ps end white black b r =
    subst (λ (n : ℕ). AreRising 0 (ps ++ (end + white) ∷ []) n) (let e : end + white + black ≡ end + (white + black) = omega arith in e)
    (rising_push 0 ps (end + white) black b (rising_longer 0 ps end (end + white) (omega arith) r))

-- after white elements, a white run and a black one
pub longer_painted : (ps : List ℕ) (end white black : ℕ) → colour_after_changes (length ps) ≡ White → AreRising 0 ps end
    → painted White 0 (ps ++ (end + white) ∷ []) (end + (white + black)) ≡ (painted White 0 ps end ++ replicate white White) ++ replicate black Black
longer_painted ps end white black is_white r =
    let sum : end + (white + black) ≡ end + white + black = omega arith in
    ap (λ (n : ℕ). painted White 0 (ps ++ (end + white) ∷ []) n) sum
    ∙ painted-other ps (end + white) black Black (rising_longer 0 ps end (end + white) (omega arith) r) (ap other is_white)
    ∙ ap (λ (es : Elements). es ++ replicate black Black) (painted-same ps end white White r (sym is_white))
