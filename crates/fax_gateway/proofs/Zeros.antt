-- Zeros mean no page: so a training check is none.
use Rattle.std.proofs.Common.{◌≡◌, ℕ, zero, suc, Bool, true, false, List, [], ◌∷◌, ◌++◌, replicate, refl, subst}
use Rattle.fax_bits.specs.Bits.{bit, word_bits, bits_of}
use Rattle.fax_runcodes.specs.declared.format.Format.{Format}
use Rattle.fax_runcodes.specs.declared.format.Coding.{Coding}
use Rattle.fax_pagestore.specs.Pages.{PageValue}
use Rattle.fax_pagestore.specs.PageTexts.{end_of_line, MeansPage}

abbrev AllFalse : List Bool → Type 0
AllFalse [] = Unit {0}
AllFalse (b ∷ bits) = (b ≡ false) × AllFalse bits

left : (xs ys : List Bool) → AllFalse (xs ++ ys) → AllFalse xs
left [] ys h = tt
left (x ∷ xs) ys h = (h.0, left xs ys h.1)

right : (xs ys : List Bool) → AllFalse (xs ++ ys) → AllFalse ys
right [] ys h = h
right (x ∷ xs) ys h = right xs ys h.1

zeros_are : (n : ℕ) → AllFalse (bits_of (replicate n 0))
unfolding bits_of word_bits bit
zeros_are zero = tt
zeros_are (suc n) = (refl, (refl, (refl, (refl, (refl, (refl, (refl, (refl, zeros_are n))))))))

has_one : AllFalse end_of_line → ⊥
unfolding end_of_line
has_one h = let one : true ≡ false = h.1.1.1.1.1.1.1.1.1.1.1.0 in cc

pub zeros_mean_none : (n : ℕ) (format : Format) (coding : Coding) (page : PageValue) → MeansPage format coding (replicate n 0) page → ⊥
zeros_mean_none n format coding page m =
    let r = m.1.read in
    let whole : AllFalse (r.front ++ (r.lines ++ (r.separators ++ m.1.more))) = subst AllFalse r.bits_are (zeros_are n) in
    let front : AllFalse r.front = left r.front (r.lines ++ (r.separators ++ m.1.more)) whole in
    let f = r.is_front in
    let own : AllFalse f.front = left f.front f.tag_text (subst AllFalse f.text_is front) in
    has_one (right f.ends.0 end_of_line (subst AllFalse f.ends.1 own))
