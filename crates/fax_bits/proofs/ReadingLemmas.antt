-- Laws of what a read leaves.
use Rattle.std.proofs.Common.{ℕ, ◌+◌, ◌≤◌, Bool, List, ◌++◌, length, take, drop, refl, sym, ◌∙◌, ap, arith, length-take-le, take-append-drop, append_assoc, length-append, [], add-zero}
use Rattle.std.proofs.lemmas.List.{drop-drop}
use Rattle.fax_bits.specs.Reading.{Place, Passes}

-- n bits passed of a list that is read from a place
pub Passes-skip : (all : List Bool) (place n : ℕ) → n ≤ length (drop place all)
    → Passes (record { passed = place; left = drop place all }) (record { passed = place + n; left = drop (place + n) all }) (take n (drop place all))
Passes-skip all place n h = record {
  bits = rw (← drop-drop n place all) (sym (take-append-drop n (drop place all)));
  place = rw (length-take-le n (drop place all) h) refl;
}

-- nothing passed
pub Passes-none : (p : Place) → Passes p p []
Passes-none p = record { bits = refl; place = sym (add-zero p.passed) }

-- one text passed after another
pub Passes-then : (a b c : Place) (text more : List Bool) → Passes a b text → Passes b c more → Passes a c (text ++ more)
Passes-then a b c text more p q = record {
  bits = p.bits ∙ ap (λ x. text ++ x) q.bits ∙ sym (append_assoc text more c.left);
  place = q.place ∙ ap (λ x. x + length more) p.place ∙ simp (length-append) (omega arith);
}
