-- A one-dimensional line that is being read: runs so far.
use Rattle.std.proofs.Common.{◌≡◌, ℕ, ◌+◌, ◌<◌, ◌≤◌, Bool, List, [], ◌∷◌, ◌++◌, length, sum, replicate, refl, sym, ◌∙◌, ap, ap₂, subst, arith, append_assoc, append-nil, zero-add, length-append, inl, inr}
use Rattle.std.proofs.lemmas.List.{length-replicate, take-append-le, take_all, length_push}
use Rattle.std.proofs.lemmas.List.Sums.{sum_by-append}
use Rattle.std.proofs.lemmas.Bool.{cases_lt}
use Rattle.fax_bits.specs.Reading.{Place, Passes}
use Rattle.fax_bits.proofs.ReadingLemmas.{Passes-none, Passes-then}
use Rattle.fax_runcodes.specs.declared.Colour.{Colour}
use Rattle.fax_runcodes.specs.declared.Colour.TheVariants.{White}
use Rattle.fax_runcodes.specs.Rows.{Elements, other, stretches}
use Rattle.fax_runcodes.specs.Spelling.{SpellsRun}
use Rattle.fax_runcodes.proofs.PaintedLemmas.{colour_after_other, colour_then}
use Rattle.fax_mhcode.specs.Lines.{SpellsRuns, SpellsLine}
use Rattle.fax_mhcode.specs.LineFaults.{FailsLine, Stops, colour_after}
use Rattle.fax_mhcode.specs.Pairs.{RunsSoFar}
use Rattle.fax_mhcode.specs.declared.fault.LineFault.{LineFault}

pub colour_after_is : (runs : List ℕ) → colour_then White runs ≡ colour_after runs
colour_after_is [] = refl
colour_after_is (n ∷ ns) = colour_after_other White ns ∙ ap other (colour_after_is ns)

pub colour_after-push : (runs : List ℕ) (n : ℕ) → colour_after (runs ++ n ∷ []) ≡ other (colour_after runs)
colour_after-push [] n = refl
colour_after-push (m ∷ ms) n = ap other (colour_after-push ms n)

pub SpellsRuns-push : (colour : Colour) (s t : List Bool) (runs : List ℕ) (n : ℕ) → SpellsRuns colour s runs → SpellsRun (colour_then colour runs) t n → SpellsRuns colour (s ++ t) (runs ++ n ∷ [])
SpellsRuns-push colour s t [] n p q = (t, [], ap (λ b. b ++ t) p ∙ sym (append-nil t), q, refl)
SpellsRuns-push colour s t (m ∷ ms) n (f, r, e, pf, pr) q =
    (f, r ++ t, ap (λ b. b ++ t) e ∙ append_assoc f r t, pf, SpellsRuns-push (other colour) r t ms n pr q)

pub stretches-push : (colour : Colour) (runs : List ℕ) (n : ℕ) → stretches colour (runs ++ n ∷ []) ≡ stretches colour runs ++ replicate n (colour_then colour runs)
stretches-push colour [] n = append-nil (replicate n colour)
stretches-push colour (m ∷ ms) n =
    ap (λ (es : Elements). replicate m colour ++ es) (stretches-push (other colour) ms n) ∙ sym (append_assoc (replicate m colour) (stretches (other colour) ms) (replicate n (colour_then (other colour) ms)))

pub sum-push : (ns : List ℕ) (n : ℕ) → sum (ns ++ n ∷ []) ≡ sum ns + n
sum-push ns n = sum_by-append (λ x. x) ns (n ∷ []) ∙ ap (λ m. sum ns + m) (zero-add n)

pub length-paint : (row new : Elements) (n : ℕ) (colour : Colour) → new ≡ row ++ replicate n colour → length new ≡ length row + n
length-paint row new n colour e = ap length e ∙ length-append row (replicate n colour) ∙ ap (λ m. length row + m) (length-replicate n colour)

pub RunsSoFar-none : (width : ℕ) (p : Place) → RunsSoFar width p p [] White
RunsSoFar-none width p = record {
  runs = [];
  text = [];
  spelt = refl;
  passes = Passes-none p;
  row_is = refl;
  colour_is = refl;
  not_before = λ k lt. absurd (omega arith);
  within = omega arith;
  sum_is = refl;
}

pub RunsSoFar-more : (width : ℕ) (old mid new : Place) (row : Elements) (colour : Colour) (text : List Bool) (n : ℕ) → RunsSoFar width old mid row colour
    → SpellsRun colour text n → Passes mid new text → length row < width → length row + n ≤ width → RunsSoFar width old new (row ++ replicate n colour) (other colour)
RunsSoFar-more width old mid new row colour text n r spelt passes lt le =
    let after : colour ≡ colour_then White r.runs = r.colour_is ∙ sym (colour_after_is r.runs) in
    record {
      runs = r.runs ++ n ∷ [];
      text = r.text ++ text;
      spelt = SpellsRuns-push White r.text text r.runs n r.spelt (subst (λ c. SpellsRun c text n) after spelt);
      passes = Passes-then old mid new r.text text r.passes passes;
      row_is = ap₂ (λ (es : Elements) (c : Colour). es ++ replicate n c) r.row_is after ∙ sym (stretches-push White r.runs n);
      colour_is = ap other r.colour_is ∙ sym (colour_after-push r.runs n);
      not_before = λ k small. (
          let size : length (r.runs ++ n ∷ []) ≡ length r.runs + 1 = length_push r.runs n in
          elim (cases_lt k (length r.runs)) [
            | inl below ↦ rw (take-append-le k r.runs (n ∷ []) (omega arith)) (r.not_before k below)
            | inr top ↦ rw (take-append-le k r.runs (n ∷ []) (omega arith), take_all k r.runs top) (omega (arith, r.sum_is))
          ]);
      within = omega (arith, sum-push r.runs n, r.sum_is);
      sum_is = length-append row (replicate n colour) ∙ ap (λ m. length row + m) (length-replicate n colour) ∙ ap (λ m. m + n) r.sum_is ∙ sym (sum-push r.runs n);
    }

-- the line, once the runs reach the width
pub SpellsLine-from : (width : ℕ) (old new : Place) (row : Elements) (colour : Colour) → RunsSoFar width old new row colour → width ≤ length row → (text : List Bool) × SpellsLine width text row × Passes old new text
SpellsLine-from width old new row colour r le =
    (r.text, record { runs = r.runs; spelt = r.spelt; whole = omega (arith, r.sum_is, r.within); not_before = r.not_before; row_is = r.row_is }, r.passes)

-- a fault after the runs so far
pub FailsLine-from : (width : ℕ) (old mid : Place) (row : Elements) (colour : Colour) (fault : LineFault) (r : RunsSoFar width old mid row colour) → length row < width
    → Stops width r.runs mid.left fault → FailsLine width old.left fault
FailsLine-from width old mid row colour fault r lt s = record {
  runs = r.runs;
  text = r.text;
  rest = mid.left;
  spelt = r.spelt;
  bits_are = r.passes.bits;
  within = omega (arith, r.sum_is);
  stops = s;
}
