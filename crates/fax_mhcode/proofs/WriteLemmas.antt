-- A one-dimensional line that is being written: runs so far.
use Rattle.std.proofs.Common.{◌≡◌, ℕ, ◌+◌, ◌-◌, ◌≤◌, Bool, List, [], ◌∷◌, ◌++◌, get_or, length, take, drop, refl, sym, ◌∙◌, ap, subst, arith, append_assoc, append-nil, length-drop, take_all, inl, inr}
use Rattle.fax_bits.specs.Bits.{word_bits}
use Rattle.fax_runcodes.specs.declared.Colour.{Colour}
use Rattle.fax_runcodes.specs.declared.Colour.TheVariants.{White, Black}
use Rattle.fax_runcodes.specs.Rows.{Elements, IsWidth, AreRuns, other}
use Rattle.fax_runcodes.specs.Painted.{AreRising}
use Rattle.fax_runcodes.specs.Spelling.{written_run}
use Rattle.fax_runcodes.proofs.PaintedLemmas.{rising_le, rising_lower}
use Rattle.fax_runcodes.proofs.RunsOfRow.{runs_between}
use Rattle.fax_mhcode.specs.Lines.{WritesLine, written_runs}

-- from before to after the row's runs were written but for the last of them, the first of which has
-- this colour
pub record RunsWritten (row : Elements) (before after : List Bool) (colour : Colour) (left : List ℕ) : Type 0 where
  pub runs : List ℕ
  pub text : List Bool
  pub are_runs : AreRuns runs row
  pub after_is : after ≡ before ++ text
  pub whole : text ++ written_runs colour left ≡ written_runs White runs

pub RunsWritten-none : (row : Elements) (before : List Bool) (runs : List ℕ) → AreRuns runs row → RunsWritten row before before White runs
RunsWritten-none row before runs are = record {
  runs = runs;
  text = [];
  are_runs = are;
  after_is = sym (append-nil before);
  whole = refl;
}

pub RunsWritten-more : (row : Elements) (before mid after : List Bool) (colour : Colour) (run : ℕ) (left : List ℕ) → RunsWritten row before mid colour (run ∷ left)
    → after ≡ mid ++ written_run colour run → RunsWritten row before after (other colour) left
RunsWritten-more row before mid after colour run left w e = record {
  runs = w.runs;
  text = w.text ++ written_run colour run;
  are_runs = w.are_runs;
  after_is = e ∙ ap (λ (b : List Bool). b ++ written_run colour run) w.after_is ∙ append_assoc before w.text (written_run colour run);
  whole = append_assoc w.text (written_run colour run) (written_runs (other colour) left) ∙ w.whole;
}

-- two runs at once, after no bits
pub RunsWritten-two : (row : Elements) (before mid after : List Bool) (white black : ℕ) (left : List ℕ) → RunsWritten row before mid White (white ∷ black ∷ left)
    → after ≡ mid ++ (word_bits 0 0 ++ (written_run White white ++ written_run Black black)) → RunsWritten row before after White left
unfolding word_bits
RunsWritten-two row before mid after white black left w e =
    RunsWritten-more row before (mid ++ written_run White white) after Black black left (RunsWritten-more row before mid (mid ++ written_run White white) White white (black ∷ left) w refl)
    (e ∙ sym (append_assoc mid (written_run White white) (written_run Black black)))

-- the line, once no run is left
pub WritesLine-from : (row : Elements) (before after : List Bool) (colour : Colour) → RunsWritten row before after colour [] → (text : List Bool) × WritesLine row text × (after ≡ before ++ text)
WritesLine-from row before after colour w = (w.text, record { runs = w.runs; are_runs = w.are_runs; text_is = sym (append-nil w.text) ∙ w.whole }, w.after_is)

-- the line, with the last run
pub WritesLine-last : (row : Elements) (before mid after : List Bool) (colour : Colour) (run : ℕ) → RunsWritten row before mid colour (run ∷ [])
    → after ≡ mid ++ written_run colour run → (text : List Bool) × WritesLine row text × (after ≡ before ++ text)
WritesLine-last row before mid after colour run w e = WritesLine-from row before after (other colour) (RunsWritten-more row before mid after colour run [] w e)

-- ---- the runs up to the next changing places

pub most_elements : (n : ℕ) → IsWidth n → n ≤ 2432
most_elements n (inl e) = omega arith
most_elements n (inr (inl e)) = omega arith
most_elements n (inr (inr e)) = omega arith

-- two more changing places, and the runs up to them
pub record TwoMore (from : ℕ) (ps : List ℕ) (end : ℕ) : Type 0 where
  pub first : from ≤ get_or ps 0 0
  pub second : get_or ps 0 0 ≤ get_or ps 1 0
  pub within : get_or ps 1 0 ≤ end
  pub rising : AreRising (get_or ps 1 0) (take (length ps - 2) (drop 2 ps)) end
  pub count : length (take (length ps - 2) (drop 2 ps)) + 2 ≡ length ps
  pub runs : runs_between from ps end ≡ (get_or ps 0 0 - from) ∷ (get_or ps 1 0 - get_or ps 0 0) ∷ runs_between (get_or ps 1 0) (take (length ps - 2) (drop 2 ps)) end

all_after_two : (ps : List ℕ) → take (length ps - 2) (drop 2 ps) ≡ drop 2 ps
all_after_two ps = take_all (length ps - 2) (drop 2 ps) (omega (arith, length-drop 2 ps))

pub TwoMore-from : (from : ℕ) (ps : List ℕ) (end : ℕ) → 2 ≤ length ps → AreRising from ps end → TwoMore from ps end
unfolding AreRising runs_between
TwoMore-from from [] end some r = absurd (omega arith)
TwoMore-from from (p ∷ []) end some r = absurd (omega arith)
TwoMore-from from (p ∷ q ∷ qs) end some r =
    let first : from ≤ p = r.0 in
    let second : p + 1 ≤ q = r.1.0 in
    let rest : AreRising q qs end = rising_lower (q + 1) q qs end (omega arith) r.1.1 in
    record {
      first = first;
      second = omega arith;
      within = rising_le q qs end rest;
      rising = subst (λ (xs : List ℕ). AreRising q xs end) (sym (all_after_two (p ∷ q ∷ qs))) rest;
      count = ap (λ (xs : List ℕ). length xs + 2) (all_after_two (p ∷ q ∷ qs)) ∙ omega arith;
      runs = ap (λ (xs : List ℕ). (p - from) ∷ (q - p) ∷ runs_between q xs end) (sym (all_after_two (p ∷ q ∷ qs)));
    }

-- one more changing place and no other, and the runs up to it and after it
pub record OneMore (from : ℕ) (ps : List ℕ) (end : ℕ) : Type 0 where
  pub first : from ≤ get_or ps 0 0
  pub within : get_or ps 0 0 ≤ end
  pub runs : runs_between from ps end ≡ (get_or ps 0 0 - from) ∷ (end - get_or ps 0 0) ∷ []

pub OneMore-from : (from : ℕ) (ps : List ℕ) (end : ℕ) → length ps ≡ 1 → AreRising from ps end → OneMore from ps end
unfolding AreRising runs_between
OneMore-from from [] end one r = absurd (omega arith)
OneMore-from from (p ∷ []) end one r =
    let first : from ≤ p = r.0 in
    let after : p + 1 ≤ end = r.1 in
    record { first = first; within = omega arith; runs = refl }
OneMore-from from (p ∷ q ∷ qs) end one r = absurd (omega arith)

-- no more changing place, and the run that is left
pub runs_between-none : (from : ℕ) (ps : List ℕ) (end : ℕ) → length ps ≡ 0 → runs_between from ps end ≡ (end - from) ∷ []
unfolding runs_between
runs_between-none from [] end none = refl
runs_between-none from (p ∷ ps) end none = absurd (omega arith)
