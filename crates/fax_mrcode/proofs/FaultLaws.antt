-- Laws of the faults of two-dimensional lines: bits that begin with a line don't fail, and bits fail in
-- one way.
use Rattle.std.proofs.Common.{◌≡◌, ℕ, ◌+◌, ◌-◌, ◌<◌, ◌≤◌, Bool, List, [], ◌∷◌, ◌++◌, length, refl, sym, ◌∙◌, ap, subst, arith, append_assoc, inl, inr, ◌⊎◌, Result, Ok, Err, IsOk, OnOk, IfErr}
use Rattle.std.proofs.lemmas.List.{append_cancel_left}
use Rattle.std.proofs.lemmas.Bool.{cases_eq, cases_lt}
use Rattle.fax_bits.specs.Reading.{Place, Passes}
use Rattle.fax_runcodes.specs.declared.Colour.{Colour}
use Rattle.fax_runcodes.specs.declared.fault.RunFault.{RunFault}
use Rattle.fax_runcodes.specs.Rows.{Elements, IsWidth, other, colour_at, colour_before}
use Rattle.fax_runcodes.specs.RunFaults.{ReadsRun}
use Rattle.fax_runcodes.proofs.RunLaws.{SpellsRun-one, ReadsRun-not_fails, FailsRun-one}
use Rattle.fax_mhcode.specs.declared.fault.LineFault.{LineFault}
use Rattle.fax_mhcode.specs.declared.fault.LineFault.TheVariants.{Run, PastWidth, NoMode, BadPlace, NoMemory}
use Rattle.fax_mrcode.specs.declared.mode.Mode.{Mode}
use Rattle.fax_mrcode.specs.declared.mode.Mode.TheVariants.{Pass, Horizontal, Vertical}
use Rattle.fax_mrcode.specs.Modes.{mode_word, IsAt}
use Rattle.fax_mrcode.specs.Places.{a1, a2, run_start}
use Rattle.fax_mrcode.specs.Lines.{Step, Steps, SpellsLine}
use Rattle.fax_mrcode.specs.LineFaults.{FailsLine, Stops, StopsIn, StopsAtRun}
use Rattle.fax_mrcode.proofs.PlaceLemmas.{Agree, Agree-before, IsA1, IsA2, a1_is, a2_is, b1_same, b2_same}
use Rattle.fax_mrcode.proofs.LineLaws.{modes_prefix_free, front, SameStep, step_one, SpellsLine-one}
use Rattle.fax_mrcode.proofs.CursorLemmas.{other_apart}
use Rattle.fax_mrcode.proofs.StepLemmas.{StopsAtRun-other}

Agree-sym : (v w : Elements) (n : ℕ) → Agree v w n → Agree w v n
unfolding Agree
Agree-sym v w n h = λ k lt. sym (h k lt)

Agree-none : (v w : Elements) → Agree v w 0
unfolding Agree
Agree-none v w = λ k lt. absurd (omega arith)

-- ---- steps of two rows that begin the same bits

-- both end at one place with the same bits left
pub record Meets (v w : Elements) (p q : ℕ) (x y : List Bool) : Type 0 where
  pub rows : Agree v w p
  pub place : p ≡ q
  pub bits : x ≡ y

-- where the first ends the second takes one more step
pub record GoesOn (reference v w : Elements) (from : ℕ) (bits : List Bool) : Type 0 where
  pub rows : Agree v w from
  pub within : from ≤ length w
  pub mode : Mode
  pub step : List Bool
  pub rest : List Bool
  pub next : ℕ
  pub bits_are : bits ≡ mode_word mode ++ (step ++ rest)
  pub taken : Step reference w from mode step next

goes_on : (reference v w : Elements) (from p : ℕ) (s t x y : List Bool) (m : Mode) (f r : List Bool) (next : ℕ) → Agree v w from → s ++ x ≡ t ++ y → s ≡ [] → p ≡ from
    → from ≤ length w → t ≡ mode_word m ++ f ++ r → Step reference w from m f next → GoesOn reference v w p x
goes_on reference v w from p s t x y m f r next rows e none at le text taken = record {
  rows = subst (Agree v w) (sym at) rows;
  within = omega arith;
  mode = m;
  step = f;
  rest = r ++ y;
  next = next;
  bits_are = ap (λ b. b ++ x) (sym none) ∙ e ∙ ap (λ b. b ++ y) text ∙ sym (front m f r y) ∙ ap (λ b. mode_word m ++ b) (append_assoc f r y);
  taken = subst (λ n. Step reference w n m f next) (sym at) taken;
}

pub meet : (reference v w : Elements) → length v ≡ length w → (ms ns : List Mode) (from : ℕ) (s t x y : List Bool) (p q : ℕ) → Agree v w from → s ++ x ≡ t ++ y
    → Steps reference v from ms s p → Steps reference w from ns t q → Meets v w p q x y ⊎ (GoesOn reference v w p x ⊎ GoesOn reference w v q y)
meet reference v w widths [] [] from s t x y p q rows e (es, ep) (et, eq) =
    inl (record { rows = subst (Agree v w) (sym ep) rows; place = ep ∙ sym eq; bits = ap (λ b. b ++ x) (sym es) ∙ e ∙ ap (λ b. b ++ y) et })
meet reference v w widths [] (n ∷ ns) from s t x y p q rows e (es, ep) (le, f, r, k, et, taken, later) =
    inr (inl (goes_on reference v w from p s t x y n f r k rows e es ep le et taken))
meet reference v w widths (m ∷ ms) [] from s t x y p q rows e (le, f, r, k, es, taken, later) (et, eq) =
    inr (inr (goes_on reference w v from q t s y x m f r k (Agree-sym v w from rows) (sym e) et eq le es taken))
meet reference v w widths (m ∷ ms) (n ∷ ns) from s t x y p q rows e (le, f, r, k, es, taken, later) (le', f', r', k', et, taken', later') =
    let whole : mode_word m ++ ((f ++ r) ++ x) ≡ mode_word n ++ ((f' ++ r') ++ y) =
    front m f r x ∙ ap (λ b. b ++ x) (sym es) ∙ e ∙ ap (λ b. b ++ y) et ∙ sym (front n f' r' y) in
    let mode : m ≡ n = modes_prefix_free m n ((f ++ r) ++ x) ((f' ++ r') ++ y) whole in
    let after : (f ++ r) ++ x ≡ (f' ++ r') ++ y = append_cancel_left (mode_word m) ((f ++ r) ++ x) ((f' ++ r') ++ y) (whole ∙ ap (λ o. mode_word o ++ ((f' ++ r') ++ y)) (sym mode)) in
    let there : f ++ (r ++ x) ≡ f' ++ (r' ++ y) = sym (append_assoc f r x) ∙ after ∙ append_assoc f' r' y in
    let same : SameStep v w f f' k k' = step_one reference v w widths m from f f' k k' (r ++ x) (r' ++ y) le rows there taken (subst (λ o. Step reference w from o f' k') (sym mode) taken') in
    let next : r ++ x ≡ r' ++ y = append_cancel_left f (r ++ x) (r' ++ y) (there ∙ ap (λ b. b ++ (r' ++ y)) (sym same.text)) in
    meet reference v w widths ms ns (k + 1) r r' x y p q same.rows next later (subst (λ o. Steps reference w (o + 1) ns r' q) (sym same.next) later')

-- ---- where steps stop

-- bits begin with one run
ReadsRun-one : (colour : Colour) (bits : List Bool) (m n : ℕ) (x y : List Bool) → ReadsRun colour bits m x → ReadsRun colour bits n y → (m ≡ n) × (x ≡ y)
ReadsRun-one colour bits m n x y p q =
    let whole : p.text ++ x ≡ q.text ++ y = sym p.bits_are ∙ q.bits_are in
    let one : (p.text ≡ q.text) × (m ≡ n) = SpellsRun-one colour p.text q.text m n x y p.spelt q.spelt whole in
    (one.1, append_cancel_left p.text x y (whole ∙ ap (λ b. b ++ y) (sym one.0)))

-- a run that may be taken is no fault
reads_not_stopped : (width : ℕ) (colour : Colour) (start : ℕ) (P : Type 0) (bits : List Bool) (fault : LineFault) (run : ℕ) (rest : List Bool)
    → ReadsRun colour bits run rest → start + run ≤ width → (0 < run) ⊎ P → StopsAtRun width colour start P bits fault → ⊥
reads_not_stopped width colour start P bits (Run f) run rest r le some s = ReadsRun-not_fails colour bits run rest f r s
reads_not_stopped width colour start P bits PastWidth run rest r le some (n, more, q, lt) =
    let one = ReadsRun-one colour bits run n rest more r q in
    omega (arith, one.0)
reads_not_stopped width colour start P bits BadPlace run rest r le some (more, q, none) =
    let one : (run ≡ 0) × (rest ≡ more) = ReadsRun-one colour bits run 0 rest more r q in
    elim some [ inl lt ↦ omega (arith, one.0) | inr may ↦ none may ]
reads_not_stopped width colour start P bits NoMode run rest r le some s = s
reads_not_stopped width colour start P bits NoMemory run rest r le some s = s

StopsAtRun-one : (width : ℕ) (colour : Colour) (start : ℕ) (P : Type 0) (bits : List Bool) (f g : LineFault) → start ≤ width
    → StopsAtRun width colour start P bits f → StopsAtRun width colour start P bits g → f ≡ g
StopsAtRun-one width colour start P bits (Run f) (Run g) le s t = ap (λ (x : RunFault). Run x) (FailsRun-one colour bits f g s t)
StopsAtRun-one width colour start P bits (Run f) PastWidth le s (n, rest, r, lt) = absurd (ReadsRun-not_fails colour bits n rest f r s)
StopsAtRun-one width colour start P bits (Run f) BadPlace le s (rest, r, none) = absurd (ReadsRun-not_fails colour bits 0 rest f r s)
StopsAtRun-one width colour start P bits (Run f) NoMode le s t = absurd t
StopsAtRun-one width colour start P bits (Run f) NoMemory le s t = absurd t
StopsAtRun-one width colour start P bits PastWidth (Run g) le (n, rest, r, lt) t = absurd (ReadsRun-not_fails colour bits n rest g r t)
StopsAtRun-one width colour start P bits PastWidth PastWidth le s t = refl
StopsAtRun-one width colour start P bits PastWidth BadPlace le (n, rest, r, lt) (more, q, none) =
    let one : (n ≡ 0) × (rest ≡ more) = ReadsRun-one colour bits n 0 rest more r q in
    absurd (omega (arith, one.0))
StopsAtRun-one width colour start P bits PastWidth NoMode le s t = absurd t
StopsAtRun-one width colour start P bits PastWidth NoMemory le s t = absurd t
StopsAtRun-one width colour start P bits BadPlace (Run g) le (rest, r, none) t = absurd (ReadsRun-not_fails colour bits 0 rest g r t)
StopsAtRun-one width colour start P bits BadPlace PastWidth le (more, q, none) (n, rest, r, lt) =
    let one : (n ≡ 0) × (rest ≡ more) = ReadsRun-one colour bits n 0 rest more r q in
    absurd (omega (arith, one.0))
StopsAtRun-one width colour start P bits BadPlace BadPlace le s t = refl
StopsAtRun-one width colour start P bits BadPlace NoMode le s t = absurd t
StopsAtRun-one width colour start P bits BadPlace NoMemory le s t = absurd t
StopsAtRun-one width colour start P bits NoMode g le s t = absurd s
StopsAtRun-one width colour start P bits NoMemory g le s t = absurd s

-- where a step stops, it stops for each row with the colour at a0
StopsIn-same : (reference v w : Elements) (from : ℕ) (mode : Mode) (bits : List Bool) (fault : LineFault) → length v ≡ length w → colour_before v from ≡ colour_before w from
    → StopsIn reference v mode from bits fault → StopsIn reference w mode from bits fault
StopsIn-same reference v w from Pass bits fault widths before (is, at) = (is, sym (b2_same reference v w from widths before) ∙ at ∙ widths)
StopsIn-same reference v w from (Vertical offset) bits fault widths before (is, none) = (
  is,
  λ place at. elim (none place (subst (λ n. IsAt offset place n) (sym (b1_same reference v w from widths before)) at)) [
    | inl left ↦ inl left
    | inr past ↦ inr (omega arith)
  ],
)
StopsIn-same reference v w from Horizontal bits fault widths before (inl s) =
    inl (StopsAtRun-other (length v) (length w) (colour_before v from) (colour_before w from) (run_start from) (run_start from) bits fault widths before refl (λ none. none) s)
StopsIn-same reference v w from Horizontal bits fault widths before (inr (run, rest, r, some, le, s)) =
    inr (
      run,
      rest,
      subst (λ (k : Colour). ReadsRun k bits run rest) before r,
      some,
      omega arith,
      StopsAtRun-other (length v) (length w) (other (colour_before v from)) (other (colour_before w from)) (run_start from + run) (run_start from + run) rest fault widths (ap other before) refl (λ whole. whole ∙ sym widths) s,
    )

Stops-same : (reference v w : Elements) (from : ℕ) (bits : List Bool) (fault : LineFault) → length v ≡ length w → colour_before v from ≡ colour_before w from
    → Stops reference v from bits fault → Stops reference w from bits fault
Stops-same reference v w from bits fault widths before (inl none) = inl none
Stops-same reference v w from bits fault widths before (inr (mode, rest, e, s)) = inr (mode, rest, e, StopsIn-same reference v w from mode rest fault widths before s)

-- a2 lies right of a1, where a1 is not the width
a2_right : (row : Elements) (from : ℕ) → from ≤ length row → a1 row from < length row → a1 row from < a2 row from
a2_right row from le inside =
    let first : IsA1 row from = a1_is row from le in
    let second : IsA2 row from = a2_is row from le in
    let low : a1 row from ≤ a2 row from = second.low in
    elim (cases_eq (a1 row from) (a2 row from)) [
      | inl same ↦
          let here : colour_at row (a1 row from) ≡ other (colour_before row from) = first.change inside in
          let there : colour_at row (a2 row from) ≡ colour_before row from = second.change (omega arith) in
          absurd (other_apart (colour_before row from) (sym here ∙ ap (colour_at row) same ∙ there))
      | inr apart ↦ omega arith
    ]

-- a step that can be taken is no fault
in_not_stopped : (reference v : Elements) (from : ℕ) (mode : Mode) (step rest : List Bool) (next : ℕ) (fault : LineFault) → length v ≤ 2432 → from ≤ length v
    → Step reference v from mode step next → StopsIn reference v mode from (step ++ rest) fault → ⊥
in_not_stopped reference v from Pass step rest next fault few le (lt, none, e) (is, at) =
    let first : IsA1 v from = a1_is v from le in
    let high : a1 v from ≤ length v = first.high in
    omega arith
in_not_stopped reference v from (Vertical offset) step rest next fault few le (at, none, e) (is, no_place) =
    let first : IsA1 v from = a1_is v from le in
    elim (no_place (a1 v from) at) [ inl left ↦ omega (arith, first.low) | inr past ↦ omega (arith, first.high) ]
in_not_stopped reference v from Horizontal step rest next fault few le (s, t, e, p, q, at) stops =
    let first : IsA1 v from = a1_is v from le in
    let second : IsA2 v from = a2_is v from le in
    let text : step ++ rest ≡ s ++ (t ++ rest) = ap (λ b. b ++ rest) e ∙ append_assoc s t rest in
    let reads : ReadsRun (colour_before v from) (step ++ rest) (a1 v from - run_start from) (t ++ rest) = record { text = s; spelt = p; within = omega (arith, first.high); bits_are = text } in
    let reads2 : ReadsRun (other (colour_before v from)) (t ++ rest) (a2 v from - a1 v from) rest = record { text = t; spelt = q; within = omega (arith, second.high); bits_are = refl } in
    let place : run_start from + (a1 v from - run_start from) ≡ a1 v from = omega (arith, first.low) in
    let some : (0 < a1 v from - run_start from) ⊎ (from ≡ 0) = elim (cases_eq from 0) [ inl none ↦ inr none | inr more ↦ inl (omega (arith, first.low)) ] in
    elim stops [
      | inl here ↦ reads_not_stopped (length v) (colour_before v from) (run_start from) (from ≡ 0) (step ++ rest) fault (a1 v from - run_start from) (t ++ rest) reads (omega (arith, first.high)) some here
      | inr later ↦
          let one = ReadsRun-one (colour_before v from) (step ++ rest) later.0 (a1 v from - run_start from) later.1 (t ++ rest) later.2 reads in
          let start : run_start from + later.0 ≡ a1 v from = omega (arith, one.0) in
          let some2 : (0 < a2 v from - a1 v from) ⊎ (run_start from + later.0 ≡ length v) = elim (cases_lt (a1 v from) (length v)) [ inl inside ↦ inl (omega (arith, a2_right v from le inside)) | inr past ↦ inr (omega (arith, first.high)) ] in
          reads_not_stopped (length v) (other (colour_before v from)) (run_start from + later.0) (run_start from + later.0 ≡ length v) later.1 fault (a2 v from - a1 v from) rest
          (subst (λ b. ReadsRun (other (colour_before v from)) b (a2 v from - a1 v from) rest) (sym one.1) reads2) (omega (arith, second.high, second.low)) some2 later.5
    ]

step_not_stopped : (reference v : Elements) (from : ℕ) (mode : Mode) (step rest bits : List Bool) (next : ℕ) (fault : LineFault) → length v ≤ 2432 → from ≤ length v
    → bits ≡ mode_word mode ++ (step ++ rest) → Step reference v from mode step next → Stops reference v from bits fault → ⊥
step_not_stopped reference v from mode step rest bits next fault few le e taken (inl none) = none.1 mode (step ++ rest) e
step_not_stopped reference v from mode step rest bits next fault few le e taken (inr (m, r, e', s)) =
    let whole : mode_word m ++ r ≡ mode_word mode ++ (step ++ rest) = sym e' ∙ e in
    let same : m ≡ mode = modes_prefix_free m mode r (step ++ rest) whole in
    let after : r ≡ step ++ rest = append_cancel_left (mode_word m) r (step ++ rest) (whole ∙ ap (λ o. mode_word o ++ (step ++ rest)) (sym same)) in
    in_not_stopped reference v from mode step rest next fault few le taken (subst (λ o. StopsIn reference v o from (step ++ rest) fault) same (subst (λ b. StopsIn reference v m from b fault) after s))

StopsIn-one : (reference v : Elements) (from : ℕ) (mode : Mode) (bits : List Bool) (f g : LineFault) → from ≤ length v → StopsIn reference v mode from bits f → StopsIn reference v mode from bits g → f ≡ g
StopsIn-one reference v from Pass bits f g le s t = s.0 ∙ sym t.0
StopsIn-one reference v from (Vertical offset) bits f g le s t = s.0 ∙ sym t.0
StopsIn-one reference v from Horizontal bits f g le (inl s) (inl t) = StopsAtRun-one (length v) (colour_before v from) (run_start from) (from ≡ 0) bits f g (omega arith) s t
StopsIn-one reference v from Horizontal bits f g le (inl s) (inr (run, rest, r, some, within, t)) =
    absurd (reads_not_stopped (length v) (colour_before v from) (run_start from) (from ≡ 0) bits f run rest r within some s)
StopsIn-one reference v from Horizontal bits f g le (inr (run, rest, r, some, within, s)) (inl t) =
    absurd (reads_not_stopped (length v) (colour_before v from) (run_start from) (from ≡ 0) bits g run rest r within some t)
StopsIn-one reference v from Horizontal bits f g le (inr (run, rest, r, some, within, s)) (inr (run', rest', r', some', within', t)) =
    let one = ReadsRun-one (colour_before v from) bits run' run rest' rest r' r in
    let start : run_start from + run' ≡ run_start from + run = omega (arith, one.0) in
    StopsAtRun-one (length v) (other (colour_before v from)) (run_start from + run) (run_start from + run ≡ length v) rest f g within s
    (StopsAtRun-other (length v) (length v) (other (colour_before v from)) (other (colour_before v from)) (run_start from + run') (run_start from + run) rest g refl refl start (λ whole. start ∙ whole)
    (subst (λ b. StopsAtRun (length v) (other (colour_before v from)) (run_start from + run') (run_start from + run' ≡ length v) b g) one.1 t))

Stops-one : (reference v : Elements) (from : ℕ) (bits : List Bool) (f g : LineFault) → from ≤ length v → Stops reference v from bits f → Stops reference v from bits g → f ≡ g
Stops-one reference v from bits f g le (inl s) (inl t) = s.0 ∙ sym t.0
Stops-one reference v from bits f g le (inl s) (inr (m, rest, e, t)) = absurd (s.1 m rest e)
Stops-one reference v from bits f g le (inr (m, rest, e, s)) (inl t) = absurd (t.1 m rest e)
Stops-one reference v from bits f g le (inr (m, rest, e, s)) (inr (n, rest', e', t)) =
    let whole : mode_word n ++ rest' ≡ mode_word m ++ rest = sym e' ∙ e in
    let same : n ≡ m = modes_prefix_free n m rest' rest whole in
    let after : rest' ≡ rest = append_cancel_left (mode_word n) rest' rest (whole ∙ ap (λ o. mode_word o ++ rest) (sym same)) in
    StopsIn-one reference v from m rest f g le s (subst (λ o. StopsIn reference v o from rest g) same (subst (λ b. StopsIn reference v n from b g) after t))

-- ---- the laws

-- where the other row takes one more step, this one's doesn't stop
goes_on_not_stopped : (reference v w : Elements) (from : ℕ) (bits : List Bool) (fault : LineFault) → length v ≡ length w → length w ≤ 2432 → GoesOn reference v w from bits → Stops reference v from bits fault → ⊥
goes_on_not_stopped reference v w from bits fault widths few g s =
    step_not_stopped reference w from g.mode g.step g.rest bits g.next fault few g.within g.bits_are g.taken (Stops-same reference v w from bits fault widths (Agree-before v w from g.rows) s)

-- What begins with a line doesn't fail.
pub SpellsLine-not_fails : (reference : Elements) (bits text rest : List Bool) (row : Elements) (fault : LineFault) → length reference ≤ 2432 → SpellsLine reference text row → bits ≡ text ++ rest
    → FailsLine reference bits fault → ⊥
SpellsLine-not_fails reference bits text rest row fault few l e f =
    let widths : length f.row ≡ length row = f.same_width ∙ sym l.same_width in
    elim (meet reference f.row row widths f.modes l.modes 0 f.text text f.rest rest f.from (length row + 1) (Agree-none f.row row) (sym f.bits_are ∙ e) f.steps l.steps) [
      | inl m ↦ omega (arith, m.place, f.within)
      | inr more ↦ elim more [
        | inl g ↦ goes_on_not_stopped reference f.row row f.from f.rest fault widths (omega (arith, l.same_width)) g f.stops
        | inr g ↦ omega (arith, g.within)
      ]
    ]

-- Bits fail in one way.
pub FailsLine-one : (reference : Elements) (bits : List Bool) (f g : LineFault) → length reference ≤ 2432 → FailsLine reference bits f → FailsLine reference bits g → f ≡ g
FailsLine-one reference bits f g few p q =
    let widths : length p.row ≡ length q.row = p.same_width ∙ sym q.same_width in
    elim (meet reference p.row q.row widths p.modes q.modes 0 p.text q.text p.rest q.rest p.from q.from (Agree-none p.row q.row) (sym p.bits_are ∙ q.bits_are) p.steps q.steps) [
      | inl m ↦
          let here : Stops reference q.row p.from p.rest g = subst (λ n. Stops reference q.row n p.rest g) (sym m.place) (subst (λ b. Stops reference q.row q.from b g) (sym m.bits) q.stops) in
          Stops-one reference p.row p.from p.rest f g p.within p.stops (Stops-same reference q.row p.row p.from p.rest g (sym widths) (sym (Agree-before p.row q.row p.from m.rows)) here)
      | inr more ↦ elim more [
        | inl k ↦ absurd (goes_on_not_stopped reference p.row q.row p.from p.rest f widths (omega (arith, q.same_width)) k p.stops)
        | inr k ↦ absurd (goes_on_not_stopped reference q.row p.row q.from q.rest g (sym widths) (omega (arith, p.same_width)) k q.stops)
      ]
    ]

-- ---- what an exact reader answers
pub reads_from : {T : Type 0} (reference : Elements) (bits : List Bool) (result : Result T LineFault) (line : Elements) → length reference ≤ 2432
    → OnOk result ((text rest : List Bool) × SpellsLine reference text line × (bits ≡ text ++ rest)) → IfErr result (λ fault. FailsLine reference bits fault)
    → (row : Elements) (text rest : List Bool) → SpellsLine reference text row → bits ≡ text ++ rest → IsOk result × (line ≡ row)
reads_from reference bits (Ok t) line w o e row text rest l b = (refl, (SpellsLine-one reference o.0 text line row o.1 rest o.2 l (sym o.3 ∙ b)).1)
reads_from reference bits (Err fault) line w o e row text rest l b = absurd (SpellsLine-not_fails reference bits text rest row fault w l b e)

pub fails_from : {T : Type 0} (reference : Elements) (bits : List Bool) (result : Result T LineFault) (line : Elements) → length reference ≤ 2432
    → OnOk result ((text rest : List Bool) × SpellsLine reference text line × (bits ≡ text ++ rest)) → IfErr result (λ fault. FailsLine reference bits fault)
    → (fault : LineFault) → FailsLine reference bits fault → result ≡ Err fault
fails_from reference bits (Ok t) line w o e fault f = absurd (SpellsLine-not_fails reference bits o.0 o.1 line fault w o.2 o.3 f)
fails_from reference bits (Err other) line w o e fault f = ap (λ (k : LineFault). Err k) (FailsLine-one reference bits other fault w e f)

-- what passes a line to its end, or to the step that cannot be taken
pub passes_from : {T : Type 0} (reference : Elements) (old new : Place) (result : Result T LineFault) → length reference ≤ 2432
    → IfErr result (λ fault. (fails : FailsLine reference old.left fault) × Passes old new fails.text)
    → (row : Elements) (text rest : List Bool) → SpellsLine reference text row → old.left ≡ text ++ rest → IsOk result
passes_from reference old new (Ok t) w e row text rest l b = refl
passes_from reference old new (Err fault) w e row text rest l b = absurd (SpellsLine-not_fails reference old.left text rest row fault w l b e.0)

pub stops_from : {T : Type 0} (reference : Elements) (old new : Place) (result : Result T LineFault) → length reference ≤ 2432
    → OnOk result ((row : Elements) × (text : List Bool) × SpellsLine reference text row × Passes old new text)
    → IfErr result (λ fault. (fails : FailsLine reference old.left fault) × Passes old new fails.text)
    → (fault : LineFault) → FailsLine reference old.left fault → result ≡ Err fault
stops_from reference old new (Ok t) w o e fault f = absurd (SpellsLine-not_fails reference old.left o.1 new.left o.0 fault w o.2 o.3.bits f)
stops_from reference old new (Err other) w o e fault f = ap (λ (k : LineFault). Err k) (FailsLine-one reference old.left other fault w e.0 f)

pub IsWidth-few : (width : ℕ) → IsWidth width → width ≤ 2432
IsWidth-few width (inl a) = omega arith
IsWidth-few width (inr (inl b)) = omega arith
IsWidth-few width (inr (inr c)) = omega arith
