-- Any bits begin with a two-dimensional line against a reference, or reading one meets a fault.
use Rattle.std.proofs.Common.{◌≡◌, ◌⊎◌, ℕ, zero, suc, ◌+◌, ◌-◌, ◌<◌, ◌≤◌, Bool, ◌&&◌, List, [], ◌∷◌, ◌++◌, length, take, replicate, refl, sym, ◌∙◌, ap, subst, arith, inl, inr, append_assoc, append-nil, length-append}
use Rattle.std.proofs.lemmas.Bool.{cases_eq, cases_lt}
use Rattle.std.proofs.lemmas.List.{length-replicate, length-take-le, get_or-take, get_or_append_left, get_or-append_right, get_or-replicate}
use Rattle.fax_runcodes.specs.declared.Colour.{Colour}
use Rattle.fax_runcodes.specs.declared.Colour.TheVariants.{White}
use Rattle.fax_runcodes.specs.Rows.{Elements, differ, other, colour_at, colour_before, is_changing, first_place}
use Rattle.fax_runcodes.specs.RunFaults.{ReadsRun}
use Rattle.fax_runcodes.specs.Spelling.{SpellsRun}
use Rattle.fax_runcodes.proofs.Fronts.{begins_or_not}
use Rattle.fax_runcodes.proofs.ReadOrFail.{runs_are_read_or_fail}
use Rattle.fax_mhcode.specs.declared.fault.LineFault.{LineFault}
use Rattle.fax_mhcode.specs.declared.fault.LineFault.TheVariants.{Run, PastWidth, NoMode, BadPlace}
use Rattle.fax_mrcode.specs.declared.mode.Mode.{Mode}
use Rattle.fax_mrcode.specs.declared.mode.Mode.TheVariants.{Pass, Horizontal, Vertical}
use Rattle.fax_mrcode.specs.declared.mode.Offset.{Offset}
use Rattle.fax_mrcode.specs.declared.mode.Offset.TheVariants.{Left3, Left2, Left1, Zero, Right1, Right2, Right3}
use Rattle.fax_mrcode.specs.Laws.{BeginWithLine, LinesAreReadOrFail}
use Rattle.fax_mrcode.specs.LineFaults.{FailsLine, Stops, StopsAtRun}
use Rattle.fax_mrcode.specs.Lines.{Step, Steps}
use Rattle.fax_mrcode.specs.Modes.{mode_word, IsAt}
use Rattle.fax_mrcode.specs.Places.{a1, a2, b1, b2, run_start}
use Rattle.fax_mrcode.proofs.LineLaws.{IsAt-one}
use Rattle.fax_mrcode.proofs.PlaceLemmas.{IsFirst, first_place_is, first_place_past, Agree, Agree-before, IsStretch, b1_same, b2_same}
use Rattle.fax_mrcode.proofs.StepLemmas.{a1_at, a2_at, past_stretch, Steps-then}
use Rattle.fax_mrcode.proofs.VerticalLemmas.{mode_size}

-- ---- the mode that begins bits

abbrev all_modes : List Mode
all_modes = Pass ∷ Horizontal ∷ Vertical Zero ∷ Vertical Right1 ∷ Vertical Right2 ∷ Vertical Right3 ∷ Vertical Left1 ∷ Vertical Left2 ∷ Vertical Left3 ∷ []

-- no word of these modes begins the bits
abbrev BeginWithNone : List Bool → List Mode → Type 0
BeginWithNone bits [] = Unit {0}
BeginWithNone bits (mode ∷ modes) = ((rest : List Bool) → bits ≡ mode_word mode ++ rest → ⊥) × BeginWithNone bits modes

mode_or_none : (bits : List Bool) (modes : List Mode) → ((mode : Mode) × (rest : List Bool) × (bits ≡ mode_word mode ++ rest)) ⊎ BeginWithNone bits modes
mode_or_none bits [] = inr tt
mode_or_none bits (mode ∷ modes) = elim (begins_or_not (mode_word mode) bits) [
  | inl begins ↦ inl (mode, begins.0, begins.1)
  | inr not ↦ elim (mode_or_none bits modes) [ inl found ↦ inl found | inr none ↦ inr (not, none) ]
]

no_offset : (bits : List Bool) → BeginWithNone bits all_modes → (offset : Offset) (rest : List Bool) → bits ≡ mode_word (Vertical offset) ++ rest → ⊥
no_offset bits none Zero = none.1.1.0
no_offset bits none Right1 = none.1.1.1.0
no_offset bits none Right2 = none.1.1.1.1.0
no_offset bits none Right3 = none.1.1.1.1.1.0
no_offset bits none Left1 = none.1.1.1.1.1.1.0
no_offset bits none Left2 = none.1.1.1.1.1.1.1.0
no_offset bits none Left3 = none.1.1.1.1.1.1.1.1.0

no_mode : (bits : List Bool) → BeginWithNone bits all_modes → (mode : Mode) (rest : List Bool) → bits ≡ mode_word mode ++ rest → ⊥
no_mode bits none Pass = none.0
no_mode bits none Horizontal = none.1.0
no_mode bits none (Vertical offset) = no_offset bits none offset

-- ---- places

-- the place that lies so far from another, if there is one
at_offset : (offset : Offset) (b : ℕ) → ((a : ℕ) × IsAt offset a b) ⊎ ((a : ℕ) → IsAt offset a b → ⊥)
at_offset Zero b = inl (b, refl)
at_offset Right1 b = inl (b + 1, refl)
at_offset Right2 b = inl (b + 2, refl)
at_offset Right3 b = inl (b + 3, refl)
at_offset Left1 b = elim (cases_lt b 1) [ inl few ↦ inr (λ a is. omega arith) | inr enough ↦ inl (b - 1, omega arith) ]
at_offset Left2 b = elim (cases_lt b 2) [ inl few ↦ inr (λ a is. omega arith) | inr enough ↦ inl (b - 2, omega arith) ]
at_offset Left3 b = elim (cases_lt b 3) [ inl few ↦ inr (λ a is. omega arith) | inr enough ↦ inl (b - 3, omega arith) ]

-- the first place after a first place lies no further left, and within the end
second_place : (p q : ℕ → Bool) (from end : ℕ) → from ≤ end → (from ≤ first_place q (first_place p from end + 1) end) × (first_place q (first_place p from end + 1) end ≤ end)
second_place p q from end le =
    let first : IsFirst p from end (first_place p from end) = first_place_is p from end le in
    elim (cases_lt (first_place p from end) end) [
      | inl inside ↦
          let second : IsFirst q (first_place p from end + 1) end (first_place q (first_place p from end + 1) end) = first_place_is q (first_place p from end + 1) end (omega arith) in
          (omega (arith, first.low, second.low), second.high)
      | inr past ↦
          let none : first_place q (first_place p from end + 1) end ≡ end = first_place_past q (first_place p from end + 1) end (omega arith) in
          (omega arith, omega arith)
    ]

b2_within : (reference row : Elements) (from : ℕ) → from ≤ length row → (from ≤ b2 reference row from) × (b2 reference row from ≤ length row)
unfolding b1 b2
b2_within reference row from le =
    second_place (λ place. is_changing reference place && differ (colour_at reference place) (colour_before row from)) (is_changing reference) from (length row) le

-- ---- rows that begin alike

Agree-same : (v : Elements) (n : ℕ) → Agree v v n
unfolding Agree
Agree-same v n = λ k lt. refl

Agree-then : (u v w : Elements) (n m : ℕ) → n ≤ m → Agree u v m → Agree v w n → Agree u w n
unfolding Agree
Agree-then u v w n m le p q = λ k lt. p k (omega arith) ∙ q k lt

colour_like : (v w : Elements) (n k : ℕ) → Agree v w n → k < n → colour_at v k ≡ colour_at w k
unfolding Agree
colour_like v w n k like lt = like k lt

stretch_like : (v w : Elements) (colour : Colour) (from to n : ℕ) → Agree v w n → to ≤ n → IsStretch w colour from to → IsStretch v colour from to
stretch_like v w colour from to n like le s = record { all = λ k a b. colour_like v w n k like (omega arith) ∙ s.all k a b }

-- a row, but for one colour from a place on
abbrev painted_on : Elements → ℕ → Colour → Elements
painted_on row place colour = take place row ++ replicate (length row - place) colour

length-painted_on : (row : Elements) (place : ℕ) (colour : Colour) → place ≤ length row → length (painted_on row place colour) ≡ length row
length-painted_on row place colour le =
    omega (arith, length-append (take place row) (replicate (length row - place) colour), length-take-le place row le, length-replicate (length row - place) colour)

painted_left : (row : Elements) (place : ℕ) (colour : Colour) → place ≤ length row → Agree (painted_on row place colour) row place
unfolding Agree
painted_left row place colour le = λ k lt.
    get_or_append_left (take place row) (replicate (length row - place) colour) White k (omega (arith, length-take-le place row le)) ∙ get_or-take place row k White lt

painted_right : (row : Elements) (place : ℕ) (colour : Colour) (to : ℕ) → place ≤ length row → to ≤ length row → IsStretch (painted_on row place colour) colour place to
painted_right row place colour to le within = record {
  all = λ k a b.
      get_or-append_right (take place row) (replicate (length row - place) colour) place k White (length-take-le place row le) a
      ∙ get_or-replicate (length row - place) (k - place) colour White (omega arith);
}

-- ---- a step

-- A step is taken in rows that are like this one left of the next a0 and at it. It is as the one before left of a0 and at it.
record IsTaken (reference row : Elements) (from : ℕ) (mode : Mode) (step : List Bool) (place : ℕ) (next : Elements) : Type 0 where
  pub right : from ≤ place
  pub within : place ≤ length row
  pub wide : length next ≡ length row
  pub like : Agree next row from
  pub taken : (v : Elements) → length v ≡ length row → Agree v next (place + 1) → Step reference v from mode step place

module _ (reference row : Elements) (from : ℕ) (le : from ≤ length row) where
  -- the row with the colour at a0 from there on
  abbrev first : Elements
  first = painted_on row from (colour_before row from)

  size : length first ≡ length row
  size = length-painted_on row from (colour_before row from) le

  first_like : Agree first row from
  first_like = painted_left row from (colour_before row from) le

  pass_taken : b2 reference row from < length row → IsTaken reference row from Pass [] (b2 reference row from) first
  pass_taken inside =
      let colour : Colour = colour_before row from in
      let place : ℕ = b2 reference row from in
      let bounds : (from ≤ b2 reference row from) × (b2 reference row from ≤ length row) = b2_within reference row from le in
      record {
        right = bounds.0;
        within = bounds.1;
        wide = size;
        like = first_like;
        taken = λ v wide like. (
            let before : colour_before v from ≡ colour_before row from = Agree-before v row from (Agree-then v first row from (place + 1) (omega (arith, bounds.0)) like first_like) in
            let s : IsStretch v (colour_before row from) from (place + 1) = stretch_like v first colour from (place + 1) (place + 1) like (omega arith) (painted_right row from colour (place + 1) le (omega arith)) in
            let b : b2 reference v from ≡ place = b2_same reference v row from wide before in
            (subst (λ n. n < a1 v from) (sym b) (past_stretch v colour from place (omega arith) before (omega arith) s), refl, sym b));
      }

  -- and with the other colour from a place on
  abbrev second : ℕ → Elements
  second place = painted_on first place (other (colour_before row from))

  second_size : (place : ℕ) → place ≤ length row → length (second place) ≡ length row
  second_size place within = length-painted_on first place (other (colour_before row from)) (omega (arith, size)) ∙ size

  second_like : (place : ℕ) → from ≤ place → place ≤ length row → Agree (second place) row from
  second_like place right within =
      Agree-then (second place) first row from place right (painted_left first place (other (colour_before row from)) (omega (arith, size))) first_like

  -- up to there it has the colour at a0
  second_stretch : (place : ℕ) → from ≤ place → place ≤ length row → IsStretch (second place) (colour_before row from) from place
  second_stretch place right within =
      stretch_like (second place) first (colour_before row from) from place place (painted_left first place (other (colour_before row from)) (omega (arith, size))) (omega arith)
      (painted_right row from (colour_before row from) place le within)

  -- and from there on the other
  second_right : (place to : ℕ) → place ≤ length row → to ≤ length row → IsStretch (second place) (other (colour_before row from)) place to
  second_right place to within end = painted_right first place (other (colour_before row from)) to (omega (arith, size)) (omega (arith, size))

  vertical_taken : (offset : Offset) (place : ℕ) → IsAt offset place (b1 reference row from) → from ≤ place → place ≤ length row → IsTaken reference row from (Vertical offset) [] place (second place)
  vertical_taken offset place is right within = record {
    right = right;
    within = within;
    wide = second_size place within;
    like = second_like place right within;
    taken = λ v wide like. (
        let colour : Colour = colour_before row from in
        let before : colour_before v from ≡ colour_before row from = Agree-before v row from (Agree-then v (second place) row from (place + 1) (omega arith) like (second_like place right within)) in
        let s : IsStretch v colour from place = stretch_like v (second place) colour from place (place + 1) like (omega arith) (second_stretch place right within) in
        let change : place < length v → colour_at v place ≡ other colour = λ lt.
        colour_like v (second place) (place + 1) place like (omega arith) ∙ (second_right place (place + 1) within (omega arith)).all place (omega arith) (omega arith) in
        let a : a1 v from ≡ place = a1_at v colour from place (omega arith) before right (omega arith) s change in
        let b : b1 reference v from ≡ b1 reference row from = b1_same reference v row from wide before in
        (subst (λ n. IsAt offset n (b1 reference v from)) (sym a) (subst (λ n. IsAt offset place n) (sym b) is), refl, sym a));
  }

  -- and with the colour at a0 again, from another place on
  abbrev third : ℕ → ℕ → Elements
  third place next = painted_on (second place) next (colour_before row from)

  third_like : (place next : ℕ) → place ≤ next → next ≤ length row → Agree (third place next) (second place) next
  third_like place next order end = painted_left (second place) next (colour_before row from) (omega (arith, second_size place (omega arith)))

  horizontal_taken : (m n : ℕ) (s t : List Bool) → SpellsRun (colour_before row from) s m → SpellsRun (other (colour_before row from)) t n → from ≤ run_start from + m
      → run_start from + m ≤ length row → (0 < n) ⊎ (run_start from + m ≡ length row) → run_start from + m + n ≤ length row
      → IsTaken reference row from Horizontal (s ++ t) (run_start from + m + n) (third (run_start from + m) (run_start from + m + n))
  horizontal_taken m n s t spelt spelt2 right within some end =
      let colour : Colour = colour_before row from in
      let middle : ℕ = run_start from + m in
      let place : ℕ = run_start from + m + n in
      let size2 : length (second middle) ≡ length row = second_size middle within in
      let like3 : Agree (third middle place) (second middle) place = third_like middle place (omega arith) end in
      let like : Agree (third middle place) row from = Agree-then (third middle place) (second middle) row from place (omega arith) like3 (second_like middle right within) in
      record {
        right = omega arith;
        within = end;
        wide = length-painted_on (second middle) place colour (omega arith) ∙ size2;
        like = like;
        taken = λ v wide alike. (
            let before : colour_before v from ≡ colour_before row from = Agree-before v row from (Agree-then v (third middle place) row from (place + 1) (omega arith) alike like) in
            let after : Agree v (second middle) place = Agree-then v (third middle place) (second middle) place (place + 1) (omega arith) alike like3 in
            let s1 : IsStretch v colour from middle = stretch_like v (second middle) colour from middle place after (omega arith) (second_stretch middle right within) in
            let s2 : IsStretch v (other colour) middle place = stretch_like v (second middle) (other colour) middle place place after (omega arith) (second_right middle place within end) in
            let change : middle < length v → colour_at v middle ≡ other colour = λ lt. elim some [
              | inl more ↦ s2.all middle (omega arith) (omega arith)
              | inr none ↦ absurd (omega arith)
            ] in
            let change2 : place < length v → colour_at v place ≡ colour = λ lt.
            colour_like v (third middle place) (place + 1) place alike (omega arith)
            ∙ (painted_right (second middle) place colour (place + 1) (omega arith) (omega arith)).all place (omega arith) (omega arith) in
            let one : a1 v from ≡ middle = a1_at v colour from middle (omega arith) before right (omega arith) s1 change in
            let two : a2 v from ≡ place = a2_at v colour from middle place (omega arith) before one (omega arith) (omega arith) s2 change2 in
            let run : m ≡ a1 v from - run_start from = omega arith in
            let run2 : n ≡ a2 v from - a1 v from = omega arith in (
              s,
              t,
              refl,
              subst (λ (k : Colour). SpellsRun k s (a1 v from - run_start from)) (sym before) (subst (λ i. SpellsRun colour s i) run spelt),
              subst (λ (k : Colour). SpellsRun (other k) t (a2 v from - a1 v from)) (sym before) (subst (λ i. SpellsRun (other colour) t i) run2 spelt2),
              sym two,
            ));
      }

-- ---- the steps so far

abbrev ReadsOrFails : Elements → List Bool → Type 0
ReadsOrFails reference bits = BeginWithLine reference bits ⊎ ((fault : LineFault) × FailsLine reference bits fault)

-- Steps were read up to a0, and this rest is left: each row that is like this one left of a0 and at it has them.
record ReadTo (reference : Elements) (bits : List Bool) (row : Elements) (from : ℕ) (rest : List Bool) : Type 0 where
  pub same_width : length row ≡ length reference
  pub modes : List Mode
  pub text : List Bool
  pub bits_are : bits ≡ text ++ rest
  pub within : from ≤ length row + 1
  pub steps : (v : Elements) → length v ≡ length row → Agree v row from → Steps reference v 0 modes text from

ReadTo-none : (reference : Elements) (bits : List Bool) → ReadTo reference bits reference 0 bits
ReadTo-none reference bits = record { same_width = refl; modes = []; text = []; bits_are = refl; within = omega arith; steps = λ v wide like. (refl, refl) }

-- one step more
steps_more : (reference v : Elements) (from : ℕ) (modes : List Mode) (text : List Bool) (mode : Mode) (step : List Bool) (place : ℕ) → Steps reference v 0 modes text from → from ≤ length v
    → Step reference v from mode step place → Steps reference v 0 (modes ++ mode ∷ []) (text ++ (mode_word mode ++ step)) (place + 1)
steps_more reference v from modes text mode step place so_far le taken =
    Steps-then reference v 0 modes text from so_far (mode ∷ []) (mode_word mode ++ step) (place + 1) (le, step, [], place, sym (append-nil (mode_word mode ++ step)), taken, (refl, refl))

ReadTo-more : (reference : Elements) (bits : List Bool) (row : Elements) (from : ℕ) (rest : List Bool) (mode : Mode) (step : List Bool) (place : ℕ) (next : Elements) (more : List Bool)
    → ReadTo reference bits row from rest → from ≤ length row → IsTaken reference row from mode step place next → rest ≡ mode_word mode ++ (step ++ more) → ReadTo reference bits next (place + 1) more
ReadTo-more reference bits row from rest mode step place next more r le t e = record {
  same_width = t.wide ∙ r.same_width;
  modes = r.modes ++ mode ∷ [];
  text = r.text ++ (mode_word mode ++ step);
  bits_are = r.bits_are ∙ ap (λ b. r.text ++ b) (e ∙ sym (append_assoc (mode_word mode) step more)) ∙ sym (append_assoc r.text (mode_word mode ++ step) more);
  within = omega (arith, t.within, t.wide);
  steps = λ v wide like. (
      let size : length v ≡ length row = wide ∙ t.wide in
      steps_more reference v from r.modes r.text mode step place
      (r.steps v size (Agree-then v next row from (place + 1) (omega (arith, t.right)) like t.like)) (omega arith) (t.taken v size like));
}

-- what is read after a step, or why none is
abbrev NextOrFails : Elements → List Bool → List Bool → Type 0
NextOrFails reference bits rest =
    ((row : Elements) × (from : ℕ) × (more : List Bool) × (length more < length rest) × ReadTo reference bits row from more) ⊎ ((fault : LineFault) × FailsLine reference bits fault)

module _ (reference : Elements) (bits : List Bool) (row : Elements) (from : ℕ) (rest : List Bool) (r : ReadTo reference bits row from rest) (le : from ≤ length row) where
  fails_here : (fault : LineFault) → Stops reference row from rest fault → NextOrFails reference bits rest
  fails_here fault stops =
      inr (
        fault,
        record {
          row = row;
          modes = r.modes;
          from = from;
          text = r.text;
          rest = rest;
          same_width = r.same_width;
          steps = r.steps row refl (Agree-same row from);
          bits_are = r.bits_are;
          within = le;
          stops = stops;
        },
      )

  goes_on : (mode : Mode) (step : List Bool) (place : ℕ) (next : Elements) (more : List Bool) → IsTaken reference row from mode step place next → rest ≡ mode_word mode ++ (step ++ more)
      → NextOrFails reference bits rest
  goes_on mode step place next more t e =
      let some = mode_size mode in
      let parts : length rest ≡ length (mode_word mode) + length (step ++ more) = ap length e ∙ length-append (mode_word mode) (step ++ more) in
      let after : length (step ++ more) ≡ length step + length more = length-append step more in
      inl (next, place + 1, more, omega (arith, some.0), ReadTo-more reference bits row from rest mode step place next more r le t e)

  in_pass : (more : List Bool) → rest ≡ mode_word Pass ++ more → NextOrFails reference bits rest
  in_pass more e = elim (cases_eq (b2 reference row from) (length row)) [
    | inl end ↦ fails_here BadPlace (inr (Pass, more, e, (refl, end)))
    | inr apart ↦
        let bounds : (from ≤ b2 reference row from) × (b2 reference row from ≤ length row) = b2_within reference row from le in
        goes_on Pass [] (b2 reference row from) (first reference row from le) more (pass_taken reference row from le (omega (arith, bounds.1))) e
  ]

  -- a1 is not where it may be
  bad_place : (offset : Offset) (more : List Bool) → rest ≡ mode_word (Vertical offset) ++ more
      → ((a : ℕ) → IsAt offset a (b1 reference row from) → (a < from) ⊎ (length row < a)) → NextOrFails reference bits rest
  bad_place offset more e bad = fails_here BadPlace (inr (Vertical offset, more, e, (refl, bad)))

  in_vertical : (offset : Offset) (more : List Bool) → rest ≡ mode_word (Vertical offset) ++ more → NextOrFails reference bits rest
  in_vertical offset more e = elim (at_offset offset (b1 reference row from)) [
    | inr none ↦ bad_place offset more e (λ a is. absurd (none a is))
    | inl at ↦ elim (cases_lt at.0 from) [
      | inl left ↦ bad_place offset more e (λ a is. inl (omega (arith, IsAt-one offset a at.0 (b1 reference row from) is at.1)))
      | inr right ↦ elim (cases_lt (length row) at.0) [
        | inl past ↦ bad_place offset more e (λ a is. inr (omega (arith, IsAt-one offset a at.0 (b1 reference row from) is at.1)))
        | inr within ↦ goes_on (Vertical offset) [] at.0 (second reference row from le at.0) more (vertical_taken reference row from le offset at.0 at.1 right within) e
      ]
    ]
  ]

  -- a run is not empty where it may not be
  may_be : (n : ℕ) (a b : ℕ) → ((0 < n) ⊎ (a ≡ b)) ⊎ ((n ≡ 0) × (a ≡ b → ⊥))
  may_be zero a b = elim (cases_eq a b) [ inl same ↦ inl (inr same) | inr apart ↦ inr (refl, apart) ]
  may_be (suc n) a b = inl (inl (omega arith))

  -- the text of a horizontal step
  both_runs : (more after last : List Bool) (s t : List Bool) → rest ≡ mode_word Horizontal ++ more → more ≡ s ++ after → after ≡ t ++ last → rest ≡ mode_word Horizontal ++ ((s ++ t) ++ last)
  both_runs more after last s t e first second =
      e ∙ ap (λ b. mode_word Horizontal ++ b) (first ∙ ap (λ b. s ++ b) second ∙ sym (append_assoc s t last))

  -- why the second run is not taken
  second_fails : (more : List Bool) → rest ≡ mode_word Horizontal ++ more → (m : ℕ) (after : List Bool) → ReadsRun (colour_before row from) more m after
      → (0 < m) ⊎ (from ≡ 0) → run_start from + m ≤ length row → (fault : LineFault)
      → StopsAtRun (length row) (other (colour_before row from)) (run_start from + m) (run_start from + m ≡ length row) after fault → NextOrFails reference bits rest
  second_fails more e m after reads some fits fault stops = fails_here fault (inr (Horizontal, more, e, inr (m, after, reads, some, fits, stops)))

  second_run : (more : List Bool) → rest ≡ mode_word Horizontal ++ more → (m : ℕ) (after : List Bool) → ReadsRun (colour_before row from) more m after
      → (0 < m) ⊎ (from ≡ 0) → run_start from + m ≤ length row → NextOrFails reference bits rest
  second_run more e m after reads some fits = elim (runs_are_read_or_fail (other (colour_before row from)) after) [
    | inr fails ↦ second_fails more e m after reads some fits (Run fails.0) fails.1
    | inl found ↦ elim (cases_lt (length row) (run_start from + m + found.0)) [
      | inl past ↦ second_fails more e m after reads some fits PastWidth (found.0, found.1, found.2, past)
      | inr within ↦ elim (may_be found.0 (run_start from + m) (length row)) [
        | inr empty ↦ second_fails more e m after reads some fits BadPlace (found.1, subst (λ n. ReadsRun (other (colour_before row from)) after n found.1) empty.0 found.2, empty.1)
        | inl some2 ↦
            let right : from ≤ run_start from + m = elim some [ inl one ↦ omega arith | inr none ↦ omega arith ] in
            goes_on Horizontal (reads.text ++ found.2.text) (run_start from + m + found.0) (third reference row from le (run_start from + m) (run_start from + m + found.0)) found.1
            (horizontal_taken reference row from le m found.0 reads.text found.2.text reads.spelt found.2.spelt right fits some2 within)
            (both_runs more after found.1 reads.text found.2.text e reads.bits_are found.2.bits_are)
      ]
    ]
  ]

  -- why the first run is not taken
  first_fails : (more : List Bool) → rest ≡ mode_word Horizontal ++ more → (fault : LineFault)
      → StopsAtRun (length row) (colour_before row from) (run_start from) (from ≡ 0) more fault → NextOrFails reference bits rest
  first_fails more e fault stops = fails_here fault (inr (Horizontal, more, e, inl stops))

  in_horizontal : (more : List Bool) → rest ≡ mode_word Horizontal ++ more → NextOrFails reference bits rest
  in_horizontal more e = elim (runs_are_read_or_fail (colour_before row from) more) [
    | inr fails ↦ first_fails more e (Run fails.0) fails.1
    | inl found ↦ elim (cases_lt (length row) (run_start from + found.0)) [
      | inl past ↦ first_fails more e PastWidth (found.0, found.1, found.2, past)
      | inr within ↦ elim (may_be found.0 from 0) [
        | inr empty ↦ first_fails more e BadPlace (found.1, subst (λ n. ReadsRun (colour_before row from) more n found.1) empty.0 found.2, empty.1)
        | inl some ↦ second_run more e found.0 found.1 found.2 some within
      ]
    ]
  ]

  in_mode : (mode : Mode) (more : List Bool) → rest ≡ mode_word mode ++ more → NextOrFails reference bits rest
  in_mode Pass more e = in_pass more e
  in_mode Horizontal more e = in_horizontal more e
  in_mode (Vertical offset) more e = in_vertical offset more e

  one_step : NextOrFails reference bits rest
  one_step = elim (mode_or_none rest all_modes) [
    | inr none ↦ fails_here NoMode (inl (refl, no_mode rest none))
    | inl found ↦ in_mode found.0 found.1 found.2
  ]

-- the line, once a0 is the width
whole_line : (reference : Elements) (bits : List Bool) (row : Elements) (from : ℕ) (rest : List Bool) → ReadTo reference bits row from rest → length row < from → ReadsOrFails reference bits
whole_line reference bits row from rest r past =
    let end : from ≡ length row + 1 = omega (arith, r.within) in
    let steps : Steps reference row 0 r.modes r.text (length row + 1) = subst (λ n. Steps reference row 0 r.modes r.text n) end (r.steps row refl (Agree-same row from)) in
    inl (r.text, rest, row, record { same_width = r.same_width; modes = r.modes; steps = steps }, r.bits_are)

read_from : (reference : Elements) (bits : List Bool) (n : ℕ) (row : Elements) (from : ℕ) (rest : List Bool) → length rest < n → ReadTo reference bits row from rest → ReadsOrFails reference bits
read_from reference bits zero row from rest few r = absurd (omega arith)
read_from reference bits (suc n) row from rest few r = elim (cases_lt (length row) from) [
  | inl past ↦ whole_line reference bits row from rest r past
  | inr inside ↦ elim (one_step reference bits row from rest r inside) [
    | inr fails ↦ inr fails
    | inl next ↦ read_from reference bits n next.0 next.1 next.2 (omega (arith, next.3)) next.4
  ]
]

-- Any bits begin with a line against a reference, or reading one meets a fault.
pub lines_are_read_or_fail : LinesAreReadOrFail
lines_are_read_or_fail reference bits = read_from reference bits (suc (length bits)) reference 0 bits (omega arith) (ReadTo-none reference bits)
