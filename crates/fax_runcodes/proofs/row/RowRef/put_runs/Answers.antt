use Rattle.std.proofs.Common.{◌≡◌, ℕ, List, ◌+◌, ◌-◌, ◌<◌, ◌++◌, ◌∷◌, [], length, get_or, drop, take, set, ap, sym, ◌∙◌, arith, append_assoc, length-set, add-one}
use Rattle.std.proofs.Math.Seq.{take-suc-set}
use Rattle.std.proofs.lemmas.List.{drop-drop, drop-set-lt}
use Rattle.fax_runcodes.specs.Rows.{AreRuns}
use Rattle.fax_runcodes.proofs.PaintedLemmas.{rising_le, rising_lower}
use Rattle.fax_runcodes.proofs.RunsOfRow.{runs_between, runs_between-drop_more, runs_between-drop_all, rising-drop_more, runs_between_are_runs}
use Rattle.fax_runcodes.proofs.row.RowRef.put_runs.Goals as goal

length_runs_between : (from : ℕ) (ps : List ℕ) (end : ℕ) → length (runs_between from ps end) ≡ length ps + 1
unfolding runs_between
length_runs_between from [] end = omega arith
length_runs_between from (p ∷ ps) end = let e : length (runs_between p ps end) ≡ length ps + 1 = length_runs_between p ps end in omega arith

put_one : (runs : List ℕ) (i n : ℕ) → i < length runs → take (i + 1) (set runs i n) ≡ take i runs ++ n ∷ []
put_one runs i n here = ap (λ (k : ℕ). take k (set runs i n)) (add-one i) ∙ take-suc-set runs i n here

-- one more run is put
more_put : (runs ps all : List ℕ) (from i width : ℕ) → i < length ps → i < length runs → take i runs ++ runs_between from (drop i ps) width ≡ all
    → take (i + 1) (set runs i (get_or ps i 0 - from)) ++ runs_between (get_or ps i 0) (drop (i + 1) ps) width ≡ all
more_put runs ps all from i width within here so_far =
    let rest = runs_between (get_or ps i 0) (drop (i + 1) ps) width in
    ap (λ (front : List ℕ). front ++ rest) (put_one runs i (get_or ps i 0 - from) here)
    ∙ append_assoc (take i runs) ((get_or ps i 0 - from) ∷ []) rest
    ∙ ap (λ (others : List ℕ). take i runs ++ others) (sym (runs_between-drop_more from ps i width within))
    ∙ so_far

-- the last one is put
all_put : (runs ps all : List ℕ) (from i width : ℕ) → i ≡ length ps → length ps < length runs → take i runs ++ runs_between from (drop i ps) width ≡ all
    → take (length ps + 1) (set runs (length ps) (width - from)) ≡ all
all_put runs ps all from i width end here so_far =
    put_one runs (length ps) (width - from) here
    ∙ ap (λ (k : ℕ). take k runs ++ (width - from) ∷ []) (sym end)
    ∙ ap (λ (others : List ℕ). take i runs ++ others) (sym (runs_between-drop_all from ps i width (omega arith)))
    ∙ so_far

drop_further : (runs old : List ℕ) (i : ℕ) → drop i runs ≡ drop i old → drop (i + 1) runs ≡ drop (i + 1) old
drop_further runs old i same = sym (drop-drop 1 i runs) ∙ ap (λ (rest : List ℕ). drop 1 rest) same ∙ drop-drop 1 i old

-- after the one that is put nothing is changed
kept_after : (runs old : List ℕ) (i n : ℕ) → drop i runs ≡ drop i old → drop (i + 1) (set runs i n) ≡ drop (i + 1) old
kept_after runs old i n same = drop-set-lt (i + 1) runs i n (omega arith) ∙ drop_further runs old i same

pub overflow_sub-runs : goal.overflow_sub-runs
overflow_sub-runs c =
    let within : c.loop-i.i < length c.self.inside.places.now = omega arith in
    (rising-drop_more c.loop-i.from c.self.inside.places.now c.loop-i.i c.self.inside.elements within c.loop-i.invariant.rising).0

pub overflow_sub-runs-2 : goal.overflow_sub-runs-2
overflow_sub-runs-2 c = rising_le c.loop-i.from (drop c.loop-i.i c.self.inside.places.now) c.self.inside.elements c.loop-i.invariant.rising

pub loop-i-preserved : goal.loop-i-preserved
loop-i-preserved c =
    let places = c.self.inside.places.now in
    let within : c.loop-i.i < length places = omega arith in
    let here : c.loop-i.i < length c.loop-i.runs = omega (arith, c.loop-i.invariant.same) in
    let next = rising-drop_more c.loop-i.from places c.loop-i.i c.self.inside.elements within c.loop-i.invariant.rising in
    (record {
      all = more_put c.loop-i.runs places (runs_between 0 places c.self.inside.elements) c.loop-i.from c.loop-i.i c.self.inside.elements within here c.loop-i.invariant.all;
      rising = rising_lower (get_or places c.loop-i.i 0 + 1) (get_or places c.loop-i.i 0) (drop (c.loop-i.i + 1) places) c.self.inside.elements (omega arith) next.1;
      same = length-set c.loop-i.runs c.loop-i.i (get_or places c.loop-i.i 0 - c.loop-i.from) ∙ c.loop-i.invariant.same;
      after = kept_after c.loop-i.runs c.args.runs.now c.loop-i.i (get_or places c.loop-i.i 0 - c.loop-i.from) c.loop-i.invariant.after;
    })

pub returns-clause-after : goal.returns-clause-after
returns-clause-after c =
    let places = c.self.inside.places.now in
    let end : c.loop-i.i ≡ length places = omega (arith, c.loop-i.auto.i-end) in
    kept_after c.loop-i.runs c.args.runs.now (length places) (c.self.inside.elements - c.loop-i.from) (rw end at c.loop-i.invariant.after)

pub returns-clause-some : goal.returns-clause-some
returns-clause-some c =
    let places = c.self.inside.places.now in
    let end : c.loop-i.i ≡ length places = omega (arith, c.loop-i.auto.i-end) in
    let room : length places < length c.loop-i.runs = omega (arith, c.loop-i.invariant.same) in
    let put = all_put c.loop-i.runs places (runs_between 0 places c.self.inside.elements) c.loop-i.from c.loop-i.i c.self.inside.elements end room c.loop-i.invariant.all in
    let are : AreRuns (runs_between 0 places c.self.inside.elements) c.args.self.now = rw (← c.self.view_is) (runs_between_are_runs places c.self.inside.elements c.self.invariant.0) in
    (rw put are, omega (arith, c.loop-i.invariant.same))

pub returns-then-runs-places-clause-none : goal.returns-then-runs-places-clause-none
returns-then-runs-places-clause-none c =
    let places = c.self.inside.places.now in
    let are : AreRuns (runs_between 0 places c.self.inside.elements) c.args.self.now = rw (← c.self.view_is) (runs_between_are_runs places c.self.inside.elements c.self.invariant.0) in
    (runs_between 0 places c.self.inside.elements, are, omega (arith, length_runs_between 0 places c.self.inside.elements))
