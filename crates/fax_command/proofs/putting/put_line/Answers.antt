use Rattle.std.proofs.Common.{◌≡◌, ℕ, [], ◌∷◌, ◌++◌, ◌+◌, ◌-◌, length, get_or, drop, decimal, refl, sym, ◌∙◌, ap, subst, arith}
use Rattle.std.proofs.lemmas.Result.{on_ok_weaker}
use Rattle.fax_runcodes.specs.Rows.{Elements, AreRuns}
use Rattle.fax_runcodes.proofs.PaintedLemmas.{rising_le, rising_lower}
use Rattle.fax_runcodes.proofs.RunsOfRow.{runs_between, rising-drop_more, runs_between_are_runs}
use Rattle.fax_command.specs.RowLines.{line_of}
use Rattle.fax_command.proofs.LineTexts.{line_goes_on, line_ends}
use Rattle.fax_command.proofs.PutLemmas.{Puts-then, Puts-same, Puts-last}
use Rattle.fax_command.proofs.putting.put_line.Goals as goal

pub overflow_sub-place : goal.overflow_sub-place
overflow_sub-place g c =
    (rising-drop_more c.loop-place.from c.changes-places.result.now c.loop-place.place-index (length c.args.row.now) c.loop-place-test.true c.loop-place.invariant.rising).0

pub overflow_sub-width : goal.overflow_sub-width
overflow_sub-width g c =
    let left = drop c.loop-place.place-index c.changes-places.result.now in
    rw c.width.ensures.len (rising_le c.loop-place.from left (length c.args.row.now) c.loop-place.invariant.rising)

pub loop-place-preserved : goal.loop-place-preserved
loop-place-preserved g c =
    let so_far = c.loop-place.invariant in
    let places = c.changes-places.result.now in
    let i = c.loop-place.place-index in
    let from = c.loop-place.from in
    let end = length c.args.row.now in
    let run : ℕ = get_or places i 0 - from in
    let next = rising-drop_more from places i end c.loop-place-test.true so_far.rising in
    let text = ap (λ (n : ℕ). decimal n ++ 32 ∷ []) (sym c.from.ensures) in
    record {
      front = so_far.front ++ (decimal run ++ 32 ∷ []);
      line = line_goes_on _ so_far.front places from i end c.loop-place-test.true so_far.line;
      rising = rising_lower (get_or places i 0 + 1) (get_or places i 0) (drop (i + 1) places) end (omega arith) next.1;
      put = Puts-then _ _ _ _ _ _ _ _ so_far.put (Puts-same _ _ _ _ _ _ c.in_ok-put_number.ensures.text text);
      failed = c.in_ok-put_number.ensures.failed ∙ so_far.failed;
    }

pub returns-clause-text : goal.returns-clause-text
returns-clause-text g c =
    let so_far = c.loop-place.invariant in
    let places = c.changes-places.result.now in
    let i = c.loop-place.place-index in
    let from = c.loop-place.from in
    let end = length c.args.row.now in
    let runs = runs_between 0 places end in
    let are : AreRuns runs c.args.row.now =
    subst (λ (r : Elements). AreRuns runs r) (sym c.changes-places.ensures.painted) (runs_between_are_runs places end c.changes-places.ensures.rising) in
    let last : end - from ≡ c.from-2.result = ap (λ (n : ℕ). n - from) (sym c.width.ensures.len) ∙ sym c.from-2.ensures in
    let whole = line_ends (line_of runs) so_far.front places from i end c.loop-place-test.false so_far.line
    ∙ ap (λ (n : ℕ). so_far.front ++ (decimal n ++ 10 ∷ [])) last in
    let put = Puts-last c.put_number-2.result _ _ _ _ _ _ _ _ _ so_far.put whole c.put_number-2.ensures.text in
    on_ok_weaker c.put_number-2.result (λ p. (line_of runs, record { runs = runs; are_runs = are; line_is = refl }, p)) put
