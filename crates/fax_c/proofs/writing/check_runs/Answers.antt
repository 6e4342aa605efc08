use Rattle.std.proofs.Common.{◌≡◌, ℕ, ◌+◌, ◌++◌, ◌∷◌, [], List, length, take, drop, ap, sym, ◌∙◌, arith, append_assoc, length-append}
use Rattle.std.proofs.lemmas.List.{take-append-drop}
use Rattle.std.proofs.lemmas.List.Elements.{All-push}
use Rattle.fax_runcodes.specs.Rows.{Elements, AreRuns}
use Rattle.fax_runcodes.specs.Widths.{elements_of}
use Rattle.fax_c.specs.Calls.{StandInFront}
use Rattle.fax_c.proofs.FrontLemmas.{rest_is}
use Rattle.fax_c.proofs.RunsLemmas.{AreRunsOf-push}
use Rattle.fax_c.proofs.writing.check_runs.Goals as goal

-- one more row in front
stand-push : (width : ℕ) (runs rest next : List ℕ) (n count : ℕ) (row : Elements) → StandInFront width runs n rest → next ≡ drop count rest → AreRuns (take count rest) row → length row ≡ width
    → StandInFront width runs (n + 1) next
stand-push width runs rest next n count row so_far is are wide = record {
  rows = so_far.rows ++ row ∷ [];
  front = so_far.front ++ take count rest;
  runs_are = so_far.runs_are ∙ ap (λ (ns : List ℕ). so_far.front ++ ns) (sym (take-append-drop count rest)) ∙ sym (append_assoc so_far.front (take count rest) (drop count rest))
      ∙ ap (λ (ns : List ℕ). (so_far.front ++ take count rest) ++ ns) (sym is);
  are_runs = AreRunsOf-push so_far.front so_far.rows (take count rest) row so_far.are_runs are;
  so_many = omega (arith, length-append so_far.rows (row ∷ []), so_far.so_many);
  of_width = All-push (λ (r : Elements). length r ≡ width) so_far.rows row so_far.of_width wide;
}

pub loop-rest-preserved : goal.loop-rest-preserved
loop-rest-preserved c =
    let (row, are, wide) = c.in-Some.ensures.some in
    record {
      so_far = stand-push (elements_of c.args.width) c.args.runs.now c.loop-rest.rest.now _ c.loop-rest.rows c.in-Some.count row c.loop-rest.invariant.so_far (rest_is c.loop-rest.rest.now c.in-Some.count) are wide;
      few = omega arith;
    }
