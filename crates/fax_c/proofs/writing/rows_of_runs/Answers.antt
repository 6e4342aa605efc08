use Rattle.std.proofs.Common.{◌≡◌, ℕ, ◌++◌, ◌∷◌, [], List, length, take, drop, ap, sym, ◌∙◌, arith, append_assoc, length-append}
use Rattle.std.proofs.lemmas.List.{take-append-drop}
use Rattle.std.proofs.lemmas.List.Elements.{All-push}
use Rattle.fax_runcodes.specs.Rows.{Elements}
use Rattle.fax_runcodes.specs.Widths.{elements_of}
use Rattle.fax_c.proofs.FrontLemmas.{rest_is}
use Rattle.fax_c.proofs.RunsLemmas.{AreRunsOf-push}
use Rattle.fax_c.proofs.writing.rows_of_runs.Goals as goal

pub returns-in_default-clause-refusal : goal.returns-in_default-clause-refusal
returns-in_default-clause-refusal g c =
    let so_far = c.loop-rest.invariant in
    let rows = g.S.RowStore.rows c.loop-rest.rows in
    λ _. (
      omega (arith, c.len-number.ensures),
      c.loop-rest.rest.now,
      record { rows = rows; front = so_far.front; runs_are = so_far.runs_are; are_runs = so_far.are_runs; so_many = sym c.len-number.ensures; of_width = so_far.each },
      c.in_default.ensures.none,
    )

pub loop-rest-preserved : goal.loop-rest-preserved
loop-rest-preserved g c =
    let so_far = c.loop-rest.invariant in
    let rest = c.loop-rest.rest.now in
    let count = c.in-Some.count in
    let rows = g.S.RowStore.rows c.loop-rest.rows in
    let row = c.paint_row.new.self in
    let pushed : g.S.RowStore.rows c.push_lent.new.self ≡ rows ++ row ∷ [] = c.in_ok-push_lent.ensures.pushed ∙ ap (λ (r : Elements). rows ++ r ∷ []) c.lend.ensures in
    record {
      front = so_far.front ++ take count rest;
      runs_are = so_far.runs_are ∙ ap (λ (ns : List ℕ). so_far.front ++ ns) (sym (take-append-drop count rest)) ∙ sym (append_assoc so_far.front (take count rest) (drop count rest))
          ∙ ap (λ (ns : List ℕ). (so_far.front ++ take count rest) ++ ns) (sym (rest_is rest count));
      are_runs = rw pushed (AreRunsOf-push so_far.front rows (take count rest) row so_far.are_runs c.in-Some.ensures.runs.0);
      few = omega (arith, simp length-append at (ap length pushed));
      each = rw pushed (All-push (λ (r : Elements). length r ≡ elements_of c.args.width) rows row so_far.each c.in-Some.ensures.width);
    }
