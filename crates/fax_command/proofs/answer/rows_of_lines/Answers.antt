use Rattle.std.proofs.Common.{◌≡◌, [], ◌∷◌, ◌++◌, length, refl, rules, arith, inl, inr, sym, ◌∙◌, ap, append_assoc, append-nil, length-append}
use Rattle.std.proofs.lemmas.List.Elements.{All-push}
use Rattle.fax_runcodes.specs.Widths.{elements_of}
use Rattle.fax_pagestore.specs.PageRows.{most_rows}
use Rattle.fax_command.specs.RowLines.{lines_of}
use Rattle.fax_command.proofs.TellLemmas.{TellRows-push, TellRows-empty, ComesAfter-told}
use Rattle.fax_command.proofs.answer.rows_of_lines.Goals as goal

pub returns-then-number-ge-MOST_ROWS-clause-fault : goal.returns-then-number-ge-MOST_ROWS-clause-fault
returns-then-number-ge-MOST_ROWS-clause-fault g c =
    let so_far = c.loop-line.invariant in
    let rows = g.S.RowStore.rows c.loop-line.rows in
    let lines_are = so_far.lines_are ∙ ap (λ rest. so_far.before ++ rest) c.in-Some.ensures.lines in
    inr (refl, c.in-Some.line.now, ComesAfter-told (elements_of c.args.width) c.args.input.now so_far.before rows most_rows c.in-Some.line.now (lines_of c.in-Some.after.now) lines_are so_far.told so_far.each (omega (arith, so_far.few)))

pub returns-in_default-2-clause-fault : goal.returns-in_default-2-clause-fault
returns-in_default-2-clause-fault g c =
    let so_far = c.loop-line.invariant in
    let rows = g.S.RowStore.rows c.loop-line.rows in
    let lines_are = so_far.lines_are ∙ ap (λ rest. so_far.before ++ rest) c.in-Some.ensures.lines in (
      omega arith,
      c.in-Some.line.now,
      ComesAfter-told (elements_of c.args.width) c.args.input.now so_far.before rows c.len-number.result c.in-Some.line.now (lines_of c.in-Some.after.now) lines_are so_far.told so_far.each (sym c.len-number.ensures),
      rw c.in_default-2.is at c.in_ok-row.ensures.none,
    )

pub loop-line-preserved : goal.loop-line-preserved
loop-line-preserved g c =
    let so_far = c.loop-line.invariant in
    let line = c.in-Some.line.now in
    let told = rw c.in-Some-2.is at c.in_ok-row.ensures.some in
    let pushed : g.S.RowStore.rows c.push.new.self ≡ g.S.RowStore.rows c.loop-line.rows ++ c.in-Some-2.row ∷ [] = search rules in
    record {
      before = so_far.before ++ line ∷ [];
      lines_are = so_far.lines_are ∙ ap (λ rest. so_far.before ++ rest) c.in-Some.ensures.lines ∙ sym (append_assoc so_far.before (line ∷ []) (lines_of c.in-Some.after.now));
      told = rw pushed (TellRows-push so_far.before _ line _ so_far.told told.1);
      few = omega (arith, simp length-append at (ap length pushed));
      each = rw pushed (All-push (λ row. length row ≡ elements_of c.args.width) _ _ so_far.each told.0);
    }

pub returns-then-len-eq0-clause-fault : goal.returns-then-len-eq0-clause-fault
unfolding lines_of
returns-then-len-eq0-clause-fault g c =
    let so_far = c.loop-line.invariant in
    let none : so_far.before ≡ [] = TellRows-empty so_far.before (g.S.RowStore.rows c.loop-line.rows) so_far.told (omega arith) in
    inl (refl, so_far.lines_are ∙ ap (λ lines. lines ++ lines_of c.loop-line.rest.now) none ∙ ap lines_of c.in_default.ensures.none)

pub returns-clause-told : goal.returns-clause-told
unfolding lines_of
returns-clause-told g c =
    let so_far = c.loop-line.invariant in
    let all : lines_of c.args.input.now ≡ so_far.before = so_far.lines_are ∙ ap (λ rest. so_far.before ++ lines_of rest) c.in_default.ensures.none ∙ append-nil so_far.before in
    rw all so_far.told
