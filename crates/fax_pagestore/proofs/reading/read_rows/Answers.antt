use Rattle.std.proofs.Common.{◌≡◌, ◌<◌, length, [], ◌∷◌, ◌++◌, true, false, arith, refl, sym, ap, inl, inr, ◌∙◌, subst}
use Rattle.std.proofs.lemmas.Result.{err_from_is_err_and}
use Rattle.fax_bits.specs.Reading.{Place}
use Rattle.fax_runcodes.specs.Rows.{Elements, IsWidth}
use Rattle.fax_runcodes.specs.Widths.{elements_of}
use Rattle.fax_mhcode.proofs.LineLaws.{IsWidth-elements}
use Rattle.fax_pagestore.specs.PageFaults.{LineBegins, last_of, row_before}
use Rattle.fax_pagestore.proofs.PageReading.{RowsSoFar, RowsSoFar-row, RowsSoFar-pushed, RowsSoFar-still, RowsSoFar-known, RowsSoFar-whole, Keeps-push, Keeps-width, Knows-kept, full_fails, row_fails, return_fails, return_broken, return_breaks_off, empty_fails}
use Rattle.fax_pagestore.proofs.reading.read_rows.Goals as goal
use Rattle.fax_pagestore.proofs.reading.read_rows.Goals.{After-len-n, After-read_row, After-push_lent-in-Some}
use Rattle.fax_pagestore.proofs.reading.read_rows.Given.{Over}

-- the rows so far, with the row before the next line
known : (g : Over) (c : After-len-n g)
    → RowsSoFar c.args.coding (elements_of c.args.width) c.args.first c.args.reader.now c.loop-window.tag (row_before c.len-n.result c.loop-window.kept) c.loop-window.reader (g.S.RowStore.rows c.loop-window.rows)
known g c =
    RowsSoFar-known c.args.coding (elements_of c.args.width) c.args.first c.loop-window.tag (last_of (g.S.RowStore.rows c.loop-window.rows)) (row_before c.len-n.result c.loop-window.kept) c.args.reader.now
    c.loop-window.reader (g.S.RowStore.rows c.loop-window.rows) c.loop-window.invariant.0
    (Knows-kept c.loop-window.tag c.loop-window.kept (g.S.RowStore.rows c.loop-window.rows) c.len-n.result c.len-n.ensures c.loop-window.invariant.1)

pub returns-then-n-eq-MOST_ROWS-clause-fault : goal.returns-then-n-eq-MOST_ROWS-clause-fault
returns-then-n-eq-MOST_ROWS-clause-fault g c =
    λ _. full_fails c.args.coding (elements_of c.args.width) c.args.first c.loop-window.tag (last_of (g.S.RowStore.rows c.loop-window.rows)) c.args.reader.now c.loop-window.reader (g.S.RowStore.rows c.loop-window.rows)
    c.loop-window.invariant.0 (c.in-Some.ensures.begins.0 refl) (sym c.len-n.ensures ∙ c.if-n-eq-MOST_ROWS.true)

-- what is kept has the width
kept_width : (g : Over) (c : After-len-n g) → c.loop-window.tag ≡ false → 0 < c.len-n.result → length c.loop-window.kept ≡ elements_of c.args.width
kept_width g c two some =
    Keeps-width (elements_of c.args.width) c.loop-window.tag c.loop-window.kept (g.S.RowStore.rows c.loop-window.rows) c.loop-window.invariant.1 c.loop-window.invariant.0.each two (omega (arith, c.len-n.ensures, some))

pub pass_white_row-requires-clause-width : goal.pass_white_row-requires-clause-width
pass_white_row-requires-clause-width g c = kept_width g (goal.at.pass_white_row-requires-clause-width g c).After-len-n

-- ---- a white row

pub lend-requires : goal.lend-requires
lend-requires g c =
    let read = c.in-Some-pass_white_row.ensures.some in
    subst IsWidth
    (sym (RowsSoFar-row c.args.coding (elements_of c.args.width) c.args.first c.loop-window.tag (row_before c.len-n.result c.loop-window.kept) c.args.reader.now c.loop-window.reader (g.S.RowStore.rows c.loop-window.rows)
    c.pass_white_row.new.kept read.0 (known g (goal.at.lend-requires g c).After-len-n) read.2))
    (IsWidth-elements c.args.width)

pub loop-window-preserved-in-Some-pass_white_row : goal.loop-window-preserved-in-Some-pass_white_row
loop-window-preserved-in-Some-pass_white_row g c =
    let pushed : g.S.RowStore.rows c.push_lent.new.self ≡ g.S.RowStore.rows c.loop-window.rows ++ c.pass_white_row.new.kept ∷ [] =
    c.in_ok-push_lent.ensures.pushed ∙ ap (λ (row : Elements). g.S.RowStore.rows c.loop-window.rows ++ row ∷ []) c.lend.ensures in (
      RowsSoFar-pushed c.args.coding (elements_of c.args.width) c.args.first c.loop-window.tag c.in-Some-pass_white_row.next (row_before c.len-n.result c.loop-window.kept) c.args.reader.now c.loop-window.reader
          c.pass_white_row.new.reader (g.S.RowStore.rows c.loop-window.rows) (g.S.RowStore.rows c.push_lent.new.self) c.pass_white_row.new.kept (known g (goal.at.loop-window-preserved-in-Some-pass_white_row g c).After-len-n)
          (omega (arith, c.len-n.ensures, c.if-n-eq-MOST_ROWS.false)) pushed c.in-Some-pass_white_row.ensures.some,
      rw pushed (Keeps-push c.in-Some-pass_white_row.next c.pass_white_row.new.kept c.pass_white_row.new.kept (g.S.RowStore.rows c.loop-window.rows) (λ two. refl)),
    )

-- ---- another row

pub read_row-requires : goal.read_row-requires
read_row-requires g c =
    λ two some.
    subst IsWidth (sym (ap length (c.in_default-pass_white_row.ensures.none refl).1 ∙ kept_width g (goal.at.read_row-requires g c).After-len-n two some)) (IsWidth-elements c.args.width)

-- the rows so far, where no white row was passed
known_still : (g : Over) (c : After-read_row g)
    → RowsSoFar c.args.coding (elements_of c.args.width) c.args.first c.args.reader.now c.loop-window.tag (row_before c.len-n.result c.loop-window.kept) c.loop-window.reader (g.S.RowStore.rows c.loop-window.rows)
    → RowsSoFar c.args.coding (elements_of c.args.width) c.args.first c.args.reader.now c.loop-window.tag (row_before c.len-n.result c.pass_white_row.new.kept) c.pass_white_row.new.reader (g.S.RowStore.rows c.loop-window.rows)
known_still g c so_far =
    RowsSoFar-still c.args.coding (elements_of c.args.width) c.args.first c.loop-window.tag c.len-n.result c.args.reader.now c.loop-window.reader c.pass_white_row.new.reader c.loop-window.kept c.pass_white_row.new.kept
    (g.S.RowStore.rows c.loop-window.rows) so_far (c.in_default-pass_white_row.ensures.none refl)

pub returns-in_err-tag-clause-fault : goal.returns-in_err-tag-clause-fault
returns-in_err-tag-clause-fault g c =
    let p = err_from_is_err_and c.from_residual-in_err-tag.result c.from_residual-in_err-tag.ensures.1 in
    let at = goal.at.returns-in_err-tag-clause-fault g c in
    let begins : LineBegins c.pass_white_row.new.reader.left =
    subst (λ (here : Place). LineBegins here.left) (sym (c.in_default-pass_white_row.ensures.none refl).0) (c.in-Some.ensures.begins.0 refl) in
    rw (p.1, p.2)
    (λ _. row_fails c.args.coding (elements_of c.args.width) c.args.first c.loop-window.tag (row_before c.len-n.result c.pass_white_row.new.kept) c.args.reader.now c.pass_white_row.new.reader
    (g.S.RowStore.rows c.loop-window.rows) c.len-n.result c.in_err-tag.field-0.0 (known_still g at.After-read_row (known g at.After-len-n)) begins
    (omega (arith, c.len-n.ensures, c.if-n-eq-MOST_ROWS.false)) c.len-n.ensures c.in_err-tag.ensures.fault)

pub lend-requires-in-Some : goal.lend-requires-in-Some
lend-requires-in-Some g c =
    let at = goal.at.lend-requires-in-Some g c in
    let read = c.in_ok-tag.ensures.ok in
    subst IsWidth
    (sym (RowsSoFar-row c.args.coding (elements_of c.args.width) c.args.first c.loop-window.tag (row_before c.len-n.result c.pass_white_row.new.kept) c.args.reader.now c.pass_white_row.new.reader
    (g.S.RowStore.rows c.loop-window.rows) c.read_row.new.line read.0 (known_still g at.After-read_row (known g at.After-len-n)) read.2))
    (IsWidth-elements c.args.width)

-- the rows with the one that was pushed
pushed : (g : Over) (c : After-push_lent-in-Some g) → g.S.RowStore.rows c.push_lent-in-Some.new.self ≡ g.S.RowStore.rows c.loop-window.rows ++ c.lend-in-Some.result ∷ []
    → g.S.RowStore.rows c.push_lent-in-Some.new.self ≡ g.S.RowStore.rows c.loop-window.rows ++ c.read_row.new.line ∷ []
pushed g c added = added ∙ ap (λ (row : Elements). g.S.RowStore.rows c.loop-window.rows ++ row ∷ []) c.lend-in-Some.ensures

-- one row more
more : (g : Over) (c : After-push_lent-in-Some g) → g.S.RowStore.rows c.push_lent-in-Some.new.self ≡ g.S.RowStore.rows c.loop-window.rows ++ c.read_row.new.line ∷ []
    → RowsSoFar c.args.coding (elements_of c.args.width) c.args.first c.args.reader.now c.loop-window.tag (row_before c.len-n.result c.pass_white_row.new.kept) c.pass_white_row.new.reader (g.S.RowStore.rows c.loop-window.rows)
    → RowsSoFar c.args.coding (elements_of c.args.width) c.args.first c.args.reader.now c.in_ok-tag.tag (last_of (g.S.RowStore.rows c.push_lent-in-Some.new.self)) c.read_row.new.reader (g.S.RowStore.rows c.push_lent-in-Some.new.self)
more g c added so_far =
    RowsSoFar-pushed c.args.coding (elements_of c.args.width) c.args.first c.loop-window.tag c.in_ok-tag.tag (row_before c.len-n.result c.pass_white_row.new.kept) c.args.reader.now c.pass_white_row.new.reader
    c.read_row.new.reader (g.S.RowStore.rows c.loop-window.rows) (g.S.RowStore.rows c.push_lent-in-Some.new.self) c.read_row.new.line so_far (omega (arith, c.len-n.ensures, c.if-n-eq-MOST_ROWS.false))
    added c.in_ok-tag.ensures.ok

pub loop-window-preserved-then-not-tag : goal.loop-window-preserved-then-not-tag
loop-window-preserved-then-not-tag g c =
    let at = goal.at.loop-window-preserved-then-not-tag g c in (
      more g at.After-push_lent-in-Some (pushed g at.After-push_lent-in-Some c.in_ok-push_lent-2.ensures.pushed) (known_still g at.After-read_row (known g at.After-len-n)),
      rw (pushed g at.After-push_lent-in-Some c.in_ok-push_lent-2.ensures.pushed)
          (Keeps-push c.in_ok-tag.tag c.swap.new.y c.read_row.new.line (g.S.RowStore.rows c.loop-window.rows) (λ two. c.swap.ensures.y_after)),
    )

pub loop-window-preserved : goal.loop-window-preserved
loop-window-preserved g c =
    let at = goal.at.loop-window-preserved g c in
    let one : c.in_ok-tag.tag ≡ true = c.if-not-tag.false in
    (more g at.After-push_lent-in-Some (pushed g at.After-push_lent-in-Some c.in_ok-push_lent-2.ensures.pushed) (known_still g at.After-read_row (known g at.After-len-n)), λ two. cc)

pub returns-in-Broken : goal.returns-in-Broken
returns-in-Broken g c = record {
  ok = tt;
  fault = λ _. return_fails c.args.coding (elements_of c.args.width) c.args.first c.loop-window.tag (last_of (g.S.RowStore.rows c.loop-window.rows)) c.args.reader.now c.loop-window.reader (g.S.RowStore.rows c.loop-window.rows)
      c.loop-window.invariant.0 (elim c.in-Broken.is [
        | inl broken ↦ return_broken c.args.coding (elements_of c.args.width) (g.S.RowStore.rows c.loop-window.rows) c.loop-window.tag c.loop-window.reader.left (c.pass_return_to_control.ensures.broken broken)
        | inr off ↦ return_breaks_off c.args.coding (elements_of c.args.width) (g.S.RowStore.rows c.loop-window.rows) c.loop-window.tag c.loop-window.reader.left (c.pass_return_to_control.ensures.breaks_off off)
      ]);
}

pub returns-then-len-eq0-clause-fault : goal.returns-then-len-eq0-clause-fault
returns-then-len-eq0-clause-fault g c =
    λ _. empty_fails c.args.coding (elements_of c.args.width) c.args.first c.loop-window.tag (last_of (g.S.RowStore.rows c.loop-window.rows)) c.args.reader.now c.loop-window.reader c.pass_return_to_control.new.reader
    (g.S.RowStore.rows c.loop-window.rows) c.loop-window.invariant.0 (c.pass_return_to_control.ensures.whole c.in-Whole.is) (sym c.len.ensures ∙ c.if-len-eq0.true)

pub returns-clause-ok : goal.returns-clause-ok
returns-clause-ok g c =
    RowsSoFar-whole c.args.coding (elements_of c.args.width) c.args.first c.loop-window.tag (last_of (g.S.RowStore.rows c.loop-window.rows)) c.args.reader.now c.loop-window.reader c.pass_return_to_control.new.reader
    (g.S.RowStore.rows c.loop-window.rows) c.loop-window.invariant.0 (c.pass_return_to_control.ensures.whole c.in-Whole.is) (omega (arith, c.len.ensures, c.if-len-eq0.false))
