use Rattle.std.proofs.Common.{◌≡◌, ◌<◌, Bool, length, [], ◌∷◌, ◌++◌, false, Some, arith, refl, sym, ap, ◌∙◌, subst, Result, Ok}
use Rattle.fax_bits.specs.Reading.{Place}
use Rattle.fax_runcodes.specs.Rows.{Elements, IsWidth}
use Rattle.fax_runcodes.specs.Widths.{elements_of}
use Rattle.fax_mhcode.proofs.LineLaws.{IsWidth-elements}
use Rattle.fax_pagestore.specs.declared.fault.PageFault.{PageFault}
use Rattle.fax_pagestore.specs.PageFaults.{LineBegins, last_of, Stops}
use Rattle.fax_pagestore.specs.Readers.{ReadsOne}
use Rattle.fax_pagestore.proofs.PageReading.{Keeps, Keeps-width, Knows-kept, last_of-push}
use Rattle.fax_pagestore.proofs.ReaderLemmas.{row_read, row_width}
use Rattle.fax_pagestore.proofs.reader.rows.read_next.Goals as goal
use Rattle.fax_pagestore.proofs.reader.rows.read_next.Goals.{After-len-n, After-copy-ahead}
use Rattle.fax_pagestore.proofs.reader.rows.read_next.Given.{Over}

kept_width : (g : Over) (c : After-len-n g) → c.args.tag ≡ false → 0 < c.len-n.result → length c.args.kept.now ≡ elements_of c.args.width
kept_width g c two some =
    Keeps-width (elements_of c.args.width) c.args.tag c.args.kept.now (g.S.RowStore.rows c.args.rows.now) c.requires.kept c.requires.each two (omega (arith, c.len-n.ensures, some))

pub pass_white_row-requires-clause-width : goal.pass_white_row-requires-clause-width
pass_white_row-requires-clause-width g c = kept_width g (goal.at.pass_white_row-requires-clause-width g c).After-len-n

-- ---- a white row

pub lend-requires : goal.lend-requires
lend-requires g c =
    subst IsWidth
    (sym (row_width c.args.coding (elements_of c.args.width) c.args.tag c.in-Some-pass_white_row.next c.len-n.result c.args.kept.now c.pass_white_row.new.kept (g.S.RowStore.rows c.args.rows.now)
    c.args.reader.now c.pass_white_row.new.reader c.len-n.ensures c.requires.kept c.requires.each c.in-Some-pass_white_row.ensures.some))
    (IsWidth-elements c.args.width)

pub returns-in-Some-pass_white_row-clause-row : goal.returns-in-Some-pass_white_row-clause-row
returns-in-Some-pass_white_row-clause-row g c = λ next e.
    let same : c.in-Some-pass_white_row.next ≡ next = cc in
    let pushed : g.S.RowStore.rows c.push_lent.new.self ≡ g.S.RowStore.rows c.args.rows.now ++ c.pass_white_row.new.kept ∷ [] =
    c.in_ok-push_lent.ensures.pushed ∙ ap (λ (row : Elements). g.S.RowStore.rows c.args.rows.now ++ row ∷ []) c.lend.ensures in
    subst (λ (t : Bool). ReadsOne c.args.coding (elements_of c.args.width) c.args.tag t (g.S.RowStore.rows c.args.rows.now) (g.S.RowStore.rows c.push_lent.new.self) c.args.reader.now c.pass_white_row.new.reader) same
    (row_read c.args.coding (elements_of c.args.width) c.args.tag c.in-Some-pass_white_row.next c.len-n.result c.args.kept.now c.pass_white_row.new.kept (g.S.RowStore.rows c.args.rows.now)
    (g.S.RowStore.rows c.push_lent.new.self) c.args.reader.now c.pass_white_row.new.reader c.len-n.ensures c.requires.kept c.in-Some-pass_white_row.ensures.some pushed)

pub returns-in-Some-pass_white_row-clause-kept : goal.returns-in-Some-pass_white_row-clause-kept
returns-in-Some-pass_white_row-clause-kept g c = λ next e two.
    ap last_of (c.in_ok-push_lent.ensures.pushed ∙ ap (λ (row : Elements). g.S.RowStore.rows c.args.rows.now ++ row ∷ []) c.lend.ensures)
    ∙ last_of-push (g.S.RowStore.rows c.args.rows.now) c.pass_white_row.new.kept

-- ---- another row

-- nothing has changed
still : (g : Over) (c : After-copy-ahead g) → Keeps c.args.tag c.pass_white_row.new.kept (g.S.RowStore.rows c.args.rows.now)
still g c = λ two some. c.requires.kept two some ∙ ap (λ (row : Elements). Some row) (sym (c.in_default-pass_white_row.ensures.none refl).1)

pub read_over-requires : goal.read_over-requires
read_over-requires g c = λ two some.
    let at = (goal.at.read_over-requires g c).After-len-n in
    subst IsWidth (sym (ap length (c.in_default-pass_white_row.ensures.none refl).1 ∙ kept_width g at two some)) (IsWidth-elements c.args.width)

pub lend-requires-in-Ok : goal.lend-requires-in-Ok
lend-requires-in-Ok g c =
    subst IsWidth
    (sym (row_width c.args.coding (elements_of c.args.width) c.args.tag c.in-Ok.next c.len-n.result c.pass_white_row.new.kept c.read_over.new.kept (g.S.RowStore.rows c.args.rows.now)
    c.copy-ahead.result c.read_over.new.reader c.len-n.ensures (still g (goal.at.lend-requires-in-Ok g c).After-copy-ahead) c.requires.each (c.read_over.ensures.ok c.in-Ok.next (c.in_ok-next.was ∙ ap (λ (n : Result Bool PageFault). Ok n) c.in-Ok.is))))
    (IsWidth-elements c.args.width)

pub returns-in_ok-push_lent-in-Ok-clause-row : goal.returns-in_ok-push_lent-in-Ok-clause-row
returns-in_ok-push_lent-in-Ok-clause-row g c = λ next e.
    let same : c.in-Ok.next ≡ next = cc in
    let start : c.copy-ahead.result ≡ c.args.reader.now = c.copy-ahead.ensures ∙ (c.in_default-pass_white_row.ensures.none refl).0 in
    let pushed : g.S.RowStore.rows c.push_lent-in-Ok.new.self ≡ g.S.RowStore.rows c.args.rows.now ++ c.read_over.new.kept ∷ [] =
    c.in_ok-push_lent-in-Ok.ensures.pushed ∙ ap (λ (row : Elements). g.S.RowStore.rows c.args.rows.now ++ row ∷ []) c.lend-in-Ok.ensures in
    subst (λ (p : Place). ReadsOne c.args.coding (elements_of c.args.width) c.args.tag next (g.S.RowStore.rows c.args.rows.now) (g.S.RowStore.rows c.push_lent-in-Ok.new.self) p c.read_over.new.reader) start
    (subst (λ (t : Bool). ReadsOne c.args.coding (elements_of c.args.width) c.args.tag t (g.S.RowStore.rows c.args.rows.now) (g.S.RowStore.rows c.push_lent-in-Ok.new.self) c.copy-ahead.result c.read_over.new.reader) same
    (row_read c.args.coding (elements_of c.args.width) c.args.tag c.in-Ok.next c.len-n.result c.pass_white_row.new.kept c.read_over.new.kept (g.S.RowStore.rows c.args.rows.now)
    (g.S.RowStore.rows c.push_lent-in-Ok.new.self) c.copy-ahead.result c.read_over.new.reader c.len-n.ensures (still g (goal.at.returns-in_ok-push_lent-in-Ok-clause-row g c).After-copy-ahead) (c.read_over.ensures.ok c.in-Ok.next (c.in_ok-next.was ∙ ap (λ (n : Result Bool PageFault). Ok n) c.in-Ok.is)) pushed))

pub returns-in_ok-push_lent-in-Ok-clause-kept : goal.returns-in_ok-push_lent-in-Ok-clause-kept
returns-in_ok-push_lent-in-Ok-clause-kept g c = λ next e two.
    ap last_of (c.in_ok-push_lent-in-Ok.ensures.pushed ∙ ap (λ (row : Elements). g.S.RowStore.rows c.args.rows.now ++ row ∷ []) c.lend-in-Ok.ensures)
    ∙ last_of-push (g.S.RowStore.rows c.args.rows.now) c.read_over.new.kept

pub returns-in-Err-clause-fault : goal.returns-in-Err-clause-fault
returns-in-Err-clause-fault g c = λ fault e.
    let same : c.in-Err.fault ≡ fault = cc in
    let start : c.copy-ahead.result ≡ c.args.reader.now = c.copy-ahead.ensures ∙ (c.in_default-pass_white_row.ensures.none refl).0 in
    subst (λ (p : Place). Stops c.args.coding (elements_of c.args.width) (g.S.RowStore.rows c.args.rows.now) 0 c.args.tag p.left fault) start
    (subst (Stops c.args.coding (elements_of c.args.width) (g.S.RowStore.rows c.args.rows.now) 0 c.args.tag c.copy-ahead.result.left) same
    (c.read_over.ensures.fault c.in-Err.fault (c.in_ok-next.was ∙ ap (λ (n : Result Bool PageFault). Ok n) c.in-Err.is) (g.S.RowStore.rows c.args.rows.now) (sym c.len-n.ensures)
    (Knows-kept c.args.tag c.pass_white_row.new.kept (g.S.RowStore.rows c.args.rows.now) c.len-n.result c.len-n.ensures (still g (goal.at.returns-in-Err-clause-fault g c).After-copy-ahead))
    record {
      one_separator = refl;
      begins = subst (λ (p : Place). LineBegins p.left) (sym start) (c.in-Some.ensures.begins.0 refl);
      room = omega (arith, c.len-n.ensures, c.if-n-eq-MOST_ROWS.false, c.requires.few);
    }))
