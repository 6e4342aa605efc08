use Rattle.std.proofs.Common.{◌<◌, ◌++◌, length, vec_len, refl, ◌∙◌, arith, length-append}
use Rattle.fax_runcodes.proofs.PaintedLemmas.{rising_count}
use Rattle.fax_pagestore.specs.declared.store.packed.Extent.{Extent}
use Rattle.fax_pagestore.proofs.OctetsLemmas.{AreSideBySide-push}
use Rattle.fax_pagestore.proofs.PackedLemmas.{IsNewExtent, HasExtents-push, AreInOrder-push, rows_of-push}
use Rattle.fax_pagestore.proofs.store.packed.PackedRowsRowStore.push_lent.Goals as goal
use Rattle.fax_pagestore.proofs.store.packed.PackedRowsRowStore.push_lent.Goals.{After-push_reserved}

-- what is pushed is the extent of the places put after the others
abbrev extent : (c : After-push_reserved) → Extent
extent c = record { start = c.len-start.result; count = length c.changes-changes.result.now; width = c.width-width.result }

is_new : (c : After-push_reserved) → IsNewExtent c.self.inside.places.items c.changes-changes.result.now (length c.args.row.now) (extent c)
is_new c = record { start = c.len-start.ensures ∙ c.self.inside.places.ok.0; count = refl; wide = c.width-width.ensures.len }

pub overflow_cast-changes : goal.overflow_cast-changes
overflow_cast-changes c =
    let count = rising_count 0 c.changes-changes.result.now (length c.args.row.now) c.changes-changes.ensures.rising in
    let len = c.width-width.ensures.len in
    let wide = c.width-width.result in
    omega arith

pub invariant_of-self-2 : goal.invariant_of-self-2
invariant_of-self-2 c =
    let at = (goal.at.invariant_of-self-2 c).After-push_reserved in
    let few : vec_len c.push_reserved.new.self < 4294967296 = omega (arith, c.push_reserved.ensures.len, c.reserve.ensures.len, c.len.ensures, c.if-len.false) in
    rw (c.push_reserved.ensures.items, c.reserve.ensures.items, c.in_ok-append.ensures.items) (
      HasExtents-push c.self.inside.places.items c.changes-changes.result.now (length c.args.row.now) c.self.inside.extents.items (extent at) (is_new at)
          c.changes-changes.ensures.rising (rw (← c.width-width.ensures.len) c.width-width.ensures.is_width) c.self.invariant.0,
      AreInOrder-push c.self.inside.places.items c.self.inside.extents.items (extent at) (is_new at).start c.self.invariant.0 c.self.invariant.1,
      few,
      AreSideBySide-push 0 c.self.inside.extents.items (length c.self.inside.places.items) (extent at) (length (c.self.inside.places.items ++ c.changes-changes.result.now))
          c.self.invariant.3 (is_new at).start (length-append c.self.inside.places.items c.changes-changes.result.now),
    )

pub returns-clause-pushed : goal.returns-clause-pushed
returns-clause-pushed c =
    let at = (goal.at.returns-clause-pushed c).After-push_reserved in
    rw (c.push_reserved.ensures.items, c.reserve.ensures.items, c.in_ok-append.ensures.items, ← c.self.view_is)
    (rows_of-push c.self.inside.places.items c.changes-changes.result.now (length c.args.row.now) c.self.inside.extents.items (extent at) c.args.row.now (is_new at)
    c.changes-changes.ensures.painted c.self.invariant.0)
