use Rattle.std.proofs.Common.{◌<◌, length, refl, arith}
use Rattle.std.proofs.lemmas.Option.{get_or_from_slice_get, slice_get_read}
use Rattle.fax_pagestore.proofs.PackedLemmas.{IsNext, HasExtents-cut, AreInOrder-cut, rows_of-cut}
use Rattle.fax_pagestore.proofs.OctetsLemmas.{AreSideBySide-next}
use Rattle.fax_pagestore.proofs.store.packed.PackedRowsRowStore.cut.Goals as goal
use Rattle.fax_pagestore.proofs.store.packed.PackedRowsRowStore.cut.Goals.{After-truncate-then-n-len}

is_next : (c : After-truncate-then-n-len) → IsNext c.self.inside.places.items c.self.inside.extents.items c.args.n c.index.result.now
is_next c =
    let inside : c.args.n < length c.self.inside.extents.items = omega (arith, c.len.ensures, c.self.inside.extents.ok.0) in
    record {
      inside = inside;
      is = λ d. get_or_from_slice_get c.self.inside.extents.items c.args.n c.index.result.now d
          (slice_get_read c.self.inside.extents.items (length c.self.inside.extents.items) c.args.n c.index.result.now refl inside c.index.ensures);
      all = c.self.invariant.0;
      order = c.self.invariant.1;
    }

pub invariant_of-self : goal.invariant_of-self
invariant_of-self c =
    let next = is_next c in
    rw (c.truncate-then-n-len.ensures.items, c.truncate.ensures.items) (
      HasExtents-cut c.self.inside.places.items c.self.inside.extents.items c.args.n c.index.result.now next,
      AreInOrder-cut c.self.inside.extents.items c.args.n next.inside next.order,
      omega (arith, c.truncate-then-n-len.ensures.len, c.self.invariant.2),
      AreSideBySide-next c.self.inside.places.items c.self.inside.extents.items c.args.n c.index.result.now next c.self.invariant.3,
    )

pub returns-then-n-len : goal.returns-then-n-len
returns-then-n-len c =
    rw (c.truncate-then-n-len.ensures.items, c.truncate.ensures.items, ← c.self.view_is)
    (rows_of-cut c.self.inside.places.items c.self.inside.extents.items c.args.n c.index.result.now (is_next c))
