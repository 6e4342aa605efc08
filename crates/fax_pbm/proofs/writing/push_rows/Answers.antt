use Rattle.std.proofs.Common.{◌≡◌, ℕ, ◌*◌, List, [], ◌++◌, length, take, sym, ◌∙◌, ap, subst, arith, append-nil, append_assoc}
use Rattle.std.proofs.lemmas.List.{take_all}
use Rattle.fax_runcodes.specs.Rows.{Elements}
use Rattle.fax_pbm.specs.Pictures.{IsRaster}
use Rattle.fax_pbm.proofs.RowLemmas.{All-found, IsRaster-more, IsRaster-none, take_next}
use Rattle.fax_pbm.proofs.writing.push_rows.Goals as goal

pub loop-i-init : goal.loop-i-init
loop-i-init g c = record {
  raster = [];
  octets = sym (append-nil c.args.octets.now.items);
  of_rows = λ size all. IsRaster-none size;
}

pub loop-i-preserved : goal.loop-i-preserved
loop-i-preserved g c =
    let so_far = c.loop-i.invariant in
    let rows = g.S.RowStore.rows c.args.rows.now in
    let i : ℕ = c.loop-i.i in
    let row = c.lend.result in
    let (more, octets, bits) = c.in_ok-push_row.ensures in
    record {
      raster = so_far.raster ++ more;
      octets = octets ∙ ap (λ (x : List ℕ). x ++ more) so_far.octets ∙ append_assoc c.args.octets.now.items so_far.raster more;
      of_rows = λ size all. subst (λ (front : List Elements). IsRaster size front (so_far.raster ++ more)) (sym (take_next rows i row c.lend.ensures))
          (IsRaster-more size (take i rows) row so_far.raster more (so_far.of_rows size all)
          (All-found (λ (r : Elements). length r ≡ 8 * size) rows i row c.lend.ensures all) bits);
    }

pub returns : goal.returns
returns g c =
    let so_far = c.loop-i.invariant in
    let rows = g.S.RowStore.rows c.args.rows.now in
    let i : ℕ = c.loop-i.i in
    let whole : take i rows ≡ rows = take_all i rows (omega (arith, c.len-i-end.ensures)) in
    (so_far.raster, so_far.octets, λ size all. subst (λ (front : List Elements). IsRaster size front so_far.raster) whole (so_far.of_rows size all))
