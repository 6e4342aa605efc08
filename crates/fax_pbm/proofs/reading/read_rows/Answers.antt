use Rattle.std.proofs.Common.{◌≡◌, ℕ, suc, ◌+◌, ◌-◌, ◌*◌, ◌/◌, ◌++◌, ◌∷◌, [], List, length, take, map, sym, ◌∙◌, ap, ap₂, subst, arith, append-nil}
use Rattle.fax_bits.specs.Bits.{bits_of}
use Rattle.fax_runcodes.specs.Rows.{Elements, IsWidth}
use Rattle.fax_runcodes.specs.Widths.{elements_of}
use Rattle.fax_pbm.specs.Pictures.{element, rows_of}
use Rattle.fax_pbm.proofs.RowLemmas.{left_after, length-elements, row_size, rows_of-next, rows_of-none, width_is}
use Rattle.fax_pbm.proofs.reading.read_rows.Goals as goal

pub lend-requires : goal.lend-requires
lend-requires c =
    let front = c.split_at.result.0.now in
    let size : c.from-size.result ≡ elements_of c.args.width / 8 = c.from-size.ensures ∙ ap (λ (n : ℕ). n / 8) c.elements.ensures in
    let made : c.paint_octets.new.row ≡ map element (bits_of front) = c.paint_octets.ensures ∙ ap (λ (row : Elements). row ++ map element (bits_of front)) c.clear.ensures in
    let long : length c.paint_octets.new.row ≡ elements_of c.args.width =
    ap length made ∙ length-elements front ∙ ap (λ (n : ℕ). 8 * n) (c.split_at.ensures.front_len ∙ size) ∙ (row_size c.args.width).0 in
    subst IsWidth (sym long) (width_is c.args.width)

pub loop-preserved : goal.loop-preserved
loop-preserved c =
    let front = c.split_at.result.0.now in
    let back = c.split_at.result.1.now in
    let size : ℕ = c.from-size.result in
    let rest = c.loop.rest.now in
    let m : ℕ = c.args.height - (c.loop.counter + 1) in
    let more : c.args.height - c.loop.counter ≡ suc m = omega arith in
    let made : c.paint_octets.new.row ≡ map element (bits_of front) = c.paint_octets.ensures ∙ ap (λ (row : Elements). row ++ map element (bits_of front)) c.clear.ensures in
    let row : c.lend.result ≡ map element (bits_of (take size rest)) = c.lend.ensures ∙ made ∙ ap (λ (octets : List ℕ). map element (bits_of octets)) c.split_at.ensures.front in
    let pushed = c.in_ok-push_lent.ensures.pushed ∙ ap (λ (r : Elements). c.loop.rows ++ r ∷ []) row in
    record {
      rows = ap₂ (λ (rows : List Elements) (octets : List ℕ). rows ++ rows_of size m octets) pushed c.split_at.ensures.back
          ∙ rows_of-next c.loop.rows size m rest
          ∙ ap (λ (n : ℕ). c.loop.rows ++ rows_of size n rest) (sym more)
          ∙ c.loop.invariant.rows;
      left = left_after size m (length rest) (length back) (c.loop.invariant.left ∙ ap (λ (n : ℕ). n * size) more) c.split_at.ensures.back_len;
    }

pub returns : goal.returns
returns c =
    let done : c.args.height - c.loop.counter ≡ 0 = omega arith in
    let size : c.from-size.result ≡ elements_of c.args.width / 8 = c.from-size.ensures ∙ ap (λ (n : ℕ). n / 8) c.elements.ensures in
    sym (append-nil c.loop.rows)
    ∙ ap (λ (rows : List Elements). c.loop.rows ++ rows) (sym (rows_of-none c.from-size.result (c.args.height - c.loop.counter) c.loop.rest.now done))
    ∙ c.loop.invariant.rows
    ∙ ap (λ (n : ℕ). rows_of n c.args.height c.args.raster.now) size
