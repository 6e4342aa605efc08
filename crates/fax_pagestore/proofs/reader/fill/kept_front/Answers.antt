use Rattle.std.proofs.Common.{◌≤◌, ◌+◌, ℕ, length, sym, ◌∙◌, arith}
use Rattle.fax_pagestore.proofs.FillLemmas.{AreSome, less_fill-none, zeros_after-none, zeros-step, kept-step, some-kept}
use Rattle.fax_pagestore.proofs.reader.fill.kept_front.Goals as goal
use Rattle.fax_pagestore.proofs.reader.fill.kept_front.Goals.{else-octet-eq0-via-then-octet-eq0+else-count-ge-MOST_ZEROS, else-octet-eq0-via-else-octet-eq0}

pub loop-place-init : goal.loop-place-init
loop-place-init c = record { within = omega arith; kept = less_fill-none c.args.zeros; count = sym (zeros_after-none c.args.zeros) }

-- a block of which no octet is 0
pub loop-place-preserved-then-block_has_no_zeros : goal.loop-place-preserved-then-block_has_no_zeros
loop-place-preserved-then-block_has_no_zeros c =
    let place : ℕ = c.loop-place.place in
    let inside : place + 16 ≤ length c.args.octets.now = omega (arith, c.if-octets-place-ge-BLOCK.true, c.loop-place.invariant.within) in
    let some : AreSome c.args.octets.now place (place + 16) = c.block_has_no_zeros.ensures c.if-block_has_no_zeros.true in
    let all = some-kept c.args.zeros c.args.octets.now place 16 inside some c.loop-place.invariant.kept in
    record { within = inside; kept = all.0; count = all.1 (omega arith) }

pub loop-place-preserved : goal.loop-place-preserved
loop-place-preserved c = record {
  within = omega (arith, c.loop-place-test.true);
  kept = kept-step c.args.zeros c.args.octets.now c.loop-place.place c.loop-place.count (omega (arith, c.loop-place-test.true)) c.loop-place.invariant.count (elim c.else-octet-eq0.branch [
    | else-octet-eq0-via-then-octet-eq0+else-count-ge-MOST_ZEROS w ↦ λ none. omega (arith, w.if-count-ge-MOST_ZEROS.false)
    | else-octet-eq0-via-else-octet-eq0 w ↦ λ none. absurd (w.if-octet-eq0.false none)
  ]) c.loop-place.invariant.kept;
  count = c.zeros_with-count.ensures ∙ zeros-step c.args.zeros c.args.octets.now c.loop-place.place c.loop-place.count (omega (arith, c.loop-place-test.true)) c.loop-place.invariant.count;
}
