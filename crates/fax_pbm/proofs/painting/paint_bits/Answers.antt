use Rattle.std.proofs.Common.{◌≡◌, ℕ, ◌+◌, ◌-◌, ◌<◌, ◌++◌, length, map, replicate, sym, ◌∙◌, ap, arith, length-append}
use Rattle.fax_bits.specs.Bits.{word_bits}
use Rattle.fax_runcodes.specs.Rows.{Elements}
use Rattle.fax_pbm.specs.Pictures.{element}
use Rattle.fax_pbm.proofs.RowLemmas.{bits-next, no_bits}
use Rattle.fax_pbm.proofs.painting.paint_bits.Goals as goal

pub loop-i-preserved : goal.loop-i-preserved
loop-i-preserved c =
    let i : ℕ = c.loop-i.i in
    let within : i < 8 = omega arith in
    let octet : ℕ = c.args.octet in
    let painted = c.paint.ensures ∙ ap (λ e. c.loop-i.row ++ replicate 1 e) c.colour_at.ensures in
    record {
      bits = ap (λ (row : Elements). row ++ map element (word_bits (8 - (i + 1)) octet)) painted ∙ bits-next c.loop-i.row octet i within ∙ c.loop-i.invariant.bits;
      long = ap length c.paint.ensures ∙ length-append c.loop-i.row (replicate 1 c.colour_at.result) ∙ (let l = c.loop-i.invariant.long in omega (arith, l));
    }

pub returns : goal.returns
returns c =
    let done : 8 - c.loop-i.i ≡ 0 = omega arith in
    sym (no_bits c.loop-i.row c.args.octet (8 - c.loop-i.i) done) ∙ c.loop-i.invariant.bits
