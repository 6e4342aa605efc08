use Rattle.std.proofs.Common.{◌≡◌, ◌+◌, ◌<◌, length, sym, ap, ◌∙◌, subst, arith, length-append}
use Rattle.fax_bits.specs.Reading.{Place, Passes}
use Rattle.fax_runcodes.specs.Rows.{other}
use Rattle.fax_runcodes.proofs.RunLaws.{SpellsRun-some}
use Rattle.fax_pagestore.proofs.LineLemmas.{runs_more}
use Rattle.fax_pagestore.proofs.reader.line.read_runs.Goals as goal

pub loop-run-smaller : goal.loop-run-smaller
loop-run-smaller c =
    let ok = c.in-Ok.ensures.ok in
    let some : 0 < length ok.0 = SpellsRun-some c.loop-run.colour ok.0 c.in-Ok.run' ok.1 in
    let parts : length c.copy-ahead.result.left ≡ length ok.0 + length c.read_run.new.reader.left = ap length ok.2.bits ∙ length-append ok.0 c.read_run.new.reader.left in
    let same : length c.copy-ahead.result.left ≡ length c.loop-run.reader.left = ap (λ (p : Place). length p.left) c.copy-ahead.ensures in
    let less : length c.read_run.new.reader.left < length c.loop-run.reader.left = omega (arith, some, parts, same) in
    less

pub loop-run-preserved : goal.loop-run-preserved
loop-run-preserved c =
    let ok = c.in-Ok.ensures.ok in
    let kept = c.loop-run.invariant in
    let some : 0 < length ok.0 = SpellsRun-some c.loop-run.colour ok.0 c.in-Ok.run' ok.1 in
    let passes : Passes c.loop-run.reader c.read_run.new.reader ok.0 = subst (λ (p : Place). Passes p c.read_run.new.reader ok.0) c.copy-ahead.ensures ok.2 in
    record {
      so_far = runs_more c.args.width c.args.reader.now c.loop-run.reader c.read_run.new.reader c.loop-run.runs.items c.add_run.new.runs.items c.loop-run.colour ok.0 c.in-Ok.run' kept.colour
          kept.so_far ok.1 passes (omega (arith, kept.left)) (omega (arith, kept.left, kept.some)) c.in_ok-add_run.ensures.row c.in_ok-add_run.ensures.colour;
      colour = c.other-colour.ensures ∙ ap other kept.colour ∙ sym c.in_ok-add_run.ensures.colour;
      left = omega (arith, kept.left, c.in_ok-add_run.ensures.sum);
      some = omega arith;
      on = omega (arith, kept.on, passes.place);
      moved = λ any. omega (arith, kept.on, passes.place, some);
    }
