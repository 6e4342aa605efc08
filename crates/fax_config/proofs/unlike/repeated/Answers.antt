use Rattle.std.proofs.Common.{rules, arith, ◌≡◌, false, take}
use Rattle.std.specs.List.{list_any}
use Rattle.std.proofs.lemmas.Grind.{common_steps}
use Rattle.fax_config.proofs.UnlikeLemmas.{seen_more, distinct_more}
use Rattle.fax_config.proofs.unlike.repeated.Goals as goal

pub loop-x-preserved : goal.loop-x-preserved
loop-x-preserved g c =
    let inv = c.loop-x.invariant in
    let e = c.in_ok-is_new.ensures in
    let x = c.x-item.result in
    let absent : list_any (g.K.PartialEq.eq x) (take c.loop-x.x-index c.args.keys.now) ≡ false = grind (arith, common_steps, inv.1 x, e.added) in (
      distinct_more g.K.PartialEq.eq g.met.K.Eq.laws c.args.keys.now c.loop-x.x-index x (search rules) c.x-item.is inv.0 absent,
      λ q. seen_more g.K.PartialEq.eq g.met.K.Eq.laws c.args.keys.now c.loop-x.x-index x (search rules) c.x-item.is q _ _ (e.updates.0 q) (inv.1 q),
    )
