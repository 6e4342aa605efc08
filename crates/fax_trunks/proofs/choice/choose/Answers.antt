use Rattle.std.proofs.Common.{◌≡◌, get_or, arith}
use Rattle.fax_trunks.specs.Routes.{fits_of}
use Rattle.fax_trunks.proofs.ChoiceLemmas.{fit_here, longer_taken, other_passed}
use Rattle.fax_trunks.proofs.choice.choose.Goals as goal
use Rattle.fax_trunks.proofs.choice.choose.Goals.{then-fit-longest, else-fit-longest}

pub loop-i-preserved : goal.loop-i-preserved
loop-i-preserved c =
    let fits = fits_of c.args.routes.now c.args.number.now in
    let here : get_or fits c.loop-i.i 0 ≡ c.fit-fit.result =
    fit_here c.args.routes.now c.args.number.now c.loop-i.i c.fit-fit.result c.index-routes-i.result (omega arith) c.index-routes-i.is c.fit-fit.ensures in
    elim c.if-fit-longest.branch [
      | then-fit-longest w ↦
          let step = longer_taken fits c.loop-i.i c.loop-i.longest c.fit-fit.result c.if-fit-longest.longest c.if-fit-longest.chosen w.chosen-is w.longest-is here (omega arith) c.loop-i.invariant.below in
          record { best = step.0; below = step.1 }
      | else-fit-longest w ↦
          let step = other_passed fits c.loop-i.i c.loop-i.longest c.fit-fit.result c.if-fit-longest.longest c.loop-i.chosen c.if-fit-longest.chosen w.chosen-is w.longest-is here (omega arith) c.loop-i.invariant.best c.loop-i.invariant.below in
          record { best = step.0; below = step.1 }
    ]
