use Rattle.fax_http.proofs.visitors.PlaceLemmas.{came_then, none_came}
use Rattle.fax_http.proofs.visitors.visitors.let_in.Goals as goal

pub loop-init : goal.loop-init
loop-init c = none_came c.args.places.now

pub loop-preserved : goal.loop-preserved
loop-preserved c = came_then c.args.places.now c.loop.places c.admit.new.places c.loop.invariant c.admit.ensures
