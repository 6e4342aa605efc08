use Rattle.std.proofs.Common.{refl}
use Rattle.fax_undelivered.proofs.held.opening.open_over.Goals as goal

pub returns : goal.returns
returns c = record {
  opened = c.in-Ok.opened;
  is = c.in-Ok.ensures.opened (refl, refl);
  spool = c.in_ok-kept.ensures.spool;
  listed = c.in_ok-kept.ensures.calls;
}
