use Rattle.std.proofs.lemmas.Iterator.{YieldsList-from_chars}
use Rattle.std.proofs.lemmas.Iterator.Consumers.{YieldsList-end}
use Rattle.fax_listing.proofs.Visible.{all_shown}
use Rattle.fax_listing.proofs.shown.write_shown.Goals as goal

pub returns : goal.returns
returns c =
    let ends = YieldsList-end (YieldsList-from_chars c.args.text.now c.utf8.text cc) c.loop-c.yielded _ c.loop-c.yielded_by _ _ c.in-None.is c.next.ensures.steps in
    all_shown c.args.text.now c.args.out.now.items c.loop-c.out.items c.loop-c.yielded ends.0 c.loop-c.invariant
