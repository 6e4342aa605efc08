use Rattle.fax_listing.proofs.LookLemmas.{looked}
use Rattle.fax_listing.proofs.looking.look.Goals as goal

pub returns-clause-seen : goal.returns-clause-seen
returns-clause-seen g c =
    looked c.args.options c.args.one.now c.args.other.now c.args.kept_one.now c.args.kept_other.now c.in_ok-waiting.waiting c.in_ok-kept.kept _ _ _ c.look_at.result c.in_ok-waiting.ensures c.in_ok-kept.ensures c.in_ok-told.ensures
    c.look_at.ensures.seen
