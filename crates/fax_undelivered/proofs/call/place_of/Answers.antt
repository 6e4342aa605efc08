use Rattle.std.proofs.Common.{◌≡◌, ◌≤◌, ◌∙◌, true, length, MatchOption, sym, subst}
use Rattle.fax_undelivered.specs.Calls.{is_of}
use Rattle.fax_undelivered.proofs.Listing.{hinted, low_at, none_before}
use Rattle.fax_undelivered.proofs.call.place_of.Goals as goal

pub returns-then-has_at-clause-within : goal.returns-then-has_at-clause-within
returns-then-has_at-clause-within c =
    let it = hinted c.args.page.now c.args.calls.now c.args.last c.has_at.result c.if-has_at.true c.has_at.ensures in
    low_at c.args.calls.now c.args.last it.0 it.1

pub returns-then-has_at-clause-before : goal.returns-then-has_at-clause-before
returns-then-has_at-clause-before c =
    let it = hinted c.args.page.now c.args.calls.now c.args.last c.has_at.result c.if-has_at.true c.has_at.ensures in
    none_before c.args.page.now c.args.calls.now c.args.last it.0 it.1 it.2 c.requires
