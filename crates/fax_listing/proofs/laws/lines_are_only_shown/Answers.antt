use Rattle.fax_listing.proofs.Visible.{lines_are_only_shown}
use Rattle.fax_listing.proofs.laws.lines_are_only_shown.Goals as goal

pub returns : goal.returns
returns c = lines_are_only_shown
