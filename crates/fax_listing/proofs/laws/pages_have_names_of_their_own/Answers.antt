use Rattle.fax_listing.proofs.Names.{pages_have_names_of_their_own}
use Rattle.fax_listing.proofs.laws.pages_have_names_of_their_own.Goals as goal

pub returns : goal.returns
returns c = pages_have_names_of_their_own
