use Rattle.fax_spool.proofs.Shares.{shares}
use Rattle.fax_spool.proofs.laws.files_share_what_waits.Goals as goal

pub returns : goal.returns
returns c = shares
