use Rattle.std.proofs.Common.{rules, append_assoc}
use Rattle.fax_send_receive.proofs.page_files.path_of.Goals as goal

pub returns : goal.returns
returns c = rw (← c.ending-ending.ensures) (search (rules, append_assoc))
