use Rattle.fax_spool.proofs.Shorts.{no_second}
use Rattle.fax_spool.proofs.record.read_texts.Goals as goal

pub returns-in_err-tag : goal.returns-in_err-tag
returns-in_err-tag c = rw c.from_residual-in_err-tag.ensures (no_second _ _ _ c.in_ok-line.ensures c.in_err-tag.ensures)
