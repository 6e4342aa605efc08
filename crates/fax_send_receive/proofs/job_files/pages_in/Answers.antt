use Rattle.std.proofs.Common.{ℕ, List, subst, sym}
use Rattle.fax_send_receive.specs.Folders.{AreOctetsOf}
use Rattle.fax_send_receive.proofs.job_files.pages_in.Goals as goal

-- the octets are those that were looked at
pub returns-then-is_tiff-clause-file : goal.returns-then-is_tiff-clause-file
returns-then-is_tiff-clause-file c = λ known are.
    c.tiff_pages_in.ensures.file c.args.reading.format c.args.reading.coding known
    (subst (λ (octets : List ℕ). AreOctetsOf known octets) (sym c.as_slice-then-is_tiff.ensures.value) are)
