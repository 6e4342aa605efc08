use Rattle.std.proofs.Common.{◌≡◌, ◌-◌, length}
use Rattle.fax_tiff.specs.ReadTiffs.{pages_at}
use Rattle.fax_tiff.proofs.ChainLemmas.{with_pages}
use Rattle.fax_tiff.proofs.reading.read_chain.Given as goal

-- the pages that were read, and those that are left
abbrev pub invariant-loop : goal.invariant-loop
invariant-loop l = with_pages l.texts.items (pages_at (65535 - l.counter) l.order l.octets l.place l.left) ≡ pages_at 65535 l.order l.octets l.first (length l.octets)
