use Rattle.std.proofs.Common.{◌≡◌, ◌-◌}
use Rattle.fax_tiff.specs.ReadTiffs.{strips_from}
use Rattle.fax_tiff.specs.Shown.{numbers_shown}
use Rattle.fax_tiff.proofs.ChainLemmas.{with_octets}
use Rattle.fax_tiff.proofs.strips.gather_from.Given as goal

-- the strips that were gathered, and those that are left
abbrev pub invariant-loop-i : goal.invariant-loop-i
invariant-loop-i l = with_octets l.strips.items (strips_from (l.places.count - l.i) l.order l.octets (numbers_shown l.places) (numbers_shown l.counts) l.i l.rest)
    ≡ strips_from l.places.count l.order l.octets (numbers_shown l.places) (numbers_shown l.counts) 0 l.fn.left
