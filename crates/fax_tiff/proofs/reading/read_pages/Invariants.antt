use Rattle.std.proofs.Common.{take}
use Rattle.fax_tiff.specs.ReadTiffs.{MeanPages}
use Rattle.fax_tiff.proofs.reading.read_pages.Given as goal

-- the texts before this one mean these pages
abbrev pub invariant-loop-text : goal.invariant-loop-text
invariant-loop-text l = MeanPages (take l.text-index l.texts) l.pages.items
