use Rattle.std.proofs.Common.{◌≡◌, length}
use denote.Shadow.{shadow}
use denote.Text.{Utf8}
use Rattle.fax_sdp.specs.Readers.{reading_of}
use Rattle.fax_sdp.specs.Sessions.{nothing_said, read_on}
use Rattle.fax_sdp.specs.Texts.{lines_of}
use Rattle.fax_sdp.proofs.reading.read_lines.Given as goal

-- what is left is read to the same end
abbrev pub invariant-loop-line : goal.invariant-loop-line
invariant-loop-line l = shadow (Utf8 l.rest) × (read_on (reading_of l.reader) (lines_of l.rest) ≡ read_on nothing_said (lines_of l.text))

abbrev pub decreases-loop-line : goal.decreases-loop-line
decreases-loop-line l = length l.rest
