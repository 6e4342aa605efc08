use Rattle.std.proofs.Common.{◌≡◌, length}
use denote.Shadow.{shadow}
use denote.Text.{Utf8}
use Rattle.fax_sdp.specs.Texts.{has_word}
use Rattle.fax_sdp.proofs.lines.has_word.Given as goal

-- the word is in the text where it is in what is left of it
abbrev pub invariant-loop-first : goal.invariant-loop-first
invariant-loop-first l = shadow (Utf8 l.rest) × (has_word l.rest l.word ≡ has_word l.text l.word)

abbrev pub decreases-loop-first : goal.decreases-loop-first
decreases-loop-first l = length l.rest
