use Rattle.std.proofs.Common.{◌≡◌, map, take}
use Rattle.fax_descriptions.specs.Tales.{paragraph_text}
use Rattle.fax_descriptions.specs.Tellings.{telling_of}
use Rattle.fax_descriptions.proofs.paragraph.paragraph_of.Given as goal

-- what was added so far
abbrev pub invariant-loop-entry : goal.invariant-loop-entry
invariant-loop-entry l = l.text.items ≡ paragraph_text l.moment (map telling_of (take l.entry-index l.entries))
