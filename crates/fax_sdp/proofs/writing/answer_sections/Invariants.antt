use Rattle.std.proofs.Common.{◌≡◌, map, take}
use Rattle.fax_sdp.specs.declared.writing.Section.TheVariants.{Refused}
use Rattle.fax_sdp.proofs.writing.answer_sections.Given as goal

-- each medium so far is refused
abbrev pub invariant-loop-medium : goal.invariant-loop-medium
invariant-loop-medium l = l.sections.items ≡ map Refused (take l.medium-index l.medium-items)
