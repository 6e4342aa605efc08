use Rattle.std.proofs.Common.{◌≡◌, ◌++◌, drop, flat_map, string_bytes}
use Rattle.fax_sdp.specs.Writing.{description_lines, section_lines, text_of}
use Rattle.fax_sdp.proofs.writing.description_text.Given as goal

-- what is written and what is left are the whole text
abbrev pub invariant-loop-section : goal.invariant-loop-section
invariant-loop-section l =
    string_bytes l.text ++ text_of (flat_map section_lines (drop l.section-index l.sections)) ≡ text_of (description_lines l.origin l.sections)
