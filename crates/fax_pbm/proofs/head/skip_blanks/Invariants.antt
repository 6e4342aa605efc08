use Rattle.std.proofs.Common.{◌≡◌, drop, false}
use Rattle.fax_pbm.specs.Heads.{after_blanks}
use Rattle.fax_pbm.proofs.head.skip_blanks.Given as goal

-- what is left to skip is left of the whole
abbrev pub invariant-loop-i : goal.invariant-loop-i
invariant-loop-i l = after_blanks l.within (drop l.i l.text) ≡ after_blanks false l.text
