use Rattle.std.proofs.Common.{◌≡◌, drop}
use Rattle.fax_sip.specs.declared.mark.Quoting.TheVariants.{Outside}
use Rattle.fax_sip.specs.Texts.{place_of}
use Rattle.fax_sip.proofs.TextLemmas.{onward}
use Rattle.fax_sip.proofs.text.place_of.Given as goal

-- the mark stands where it stands in what is left
abbrev pub invariant-loop-i : goal.invariant-loop-i
invariant-loop-i l = place_of l.mark Outside l.text ≡ onward l.i (place_of l.mark l.quoting (drop l.i l.text))
