use Rattle.std.proofs.Common.{◌≡◌, option_map}
use Rattle.fax_sip.proofs.PartLemmas.{found_in, octets_left}
use Rattle.fax_sip.proofs.parts.find_parameter.Given as goal

-- the parameter is that of what is left
abbrev pub invariant-loop-rest : goal.invariant-loop-rest
invariant-loop-rest l = found_in l.name l.separator (option_map (λ text. text.now) l.rest) ≡ found_in l.name l.separator (option_map (λ text. text.now) l.parts)

abbrev pub decreases-loop-rest : goal.decreases-loop-rest
decreases-loop-rest l = octets_left l.rest
