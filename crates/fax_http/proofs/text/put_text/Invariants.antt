use Rattle.std.proofs.Common.{◌≡◌, ◌++◌, flat_map, take}
use Rattle.fax_http.specs.Texts.{octet_shown}
use Rattle.fax_http.proofs.text.put_text.Given as goal

-- the octets so far are written
abbrev pub invariant-loop-octet : goal.invariant-loop-octet
invariant-loop-octet l = l.octets.items ≡ l.initial.octets.items ++ flat_map octet_shown (take l.octet-index l.shown)
