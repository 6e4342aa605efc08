use Rattle.std.proofs.Common.{◌≡◌, ◌+◌, ◌-◌, ◌^◌, min}
use Rattle.fax_explain.proofs.image.Image.feed.Given as goal

-- so many octets were counted
abbrev pub invariant-loop-octet : goal.invariant-loop-octet
invariant-loop-octet l = (l.self.octets ≡ min (l.fn.self.octets + l.octet-index) (2 ^ 64 - 1)) × (l.self.missing ≡ l.fn.self.missing)
