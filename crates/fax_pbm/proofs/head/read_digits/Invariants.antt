use Rattle.std.proofs.Common.{◌≡◌, ℕ, drop, min}
use Rattle.fax_pbm.specs.Heads.{after_digits, number_after}
use Rattle.fax_pbm.proofs.head.read_digits.Given as goal

-- the digits so far spell n, and what is left goes on from there
abbrev pub invariant-loop-i : goal.invariant-loop-i
invariant-loop-i l = record {
  n : ℕ;
  so_far : l.value ≡ min n 4294967295;
  value : number_after n (drop l.i l.text) ≡ number_after 0 l.text;
  after : after_digits (drop l.i l.text) ≡ after_digits l.text;
}
