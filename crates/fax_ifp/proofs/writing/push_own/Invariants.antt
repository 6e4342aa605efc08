use Rattle.std.proofs.Common.{◌≡◌, ◌+◌, ◌++◌, take, vec_len, vec_capacity}
use Rattle.fax_ifp.proofs.writing.push_own.Given as goal

abbrev pub invariant-loop-octet : goal.invariant-loop-octet
invariant-loop-octet l = record {
  text : l.held.items ≡ l.initial.held.items ++ take l.octet-index l.own;
  len : vec_len l.held ≡ vec_len l.initial.held + l.octet-index;
  capacity : vec_capacity l.held ≡ vec_capacity l.initial.held;
}
