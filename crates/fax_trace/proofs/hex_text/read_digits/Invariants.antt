use Rattle.std.proofs.Common.{◌≡◌, ℕ, ◌*◌, ◌<◌, ◌≤◌, take, drop, Err}
use Rattle.hex.specs.Hex.{decode_pairs}
use Rattle.hex.specs.declared.error.FromHexError.{FromHexError}
use Rattle.hex.proofs.Pairs.{prepend}
use Rattle.fax_trace.proofs.hex_text.read_digits.Given as goal

-- the digits so far are read, or one of them is none
abbrev pub invariant-octets : goal.invariant-octets
invariant-octets l =
    record {
      so_far : l.most < 16 → decode_pairs 0 l.digits ≡ prepend (take l.i l.octets) (decode_pairs (2 * l.i) (drop (2 * l.i) l.digits));
      refused : 16 ≤ l.most → (e : FromHexError) × (decode_pairs 0 l.digits ≡ Err e);
    }
