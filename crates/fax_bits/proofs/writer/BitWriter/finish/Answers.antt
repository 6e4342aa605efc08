use Rattle.std.proofs.Common.{◌≡◌, ◌+◌, ◌-◌, ◌*◌, ◌<◌, ◌^◌, ◌/◌, ◌%◌, true, refl, arith, is_ok}
use Rattle.fax_bits.proofs.WritingLemmas.{bits_of-last, top_below}
use Rattle.fax_bits.proofs.writer.BitWriter.finish.Goals as goal

pub overflow_cast-pending : goal.overflow_cast-pending
overflow_cast-pending c =
    let small : c.self.inside.pending * 2 ^ (32 - c.self.inside.count) % 18446744073709551616 < 4294967296 = top_below c.self.inside.count c.self.inside.pending (omega (arith, c.self.invariant.0)) c.self.invariant.1 in
    omega arith

pub returns : goal.returns
returns c =
    let few : c.self.inside.count < 32 = c.self.invariant.0 in
    let ok : is_ok c.extend_from_slice.result ≡ true = rw c.if-is_err.ensures.negation refl in (
      8 * ((c.self.inside.count + 7) / 8) - c.self.inside.count,
      omega arith,
      rw (c.from_vec.ensures, c.extend_from_slice.ensures.items, ok, ← c.self.view_is)
          (bits_of-last c.self.inside.octets.items c.to_be_bytes-last.result c.self.inside.count c.self.inside.pending (omega arith) c.self.invariant.1 c.to_be_bytes-last.ensures),
    )
