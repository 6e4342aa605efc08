use Rattle.std.proofs.Common.{◌≡◌, ◌+◌, ◌-◌, ◌*◌, ◌<◌, refl, length, length-drop, arith}
use Rattle.fax_bits.proofs.BitsLemmas.{length-bits_of}
use Rattle.fax_bits.proofs.reader.BitReader.has.Goals as goal

pub returns-then-octets-ge8 : goal.returns-then-octets-ge8
returns-then-octets-ge8 c =
    let size : length c.args.self.now.left ≡ 8 * length c.self.inside.octets.now - (8 * c.self.inside.index + c.self.inside.bit) = rw (← c.self.view_is) (simp (length-drop, length-bits_of) refl) in
    let few : c.self.inside.bit < 8 = c.self.invariant.0 in
    (λ t. omega arith, λ le. grind arith)

pub returns-else-octets-ge8 : goal.returns-else-octets-ge8
returns-else-octets-ge8 c =
    let size : length c.args.self.now.left ≡ 8 * length c.self.inside.octets.now - (8 * c.self.inside.index + c.self.inside.bit) = rw (← c.self.view_is) (simp (length-drop, length-bits_of) refl) in
    let few : c.self.inside.bit < 8 = c.self.invariant.0 in
    (λ t. grind arith, λ le. grind arith)
