use Rattle.std.proofs.Common.{◌≡◌, ℕ, ◌+◌, ◌-◌, ◌*◌, ◌/◌, ◌%◌, ◌≤◌, length, drop, ap, refl, arith, length-drop}
use Rattle.fax_bits.proofs.BitsLemmas.{length-bits_of}
use Rattle.fax_bits.proofs.ReadingLemmas.{Passes-skip}
use Rattle.fax_bits.specs.Bits.{bits_of}
use Rattle.fax_bits.specs.Reading.{Place}
use Rattle.fax_bits.proofs.reader.BitReader.skip.Goals as goal

pub overflow_add-self : goal.overflow_add-self
overflow_add-self c =
    let size : length c.args.self.now.left ≡ 8 * length c.self.inside.octets.now - (8 * c.self.inside.index + c.self.inside.bit) = rw (← c.self.view_is) (simp (length-drop, length-bits_of) refl) in
    omega (arith, c.self.invariant.0, c.self.invariant.1)

pub invariant_of-self : goal.invariant_of-self
invariant_of-self c =
    let size : length c.args.self.now.left ≡ 8 * length c.self.inside.octets.now - (8 * c.self.inside.index + c.self.inside.bit) = rw (← c.self.view_is) (simp (length-drop, length-bits_of) refl) in
    (omega arith, omega (arith, c.self.invariant.0, c.self.invariant.1))

pub returns : goal.returns
returns c =
    let place : ℕ = 8 * c.self.inside.index + c.self.inside.bit in
    let same : length (drop place (bits_of c.self.inside.octets.now)) ≡ length c.args.self.now.left = ap (λ (p : Place). length p.left) c.self.view_is in
    let room : c.args.n ≤ length (drop place (bits_of c.self.inside.octets.now)) = omega arith in
    let total : ℕ = c.from.result + c.from-2.result in
    let there : place + c.args.n ≡ 8 * (c.self.inside.index + total / 8) + total % 8 = omega arith in
    rw (← c.self.view_is, ← there) (Passes-skip (bits_of c.self.inside.octets.now) place c.args.n room)
