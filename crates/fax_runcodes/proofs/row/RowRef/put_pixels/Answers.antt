use Rattle.std.proofs.Common.{◌≡◌, ◌+◌, ◌*◌, ◌-◌, ◌%◌, ◌<◌, length, get_or, take, map, replicate, sym, ◌∙◌, ap, arith, refl}
use Rattle.fax_bits.specs.Bits.{bits_of}
use Rattle.fax_runcodes.specs.declared.Colour.TheVariants.{White}
use Rattle.fax_runcodes.specs.Pixels.{pixel}
use Rattle.fax_runcodes.specs.Painted.{painted}
use Rattle.fax_runcodes.proofs.PaintedLemmas.{length-painted_all}
use Rattle.fax_runcodes.proofs.RowPixelsLemmas.{no_pixels, pair_of_pixels, last_pixels, rising_next, rising_before_end, in_fours}
use Rattle.fax_runcodes.proofs.row.RowRef.put_pixels.Goals as goal

pub loop-i-init : goal.loop-i-init
loop-i-init c =
    let filled : c.fill.new.self ≡ replicate (length c.args.octets.now) 0 = c.fill.ensures.after (λ y e. e) in
    let size : length c.args.self.now ≡ c.self.inside.elements = rw (← c.self.view_is) (length-painted_all c.self.inside.places.now c.self.inside.elements c.self.invariant.0) in
    record {
      so_far = ap bits_of filled ∙ no_pixels (length c.args.octets.now) c.self.inside.elements (sym size ∙ c.requires);
      same_room = refl;
    }

pub set_bits-requires-clause-some : goal.set_bits-requires-clause-some
set_bits-requires-clause-some c =
    let within : 2 * c.loop-i.i + 1 < length c.self.inside.places.now = omega arith in
    rising_next c.self.inside.places.now c.self.inside.elements (2 * c.loop-i.i) within c.self.invariant.0

pub set_bits-requires-clause-within : goal.set_bits-requires-clause-within
set_bits-requires-clause-within c =
    let within : 2 * c.loop-i.i + 1 < length c.self.inside.places.now = omega arith in
    let before : get_or c.self.inside.places.now (2 * c.loop-i.i + 1) 0 < c.self.inside.elements = rising_before_end c.self.inside.places.now c.self.inside.elements (2 * c.loop-i.i + 1) within c.self.invariant.0 in
    let size : length c.args.self.now ≡ c.self.inside.elements = rw (← c.self.view_is) (length-painted_all c.self.inside.places.now c.self.inside.elements c.self.invariant.0) in
    omega (arith, c.loop-i.invariant.same_room, c.fill.ensures.len, c.requires)

pub set_bits-requires-clause-fours : goal.set_bits-requires-clause-fours
set_bits-requires-clause-fours c =
    let size : length c.args.self.now ≡ c.self.inside.elements = rw (← c.self.view_is) (length-painted_all c.self.inside.places.now c.self.inside.elements c.self.invariant.0) in
    let fours : length c.args.octets.now % 4 ≡ 0 = in_fours (length c.args.octets.now) c.self.inside.elements c.self.invariant.1 (sym size ∙ c.requires) in
    omega (arith, c.loop-i.invariant.same_room, c.fill.ensures.len, fours)

pub loop-i-preserved : goal.loop-i-preserved
loop-i-preserved c =
    let within : 2 * c.loop-i.i + 1 < length c.self.inside.places.now = omega arith in
    let next : 2 * c.loop-i.i + 1 + 1 ≡ 2 * (c.loop-i.i + 1) = omega arith in
    record {
      so_far = pair_of_pixels (bits_of c.loop-i.octets) (bits_of c.set_bits.new.octets) c.self.inside.places.now (2 * c.loop-i.i) c.self.inside.elements within (omega arith) c.self.invariant.0
          c.loop-i.invariant.so_far c.set_bits.ensures.bits
          ∙ ap (λ n. map pixel (painted White 0 (take n c.self.inside.places.now) c.self.inside.elements)) next;
      same_room = c.set_bits.ensures.same_room ∙ c.loop-i.invariant.same_room;
    }

pub set_bits-requires-then-places-eq1-clause-some : goal.set_bits-requires-then-places-eq1-clause-some
set_bits-requires-then-places-eq1-clause-some c =
    rising_before_end c.self.inside.places.now c.self.inside.elements (length c.self.inside.places.now - 1) (omega arith) c.self.invariant.0

pub set_bits-requires-then-places-eq1-clause-within : goal.set_bits-requires-then-places-eq1-clause-within
set_bits-requires-then-places-eq1-clause-within c =
    let size : length c.args.self.now ≡ c.self.inside.elements = rw (← c.self.view_is) (length-painted_all c.self.inside.places.now c.self.inside.elements c.self.invariant.0) in
    omega (arith, c.loop-i.invariant.same_room, c.fill.ensures.len, c.requires)

pub set_bits-requires-then-places-eq1-clause-fours : goal.set_bits-requires-then-places-eq1-clause-fours
set_bits-requires-then-places-eq1-clause-fours c =
    let size : length c.args.self.now ≡ c.self.inside.elements = rw (← c.self.view_is) (length-painted_all c.self.inside.places.now c.self.inside.elements c.self.invariant.0) in
    let fours : length c.args.octets.now % 4 ≡ 0 = in_fours (length c.args.octets.now) c.self.inside.elements c.self.invariant.1 (sym size ∙ c.requires) in
    omega (arith, c.loop-i.invariant.same_room, c.fill.ensures.len, fours)

pub returns-then-places-eq1-clause-bits : goal.returns-then-places-eq1-clause-bits
returns-then-places-eq1-clause-bits c =
    let places = c.self.inside.places.now in
    let odd : 2 * c.loop-i.i ≡ length places - 1 = omega (arith, c.loop-i.auto.i-end) in
    rw (← c.self.view_is) (last_pixels (bits_of c.loop-i.octets) (bits_of c.set_bits-then-places-eq1.new.octets) places (length places - 1) c.self.inside.elements (omega arith) (omega arith) c.self.invariant.0
    (c.loop-i.invariant.so_far ∙ ap (λ n. map pixel (painted White 0 (take n places) c.self.inside.elements)) odd) c.set_bits-then-places-eq1.ensures.bits)
