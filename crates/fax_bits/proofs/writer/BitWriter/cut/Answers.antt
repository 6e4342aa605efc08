use Rattle.std.proofs.Common.{◌≡◌, ◌+◌, ◌-◌, ◌*◌, ◌<◌, ◌≤◌, ◌^◌, length, ◌/◌, ◌%◌, get_or, refl, sym, ◌∙◌, arith, length-append}
use Rattle.std.proofs.lemmas.List.{get_or_read_under}
use Rattle.fax_bits.specs.Bits.{word_bits}
use Rattle.fax_bits.proofs.BitsLemmas.{length-bits_of, length-word_bits}
use Rattle.fax_bits.proofs.CutLemmas.{cut_pending, cut_octet, shifted_below}
use Rattle.fax_bits.proofs.writer.BitWriter.cut.Goals as goal
use Rattle.fax_bits.proofs.writer.BitWriter.cut.Goals.{Then-n-whole}

within : (c : Then-n-whole) → c.args.n - 8 * c.len.result ≤ c.self.inside.count
within c =
    let size : length c.args.self.now ≡ 8 * length c.self.inside.octets.items + c.self.inside.count = rw (← c.self.view_is) (simp (length-append, length-bits_of, length-word_bits) refl) in
    omega (arith, c.self.inside.octets.ok.0)

pub overflow_cast-count : goal.overflow_cast-count
overflow_cast-count c =
    let le : c.args.n - 8 * c.len.result ≤ c.self.inside.count = within c in
    omega (arith, c.self.invariant.0)

pub overflow_sub-self : goal.overflow_sub-self
overflow_sub-self c = within c

pub invariant_of-self : goal.invariant_of-self
invariant_of-self c =
    let size : length c.args.self.now ≡ 8 * length c.self.inside.octets.items + c.self.inside.count = rw (← c.self.view_is) (simp (length-append, length-bits_of, length-word_bits) refl) in
    let le : c.args.n - 8 * c.len.result ≤ c.self.inside.count = omega (arith, c.self.inside.octets.ok.0) in
    (omega (arith, c.self.invariant.0), shifted_below c.self.inside.pending (c.args.n - 8 * c.len.result) c.self.inside.count le c.self.invariant.1, omega (arith, c.self.invariant.2))

pub invariant_of-self-else-n-whole : goal.invariant_of-self-else-n-whole
invariant_of-self-else-n-whole c =
    let octet : c.from.result < 2 ^ 8 = omega arith in
    (omega arith, shifted_below c.from.result (c.args.n % 8) 8 (omega arith) octet, omega (arith, c.self.invariant.2, c.truncate.ensures.len, c.truncate.ensures.capacity))

pub returns-then-n-whole : goal.returns-then-n-whole
returns-then-n-whole c =
    let size : length c.args.self.now ≡ 8 * length c.self.inside.octets.items + c.self.inside.count = rw (← c.self.view_is) (simp (length-append, length-bits_of, length-word_bits) refl) in
    let len : c.len.result ≡ length c.self.inside.octets.items = omega (arith, c.self.inside.octets.ok.0) in
    rw (← c.self.view_is, len) (sym (cut_pending c.self.inside.octets.items c.args.n c.self.inside.count c.self.inside.pending (omega arith) (omega arith)))

pub returns-else-n-whole : goal.returns-else-n-whole
returns-else-n-whole c =
    let len : c.len.result ≡ length c.self.inside.octets.items = omega (arith, c.self.inside.octets.ok.0) in
    let octet : c.from.result ≡ get_or c.self.inside.octets.items (c.args.n / 8) 0 =
    c.from.ensures ∙ get_or_read_under c.self.inside.octets.items (c.args.n / 8) c.len.result c.index-last.result.now 0 c.index-last.ensures (omega arith) len in
    rw (← c.self.view_is, c.truncate.ensures.items, octet)
    (sym (cut_octet c.self.inside.octets.items c.args.n (word_bits c.self.inside.count c.self.inside.pending) (omega arith)))
