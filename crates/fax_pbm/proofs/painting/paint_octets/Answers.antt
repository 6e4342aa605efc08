use Rattle.std.proofs.Common.{◌≡◌, ℕ, ◌+◌, ◌*◌, ◌≤◌, ◌<◌, ◌++◌, length, take, get_or, map, sym, ◌∙◌, ap, arith, append-nil, append_assoc, length-append}
use Rattle.std.proofs.lemmas.List.{length-take-le}
use Rattle.fax_bits.specs.Bits.{bits_of, word_bits}
use Rattle.fax_runcodes.specs.Rows.{Elements}
use Rattle.fax_pbm.specs.Pictures.{element}
use Rattle.fax_pbm.proofs.RowLemmas.{elements-next, length-elements, no_elements}
use Rattle.fax_pbm.proofs.painting.paint_octets.Goals as goal

pub loop-octet-init : goal.loop-octet-init
loop-octet-init c = sym (append-nil c.args.row.now) ∙ ap (λ (es : Elements). c.args.row.now ++ es) (sym no_elements)

pub paint_octet-requires : goal.paint_octet-requires
paint_octet-requires c =
    let octets = c.args.octets.now in
    let k : ℕ = c.loop-octet.octet-index in
    let within : k ≤ length octets = omega arith in
    let size : length c.loop-octet.row ≡ length c.args.row.now + 8 * k =
    ap length c.loop-octet.invariant ∙ length-append c.args.row.now (map element (bits_of (take k octets)))
    ∙ ap (λ (n : ℕ). length c.args.row.now + n) (length-elements (take k octets) ∙ ap (λ (n : ℕ). 8 * n) (length-take-le k octets within)) in
    omega (arith, size, c.requires)

pub loop-octet-preserved : goal.loop-octet-preserved
loop-octet-preserved c =
    let octets = c.args.octets.now in
    let k : ℕ = c.loop-octet.octet-index in
    let within : k < length octets = omega arith in
    let last : Elements = map element (word_bits 8 (get_or octets k 0)) in
    c.paint_octet.ensures
    ∙ ap (λ (row : Elements). row ++ last) c.loop-octet.invariant
    ∙ append_assoc c.args.row.now (map element (bits_of (take k octets))) last
    ∙ ap (λ (es : Elements). c.args.row.now ++ es) (sym (elements-next octets k within))
