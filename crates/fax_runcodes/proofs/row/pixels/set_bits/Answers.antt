use Rattle.std.proofs.Common.{◌≡◌, ◌+◌, ◌-◌, ◌*◌, ◌/◌, replicate, ◌∙◌, ap, arith}
use Rattle.fax_runcodes.proofs.SetBitsLemmas.{one_word, two_words, many_words}
use Rattle.fax_runcodes.proofs.row.pixels.set_bits.Goals as goal

pub returns-then-first-last-clause-bits : goal.returns-then-first-last-clause-bits
returns-then-first-last-clause-bits c =
    rw (c.set_masked.ensures, c.from-first.ensures, c.from.ensures, c.from-2.ensures)
    (one_word c.args.octets.now c.args.from c.args.to c.requires.some c.requires.within (omega (arith, c.from-first.ensures, c.from-last.ensures, c.if-first-last.true)))

pub returns-else-last-first-clause-bits : goal.returns-else-last-first-clause-bits
returns-else-last-first-clause-bits c =
    rw (c.set_masked-else-first-last-2.ensures, c.set_masked-else-first-last.ensures, c.from-first.ensures, c.from-last.ensures, c.from.ensures, c.from-2.ensures)
    (two_words c.args.octets.now c.args.from c.args.to c.requires.some c.requires.within (omega (arith, c.from-first.ensures, c.from-last.ensures, c.if-first-last.false))
    (omega (arith, c.from-first.ensures, c.from-last.ensures, c.if-last-first.false)))

pub returns-then-last-first-clause-bits : goal.returns-then-last-first-clause-bits
returns-then-last-first-clause-bits c =
    let k = 4 * ((c.args.to - 1) / 32) - 4 * (c.args.from / 32 + 1) in
    let filled : c.fill.new.self ≡ replicate k 255 = c.fill.ensures.after (λ y e. e) ∙ ap (λ n. replicate n 255) (omega (arith, c.from-first.ensures, c.from-last.ensures)) in
    rw (c.set_masked-else-first-last-2.ensures, c.set_masked-else-first-last.ensures, c.from-first.ensures, c.from-last.ensures, c.from.ensures, c.from-2.ensures)
    (many_words c.args.octets.now c.fill.new.self c.args.from c.args.to k c.requires.some c.requires.within c.requires.fours (omega (arith, c.from-first.ensures, c.from-last.ensures, c.if-last-first.true)) (omega arith) filled)
