use Rattle.std.proofs.Common.{refl, ℕ, ◌≡◌, ◌+◌, ◌-◌, ◌*◌, ◌%◌, ◌^◌, ◌<◌, ◌≤◌, ◌++◌, Bool, List, sym, ◌∙◌, ap, arith, append_assoc, bit_or}
use Rattle.fax_bits.specs.Bits.{bits_of, word_bits}
use Rattle.fax_bits.proofs.WritingLemmas.{joined_bits, bits_of-above}
use Rattle.fax_bits.proofs.writer.RoomyWriter.put.Goals as goal

-- the bits so far and those of the word, when they stand in one number
joined : (items : List ℕ) (count pending n word : ℕ) (bits : List Bool) → count < 32 → n ≤ 32 → word < 2 ^ n → bits_of items ++ word_bits count pending ≡ bits
    → bits_of items ++ word_bits (count + n) (bit_or (pending * 2 ^ n % 18446744073709551616) word) ≡ bits ++ word_bits n word
joined items count pending n word bits few le below e =
    ap (λ b. bits_of items ++ b) (joined_bits count n pending word (omega arith) le below)
    ∙ sym (append_assoc (bits_of items) (word_bits count pending) (word_bits n word)) ∙ ap (λ b. b ++ word_bits n word) e

pub returns-then-total-lt32-clause-bits : goal.returns-then-total-lt32-clause-bits
returns-then-total-lt32-clause-bits c =
    rw (c.from.ensures) (joined c.self.inside.octets.items c.self.inside.count c.self.inside.pending c.args.n c.args.word c.args.self.now.bits c.self.invariant.0 c.requires.few c.requires.word (ap (λ r. r.bits) c.self.view_is))

pub returns-else-total-lt32-clause-bits : goal.returns-else-total-lt32-clause-bits
returns-else-total-lt32-clause-bits c =
    let all : ℕ = bit_or (c.self.inside.pending * 2 ^ c.args.n % 18446744073709551616) c.from.result in
    let rest : ℕ = c.self.inside.count + c.args.n - 32 in
    let size : 32 + rest ≡ c.self.inside.count + c.args.n = omega (arith, c.if-total-lt32.false) in
    rw c.push_word.ensures.items
    (bits_of-above c.self.inside.octets.items _ rest all refl ∙ ap (λ k. bits_of c.self.inside.octets.items ++ word_bits k all) size
    ∙ (rw c.from.ensures (joined c.self.inside.octets.items c.self.inside.count c.self.inside.pending c.args.n c.args.word c.args.self.now.bits c.self.invariant.0 c.requires.few c.requires.word (ap (λ r. r.bits) c.self.view_is))))
