use Rattle.std.proofs.Common.{ℕ, ◌≡◌, ◌+◌, ◌-◌, ◌<◌, ◌^◌, ◌++◌, ◌/◌, List, refl, sym, ◌∙◌, ap, arith, append_assoc}
use Rattle.std.proofs.lemmas.Nat.{shr_below}
use Rattle.fax_bits.specs.Bits.{bits_of, word_bits}
use Rattle.fax_bits.proofs.WritingLemmas.{bits_of-four}
use Rattle.std.specs.Int.{to_be_bytes, w32}
use Rattle.fax_bits.proofs.writer.BitWriter.put.Goals as goal

pub overflow_cast-all : goal.overflow_cast-all
overflow_cast-all c =
    let rest : ℕ = c.self.inside.count + c.args.n - 32 in
    let size : c.self.inside.count + c.args.n ≡ 32 + rest = omega arith in
    let below : c.joined-all.result < 2 ^ (32 + rest) = rw size at (c.joined-all.ensures.below c.self.inside.count c.self.invariant.1) in
    let top : c.joined-all.result / 2 ^ rest < 2 ^ 32 = shr_below c.joined-all.result 32 rest below in
    omega arith

pub returns-else-total-lt32-clause-ok : goal.returns-else-total-lt32-clause-ok
returns-else-total-lt32-clause-ok c =
    let rest : ℕ = c.self.inside.count + c.args.n - 32 in
    let size : c.self.inside.count + c.args.n ≡ 32 + rest = omega arith in
    let below : c.joined-all.result < 2 ^ (32 + rest) = rw size at (c.joined-all.ensures.below c.self.inside.count c.self.invariant.1) in
    let items : c.push_word.new.octets.items ≡ c.self.inside.octets.items ++ to_be_bytes w32 (c.joined-all.result / 2 ^ rest) =
    c.push_word.ensures.items ∙ ap (λ (a : List ℕ). a ++ to_be_bytes w32 (c.joined-all.result / 2 ^ rest)) c.reserve.ensures.items in
    rw (items, ← c.self.view_is)
    (bits_of-four c.self.inside.octets.items (to_be_bytes w32 (c.joined-all.result / 2 ^ rest)) rest c.joined-all.result c.low_bits-self-inside.result below refl c.low_bits-self-inside.ensures.bits
    ∙ ap (λ k. bits_of c.self.inside.octets.items ++ word_bits k c.joined-all.result) (sym size)
    ∙ ap (λ b. bits_of c.self.inside.octets.items ++ b) (c.joined-all.ensures.bits c.self.inside.count)
    ∙ sym (append_assoc (bits_of c.self.inside.octets.items) (word_bits c.self.inside.count c.self.inside.pending) (word_bits c.args.n c.args.word)))
