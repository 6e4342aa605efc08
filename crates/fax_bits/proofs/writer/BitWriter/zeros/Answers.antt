use Rattle.std.proofs.Common.{ℕ, ◌≡◌, ◌+◌, ◌-◌, ◌*◌, ◌<◌, ◌^◌, ◌++◌, false, length, replicate, ◌/◌, ◌%◌, true, List, refl, ◌∙◌, ap, ap₂, arith, take_all, is_ok, vec_len}
use Rattle.std.specs.Int.{to_be_bytes, w32}
use Rattle.fax_bits.specs.Bits.{bits_of, word_bits}
use Rattle.fax_bits.proofs.BitsLemmas.{word_bits-zero}
use Rattle.fax_bits.proofs.WritingLemmas.{top_below}
use Rattle.fax_bits.proofs.CutLemmas.{bits_of-filled}
use Rattle.fax_bits.proofs.writer.BitWriter.zeros.Goals as goal

pub returns-then-n-le32-clause-ok : goal.returns-then-n-le32-clause-ok
returns-then-n-le32-clause-ok c = rw (← word_bits-zero c.args.n) c.put.ensures.ok

pub overflow_cast-self-inside-2 : goal.overflow_cast-self-inside-2
overflow_cast-self-inside-2 c =
    let small : c.self.inside.pending * 2 ^ (32 - c.self.inside.count) % 18446744073709551616 < 4294967296 = top_below c.self.inside.count c.self.inside.pending (omega (arith, c.self.invariant.0)) c.self.invariant.1 in
    omega arith

pub returns-clause-ok : goal.returns-clause-ok
returns-clause-ok c =
    let ok : is_ok c.resize.result ≡ true = rw c.if-is_err.ensures.negation refl in
    let x : ℕ = c.self.inside.pending * 2 ^ (32 - c.self.inside.count) % 18446744073709551616 in
    let whole : ℕ = (c.from.result + c.from-2.result - 32) / 8 in
    let same : (c.from.result + c.from-2.result - 32) % 8 ≡ (c.self.inside.count + c.args.n - 32) % 8 = omega arith in
    let len : vec_len c.push_word.new.octets ≡ length c.push_word.new.octets.items = c.push_word.new.octets.ok.0 in
    let items : c.push_word.new.octets.items ≡ c.self.inside.octets.items ++ to_be_bytes w32 x =
    c.push_word.ensures.items ∙ ap (λ (a : List ℕ). a ++ to_be_bytes w32 x) c.reserve.ensures.items in
    let octets : c.resize.new.self.items ≡ (c.self.inside.octets.items ++ to_be_bytes w32 x) ++ replicate {A = ℕ} whole 0 =
    (rw ok at c.resize.ensures.items)
    ∙ ap₂ (λ (a b : List ℕ). a ++ b) (take_all (c.len-len.result + whole) c.push_word.new.octets.items (omega arith) ∙ items)
    (let extra : c.len-len.result + whole - vec_len c.push_word.new.octets ≡ whole = omega arith in ap (λ (k : ℕ). replicate {A = ℕ} k 0) extra) in
    let rest : ℕ = (c.from.result + c.from-2.result - 32) % 8 in
    let bits : bits_of c.resize.new.self.items ++ word_bits rest 0 ≡ (bits_of c.self.inside.octets.items ++ word_bits c.self.inside.count c.self.inside.pending) ++ replicate c.args.n false =
    ap (λ (o : List ℕ). bits_of o ++ word_bits rest 0) octets
    ∙ ap (λ (k : ℕ). bits_of ((c.self.inside.octets.items ++ to_be_bytes w32 x) ++ replicate {A = ℕ} whole 0) ++ word_bits k 0) same
    ∙ bits_of-filled c.self.inside.octets.items (to_be_bytes w32 x) c.self.inside.count c.self.inside.pending c.args.n whole c.self.invariant.0 c.self.invariant.1 (omega arith) (omega arith) refl in
    rw (← c.self.view_is) bits
