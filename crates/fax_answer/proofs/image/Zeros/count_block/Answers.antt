use Rattle.std.proofs.Common.{◌≡◌, ℕ, ◌+◌, List, take, drop, min, max, refl, sym, ◌∙◌, ap₂, arith}
use Rattle.fax_answer.specs.declared.image.Zeros.{Zeros}
use Rattle.fax_answer.proofs.ImageLemmas.{length-block, others_in_block, run_of_others, longest_of_others, run_of_block, longest_of_block}
use Rattle.fax_answer.proofs.image.Zeros.count_block.Goals as goal

pub returns-then-has_no_zero : goal.returns-then-has_no_zero
returns-then-has_no_zero c =
    let block : List ℕ = take 8 (drop c.args.first c.args.octets.now) in
    let long = length-block c.args.octets.now c.args.first c.requires in
    let others = others_in_block c.args.octets.now c.args.first c.requires (c.if-has_no_zero.ensures refl) in
    ap₂ (λ (r l : ℕ). let z : Zeros = record { run = r; longest = l } in z)
    (sym (run_of_others c.args.self.now.run block (omega arith) others)) (sym (longest_of_others c.args.self.now.run c.args.self.now.longest block others))

pub returns-then-has_zeros_alone : goal.returns-then-has_zeros_alone
returns-then-has_zeros_alone c =
    let zeros = c.if-has_zeros_alone.ensures refl in
    let run : c.saturating_add-self.result ≡ min (c.args.self.now.run + 8) 65535 = omega (arith, c.saturating_add-self.ensures) in
    let longest : c.max-self.result ≡ max c.args.self.now.longest (min (c.args.self.now.run + 8) 65535) = omega (arith, c.max-self.ensures, run) in
    ap₂ (λ (r l : ℕ). let z : Zeros = record { run = r; longest = l } in z)
    (run ∙ sym (run_of_block c.args.self.now.run c.args.first c.args.octets.now (omega arith) c.requires zeros))
    (longest ∙ sym (longest_of_block c.args.self.now.run c.args.self.now.longest c.args.first c.args.octets.now (omega arith) c.requires zeros))
