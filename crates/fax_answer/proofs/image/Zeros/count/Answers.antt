use Rattle.std.proofs.Common.{ℕ, List, take, drop, sym, ◌∙◌, ap, ap₂, arith}
use Rattle.std.proofs.lemmas.List.{take_rest}
use Rattle.fax_answer.specs.declared.image.Zeros.{Zeros}
use Rattle.fax_answer.specs.Images.{run_after, longest_after}
use Rattle.fax_answer.proofs.ImageLemmas.{run_on, longest_on, run_all, longest_all}
use Rattle.fax_answer.proofs.image.Zeros.count.Goals as goal

pub loop-place-preserved : goal.loop-place-preserved
loop-place-preserved c =
    let place : ℕ = c.loop-place.place in
    let octets : List ℕ = c.args.octets.now in
    let block : List ℕ = take 8 (drop place octets) in
    record {
      within = omega arith;
      run = ap (λ (z : Zeros). z.run) c.count_block.ensures ∙ ap (λ r. run_after r block) c.loop-place.invariant.run ∙ sym (run_on c.args.self.now.run place 8 octets);
      longest = ap (λ (z : Zeros). z.longest) c.count_block.ensures ∙ ap₂ (λ r l. longest_after r l block) c.loop-place.invariant.run c.loop-place.invariant.longest
          ∙ sym (longest_on c.args.self.now.run c.args.self.now.longest place 8 octets);
    }

pub returns : goal.returns
returns c =
    let place : ℕ = c.loop-place.place in
    let octets : List ℕ = c.args.octets.now in
    let rest = take_rest octets place in
    c.count_each.ensures
    ∙ ap₂ (λ (r l : ℕ). let z : Zeros = record { run = r; longest = l } in z)
    (ap₂ (λ (r : ℕ) (xs : List ℕ). run_after r xs) c.loop-place.invariant.run rest ∙ sym (run_all c.args.self.now.run place octets))
    (ap (λ (xs : List ℕ). longest_after c.loop-place.self.run c.loop-place.self.longest xs) rest
    ∙ ap₂ (λ r l. longest_after r l (drop place octets)) c.loop-place.invariant.run c.loop-place.invariant.longest
    ∙ sym (longest_all c.args.self.now.run c.args.self.now.longest place octets))
