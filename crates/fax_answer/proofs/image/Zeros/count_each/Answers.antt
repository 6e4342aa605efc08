use Rattle.std.proofs.Common.{◌≡◌, ◌<◌, length, ℕ, List, take, get_or, sym, ◌∙◌, ap, max}
use Rattle.fax_answer.specs.Images.{run_after, longest_after, run_with}
use Rattle.fax_answer.proofs.ImageLemmas.{run_more, longest_more}
use Rattle.fax_answer.proofs.image.Zeros.count_each.Goals as goal

pub loop-octet-preserved : goal.loop-octet-preserved
loop-octet-preserved c =
    let i : ℕ = c.loop-octet.octet-index in
    let octets : List ℕ = c.args.octets.now in
    let within : i < length octets = c.loop-octet-test.true in
    let run = run_more c.args.self.now.run i octets within in
    let longest = longest_more c.args.self.now.run c.args.self.now.longest i octets within in
    let octet : ℕ = get_or octets i 0 in
    let now : c.run_with-self.result ≡ run_with (run_after c.args.self.now.run (take i octets)) octet =
    c.run_with-self.ensures ∙ ap (λ (n : ℕ). run_with n octet) c.loop-octet.invariant.run in
    record {
      run = now ∙ sym run;
      longest = c.max-self.ensures ∙ ap (λ (n : ℕ). max n c.run_with-self.result) c.loop-octet.invariant.longest ∙ ap (λ (n : ℕ). max (longest_after c.args.self.now.run c.args.self.now.longest (take i octets)) n) now ∙ sym longest;
    }
