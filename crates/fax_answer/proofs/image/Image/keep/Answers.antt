use Rattle.std.proofs.Common.{rules, ◌≡◌, ◌-◌, ℕ, List, length, reverse, take, drop, ap, ◌∙◌}
use Rattle.fax_pagestore.specs.Readers.{ReaderValue}
use Rattle.fax_answer.specs.Images.{ImageValue}
use Rattle.fax_answer.proofs.Places.{newest_kept}
use Rattle.fax_answer.proofs.image.Image.keep.Goals as goal

pub returns : goal.returns
returns g c =
    let xs : List ReaderValue = c.self.inside.readers.items in
    let k : ℕ = c.saturating_sub-surplus.result in
    let left : c.drop-drain.new.self.0.items ≡ drop k xs = c.drop-drain.ensures.items ∙ c.drain.ensures.kept in
    let long : c.len.result ≡ length xs = search rules in
    let surplus : k ≡ length xs - c.args.count = c.saturating_sub-surplus.ensures ∙ ap (λ (n : ℕ). n - c.args.count) long in
    ap (λ (l : List ReaderValue). let i : ImageValue = record { readers = l; accepted = c.self.inside.accepted; run = c.self.inside.zeros.run; longest = c.self.inside.zeros.longest } in i) (ap reverse left ∙ newest_kept c.args.count k xs surplus)
    ∙ ap (λ (i : ImageValue). let j : ImageValue = record { readers = take c.args.count i.readers; accepted = i.accepted; run = i.run; longest = i.longest } in j) c.self.view_is
