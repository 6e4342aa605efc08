use Rattle.std.proofs.Common.{◌-◌, ◌*◌, drop, min, ◌∙◌, ap, arith}
use Rattle.fax_pagestore.proofs.WaitingLemmas.{IsPassed, AreHeld-passed, held_passed}
use Rattle.fax_pagestore.proofs.writer.waiting.Waiting.pass.Goals as goal

pub invariant_of-self : goal.invariant_of-self
invariant_of-self c =
    let left = c.len.ensures ∙ c.self.inside.octets.ok.0 in
    let given = c.self.invariant.0 in
    let is : IsPassed c.self.inside.octets.items c.self.inside.given c.self.inside.bits c.args.n c.min.result c.saturating_sub-self-inside.result = record {
      held = record { within = c.self.invariant.1; padded = c.self.invariant.2 };
      count_is = c.min.ensures ∙ ap (λ n. min c.args.n (n - c.self.inside.given)) left;
      rest_is = c.saturating_sub-self-inside.ensures;
    } in
    let all = AreHeld-passed c.self.inside.octets.items c.self.inside.given c.self.inside.bits c.args.n c.min.result c.saturating_sub-self-inside.result is in
    (omega (arith, c.min.ensures), all.within, all.padded)

pub returns : goal.returns
returns c =
    let left = c.len.ensures ∙ c.self.inside.octets.ok.0 in
    let is : IsPassed c.self.inside.octets.items c.self.inside.given c.self.inside.bits c.args.n c.min.result c.saturating_sub-self-inside.result = record {
      held = record { within = c.self.invariant.1; padded = c.self.invariant.2 };
      count_is = c.min.ensures ∙ ap (λ n. min c.args.n (n - c.self.inside.given)) left;
      rest_is = c.saturating_sub-self-inside.ensures;
    } in
    held_passed c.self.inside.octets.items c.self.inside.given c.self.inside.bits c.args.n c.min.result c.saturating_sub-self-inside.result is
    ∙ ap (drop (8 * c.args.n)) c.self.view_is
