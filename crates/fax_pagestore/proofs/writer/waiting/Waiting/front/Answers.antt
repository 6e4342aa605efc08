use Rattle.std.proofs.Common.{◌≡◌, ◌≤◌, ◌-◌, ◌*◌, List, ℕ, drop, take, length, min, ◌∙◌, sym, ap, subst, arith, length-take}
use Rattle.fax_bits.specs.Laws.{AreOctets}
use Rattle.fax_bits.specs.Writing.{IsPadded}
use Rattle.fax_pagestore.proofs.WaitingLemmas.{front_of_more, length-held, nonempty, rest_is}
use Rattle.fax_pagestore.proofs.writer.waiting.Waiting.front.Goals as goal

pub returns-clause-front : goal.returns-clause-front
returns-clause-front c = λ octets more are padded enough.
    let rest = rest_is c.deref.result.now c.self.inside.octets.items c.self.inside.given c.deref.ensures.value in
    let held : List ℕ = drop c.self.inside.given c.self.inside.octets.items in
    let held_are : AreOctets held = subst AreOctets rest c.first.ensures.octets in
    let held_is : IsPadded held c.args.self.now = subst (IsPadded held) c.self.view_is c.self.invariant.2 in
    c.in_ok-front.ensures.first ∙ ap (take c.args.n) rest
    ∙ front_of_more held octets c.args.self.now more c.args.n held_are are held_is padded enough

pub returns-clause-few : goal.returns-clause-few
returns-clause-few c = omega (arith, ap length c.in_ok-front.ensures.first, length-take c.args.n (take (length c.deref.result.now - c.self.inside.given) (drop c.self.inside.given c.deref.result.now)))

pub returns-clause-some : goal.returns-clause-some
returns-clause-some c = λ wanted bits.
    let rest = rest_is c.deref.result.now c.self.inside.octets.items c.self.inside.given c.deref.ensures.value in
    let held : List ℕ = drop c.self.inside.given c.self.inside.octets.items in
    let within : c.self.inside.bits ≤ 8 * length held = c.self.invariant.1 in
    let long : 1 ≤ length c.args.self.now = nonempty c.args.self.now bits in
    let count : length c.args.self.now ≡ c.self.inside.bits = ap length (sym c.self.view_is) ∙ length-held held c.self.inside.bits within in
    let front : length c.in_ok-front.front ≡ min c.args.n (length held) = ap length (c.in_ok-front.ensures.first ∙ ap (take c.args.n) rest) ∙ length-take c.args.n held in
    omega arith
