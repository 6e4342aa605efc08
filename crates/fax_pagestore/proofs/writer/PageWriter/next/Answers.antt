use Rattle.std.proofs.Common.{◌≡◌, List, ℕ, Bool, length, drop, inl, sym, ap, subst, arith}
use Rattle.fax_pagestore.specs.Writers.{WriterValue, WritesOn, HasLeft}
use Rattle.fax_pagestore.proofs.WriterLemmas.{gives, Gives, WritesOn-none}
use Rattle.fax_pagestore.proofs.writer.PageWriter.next.Goals as goal
use Rattle.fax_pagestore.proofs.writer.PageWriter.next.Given.{Over}
use Rattle.fax_pagestore.proofs.writer.PageWriter.next.Goals.{In_ok-given}

-- what is given of what waits, and what is left
made : (g : Over) (c : In_ok-given g) (octets : List ℕ) → HasLeft c.args.page.now octets c.args.self.now
    → Gives c.args.page.now octets c.args.self.now c.self.inside.place c.self.inside.waiting c.args.n
made g c octets has =
    let same = c.self.view_is in
    let none = WritesOn-none c.args.self.now.coding c.args.self.now.least c.args.page.now c.args.self.now.place c.args.self.now.waiting in
    let on = subst (λ (w : WriterValue). WritesOn c.args.self.now.coding c.args.self.now.least c.args.page.now c.args.self.now.place w.place c.args.self.now.waiting w.waiting)
    (sym same) none in
    gives c.args.page.now octets c.args.self.now c.self.inside.place c.self.inside.waiting c.args.n has on (inl (omega arith))

pub returns-clause-given : goal.returns-clause-given
returns-clause-given g c = λ octets has.
    let is = made g (goal.at.returns-clause-given g c).In_ok-given octets has in
    c.in_ok-given.ensures.front octets is.more has.are_octets is.padded is.enough

pub returns-clause-left : goal.returns-clause-left
returns-clause-left g c = λ octets has.
    let is = made g (goal.at.returns-clause-left g c).In_ok-given octets has in
    subst (λ (w : WriterValue). HasLeft c.args.page.now (drop c.args.n octets) record w { place = c.self.inside.place; waiting = c.pass.new.self }) (sym c.self.view_is)
    (subst (λ (b : List Bool). HasLeft c.args.page.now (drop c.args.n octets) record c.args.self.now { place = c.self.inside.place; waiting = b }) (sym c.pass.ensures) is.next)

pub returns-clause-some : goal.returns-clause-some
returns-clause-some g c = λ wanted more.
    c.in_ok-given.ensures.some wanted (λ none. let nothing : length c.self.inside.waiting ≡ 0 = ap length none in absurd (omega arith))
