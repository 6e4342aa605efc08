use Rattle.std.proofs.Common.{◌≡◌, ◌∙◌, ℕ, Some, None, MatchOption, arith, refl, slice_get, sym, subst}
use Rattle.std.proofs.lemmas.Grind.{common_steps}
use Rattle.std.proofs.lemmas.Option.{gets}
use Rattle.std.specs.Bool.{⊤}
use Rattle.fax_queue.specs.Storing.{AddsAt, noted_as}
use Rattle.fax_queue.proofs.Queueing.{next_added}
use Rattle.fax_queue.proofs.storage.Storage.add_all.Goals as goal
use Rattle.fax_queue.proofs.storage.Storage.add_all.Goals.{in-Some, in-None}

pub loop-k-preserved : goal.loop-k-preserved
loop-k-preserved g c =
    let numbers = c.args.numbers.now in
    let is = c.loop-k.invariant in
    let page = c.index-pages-k.result in
    let told : MatchOption (slice_get numbers c.loop-k.k) ⊤ (λ said. c.match-get.number ≡ said) =
    elim c.match-get.branch [
      | in-Some w ↦ let at : slice_get numbers c.loop-k.k ≡ Some c.match-get.number = grind (arith, common_steps, gets, w.in-Some.ensures.lookup, w.number-is) in
          subst (λ o. MatchOption o ⊤ (λ said. c.match-get.number ≡ said)) (sym at) refl
      | in-None w ↦ let at : slice_get numbers c.loop-k.k ≡ None = grind (arith, common_steps, gets, w.in-None.ensures.lookup) in
          subst (λ o. MatchOption o ⊤ (λ said. c.match-get.number ≡ said)) (sym at) tt
    ] in
    let life : c.loop-k.self.life ≡ c.args.self.now.life = is.1 in
    let adds : AddsAt (noted_as c.args.self.now.life c.match-get.number c.args.is_stored page) page.line c.loop-k.self.queues.items c.add.new.self.queues.items =
    subst (λ (m : ℕ). AddsAt (noted_as m c.match-get.number c.args.is_stored page) page.line c.loop-k.self.queues.items c.add.new.self.queues.items) life
    c.add.ensures.queues in (
      c.add.ensures.spool ∙ is.0,
      c.add.ensures.life ∙ life,
      next_added c.args.self.now.life c.args.is_stored c.args.pages.now numbers c.loop-k.k page c.match-get.number c.args.self.now.queues.items c.loop-k.self.queues.items c.add.new.self.queues.items
          c.loop-k-test.true c.index-pages-k.is told is.2 adds,
    )
