use Rattle.std.proofs.Common.{List, map, length, sym, ◌∙◌, ap, subst, arith}
use Rattle.std.specs.Vec.Iter.{into_iter_items}
use Rattle.fax_jobs.specs.Books.{Book}
use Rattle.fax_gateway.specs.Restored.{RestoredCall, CallPage, ArePages, call_shown, confirmation_shown, pages_restored, pages_with, restored_to}
use Rattle.fax_gateway.proofs.Restoring.{are_both}
use Rattle.fax_gateway.proofs.gateway.restored_jobs.Goals as goal

pub loop-call-preserved : goal.loop-call-preserved
loop-call-preserved g c =
    let rest : List RestoredCall = map call_shown (into_iter_items c.next.new.self) in
    let own : List CallPage = pages_with c.in-Some.call.number (map confirmation_shown c.in-Some.call.confirmed.items) in
    let inv = c.loop-call.invariant in
    let steps = c.in-Some.ensures.steps in (
      ap (λ (b : Book). restored_to b rest) c.in_ok-restore_call.ensures.book ∙ ap (λ calls. restored_to c.loop-call.book.book (map call_shown calls)) (sym steps.0) ∙ inv.0,
      let was = inv.1 in
          let gone = steps.1 in
          let short = ap length steps.0 in
          omega arith,
      λ a. inv.2 (subst (λ calls. ArePages (pages_restored (map call_shown calls))) (sym steps.0) (are_both own (pages_restored rest) c.in_ok-restore_call.ensures.pages a)),
    )
