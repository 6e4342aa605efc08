use Rattle.std.proofs.Common.{[], ◌∷◌, ◌∙◌, ℕ, ap, subst}
use Rattle.fax_line.specs.Operations.{LinesWent, VisitsLines, VisitsTell, slot_after, slot_before, visits_at}
use Rattle.fax_line.specs.Runs.{Turned, Woken}
use Rattle.fax_line.specs.Settling.{LetsOutSlot}
use Rattle.fax_redial.specs.Tries.{GoesOn, TryValue}
use Rattle.fax_redial.proofs.Trying.{slot_back, tried_turned}
use Rattle.fax_redial.proofs.job_try.JobTry.turn.Goals as goal

pub returns-then-is_first-clause-goes : goal.returns-then-is_first-clause-goes
returns-then-is_first-clause-goes g c =
    let inside = c.self.inside in
    let now = c.max-self-inside.result in
    let woken = c.wake.new.self in
    let turned = c.turn.new.self in
    let left = c.let_out_slot.new.self in
    let woke = c.wake.ensures.slot in
    let old : TryValue = record { job = inside.job; lines = inside.lines; moment = inside.moment; total = inside.total } in
    let new : TryValue = record { job = inside.job; lines = left; moment = now; total = inside.total } in (
      visits_at inside.lines.slot now woken.lines,
      subst (λ (t : TryValue). GoesOn (Turned c.args.now (visits_at inside.lines.slot now woken.lines) ∷ Woken 0 ∷ []) t new) c.self.view_is
          (tried_turned c.args.now old new woken.lines turned.lines c.max-self-inside.ensures c.wake.ensures.went c.wake.ensures.stays c.wake.ensures.woken
          (subst (λ (s : ℕ). LinesWent (VisitsLines (visits_at s now woken.lines) ∷ []) woken.lines turned.lines) woke c.turn.ensures.went)
          (subst (λ (s : ℕ). VisitsTell (visits_at s now woken.lines) woken.lines turned.lines) woke c.turn.ensures.tells) c.turn.ensures.waits c.let_out_slot.ensures.went
          (subst (λ (s : ℕ). LetsOutSlot s turned.lines left.lines) (ap slot_before c.turn.ensures.slot ∙ (slot_back woken.slot ∙ woke)) c.let_out_slot.ensures.ends)
          c.let_out_slot.ensures.waits (c.let_out_slot.ensures.slot ∙ (c.turn.ensures.slot ∙ ap slot_after woke))),
    )

pub returns-else-is_first-clause-goes : goal.returns-else-is_first-clause-goes
returns-else-is_first-clause-goes g c =
    let inside = c.self.inside in
    let now = c.max-self-inside.result in
    let woken = c.wake.new.self in
    let turned = c.turn.new.self in
    let left = c.let_out_slot.new.self in
    let woke = c.wake.ensures.slot in
    let old : TryValue = record { job = inside.job; lines = inside.lines; moment = inside.moment; total = inside.total } in
    let new : TryValue = record { job = inside.job; lines = left; moment = now; total = inside.total } in (
      visits_at inside.lines.slot now woken.lines,
      subst (λ (t : TryValue). GoesOn (Turned c.args.now (visits_at inside.lines.slot now woken.lines) ∷ Woken 0 ∷ []) t new) c.self.view_is
          (tried_turned c.args.now old new woken.lines turned.lines c.max-self-inside.ensures c.wake.ensures.went c.wake.ensures.stays c.wake.ensures.woken
          (subst (λ (s : ℕ). LinesWent (VisitsLines (visits_at s now woken.lines) ∷ []) woken.lines turned.lines) woke c.turn.ensures.went)
          (subst (λ (s : ℕ). VisitsTell (visits_at s now woken.lines) woken.lines turned.lines) woke c.turn.ensures.tells) c.turn.ensures.waits c.let_out_slot.ensures.went
          (subst (λ (s : ℕ). LetsOutSlot s turned.lines left.lines) (ap slot_before c.turn.ensures.slot ∙ (slot_back woken.slot ∙ woke)) c.let_out_slot.ensures.ends)
          c.let_out_slot.ensures.waits (c.let_out_slot.ensures.slot ∙ (c.turn.ensures.slot ∙ ap slot_after woke))),
    )
