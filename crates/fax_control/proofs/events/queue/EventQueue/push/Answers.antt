use Rattle.std.proofs.Common.{◌<◌, ◌≤◌, ◌++◌, length, refl, ◌∙◌, ap, arith}
use Rattle.std.proofs.lemmas.Bool.{false≢true}
use Rattle.circular_buffer.specs.Buffer.{Buffer}
use Rattle.fax_control.specs.declared.events.queue.WaitingLine.{WaitingLine}
use Rattle.fax_control.specs.events.Queues.{due_of, lost_lines}
use Rattle.fax_control.proofs.events.QueueLemmas.{told, keeps, loses}
use Rattle.fax_control.proofs.events.queue.EventQueue.push.Goals as goal
use Rattle.fax_control.proofs.events.queue.EventQueue.push.Goals.{in-Ok, in-Err}

pub returns : goal.returns
returns c =
    let old = c.args.self.now in
    elim c.match-try_push_back.branch [
      | in-Ok w ↦
          let room : length old.waiting.items < 1024 = omega (arith, w.in-Ok.ensures.variant.0 refl, old.room) in
          ap due_of w.self-is
          ∙ ap (λ (b : Buffer WaitingLine). told b.items ++ lost_lines 0) w.in-Ok.ensures.ok
          ∙ keeps old.waiting.items old.lost _ c.args.line.items refl refl room
      | in-Err w ↦
          let none : length old.waiting.items < old.waiting.capacity → ⊥ = λ h. false≢true (w.in-Err.ensures.variant.1 h) in
          let full : 1024 ≤ length old.waiting.items = omega (arith, none, old.room) in
          ap due_of w.self-is
          ∙ ap (λ (b : Buffer WaitingLine). told b.items ++ lost_lines w.saturating_add-self.result) w.in-Err.ensures.err.1
          ∙ ap (λ n. told old.waiting.items ++ lost_lines n) w.saturating_add-self.ensures
          ∙ loses old.waiting.items old.lost c.args.line.items full
    ]
