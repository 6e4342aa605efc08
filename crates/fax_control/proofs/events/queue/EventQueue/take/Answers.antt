use Rattle.std.proofs.Common.{◌++◌, drop, sym, ◌∙◌, ap}
use Rattle.circular_buffer.specs.Buffer.{Buffer}
use Rattle.fax_control.specs.declared.events.queue.WaitingLine.{WaitingLine}
use Rattle.fax_control.specs.events.Queues.{lost_lines, tellings_of_waiting}
use Rattle.fax_control.proofs.events.QueueLemmas.{told, takes_first, first_of_list, none_of_list, alone_none, alone_told, alone_some}
use Rattle.fax_control.proofs.events.queue.EventQueue.take.Goals as goal

pub returns-in-Some-clause-told : goal.returns-in-Some-clause-told
returns-in-Some-clause-told c =
    let old = c.args.self.now in
    let first = c.in-Some.field-0 in
    takes_first old.waiting.items old.lost first (drop 1 old.waiting.items) (first_of_list old.waiting.items first c.in-Some.ensures.value)
    ∙ ap (λ (b : Buffer WaitingLine). tellings_of_waiting first ++ (told b.items ++ lost_lines old.lost)) (sym c.in-Some.ensures.items)

pub returns-in-None-clause-none : goal.returns-in-None-clause-none
returns-in-None-clause-none c =
    let old = c.args.self.now in
    let empty = none_of_list old.waiting.items c.in-None.ensures.value in
    alone_none c.lost_alone.result old.lost c.lost_alone.ensures.none
    (λ none. (
      ap (λ w. told w ++ lost_lines old.lost) empty ∙ ap (λ n. lost_lines n) none,
      ap (λ (b : Buffer WaitingLine). told b.items ++ lost_lines 0) c.in-None.ensures.items ∙ ap (λ w. told (drop 1 w) ++ lost_lines 0) empty,
    ))

pub returns-in-None-clause-told : goal.returns-in-None-clause-told
returns-in-None-clause-told c =
    let old = c.args.self.now in
    let empty = none_of_list old.waiting.items c.in-None.ensures.value in
    alone_told c.lost_alone.result old.lost _ _ c.lost_alone.ensures.some
    (ap (λ w. told w ++ lost_lines old.lost) empty)
    (ap (λ (b : Buffer WaitingLine). told b.items ++ lost_lines 0) c.in-None.ensures.items ∙ ap (λ w. told (drop 1 w) ++ lost_lines 0) empty)

pub returns-in-None-clause-some : goal.returns-in-None-clause-some
returns-in-None-clause-some c = alone_some c.lost_alone.result c.args.self.now.lost c.lost_alone.ensures.some
