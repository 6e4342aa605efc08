use Rattle.std.proofs.Common.{◌≡◌, ◌∙◌, ◌∷◌, ◌++◌, [], Bool, List, sym, ap, subst, map, append-nil, if◌then◌else◌}
use Rattle.fax_spool.specs.RecordOctets as spool
use Rattle.fax_gateway.specs.Restored.{call_shown}
use Rattle.fax_queue.specs.declared.restored.RestoredLine.{RestoredLine}
use Rattle.fax_queue.specs.declared.queue.QueuedPage.{QueuedPage}
use Rattle.fax_queue.specs.Queues.{AreInOrder, QueueValue}
use Rattle.fax_queue.specs.Restorations.{ReadPage, begins, onto_last, own_tag, waiting_of}
use Rattle.fax_queue.proofs.Calls.{in_more, with_begun}
use Rattle.fax_queue.proofs.restored.RestoredLine.add.Goals as goal
use Rattle.fax_queue.proofs.restored.RestoredLine.add.Goals.{then-begins_call+in_ok-begin_call, else-begins_call}

pub returns-clause-more : goal.returns-clause-more
returns-clause-more c = λ name read are.
    let page = c.args.waits.now in
    let r : ReadPage = record { waits = page; page = c.args.page } in
    let view = c.waits-2.view_is in
    let inside = c.waits-2.inside in
    let old = c.args.self.now in
    let between = c.if-begins_call.self in
    let begun_is : map call_shown between.calls.items ≡ with_begun c.begins_call.result page (map call_shown old.calls.items) =
    elim c.if-begins_call.branch [
      | then-begins_call+in_ok-begin_call w ↦
          subst (λ (t : Bool). map call_shown between.calls.items ≡ with_begun t page (map call_shown old.calls.items)) (sym w.if-begins_call.true)
          (ap (λ (s : RestoredLine). map call_shown s.calls.items) w.self-is ∙ w.in_ok-begin_call.ensures.calls)
      | else-begins_call w ↦
          subst (λ (t : Bool). map call_shown between.calls.items ≡ with_begun t page (map call_shown old.calls.items)) (sym w.if-begins_call.false) (ap (λ (s : RestoredLine). map call_shown s.calls.items) w.self-is)
    ] in
    let waits_are : between.queue.waits ≡ old.queue.waits =
    elim c.if-begins_call.branch [
      | then-begins_call+in_ok-begin_call w ↦ ap (λ (s : RestoredLine). s.queue.waits) w.self-is ∙ ap (λ (s : QueueValue). s.waits) w.in_ok-begin_call.ensures.queue
      | else-begins_call w ↦ ap (λ (s : RestoredLine). s.queue.waits) w.self-is
    ] in
    let line_is : between.queue.line ≡ old.queue.line =
    elim c.if-begins_call.branch [
      | then-begins_call+in_ok-begin_call w ↦ ap (λ (s : RestoredLine). s.queue.line) w.self-is ∙ ap (λ (s : QueueValue). s.line) w.in_ok-begin_call.ensures.queue
      | else-begins_call w ↦ ap (λ (s : RestoredLine). s.queue.line) w.self-is
    ] in
    let tags_are : between.queue.tags ≡ old.queue.tags ++ (if c.begins_call.result then own_tag page else []) =
    elim c.if-begins_call.branch [
      | then-begins_call+in_ok-begin_call w ↦
          subst (λ (t : Bool). between.queue.tags ≡ old.queue.tags ++ (if t then own_tag page else [])) (sym w.if-begins_call.true)
          (ap (λ (s : RestoredLine). s.queue.tags) w.self-is ∙ w.in_ok-begin_call.ensures.tags)
      | else-begins_call w ↦
          subst (λ (t : Bool). between.queue.tags ≡ old.queue.tags ++ (if t then own_tag page else [])) (sym w.if-begins_call.false)
          (ap (λ (s : RestoredLine). s.queue.tags) w.self-is ∙ sym (append-nil old.queue.tags))
    ] in
    let whole_is : between.queue.is_whole ≡ old.queue.is_whole =
    elim c.if-begins_call.branch [
      | then-begins_call+in_ok-begin_call w ↦ ap (λ (s : RestoredLine). s.queue.is_whole) w.self-is ∙ ap (λ (s : QueueValue). s.is_whole) w.in_ok-begin_call.ensures.queue
      | else-begins_call w ↦ ap (λ (s : RestoredLine). s.queue.is_whole) w.self-is
    ] in
    let seen : spool.PageValue = record { life = inside.life; call = inside.call; number = inside.number; format = inside.format; closes = inside.closes; line = inside.line.items; tag = inside.tag.items; text = inside.text.items } in
    let more_are : between.queue.waits ++ waiting_of (record { waits = seen; page = c.args.page }) ∷ [] ≡ old.queue.waits ++ waiting_of r ∷ [] =
    ap (λ (l : List QueuedPage). l ++ waiting_of (record { waits = seen; page = c.args.page }) ∷ []) waits_are ∙ ap (λ (p : spool.PageValue). old.queue.waits ++ waiting_of (record { waits = p; page = c.args.page }) ∷ []) view in
    in_more name read r old (record { calls = c.confirm.new.calls; queue = c.push.new.self }) c.begins_call.result (map call_shown between.calls.items)
    (c.begins_call.ensures ∙ ap (λ (l : List QueuedPage). begins l page) c.waits.ensures) begun_is
    (c.in_ok-confirm.ensures ∙ ap (λ (p : spool.PageValue). onto_last (record { page = c.args.page; closes = p.closes }) (map call_shown between.calls.items)) view)
    (c.in_ok-push.ensures.waits ∙ more_are)
    (c.in_ok-push.ensures.line ∙ line_is) (c.in_ok-push.ensures.tags ∙ tags_are)
    (λ whole order. c.in_ok-push.ensures.stays (whole_is ∙ whole) (subst (λ (l : List QueuedPage). AreInOrder l) (sym more_are) order)) are

pub returns-clause-aside : goal.returns-clause-aside
returns-clause-aside c =
    let same : c.if-begins_call.self.queue.aside ≡ c.args.self.now.queue.aside =
    elim c.if-begins_call.branch [
      | then-begins_call+in_ok-begin_call w ↦ ap (λ (s : RestoredLine). s.queue.aside) w.self-is ∙ ap (λ (s : QueueValue). s.aside) w.in_ok-begin_call.ensures.queue
      | else-begins_call w ↦ ap (λ (s : RestoredLine). s.queue.aside) w.self-is
    ] in
    c.in_ok-push.ensures.aside ∙ same
