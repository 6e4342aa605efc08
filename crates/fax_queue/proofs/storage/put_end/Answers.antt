use Rattle.std.proofs.Common.{◌∙◌, ap}
use Rattle.fax_queue.specs.Queues.{QueueValue}
use Rattle.fax_queue.proofs.Refusing.{ends_tried, job_is_ended, job_is_sure}
use Rattle.fax_queue.proofs.storage.put_end.Goals as goal

pub returns-in-Ok-clause-ends : goal.returns-in-Ok-clause-ends
returns-in-Ok-clause-ends g c =
    let taken = c.in_ok-ended.ensures.taken in
    job_is_ended _ _ _ c.args.report.pages c.args.queue.now c.take_job.new.queue c.args.spool.now c.put_ended.new.spool c.in_ok-ended.ended c.line.result.now
    (c.line.ensures ∙ taken.line_is) taken.line_is taken.names taken.gone taken.still c.in-Ok.ensures

pub returns-in-Ok-clause-sure : goal.returns-in-Ok-clause-sure
returns-in-Ok-clause-sure g c = job_is_sure _ _ _ c.args.queue.now c.args.spool.now c.put_ended.new.spool c.in_ok-ended.ended c.line.result.now c.in_ok-ended.ensures.taken.whole c.in-Ok.ensures

pub returns-in-Err-clause-action : goal.returns-in-Err-clause-action
returns-in-Err-clause-action g c =
    let taken = c.in_ok-ended.ensures.taken in
    ends_tried _ _ _ c.args.report.pages c.args.queue.now c.mark_unsure.new.self c.args.spool.now c.put_ended.new.spool c.in_ok-ended.ended c.line.result.now
    (c.line.ensures ∙ taken.line_is) (ap (λ (s : QueueValue). s.line) c.mark_unsure.ensures ∙ taken.line_is) taken.whole
    (ap (λ (s : QueueValue). s.is_whole) c.mark_unsure.ensures) taken.names c.in-Err.ensures
