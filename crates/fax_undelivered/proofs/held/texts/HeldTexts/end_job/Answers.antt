use Rattle.std.proofs.Common.{◌≡◌, ℕ, List, min, length, take, ◌∙◌, ap, sym}
use Rattle.fax_spool.specs.RecordOctets.{PageValue}
use Rattle.fax_undelivered.specs.StoredEnds.{card_for}
use Rattle.fax_undelivered.proofs.held.Ending.{first_texts, is_put}
use Rattle.fax_undelivered.proofs.held.texts.HeldTexts.end_job.Goals as goal

pub returns-clause-kept : goal.returns-clause-kept
returns-clause-kept g c = λ so.
    let report = c.args.end.now.report in
    let queue = c.args.queue.now in
    let texts = c.args.self.now in
    let inside : c.self.inside.pages.items ≡ texts = cc in
    let count : c.min-count.result ≡ min c.in-Some.ended.stored (length texts) = c.min-count.ensures ∙ ap (λ (n : ℕ). min c.in-Some.ended.stored n) (c.len.ensures ∙ sym c.deref.ensures.len ∙ ap (λ (l : List PageValue). length l) (c.deref.ensures.value ∙ inside)) in
    is_put _ _ _ report (card_for report c.args.end.now.cause.now c.args.end.now.day) queue texts c.args.undelivered.now c.keep_left-is_put.new.undelivered c.job_left-left.result _
    (ap (λ (l : List PageValue). take c.min-count.result l) (c.deref.ensures.value ∙ inside) ∙ first_texts report.pages c.min-count.result c.in-Some.ended.stored queue texts count c.in-Some.ensures.names.kept)
    c.job_left-left.ensures.some (c.keep_left-is_put.ensures.kept so)
