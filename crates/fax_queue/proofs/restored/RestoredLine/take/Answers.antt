use Rattle.std.proofs.Common.{◌≡◌, ◌∙◌, ◌∷◌, ◌++◌, [], OnOk, ap, inl, inr, refl, subst, sym}
use Rattle.fax_spool.specs.RecordOctets as spool
use Rattle.fax_queue.specs.Restorations.{MeansNone, aside_of}
use Rattle.fax_queue.specs.Queues.{QueueValue}
use Rattle.fax_queue.proofs.Calls.{put_aside, taken}
use Rattle.fax_queue.proofs.restored.RestoredLine.take.Goals as goal

pub returns-in-Ok : goal.returns-in-Ok
returns-in-Ok c = taken c.add.result c.args.line.now c.args.waits.now c.in-Ok.page c.args.self.now c.add.new.self (sym c.is_of_line.ensures ∙ c.if-not-is_of_line.false) c.in-Ok.ensures.page c.add.ensures.more c.add.ensures.aside

pub returns-in_default : goal.returns-in_default
returns-in_default c =
    let none : MeansNone c.args.waits.now = λ page means. elim (c.in-Err.ensures.reads page means) [ inl other ↦ cc | inr same ↦ c.in_default.not-NoMemory (cc) ] in
    put_aside c.set_aside.result c.args.line.now c.args.waits.now c.args.self.now (record { calls = c.args.self.now.calls; queue = c.set_aside.new.self }) (sym c.is_of_line.ensures ∙ c.if-not-is_of_line.false) none refl (ap (λ (s : QueueValue). s.line) c.set_aside.ensures.same) (ap (λ (s : QueueValue). s.waits) c.set_aside.ensures.same) (ap (λ (s : QueueValue). s.is_whole) c.set_aside.ensures.same) (ap (λ (s : QueueValue). s.tags) c.set_aside.ensures.same)
    (subst (λ (p : spool.PageValue). OnOk c.set_aside.result (c.set_aside.new.self.aside ≡ c.args.self.now.queue.aside ++ aside_of p ∷ [])) c.waits.view_is c.set_aside.ensures.aside)
