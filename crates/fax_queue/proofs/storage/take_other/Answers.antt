use Rattle.std.proofs.Common.{inl, refl}
use Rattle.fax_queue.proofs.Tidying.{tidy_again, told_again}
use Rattle.fax_queue.proofs.storage.take_other.Goals as goal

pub returns-in_default-clause-told : goal.returns-in_default-clause-told
returns-in_default-clause-told g c = c.in_default.ensures.told

pub returns-in_default-clause-tidy : goal.returns-in_default-clause-tidy
returns-in_default-clause-tidy g c = λ waits was tidy accepts. c.in_default.ensures.failed tidy accepts

pub returns-then-not-was_changed-clause-told : goal.returns-then-not-was_changed-clause-told
returns-then-not-was_changed-clause-told g c = λ waits was. inl (waits, c.in-Ok.ensures.stays waits was, refl)

pub returns-then-not-was_changed-clause-tidy : goal.returns-then-not-was_changed-clause-tidy
returns-then-not-was_changed-clause-tidy g c = λ waits was tidy accepts. c.in-Ok.ensures.same c.if-not-was_changed.true tidy

pub returns-clause-told : goal.returns-clause-told
returns-clause-told g c = λ waits was.
    told_again _ _ _ c.clear_older.result c.change.new.spool c.clear_older.new.spool c.clear_older.ensures.stays c.clear_older.ensures.told waits (c.in-Ok.ensures.stays waits was)

pub returns-clause-tidy : goal.returns-clause-tidy
returns-clause-tidy g c = λ waits was before accepts.
    tidy_again _ _ _ c.clear_older.result c.change.new.spool c.clear_older.new.spool c.clear_older.ensures.tidy c.clear_older.ensures.failed waits (c.in-Ok.ensures.stays waits was) accepts
