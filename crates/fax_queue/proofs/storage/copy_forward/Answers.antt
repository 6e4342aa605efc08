use Rattle.std.proofs.Common.{inl, refl}
use Rattle.fax_queue.proofs.Tidying.{no_tidy, so_on, tidy_again, tidy_ended, told_again}
use Rattle.fax_queue.proofs.storage.copy_forward.Goals as goal

pub returns-in_default-clause-told : goal.returns-in_default-clause-told
returns-in_default-clause-told g c = c.in_default.ensures.told

pub returns-in_default-clause-tidy : goal.returns-in_default-clause-tidy
returns-in_default-clause-tidy g c = λ waits was tidy accepts. c.in_default.ensures.failed tidy accepts

pub returns-then-not-was_put-clause-told : goal.returns-then-not-was_put-clause-told
returns-then-not-was_put-clause-told g c = λ waits was. inl (waits, c.in-Ok.ensures.stays waits was, refl)

pub returns-then-not-was_put-clause-tidy : goal.returns-then-not-was_put-clause-tidy
returns-then-not-was_put-clause-tidy g c = λ waits was tidy accepts. c.in-Ok.ensures.same c.if-not-was_put.true tidy

pub returns-in_default-clear_older-clause-told : goal.returns-in_default-clear_older-clause-told
returns-in_default-clear_older-clause-told g c = λ waits was. c.in_default-clear_older.ensures.told waits (c.in-Ok.ensures.stays waits was)

pub returns-in_default-clear_older-clause-tidy : goal.returns-in_default-clear_older-clause-tidy
returns-in_default-clear_older-clause-tidy g c = λ waits was tidy accepts.
    no_tidy _ _ _ c.clear_older.new.spool (c.in_default-clear_older.ensures.failed waits (c.in-Ok.ensures.stays waits was)) accepts

pub returns-clause-told : goal.returns-clause-told
returns-clause-told g c = λ waits was.
    let second = c.in-Ok-clear_older.ensures.stays waits (c.in-Ok.ensures.stays waits was) in
    let third = c.take_other-left.ensures.told waits second in
    let fourth = so_on _ _ _ waits c.take_other-left.new.spool c.put_again-2.new.spool third
    (told_again _ _ _ c.put_again-2.result c.take_other-left.new.spool c.put_again-2.new.spool c.put_again-2.ensures.stays c.put_again-2.ensures.told) (λ refuses. (c.put_again-2.ensures.refuses refuses).1) in
    so_on _ _ _ waits c.put_again-2.new.spool c.clear_older-2.new.spool fourth
    (told_again _ _ _ c.clear_older-2.result c.put_again-2.new.spool c.clear_older-2.new.spool c.clear_older-2.ensures.stays c.clear_older-2.ensures.told) (λ refuses. (c.clear_older-2.ensures.refuses refuses).1)

pub returns-clause-tidy : goal.returns-clause-tidy
returns-clause-tidy g c = λ waits was tidy accepts.
    let second = c.in-Ok-clear_older.ensures.stays waits (c.in-Ok.ensures.stays waits was) in
    let third = c.take_other-left.ensures.told waits second in
    let fourth = so_on _ _ _ waits c.take_other-left.new.spool c.put_again-2.new.spool third
    (told_again _ _ _ c.put_again-2.result c.take_other-left.new.spool c.put_again-2.new.spool c.put_again-2.ensures.stays c.put_again-2.ensures.told) (λ refuses. (c.put_again-2.ensures.refuses refuses).1) in
    tidy_ended _ _ _ _ c.put_again-2.new.spool c.clear_older-2.new.spool fourth
    (tidy_again _ _ _ c.clear_older-2.result c.put_again-2.new.spool c.clear_older-2.new.spool c.clear_older-2.ensures.tidy c.clear_older-2.ensures.failed)
    (λ refuses. (c.clear_older-2.ensures.refuses refuses).1) accepts
