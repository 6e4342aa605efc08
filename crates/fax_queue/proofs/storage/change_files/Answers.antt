use Rattle.std.proofs.Common.{inl, refl}
use Rattle.fax_queue.proofs.Tidying.{no_tidy}
use Rattle.fax_queue.proofs.storage.change_files.Goals as goal

pub returns-in_default-clause-tidy : goal.returns-in_default-clause-tidy
returns-in_default-clause-tidy g c = λ waits was accepts. no_tidy _ _ _ c.clear_older.new.spool (c.in_default.ensures.failed waits was) accepts

pub returns-then-octets-lt-MOST_OCTETS-clause-told : goal.returns-then-octets-lt-MOST_OCTETS-clause-told
returns-then-octets-lt-MOST_OCTETS-clause-told g c = λ waits was. inl (waits, c.in-Ok.ensures.stays waits was, refl)

pub returns-then-octets-lt-MOST_OCTETS-clause-tidy : goal.returns-then-octets-lt-MOST_OCTETS-clause-tidy
returns-then-octets-lt-MOST_OCTETS-clause-tidy g c = λ waits was accepts. c.in-Ok.ensures.tidy waits was

pub returns-then-is_empty-clause-told : goal.returns-then-is_empty-clause-told
returns-then-is_empty-clause-told g c = λ waits was. c.take_other.ensures.told waits (c.in-Ok.ensures.stays waits was)

pub returns-then-is_empty-clause-tidy : goal.returns-then-is_empty-clause-tidy
returns-then-is_empty-clause-tidy g c = λ waits was accepts. c.take_other.ensures.tidy waits (c.in-Ok.ensures.stays waits was) (c.in-Ok.ensures.tidy waits was) accepts

pub returns-clause-told : goal.returns-clause-told
returns-clause-told g c = λ waits was. c.copy_forward.ensures.told waits (c.in-Ok.ensures.stays waits was)

pub returns-clause-tidy : goal.returns-clause-tidy
returns-clause-tidy g c = λ waits was accepts. c.copy_forward.ensures.tidy waits (c.in-Ok.ensures.stays waits was) (c.in-Ok.ensures.tidy waits was) accepts
