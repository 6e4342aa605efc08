use Rattle.std.proofs.Common.{List, ℕ, Vec, Global, map, ap, subst}
use Rattle.fax_spool.specs.SpoolRecords.{IsReadAs}
use Rattle.fax_spool.proofs.Loops.{next_read, last_read, none_more}
use Rattle.fax_spool.proofs.waiting.read_spool_records.Goals as goal

pub loop-octets-preserved : goal.loop-octets-preserved
loop-octets-preserved c =
    next_read _ _ (map (λ (v : Vec ℕ Global). v.items) c.in-Some.after.now) c.in-Some.octets.now.items c.loop-octets.records.items c.push.new.self.items c.read_spool_record.result
    (ap (λ (l : List (Vec ℕ Global)). map (λ (v : Vec ℕ Global). v.items) l) c.in-Some.ensures.cases.0)
    (subst (λ (l : List ℕ). IsReadAs l c.read_spool_record.result) c.as_slice.ensures.value c.read_spool_record.ensures)
    c.in_ok-push.ensures.items
    c.loop-octets.invariant

pub returns : goal.returns
returns c = last_read _ _ _ (ap (λ (l : List (Vec ℕ Global)). map (λ (v : Vec ℕ Global). v.items) l) (none_more c.loop-octets.rest.now c.in_default.ensures.cases)) c.loop-octets.invariant
