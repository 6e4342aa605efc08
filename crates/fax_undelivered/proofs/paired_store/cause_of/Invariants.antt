use Rattle.std.proofs.Common.{◌≡◌, drop}
use Rattle.fax_undelivered.specs.StoredEnds.{cause_of}
use Rattle.fax_undelivered.proofs.paired_store.cause_of.Given as goal

-- the cause is among those still to come, where the line has one
abbrev pub invariant-loop-it : goal.invariant-loop-it
invariant-loop-it l = cause_of (drop l.it-index l.causes) l.i ≡ cause_of l.causes l.i
