use Rattle.std.proofs.Common.{List, ℕ, ◌++◌, length, inl, sym, ◌∙◌, ap, subst, arith, rules}
use Rattle.sqlite_disk.specs.Disk.{Torn, Only}
use Rattle.fax_spool.specs.Records.{body, blocks}
use Rattle.fax_spool.proofs.Steps.{first_left, first_written, second_left, second_written, settled_more}
use Rattle.fax_spool.proofs.file.RecordFile.write.Goals as goal

pub returns-in_err-write_at-clause-crash : goal.returns-in_err-write_at-clause-crash
returns-in_err-write_at-clause-crash g c = λ rs others r are short s f left. inl (first_left _ _ _ _ _ _ s _ _ c.write_at.ensures.crash f left)

pub returns-in_err-sync-clause-crash : goal.returns-in_err-sync-clause-crash
returns-in_err-sync-clause-crash g c = λ rs others r are short s f left. inl (first_left _ _ _ _ _ _ s _ _ c.write_at.ensures.crash f (c.sync.ensures.crash f left))

pub returns-in_err-write_at-2-clause-crash : goal.returns-in_err-write_at-2-clause-crash
returns-in_err-write_at-2-clause-crash g c = λ rs others r are short s f left.
    let there = first_written _ _ _ _ _ _ s (body r ++ blocks others) _ _ are c.write_at.ensures.others (c.in_ok-write_at.ensures.written (omega (arith, ap length are))) in
    second_left _ _ _ _ _ _ s others r there.0 _ there.1 short _ _ c.in_ok-sync.ensures.durable c.write_at-2.ensures.crash f left

pub returns-in_err-sync-2-clause-crash : goal.returns-in_err-sync-2-clause-crash
returns-in_err-sync-2-clause-crash g c = λ rs others r are short s f left.
    let there = first_written _ _ _ _ _ _ s (body r ++ blocks others) _ _ are c.write_at.ensures.others (c.in_ok-write_at.ensures.written (omega (arith, ap length are))) in
    second_left _ _ _ _ _ _ s others r there.0 _ there.1 short _ _ c.in_ok-sync.ensures.durable c.write_at-2.ensures.crash f (c.sync-2.ensures.crash f left)

pub returns-clause-crash : goal.returns-clause-crash
returns-clause-crash g c = λ rs others r are short s f left.
    let there = first_written _ _ _ _ _ _ s (body r ++ blocks others) _ _ are c.write_at.ensures.others (c.in_ok-write_at.ensures.written (omega (arith, ap length are))) in
    second_left _ _ _ _ _ _ s others r there.0 _ there.1 short _ _ c.in_ok-sync.ensures.durable c.write_at-2.ensures.crash f (c.sync-2.ensures.crash f left)

pub returns-clause-acknowledged : goal.returns-clause-acknowledged
returns-clause-acknowledged g c = λ rs others r are short s.
    let there = first_written _ _ _ _ _ _ s (body r ++ blocks others) _ _ are c.write_at.ensures.others (c.in_ok-write_at.ensures.written (omega (arith, ap length are))) in
    let torn = subst (λ (l : List ℕ). Torn c.args.self.now.end 3 l (g.D.Disk.seen c.write_at-2.new.self)) c.sync.ensures.seen c.write_at-2.ensures.others in
    let is = second_written _ _ _ _ _ _ s others r there.0 _ there.1 short _ torn (c.in_ok-write_at-2.ensures.written (omega arith)) in
    settled_more _ _ _ _ _ _ s others r there.0 _ there.1 short _ c.sync-2.new.self are
    (c.sync-2.ensures.seen ∙ is)
    (subst (λ (l : List ℕ). Only l (g.D.Disk.may_leave c.sync-2.new.self)) (sym c.sync-2.ensures.seen) c.in_ok-sync-2.ensures.durable)
    (search (rules, c.in_ok-sync-2.ensures.usable))
