use Rattle.std.proofs.Common.{[], ◌∙◌}
use Rattle.fax_spool.proofs.file.RecordFile.put.Goals as goal

pub returns-in_err-write-clause-crash : goal.returns-in_err-write-clause-crash
returns-in_err-write-clause-crash g c = λ rs s.
    c.write.ensures.crash rs [] c.args.item.now (c.as_slice.ensures.value ∙ c.in_ok-octets.ensures.octets) c.in_ok-octets.ensures.short s

pub returns-clause-crash : goal.returns-clause-crash
returns-clause-crash g c = λ rs s.
    c.write.ensures.crash rs [] c.args.item.now (c.as_slice.ensures.value ∙ c.in_ok-octets.ensures.octets) c.in_ok-octets.ensures.short s

pub returns-clause-acknowledged : goal.returns-clause-acknowledged
returns-clause-acknowledged g c = λ rs s.
    c.in_ok-write.ensures.acknowledged rs [] c.args.item.now (c.as_slice.ensures.value ∙ c.in_ok-octets.ensures.octets) c.in_ok-octets.ensures.short s
