use Rattle.std.proofs.Common.{◌++◌, ◌∷◌, [], arith}
use Rattle.std.proofs.lemmas.Result.{err_from_is_err_and}
use Rattle.fax_ifp.specs.Seen.{text_of}
use Rattle.fax_ifp.proofs.FieldsLemmas.{read_none, read_one, read_fault, read_all}
use Rattle.fax_ifp.proofs.packet.check_fields.Goals as goal

pub loop-init : goal.loop-init
loop-init c = ([], read_none c.args.count c.args.octets.now)

pub returns-in_err-after-clause-fault : goal.returns-in_err-after-clause-fault
returns-in_err-after-clause-fault c =
    let p = err_from_is_err_and c.from_residual.result c.from_residual.ensures.1 in
    rw (p.1, p.2)
    (read_fault c.args.count c.loop.counter c.args.octets.now c.loop.invariant.0 c.loop.place.half c.loop.place.octets.now c.in_err-after.field-0.0 (omega arith)
    c.in_err-after.ensures c.loop.invariant.1)

pub loop-preserved : goal.loop-preserved
loop-preserved c = (
  c.loop.invariant.0 ++ text_of c.in_ok-after.field-0-0 ∷ [],
  read_one c.args.count c.loop.counter c.args.octets.now c.loop.invariant.0 c.loop.place.half c.loop.place.octets.now
      (record { text = text_of c.in_ok-after.field-0-0; half = c.in_ok-after.after.half; octets = c.in_ok-after.after.octets.now }) (omega arith)
      c.in_ok-after.ensures c.loop.invariant.1,
)

pub returns-clause-good : goal.returns-clause-good
returns-clause-good c = (
  c.loop.invariant.0,
  read_all c.args.count c.loop.counter c.args.octets.now c.loop.invariant.0 c.loop.place.half c.loop.place.octets.now (omega arith) c.loop.invariant.1,
)
