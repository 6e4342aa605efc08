use Rattle.std.proofs.Common.{◌≡◌, ◌++◌, rules, arith}
use Rattle.std.proofs.lemmas.Grind.{common_steps}
use Rattle.fax_capture.proofs.ReadingLemmas.{take_err, take_ok}
use Rattle.fax_capture.proofs.reading.take.Goals as goal

pub returns-clause-ok : goal.returns-clause-ok
returns-clause-ok c = λ read has.
    let joined : c.as_slice.result.now ≡ c.args.left.items ++ c.args.piece.now = first_of (search rules, grind (arith, common_steps)) in
    take_ok c.args.options.now read c.args.piece.now _ _ _ c.as_slice.result.now _ _ c.take_records.result (λ v. v.items) has joined c.take_records.ensures.ok c.take_records.ensures.few

pub returns-clause-err : goal.returns-clause-err
returns-clause-err c = λ read has.
    let joined : c.as_slice.result.now ≡ c.args.left.items ++ c.args.piece.now = first_of (search rules, grind (arith, common_steps)) in
    take_err c.args.options.now read c.args.piece.now _ _ _ c.as_slice.result.now c.take_records.result has joined c.take_records.ensures.err
