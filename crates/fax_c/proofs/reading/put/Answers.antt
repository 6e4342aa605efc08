use Rattle.std.proofs.Common.{◌≡◌, ◌-◌, ◌∙◌, length, take, drop, length-drop, arith}
use Rattle.std.proofs.lemmas.List.{length-take-le}
use Rattle.std.proofs.lemmas.Slice.{drop-put_mid}
use Rattle.fax_c.proofs.reading.put.Goals as goal

pub returns-clause-after : goal.returns-clause-after
returns-clause-after g c =
    let from = c.args.from in
    let end = c.in_ok-end.end in
    let place = c.in_ok-end.ensures.1 in
    let part : length (take (end - from) (drop from c.args.slice.now)) ≡ end - from = length-take-le (end - from) (drop from c.args.slice.now) (omega (arith, length-drop from c.args.slice.now, c.if-end-slice.false)) in
    drop-put_mid from (end - from) c.args.slice.now c.copy_from_slice.new.self end (omega (arith, place)) (omega (arith, place, c.if-end-slice.false)) (c.copy_from_slice.ensures.len ∙ part)
