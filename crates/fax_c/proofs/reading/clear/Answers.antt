use Rattle.std.proofs.Common.{◌≡◌, ◌-◌, length, drop, ◌∙◌, arith, length-drop}
use Rattle.std.proofs.lemmas.List.{length-take-le}
use Rattle.std.proofs.lemmas.Slice.{drop-put_mid}
use Rattle.fax_c.proofs.reading.clear.Goals as goal

pub returns-clause-after : goal.returns-clause-after
returns-clause-after c =
    let part = length-take-le (c.args.end - c.args.from) (drop c.args.from c.args.octets.now) (omega (arith, c.requires.within, length-drop c.args.from c.args.octets.now)) in
    let size : length c.fill.new.self ≡ c.args.end - c.args.from = c.fill.ensures.len ∙ part in
    drop-put_mid c.args.from (c.args.end - c.args.from) c.args.octets.now c.fill.new.self c.args.end (omega (arith, c.requires.order)) (omega (arith, c.requires.order, c.requires.within)) size
