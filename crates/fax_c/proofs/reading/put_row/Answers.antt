use Rattle.std.proofs.Common.{◌≡◌, ℕ, List, ◌+◌, ◌-◌, length, take, drop, sym, ◌∙◌, arith}
use Rattle.std.proofs.lemmas.Slice.{take-put_mid, drop-put_mid}
use Rattle.fax_c.proofs.RunsLemmas.{put_whole, part_length}
use Rattle.fax_c.proofs.reading.put_row.Goals as goal

pub returns-clause-runs : goal.returns-clause-runs
returns-clause-runs c =
    let from = c.args.from in
    let runs = c.args.runs.now in
    let new = c.put_runs.new.runs in
    let part : List ℕ = take (from + c.args.count - from) (drop from runs) in
    let (list, are, size) = c.requires.counted in
    let long : length part ≡ c.args.count = part_length runs from c.args.count c.requires.room in (
      new,
      put_whole c.put_runs.result part new list c.args.row.now c.requires.some are (size ∙ sym long) c.put_runs.ensures.same_room c.put_runs.ensures.some c.put_runs.ensures.none,
      take-put_mid from (from + c.args.count - from) runs new (from + c.args.count) (omega (arith, c.put_runs.ensures.same_room, long)) (omega (arith, c.requires.room)),
    )

pub returns-clause-after : goal.returns-clause-after
returns-clause-after c =
    let from = c.args.from in
    let runs = c.args.runs.now in
    let long : length (take (from + c.args.count - from) (drop from runs)) ≡ c.args.count = part_length runs from c.args.count c.requires.room in
    drop-put_mid from (from + c.args.count - from) runs c.put_runs.new.runs (from + c.args.count) (omega arith) (omega (arith, c.requires.room)) (omega (arith, c.put_runs.ensures.same_room, long))
