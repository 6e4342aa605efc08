use Rattle.std.proofs.Common.{◌+◌, ◌≤◌, length, arith}
use Rattle.fax_runcodes.proofs.PaintedLemmas.{rising_count}
use Rattle.fax_mhcode.proofs.WriteLemmas.{most_elements}
use Rattle.fax_mhcode.proofs.writing.write_lent_line_1d.Goals as goal

pub overflow_mul-changes : goal.overflow_mul-changes
overflow_mul-changes c =
    let few : 0 + length c.changes-changes.result.now ≤ length c.args.row.now = rising_count 0 c.changes-changes.result.now (length c.args.row.now) c.changes-changes.ensures.rising in
    let most : c.width-width.result ≤ 2432 = most_elements c.width-width.result c.width-width.ensures.is_width in
    omega (arith, few, most, c.width-width.ensures.len)
