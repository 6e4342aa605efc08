use Rattle.std.proofs.Common.{◌∷◌, [], ◌++◌, take, ◌∙◌}
use Rattle.fax_command.proofs.PutLemmas.{Puts-then, Puts-same}
use Rattle.fax_command.proofs.TellLemmas.{TellRows-push, text_of_lines-push, take_more_at}
use Rattle.fax_command.proofs.putting.put_lines.Goals as goal

pub loop-i-preserved : goal.loop-i-preserved
loop-i-preserved g c =
    let so_far = c.loop-i.invariant in
    let rows = g.S.RowStore.rows c.args.rows.now in
    let i = c.loop-i.i in
    let row = c.lend.result in
    let (line, tells, put) = c.in_ok-put_line.ensures.text in
    record {
      lines = so_far.lines ++ line ∷ [];
      tell = rw (take_more_at rows i row c.lend.ensures) (TellRows-push so_far.lines (take i rows) line row so_far.tell tells);
      put = Puts-same _ _ _ _ _ _ (Puts-then _ _ _ _ _ _ _ _ so_far.put put) (text_of_lines-push so_far.lines line);
      failed = c.in_ok-put_line.ensures.failed ∙ so_far.failed;
    }
