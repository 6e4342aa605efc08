use Rattle.std.proofs.Common.{◌<◌, ℕ, ◌++◌, take, ◌∙◌}
use Rattle.std.proofs.lemmas.List.Elements.{All-append}
use Rattle.fax_command.proofs.PictureLemmas.{AreRowsOctets-push}
use Rattle.fax_command.proofs.PutLemmas.{Puts-then}
use Rattle.fax_command.proofs.TellLemmas.{take_more_at}
use Rattle.fax_command.proofs.putting.put_pixels.Goals as goal

pub loop-i-preserved : goal.loop-i-preserved
loop-i-preserved g c =
    let so_far = c.loop-i.invariant in
    let rows = g.S.RowStore.rows c.args.rows.now in
    let i = c.loop-i.i in
    let row = c.lend.result in
    let (more, padded, are, put) = c.in_ok-put_row.ensures.text in
    record {
      octets = so_far.octets ++ more;
      of_rows = rw (take_more_at rows i row c.lend.ensures) (AreRowsOctets-push so_far.octets (take i rows) more row so_far.of_rows padded);
      are_octets = All-append (λ (o : ℕ). o < 256) so_far.octets more so_far.are_octets are;
      put = Puts-then _ _ _ _ _ _ _ _ so_far.put put;
      failed = c.in_ok-put_row.ensures.failed ∙ so_far.failed;
    }
