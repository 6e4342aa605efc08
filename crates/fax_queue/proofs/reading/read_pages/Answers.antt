use Rattle.std.proofs.Common.{List, refl, ◌∙◌, ap}
use Rattle.fax_spool.specs.RecordOctets.{EndedValue, PageValue}
use Rattle.fax_spool.specs.Waits.{ended_by}
use Rattle.fax_queue.proofs.reading.read_pages.Goals as goal

pub returns-in-Ok-clause-found : goal.returns-in-Ok-clause-found
returns-in-Ok-clause-found g c =
    let left = c.args.left.now in
    let report = c.args.report in
    let e : EndedValue = record { life = left.life; call = left.call; first = left.first; pages = left.pages; delivered = report.delivered; format = report.format; outcome = report.outcome; line = c.as_bytes.result.now } in
    record {
      ended = e;
      is_end = record { life = refl; call = refl; first = refl; pages = refl; line_is = c.as_bytes.ensures.value };
      found = λ clean waits was. c.in-Ok.ensures.found clean was.olds was.news was.kept ∙ ap (λ (l : List PageValue). ended_by e l) was.wait;
    }
