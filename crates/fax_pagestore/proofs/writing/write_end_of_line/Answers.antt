use Rattle.std.proofs.lemmas.Result.{on_ok_weaker}
use Rattle.fax_pagestore.proofs.WritingLemmas.{end_written-Mh, end_written-Mr}
use Rattle.fax_pagestore.proofs.writing.write_end_of_line.Goals as goal

pub returns-in-Mh-clause-ok : goal.returns-in-Mh-clause-ok
returns-in-Mh-clause-ok c =
    on_ok_weaker c.put.result (λ e. end_written-Mh c.args.coding c.args.tag c.args.writer.now c.put.new.self c.in-Mh.is e) c.put.ensures.ok

pub returns-in-Mr-clause-ok : goal.returns-in-Mr-clause-ok
returns-in-Mr-clause-ok c =
    on_ok_weaker c.put-in-Mr.result
    (λ e. end_written-Mr c.args.coding c.args.tag c.from.result c.args.writer.now c.put-in-Mr.new.self c.in-Mr.is c.from.ensures e)
    c.put-in-Mr.ensures.ok
