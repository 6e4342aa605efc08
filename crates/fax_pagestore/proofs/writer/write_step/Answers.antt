use Rattle.fax_pagestore.proofs.WriterLemmas.{front_longer, ends_longer}
use Rattle.fax_pagestore.proofs.writer.write_step.Goals as goal

pub returns-in_ok-write_end_of_line-in-Front-clause-more : goal.returns-in_ok-write_end_of_line-in-Front-clause-more
returns-in_ok-write_end_of_line-in-Front-clause-more g c = λ _.
    front_longer c.args.coding _ c.args.writer.now c.write_end_of_line.new.writer c.in_ok-write_end_of_line-in-Front.ensures.ok

pub returns-in_ok-write_ends_of_line-in-Row-clause-more : goal.returns-in_ok-write_ends_of_line-in-Row-clause-more
returns-in_ok-write_ends_of_line-in-Row-clause-more g c = λ _.
    ends_longer c.args.coding c.args.writer.now c.write_ends_of_line.new.writer c.in_ok-write_ends_of_line-in-Row.ensures.ok
