use Rattle.std.proofs.Common.{[], subst, sym}
use Rattle.fax_runcodes.specs.Widths.{elements_of}
use Rattle.fax_pagestore.specs.Fill.{less_fill}
use Rattle.fax_pagestore.specs.Readers.{HasRead}
use Rattle.fax_pagestore.proofs.FillLemmas.{less_fill-none, zeros_after-none}
use Rattle.fax_pagestore.proofs.LinePages.{AreReadAs-same}
use Rattle.fax_pagestore.proofs.ReaderLemmas.{new_is, nothing_read}
use Rattle.fax_pagestore.proofs.reader.PageReader.new.Goals as goal

pub returns-clause-value : goal.returns-clause-value
returns-clause-value g c = new_is c.args.format c.args.coding (g.S.RowStore.rows c.empty.result) c.new.result.items c.empty.ensures c.new.ensures.items

pub returns-clause-read : goal.returns-clause-read
returns-clause-read g c =
    subst (HasRead []) (sym (new_is c.args.format c.args.coding (g.S.RowStore.rows c.empty.result) c.new.result.items c.empty.ensures c.new.ensures.items)) (record {
      others = [];
      read_as = AreReadAs-same c.args.coding (elements_of c.args.format.width) (less_fill 0 []) [] (less_fill-none 0);
      after = nothing_read c.args.format c.args.coding;
      zeros = λ not_yet. sym (zeros_after-none 0);
    })
