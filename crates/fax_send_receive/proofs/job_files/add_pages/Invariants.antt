use Rattle.std.proofs.Common.{◌≡◌, ◌++◌, length}
use Rattle.std.specs.Vec.Iter.{into_iter_items, into_iter_len}
use Rattle.fax_send_receive.specs.Runs.{IsBegun, pages_of}
use Rattle.fax_send_receive.proofs.job_files.add_pages.Given as goal

-- the pages of the job so far, and those that are left
abbrev pub invariant-loop-page : goal.invariant-loop-page
invariant-loop-page l = record {
  begun : IsBegun l.longer;
  joined : pages_of l.longer ++ into_iter_items l.page-iterator ≡ pages_of l.fn.job ++ l.fn.pages.items;
  counted : into_iter_len l.page-iterator ≡ length (into_iter_items l.page-iterator);
}
