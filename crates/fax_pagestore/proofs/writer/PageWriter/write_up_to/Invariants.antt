use Rattle.std.proofs.Common.{◌≡◌, ◌≢◌, ◌-◌, [], length}
use Rattle.fax_pagestore.specs.declared.writer.Place.TheVariants.{End}
use Rattle.fax_pagestore.specs.Writers.{WritesOn}
use Rattle.fax_pagestore.proofs.writer.PageWriter.write_up_to.Given as goal

abbrev pub invariant-loop-self : goal.invariant-loop-self
invariant-loop-self g l = record {
  on : WritesOn l.self.coding l.self.least l.page l.self.place l.place l.initial.writer l.writer;
  more : (l.self.place ≡ End → l.initial.writer ≢ []) → l.place ≡ End → l.writer ≢ [];
}

abbrev pub decreases-loop-self : goal.decreases-loop-self
decreases-loop-self g l = l.wanted - length l.writer
