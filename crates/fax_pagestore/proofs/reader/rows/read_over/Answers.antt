use Rattle.std.proofs.Common.{◌≡◌, Bool, List, length, IfErr, Result, Err, true, sym, subst}
use Rattle.fax_runcodes.specs.Rows.{Elements}
use Rattle.fax_runcodes.specs.Widths.{elements_of}
use Rattle.fax_pagestore.specs.declared.fault.PageFault.{PageFault}
use Rattle.fax_pagestore.specs.PageFaults.{Stops, WantsLine}
use Rattle.fax_pagestore.proofs.reader.rows.read_over.Goals as goal

pub returns-then-tag-clause-fault : goal.returns-then-tag-clause-fault
returns-then-tag-clause-fault c = λ fault e rows size knows wants.
    let is : c.read_row_alone.result ≡ Err fault = cc in
    let stops : Stops c.args.coding (elements_of c.args.width) rows 0 true c.args.reader.now.left fault =
    subst
    (λ (r : Result Bool PageFault). IfErr r (λ f. (rs : List Elements) → length rs ≡ c.args.n → WantsLine rs 0 c.args.reader.now.left
    → Stops c.args.coding (elements_of c.args.width) rs 0 true c.args.reader.now.left f)) is c.read_row_alone.ensures.fault rows size wants in
    subst (λ (t : Bool). Stops c.args.coding (elements_of c.args.width) rows 0 t c.args.reader.now.left fault) (sym c.if-tag.true) stops
