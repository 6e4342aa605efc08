use Rattle.std.proofs.Common.{ap, ◌∙◌, Ok}
use Rattle.std.proofs.lemmas.Result.{err_from_is_err_and}
use Rattle.fax_runcodes.specs.Widths.{elements_of}
use Rattle.fax_pagestore.specs.PageFaults.{LineBegins, row_before}
use Rattle.fax_pagestore.specs.declared.reading.Ahead.{Ahead}
use Rattle.fax_pagestore.proofs.PageReading.{row_is_bad, row_runs_out, row_goes_on}
use Rattle.fax_pagestore.proofs.reading.read_row.Goals as goal

pub returns-then-not-read_line-clause-fault : goal.returns-then-not-read_line-clause-fault
returns-then-not-read_line-clause-fault c =
    λ rows size k wants. row_is_bad c.args.coding (elements_of c.args.width) c.args.tag (row_before c.args.n c.args.kept.now) rows c.args.reader.now.left c.args.n
    (c.read_line.ensures.fails c.if-not-read_line.true) size k wants

pub returns-in_err-next-clause-fault : goal.returns-in_err-next-clause-fault
returns-in_err-next-clause-fault c =
    let p = err_from_is_err_and c.from_residual.result c.from_residual.ensures.1 in
    rw (p.1, p.2) (λ rows size k wants. row_runs_out c.args.coding (elements_of c.args.width) c.args.tag (row_before c.args.n c.args.kept.now) c.args.reader.now c.read_line.new.reader rows c.read_line.new.line
    c.in_err-next.field-0.0 (c.read_line.ensures.read c.if-not-read_line.false) c.in_err-next.ensures.fault k wants)

pub returns-in-Line-clause-fault : goal.returns-in-Line-clause-fault
returns-in-Line-clause-fault c =
    let begins : LineBegins c.read_line.new.reader.left = c.pass_separator.ensures.line (c.in_ok-next.was ∙ ap (λ (ahead : Ahead). Ok ahead) c.in-Line.is) in
    λ rows size k wants. row_goes_on c.args.coding (elements_of c.args.width) c.args.tag (row_before c.args.n c.args.kept.now) c.args.reader.now c.read_line.new.reader rows c.read_line.new.line
    c.args.n (c.read_line.ensures.read c.if-not-read_line.false) begins size k wants
