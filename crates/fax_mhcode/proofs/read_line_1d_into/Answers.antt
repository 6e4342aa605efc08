use Rattle.std.proofs.Common.{◌≡◌, Bool, List, ◌++◌, Err, IsOk, OnOk, IfErr, inl}
use Rattle.std.proofs.lemmas.Result.{on_ok_weaker}
use Rattle.fax_bits.specs.Reading.{Passes}
use Rattle.fax_runcodes.specs.Rows.{Elements}
use Rattle.fax_runcodes.specs.Widths.{elements_of}
use Rattle.fax_mhcode.specs.declared.fault.LineFault.{LineFault}
use Rattle.fax_mhcode.specs.Lines.{SpellsLine}
use Rattle.fax_mhcode.specs.LineFaults.{FailsLine}
use Rattle.fax_mhcode.proofs.LineLaws.{few_elements}
use Rattle.fax_mhcode.proofs.FaultLaws.{reads_from, fails_from}
use Rattle.fax_mhcode.proofs.read_line_1d_into.Goals as goal
use Rattle.fax_mhcode.proofs.read_line_1d_into.Goals.{After-read_runs-result}

-- what was read, told of the reader and not of its copy
found : (c : After-read_runs-result) → OnOk c.read_runs-result.result ((text rest : List Bool) × SpellsLine (elements_of c.args.width) text c.read_runs-result.new.line × (c.args.reader.now.left ≡ text ++ rest))
found c =
    let clause = rw (c.elements.ensures, c.copy-ahead.ensures) at c.read_runs-result.ensures.ok in
    on_ok_weaker {P = (text : List Bool) × SpellsLine (elements_of c.args.width) text c.read_runs-result.new.line × Passes c.args.reader.now c.read_runs-result.new.reader text} c.read_runs-result.result (λ (text, line, passes). (text, c.read_runs-result.new.reader.left, line, passes.bits)) clause

failed : (c : After-read_runs-result) → IfErr c.read_runs-result.result (λ fault. FailsLine (elements_of c.args.width) c.args.reader.now.left fault)
failed c = rw (c.elements.ensures, c.copy-ahead.ensures) at c.read_runs-result.ensures.fault

reads : (c : After-read_runs-result) → (row : Elements) (text rest : List Bool) → SpellsLine (elements_of c.args.width) text row → c.args.reader.now.left ≡ text ++ rest → IsOk c.read_runs-result.result × (c.read_runs-result.new.line ≡ row)
reads c = reads_from (elements_of c.args.width) c.args.reader.now.left c.read_runs-result.result c.read_runs-result.new.line (few_elements c.args.width) (found c) (failed c)

fails : (c : After-read_runs-result) → (fault : LineFault) → FailsLine (elements_of c.args.width) c.args.reader.now.left fault → c.read_runs-result.result ≡ Err fault
fails c = fails_from (elements_of c.args.width) c.args.reader.now.left c.read_runs-result.result c.read_runs-result.new.line (few_elements c.args.width) (found c) (failed c)

pub returns-then-is_ok-clause-reads : goal.returns-then-is_ok-clause-reads
returns-then-is_ok-clause-reads c = λ row text rest line bits. inl (reads (goal.at.returns-then-is_ok-clause-reads c).After-read_runs-result row text rest line bits)

pub returns-then-is_ok-clause-fails : goal.returns-then-is_ok-clause-fails
returns-then-is_ok-clause-fails c = λ fault meets. inl (fails (goal.at.returns-then-is_ok-clause-fails c).After-read_runs-result fault meets)

pub returns-else-is_ok-clause-reads : goal.returns-else-is_ok-clause-reads
returns-else-is_ok-clause-reads c = λ row text rest line bits. (
    let read = reads (goal.at.returns-else-is_ok-clause-reads c).After-read_runs-result row text rest line bits in
    let ok : IsOk c.read_runs-result.result = read.0 in
    let same = c.is_ok.ensures.value in
    let refused = c.if-is_ok.false in
    cc)

pub returns-else-is_ok-clause-fails : goal.returns-else-is_ok-clause-fails
returns-else-is_ok-clause-fails c = λ fault meets. inl (fails (goal.at.returns-else-is_ok-clause-fails c).After-read_runs-result fault meets)
