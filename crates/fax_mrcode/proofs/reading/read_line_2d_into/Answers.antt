use Rattle.std.proofs.Common.{◌≡◌, ◌≤◌, Bool, List, ◌++◌, Err, IsOk, OnOk, IfErr, inl, sym, ◌∙◌, ap, arith, length}
use Rattle.std.proofs.lemmas.Result.{on_ok_weaker}
use Rattle.fax_bits.specs.Reading.{Passes}
use Rattle.fax_runcodes.specs.Rows.{Elements}
use Rattle.fax_runcodes.specs.declared.Colour.TheVariants.{White}
use Rattle.fax_runcodes.specs.Painted.{painted}
use Rattle.fax_mhcode.specs.declared.fault.LineFault.{LineFault}
use Rattle.fax_mrcode.specs.Lines.{SpellsLine}
use Rattle.fax_mrcode.specs.LineFaults.{FailsLine}
use Rattle.fax_mrcode.proofs.FaultLaws.{reads_from, fails_from, IsWidth-few}
use Rattle.fax_mrcode.proofs.reading.read_line_2d_into.Goals as goal
use Rattle.fax_mrcode.proofs.reading.read_line_2d_into.Goals.{After-read_steps-result}

-- the changing places are those of the reference
same : (c : After-read_steps-result) → painted White 0 c.changes.result.now c.width.result ≡ c.args.reference.now
same c = ap (painted White 0 c.changes.result.now) c.width.ensures.len ∙ sym c.changes.ensures.painted

few : (c : After-read_steps-result) → length c.args.reference.now ≤ 2432
few c = omega (arith, IsWidth-few c.width.result c.width.ensures.is_width, c.width.ensures.len)

-- what was read, told of the reader and not of its copy
found : (c : After-read_steps-result) → OnOk c.read_steps-result.result ((text rest : List Bool) × SpellsLine c.args.reference.now text c.read_steps-result.new.line × (c.args.reader.now.left ≡ text ++ rest))
found c =
    let clause = rw (same c, c.copy-ahead.ensures) at c.read_steps-result.ensures.ok in
    on_ok_weaker {P = (text : List Bool) × SpellsLine c.args.reference.now text c.read_steps-result.new.line × Passes c.args.reader.now c.read_steps-result.new.reader text} c.read_steps-result.result (λ (text, line, passes). (text, c.read_steps-result.new.reader.left, line, passes.bits)) clause

failed : (c : After-read_steps-result) → IfErr c.read_steps-result.result (λ fault. FailsLine c.args.reference.now c.args.reader.now.left fault)
failed c = rw (same c, c.copy-ahead.ensures) at c.read_steps-result.ensures.fault

reads : (c : After-read_steps-result) → (row : Elements) (text rest : List Bool) → SpellsLine c.args.reference.now text row → c.args.reader.now.left ≡ text ++ rest → IsOk c.read_steps-result.result × (c.read_steps-result.new.line ≡ row)
reads c = reads_from c.args.reference.now c.args.reader.now.left c.read_steps-result.result c.read_steps-result.new.line (few c) (found c) (failed c)

fails : (c : After-read_steps-result) → (fault : LineFault) → FailsLine c.args.reference.now c.args.reader.now.left fault → c.read_steps-result.result ≡ Err fault
fails c = fails_from c.args.reference.now c.args.reader.now.left c.read_steps-result.result c.read_steps-result.new.line (few c) (found c) (failed c)

pub returns-then-is_ok-clause-reads : goal.returns-then-is_ok-clause-reads
returns-then-is_ok-clause-reads c = λ row text rest line bits. inl (reads (goal.at.returns-then-is_ok-clause-reads c).After-read_steps-result row text rest line bits)

pub returns-then-is_ok-clause-fails : goal.returns-then-is_ok-clause-fails
returns-then-is_ok-clause-fails c = λ fault meets. inl (fails (goal.at.returns-then-is_ok-clause-fails c).After-read_steps-result fault meets)

pub returns-else-is_ok-clause-reads : goal.returns-else-is_ok-clause-reads
returns-else-is_ok-clause-reads c = λ row text rest line bits. (
    let read = reads (goal.at.returns-else-is_ok-clause-reads c).After-read_steps-result row text rest line bits in
    let ok : IsOk c.read_steps-result.result = read.0 in
    let value = c.is_ok.ensures.value in
    let refused = c.if-is_ok.false in
    cc)

pub returns-else-is_ok-clause-fails : goal.returns-else-is_ok-clause-fails
returns-else-is_ok-clause-fails c = λ fault meets. inl (fails (goal.at.returns-else-is_ok-clause-fails c).After-read_steps-result fault meets)
