use Rattle.std.proofs.Common.{◌≡◌, ◌+◌, ◌-◌, ◌%◌, ◌++◌, ℕ, List, Bool, false, length, replicate, sym, ap, ◌∙◌, subst, arith}
use Rattle.fax_bits.specs.Writing.{IsPadded}
use Rattle.fax_runcodes.specs.declared.Colour.TheVariants.{White}
use Rattle.fax_mhcode.specs.Lines.{written_runs}
use Rattle.fax_pagestore.proofs.LineLemmas.{written_after, written_within}
use Rattle.fax_pagestore.proofs.reader.line.write_line.Goals as goal

aligned : (line rest bits left : ℕ) → bits ≡ line → left ≡ rest → (line + rest + (16 - (bits % 8 + left % 8)) % 8) % 8 ≡ 0
aligned line rest bits left one two = omega (arith, one, two)

pub returns-clause-bits : goal.returns-clause-bits
returns-clause-bits c =
    let line : List Bool = written_runs White c.args.runs.now in
    let size : c.bits.result ≡ length line = c.bits.ensures ∙ ap length (c.in_ok-write_runs.ensures ∙ ap (λ (bits : List Bool). bits ++ line) c.new-writer.ensures) in
    written_after c.into_vec.result.items c.write_rest.new.writer c.zeros.new.self line c.args.reader.now.left _
    (aligned (length line) (length c.args.reader.now.left) c.bits.result c.left.result size c.left.ensures)
    (c.in_ok-zeros.ensures.ok ∙ ap (λ (bits : List Bool). bits ++ replicate ((16 - (c.bits.result % 8 + c.left.result % 8)) % 8) false) c.new-writer-2.ensures)
    (c.in_ok-write_rest.ensures ∙ ap (λ (bits : List Bool). bits ++ c.args.reader.now.left) c.in_ok-write_runs-2.ensures)
    (subst (λ (os : List ℕ). IsPadded os c.write_rest.new.writer) (sym c.into_vec.ensures) c.finish.ensures)

pub returns-clause-within : goal.returns-clause-within
returns-clause-within c =
    let line : List Bool = written_runs White c.args.runs.now in
    let size : c.bits.result ≡ length line = c.bits.ensures ∙ ap length (c.in_ok-write_runs.ensures ∙ ap (λ (bits : List Bool). bits ++ line) c.new-writer.ensures) in
    written_within c.into_vec.result.items c.write_rest.new.writer c.zeros.new.self line c.args.reader.now.left _
    (aligned (length line) (length c.args.reader.now.left) c.bits.result c.left.result size c.left.ensures)
    (c.in_ok-zeros.ensures.ok ∙ ap (λ (bits : List Bool). bits ++ replicate ((16 - (c.bits.result % 8 + c.left.result % 8)) % 8) false) c.new-writer-2.ensures)
    (c.in_ok-write_rest.ensures ∙ ap (λ (bits : List Bool). bits ++ c.args.reader.now.left) c.in_ok-write_runs-2.ensures)
    (subst (λ (os : List ℕ). IsPadded os c.write_rest.new.writer) (sym c.into_vec.ensures) c.finish.ensures)
