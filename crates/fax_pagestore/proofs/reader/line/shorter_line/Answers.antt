use Rattle.std.proofs.Common.{◌≡◌, ◌++◌, ◌<◌, ◌≤◌, ℕ, List, Bool, length, drop, ap, ◌∙◌, subst, arith}
use Rattle.fax_bits.specs.Bits.{bits_of}
use Rattle.fax_bits.specs.Reading.{Place}
use Rattle.fax_bits.proofs.BitsLemmas.{length-bits_of}
use Rattle.fax_runcodes.specs.declared.Colour.TheVariants.{White}
use Rattle.fax_runcodes.specs.Widths.{elements_of}
use Rattle.fax_mhcode.specs.Lines.{written_runs}
use Rattle.fax_mhcode.proofs.LineLaws.{IsWidth-elements}
use Rattle.fax_pagestore.specs.LinesUnderWay.{BeginSameLine}
use Rattle.fax_pagestore.proofs.LineLemmas.{line_anew, not_empty}
use Rattle.fax_pagestore.proofs.ReaderLemmas.{skipped}
use Rattle.fax_pagestore.proofs.TextLemmas.{width_most}
use Rattle.fax_pagestore.proofs.reader.line.shorter_line.Goals as goal

pub skip-requires : goal.skip-requires
skip-requires c = omega (arith, c.requires.used, ap (λ (p : Place). length p.left) c.new-reader.ensures, length-bits_of c.args.octets.now)

pub returns-clause-same : goal.returns-clause-same
returns-clause-same c =
    let runs : List ℕ = c.in_ok-runs.runs.items in
    let kept : List Bool = drop c.in_ok-line.line.used (bits_of c.in_ok-line.line.octets.items) in
    let left : c.skip.new.self.left ≡ drop c.args.used (bits_of c.args.octets.now) =
    skipped c.new-reader.result c.skip.new.self c.args.used c.skip.ensures ∙ ap (λ (p : Place). drop c.args.used p.left) c.new-reader.ensures in
    let some : 0 < length runs = omega (arith, not_empty _ _ c.is_empty.ensures c.if-is_empty.false, c.in_ok-runs.runs.ok.0) in
    let most : c.elements.result ≤ 2432 = omega (arith, c.elements.ensures, width_most (elements_of c.args.width) (IsWidth-elements c.args.width)) in
    let line : kept ≡ written_runs White runs ++ c.read_runs.new.reader.left =
    c.in_ok-line.ensures.bits ∙ ap (λ (rs : List ℕ). written_runs White rs ++ c.read_runs.new.reader.left) c.as_slice.ensures.value in
    subst (λ (w : ℕ). BeginSameLine w (drop c.args.used (bits_of c.args.octets.now)) kept) c.elements.ensures
    (subst (λ (bits : List Bool). BeginSameLine c.elements.result bits kept) left
    (line_anew c.elements.result c.skip.new.self c.read_runs.new.reader runs kept most c.in_ok-runs.ensures.line c.in_ok-runs.ensures.within some (c.in_ok-runs.ensures.some some) line))
