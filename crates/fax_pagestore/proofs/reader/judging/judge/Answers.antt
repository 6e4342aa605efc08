use Rattle.std.proofs.Common.{◌≡◌, List, ℕ, Some, [], drop, length, refl, sym, ap, ◌∙◌, subst, arith, append-nil}
use Rattle.fax_bits.specs.Bits.{bits_of}
use Rattle.fax_bits.specs.Reading.{Place}
use Rattle.fax_bits.proofs.BitsLemmas.{length-bits_of}
use Rattle.fax_runcodes.specs.Widths.{elements_of}
use Rattle.fax_pagestore.specs.declared.fault.PageFault.TheVariants.{TooManyRows}
use Rattle.fax_pagestore.specs.PageTexts.{ReadSoFar}
use Rattle.fax_pagestore.specs.Readers.{IsReadUpTo, NoMoreIsWhole, AreJudged, fault_of}
use Rattle.fax_pagestore.proofs.ReaderLemmas.{skipped, stops_fail, no_front_judged}
use Rattle.fax_pagestore.proofs.reader.judging.judge.Goals as goal
use Rattle.fax_pagestore.proofs.reader.judging.judge.Goals.{After-skip}
use Rattle.fax_pagestore.proofs.reader.judging.judge.Given.{Over}

pub skip-requires : goal.skip-requires
skip-requires g c = omega (arith, c.requires.used, ap (λ (p : Place). length p.left) c.new-reader.ensures, length-bits_of c.args.octets.now)

-- ---- before the first EOL

pub returns-in_default-clause-judged : goal.returns-in_default-clause-judged
returns-in_default-clause-judged g c = λ all read waits.
    no_front_judged c.args.coding (elements_of c.args.width) all (g.S.RowStore.rows c.args.rows.now) (drop c.args.used (bits_of c.args.octets.now))
    (subst (λ t. IsReadUpTo c.args.coding (elements_of c.args.width) all (g.S.RowStore.rows c.args.rows.now) t (drop c.args.used (bits_of c.args.octets.now))) c.in_default.is read)
    (subst (λ t. NoMoreIsWhole c.args.coding (elements_of c.args.width) (g.S.RowStore.rows c.args.rows.now) t (drop c.args.used (bits_of c.args.octets.now))) c.in_default.is waits)

-- ---- after a separator

-- the bits that are not used
left_is : (g : Over) (c : After-skip g) → drop c.args.used (bits_of c.args.octets.now) ≡ c.skip.new.self.left
left_is g c = sym (skipped c.new-reader.result c.skip.new.self c.args.used c.skip.ensures ∙ ap (λ (p : Place). drop c.args.used p.left) c.new-reader.ensures)

-- what is read up to them
read_here : (g : Over) (c : After-skip g) (all : List ℕ) → IsReadUpTo c.args.coding (elements_of c.args.width) all (g.S.RowStore.rows c.args.rows.now) c.args.tag (drop c.args.used (bits_of c.args.octets.now))
    → ReadSoFar c.args.coding (elements_of c.args.width) all (g.S.RowStore.rows c.args.rows.now) 0 c.in-Some.tag c.skip.new.self.left
read_here g c all read =
    subst (λ bits. ReadSoFar c.args.coding (elements_of c.args.width) all (g.S.RowStore.rows c.args.rows.now) 0 c.in-Some.tag bits) (left_is g c)
    (subst (λ t. IsReadUpTo c.args.coding (elements_of c.args.width) all (g.S.RowStore.rows c.args.rows.now) t (drop c.args.used (bits_of c.args.octets.now))) c.in-Some.is read)

pub returns-in-Some-pass_end-clause-judged : goal.returns-in-Some-pass_end-clause-judged
returns-in-Some-pass_end-clause-judged g c = λ all read waits.
    let here = read_here g (goal.at.returns-in-Some-pass_end-clause-judged g c).After-skip all read in
    let judged = c.in-Some-pass_end.ensures.settled (elements_of c.args.width) all [] (g.S.RowStore.rows c.args.rows.now) c.len-count.ensures c.requires.few here in
    subst (AreJudged c.args.coding (elements_of c.args.width) all (g.S.RowStore.rows c.args.rows.now)) (sym c.fault.ensures)
    (subst (λ octets. AreJudged c.args.coding (elements_of c.args.width) octets (g.S.RowStore.rows c.args.rows.now) (fault_of c.in-Some-pass_end.settled)) (append-nil all) judged)

pub returns-in-None-clause-judged : goal.returns-in-None-clause-judged
returns-in-None-clause-judged g c = λ all read waits.
    let here = read_here g (goal.at.returns-in-None-clause-judged g c).After-skip all read in
    c.in-None.ensures.none refl (elements_of c.args.width) all (g.S.RowStore.rows c.args.rows.now) c.len-count.ensures c.requires.few here

pub returns-then-count-eq-MOST_ROWS-clause-judged : goal.returns-then-count-eq-MOST_ROWS-clause-judged
returns-then-count-eq-MOST_ROWS-clause-judged g c = λ all read waits.
    let here = read_here g (goal.at.returns-then-count-eq-MOST_ROWS-clause-judged g c).After-skip all read in
    stops_fail c.args.coding (elements_of c.args.width) all (g.S.RowStore.rows c.args.rows.now) c.in-Some.tag c.skip.new.self.left TooManyRows c.requires.few here
    (refl, c.line_begins.ensures.0 c.if-not-line_begins.false, omega (arith, c.len-count.ensures, c.if-count-eq-MOST_ROWS.true))

pub returns-clause-judged : goal.returns-clause-judged
returns-clause-judged g c = λ all read waits.
    let at = (goal.at.returns-clause-judged g c).After-skip in
    let here = read_here g at all read in
    let waiting = subst (NoMoreIsWhole c.args.coding (elements_of c.args.width) (g.S.RowStore.rows c.args.rows.now) (Some c.in-Some.tag)) (left_is g at)
    (subst (λ t. NoMoreIsWhole c.args.coding (elements_of c.args.width) (g.S.RowStore.rows c.args.rows.now) t (drop c.args.used (bits_of c.args.octets.now))) c.in-Some.is waits) in
    stops_fail c.args.coding (elements_of c.args.width) all (g.S.RowStore.rows c.args.rows.now) c.in-Some.tag c.skip.new.self.left c.judge_line.result c.requires.few here (c.judge_line.ensures waiting)
