use Rattle.std.proofs.Common.{◌≡◌, List, ℕ, Some, length, drop, refl, sym, ap, ◌∙◌, subst, arith}
use Rattle.fax_bits.specs.Bits.{bits_of}
use Rattle.fax_bits.specs.Reading.{Place}
use Rattle.fax_bits.proofs.BitsLemmas.{length-bits_of}
use Rattle.fax_runcodes.specs.Widths.{elements_of}
use Rattle.fax_mhcode.proofs.LineLaws.{IsWidth-elements}
use Rattle.fax_pagestore.specs.PageTexts.{ReadSoFar}
use Rattle.fax_pagestore.specs.Ends.{HoldsNoTaggedEol}
use Rattle.fax_pagestore.specs.Readers.{IsReadUpTo, NoMoreIsWhole}
use Rattle.fax_pagestore.proofs.BeforeEolLemmas.{none_after_place}
use Rattle.fax_pagestore.proofs.ReaderLemmas.{skipped, none_used, reached, IsReached, IfSome_at, after_all, stopped_waits}
use Rattle.fax_pagestore.proofs.reader.rows.read_up_to.Goals as goal
use Rattle.fax_pagestore.proofs.reader.rows.read_up_to.Goals.{After-skip, In_default, In_ok-halt}
use Rattle.fax_pagestore.proofs.reader.rows.read_up_to.Given.{Over}

pub skip-requires : goal.skip-requires
skip-requires g c = omega (arith, c.requires.used, ap (λ (p : Place). length p.left) c.new-reader.ensures, length-bits_of c.args.octets.now)

-- the bits that are not used
left_is : (g : Over) (c : After-skip g) → c.skip.new.self.left ≡ drop c.args.used (bits_of c.args.octets.now)
left_is g c = skipped c.new-reader.result c.skip.new.self c.args.used c.skip.ensures ∙ ap (λ (p : Place). drop c.args.used p.left) c.new-reader.ensures

-- the place where no further row is read
halted : (g : Over) (c : In_ok-halt g) → IsReached c.args.octets.now c.args.used c.read_rows_on.new.reader
halted g c =
    reached c.args.octets.now c.args.used c.new-reader.result c.skip.new.self c.begin.new.reader c.read_rows_on.new.reader c.requires.used c.new-reader.ensures c.skip.ensures (c.in-Some.ensures.passes refl) c.in_ok-halt.ensures.passes

-- what is read up to it
read_on : (g : Over) (c : In_ok-halt g) (all : List ℕ) → IsReadUpTo c.args.coding (elements_of c.args.width) all (g.S.RowStore.rows c.args.rows.now) c.args.tag (drop c.args.used (bits_of c.args.octets.now))
    → ReadSoFar c.args.coding (elements_of c.args.width) all (g.S.RowStore.rows c.read_rows_on.new.rows) 0 c.in_ok-halt.halt.tag c.read_rows_on.new.reader.left
read_on g c all read =
    let at = c in
    c.in_ok-halt.ensures.read all (c.in-Some.ensures.read (elements_of c.args.width) all (g.S.RowStore.rows c.args.rows.now)
    (subst (IsReadUpTo c.args.coding (elements_of c.args.width) all (g.S.RowStore.rows c.args.rows.now) c.args.tag)
    (sym (skipped c.new-reader.result c.skip.new.self c.args.used c.skip.ensures ∙ ap (λ (p : Place). drop c.args.used p.left) c.new-reader.ensures)) read))

-- the bits after it
place_left : (g : Over) (c : In_ok-halt g) (place : ℕ) → place ≡ c.read_rows_on.new.reader.passed → c.read_rows_on.new.reader.left ≡ drop place (bits_of c.args.octets.now)
place_left g c place is = sym (halted g c).left_is ∙ ap (λ n. drop n (bits_of c.args.octets.now)) (sym is)

pub returns-clause-place : goal.returns-clause-place
returns-clause-place g c =
    let is = halted g (goal.at.returns-clause-place g c).In_ok-halt in
    omega (arith, is.within, c.place-place.ensures)

pub returns-clause-on : goal.returns-clause-on
returns-clause-on g c =
    let is = halted g (goal.at.returns-clause-on g c).In_ok-halt in
    omega (arith, is.on, c.place-place.ensures)

-- ---- before the first EOL

-- what is left holds no EOL with its tag
nothing : (g : Over) (c : In_default g) → HoldsNoTaggedEol c.args.coding (drop c.args.used (bits_of c.args.octets.now))
nothing g c = subst (HoldsNoTaggedEol c.args.coding) (left_is g (goal.at.In_default g c).After-skip) (c.in_default.ensures.no_eol refl)

pub returns-in_default-clause-read : goal.returns-in_default-clause-read
returns-in_default-clause-read g c = λ none all read.
    let at = (goal.at.returns-in_default-clause-read g c).In_default in
    none_used c.args.coding (elements_of c.args.width) all c.args.octets.now (g.S.RowStore.rows c.args.rows.now) c.args.used c.max.result (omega (arith)) (λ lt. omega (arith)) (nothing g at)
    (subst (λ t. IsReadUpTo c.args.coding (elements_of c.args.width) all (g.S.RowStore.rows c.args.rows.now) t (drop c.args.used (bits_of c.args.octets.now))) (c.in_default.ensures.none refl) read)

pub returns-in_default-clause-waits : goal.returns-in_default-clause-waits
returns-in_default-clause-waits g c = λ none.
    let at = (goal.at.returns-in_default-clause-waits g c).In_default in
    none_after_place c.args.coding c.args.octets.now c.args.used c.max.result (omega (arith)) (nothing g at)

pub returns-clause-read : goal.returns-clause-read
returns-clause-read g c = λ none all read.
    let at = (goal.at.returns-clause-read g c).In_ok-halt in
    subst (ReadSoFar c.args.coding (elements_of c.args.width) all (g.S.RowStore.rows c.read_rows_on.new.rows) 0 c.in_ok-halt.halt.tag) (place_left g at c.place-place.result c.place-place.ensures) (read_on g at all read)

pub returns-clause-waits : goal.returns-clause-waits
returns-clause-waits g c = λ none.
    let at = (goal.at.returns-clause-waits g c).In_ok-halt in
    let not_many = c.settle-settled.ensures.open (sym c.is_some.ensures ∙ c.if-is_some.false) in
    subst (NoMoreIsWhole c.args.coding (elements_of c.args.width) (g.S.RowStore.rows c.read_rows_on.new.rows) (Some c.in_ok-halt.halt.tag)) (place_left g at c.place-place.result c.place-place.ensures)
    (stopped_waits c.args.coding (elements_of c.args.width) (g.S.RowStore.rows c.read_rows_on.new.rows) c.in_ok-halt.halt.tag c.read_rows_on.new.reader.left c.in_ok-halt.halt.stop
    (IsWidth-elements c.args.width) c.in_ok-halt.ensures.each
    (λ stop. after_all c.args.octets.now c.args.end c.args.used c.read_rows_on.new.reader c.requires.end (halted g at) (c.in_ok-halt.ensures.no_eol stop)) c.in_ok-halt.ensures.no_line c.in_ok-halt.ensures.stops not_many)

pub returns-then-is_some-clause-settled : goal.returns-then-is_some-clause-settled
returns-then-is_some-clause-settled g c = λ what is all more read.
    let at = (goal.at.returns-then-is_some-clause-settled g c).In_ok-halt in
    IfSome_at c.settle-settled.result _ c.settle-settled.ensures.settled what is all more (read_on g at all read)
