use Rattle.std.proofs.Common.{◌≡◌, ◌++◌, [], Ok, Err, length, take, drop, inl, inr, refl, sym, ◌∙◌, ap, subst, arith}
use Rattle.std.proofs.lemmas.List.{take-append-drop}
use Rattle.std.proofs.lemmas.Result.{err_from_is_err_and}
use Rattle.fax_bits.specs.Bits.{bits_of}
use Rattle.fax_bits.specs.Reading.{Place}
use Rattle.fax_bits.proofs.BitsLemmas.{length-bits_of}
use Rattle.fax_runcodes.specs.Widths.{elements_of}
use Rattle.fax_pagestore.specs.declared.fault.PageFault.TheVariants.{NoEol}
use Rattle.fax_pagestore.specs.PageTexts.{ReadSoFar, MeansRows, MeansPage}
use Rattle.fax_pagestore.specs.PageFaults.{HasNoEol}
use Rattle.fax_pagestore.specs.Ends.{BeginNoEol}
use Rattle.fax_pagestore.proofs.BeforeEolLemmas.{nowhere_eol}
use Rattle.fax_pagestore.proofs.PageReading.{reads_from, fails_from}
use Rattle.fax_pagestore.proofs.ReaderLemmas.{skipped, front_read}
use Rattle.fax_pagestore.proofs.reading.read_page.Goals as goal
use Rattle.fax_pagestore.proofs.reading.read_page.Goals.{After-skip, In_default, After-read_rows}
use Rattle.fax_pagestore.proofs.reading.read_page.Given.{Over}

-- the bits after those before which no EOL begins
left : (g : Over) (c : After-skip g) → c.skip.new.self.left ≡ drop c.bits_before_eol.result (bits_of c.args.octets.now)
left g c = skipped c.new-reader.result c.skip.new.self c.bits_before_eol.result c.skip.ensures ∙ ap (λ (place : Place). drop c.bits_before_eol.result place.left) c.new-reader.ensures

whole : (g : Over) (c : After-skip g) → bits_of c.args.octets.now ≡ take c.bits_before_eol.result (bits_of c.args.octets.now) ++ c.skip.new.self.left
whole g c = sym (take-append-drop c.bits_before_eol.result (bits_of c.args.octets.now)) ∙ ap (λ b. take c.bits_before_eol.result (bits_of c.args.octets.now) ++ b) (sym (left g c))

after : (g : Over) (c : After-skip g) → BeginNoEol (take c.bits_before_eol.result (bits_of c.args.octets.now)) c.skip.new.self.left
after g c = subst (BeginNoEol (take c.bits_before_eol.result (bits_of c.args.octets.now))) (sym (left g c)) c.bits_before_eol.ensures.none

-- after the front nothing more is read yet
begun : (g : Over) (c : After-read_rows g) → ReadSoFar c.args.coding (elements_of c.args.format.width) c.args.octets.now [] 0 c.in-Some.tag c.pass_front.new.reader.left
begun g c =
    front_read c.args.coding (elements_of c.args.format.width) c.args.octets.now [] c.in-Some.tag c.skip.new.self c.pass_front.new.reader
    (refl, take c.bits_before_eol.result (bits_of c.args.octets.now), whole g (goal.at.After-read_rows g c).After-skip, after g (goal.at.After-read_rows g c).After-skip) c.in-Some.ensures.found

-- the octets have no EOL
no_eol : (g : Over) (c : In_default g) → HasNoEol c.args.coding c.args.octets.now
no_eol g c = λ tag front rest is e.
    nowhere_eol c.args.coding c.args.octets.now (take c.bits_before_eol.result (bits_of c.args.octets.now)) c.skip.new.self.left (whole g (goal.at.In_default g c).After-skip) (after g (goal.at.In_default g c).After-skip) (c.in_default.ensures.none refl) tag front rest is e

-- the octets have one
has_eol : (g : Over) (c : After-read_rows g) → HasNoEol c.args.coding c.args.octets.now → ⊥
has_eol g c none =
    let read = begun g c in
    none read.front_tag read.front (read.lines ++ (read.separators ++ c.pass_front.new.reader.left)) read.is_front read.bits_are

pub skip-requires : goal.skip-requires
skip-requires g c = omega (arith, c.bits_before_eol.ensures.within, ap (λ (place : Place). length place.left) c.new-reader.ensures, length-bits_of c.args.octets.now)

pub returns-in_default-clause-fault : goal.returns-in_default-clause-fault
returns-in_default-clause-fault g c = λ _. inl (refl, no_eol g (goal.at.returns-in_default-clause-fault g c).In_default)

pub returns-in_default-clause-reads : goal.returns-in_default-clause-reads
returns-in_default-clause-reads g c =
    reads_from c.args.format c.args.coding c.args.octets.now (Err NoEol) tt (λ ne. inl (refl, no_eol g (goal.at.returns-in_default-clause-reads g c).In_default))

pub returns-in_default-clause-fails : goal.returns-in_default-clause-fails
returns-in_default-clause-fails g c =
    fails_from c.args.format c.args.coding c.args.octets.now (Err NoEol) tt (λ ne. inl (refl, no_eol g (goal.at.returns-in_default-clause-fails g c).In_default))

pub returns-in_err-rows-clause-fault : goal.returns-in_err-rows-clause-fault
returns-in_err-rows-clause-fault g c =
    let front = begun g (goal.at.returns-in_err-rows-clause-fault g c).After-read_rows in
    let p = err_from_is_err_and c.from_residual.result c.from_residual.ensures.1 in
    rw (p.1, p.2) (λ ne. inr (c.in_err-rows.ensures.fault ne c.args.octets.now front))

pub returns-in_err-rows-clause-reads : goal.returns-in_err-rows-clause-reads
returns-in_err-rows-clause-reads g c =
    let front = begun g (goal.at.returns-in_err-rows-clause-reads g c).After-read_rows in
    let p = err_from_is_err_and c.from_residual.result c.from_residual.ensures.1 in
    rw (p.1, p.2)
    (reads_from c.args.format c.args.coding c.args.octets.now (Err c.in_err-rows.field-0.0) tt (λ ne. inr (c.in_err-rows.ensures.fault ne c.args.octets.now front)))

pub returns-in_err-rows-clause-fails : goal.returns-in_err-rows-clause-fails
returns-in_err-rows-clause-fails g c =
    let front = begun g (goal.at.returns-in_err-rows-clause-fails g c).After-read_rows in
    let p = err_from_is_err_and c.from_residual.result c.from_residual.ensures.1 in
    rw (p.1, p.2)
    (fails_from c.args.format c.args.coding c.args.octets.now (Err c.in_err-rows.field-0.0) tt (λ ne. inr (c.in_err-rows.ensures.fault ne c.args.octets.now front)))

pub returns-in_err-rows-clause-no_eol : goal.returns-in_err-rows-clause-no_eol
returns-in_err-rows-clause-no_eol g c = λ none. absurd (has_eol g (goal.at.returns-in_err-rows-clause-no_eol g c).After-read_rows none)

pub new-requires : goal.new-requires
new-requires g c =
    let front = begun g (goal.at.new-requires g c).After-read_rows in
    let means : MeansRows (elements_of c.args.format.width) c.args.coding c.args.octets.now (g.S.RowStore.rows c.in_ok-rows.rows) =
    c.in_ok-rows.ensures.ok c.args.octets.now front in
    means.are_rows

pub returns-clause-ok : goal.returns-clause-ok
returns-clause-ok g c =
    let front = begun g (goal.at.returns-clause-ok g c).After-read_rows in
    rw c.new.ensures (refl, c.in_ok-rows.ensures.ok c.args.octets.now front)

pub returns-clause-reads : goal.returns-clause-reads
returns-clause-reads g c =
    let front = begun g (goal.at.returns-clause-reads g c).After-read_rows in
    let means : MeansPage c.args.format c.args.coding c.args.octets.now c.new.result =
    rw c.new.ensures (refl, c.in_ok-rows.ensures.ok c.args.octets.now front) in
    reads_from c.args.format c.args.coding c.args.octets.now (Ok c.new.result) means tt

pub returns-clause-fails : goal.returns-clause-fails
returns-clause-fails g c =
    let front = begun g (goal.at.returns-clause-fails g c).After-read_rows in
    let means : MeansPage c.args.format c.args.coding c.args.octets.now c.new.result =
    rw c.new.ensures (refl, c.in_ok-rows.ensures.ok c.args.octets.now front) in
    fails_from c.args.format c.args.coding c.args.octets.now (Ok c.new.result) means tt

pub returns-clause-no_eol : goal.returns-clause-no_eol
returns-clause-no_eol g c = λ none. absurd (has_eol g (goal.at.returns-clause-no_eol g c).After-read_rows none)
