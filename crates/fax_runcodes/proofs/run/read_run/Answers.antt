use Rattle.std.proofs.Common.{◌≡◌, ℕ, ◌-◌, ◌≤◌, ◌++◌, Bool, List, Ok, false, length, take, replicate, min, sym, ◌∙◌, ap, refl, arith}
use Rattle.fax_bits.specs.Bits.{word_bits}
use Rattle.fax_bits.specs.Reading.{Passes}
use Rattle.fax_bits.proofs.WindowLemmas.{padded-known}
use Rattle.fax_runcodes.specs.CodeTables.{Word}
use Rattle.fax_runcodes.specs.Spelling.{SpellsRun}
use Rattle.fax_runcodes.specs.RunFaults.{ReadsRun}
use Rattle.fax_runcodes.proofs.ReadLemmas.{word_front}
use Rattle.fax_runcodes.proofs.RunLaws.{SpellsRun-one, ReadsRun-not_fails}
use Rattle.fax_runcodes.proofs.run.read_run.Goals as goal
use Rattle.fax_runcodes.proofs.run.read_run.Goals.{After-skip}

found_is : (c : After-skip) → (text : List Bool) × SpellsRun c.args.colour text c.in-Some.run'.elements × Passes c.args.reader.now c.skip.new.self text
found_is c =
    let left : List Bool = c.args.reader.now.left in
    let known : ℕ = min 56 (length left) in
    let window : word_bits 56 c.window.result ≡ take known left ++ replicate (56 - known) false = c.window.ensures.bits ∙ padded-known 56 known left refl in
    let found = c.in-Some.ensures in
    let there : c.in-Some.run'.bits ≤ length left = omega (arith, c.if-has.ensures) in
    let word : Word = record { run = 0; word = found.text } in
    let front : take (length found.text) left ≡ found.text = word_front c.args.colour left known refl word (omega (arith, found.size_is, found.few)) found.rest (sym window ∙ found.bits_are) in
    let text : take c.in-Some.run'.bits left ≡ found.text = rw found.size_is at front in
    (found.text, found.spelt, rw text at c.skip.ensures)

read_is : (c : After-skip) → ReadsRun c.args.colour c.args.reader.now.left c.in-Some.run'.elements c.skip.new.self.left
read_is c =
    let found = found_is c in
    record { text = found.0; spelt = found.1; within = c.in-Some.ensures.within; bits_are = found.2.bits }

pub returns-in-Some-clause-ok : goal.returns-in-Some-clause-ok
returns-in-Some-clause-ok c = found_is (goal.at.returns-in-Some-clause-ok c).After-skip

pub returns-in-Some-clause-reads : goal.returns-in-Some-clause-reads
returns-in-Some-clause-reads c =
    let mine = read_is (goal.at.returns-in-Some-clause-reads c).After-skip in
    λ run rest r. ap (λ (n : ℕ). Ok n) (SpellsRun-one c.args.colour mine.text r.text c.in-Some.run'.elements run c.skip.new.self.left rest mine.spelt r.spelt (sym mine.bits_are ∙ r.bits_are)).1

pub returns-in-Some-clause-fails : goal.returns-in-Some-clause-fails
returns-in-Some-clause-fails c =
    λ fault f. absurd (ReadsRun-not_fails c.args.colour c.args.reader.now.left c.in-Some.run'.elements c.skip.new.self.left fault (read_is (goal.at.returns-in-Some-clause-fails c).After-skip) f)

pub has-requires : goal.has-requires
has-requires c = omega (arith, c.in-Some.ensures.few, c.in-Some.ensures.size_is)
