use Rattle.std.proofs.Common.{Bool, List, ◌++◌, ap, ◌∙◌, add-one, Ok, arith}
use Rattle.fax_bits.specs.Reading.{Passes}
use Rattle.fax_bits.proofs.ReadingLemmas.{Passes-then}
use Rattle.fax_pagestore.specs.PageTexts.{IsSeparator}
use Rattle.fax_pagestore.specs.declared.reading.Ahead.{Ahead}
use Rattle.fax_pagestore.proofs.PageReading.{InARow-push, return_whole}
use Rattle.fax_pagestore.proofs.reading.pass_return_to_control.Goals as goal

pub loop-preserved : goal.loop-preserved
loop-preserved c =
    let one : (text : List Bool) × IsSeparator c.args.coding c.in-Ok-Separator.next text × Passes c.loop.reader c.pass_separator.new.reader text =
    c.pass_separator.ensures.separator c.in-Ok-Separator.next (c.in-Ok-Separator.is ∙ ap (λ (ahead : Ahead). Ok ahead) c.in-Ok-Separator.field-0-is) in
    let before = c.loop.invariant in
    rw add-one (
      before.0 ++ one.0,
      InARow-push c.args.coding c.loop.counter c.args.first c.loop.tag c.in-Ok-Separator.next before.0 one.0 before.1 c.if-tag.true one.1,
      Passes-then c.args.reader.now c.loop.reader c.pass_separator.new.reader before.0 one.0 before.2 one.2,
    )

pub returns-then-tag-2-clause-whole : goal.returns-then-tag-2-clause-whole
returns-then-tag-2-clause-whole c = λ _.
    return_whole c.args.coding c.args.first c.loop.tag c.loop.counter c.args.reader.now c.loop.reader (omega arith) c.if-tag-2.true c.loop.invariant
