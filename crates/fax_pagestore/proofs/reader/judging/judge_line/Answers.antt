use Rattle.std.proofs.Common.{Ok, sym, ap, ◌∙◌, refl, subst, inr}
use Rattle.fax_runcodes.specs.Widths.{elements_of}
use Rattle.fax_pagestore.specs.declared.reading.Ahead.{Ahead}
use Rattle.fax_pagestore.specs.declared.fault.PageFault.TheVariants.{NoRtc}
use Rattle.fax_pagestore.specs.PageFaults.{Stops}
use Rattle.fax_pagestore.proofs.reader.judging.judge_line.Goals as goal

pub returns-in-Ok-Line : goal.returns-in-Ok-Line
returns-in-Ok-Line g c = λ waits.
    let read = c.pass_line.ensures.line c.in-Whole.is in
    let begins = c.pass_separator.ensures.line (c.in-Ok-Line.is ∙ ap (λ (ahead : Ahead). Ok ahead) c.in-Ok-Line.field-0-is) in (
      c.len-in-Ok-Line.ensures,
      record { one_separator = refl; begins = c.requires.begins; room = c.requires.few },
      inr (c.pass_line.new.reader.left, (read.1, read.0, read.2, read.3.bits), begins),
    )

pub returns-in-Ok-Separator : goal.returns-in-Ok-Separator
returns-in-Ok-Separator g c = λ waits.
    let read = c.pass_line.ensures.line c.in-Whole.is in
    let after = c.pass_separator.ensures.separator c.in-Ok-Separator.field-0-0 (c.in-Ok-Separator.is ∙ ap (λ (ahead : Ahead). Ok ahead) c.in-Ok-Separator.field-0-is) in
    absurd (waits record {
      line = read.1;
      row = read.0;
      rest = c.pass_line.new.reader.left;
      spelt = read.2;
      bits_are = read.3.bits;
      after = (c.in-Ok-Separator.field-0-0, after.0, c.pass_separator.new.reader.left, after.1, after.2.bits);
    })

pub returns-in-Err : goal.returns-in-Err
returns-in-Err g c = λ waits.
    let read = c.pass_line.ensures.line c.in-Whole.is in
    let out = c.in-Err.ensures.fault in
    let stops : Stops c.args.coding (elements_of c.args.width) (g.S.RowStore.rows c.args.rows.now) 0 c.args.tag c.args.reader.now.left NoRtc =
    inr (inr (inr (record { one_separator = refl; begins = c.requires.begins; room = c.requires.few }, c.pass_line.new.reader.left, (read.1, read.0, read.2, read.3.bits), out.1))) in
    subst (Stops c.args.coding (elements_of c.args.width) (g.S.RowStore.rows c.args.rows.now) 0 c.args.tag c.args.reader.now.left) (sym out.0) stops
