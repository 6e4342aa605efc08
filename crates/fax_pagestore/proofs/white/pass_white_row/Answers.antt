use Rattle.std.proofs.Common.{◌==◌, ◌/◌, ◌%◌, ◌^◌, ◌-◌, ◌++◌, ◌∷◌, [], ◌∙◌, Bool, arith, refl, append_assoc, subst}
use Rattle.fax_bits.specs.Reading.{Passes}
use Rattle.fax_pagestore.specs.PageTexts.{end_of_line}
use Rattle.fax_pagestore.proofs.WhiteLemmas.{front_is, front_and_bit, untagged_eol, tagged_eol}
use Rattle.fax_pagestore.proofs.white.pass_white_row.Goals as goal

pub returns-in-Mh-clause-some : goal.returns-in-Mh-clause-some
returns-in-Mh-clause-some c =
    let line = c.in_ok-line.ensures.spelt in
    rw (c.in-Mh.is, c.paint.ensures, c.clear.ensures, c.elements.ensures) (
      line.0,
      end_of_line,
      line.1,
      untagged_eol,
      subst (Passes c.args.reader.now c.skip.new.self)
          (front_is c.args.window c.in_ok-line.line.bits c.in_ok-line.line.word c.args.reader.now.left (line.0 ++ end_of_line) (omega (arith, c.in_ok-line.ensures.few))
          (c.if-not-has.ensures.0 refl) c.requires.window c.if-window-line.false line.2)
          c.skip.ensures,
    )

pub returns-in-Mr-clause-some : goal.returns-in-Mr-clause-some
returns-in-Mr-clause-some c =
    let line = c.in_ok-line.ensures.spelt in
    let tag : Bool = c.args.window / 2 ^ (56 - c.in_ok-line.line.bits - 1) % 2 == 1 in
    rw (c.in-Mr.is, c.paint.ensures, c.clear.ensures, c.elements.ensures) (
      line.0,
      end_of_line ++ tag ∷ [],
      line.1,
      tagged_eol tag,
      subst (Passes c.args.reader.now c.skip-in-Mr.new.self)
          (front_and_bit c.args.window c.in_ok-line.line.bits c.in_ok-line.line.word c.args.reader.now.left (line.0 ++ end_of_line) (omega (arith, c.in_ok-line.ensures.few))
          (c.if-not-has.ensures.0 refl) c.requires.window c.if-window-line.false line.2 ∙ append_assoc line.0 end_of_line (tag ∷ []))
          c.skip-in-Mr.ensures,
    )
