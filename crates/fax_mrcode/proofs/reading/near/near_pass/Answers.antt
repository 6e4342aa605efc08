use Rattle.std.proofs.Common.{◌+◌, ◌++◌, [], refl, append-nil, arith}
use Rattle.fax_bits.specs.Bits.{word_bits}
use Rattle.fax_runcodes.specs.Painted.{painted}
use Rattle.fax_runcodes.specs.declared.Colour.TheVariants.{White}
use Rattle.fax_mrcode.specs.declared.mode.Mode.TheVariants.{Pass}
use Rattle.fax_mrcode.specs.Modes.{mode_word}
use Rattle.fax_mrcode.specs.Starts.{start_of, left_of_a0}
use Rattle.fax_mrcode.proofs.CursorLemmas.{colour_after-two, place_le}
use Rattle.fax_mrcode.proofs.NearLemmas.{pass_taken}
use Rattle.fax_mrcode.proofs.StepLemmas.{TakesSteps-one}
use Rattle.fax_mrcode.proofs.VerticalLemmas.{FirstAre-word, pass_begins}
use Rattle.fax_mrcode.proofs.reading.near.near_pass.Goals as goal

pub returns-clause-next : goal.returns-clause-next
returns-clause-next c = λ line is.
    rw (colour_after-two c.next_change-b1.result.index, c.next_change-b1.ensures.b1.cursor.parity)
    (pass_taken c.args.changes.now c.args.width c.requires.at.rising line (start_of c.args.near) is c.requires.at.within c.next_change-b1.result.index c.next_change-b1.ensures.b1
    c.place_at-b2.result c.place_at-b2.ensures c.if-b2-width.false).0

pub returns-clause-taken : goal.returns-clause-taken
returns-clause-taken c = λ line is. record {
  text = mode_word Pass ++ [];
  first = rw (c.past.ensures.left, append-nil) (FirstAre-word c.args.near.ahead.window c.args.near.ahead.left 4 (mode_word Pass) (word_bits 60 c.args.near.ahead.window) refl (omega arith) (pass_begins c.args.near.ahead.window c.requires.word));
  after = c.past.ensures.after;
  takes = rw (colour_after-two c.next_change-b1.result.index, c.next_change-b1.ensures.b1.cursor.parity)
      (TakesSteps-one (painted White 0 c.args.changes.now c.args.width) c.args.width Pass [] (left_of_a0 line (start_of c.args.near)) (start_of c.args.near) _ _ c.requires.at.within
      (pass_taken c.args.changes.now c.args.width c.requires.at.rising line (start_of c.args.near) is c.requires.at.within c.next_change-b1.result.index c.next_change-b1.ensures.b1
      c.place_at-b2.result c.place_at-b2.ensures c.if-b2-width.false).1);
}

pub overflow_add-result : goal.overflow_add-result
overflow_add-result c = omega (arith, place_le c.args.changes.now c.args.width c.requires.at.rising (c.next_change-b1.result.index + 1), c.place_at-b2.ensures, c.requires.at.few)
