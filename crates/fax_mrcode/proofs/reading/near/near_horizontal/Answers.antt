use Rattle.std.proofs.Common.{◌≡◌, ◌++◌, List, Bool, Option, Some, None, IfSome, refl, arith}
use Rattle.fax_bits.specs.Bits.{word_bits}
use Rattle.fax_runcodes.specs.Rows.{Elements, other}
use Rattle.fax_runcodes.specs.Painted.{painted, colour_after_changes}
use Rattle.fax_runcodes.specs.Spelling.{SpellsRun}
use Rattle.fax_runcodes.specs.declared.Colour.TheVariants.{White}
use Rattle.fax_mrcode.specs.declared.mode.Mode.TheVariants.{Horizontal}
use Rattle.fax_mrcode.specs.declared.reading.near.Near.{Near}
use Rattle.fax_mrcode.specs.Modes.{mode_word}
use Rattle.fax_mrcode.specs.Windows.{FirstAre}
use Rattle.fax_mrcode.specs.Starts.{TakesStep, TakesNear, start_of, left_of_a0}
use Rattle.fax_mrcode.proofs.StepLemmas.{TakesSteps-one}
use Rattle.fax_mrcode.proofs.VerticalLemmas.{FirstAre-then, FirstAre-word, ShowsAfter-then, horizontal_begins}
use Rattle.fax_mrcode.proofs.reading.near.near_horizontal.Goals as goal
use Rattle.fax_mrcode.proofs.reading.near.near_horizontal.Goals.{After-turn_at_runs}

-- the step, with the bits of its runs
near_of : (c : After-turn_at_runs) (line : Elements) (result : Option Near)
    → IfSome result (λ next. (s t : List Bool) → SpellsRun (colour_after_changes c.args.near.index) s c.in-Some.runs.first → SpellsRun (other (colour_after_changes c.args.near.index)) t c.in-Some.runs.second
    → TakesStep (painted White 0 c.args.changes.now c.args.width) c.args.width Horizontal (s ++ t) (left_of_a0 c.args.line.now (start_of c.args.near)) (start_of c.args.near) (left_of_a0 line (start_of next)) (start_of next))
    → IfSome result (λ next. next.ahead ≡ c.in-Some.runs.ahead)
    → IfSome result (λ next. TakesNear (painted White 0 c.args.changes.now c.args.width) c.args.width c.args.line.now c.args.near line next)
near_of c line (Some next) takes ahead =
    let near = c.args.near.ahead in
    let rest = c.past-after.result in
    let word : FirstAre near.window near.left rest.left (mode_word Horizontal) =
    rw c.past-after.ensures.left (FirstAre-word near.window near.left 3 (mode_word Horizontal) (word_bits 61 near.window) refl (omega arith) (horizontal_begins near.window c.requires.word)) in
    let end = c.in-Some.runs.ahead in
    let (s, t, p, q, first) = rw c.after_changes.ensures at c.in-Some.ensures.spelt in
    let after = c.in-Some.ensures.after in
    record {
      text = mode_word Horizontal ++ (s ++ t);
      first = rw ahead (FirstAre-then near.window near.left rest.window rest.left end.left (mode_word Horizontal) (s ++ t) c.past-after.ensures.after after.less word first);
      after = rw ahead (ShowsAfter-then near.window near.left rest.window rest.left end.window end.left c.past-after.ensures.after after);
      takes = TakesSteps-one (painted White 0 c.args.changes.now c.args.width) c.args.width Horizontal (s ++ t) (left_of_a0 c.args.line.now (start_of c.args.near)) (start_of c.args.near)
          (left_of_a0 line (start_of next)) (start_of next) c.requires.at.within (takes s t p q);
    }
near_of c line None takes ahead = takes

pub returns-clause-taken : goal.returns-clause-taken
returns-clause-taken c = near_of (goal.at.returns-clause-taken c).After-turn_at_runs c.turn_at_runs.new.line c.turn_at_runs.result c.turn_at_runs.ensures.taken c.turn_at_runs.ensures.ahead
