use Rattle.std.proofs.Common.{ℕ, ◌-◌, List, [], ◌∷◌, get_or, length, take, drop, arith, subst}
use Rattle.fax_runcodes.specs.declared.Colour.TheVariants.{White}
use Rattle.fax_runcodes.specs.Painted.{painted}
use Rattle.fax_runcodes.specs.Rows.{Elements}
use Rattle.fax_runcodes.proofs.PaintedLemmas.{rising_le}
use Rattle.fax_runcodes.proofs.RunsOfRow.{runs_between, runs_between_are_runs}
use Rattle.fax_mhcode.proofs.WriteLemmas.{RunsWritten, RunsWritten-none, RunsWritten-two, WritesLine-from, WritesLine-last, TwoMore, TwoMore-from, OneMore, OneMore-from, runs_between-none, most_elements}
use Rattle.fax_mhcode.proofs.writing.put_runs.Goals as goal
use Rattle.fax_mhcode.proofs.writing.put_runs.Goals.{In-len2-up, In-len1-up}

pub loop-rest-init : goal.loop-rest-init
loop-rest-init c = record {
  rising = c.requires.rising;
  written = RunsWritten-none (painted White 0 c.args.changes.now c.args.width) c.args.writer.now.bits (runs_between 0 c.args.changes.now c.args.width)
      (runs_between_are_runs c.args.changes.now c.args.width c.requires.rising);
  room = c.requires.room;
}

-- ---- two more changing places
two : (c : In-len2-up) → TwoMore c.loop-rest.from c.loop-rest.rest.now c.args.width
two c = TwoMore-from c.loop-rest.from c.loop-rest.rest.now c.args.width (omega arith) c.loop-rest.invariant.rising

pub overflow_sub-black : goal.overflow_sub-black
overflow_sub-black c = (two (goal.at.overflow_sub-black c).In-len2-up).first

pub overflow_sub-white : goal.overflow_sub-white
overflow_sub-white c = (two (goal.at.overflow_sub-white c).In-len2-up).second

pub put_two_runs-requires-clause-first : goal.put_two_runs-requires-clause-first
put_two_runs-requires-clause-first c =
    let more = two (goal.at.put_two_runs-requires-clause-first c).In-len2-up in
    omega (arith, most_elements c.args.width c.requires.is_width, more.second, more.within)

pub put_two_runs-requires-clause-second : goal.put_two_runs-requires-clause-second
put_two_runs-requires-clause-second c =
    let more = two (goal.at.put_two_runs-requires-clause-second c).In-len2-up in
    omega (arith, most_elements c.args.width c.requires.is_width, more.within)

pub loop-rest-preserved : goal.loop-rest-preserved
loop-rest-preserved c =
    let more = two (goal.at.loop-rest-preserved c).In-len2-up in
    let black : ℕ = get_or c.loop-rest.rest.now 0 0 in
    let white : ℕ = get_or c.loop-rest.rest.now 1 0 in
    let after : List ℕ = take (length c.loop-rest.rest.now - 2) (drop 2 c.loop-rest.rest.now) in
    let row : Elements = painted White 0 c.args.changes.now c.args.width in
    let before : RunsWritten row c.args.writer.now.bits c.loop-rest.writer.bits White ((black - c.loop-rest.from) ∷ (white - black) ∷ runs_between white after c.args.width) =
    subst (λ (runs : List ℕ). RunsWritten row c.args.writer.now.bits c.loop-rest.writer.bits White runs) more.runs c.loop-rest.invariant.written in
    record {
      rising = more.rising;
      written = RunsWritten-two row c.args.writer.now.bits c.loop-rest.writer.bits c.put_two_runs.new.writer.bits (black - c.loop-rest.from) (white - black)
          (runs_between white after c.args.width) before c.put_two_runs.ensures.bits;
      room = omega (arith, c.loop-rest.invariant.room, c.put_two_runs.ensures.room, more.count);
    }

-- ---- one more changing place
one : (c : In-len1-up) → OneMore c.loop-rest.from c.loop-rest.rest.now c.args.width
one c = OneMore-from c.loop-rest.from c.loop-rest.rest.now c.args.width (omega arith) c.loop-rest.invariant.rising

pub overflow_sub-black-2 : goal.overflow_sub-black-2
overflow_sub-black-2 c = (one (goal.at.overflow_sub-black-2 c).In-len1-up).first

pub overflow_sub-width-2 : goal.overflow_sub-width-2
overflow_sub-width-2 c = (one (goal.at.overflow_sub-width-2 c).In-len1-up).within

pub put_two_runs-requires-2-clause-first : goal.put_two_runs-requires-2-clause-first
put_two_runs-requires-2-clause-first c =
    let last = one (goal.at.put_two_runs-requires-2-clause-first c).In-len1-up in
    omega (arith, most_elements c.args.width c.requires.is_width, last.within)

pub returns : goal.returns
returns c =
    let last = one (goal.at.returns c).In-len1-up in
    let black : ℕ = get_or c.loop-rest.rest.now 0 0 in
    let row : Elements = painted White 0 c.args.changes.now c.args.width in
    let before : RunsWritten row c.args.writer.now.bits c.loop-rest.writer.bits White ((black - c.loop-rest.from) ∷ (c.args.width - black) ∷ []) =
    subst (λ (runs : List ℕ). RunsWritten row c.args.writer.now.bits c.loop-rest.writer.bits White runs) last.runs c.loop-rest.invariant.written in
    WritesLine-from row c.args.writer.now.bits c.put_two_runs-2.new.writer.bits White
    (RunsWritten-two row c.args.writer.now.bits c.loop-rest.writer.bits c.put_two_runs-2.new.writer.bits (black - c.loop-rest.from) (c.args.width - black) [] before c.put_two_runs-2.ensures.bits)

-- ---- no more changing place
pub overflow_sub-width : goal.overflow_sub-width
overflow_sub-width c = rising_le c.loop-rest.from c.loop-rest.rest.now c.args.width c.loop-rest.invariant.rising

pub returns-in_default-rest : goal.returns-in_default-rest
returns-in_default-rest c =
    let row : Elements = painted White 0 c.args.changes.now c.args.width in
    let before : RunsWritten row c.args.writer.now.bits c.loop-rest.writer.bits White ((c.args.width - c.loop-rest.from) ∷ []) =
    subst (λ (runs : List ℕ). RunsWritten row c.args.writer.now.bits c.loop-rest.writer.bits White runs)
    (runs_between-none c.loop-rest.from c.loop-rest.rest.now c.args.width (omega arith)) c.loop-rest.invariant.written in
    WritesLine-last row c.args.writer.now.bits c.loop-rest.writer.bits c.put_run.new.writer.bits White (c.args.width - c.loop-rest.from) before c.put_run.ensures.bits
