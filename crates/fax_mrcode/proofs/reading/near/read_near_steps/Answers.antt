use Rattle.std.proofs.Common.{◌+◌, ◌-◌, ◌*◌, ◌%◌, ◌^◌, ◌≤◌, ◌≡◌, drop, length, refl, ◌∙◌, arith, inl, inr}
use Rattle.std.proofs.lemmas.List.{drop-drop}
use Rattle.fax_runcodes.specs.declared.Colour.TheVariants.{White}
use Rattle.fax_runcodes.specs.Painted.{painted, colour_after_changes}
use Rattle.fax_mrcode.specs.Starts.{start_of, left_of_a0}
use Rattle.fax_mrcode.proofs.StepLemmas.{StepsSoFar-then}
use Rattle.fax_mrcode.proofs.VerticalLemmas.{Shows-first, after_place, after_none, skipped, passes_shown}
use Rattle.fax_mrcode.proofs.reading.near.read_near_steps.Goals as goal
use Rattle.fax_mrcode.proofs.reading.near.read_near_steps.Goals.{After-near_start-near, After-skip, else-loop-near-test, then-loop-near-test+in_default}

-- the start of a window, by the colour up to the changing place of its index
parity : (c : After-near_start-near) → colour_after_changes c.args.start.index ≡ c.args.start.colour
parity c = (c.requires.start.is_start.cursor c.requires.at.within).parity

pub near_start-near-requires-clause-start : goal.near_start-near-requires-clause-start
near_start-near-requires-clause-start c = rw (c.requires.start.is_start.cursor c.requires.at.within).parity c.requires.start

pub loop-near-init : goal.loop-near-init
loop-near-init c =
    let known = c.known-known.result in
    let reader = c.args.reader.now in
    let shows = Shows-first c.window.result known reader.left c.known-known.ensures c.window.ensures.bits in
    elim c.near_start-near.ensures.taken [
      | inl same ↦ rw (same.0, same.1, parity (goal.at.loop-near-init c).After-near_start-near) (record {
        few = omega arith;
        shows = shows;
        is_start = c.requires.start;
        right = omega arith;
        so_far = λ old so_far. rw (after_none reader known) so_far;
      })
      | inr taken ↦
          let next = c.near_start-near.result in
          let n = known - next.ahead.left in
          let bits = drop (known - known) reader.left in
          let there : known ≤ length bits = shows.there in
          let further : known - next.ahead.left ≡ known - known + n = omega (arith, taken.after.less) in
          let begun = start_of (record { from = c.args.start.from; index = c.args.start.index; ahead = record { window = c.window.result * 2 ^ 8 % 2 ^ 64; left = known } }) in
          record {
            few = omega (arith, taken.after.less);
            shows = rw (further, ← drop-drop n (known - known) reader.left) (taken.after.shows bits shows);
            is_start = c.near_start-near.ensures.next;
            right = omega (arith, taken.takes.right);
            so_far = λ old so_far. StepsSoFar-then (painted White 0 c.args.changes.now c.args.width) c.args.width old (after_place reader (known - known)) (after_place reader (known - next.ahead.left))
                (left_of_a0 c.args.line.now begun) begun (left_of_a0 c.near_start-near.new.line (start_of next)) (start_of next) taken.text
                (rw (parity (goal.at.loop-near-init c).After-near_start-near, after_none reader known) so_far)
                (passes_shown reader (known - known) n (known - next.ahead.left) taken.text (omega arith) (taken.first bits shows) further)
                taken.takes;
          }
    ]

pub loop-near-preserved : goal.loop-near-preserved
loop-near-preserved c =
    let held = c.loop-near.invariant in
    let near = c.loop-near.near in
    let next = c.in-Some.next in
    let left = near.ahead.left in
    let passed = c.known-known.result - left in
    let n = left - next.ahead.left in
    let bits = drop passed c.args.reader.now.left in
    let there : left ≤ length bits = held.shows.there in
    let taken = c.in-Some.ensures.taken in
    let further : c.known-known.result - next.ahead.left ≡ passed + n = omega (arith, held.few, taken.after.less) in
    record {
      few = omega (arith, held.few, taken.after.less);
      shows = rw (further, ← drop-drop n passed c.args.reader.now.left) (taken.after.shows bits held.shows);
      is_start = c.in-Some.ensures.next;
      right = omega (arith, held.right, taken.takes.right);
      so_far = λ old so_far. StepsSoFar-then (painted White 0 c.args.changes.now c.args.width) c.args.width old (after_place c.args.reader.now passed) (after_place c.args.reader.now (c.known-known.result - next.ahead.left))
          (left_of_a0 c.loop-near.line (start_of near)) (start_of near) (left_of_a0 c.near_step.new.line (start_of next)) (start_of next) taken.text
          (held.so_far old so_far)
          (passes_shown c.args.reader.now passed n (c.known-known.result - next.ahead.left) taken.text (omega arith) (taken.first bits held.shows) further)
          taken.takes;
    }

same_line : (c : After-skip) → c.loop-near-test.line ≡ c.loop-near.line
same_line c = elim c.loop-near-test.branch [
  | else-loop-near-test w ↦ w.line-is
  | then-loop-near-test+in_default w ↦ w.line-is ∙ w.in_default.ensures.none refl
]

pub returns-clause-next : goal.returns-clause-next
returns-clause-next c = rw (same_line (goal.at.returns-clause-next c).After-skip, c.after_changes.ensures) c.loop-near.invariant.is_start

pub returns-clause-so_far : goal.returns-clause-so_far
returns-clause-so_far c = λ old so_far. (
    let within : c.known-known.result - c.loop-near.near.ahead.left ≤ length c.args.reader.now.left = omega (arith, c.known-known.ensures) in
    rw (same_line (goal.at.returns-clause-so_far c).After-skip, c.after_changes.ensures, ← skipped c.args.reader.now c.skip.new.self (c.known-known.result - c.loop-near.near.ahead.left) within c.skip.ensures) (c.loop-near.invariant.so_far old so_far))
