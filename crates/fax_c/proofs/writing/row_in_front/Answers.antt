use Rattle.std.proofs.Common.{◌≡◌, ℕ, List, ◌+◌, ◌<◌, length, get_or, take, drop, sum, All, refl, subst, sym, ◌∙◌, arith}
use Rattle.std.proofs.lemmas.List.{take_more, length-take-le}
use Rattle.std.proofs.lemmas.List.Elements.{All-nil}
use Rattle.std.proofs.lemmas.List.Sums.{sum_by_more}
use Rattle.fax_runcodes.specs.Widths.{elements_of}
use Rattle.fax_runcodes.proofs.PaintingLemmas.{filled-push, none_too_long, none_empty, none_at_end, no_row_in_front}
use Rattle.fax_c.proofs.FrontLemmas.{row_of_front}
use Rattle.fax_c.proofs.RunsLemmas.{some_width}
use Rattle.fax_c.proofs.writing.row_in_front.Goals as goal
use Rattle.fax_c.proofs.writing.row_in_front.Goals.{then-run-elements-via-then-run-elements, then-run-elements-via-else-run-elements+then-i-gt0}

pub loop-i-init : goal.loop-i-init
loop-i-init c = record {
  place = refl;
  less = omega (arith, some_width c.args.width, c.elements-elements.ensures);
  filled = All-nil (λ (k : ℕ). 0 < k);
}

-- one more run
more_filled : (runs : List ℕ) (i : ℕ) → i < length runs → (0 < i → 0 < get_or runs i 0) → All (λ k. 0 < k) (drop 1 (take i runs)) → All (λ k. 0 < k) (drop 1 (take (i + 1) runs))
more_filled runs i within some filled =
    let size : length (take i runs) ≡ i = length-take-le i runs (omega arith) in
    subst (λ (ns : List ℕ). All (λ k. 0 < k) (drop 1 ns)) (sym (take_more runs i 0 within)) (filled-push (take i runs) (get_or runs i 0) (λ more. some (omega arith)) filled)

pub loop-i-preserved : goal.loop-i-preserved
loop-i-preserved c =
    let runs = c.args.runs.now in
    let i = c.loop-i.i in
    let within : i < length runs = omega arith in
    let some : 0 < i → 0 < get_or runs i 0 = λ later. omega (arith, c.if-i-gt0.either) in
    record {
      place = omega (arith, sum_by_more (λ x. x) runs i 0 within, c.loop-i.invariant.place);
      less = omega arith;
      filled = more_filled runs i within some c.loop-i.invariant.filled;
    }

pub returns-then-run-elements-clause-none : goal.returns-then-run-elements-clause-none
returns-then-run-elements-clause-none c =
    let runs = c.args.runs.now in
    let i = c.loop-i.i in
    let width = c.elements-elements.result in
    let within : i < length runs = omega arith in
    let less : sum (take i runs) < width = omega arith in
    λ row first more wide are is. elim c.then-run-elements.branch [
      | then-run-elements-via-then-run-elements w ↦
          no_row_in_front width runs (λ count adds filled. none_too_long runs i width count within less (omega (arith, w.if-run-elements)) adds) row first more (wide ∙ sym c.elements-elements.ensures) are is
      | then-run-elements-via-else-run-elements+then-i-gt0 w ↦
          no_row_in_front width runs (λ count adds filled. none_empty runs i width count within w.if-i-gt0.true.1 less w.if-i-gt0.true.0 adds filled) row first more (wide ∙ sym c.elements-elements.ensures) are is
    ]

pub returns-then-place-elements-clause-some : goal.returns-then-place-elements-clause-some
returns-then-place-elements-clause-some c =
    let runs = c.args.runs.now in
    let i = c.loop-i.i in
    let within : i < length runs = omega arith in
    let some : 0 < i → 0 < get_or runs i 0 = λ later. omega (arith, c.if-i-gt0.either) in
    let adds : sum (take (i + 1) runs) ≡ elements_of c.args.width = omega (arith, sum_by_more (λ x. x) runs i 0 within, c.loop-i.invariant.place, c.elements-elements.ensures) in
    row_of_front (take (i + 1) runs) c.args.width adds (more_filled runs i within some c.loop-i.invariant.filled)

pub returns-clause-none : goal.returns-clause-none
returns-clause-none c = λ row first more wide are is.
    let runs = c.args.runs.now in
    let i = c.loop-i.i in
    let width = c.elements-elements.result in
    no_row_in_front width runs (λ count adds filled. none_at_end runs i width count (omega arith) (omega arith) adds) row first more (wide ∙ sym c.elements-elements.ensures) are is
