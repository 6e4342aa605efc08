use Rattle.std.proofs.Common.{◌≡◌, ℕ, List, ◌+◌, ◌<◌, ◌++◌, ◌∷◌, [], length, get_or, take, drop, sum, All, refl, ap, subst, sym, ◌∙◌, arith}
use Rattle.std.proofs.lemmas.List.{take_more, length-take-le}
use Rattle.std.proofs.lemmas.List.Elements.{All-nil}
use Rattle.std.proofs.lemmas.List.Sums.{sum_by_more}
use Rattle.fax_runcodes.specs.Rows.{IsWidth}
use Rattle.fax_runcodes.specs.Painted.{changes_between}
use Rattle.fax_runcodes.proofs.PaintingLemmas.{ends_of, ends_of-push, changes_between-push, filled-push, none_too_long, none_empty}
use Rattle.fax_runcodes.proofs.row.painting.push_ends.Goals as goal
use Rattle.fax_runcodes.proofs.row.painting.push_ends.Goals.{then-run-width-via-then-run-width, then-run-width-via-else-run-width+then-i-gt0}

pub loop-i-init : goal.loop-i-init
unfolding ends_of
loop-i-init c = record {
  ends = c.requires.empty;
  place = refl;
  less = omega arith;
  filled = All-nil (λ (k : ℕ). 0 < k);
  few = omega arith;
  count = c.args.ends.now.ok.0 ∙ ap length c.requires.empty;
  room = omega arith;
}

-- one more run
more_filled : (runs : List ℕ) (i : ℕ) → i < length runs → (0 < i → 0 < get_or runs i 0) → All (λ k. 0 < k) (drop 1 (take i runs)) → All (λ k. 0 < k) (drop 1 (take (i + 1) runs))
more_filled runs i within some filled =
    let size : length (take i runs) ≡ i = length-take-le i runs (omega arith) in
    subst (λ (ns : List ℕ). All (λ k. 0 < k) (drop 1 ns)) (sym (take_more runs i 0 within)) (filled-push (take i runs) (get_or runs i 0) (λ more. some (omega arith)) filled)

more_ends : (runs ends new : List ℕ) (i place : ℕ) → i < length runs → place ≡ sum (take i runs) → ends ≡ ends_of 0 (take i runs) → new ≡ ends ++ (place + get_or runs i 0) ∷ []
    → new ≡ ends_of 0 (take (i + 1) runs)
more_ends runs ends new i place within adds so_far pushed =
    pushed ∙ ap (λ (ps : List ℕ). ps ++ (place + get_or runs i 0) ∷ []) so_far
    ∙ sym (ends_of-push 0 (take i runs) (get_or runs i 0) (place + get_or runs i 0) (omega arith))
    ∙ ap (λ (ns : List ℕ). ends_of 0 ns) (sym (take_more runs i 0 within))

pub loop-i-preserved : goal.loop-i-preserved
loop-i-preserved c =
    let runs = c.args.runs.now in
    let i = c.loop-i.i in
    let within : i < length runs = omega arith in
    let some : 0 < i → 0 < get_or runs i 0 = λ later. omega (arith, c.if-i-gt0.either) in
    record {
      ends = more_ends runs c.loop-i.ends.items c.push_reserved.new.self.items i c.loop-i.place within c.loop-i.invariant.place c.loop-i.invariant.ends c.push_reserved.ensures.items;
      place = omega (arith, sum_by_more (λ x. x) runs i 0 within, c.loop-i.invariant.place);
      less = omega arith;
      filled = more_filled runs i within some c.loop-i.invariant.filled;
      few = omega (arith, some);
      count = omega (arith, c.push_reserved.ensures.len, c.loop-i.invariant.count);
      room = omega (arith, c.push_reserved.ensures.capacity, c.loop-i.invariant.room);
    }

pub returns-then-run-width-clause-none : goal.returns-then-run-width-clause-none
returns-then-run-width-clause-none c =
    let runs = c.args.runs.now in
    let i = c.loop-i.i in
    let within : i < length runs = omega arith in
    let less : sum (take i runs) < c.args.width = omega arith in
    elim c.then-run-width.branch [
      | then-run-width-via-then-run-width w ↦ λ count adds filled. none_too_long runs i c.args.width count within less (omega (arith, w.if-run-width)) adds
      | then-run-width-via-else-run-width+then-i-gt0 w ↦ λ count adds filled. none_empty runs i c.args.width count within w.if-i-gt0.true.1 less w.if-i-gt0.true.0 adds filled
    ]

pub returns-then-place-width-clause-runs : goal.returns-then-place-width-clause-runs
returns-then-place-width-clause-runs c =
    let runs = c.args.runs.now in
    let i = c.loop-i.i in
    let within : i < length runs = omega arith in
    let some : 0 < i → 0 < get_or runs i 0 = λ later. omega (arith, c.if-i-gt0.either) in
    let adds : sum (take (i + 1) runs) ≡ c.args.width = omega (arith, sum_by_more (λ x. x) runs i 0 within, c.loop-i.invariant.place) in (
      record {
        width = subst IsWidth (sym adds) c.requires.is_width;
        not_empty = more_filled runs i within some c.loop-i.invariant.filled;
      },
      adds,
      omega arith,
    )

pub returns-then-place-width-clause-ends : goal.returns-then-place-width-clause-ends
returns-then-place-width-clause-ends c =
    let within : c.loop-i.i < length c.args.runs.now = omega arith in
    c.loop-i.invariant.ends ∙ sym (changes_between-push 0 (take c.loop-i.i c.args.runs.now) (get_or c.args.runs.now c.loop-i.i 0)) ∙ ap (λ (ns : List ℕ). changes_between 0 ns) (sym (take_more c.args.runs.now c.loop-i.i 0 within))
