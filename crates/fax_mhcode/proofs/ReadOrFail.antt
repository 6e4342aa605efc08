-- Any bits begin with a one-dimensional line of a width, or reading one meets a fault.
use Rattle.std.proofs.Common.{◌≡◌, ◌⊎◌, ℕ, zero, suc, ◌+◌, ◌<◌, ◌≤◌, Bool, List, [], ◌++◌, length, replicate, refl, ◌∙◌, ap, subst, arith, inl, inr, length-append}
use Rattle.std.proofs.lemmas.Bool.{cases_lt}
use Rattle.fax_bits.specs.Reading.{Place, Passes}
use Rattle.fax_runcodes.specs.declared.Colour.{Colour}
use Rattle.fax_runcodes.specs.declared.Colour.TheVariants.{White}
use Rattle.fax_runcodes.specs.declared.fault.RunFault.{RunFault}
use Rattle.fax_runcodes.specs.Rows.{Elements, other}
use Rattle.fax_runcodes.specs.RunFaults.{FailsRun, ReadsRun}
use Rattle.fax_runcodes.proofs.ReadOrFail.{runs_are_read_or_fail}
use Rattle.fax_runcodes.proofs.RunLaws.{SpellsRun-some}
use Rattle.fax_mhcode.specs.declared.fault.LineFault.{LineFault}
use Rattle.fax_mhcode.specs.declared.fault.LineFault.TheVariants.{Run, PastWidth}
use Rattle.fax_mhcode.specs.Laws.{BeginWithLine, LinesAreReadOrFail}
use Rattle.fax_mhcode.specs.LineFaults.{FailsLine}
use Rattle.fax_mhcode.specs.Lines.{SpellsLine}
use Rattle.fax_mhcode.specs.Pairs.{RunsSoFar}
use Rattle.fax_mhcode.proofs.LineLemmas.{RunsSoFar-none, RunsSoFar-more, SpellsLine-from, FailsLine-from}

abbrev ReadsOrFails : ℕ → List Bool → Type 0
ReadsOrFails width bits = BeginWithLine width bits ⊎ ((fault : LineFault) × FailsLine width bits fault)

-- the line, where the runs reach the width
whole_line : (width : ℕ) (old new : Place) (row : Elements) (colour : Colour) → RunsSoFar width old new row colour → width ≤ length row → ReadsOrFails width old.left
whole_line width old new row colour r le =
    let line : (text : List Bool) × SpellsLine width text row × Passes old new text = SpellsLine-from width old new row colour r le in
    inl (line.0, new.left, row, line.1, line.2.bits)

-- the next run can't be read
run_fails : (width : ℕ) (old mid : Place) (row : Elements) (colour : Colour) (r : RunsSoFar width old mid row colour) → length row < width
    → (fault : RunFault) × FailsRun colour mid.left fault → ReadsOrFails width old.left
run_fails width old mid row colour r lt (fault, fails) =
    inr (Run fault, FailsLine-from width old mid row colour (Run fault) r lt (subst (λ (k : Colour). FailsRun k mid.left fault) r.colour_is fails))

-- it goes past the width
run_past : (width : ℕ) (old mid : Place) (row : Elements) (colour : Colour) (r : RunsSoFar width old mid row colour) → length row < width
    → (run : ℕ) (rest : List Bool) → ReadsRun colour mid.left run rest → width < length row + run → ReadsOrFails width old.left
run_past width old mid row colour r lt run rest reads past =
    inr (
      PastWidth,
      FailsLine-from width old mid row colour PastWidth r lt
          (run, rest, subst (λ (k : Colour). ReadsRun k mid.left run rest) r.colour_is reads, omega (arith, r.sum_is)),
    )

read_from : (width n : ℕ) (old mid : Place) (row : Elements) (colour : Colour) → length mid.left < n → RunsSoFar width old mid row colour → length row < width → ReadsOrFails width old.left
read_from width zero old mid row colour few r lt = absurd (omega arith)
read_from width (suc n) old mid row colour few r lt = elim (runs_are_read_or_fail colour mid.left) [
  | inr fails ↦ run_fails width old mid row colour r lt fails
  | inl reads ↦
      let run : ℕ = reads.0 in
      let rest : List Bool = reads.1 in
      let is : ReadsRun colour mid.left run rest = reads.2 in
      elim (cases_lt width (length row + run)) [
        | inl past ↦ run_past width old mid row colour r lt run rest is past
        | inr fits ↦
            let new : Place = record { passed = mid.passed + length is.text; left = rest } in
            let passes : Passes mid new is.text = record { bits = is.bits_are; place = refl } in
            let more : RunsSoFar width old new (row ++ replicate run colour) (other colour) = RunsSoFar-more width old mid new row colour is.text run r is.spelt passes lt fits in
            elim (cases_lt (length (row ++ replicate run colour)) width) [
              | inr reached ↦ whole_line width old new (row ++ replicate run colour) (other colour) more reached
              | inl inside ↦
                  let some : 0 < length is.text = SpellsRun-some colour is.text run is.spelt in
                  let parts : length mid.left ≡ length is.text + length rest = ap length is.bits_are ∙ length-append is.text rest in
                  read_from width n old new (row ++ replicate run colour) (other colour) (omega arith) more inside
            ]
      ]
]

-- Any bits begin with a line of a width, or reading one meets a fault.
pub lines_are_read_or_fail : LinesAreReadOrFail
lines_are_read_or_fail width bits =
    let start : Place = record { passed = 0; left = bits } in
    elim (cases_lt 0 width) [
      | inl some ↦ read_from width (suc (length bits)) start start [] White (omega arith) (RunsSoFar-none width start) some
      | inr none ↦ whole_line width start start [] White (RunsSoFar-none width start) none
    ]
