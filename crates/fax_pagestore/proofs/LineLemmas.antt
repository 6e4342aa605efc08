-- Two one-dimensional lines that begin with runs of the same elements: both are read as one row, or both meet one fault.
use Rattle.std.proofs.Common.{◌≡◌, ℕ, zero, suc, ◌+◌, ◌-◌, ◌*◌, ◌%◌, ◌<◌, ◌≤◌, ◌==◌, Bool, false, List, [], ◌∷◌, ◌++◌, Result, Ok, Err, IfOk, length, sum, take, drop, get_or, replicate, refl, sym, ◌∙◌, ap, subst, arith, inl, inr, ◌⊎◌, append_assoc, append-nil, length-append, length-drop}
use Rattle.std.proofs.lemmas.Bool.{cases_lt}
use Rattle.std.proofs.lemmas.List.{length-replicate, take_more, take_all, drop_at, drop_more, drop_all}
use Rattle.std.proofs.lemmas.List.Sums.{sum_by-take-le, get_or-le-sum_by}
use Rattle.fax_bits.specs.Bits.{bits_of}
use Rattle.fax_bits.specs.Reading.{Place, Passes}
use Rattle.fax_bits.specs.Writing.{IsPadded}
use Rattle.fax_bits.proofs.BitsLemmas.{length-bits_of}
use Rattle.fax_runcodes.specs.declared.Colour.{Colour}
use Rattle.fax_runcodes.specs.declared.Colour.TheVariants.{White, Black}
use Rattle.fax_runcodes.specs.declared.fault.RunFault.{RunFault}
use Rattle.fax_runcodes.specs.Rows.{Elements, other, stretches}
use Rattle.fax_runcodes.specs.RunFaults.{FailsRun, ReadsRun}
use Rattle.fax_runcodes.specs.Spelling.{SpellsRun, written_run}
use Rattle.fax_runcodes.proofs.ReadOrFail.{runs_are_read_or_fail}
use Rattle.fax_runcodes.proofs.RunLaws.{SpellsRun-some}
use Rattle.fax_runcodes.proofs.WriteLemmas.{written_run_spells}
use Rattle.fax_mhcode.specs.declared.fault.LineFault.{LineFault}
use Rattle.fax_mhcode.specs.declared.fault.LineFault.TheVariants.{Run, PastWidth}
use Rattle.fax_mhcode.specs.Lines.{SpellsRuns, SpellsLine, written_runs}
use Rattle.fax_mhcode.specs.LineFaults.{FailsLine, colour_after}
use Rattle.fax_mhcode.specs.Pairs.{RunsSoFar}
use Rattle.fax_mhcode.proofs.LineLaws.{sum-cons, length-stretches}
use Rattle.fax_mhcode.proofs.LineLemmas.{RunsSoFar-more, SpellsLine-from, FailsLine-from, colour_after_is, colour_after-push, stretches-push, sum-push}
use Rattle.fax_pagestore.specs.PageFaults.{LineBegins}
use Rattle.fax_pagestore.specs.LinesUnderWay.{BeginsLine, BeginSameLine}
use Rattle.fax_pagestore.proofs.TextLemmas.{run_begins}

-- ---- both lines

-- bits begin with the line of a row, and this is left after it
abbrev pub HasLine : ℕ → List Bool → Elements → List Bool → Type 0
HasLine width bits row rest = (text : List Bool) × SpellsLine width text row × (bits ≡ text ++ rest)

-- one row is read of both, with the same after it
abbrev pub BothRead : ℕ → List Bool → List Bool → Type 0
BothRead width a b = (row : Elements) × (rest : List Bool) × HasLine width a row rest × HasLine width b row rest

-- both meet one fault
abbrev pub BothFail : ℕ → List Bool → List Bool → Type 0
BothFail width a b = (fault : LineFault) × FailsLine width a fault × FailsLine width b fault

both_fail : (width : ℕ) (a mid b here : Place) (row : Elements) (colour : Colour) → (r : RunsSoFar width a mid row colour) → (s : RunsSoFar width b here row colour) → mid.left ≡ here.left
    → length row < width → (fault : RunFault) × FailsRun colour mid.left fault → BothFail width a.left b.left
both_fail width a mid b here row colour r s same lt (fault, fails) = (
  Run fault,
  FailsLine-from width a mid row colour (Run fault) r lt (subst (λ (k : Colour). FailsRun k mid.left fault) r.colour_is fails),
  FailsLine-from width b here row colour (Run fault) s lt (subst (λ (k : Colour). FailsRun k here.left fault) s.colour_is (subst (λ (bits : List Bool). FailsRun colour bits fault) same fails)),
)

both_past : (width : ℕ) (a mid b here : Place) (row : Elements) (colour : Colour) → (r : RunsSoFar width a mid row colour) → (s : RunsSoFar width b here row colour) → mid.left ≡ here.left
    → length row < width → (run : ℕ) (rest : List Bool) → ReadsRun colour mid.left run rest → width < length row + run → BothFail width a.left b.left
both_past width a mid b here row colour r s same lt run rest reads past =
    let also : ReadsRun colour here.left run rest = subst (λ (bits : List Bool). ReadsRun colour bits run rest) same reads in (
      PastWidth,
      FailsLine-from width a mid row colour PastWidth r lt (run, rest, subst (λ (k : Colour). ReadsRun k mid.left run rest) r.colour_is reads, omega (arith, r.sum_is, past)),
      FailsLine-from width b here row colour PastWidth s lt (run, rest, subst (λ (k : Colour). ReadsRun k here.left run rest) s.colour_is also, omega (arith, s.sum_is, past)),
    )

both_whole : (width : ℕ) (a mid b here : Place) (row : Elements) (colour : Colour) → RunsSoFar width a mid row colour → RunsSoFar width b here row colour → mid.left ≡ here.left
    → width ≤ length row → BothRead width a.left b.left
both_whole width a mid b here row colour r s same le =
    let one = SpellsLine-from width a mid row colour r le in
    let also = SpellsLine-from width b here row colour s le in
    (row, mid.left, (one.0, one.1, one.2.bits), (also.0, also.1, also.2.bits ∙ ap (λ (bits : List Bool). also.0 ++ bits) (sym same)))

both_from : (width n : ℕ) (a mid b here : Place) (row : Elements) (colour : Colour) → length mid.left < n → RunsSoFar width a mid row colour → RunsSoFar width b here row colour
    → mid.left ≡ here.left → length row < width → BothRead width a.left b.left ⊎ BothFail width a.left b.left
both_from width zero a mid b here row colour few r s same lt = absurd (omega arith)
both_from width (suc n) a mid b here row colour few r s same lt = elim (runs_are_read_or_fail colour mid.left) [
  | inr fails ↦ inr (both_fail width a mid b here row colour r s same lt fails)
  | inl reads ↦
      let run : ℕ = reads.0 in
      let rest : List Bool = reads.1 in
      let is : ReadsRun colour mid.left run rest = reads.2 in
      elim (cases_lt width (length row + run)) [
        | inl past ↦ inr (both_past width a mid b here row colour r s same lt run rest is past)
        | inr fits ↦
            let new : Place = record { passed = mid.passed + length is.text; left = rest } in
            let next : Place = record { passed = here.passed + length is.text; left = rest } in
            let passes : Passes mid new is.text = record { bits = is.bits_are; place = refl } in
            let also : Passes here next is.text = record { bits = sym same ∙ is.bits_are; place = refl } in
            let more : RunsSoFar width a new (row ++ replicate run colour) (other colour) = RunsSoFar-more width a mid new row colour is.text run r is.spelt passes lt fits in
            let too : RunsSoFar width b next (row ++ replicate run colour) (other colour) = RunsSoFar-more width b here next row colour is.text run s is.spelt also lt fits in
            elim (cases_lt (length (row ++ replicate run colour)) width) [
              | inr reached ↦ inl (both_whole width a new b next (row ++ replicate run colour) (other colour) more too refl reached)
              | inl inside ↦
                  let some : 0 < length is.text = SpellsRun-some colour is.text run is.spelt in
                  let parts : length mid.left ≡ length is.text + length rest = ap length is.bits_are ∙ length-append is.text rest in
                  both_from width n a new b next (row ++ replicate run colour) (other colour) (omega arith) more too refl inside
            ]
      ]
]

-- ---- lines that begin

so_far : (width : ℕ) (bits : List Bool) (row : Elements) (colour : Colour) (rest : List Bool) → (l : BeginsLine width bits row colour rest)
    → RunsSoFar width (record { passed = 0; left = bits }) (record { passed = length l.text; left = rest }) row colour
so_far width bits row colour rest l = record {
  runs = l.runs;
  text = l.text;
  spelt = l.spelt;
  passes = record { bits = l.bits_are; place = omega arith };
  row_is = l.row_is;
  colour_is = l.colour_is;
  not_before = λ k lt. omega (arith, l.within, sum_by-take-le (λ x. x) l.runs k);
  within = omega (arith, l.within);
  sum_is = ap length l.row_is ∙ length-stretches White l.runs;
}

short : (width : ℕ) (bits : List Bool) (row : Elements) (colour : Colour) (rest : List Bool) → BeginsLine width bits row colour rest → length row < width
short width bits row colour rest l = omega (arith, l.within, ap length l.row_is ∙ length-stretches White l.runs)

-- One row is read of lines that begin so, or both meet one fault.
pub both_lines : (width : ℕ) (a b : List Bool) → BeginSameLine width a b → BothRead width a b ⊎ BothFail width a b
both_lines width a b s =
    both_from width (suc (length s.rest)) (record { passed = 0; left = a }) (record { passed = length s.one.text; left = s.rest })
    (record { passed = 0; left = b }) (record { passed = length s.same.text; left = s.rest }) s.row s.colour (omega arith)
    (so_far width a s.row s.colour s.rest s.one) (so_far width b s.row s.colour s.rest s.same) refl (short width a s.row s.colour s.rest s.one)

first_begins : (runs : List ℕ) (text rest : List Bool) → 0 < length runs → SpellsRuns White text runs → LineBegins (text ++ rest)
first_begins [] text rest some p = absurd (omega (arith, some))
first_begins (run ∷ runs) text rest some (first, more, e, p, q) =
    subst LineBegins (sym (ap (λ (t : List Bool). t ++ rest) e ∙ append_assoc first more rest)) (run_begins White first (more ++ rest) run p)

pub line_begins : (width : ℕ) (bits : List Bool) (row : Elements) (colour : Colour) (rest : List Bool) → BeginsLine width bits row colour rest → LineBegins bits
line_begins width bits row colour rest l = subst LineBegins (sym l.bits_are) (first_begins l.runs l.text rest l.some l.spelt)

line_more : (width : ℕ) (bits : List Bool) (row : Elements) (colour : Colour) (rest more : List Bool) → BeginsLine width bits row colour rest → BeginsLine width (bits ++ more) row colour (rest ++ more)
line_more width bits row colour rest more l = record {
  runs = l.runs;
  text = l.text;
  spelt = l.spelt;
  bits_are = ap (λ (b : List Bool). b ++ more) l.bits_are ∙ append_assoc l.text rest more;
  row_is = l.row_is;
  colour_is = l.colour_is;
  some = l.some;
  within = l.within;
}

-- They begin so whatever follows both.
pub same_more : (width : ℕ) (a b more : List Bool) → BeginSameLine width a b → BeginSameLine width (a ++ more) (b ++ more)
same_more width a b more s = record {
  row = s.row;
  colour = s.colour;
  rest = s.rest ++ more;
  one = line_more width a s.row s.colour s.rest more s.one;
  same = line_more width b s.row s.colour s.rest more s.same;
}

-- ---- runs

-- runs that are added to those of a line
pub added_row : (runs all : List ℕ) (run : ℕ) → all ≡ runs ++ run ∷ [] → stretches White all ≡ stretches White runs ++ replicate run (colour_after runs)
added_row runs all run e =
    ap (stretches White) e ∙ stretches-push White runs run ∙ ap (λ (c : Colour). stretches White runs ++ replicate run c) (colour_after_is runs)

pub added_colour : (runs all : List ℕ) (run : ℕ) → all ≡ runs ++ run ∷ [] → colour_after all ≡ other (colour_after runs)
added_colour runs all run e = ap colour_after e ∙ colour_after-push runs run

pub added_sum : (runs all : List ℕ) (run : ℕ) → all ≡ runs ++ run ∷ [] → sum all ≡ sum runs + run
added_sum runs all run e = ap sum e ∙ sum-push runs run

-- the last of some runs, which has no elements
last_empty : (runs : List ℕ) → 0 < length runs → get_or runs (length runs - 1) 0 ≡ 0 → runs ≡ take (length runs - 1) runs ++ 0 ∷ []
last_empty runs some none =
    let n : ℕ = length runs - 1 in
    let size : n + 1 ≡ length runs = omega (arith, some) in
    sym (take_all (n + 1) runs (omega arith)) ∙ take_more runs n 0 (omega arith) ∙ ap (λ (k : ℕ). take n runs ++ k ∷ []) none

twice : (colour : Colour) → other (other colour) ≡ colour
twice White = refl
twice Black = refl

-- where such a run is left out with the next one, which has none either
pub left_out_row : (runs fewer : List ℕ) (run : ℕ) → 0 < length runs → get_or runs (length runs - 1) 0 ≡ 0 → run ≡ 0 → fewer ≡ take (length runs - 1) runs
    → stretches White fewer ≡ stretches White runs ++ replicate run (colour_after runs)
left_out_row runs fewer run some none empty e =
    let whole : runs ≡ fewer ++ 0 ∷ [] = last_empty runs some none ∙ ap (λ (rs : List ℕ). rs ++ 0 ∷ []) (sym e) in
    let before : stretches White runs ≡ stretches White fewer = added_row fewer runs 0 whole ∙ append-nil (stretches White fewer) in
    sym before ∙ sym (append-nil (stretches White runs)) ∙ ap (λ (n : ℕ). stretches White runs ++ replicate n (colour_after runs)) (sym empty)

pub left_out_colour : (runs fewer : List ℕ) → 0 < length runs → get_or runs (length runs - 1) 0 ≡ 0 → fewer ≡ take (length runs - 1) runs → colour_after fewer ≡ other (colour_after runs)
left_out_colour runs fewer some none e =
    let whole : runs ≡ fewer ++ 0 ∷ [] = last_empty runs some none ∙ ap (λ (rs : List ℕ). rs ++ 0 ∷ []) (sym e) in
    sym (twice (colour_after fewer)) ∙ ap other (sym (added_colour fewer runs 0 whole))

pub left_out_sum : (runs fewer : List ℕ) (run : ℕ) → 0 < length runs → get_or runs (length runs - 1) 0 ≡ 0 → run ≡ 0 → fewer ≡ take (length runs - 1) runs → sum fewer ≡ sum runs + run
left_out_sum runs fewer run some none empty e =
    let whole : runs ≡ fewer ++ 0 ∷ [] = last_empty runs some none ∙ ap (λ (rs : List ℕ). rs ++ 0 ∷ []) (sym e) in
    omega (arith, added_sum fewer runs 0 whole, empty)

-- runs as they are written spell them
pub written_runs_spell : (colour : Colour) (runs : List ℕ) → sum runs ≤ 2432 → SpellsRuns colour (written_runs colour runs) runs
written_runs_spell colour [] few = refl
written_runs_spell colour (n ∷ runs) few = (
  written_run colour n,
  written_runs (other colour) runs,
  refl,
  written_run_spells colour n (omega (arith, few, sum-cons n runs)),
  written_runs_spell (other colour) runs (omega (arith, few, sum-cons n runs)),
)

-- some text spells some runs
runs_some : (colour : Colour) (text : List Bool) (runs : List ℕ) → SpellsRuns colour text runs → 0 < length text → 0 < length runs
runs_some colour text [] e some = absurd (omega (arith, ap length e, some))
runs_some colour text (run ∷ runs) p some = omega arith

-- one run more, with the runs that are kept then
pub runs_more : (width : ℕ) (old mid new : Place) (runs all : List ℕ) (colour : Colour) (text : List Bool) (run : ℕ) → colour ≡ colour_after runs
    → RunsSoFar width old mid (stretches White runs) (colour_after runs) → SpellsRun colour text run → Passes mid new text → sum runs + run ≤ width → sum runs < width
    → stretches White all ≡ stretches White runs ++ replicate run (colour_after runs) → colour_after all ≡ other (colour_after runs)
    → RunsSoFar width old new (stretches White all) (colour_after all)
runs_more width old mid new runs all colour text run is r spelt passes fits within row turns =
    let size : length (stretches White runs) ≡ sum runs = length-stretches White runs in
    let more : RunsSoFar width old new (stretches White runs ++ replicate run (colour_after runs)) (other (colour_after runs)) =
    RunsSoFar-more width old mid new (stretches White runs) (colour_after runs) text run r (subst (λ (c : Colour). SpellsRun c text run) is spelt) passes (omega (arith, size, within)) (omega (arith, size, fits)) in
    subst (λ (c : Colour). RunsSoFar width old new (stretches White all) c) (sym turns)
    (subst (λ (es : Elements). RunsSoFar width old new es (other (colour_after runs))) (sym row) more)

-- ---- a line written anew

-- The runs that were read, and others of the same elements that are written in their place.
pub line_anew : (width : ℕ) (old new : Place) (runs : List ℕ) (kept : List Bool) → width ≤ 2432 → RunsSoFar width old new (stretches White runs) (colour_after runs) → sum runs < width
    → 0 < length runs → old.passed < new.passed → kept ≡ written_runs White runs ++ new.left → BeginSameLine width old.left kept
line_anew width old new runs kept most r within some on e =
    let long : 0 < length r.text = omega (arith, on, r.passes.place) in
    let size : length (stretches White runs) ≡ sum runs = length-stretches White runs in
    record {
      row = stretches White runs;
      colour = colour_after runs;
      rest = new.left;
      one = record {
        runs = r.runs;
        text = r.text;
        spelt = r.spelt;
        bits_are = r.passes.bits;
        row_is = r.row_is;
        colour_is = r.colour_is;
        some = runs_some White r.text r.runs r.spelt long;
        within = omega (arith, r.sum_is, size, within);
      };
      same = record {
        runs = runs;
        text = written_runs White runs;
        spelt = written_runs_spell White runs (omega (arith, within, most));
        bits_are = e;
        row_is = refl;
        colour_is = refl;
        some = some;
        within = within;
      };
    }

-- octets that hold as many bits as whole octets have hold nothing more
not_padded : (octets : List ℕ) (bits : List Bool) → length bits % 8 ≡ 0 → IsPadded octets bits → bits_of octets ≡ bits
not_padded octets bits whole (zeros, few, e) =
    let size : 8 * length octets ≡ length bits + zeros =
    sym (length-bits_of octets) ∙ ap length e ∙ length-append bits (replicate zeros false) ∙ ap (λ k. length bits + k) (length-replicate zeros false) in
    let none : zeros ≡ 0 = omega (arith, size, whole, few) in
    e ∙ ap (λ n. bits ++ replicate n false) none ∙ append-nil bits

-- after so many zeros that they are as many stand the bits
pub written_after : (octets : List ℕ) (all front line rest : List Bool) (used : ℕ) → (length line + length rest + used) % 8 ≡ 0 → front ≡ replicate used false → all ≡ (front ++ line) ++ rest → IsPadded octets all
    → drop used (bits_of octets) ≡ line ++ rest
written_after octets all front line rest used whole zeros e padded =
    let is : all ≡ front ++ (line ++ rest) = e ∙ append_assoc front line rest in
    let long : length front ≡ used = ap length zeros ∙ length-replicate used false in
    let size : length all ≡ length front + (length line + length rest) = ap length is ∙ length-append front (line ++ rest) ∙ ap (λ k. length front + k) (length-append line rest) in
    let sum : length all % 8 ≡ 0 = ap (λ k. k % 8) (omega (arith, size, long)) ∙ whole in
    ap (drop used) (not_padded octets all sum padded ∙ is) ∙ drop_at front (line ++ rest) used long

pub written_within : (octets : List ℕ) (all front line rest : List Bool) (used : ℕ) → (length line + length rest + used) % 8 ≡ 0 → front ≡ replicate used false → all ≡ (front ++ line) ++ rest → IsPadded octets all
    → used ≤ 8 * length octets
written_within octets all front line rest used whole zeros e (more, few, is) =
    let long : length front ≡ used = ap length zeros ∙ length-replicate used false in
    let size : 8 * length octets ≡ length all + more =
    sym (length-bits_of octets) ∙ ap length is ∙ length-append all (replicate more false) ∙ ap (λ k. length all + k) (length-replicate more false) in
    omega (arith, size, long, ap length e, length-append (front ++ line) rest, length-append front line)

-- ---- what is written

-- one more run of those that are left to be written
pub run_written : (before after all : List Bool) (colour next : Colour) (runs : List ℕ) (i run : ℕ) → i < length runs → run ≡ get_or runs i 0 → next ≡ other colour
    → after ≡ before ++ written_run colour run → before ++ written_runs colour (drop i runs) ≡ all → after ++ written_runs next (drop (i + 1) runs) ≡ all
run_written before after all colour next runs i run lt is turns e so_far =
    let split : written_runs colour (drop i runs) ≡ written_run colour run ++ written_runs next (drop (i + 1) runs) =
    ap (written_runs colour) (drop_more runs i 0 lt) ∙ ap (λ (n : ℕ). written_run colour n ++ written_runs (other colour) (drop (i + 1) runs)) (sym is)
    ∙ ap (λ (c : Colour). written_run colour run ++ written_runs c (drop (i + 1) runs)) (sym turns) in
    ap (λ (bits : List Bool). bits ++ written_runs next (drop (i + 1) runs)) e ∙ append_assoc before (written_run colour run) (written_runs next (drop (i + 1) runs))
    ∙ ap (λ (bits : List Bool). before ++ bits) (sym split) ∙ so_far

-- where none is left
pub runs_written : (bits all : List Bool) (colour : Colour) (runs : List ℕ) (i : ℕ) → length runs ≤ i → bits ++ written_runs colour (drop i runs) ≡ all → bits ≡ all
runs_written bits all colour runs i le so_far =
    sym (append-nil bits) ∙ ap (λ (rs : List ℕ). bits ++ written_runs colour rs) (sym (drop_all i runs le)) ∙ so_far

-- no run is longer than all of them
pub one_run : (runs : List ℕ) (i : ℕ) → i < length runs → get_or runs i 0 ≤ sum runs
one_run runs i lt = get_or-le-sum_by (λ x. x) runs i 0 lt

-- some of the bits that are left to be written
pub rest_written : (before after all left rest part word : List Bool) → left ≡ part ++ rest → word ≡ part → after ≡ before ++ word → before ++ left ≡ all → after ++ rest ≡ all
rest_written before after all left rest part word e is put so_far =
    ap (λ (bits : List Bool). bits ++ rest) (put ∙ ap (λ (bits : List Bool). before ++ bits) is) ∙ append_assoc before part rest ∙ ap (λ (bits : List Bool). before ++ bits) (sym e) ∙ so_far

-- what follows of what was answered
pub IfOk_map : {T E : Type 0} (result : Result T E) (P Q : T → Type 0) → ((value : T) → P value → Q value) → IfOk result P → IfOk result Q
IfOk_map (Ok value) P Q so p = so value p
IfOk_map (Err fault) P Q so p = tt

-- so many octets have no more bits
pub few_bits : (octets : List ℕ) (used : ℕ) → length octets ≤ 8192 → length (drop used (bits_of octets)) ≤ 8 * 8192
few_bits octets used few = omega (arith, few, length-drop used (bits_of octets), length-bits_of octets)

pub not_empty : (n : ℕ) (empty : Bool) → empty ≡ (n == 0) → empty ≡ false → 0 < n
not_empty zero empty is some = absurd (cc (is, some))
not_empty (suc n) empty is some = omega arith
