-- Faults that stay, whatever bits follow.
use Rattle.std.proofs.Common.{◌≡◌, ◌≢◌, ℕ, ◌+◌, ◌≤◌, Bool, true, false, List, ◌∷◌, ◌++◌, length, take, drop, replicate, Result, Ok, Err, IsOk, IfErr, refl, sym, ◌∙◌, ap, subst, arith, append_assoc, length-append, length-drop, inl, inr}
use Rattle.std.proofs.lemmas.List.{take-append-drop, take-append-le, take_at, nil_from_length, append_cancel_left}
use Rattle.std.proofs.lemmas.Bool.{cases_lt}
use Rattle.fax_bits.specs.Reading.{Place, Passes}
use Rattle.fax_runcodes.specs.declared.format.Coding.{Coding}
use Rattle.fax_runcodes.specs.declared.Colour.{Colour}
use Rattle.fax_runcodes.specs.declared.fault.RunFault.{RunFault}
use Rattle.fax_runcodes.specs.declared.fault.RunFault.TheVariants.{NoWord, TooLong, End}
use Rattle.fax_runcodes.specs.CodeTables.{Word}
use Rattle.fax_runcodes.specs.Rows.{Elements, other, colour_before}
use Rattle.fax_runcodes.specs.RunFaults as run_faults
use Rattle.fax_runcodes.specs.RunFaults.{BeginsWith, EndsInside, FailsRun, ReadsRun}
use Rattle.fax_mhcode.specs.declared.fault.LineFault.{LineFault}
use Rattle.fax_mhcode.specs.declared.fault.LineFault.TheVariants.{Run, PastWidth, NoMode, BadPlace, NoMemory}
use Rattle.fax_mhcode.specs.LineFaults as mh
use Rattle.fax_mrcode.specs.declared.mode.Mode.{Mode}
use Rattle.fax_mrcode.specs.declared.mode.Mode.TheVariants.{Pass, Horizontal, Vertical}
use Rattle.fax_mrcode.specs.declared.mode.Offset.TheVariants.{Left3, Left2, Left1, Zero, Right1, Right2, Right3}
use Rattle.fax_mrcode.specs.Modes.{mode_word}
use Rattle.fax_mrcode.specs.Places.{run_start}
use Rattle.fax_mrcode.specs.LineFaults as mr
use Rattle.fax_pagestore.specs.declared.fault.PageFault.{PageFault}
use Rattle.fax_pagestore.specs.declared.fault.PageFault.TheVariants.{BadLine, TooManyRows}
use Rattle.fax_pagestore.specs.PageFaults.{LineBegins, SeparatorBegins, BreaksReturn, StopsInReturn, WantsLine, FailsRow, ReadsRow, Stops, last_of}
use Rattle.fax_pagestore.specs.Readers.{StaysBad}
use Rattle.fax_pagestore.proofs.BeforeEolLemmas.{within}

-- ---- runs

-- what begins bits that go on is a word that begins them, or one inside of which they end
BeginsWith-less : (colour : Colour) (bits more : List Bool) (w : Word) → BeginsWith colour (bits ++ more) w → (BeginsWith colour bits w → ⊥) → (EndsInside colour bits → ⊥) → ⊥
BeginsWith-less colour bits more w (is, rest, e) none whole = elim (cases_lt (length bits) (length w.word)) [
  | inr long ↦ none (is, drop (length w.word) bits, within bits more w.word rest e long)
  | inl short ↦
      let begins : take (length bits) w.word ≡ bits =
      sym (take-append-le (length bits) w.word rest (omega arith)) ∙ ap (take (length bits)) (sym e) ∙ take_at bits more (length bits) refl in
      whole (
        w,
        is,
        drop (length bits) w.word,
        (λ empty. omega (arith, short, ap length empty, length-drop (length bits) w.word)),
        sym (take-append-drop (length bits) w.word) ∙ ap (λ b. b ++ drop (length bits) w.word) begins,
      )
]

-- bits that end inside a word do so with fewer of them
EndsInside-less : (colour : Colour) (bits more : List Bool) → EndsInside colour (bits ++ more) → EndsInside colour bits
EndsInside-less colour bits more (w, is, after, some, e) = (
  w,
  is,
  more ++ after,
  (λ empty. some (nil_from_length after (omega (arith, ap length empty, length-append more after)))),
  e ∙ append_assoc bits more after,
)

run_stops : (colour : Colour) (run : ℕ) (bits more : List Bool) (fault : RunFault) → fault ≢ End → run_faults.Stops colour run bits fault → run_faults.Stops colour run (bits ++ more) fault
run_stops colour run bits more NoWord not_end (none, whole) =
    (λ w begins. BeginsWith-less colour bits more w begins (none w) whole, λ inside. whole (EndsInside-less colour bits more inside))
run_stops colour run bits more TooLong not_end (w, begins, long) =
    (w, (begins.0, begins.1 ++ more, ap (λ b. b ++ more) begins.2 ∙ append_assoc w.word begins.1 more), long)
run_stops colour run bits more End not_end inside = absurd (not_end refl)

FailsRun-more : (colour : Colour) (bits more : List Bool) (fault : RunFault) → fault ≢ End → FailsRun colour bits fault → FailsRun colour (bits ++ more) fault
FailsRun-more colour bits more fault not_end f = record {
  make_up = f.make_up;
  rest = f.rest ++ more;
  are_make_up = f.are_make_up;
  bits_are = ap (λ b. b ++ more) f.bits_are ∙ append_assoc _ f.rest more;
  within = f.within;
  stops = run_stops colour _ f.rest more fault not_end f.stops;
}

ReadsRun-more : (colour : Colour) (bits more : List Bool) (run : ℕ) (rest : List Bool) → ReadsRun colour bits run rest → ReadsRun colour (bits ++ more) run (rest ++ more)
ReadsRun-more colour bits more run rest r = record {
  text = r.text;
  spelt = r.spelt;
  within = r.within;
  bits_are = ap (λ b. b ++ more) r.bits_are ∙ append_assoc r.text rest more;
}

-- ---- lines in one dimension

line_stops : (width : ℕ) (runs : List ℕ) (bits more : List Bool) (fault : LineFault) → fault ≢ Run End → mh.Stops width runs bits fault → mh.Stops width runs (bits ++ more) fault
line_stops width runs bits more (Run fault) not_end f = FailsRun-more (mh.colour_after runs) bits more fault (λ end. not_end (ap (λ (k : RunFault). Run k) end)) f
line_stops width runs bits more PastWidth not_end (run, rest, reads, past) = (run, rest ++ more, ReadsRun-more (mh.colour_after runs) bits more run rest reads, past)
line_stops width runs bits more NoMode not_end f = elim f [ ]
line_stops width runs bits more BadPlace not_end f = elim f [ ]
line_stops width runs bits more NoMemory not_end f = elim f [ ]

one_dimensional : (width : ℕ) (bits more : List Bool) (fault : LineFault) → fault ≢ Run End → mh.FailsLine width bits fault → mh.FailsLine width (bits ++ more) fault
one_dimensional width bits more fault not_end f = record {
  runs = f.runs;
  text = f.text;
  rest = f.rest ++ more;
  spelt = f.spelt;
  bits_are = ap (λ b. b ++ more) f.bits_are ∙ append_assoc f.text f.rest more;
  within = f.within;
  stops = line_stops width f.runs f.rest more fault not_end f.stops;
}

-- ---- lines in two dimensions

mode_short : (mode : Mode) → length (mode_word mode) ≤ 7
mode_short Pass = omega arith
mode_short Horizontal = omega arith
mode_short (Vertical Zero) = omega arith
mode_short (Vertical Right1) = omega arith
mode_short (Vertical Right2) = omega arith
mode_short (Vertical Right3) = omega arith
mode_short (Vertical Left1) = omega arith
mode_short (Vertical Left2) = omega arith
mode_short (Vertical Left3) = omega arith

run_at_stops : (width : ℕ) (colour : Colour) (start : ℕ) (may_be_empty : Type 0) (bits more : List Bool) (fault : LineFault) → fault ≢ Run End
    → mr.StopsAtRun width colour start may_be_empty bits fault → mr.StopsAtRun width colour start may_be_empty (bits ++ more) fault
run_at_stops width colour start may_be_empty bits more (Run fault) not_end f = FailsRun-more colour bits more fault (λ end. not_end (ap (λ (k : RunFault). Run k) end)) f
run_at_stops width colour start may_be_empty bits more PastWidth not_end (run, rest, reads, past) = (run, rest ++ more, ReadsRun-more colour bits more run rest reads, past)
run_at_stops width colour start may_be_empty bits more BadPlace not_end (rest, reads, full) = (rest ++ more, ReadsRun-more colour bits more 0 rest reads, full)
run_at_stops width colour start may_be_empty bits more NoMode not_end f = elim f [ ]
run_at_stops width colour start may_be_empty bits more NoMemory not_end f = elim f [ ]

mode_stops : (reference row : Elements) (mode : Mode) (from : ℕ) (bits more : List Bool) (fault : LineFault) → fault ≢ Run End
    → mr.StopsIn reference row mode from bits fault → mr.StopsIn reference row mode from (bits ++ more) fault
mode_stops reference row Pass from bits more fault not_end f = f
mode_stops reference row (Vertical offset) from bits more fault not_end f = f
mode_stops reference row Horizontal from bits more fault not_end f = elim f [
  | inl first ↦ inl (run_at_stops (length row) (colour_before row from) (run_start from) (from ≡ 0) bits more fault not_end first)
  | inr second ↦
      let run : ℕ = second.0 in
      let rest : List Bool = second.1 in
      inr (
        run,
        rest ++ more,
        ReadsRun-more (colour_before row from) bits more run rest second.2,
        second.3,
        second.4,
        run_at_stops (length row) (other (colour_before row from)) (run_start from + run) (run_start from + run ≡ length row) rest more fault not_end second.5,
      )
]

step_stops : (reference row : Elements) (from : ℕ) (bits more : List Bool) (fault : LineFault) → StaysBad fault bits
    → mr.Stops reference row from bits fault → mr.Stops reference row from (bits ++ more) fault
step_stops reference row from bits more fault (not_end, seven) f = elim f [
  | inl none ↦ inl (none.0, λ mode rest e. none.1 mode (drop (length (mode_word mode)) bits) (within bits more (mode_word mode) rest e (omega (arith, mode_short mode, seven none.0))))
  | inr one ↦ inr (one.0, one.1 ++ more, ap (λ b. b ++ more) one.2 ∙ append_assoc (mode_word one.0) one.1 more, mode_stops reference row one.0 from one.1 more fault not_end one.3)
]

two_dimensional : (reference : Elements) (bits more : List Bool) (fault : LineFault) (f : mr.FailsLine reference bits fault) → StaysBad fault f.rest → mr.FailsLine reference (bits ++ more) fault
two_dimensional reference bits more fault f stays = record {
  row = f.row;
  modes = f.modes;
  from = f.from;
  text = f.text;
  rest = f.rest ++ more;
  same_width = f.same_width;
  steps = f.steps;
  bits_are = ap (λ b. b ++ more) f.bits_are ∙ append_assoc f.text f.rest more;
  within = f.within;
  stops = step_stops reference f.row f.from f.rest more fault stays f.stops;
}

-- ---- what passed no line

pub one_stays : {T : Type 0} (passed : Result T LineFault) (width : ℕ) (bits left more : List Bool) → IfErr passed (λ fault. mh.FailsLine width bits fault)
    → IfErr passed (λ fault. StaysBad fault left) → (IsOk passed → ⊥) → (fault : LineFault) × mh.FailsLine width (bits ++ more) fault
one_stays (Ok t) width bits left more fails stays none = absurd (none refl)
one_stays (Err fault) width bits left more fails stays none = (fault, one_dimensional width bits more fault stays.0 fails)

pub two_stays : {T : Type 0} (passed : Result T LineFault) (reference : Elements) (old new : Place) (more : List Bool)
    → IfErr passed (λ fault. (fails : mr.FailsLine reference old.left fault) × Passes old new fails.text) → IfErr passed (λ fault. StaysBad fault new.left) → (IsOk passed → ⊥)
    → (fault : LineFault) × mr.FailsLine reference (old.left ++ more) fault
two_stays (Ok t) reference old new more fails stays none = absurd (none refl)
two_stays (Err fault) reference old new more (fails, passes) stays none =
    let rest : new.left ≡ fails.rest = append_cancel_left fails.text new.left fails.rest (sym passes.bits ∙ fails.bits_are) in
    (fault, two_dimensional reference old.left more fault fails (subst (StaysBad fault) rest stays))

pub two_fails : {T : Type 0} (passed : Result T LineFault) (reference : Elements) (old new : Place)
    → IfErr passed (λ fault. (fails : mr.FailsLine reference old.left fault) × Passes old new fails.text) → (IsOk passed → ⊥) → (fault : LineFault) × mr.FailsLine reference old.left fault
two_fails (Ok t) reference old new fails none = absurd (none refl)
two_fails (Err fault) reference old new fails none = (fault, fails.0)

-- ---- what stops a page

pub LineBegins-more : (bits more : List Bool) → LineBegins bits → LineBegins (bits ++ more)
LineBegins-more bits more (zeros, rest, few, e) = (zeros, rest ++ more, few, ap (λ b. b ++ more) e ∙ append_assoc (replicate zeros false) (true ∷ rest) more)

SeparatorBegins-more : (coding : Coding) (bits more : List Bool) → SeparatorBegins coding bits → SeparatorBegins coding (bits ++ more)
SeparatorBegins-more coding bits more (tag, separator, rest, is, e) = (tag, separator, rest ++ more, is, ap (λ b. b ++ more) e ∙ append_assoc separator rest more)

-- a line that cannot be read
pub bad_stays : (coding : Coding) (width : ℕ) (rows : List Elements) (tag : Bool) (bits more : List Bool) → WantsLine rows 0 bits → FailsRow width tag (last_of rows) (bits ++ more)
    → Stops coding width rows 0 tag (bits ++ more) (BadLine (length rows))
bad_stays coding width rows tag bits more wants fails =
    (refl, record { one_separator = refl; begins = LineBegins-more bits more wants.begins; room = wants.room }, inl fails)

pub bad_wants : (coding : Coding) (width : ℕ) (rows : List Elements) (tag : Bool) (bits : List Bool) (fault : PageFault) (n : ℕ) → fault ≡ BadLine n
    → Stops coding width rows 0 tag bits fault → WantsLine rows 0 bits
bad_wants coding width rows tag bits fault n is stops = (subst (Stops coding width rows 0 tag bits) is stops).1

-- told of the line by its number
pub bad_numbered : (coding : Coding) (width : ℕ) (rows : List Elements) (tag : Bool) (bits more : List Bool) (fault : PageFault) (n : ℕ) → fault ≡ BadLine n
    → Stops coding width rows 0 tag bits fault → Stops coding width rows 0 tag more (BadLine (length rows)) → Stops coding width rows 0 tag more fault
bad_numbered coding width rows tag bits more fault n is stops stays =
    let number : n ≡ length rows = (subst (Stops coding width rows 0 tag bits) is stops).0 in
    subst (Stops coding width rows 0 tag more) (sym (is ∙ ap (λ k. BadLine k) number)) stays

-- a line after so many rows
pub many_stay : (coding : Coding) (width : ℕ) (rows : List Elements) (tag : Bool) (bits more : List Bool) (fault : PageFault) → fault ≡ TooManyRows
    → Stops coding width rows 0 tag bits fault → Stops coding width rows 0 tag (bits ++ more) fault
many_stay coding width rows tag bits more fault is stops =
    let many = subst (Stops coding width rows 0 tag bits) is stops in
    let stay : Stops coding width rows 0 tag (bits ++ more) TooManyRows = (many.0, LineBegins-more bits more many.1, many.2) in
    subst (Stops coding width rows 0 tag (bits ++ more)) (sym is) stay

-- a 1 after a line before 11 zeros
pub after_stays : (coding : Coding) (width : ℕ) (rows : List Elements) (tag : Bool) (bits rest more : List Bool) → WantsLine rows 0 bits → ReadsRow width tag (last_of rows) bits rest
    → LineBegins rest → Stops coding width rows 0 tag (bits ++ more) (BadLine (length rows))
after_stays coding width rows tag bits rest more wants (line, row, spelt, e) begins = (
  refl,
  record { one_separator = refl; begins = LineBegins-more bits more wants.begins; room = wants.room },
  inr (rest ++ more, (line, row, spelt, ap (λ b. b ++ more) e ∙ append_assoc line rest more), LineBegins-more rest more begins),
)

-- a return to control that is broken
BreaksReturn-more : (coding : Coding) (n : ℕ) (tag : Bool) (bits more : List Bool) → BreaksReturn coding n tag bits → BreaksReturn coding n tag (bits ++ more)
BreaksReturn-more coding n tag bits more b = elim b [
  | inl line ↦ inl (line.0, line.1, LineBegins-more bits more line.2)
  | inr tagged ↦ inr (tagged.0, elim tagged.1 [ inl next ↦ inl (next.0, SeparatorBegins-more coding bits more next.1) | inr six ↦ inr six ])
]

pub StopsInReturn-more : (coding : Coding) (tag : Bool) (bits more : List Bool) → StopsInReturn coding tag bits (BreaksReturn coding) → StopsInReturn coding tag (bits ++ more) (BreaksReturn coding)
StopsInReturn-more coding tag bits more s = record {
  further = s.further;
  text = s.text;
  last = s.last;
  rest = s.rest ++ more;
  at_most_six = s.at_most_six;
  in_a_row = s.in_a_row;
  bits_are = ap (λ b. b ++ more) s.bits_are ∙ append_assoc s.text s.rest more;
  reason = BreaksReturn-more coding s.further s.last s.rest more s.reason;
}
