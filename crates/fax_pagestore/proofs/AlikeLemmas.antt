-- Texts that differ by the number of zeros in one place, where both have many: one line begins both, or none.
use Rattle.std.proofs.Common.{◌≡◌, ℕ, zero, suc, ◌+◌, ◌-◌, ◌<◌, ◌≤◌, Bool, true, false, List, [], ◌∷◌, ◌++◌, Option, Some, None, All, Contains, length, take, drop, replicate, refl, sym, ◌∙◌, ap, subst, arith, inl, inr, ◌⊎◌, append_assoc, append-nil, length-append}
use Rattle.std.proofs.lemmas.List.{append_cancel_left, length-replicate, replicate-append-replicate, take_at}
use Rattle.std.proofs.lemmas.List.Elements.{All-head, All-tail}
use Rattle.std.proofs.lemmas.Bool.{cases_lt}
use Rattle.fax_runcodes.specs.declared.Colour.{Colour}
use Rattle.fax_runcodes.specs.declared.Colour.TheVariants.{White}
use Rattle.fax_runcodes.specs.declared.fault.RunFault.{RunFault}
use Rattle.fax_runcodes.specs.declared.fault.RunFault.TheVariants.{NoWord, TooLong, End}
use Rattle.fax_runcodes.specs.CodeTables.{Word, words, make_up_words}
use Rattle.fax_runcodes.specs.Spelling.{SpellsRun, text_of}
use Rattle.fax_runcodes.specs.Rows.{Elements, other, colour_before}
use Rattle.fax_runcodes.specs.RunFaults as run_faults
use Rattle.fax_runcodes.specs.RunFaults.{BeginsWith, EndsInside, FailsRun, ReadsRun}
use Rattle.fax_runcodes.proofs.WordLaws.{word_size, from_make_up, from_terminating}
use Rattle.fax_mhcode.specs.Lines as mh_lines
use Rattle.fax_mhcode.specs.LineFaults as mh
use Rattle.fax_mhcode.specs.declared.fault.LineFault.{LineFault}
use Rattle.fax_mhcode.specs.declared.fault.LineFault.TheVariants.{Run, PastWidth, NoMode, BadPlace, NoMemory}
use Rattle.fax_mrcode.specs.declared.mode.Mode.{Mode}
use Rattle.fax_mrcode.specs.declared.mode.Mode.TheVariants.{Pass, Horizontal, Vertical}
use Rattle.fax_mrcode.specs.Modes.{mode_word}
use Rattle.fax_mrcode.specs.Places.{run_start}
use Rattle.fax_mrcode.specs.Lines as mr_lines
use Rattle.fax_mrcode.specs.LineFaults as mr
use Rattle.fax_mrcode.proofs.VerticalLemmas.{mode_size}
use Rattle.fax_pagestore.specs.PageTexts.{SpellsRow}
use Rattle.fax_pagestore.specs.PageFaults.{LineBegins, FailsRow, ReadsRow}
use Rattle.fax_pagestore.proofs.TextLemmas.{word_begins, mode_begins}
use Rattle.fax_pagestore.proofs.BeforeEolLemmas.{within}

-- ---- two texts

-- Somewhere ahead texts have as many zeros as a code word and the zeros of an EOL have bits, and may differ by their number.
pub record DifferAhead (a b : List Bool) : Type 0 where
  pub before : List Bool
  pub m : ℕ
  pub n : ℕ
  pub rest : List Bool
  pub many : 24 ≤ m
  pub as_many : 24 ≤ n
  pub a_is : a ≡ before ++ (replicate m false ++ rest)
  pub b_is : b ≡ before ++ (replicate n false ++ rest)

-- Texts begin with zeros, at least as many as an EOL has, and may differ by their number.
pub record DifferHere (a b : List Bool) : Type 0 where
  pub m : ℕ
  pub n : ℕ
  pub rest : List Bool
  pub many : 11 ≤ m
  pub as_many : 11 ≤ n
  pub a_is : a ≡ replicate m false ++ rest
  pub b_is : b ≡ replicate n false ++ rest

-- texts are the same but for the number of such zeros
abbrev pub Alike : List Bool → List Bool → Type 0
Alike a b = (a ≡ b) ⊎ (DifferAhead a b ⊎ DifferHere a b)

pub Alike-swap : (a b : List Bool) → Alike a b → Alike b a
Alike-swap a b (inl same) = inl (sym same)
Alike-swap a b (inr (inl d)) = inr (inl (record { before = d.before; m = d.n; n = d.m; rest = d.rest; many = d.as_many; as_many = d.many; a_is = d.b_is; b_is = d.a_is }))
Alike-swap a b (inr (inr d)) = inr (inr (record { m = d.n; n = d.m; rest = d.rest; many = d.as_many; as_many = d.many; a_is = d.b_is; b_is = d.a_is }))

-- ---- zeros

-- zeros that begin other zeros with a 1 after them are some of those
pub zeros_in_front : (m z : ℕ) (rest x : List Bool) → replicate m false ++ rest ≡ replicate z false ++ true ∷ x → (k : ℕ) × (z ≡ m + k) × (rest ≡ replicate k false ++ true ∷ x)
zeros_in_front zero z rest x e = (z, omega arith, e)
zeros_in_front (suc m) zero rest x e = cc
zeros_in_front (suc m) (suc z) rest x e =
    let tails : replicate m false ++ rest ≡ replicate z false ++ true ∷ x = cc in
    let more = zeros_in_front m z rest x tails in
    (more.0, omega (arith, more.1), more.2)

-- with as many zeros as an EOL has no line begins
pub no_line : (m : ℕ) (rest : List Bool) → 11 ≤ m → LineBegins (replicate m false ++ rest) → ⊥
no_line m rest many (z, more, few, e) = let at = zeros_in_front m z rest more e in omega (arith, at.1, few, many)

-- ---- words

-- bits that end before the zeros, or with the last bit before them
pub before_zeros : (word a b : List Bool) (d : DifferAhead (word ++ a) b) → length word ≤ length d.before → (more : List Bool) × (b ≡ word ++ more) × DifferAhead a more
before_zeros word a b d inside =
    let left : List Bool = drop (length word) d.before in
    let zeros : List Bool = replicate d.m false ++ d.rest in
    let others : List Bool = replicate d.n false ++ d.rest in
    let whole : d.before ≡ word ++ left = within d.before zeros word a (sym d.a_is) inside in
    let a_is : a ≡ left ++ zeros = append_cancel_left word a (left ++ zeros) (d.a_is ∙ ap (λ t. t ++ zeros) whole ∙ append_assoc word left zeros) in (
      left ++ others,
      d.b_is ∙ ap (λ t. t ++ others) whole ∙ append_assoc word left others,
      record { before = left; m = d.m; n = d.n; rest = d.rest; many = d.many; as_many = d.as_many; a_is = a_is; b_is = refl },
    )

-- zeros are so many and the others
zeros_apart : (m j : ℕ) (before rest : List Bool) → j ≤ m → before ++ (replicate m false ++ rest) ≡ (before ++ replicate j false) ++ (replicate (m - j) false ++ rest)
zeros_apart m j before rest le =
    let size : j + (m - j) ≡ m = omega arith in
    ap (λ k. before ++ (replicate k false ++ rest)) (sym size) ∙ ap (λ t. before ++ (t ++ rest)) (sym (replicate-append-replicate j (m - j) false))
    ∙ ap (λ t. before ++ t) (append_assoc (replicate j false) (replicate (m - j) false) rest) ∙ sym (append_assoc before (replicate j false) (replicate (m - j) false ++ rest))

-- a word that ends among the zeros leaves enough of them
among_zeros : (word a b : List Bool) (d : DifferAhead (word ++ a) b) → length word ≤ 13 → length d.before < length word → (more : List Bool) × (b ≡ word ++ more) × Alike a more
among_zeros word a b d few past =
    let j : ℕ = length word - length d.before in
    let begins : List Bool = d.before ++ replicate j false in
    let left : List Bool = replicate (d.m - j) false ++ d.rest in
    let others : List Bool = replicate (d.n - j) false ++ d.rest in
    let size : length begins ≡ length word = omega (arith, past, length-append d.before (replicate j false), length-replicate j false) in
    let whole : word ++ a ≡ begins ++ left = d.a_is ∙ zeros_apart d.m j d.before d.rest (omega (arith, few, d.many)) in
    let word_is : word ≡ begins = sym (take_at word a (length word) refl) ∙ ap (take (length word)) whole ∙ take_at begins left (length word) size in
    let a_is : a ≡ left = append_cancel_left word a left (whole ∙ ap (λ t. t ++ left) (sym word_is)) in (
      others,
      d.b_is ∙ zeros_apart d.n j d.before d.rest (omega (arith, few, d.as_many)) ∙ ap (λ t. t ++ others) (sym word_is),
      inr (inr (record { m = d.m - j; n = d.n - j; rest = d.rest; many = omega (arith, few, d.many); as_many = omega (arith, few, d.as_many); a_is = a_is; b_is = refl })),
    )

-- few bits that begin a text, where it differs ahead, begin the other, and what follows is alike
pub pass_few : (word a b : List Bool) → length word ≤ 13 → DifferAhead (word ++ a) b → (more : List Bool) × (b ≡ word ++ more) × Alike a more
pass_few word a b few d = elim (cases_lt (length d.before) (length word)) [
  | inl past ↦ among_zeros word a b d few past
  | inr inside ↦ let there = before_zeros word a b d inside in (there.0, there.1, inr (inl there.2))
]

-- A text begins each of two alike texts that begins one of them, and what follows it is alike.
abbrev pub Carries : List Bool → Type 0
Carries text = (a b : List Bool) → Alike (text ++ a) b → (more : List Bool) × (b ≡ text ++ more) × Alike a more

pub Carries-word : (word : List Bool) → length word ≤ 13 → ((a : List Bool) → LineBegins (word ++ a)) → Carries word
Carries-word word few begins = λ a b alike. elim alike [
  | inl same ↦ (a, sym same, inl refl)
  | inr apart ↦ elim apart [
    | inl ahead ↦ pass_few word a b few ahead
    | inr here ↦ absurd (no_line here.m here.rest here.many (subst LineBegins here.a_is (begins a)))
  ]
]

-- one text after another
pub after_text : (bits first middle second rest : List Bool) → bits ≡ first ++ middle → middle ≡ second ++ rest → bits ≡ (first ++ second) ++ rest
after_text bits first middle second rest e also = e ∙ ap (λ t. first ++ t) also ∙ sym (append_assoc first second rest)

Carries-none : Carries []
Carries-none = λ a b alike. (b, refl, alike)

Carries-then : (s t : List Bool) → Carries s → Carries t → Carries (s ++ t)
Carries-then s t first second = λ a b alike.
    let one = first (t ++ a) b (subst (λ c. Alike c b) (append_assoc s t a) alike) in
    let two = second a one.0 one.2 in
    (two.0, after_text b s one.0 t two.0 one.1 two.1, two.2)

-- the text that begins bits, with what follows it
pub carried : (text bits rest other : List Bool) → Carries text → bits ≡ text ++ rest → Alike bits other → (more : List Bool) × (other ≡ text ++ more) × Alike rest more
carried text bits rest other carries e alike = carries rest other (subst (λ c. Alike c other) e alike)

Carries-code : (colour : Colour) (w : Word) → Contains (words colour) w → Carries w.word
Carries-code colour w is = Carries-word w.word (word_size colour w is).few (λ a. word_begins colour w a is)

-- ---- runs

Carries-make_up : (colour : Colour) (make_up : List Word) → All (λ w. Contains (make_up_words colour) w) make_up → Carries (text_of make_up)
Carries-make_up colour [] are = Carries-none
Carries-make_up colour (w ∷ ws) are =
    Carries-then w.word (text_of ws) (Carries-code colour w (from_make_up colour w (All-head (λ u. Contains (make_up_words colour) u) w ws are)))
    (Carries-make_up colour ws (All-tail (λ u. Contains (make_up_words colour) u) w ws are))

Carries-run : (colour : Colour) (text : List Bool) (run : ℕ) → SpellsRun colour text run → Carries text
Carries-run colour text run p =
    subst Carries (sym p.text_is)
    (Carries-then (text_of p.make_up) p.last.word (Carries-make_up colour p.make_up p.are_make_up) (Carries-code colour p.last (from_terminating colour p.last p.is_terminating)))

BeginsWith-alike : (colour : Colour) (a b : List Bool) (w : Word) → Alike a b → BeginsWith colour a w → BeginsWith colour b w
BeginsWith-alike colour a b w alike (is, rest, e) = let there = carried w.word a rest b (Carries-code colour w is) e alike in (is, there.0, there.1)

EndsInside-alike : (colour : Colour) (a b : List Bool) → Alike a b → EndsInside colour a → EndsInside colour b
EndsInside-alike colour a b (inl same) inside = subst (EndsInside colour) same inside
EndsInside-alike colour a b (inr (inl d)) (w, is, more, some, e) =
    let long : length d.before + (d.m + length d.rest) ≡ length a =
    sym (ap length d.a_is ∙ length-append d.before (replicate d.m false ++ d.rest) ∙ ap (λ k. length d.before + k) (length-append (replicate d.m false) d.rest ∙ ap (λ k. k + length d.rest) (length-replicate d.m false))) in
    absurd (omega (arith, (word_size colour w is).few, ap length e, length-append a more, long, d.many))
EndsInside-alike colour a b (inr (inr d)) (w, is, more, some, e) =
    let word_is : w.word ++ [] ≡ replicate d.m false ++ (d.rest ++ more) =
    append-nil w.word ∙ e ∙ ap (λ c. c ++ more) d.a_is ∙ append_assoc (replicate d.m false) d.rest more in
    absurd (no_line d.m (d.rest ++ more) d.many (subst LineBegins word_is (word_begins colour w [] is)))

run_stops : (colour : Colour) (run : ℕ) (a b : List Bool) (fault : RunFault) → Alike a b → run_faults.Stops colour run a fault → run_faults.Stops colour run b fault
run_stops colour run a b NoWord alike (none, whole) =
    (λ w begins. none w (BeginsWith-alike colour b a w (Alike-swap a b alike) begins), λ inside. whole (EndsInside-alike colour b a (Alike-swap a b alike) inside))
run_stops colour run a b TooLong alike (w, begins, long) = (w, BeginsWith-alike colour a b w alike begins, long)
run_stops colour run a b End alike inside = EndsInside-alike colour a b alike inside

FailsRun-alike : (colour : Colour) (a b : List Bool) (fault : RunFault) → Alike a b → FailsRun colour a fault → FailsRun colour b fault
FailsRun-alike colour a b fault alike f =
    let there = carried (text_of f.make_up) a f.rest b (Carries-make_up colour f.make_up f.are_make_up) f.bits_are alike in
    record { make_up = f.make_up; rest = there.0; are_make_up = f.are_make_up; bits_are = there.1; within = f.within; stops = run_stops colour _ f.rest there.0 fault there.2 f.stops }

ReadsRun-alike : (colour : Colour) (a b : List Bool) (run : ℕ) (rest : List Bool) → Alike a b → ReadsRun colour a run rest → (more : List Bool) × ReadsRun colour b run more × Alike rest more
ReadsRun-alike colour a b run rest alike r =
    let there = carried r.text a rest b (Carries-run colour r.text run r.spelt) r.bits_are alike in
    (there.0, record { text = r.text; spelt = r.spelt; within = r.within; bits_are = there.1 }, there.2)

-- ---- lines in one dimension

Carries-runs : (colour : Colour) (text : List Bool) (runs : List ℕ) → mh_lines.SpellsRuns colour text runs → Carries text
Carries-runs colour text [] e = subst Carries (sym e) Carries-none
Carries-runs colour text (run ∷ runs) (first, rest, e, p, more) =
    subst Carries (sym e) (Carries-then first rest (Carries-run colour first run p) (Carries-runs (other colour) rest runs more))

line_stops : (width : ℕ) (runs : List ℕ) (a b : List Bool) (fault : LineFault) → Alike a b → mh.Stops width runs a fault → mh.Stops width runs b fault
line_stops width runs a b (Run fault) alike f = FailsRun-alike (mh.colour_after runs) a b fault alike f
line_stops width runs a b PastWidth alike (run, rest, reads, past) = let there = ReadsRun-alike (mh.colour_after runs) a b run rest alike reads in (run, there.0, there.1, past)
line_stops width runs a b NoMode alike f = elim f [ ]
line_stops width runs a b BadPlace alike f = elim f [ ]
line_stops width runs a b NoMemory alike f = elim f [ ]

one_dimensional : (width : ℕ) (a b : List Bool) (fault : LineFault) → Alike a b → mh.FailsLine width a fault → mh.FailsLine width b fault
one_dimensional width a b fault alike f =
    let there = carried f.text a f.rest b (Carries-runs White f.text f.runs f.spelt) f.bits_are alike in
    record { runs = f.runs; text = f.text; rest = there.0; spelt = f.spelt; bits_are = there.1; within = f.within; stops = line_stops width f.runs f.rest there.0 fault there.2 f.stops }

-- ---- lines in two dimensions

mode_few : (mode : Mode) → length (mode_word mode) ≤ 13
mode_few mode = omega (arith, (mode_size mode).1)

Carries-mode : (mode : Mode) → Carries (mode_word mode)
Carries-mode mode = Carries-word (mode_word mode) (mode_few mode) (λ a. mode_begins mode a)

Carries-step : (reference row : Elements) (from : ℕ) (mode : Mode) (text : List Bool) (next : ℕ) → mr_lines.Step reference row from mode text next → Carries text
Carries-step reference row from Pass text next p = subst Carries (sym p.1) Carries-none
Carries-step reference row from (Vertical offset) text next p = subst Carries (sym p.1) Carries-none
Carries-step reference row from Horizontal text next (first, second, e, p, q, at) =
    subst Carries (sym e) (Carries-then first second (Carries-run (colour_before row from) first _ p) (Carries-run (other (colour_before row from)) second _ q))

Carries-steps : (reference row : Elements) (from : ℕ) (modes : List Mode) (text : List Bool) (end : ℕ) → mr_lines.Steps reference row from modes text end → Carries text
Carries-steps reference row from [] text end (e, at) = subst Carries (sym e) Carries-none
Carries-steps reference row from (mode ∷ modes) text end (le, step, rest, next, e, p, more) =
    subst Carries (sym e)
    (Carries-then (mode_word mode ++ step) rest (Carries-then (mode_word mode) step (Carries-mode mode) (Carries-step reference row from mode step next p)) (Carries-steps reference row (next + 1) modes rest end more))

run_at_stops : (width : ℕ) (colour : Colour) (start : ℕ) (may_be_empty : Type 0) (a b : List Bool) (fault : LineFault) → Alike a b
    → mr.StopsAtRun width colour start may_be_empty a fault → mr.StopsAtRun width colour start may_be_empty b fault
run_at_stops width colour start may_be_empty a b (Run fault) alike f = FailsRun-alike colour a b fault alike f
run_at_stops width colour start may_be_empty a b PastWidth alike (run, rest, reads, past) = let there = ReadsRun-alike colour a b run rest alike reads in (run, there.0, there.1, past)
run_at_stops width colour start may_be_empty a b BadPlace alike (rest, reads, full) = let there = ReadsRun-alike colour a b 0 rest alike reads in (there.0, there.1, full)
run_at_stops width colour start may_be_empty a b NoMode alike f = elim f [ ]
run_at_stops width colour start may_be_empty a b NoMemory alike f = elim f [ ]

mode_stops : (reference row : Elements) (mode : Mode) (from : ℕ) (a b : List Bool) (fault : LineFault) → Alike a b
    → mr.StopsIn reference row mode from a fault → mr.StopsIn reference row mode from b fault
mode_stops reference row Pass from a b fault alike f = f
mode_stops reference row (Vertical offset) from a b fault alike f = f
mode_stops reference row Horizontal from a b fault alike f = elim f [
  | inl first ↦ inl (run_at_stops (length row) (colour_before row from) (run_start from) (from ≡ 0) a b fault alike first)
  | inr second ↦
      let run : ℕ = second.0 in
      let rest : List Bool = second.1 in
      let there = ReadsRun-alike (colour_before row from) a b run rest alike second.2 in
      inr (
        run,
        there.0,
        there.1,
        second.3,
        second.4,
        run_at_stops (length row) (other (colour_before row from)) (run_start from + run) (run_start from + run ≡ length row) rest there.0 fault there.2 second.5,
      )
]

step_stops : (reference row : Elements) (from : ℕ) (a b : List Bool) (fault : LineFault) → Alike a b → mr.Stops reference row from a fault → mr.Stops reference row from b fault
step_stops reference row from a b fault alike f = elim f [
  | inl none ↦ inl (
    none.0,
    λ mode rest e.
        let here = carried (mode_word mode) b rest a (Carries-mode mode) e (Alike-swap a b alike) in
        none.1 mode here.0 here.1,
  )
  | inr one ↦
      let there = carried (mode_word one.0) a one.1 b (Carries-mode one.0) one.2 alike in
      inr (one.0, there.0, there.1, mode_stops reference row one.0 from one.1 there.0 fault there.2 one.3)
]

two_dimensional : (reference : Elements) (a b : List Bool) (fault : LineFault) → Alike a b → mr.FailsLine reference a fault → mr.FailsLine reference b fault
two_dimensional reference a b fault alike f =
    let there = carried f.text a f.rest b (Carries-steps reference f.row 0 f.modes f.text f.from f.steps) f.bits_are alike in
    record {
      row = f.row;
      modes = f.modes;
      from = f.from;
      text = f.text;
      rest = there.0;
      same_width = f.same_width;
      steps = f.steps;
      bits_are = there.1;
      within = f.within;
      stops = step_stops reference f.row f.from f.rest there.0 fault there.2 f.stops;
    }

-- ---- rows

-- The line of a row that begins one of two alike texts begins the other, and what follows it is alike.
pub Carries-row : (width : ℕ) (tag : Bool) (before : Option Elements) (text : List Bool) (row : Elements) → SpellsRow width tag before text row → Carries text
Carries-row width true before text row p = Carries-runs White text p.runs p.spelt
Carries-row width false (Some reference) text row p = Carries-steps reference row 0 p.modes text (length row + 1) p.steps
Carries-row width false None text row p = absurd p

-- If no row can be read of one of them, none can be read of the other.
pub FailsRow-alike : (width : ℕ) (tag : Bool) (before : Option Elements) (a b : List Bool) → Alike a b → FailsRow width tag before a → FailsRow width tag before b
FailsRow-alike width true before a b alike (fault, f) = (fault, one_dimensional width a b fault alike f)
FailsRow-alike width false (Some reference) a b alike (fault, f) = (fault, two_dimensional reference a b fault alike f)
FailsRow-alike width false None a b alike f = tt

pub ReadsRow-alike : (width : ℕ) (tag : Bool) (before : Option Elements) (a b rest : List Bool) → Alike a b → ReadsRow width tag before a rest
    → (more : List Bool) × ReadsRow width tag before b more × Alike rest more
ReadsRow-alike width tag before a b rest alike (line, row, spelt, e) =
    let there = carried line a rest b (Carries-row width tag before line row spelt) e alike in
    (there.0, (line, row, spelt, there.1), there.2)
