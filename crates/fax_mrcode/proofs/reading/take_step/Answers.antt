use Rattle.std.proofs.Common.{◌++◌, ◌≡◌, Bool, List, [], ap, sym, subst, append-nil, ◌∙◌, inr}
use Rattle.std.proofs.lemmas.Result.{IfOk-weaker, IfErr-weaker}
use Rattle.fax_bits.specs.Reading.{Place, Passes}
use Rattle.fax_bits.proofs.ReadingLemmas.{Passes-then}
use Rattle.fax_runcodes.specs.Rows.{Elements}
use Rattle.fax_runcodes.specs.declared.Colour.TheVariants.{White}
use Rattle.fax_runcodes.specs.Painted.{painted}
use Rattle.fax_mrcode.specs.declared.mode.Mode.{Mode}
use Rattle.fax_mrcode.specs.declared.mode.Mode.TheVariants.{Pass, Horizontal, Vertical}
use Rattle.fax_mrcode.specs.LineFaults.{Stops, StopsIn}
use Rattle.fax_mrcode.specs.Modes.{mode_word}
use Rattle.fax_mrcode.specs.Starts.{IsTaken, Completes}
use Rattle.fax_mrcode.proofs.StepLemmas.{IsTaken-at}
use Rattle.fax_mrcode.proofs.reading.take_step.Goals as goal

-- a step with no bits after the word of its mode
passed : (old new : Place) (read mode : Mode) → read ≡ mode → Passes old new (mode_word read) → Passes old new (mode_word mode ++ [])
passed old new read mode same p = subst (λ text. Passes old new text) (sym (append-nil (mode_word mode))) (subst (λ (m : Mode). Passes old new (mode_word m)) same p)

pub returns-in-Pass-clause-ok : goal.returns-in-Pass-clause-ok
returns-in-Pass-clause-ok c =
    IfOk-weaker c.pass.result
    (λ taken. IsTaken c.args.changes.now c.args.width Pass [] (record { from = c.args.start.from; colour = c.args.start.colour; index = c.index_of_b1.result }) taken)
    (λ taken. (mode : Mode) × (text : List Bool) × Passes c.args.reader.now c.read_mode.new.reader (mode_word mode ++ text) × IsTaken c.args.changes.now c.args.width mode text c.args.start taken)
    (λ taken t. (
      Pass,
      [],
      passed c.args.reader.now c.read_mode.new.reader c.in_ok-mode.mode Pass c.in-Pass.is c.in_ok-mode.ensures.ok,
      IsTaken-at c.args.changes.now c.args.width Pass [] c.args.start c.index_of_b1.result taken c.index_of_b1.ensures.cursor t,
    ))
    c.pass.ensures.ok

pub returns-in-Vertical-clause-ok : goal.returns-in-Vertical-clause-ok
returns-in-Vertical-clause-ok c =
    IfOk-weaker c.vertical.result
    (λ taken. IsTaken c.args.changes.now c.args.width (Vertical c.in-Vertical.offset) [] (record { from = c.args.start.from; colour = c.args.start.colour; index = c.index_of_b1.result }) taken)
    (λ taken. (mode : Mode) × (text : List Bool) × Passes c.args.reader.now c.read_mode.new.reader (mode_word mode ++ text) × IsTaken c.args.changes.now c.args.width mode text c.args.start taken)
    (λ taken t. (
      Vertical c.in-Vertical.offset,
      [],
      passed c.args.reader.now c.read_mode.new.reader c.in_ok-mode.mode (Vertical c.in-Vertical.offset) c.in-Vertical.is c.in_ok-mode.ensures.ok,
      IsTaken-at c.args.changes.now c.args.width (Vertical c.in-Vertical.offset) [] c.args.start c.index_of_b1.result taken c.index_of_b1.ensures.cursor t,
    ))
    c.vertical.ensures.ok

pub returns-in-Horizontal-clause-ok : goal.returns-in-Horizontal-clause-ok
returns-in-Horizontal-clause-ok c =
    IfOk-weaker c.horizontal.result
    (λ taken. (text : List Bool) × Passes c.read_mode.new.reader c.horizontal.new.reader text
    × IsTaken c.args.changes.now c.args.width Horizontal text (record { from = c.args.start.from; colour = c.args.start.colour; index = c.index_of_b1.result }) taken)
    (λ taken. (mode : Mode) × (text : List Bool) × Passes c.args.reader.now c.horizontal.new.reader (mode_word mode ++ text) × IsTaken c.args.changes.now c.args.width mode text c.args.start taken)
    (λ taken (text, passes, t). (
      Horizontal,
      text,
      Passes-then c.args.reader.now c.read_mode.new.reader c.horizontal.new.reader (mode_word Horizontal) text (subst (λ (m : Mode). Passes c.args.reader.now c.read_mode.new.reader (mode_word m)) c.in-Horizontal.is c.in_ok-mode.ensures.ok) passes,
      IsTaken-at c.args.changes.now c.args.width Horizontal text c.args.start c.index_of_b1.result taken c.index_of_b1.ensures.cursor t,
    ))
    c.horizontal.ensures.ok

pub returns-in-Horizontal-clause-fault : goal.returns-in-Horizontal-clause-fault
returns-in-Horizontal-clause-fault c =
    IfErr-weaker c.horizontal.result
    (λ fault. (line row : Elements) → Completes c.args.width line c.args.start.from c.args.start.colour row → StopsIn (painted White 0 c.args.changes.now c.args.width) row Horizontal c.args.start.from c.read_mode.new.reader.left fault)
    (λ fault. (line row : Elements) → Completes c.args.width line c.args.start.from c.args.start.colour row → Stops (painted White 0 c.args.changes.now c.args.width) row c.args.start.from c.args.reader.now.left fault)
    (λ fault stops line row r. inr (Horizontal, c.read_mode.new.reader.left, c.in_ok-mode.ensures.ok.bits ∙ ap (λ m. mode_word m ++ c.read_mode.new.reader.left) c.in-Horizontal.is, stops line row r))
    c.horizontal.ensures.fault

pub returns-in-Pass-clause-fault : goal.returns-in-Pass-clause-fault
returns-in-Pass-clause-fault c =
    IfErr-weaker c.pass.result
    (λ fault. (line row : Elements) (bits : List Bool) → Completes c.args.width line c.args.start.from c.args.start.colour row → StopsIn (painted White 0 c.args.changes.now c.args.width) row Pass c.args.start.from bits fault)
    (λ fault. (line row : Elements) → Completes c.args.width line c.args.start.from c.args.start.colour row → Stops (painted White 0 c.args.changes.now c.args.width) row c.args.start.from c.args.reader.now.left fault)
    (λ fault stops line row r. inr (Pass, c.read_mode.new.reader.left, c.in_ok-mode.ensures.ok.bits ∙ ap (λ m. mode_word m ++ c.read_mode.new.reader.left) c.in-Pass.is, stops line row c.read_mode.new.reader.left r))
    c.pass.ensures.fault

pub returns-in-Vertical-clause-fault : goal.returns-in-Vertical-clause-fault
returns-in-Vertical-clause-fault c =
    IfErr-weaker c.vertical.result
    (λ fault. (line row : Elements) (bits : List Bool) → Completes c.args.width line c.args.start.from c.args.start.colour row → StopsIn (painted White 0 c.args.changes.now c.args.width) row (Vertical c.in-Vertical.offset) c.args.start.from bits fault)
    (λ fault. (line row : Elements) → Completes c.args.width line c.args.start.from c.args.start.colour row → Stops (painted White 0 c.args.changes.now c.args.width) row c.args.start.from c.args.reader.now.left fault)
    (λ fault stops line row r. inr (Vertical c.in-Vertical.offset, c.read_mode.new.reader.left, c.in_ok-mode.ensures.ok.bits ∙ ap (λ m. mode_word m ++ c.read_mode.new.reader.left) c.in-Vertical.is, stops line row c.read_mode.new.reader.left r))
    c.vertical.ensures.fault
