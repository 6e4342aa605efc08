-- What a move leaves, of a procedure and of the core that it stands for.
use Rattle.std.proofs.Common.{◌≡◌, ℕ, List, Option, Some, None, refl, sym, ◌∙◌, ap, subst}
use Rattle.fax_runcodes.specs.declared.format.Format.{Format}
use Rattle.fax_frames.specs.declared.dis.Dis.{Dis}
use Rattle.fax_frames.specs.declared.dcs.Dcs.{Dcs}
use Rattle.fax_frames.specs.declared.writing.Plain.{Plain}
use Rattle.fax_frames.specs.declared.writing.Plain.TheVariants.{Dcn}
use Rattle.fax_timers.specs.Moments.{moment_after}
use Rattle.fax_timers.specs.Spans as spans
use Rattle.fax_jobs.specs.declared.outcome.Outcome.{Outcome}
use Rattle.fax_jobs.specs.Jobs.{JobValue}
use Rattle.fax_pagestore.specs.Writers.{WriterValue}
use Rattle.fax_call.specs.declared.counts.Counts as code_counts
use Rattle.fax_call.specs.declared.pending.Message.TheVariants as messages
use Rattle.fax_call.specs.declared.pending.Pending.{Pending}
use Rattle.fax_call.specs.declared.pending.Pending.TheVariants as pendings
use Rattle.fax_call.specs.declared.procedure.Procedure.{Procedure}
use Rattle.fax_call.specs.declared.state.State.{State}
use Rattle.fax_call.specs.declared.state.State.TheVariants.{Idle, AwaitDis, AwaitCfr, AwaitMcf, Closing}
use Rattle.fax_call.specs.Writings.{Writing}
use Rattle.fax_call.specs.Replies.{turn_after, is_last_page, command_by, command_after, command}
use Rattle.fax_call.specs.Table.{Trains, Sends, AsksAgain, Turns, Closes}
use Rattle.fax_call.specs.Calls.{CallerCore, moved}
use Rattle.fax_call.specs.Rep.{counts_shown, AwaitsMcf}
use Rattle.fax_call.specs.Following.{KeepsTurn, Follows, command_kept}

-- a reply waits; T1 and T4 are clear
abbrev pub replied : Procedure → State → code_counts.Counts → Pending → Procedure
replied p state c pending = record p { state = state; counts = c; pending = pending; t1 = None; t4 = None }

on_call : (writes : Writing) (job : JobValue) (core : CallerCore) (writer : WriterValue) (p : Procedure) → Follows writes job core writer p → (p.state ≡ Idle → ⊥) → core.state ≡ Idle → ⊥
on_call writes job core writer p f on e = on (f.state ∙ e)

pub trains : (writes : Writing) (job : JobValue) (core : CallerCore) (writer left : WriterValue) (p : Procedure) (dis : Dis) (dcs : Dcs) (c : code_counts.Counts) → Follows writes job core writer p → (p.state ≡ Idle → ⊥)
    → Follows writes job (moved core (Trains dis dcs (counts_shown c))) left (replied p (AwaitCfr dis dcs) c (pendings.Preamble (messages.Dcs dcs)))
trains writes job core writer left p dis dcs c f on =
    record {
      state = refl;
      format = f.format;
      formats = λ e. f.formats (on_call writes job core writer p f on);
      turn = tt;
      pages = f.pages;
      counts = refl;
      from = 0;
      waiting = refl;
      left = tt;
      t1 = refl;
      t4 = refl;
      pace = f.pace;
      outcome = f.outcome;
    }

pub sends : (writes : Writing) (job : JobValue) (core : CallerCore) (writer left : WriterValue) (p : Procedure) (dis : Dis) (dcs : Dcs) (c : code_counts.Counts) → Follows writes job core writer p → (p.state ≡ Idle → ⊥)
    → Follows writes job (moved core (Sends dis dcs (counts_shown c))) left (replied p (AwaitMcf dis dcs) c (pendings.Image dcs))
sends writes job core writer left p dis dcs c f on =
    record {
      state = refl;
      format = f.format;
      formats = λ e. f.formats (on_call writes job core writer p f on);
      turn = tt;
      pages = f.pages;
      counts = refl;
      from = 0;
      waiting = refl;
      left = tt;
      t1 = refl;
      t4 = refl;
      pace = f.pace;
      outcome = f.outcome;
    }

-- in Await MCF the next page's format is kept
turn_in : (s : State) (formats : List Format) (page : ℕ) (turn : Option Format) → AwaitsMcf s → KeepsTurn s pendings.Nothing formats page turn → turn ≡ turn_after formats page
turn_in Idle formats page turn a k = absurd a
turn_in AwaitDis formats page turn a k = absurd a
turn_in (AwaitCfr dis dcs) formats page turn a k = absurd a
turn_in (AwaitMcf dis dcs) formats page turn a k = k
turn_in (Closing outcome) formats page turn a k = absurd a

turn_asked : (s : State) (plain : Plain) (formats : List Format) (page : ℕ) (turn : Option Format) → turn ≡ turn_after formats page → KeepsTurn s (pendings.Preamble (messages.Plain plain)) formats page turn
turn_asked Idle plain formats page turn h = tt
turn_asked AwaitDis plain formats page turn h = tt
turn_asked (AwaitCfr dis dcs) plain formats page turn h = tt
turn_asked (AwaitMcf dis dcs) plain formats page turn h = h
turn_asked (Closing outcome) plain formats page turn h = tt

pub asks_again : (writes : Writing) (job : JobValue) (core : CallerCore) (writer left : WriterValue) (p : Procedure) (c : code_counts.Counts) → Follows writes job core writer p → (p.state ≡ Idle → ⊥) → p.pending ≡ pendings.Nothing
    → AwaitsMcf p.state → c.page ≡ p.counts.page
    → Follows writes job (moved core (AsksAgain (counts_shown c))) left (replied p p.state c (pendings.Preamble (messages.Plain (command_kept p))))
asks_again writes job core writer left p c f on none awaits page =
    record {
      state = f.state;
      format = f.format;
      formats = λ e. f.formats (on_call writes job core writer p f on);
      turn = turn_asked p.state (command_kept p) core.formats c.page p.turn turn_so;
      pages = f.pages;
      counts = refl;
      from = 0;
      waiting = ap command asked;
      left = tt;
      t1 = refl;
      t4 = refl;
      pace = f.pace;
      outcome = f.outcome;
    }
  where
    kept : KeepsTurn p.state pendings.Nothing core.formats p.counts.page p.turn
    kept = subst (λ (q : Pending). KeepsTurn p.state q core.formats p.counts.page p.turn) none f.turn

    turn_so : p.turn ≡ turn_after core.formats c.page
    turn_so = turn_in p.state core.formats p.counts.page p.turn awaits kept ∙ ap (turn_after core.formats) (sym page)

    asked : command_kept p ≡ command_after core.formats core.pages c.page
    asked =
        ap (λ (n : ℕ). command_by (is_last_page n p.counts.page) p.turn) f.pages
        ∙ ap (λ (n : ℕ). command_by (is_last_page core.pages n) p.turn) (sym page)
        ∙ ap (command_by (is_last_page core.pages c.page)) turn_so

-- a DIS is awaited for the next page, of this format, until T1
abbrev pub turned : Format → Option ℕ → Procedure → Procedure
turned format t1 p = record p { format = format; turn = None; t1 = t1 }

pub turns : (writes : Writing) (job : JobValue) (core : CallerCore) (writer left : WriterValue) (p : Procedure) (format : Format) (now : ℕ) (c : code_counts.Counts) → Follows writes job core writer p → (p.state ≡ Idle → ⊥)
    → Follows writes job (moved core (Turns format (moment_after now spans.t1) (counts_shown c))) left
    (turned format (Some (moment_after now spans.t1)) (replied p AwaitDis c pendings.Nothing))
turns writes job core writer left p format now c f on =
    record {
      state = refl;
      format = refl;
      formats = λ e. f.formats (on_call writes job core writer p f on);
      turn = tt;
      pages = f.pages;
      counts = refl;
      from = 0;
      waiting = refl;
      left = tt;
      t1 = refl;
      t4 = refl;
      pace = f.pace;
      outcome = f.outcome;
    }

pub closes : (writes : Writing) (job : JobValue) (core : CallerCore) (writer left : WriterValue) (p : Procedure) (outcome : Outcome) (c : code_counts.Counts) → Follows writes job core writer p → (p.state ≡ Idle → ⊥)
    → Follows writes job (moved core (Closes outcome (counts_shown c))) left (replied p (Closing outcome) c (pendings.Preamble (messages.Plain Dcn)))
closes writes job core writer left p outcome c f on =
    record {
      state = refl;
      format = f.format;
      formats = λ e. f.formats (on_call writes job core writer p f on);
      turn = tt;
      pages = f.pages;
      counts = refl;
      from = 0;
      waiting = refl;
      left = tt;
      t1 = refl;
      t4 = refl;
      pace = f.pace;
      outcome = f.outcome;
    }
