use Rattle.std.proofs.Common.{◌≡◌, ℕ, Option, Some, sym, ◌∙◌, ap, subst}
use Rattle.fax_frames.specs.declared.writing.Plain.{Plain}
use Rattle.fax_timers.specs.Moments.{moment_after}
use Rattle.fax_timers.specs.Spans as spans
use Rattle.fax_call.specs.declared.pending.Message.TheVariants as messages
use Rattle.fax_call.specs.declared.pending.Pending.TheVariants as pendings
use Rattle.fax_call.specs.declared.procedure.Procedure.{Procedure}
use Rattle.fax_call.specs.declared.state.State.TheVariants.{Idle}
use Rattle.fax_call.specs.declared.table.Move.{Move}
use Rattle.fax_call.specs.declared.table.Move.TheVariants as moves
use Rattle.fax_call.specs.Calls.{moved}
use Rattle.fax_call.specs.Rep.{move_shown, FitsMove}
use Rattle.fax_call.specs.Following.{IsFit, Follows}
use Rattle.fax_call.proofs.MakingLemmas.{replied, turned, trains, sends, asks_again, turns, closes}
use Rattle.fax_call.proofs.procedure.Procedure.make.Goals as goal

pub returns-in-AskAgain-clause-fit : goal.returns-in-AskAgain-clause-fit
returns-in-AskAgain-clause-fit c =
    let p = c.args.self.now in
    let fits = subst (λ (m : Move). FitsMove p.pages p.counts.page p.state m) c.in-AskAgain.is c.requires.fits in
    subst (λ (n : Procedure). IsFit n) (sym c.reply-in-AskAgain.ensures)
    (record { within = fits.3; state = fits.1; pending = tt; rests = λ e. let q = sym c.in-AskAgain.is ∙ c.requires.idle e in cc })

pub returns-in-AskAgain-clause-made : goal.returns-in-AskAgain-clause-made
returns-in-AskAgain-clause-made c writes job core writer left f =
    let p = c.args.self.now in
    let on : p.state ≡ Idle → ⊥ = λ e. let q = sym c.in-AskAgain.is ∙ c.requires.idle e in cc in
    let fits = subst (λ (m : Move). FitsMove p.pages p.counts.page p.state m) c.in-AskAgain.is c.requires.fits in
    let asked : c.reply-in-AskAgain.new.self ≡ replied p p.state c.in-AskAgain.counts (pendings.Preamble (messages.Plain _)) =
    c.reply-in-AskAgain.ensures ∙ ap (λ (x : Plain). replied p p.state c.in-AskAgain.counts (pendings.Preamble (messages.Plain x))) c.command.ensures in
    subst (λ (m : Move). Follows writes job (moved core (move_shown c.args.now m)) left c.reply-in-AskAgain.new.self) (sym c.in-AskAgain.is)
    (subst (λ (n : Procedure). Follows writes job (moved core (move_shown c.args.now (moves.AskAgain c.in-AskAgain.counts))) left n) (sym asked)
    (asks_again writes job core writer left p c.in-AskAgain.counts f on c.requires.free fits.0 fits.2))

pub returns-in-Train-clause-made : goal.returns-in-Train-clause-made
returns-in-Train-clause-made c writes job core writer left f =
    let p = c.args.self.now in
    let on : p.state ≡ Idle → ⊥ = λ e. let q = sym c.in-Train.is ∙ c.requires.idle e in cc in
    subst (λ (m : Move). Follows writes job (moved core (move_shown c.args.now m)) left c.reply.new.self) (sym c.in-Train.is)
    (subst (λ (n : Procedure). Follows writes job (moved core (move_shown c.args.now (moves.Train c.in-Train.dis c.in-Train.dcs c.in-Train.counts))) left n) (sym c.reply.ensures)
    (trains writes job core writer left p c.in-Train.dis c.in-Train.dcs c.in-Train.counts f on))

pub returns-in-Send-clause-made : goal.returns-in-Send-clause-made
returns-in-Send-clause-made c writes job core writer left f =
    let p = c.args.self.now in
    let on : p.state ≡ Idle → ⊥ = λ e. let q = sym c.in-Send.is ∙ c.requires.idle e in cc in
    subst (λ (m : Move). Follows writes job (moved core (move_shown c.args.now m)) left c.reply-in-Send.new.self) (sym c.in-Send.is)
    (subst (λ (n : Procedure). Follows writes job (moved core (move_shown c.args.now (moves.Send c.in-Send.dis c.in-Send.dcs c.in-Send.counts))) left n) (sym c.reply-in-Send.ensures)
    (sends writes job core writer left p c.in-Send.dis c.in-Send.dcs c.in-Send.counts f on))

pub returns-in-Close-clause-made : goal.returns-in-Close-clause-made
returns-in-Close-clause-made c writes job core writer left f =
    let p = c.args.self.now in
    let on : p.state ≡ Idle → ⊥ = λ e. let q = sym c.in-Close.is ∙ c.requires.idle e in cc in
    subst (λ (m : Move). Follows writes job (moved core (move_shown c.args.now m)) left c.reply-in-Close.new.self) (sym c.in-Close.is)
    (subst (λ (n : Procedure). Follows writes job (moved core (move_shown c.args.now (moves.Close c.in-Close.outcome c.in-Close.counts))) left n) (sym c.reply-in-Close.ensures)
    (closes writes job core writer left p c.in-Close.outcome c.in-Close.counts f on))

pub returns-in-Turn-clause-made : goal.returns-in-Turn-clause-made
returns-in-Turn-clause-made c writes job core writer left f =
    let p = c.args.self.now in
    let on : p.state ≡ Idle → ⊥ = λ e. let q = sym c.in-Turn.is ∙ c.requires.idle e in cc in
    subst (λ (m : Move). Follows writes job (moved core (move_shown c.args.now m)) left (turned c.in-Turn.format c.set.new.self c.reply-in-Turn.new.self)) (sym c.in-Turn.is)
    (subst (λ (t : Option ℕ). Follows writes job (moved core (move_shown c.args.now (moves.Turn c.in-Turn.format c.in-Turn.counts))) left (turned c.in-Turn.format t c.reply-in-Turn.new.self)) (sym c.set.ensures)
    (subst (λ (n : Procedure). Follows writes job (moved core (move_shown c.args.now (moves.Turn c.in-Turn.format c.in-Turn.counts))) left (turned c.in-Turn.format (Some (moment_after c.args.now spans.t1)) n)) (sym c.reply-in-Turn.ensures)
    (turns writes job core writer left p c.in-Turn.format c.args.now c.in-Turn.counts f on)))
