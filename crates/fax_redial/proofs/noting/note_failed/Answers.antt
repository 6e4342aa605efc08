use Rattle.std.proofs.Common.{List, ℕ, ap, ◌∙◌}
use Rattle.std.proofs.lemmas.Option.{MatchOption-at_some}
use Rattle.std.proofs.lemmas.Result.{IfOk-weaker}
use Rattle.fax_spool.specs.Torn.{CallName}
use Rattle.fax_redial.specs.Noting.{IsOneTryMore}
use Rattle.fax_redial.proofs.Noted.{may_put, puts_card, puts_none}
use Rattle.fax_redial.proofs.noting.note_failed.Goals as goal

pub returns-clause-noted : goal.returns-clause-noted
returns-clause-noted g c =
    let name : CallName = record { life = c.name.inside.life; call = c.name.inside.call; line = c.as_slice.result.now } in
    IfOk-weaker c.note_try.result _ _
    (λ was noted.
    puts_card g.D.Disk.seen g.D.Disk.may_leave g.D.Disk.is_usable (λ before card. IsOneTryMore before c.args.end.now c.args.at card) c.in-Some.before c.in_ok-card.card name c.args.end.now.name c.calls.result.now was c.args.kept.now c.note_try.new.self
    (ap (λ (l : List ℕ). record name { line = l }) c.as_slice.ensures.value ∙ c.name.view_is) c.calls.ensures (MatchOption-at_some _ _ c.in-Some.before c.in-Some.is c.in_ok-before.ensures) c.in_ok-card.ensures noted)
    c.note_try.ensures.noted

pub returns-clause-not_told : goal.returns-clause-not_told
returns-clause-not_told g c =
    let name : CallName = record { life = c.name.inside.life; call = c.name.inside.call; line = c.as_slice.result.now } in
    may_put g.D.Disk.seen g.D.Disk.may_leave g.D.Disk.is_usable name c.args.end.now.name c.in_ok-card.card c.note_try.result c.args.kept.now.spool c.note_try.new.self.spool
    (ap (λ (l : List ℕ). record name { line = l }) c.as_slice.ensures.value ∙ c.name.view_is)
    c.note_try.ensures.does

pub returns-in_err-before-clause-not_told : goal.returns-in_err-before-clause-not_told
returns-in_err-before-clause-not_told g c = puts_none g.D.Disk.seen g.D.Disk.may_leave g.D.Disk.is_usable c.args.end.now.name c.from_residual.result c.args.kept.now.spool

pub returns-in_err-card-clause-not_told : goal.returns-in_err-card-clause-not_told
returns-in_err-card-clause-not_told g c =
    puts_none g.D.Disk.seen g.D.Disk.may_leave g.D.Disk.is_usable c.args.end.now.name c.from_residual-in_err-card.result c.args.kept.now.spool
