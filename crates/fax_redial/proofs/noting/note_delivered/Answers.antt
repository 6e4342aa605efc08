use Rattle.std.proofs.Common.{List, ℕ, ap, refl, ◌∙◌}
use Rattle.std.proofs.lemmas.Result.{IfOk-weaker}
use Rattle.fax_spool.specs.Torn.{CallName}
use Rattle.fax_redial.proofs.Noted.{counts_delivered, ends_delivered, may_count, may_end}
use Rattle.fax_redial.proofs.noting.note_delivered.Goals as goal

pub returns-in-None-clause-noted : goal.returns-in-None-clause-noted
returns-in-None-clause-noted g c =
    let name : CallName = record { life = c.name.inside.life; call = c.name.inside.call; line = c.as_slice.result.now } in
    IfOk-weaker c.discard.result _ _
    (λ was gone.
    ends_delivered g.D.Disk.seen g.D.Disk.may_leave g.D.Disk.is_usable c.args.end.now name c.calls.result.now c.missed_by.result was c.args.kept.now c.discard.new.self
    (ap (λ (l : List ℕ). record name { line = l }) c.as_slice.ensures.value ∙ c.name.view_is) c.calls.ensures c.missed_by.ensures c.in-None.is gone)
    c.discard.ensures.gone

pub returns-in-None-clause-not_gone : goal.returns-in-None-clause-not_gone
returns-in-None-clause-not_gone g c =
    let name : CallName = record { life = c.name.inside.life; call = c.name.inside.call; line = c.as_slice.result.now } in
    may_end g.D.Disk.seen g.D.Disk.may_leave g.D.Disk.is_usable c.args.end.now name c.calls.result.now c.args.kept.now.calls.items c.missed_by.result c.discard.result c.args.kept.now.spool c.discard.new.self.spool
    (ap (λ (l : List ℕ). record name { line = l }) c.as_slice.ensures.value ∙ c.name.view_is) c.calls.ensures c.missed_by.ensures c.in-None.is c.discard.ensures.does

pub returns-in-Some-clause-noted : goal.returns-in-Some-clause-noted
returns-in-Some-clause-noted g c =
    IfOk-weaker c.count_delivered.result _ _
    (λ was puts.
    counts_delivered g.D.Disk.seen g.D.Disk.may_leave g.D.Disk.is_usable c.args.end.now c.args.end.now.name c.calls.result.now c.missed_by.result c.in-Some.place was c.args.kept.now c.count_delivered.new.kept refl
    c.calls.ensures c.missed_by.ensures c.in-Some.is puts)
    c.count_delivered.ensures.noted

pub returns-in-Some-clause-not_gone : goal.returns-in-Some-clause-not_gone
returns-in-Some-clause-not_gone g c =
    may_count g.D.Disk.seen g.D.Disk.may_leave g.D.Disk.is_usable c.args.end.now c.args.end.now.name c.calls.result.now c.args.kept.now.calls.items c.missed_by.result c.in-Some.place c.count_delivered.result c.args.kept.now.spool
    c.count_delivered.new.kept.spool refl c.calls.ensures c.missed_by.ensures c.in-Some.is c.count_delivered.ensures.not_told
