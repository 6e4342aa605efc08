use Rattle.std.proofs.Common.{List, [], ◌∷◌, ◌∙◌, true, false, refl, ap, sym, subst}
use Rattle.std.specs.List.{list_any}
use Rattle.fax_spool.specs.RecordOctets.{EndedValue}
use Rattle.fax_spool.specs.Torn.{CallName}
use Rattle.fax_spool.specs.Calls.{Does, Ends}
use Rattle.fax_spool.proofs.Doing.{does_nothing}
use Rattle.fax_undelivered.specs.Calls.{CallValue, end_of, is_named}
use Rattle.fax_undelivered.proofs.Coming.{leaves, on_err}
use Rattle.fax_undelivered.proofs.undelivered.Undelivered.discard.Goals as goal

pub returns-then-not-has_call-clause-gone : goal.returns-then-not-has_call-clause-gone
returns-then-not-has_call-clause-gone g c =
    let name : CallName = record { life = c.args.life; call = c.args.call; line = c.args.line.now } in
    (sym (ap (λ (l : List CallValue). list_any (is_named name) l) c.as_slice.ensures.value) ∙ sym c.has_call.ensures ∙ c.if-not-has_call.true, refl)

pub returns-then-line-gt-MOST_NAME-clause-does : goal.returns-then-line-gt-MOST_NAME-clause-does
returns-then-line-gt-MOST_NAME-clause-does g c = does_nothing _ _ _ c.args.self.now.spool c.args.self.now.spool _

pub returns-in_err-end-clause-does : goal.returns-in_err-end-clause-does
returns-in_err-end-clause-does g c =
    on_err c.from_residual.result
    (subst (λ (e : EndedValue). Does g.D.Disk.seen g.D.Disk.may_leave g.D.Disk.is_usable (Ends (e ∷ [])) false c.args.self.now.spool c.end.new.self) c.end_from-ended.ensures c.in_err-end.ensures.does)

pub returns-clause-gone : goal.returns-clause-gone
returns-clause-gone g c =
    let name : CallName = record { life = c.args.life; call = c.args.call; line = c.args.line.now } in (
      sym (ap (λ (l : List CallValue). list_any (is_named name) l) c.as_slice.ensures.value) ∙ sym c.has_call.ensures ∙ c.if-not-has_call.false,
      λ waits keeps.
          leaves _ _ _ c.args.self.now _ c.end.new.self name waits
          (subst (λ (e : EndedValue). Does g.D.Disk.seen g.D.Disk.may_leave g.D.Disk.is_usable (Ends (e ∷ [])) true c.args.self.now.spool c.end.new.self) c.end_from-ended.ensures c.in_ok-end.ensures.does)
          c.change_files-self.ensures.told c.drop_call.ensures keeps,
    )
