use Rattle.std.proofs.Common.{List, ℕ, [], ◌∷◌, ◌++◌, false, ◌∙◌, ap, sym, subst}
use Rattle.std.specs.List.{list_any}
use Rattle.fax_spool.specs.Calls.{Does, Puts}
use Rattle.fax_spool.specs.Torn.{CallName}
use Rattle.fax_spool.proofs.Doing.{does_nothing}
use Rattle.fax_undelivered.specs.Cards.{card_page, card_record}
use Rattle.fax_undelivered.specs.Calls.{CallValue, is_named}
use Rattle.fax_undelivered.specs.Keeps.{Keeps}
use Rattle.fax_undelivered.proofs.Coming.{on_err}
use Rattle.fax_undelivered.proofs.undelivered.Undelivered.note_try.Goals as goal

pub returns-clause-noted : goal.returns-clause-noted
returns-clause-noted g c =
    let name : CallName = record { life = c.args.life; call = c.args.call; line = c.args.line.now } in (
      sym (ap (λ (l : List CallValue). list_any (is_named name) l) c.as_slice.ensures.value) ∙ c.in-Some.ensures,
      (
        c.as_slice-2.result.now,
        λ waits keeps.
            subst (λ (t : List ℕ). Keeps g.D.Disk.seen g.D.Disk.may_leave g.D.Disk.is_usable c.put.new.self (waits ++ card_record name c.as_slice-2.result.now t ∷ [])) (c.as_slice-3.ensures.value ∙ c.in_ok-text.ensures)
            (c.in_ok-put.ensures.kept waits keeps),
      ),
    )

pub returns-in_err-tag-in-Some-clause-does : goal.returns-in_err-tag-in-Some-clause-does
returns-in_err-tag-in-Some-clause-does g c =
    let name : CallName = record { life = c.args.life; call = c.args.call; line = c.args.line.now } in
    on_err c.from_residual.result ([], does_nothing _ _ _ c.args.self.now.spool c.args.self.now.spool (Puts (card_page name [] c.args.card.now ∷ [])))

pub returns-in_err-text-clause-does : goal.returns-in_err-text-clause-does
returns-in_err-text-clause-does g c =
    let name : CallName = record { life = c.args.life; call = c.args.call; line = c.args.line.now } in
    on_err c.from_residual-in_err-text.result ([], does_nothing _ _ _ c.args.self.now.spool c.args.self.now.spool (Puts (card_page name [] c.args.card.now ∷ [])))

pub returns-in_err-put-clause-does : goal.returns-in_err-put-clause-does
returns-in_err-put-clause-does g c =
    let name : CallName = record { life = c.args.life; call = c.args.call; line = c.args.line.now } in
    on_err c.from_residual-in_err-put.result (
      c.as_slice-2.result.now,
      subst (λ (t : List ℕ). Does g.D.Disk.seen g.D.Disk.may_leave g.D.Disk.is_usable (Puts (card_record name c.as_slice-2.result.now t ∷ [])) false c.args.self.now.spool c.put.new.self.spool) (c.as_slice-3.ensures.value ∙ c.in_ok-text.ensures)
          c.in_err-put.ensures.does,
    )
