use Rattle.std.proofs.Common.{◌≡◌, List, ℕ, ◌++◌, ◌∙◌, true, false, ap, sym, subst}
use Rattle.fax_spool.specs.RecordOctets.{PageValue}
use Rattle.fax_spool.specs.Calls.{Does, Puts}
use Rattle.fax_spool.specs.declared.spool.Spool.{Spool}
use Rattle.fax_spool.proofs.Doing.{does_err, does_nothing}
use Rattle.fax_undelivered.specs.Calls.{card_records, with_its_card}
use Rattle.fax_undelivered.specs.Keeps.{Keeps}
use Rattle.fax_undelivered.proofs.Coming.{keeps_too}
use Rattle.fax_undelivered.proofs.undelivered.Undelivered.keep.Goals as goal

pub returns-then-not-are_pages-clause-does : goal.returns-then-not-are_pages-clause-does
returns-then-not-are_pages-clause-does g c = does_nothing _ _ _ c.args.self.now.spool c.args.self.now.spool (Puts (with_its_card c.args.pages.now c.args.card.now))

pub returns-in_err-text-clause-does : goal.returns-in_err-text-clause-does
returns-in_err-text-clause-does g c =
    does_err _ _ _ c.args.self.now.spool c.args.self.now.spool _ c.from_residual.result (Puts (with_its_card c.args.pages.now c.args.card.now)) c.from_residual.ensures.1
    (does_nothing _ _ _ c.args.self.now.spool c.args.self.now.spool (Puts (with_its_card c.args.pages.now c.args.card.now)))

pub returns-in_err-records-clause-does : goal.returns-in_err-records-clause-does
returns-in_err-records-clause-does g c =
    does_err _ _ _ c.args.self.now.spool c.args.self.now.spool _ c.from_residual-in_err-records.result (Puts (with_its_card c.args.pages.now c.args.card.now)) c.from_residual-in_err-records.ensures.1
    (does_nothing _ _ _ c.args.self.now.spool c.args.self.now.spool (Puts (with_its_card c.args.pages.now c.args.card.now)))

pub returns-in_err-put-clause-does : goal.returns-in_err-put-clause-does
returns-in_err-put-clause-does g c =
    let same : c.as_slice-2.result.now ≡ with_its_card c.args.pages.now c.args.card.now =
    c.as_slice-2.ensures.value ∙ c.in_ok-records.ensures ∙ ap (λ (l : List ℕ). c.args.pages.now ++ card_records c.args.pages.now l) (c.as_slice.ensures.value ∙ c.in_ok-text.ensures) in
    does_err _ _ _ c.args.self.now.spool c.put.new.self.spool _ c.from_residual-in_err-put.result (Puts (with_its_card c.args.pages.now c.args.card.now)) c.from_residual-in_err-put.ensures.1
    (subst (λ (l : List PageValue). Does g.D.Disk.seen g.D.Disk.may_leave g.D.Disk.is_usable (Puts l) false c.args.self.now.spool c.put.new.self.spool) same c.in_err-put.ensures.does)

pub returns-clause-does : goal.returns-clause-does
returns-clause-does g c =
    let same : c.as_slice-2.result.now ≡ with_its_card c.args.pages.now c.args.card.now =
    c.as_slice-2.ensures.value ∙ c.in_ok-records.ensures ∙ ap (λ (l : List ℕ). c.args.pages.now ++ card_records c.args.pages.now l) (c.as_slice.ensures.value ∙ c.in_ok-text.ensures) in
    subst (λ (s : Spool g.row.D.Denot). Does g.D.Disk.seen g.D.Disk.may_leave g.D.Disk.is_usable (Puts (with_its_card c.args.pages.now c.args.card.now)) true c.args.self.now.spool s) (sym c.tell.ensures.spool)
    (subst (λ (l : List PageValue). Does g.D.Disk.seen g.D.Disk.may_leave g.D.Disk.is_usable (Puts l) true c.args.self.now.spool c.put.new.self.spool) same c.in_ok-put.ensures.does)

pub returns-clause-kept : goal.returns-clause-kept
returns-clause-kept g c = λ waits keeps.
    let same : c.as_slice-2.result.now ≡ with_its_card c.args.pages.now c.args.card.now =
    c.as_slice-2.ensures.value ∙ c.in_ok-records.ensures ∙ ap (λ (l : List ℕ). c.args.pages.now ++ card_records c.args.pages.now l) (c.as_slice.ensures.value ∙ c.in_ok-text.ensures) in
    keeps_too _ _ _ c.put.new.self c.tell.new.self _ c.tell.ensures.spool c.tell.ensures.same
    (subst (λ (l : List PageValue). Keeps g.D.Disk.seen g.D.Disk.may_leave g.D.Disk.is_usable c.put.new.self (waits ++ l)) same (c.in_ok-put.ensures.kept waits keeps))
