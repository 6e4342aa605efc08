use Rattle.std.proofs.Common.{List, ℕ, [], ◌∷◌, ◌++◌, length, refl, sym, subst, inl, ◌∙◌, ap, arith}
use Rattle.fax_spool.specs.declared.stored_page.StoredPage.{StoredPage}
use Rattle.fax_spool.specs.declared.spool_record.SpoolRecord.TheVariants.{Page}
use Rattle.fax_spool.specs.Calls.{Puts}
use Rattle.fax_spool.proofs.Doing.{as_before, does_err, does_none, does_nothing, does_put, may_have_put, more_pages}
use Rattle.fax_spool.specs.Places.{StandsAt}
use Rattle.fax_spool.proofs.KnownPages.{kept_append, kept_more, same_kept}
use Rattle.fax_spool.proofs.Places.{stands_put, vec_length}
use Rattle.fax_spool.proofs.SpoolSteps.{at_rest, keeps_more, leaves_more, read_through}
use Rattle.fax_spool.proofs.spool.Spool.put.Goals as goal

pub returns-in_err-name-clause-crash : goal.returns-in_err-name-clause-crash
returns-in_err-name-clause-crash g c = λ olds news k older newer left. inl (at_rest _ _ _ _ c.args.self.now olds news k older newer left)

pub returns-in_err-octets-clause-crash : goal.returns-in_err-octets-clause-crash
returns-in_err-octets-clause-crash g c = λ olds news k older newer left. inl (at_rest _ _ _ _ c.args.self.now olds news k older newer left)

pub returns-in_err-place-clause-crash : goal.returns-in_err-place-clause-crash
returns-in_err-place-clause-crash g c = λ olds news k older newer left. inl (at_rest _ _ _ _ c.args.self.now olds news k older newer left)

pub returns-in_err-reserve-clause-crash : goal.returns-in_err-reserve-clause-crash
returns-in_err-reserve-clause-crash g c = λ olds news k older newer left. inl (at_rest _ _ _ _ c.args.self.now olds news k older newer left)

pub returns-in_err-append-clause-crash : goal.returns-in_err-append-clause-crash
returns-in_err-append-clause-crash g c = λ olds news k.
    leaves_more _ _ _ _ (record c.args.self.now { newer = c.append.new.file }) olds news k c.as_slice.result.now (Page c.args.page.now) (read_through _ _ (Page c.args.page.now) c.as_slice.ensures.value c.in_ok-octets.ensures) refl c.append.ensures.crash

pub returns-clause-crash : goal.returns-clause-crash
returns-clause-crash g c = λ olds news k.
    leaves_more _ _ _ _ (record c.args.self.now { newer = c.append.new.file }) olds news k c.as_slice.result.now (Page c.args.page.now) (read_through _ _ (Page c.args.page.now) c.as_slice.ensures.value c.in_ok-octets.ensures) refl c.append.ensures.crash

pub returns-clause-acknowledged : goal.returns-clause-acknowledged
returns-clause-acknowledged g c = λ olds news k.
    keeps_more _ _ _ _ _ olds news k c.as_slice.result.now (Page c.args.page.now) (read_through _ _ (Page c.args.page.now) c.as_slice.ensures.value c.in_ok-octets.ensures) refl
    (c.in_ok-append.ensures.acknowledged k.newer_items k.newer)
    k.older_waits
    (same_kept _ _ _ _ _ (c.push_reserved.ensures.items ∙ ap (λ (l : List StoredPage). l ++ record { name = c.in_ok-name.name; source = c.source_of-source.result } ∷ []) c.reserve.ensures.items) refl
    (kept_append _ _ _ _ _ (kept_more _ _ _ _ k.newer_waits) (
      (
        c.in_ok-name.ensures,
        c.source_of-source.ensures (k.newer_items ++ c.as_slice.result.now ∷ []) c.args.page.now
            (subst (λ (l : List ℕ). StandsAt (k.newer_items ++ c.as_slice.result.now ∷ []) c.in_ok-place.place l) c.as_slice.ensures.value
            (stands_put _ _ _ _ _ _ k.newer [] c.in_ok-place.place c.as_slice.result.now c.in_ok-place.ensures.at (c.in_ok-place.ensures.octets ∙ c.len.ensures ∙ vec_length c.in_ok-octets.octets ∙ sym (ap length c.as_slice.ensures.value))))
            c.in_ok-octets.ensures,
      ),
      tt,
    )))
    (omega arith) (omega arith)

pub returns-then-self-clause-does : goal.returns-then-self-clause-does
returns-then-self-clause-does g c = does_nothing _ _ _ c.args.self.now c.args.self.now (Puts (c.args.page.now ∷ []))

pub returns-in_err-name-clause-does : goal.returns-in_err-name-clause-does
returns-in_err-name-clause-does g c = does_err _ _ _ c.args.self.now _ _ c.from_residual.result (Puts (c.args.page.now ∷ [])) c.from_residual.ensures.1 (does_nothing _ _ _ c.args.self.now c.args.self.now (Puts (c.args.page.now ∷ [])))

pub returns-in_err-octets-clause-does : goal.returns-in_err-octets-clause-does
returns-in_err-octets-clause-does g c = does_err _ _ _ c.args.self.now _ _ c.from_residual-in_err-octets.result (Puts (c.args.page.now ∷ [])) c.from_residual-in_err-octets.ensures.1 (does_nothing _ _ _ c.args.self.now c.args.self.now (Puts (c.args.page.now ∷ [])))

pub returns-in_err-place-clause-does : goal.returns-in_err-place-clause-does
returns-in_err-place-clause-does g c = does_err _ _ _ c.args.self.now _ _ c.from_residual-in_err-place.result (Puts (c.args.page.now ∷ [])) c.from_residual-in_err-place.ensures.1 (does_nothing _ _ _ c.args.self.now c.args.self.now (Puts (c.args.page.now ∷ [])))

pub returns-in_err-reserve-clause-does : goal.returns-in_err-reserve-clause-does
returns-in_err-reserve-clause-does g c = does_err _ _ _ c.args.self.now _ _ c.from_residual-in_err-reserve.result (Puts (c.args.page.now ∷ [])) c.from_residual-in_err-reserve.ensures.1
    (does_none _ _ _ c.args.self.now _ (Puts (c.args.page.now ∷ [])) c.if-self.false (as_before _ _ _ c.args.self.now _ refl refl refl c.reserve.ensures.items refl refl))

pub returns-in_err-append-clause-does : goal.returns-in_err-append-clause-does
returns-in_err-append-clause-does g c = does_err _ _ _ c.args.self.now _ _ c.from_residual-in_err-append.result (Puts (c.args.page.now ∷ [])) c.from_residual-in_err-append.ensures.1
    (may_have_put _ _ _ c.args.self.now _ (Puts (c.args.page.now ∷ [])) (Page c.args.page.now ∷ []) (more_pages (c.args.page.now ∷ [])) (λ n. tt) c.if-self.false (returns-in_err-append-clause-crash g c) c.in_err-append.ensures.failed)

pub returns-clause-does : goal.returns-clause-does
returns-clause-does g c = does_put _ _ _ c.args.self.now _ (Puts (c.args.page.now ∷ [])) (Page c.args.page.now ∷ []) (more_pages (c.args.page.now ∷ [])) (λ n. tt) c.if-self.false (returns-clause-acknowledged g c)

pub returns-then-self-clause-crash : goal.returns-then-self-clause-crash
returns-then-self-clause-crash g c = λ olds news k older newer left. inl (at_rest _ _ _ _ c.args.self.now olds news k older newer left)
