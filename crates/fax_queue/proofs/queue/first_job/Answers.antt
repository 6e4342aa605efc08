use Rattle.std.proofs.Common.{◌≡◌, ◌∙◌, ◌-◌, ℕ, suc, refl, sym, subst, arith, slice_get, length, ap, count_by, take, IfNone, Option, None, Some}
use Rattle.std.proofs.lemmas.Option.{slice_get_read}
use Rattle.fax_queue.specs.Queues.{NamesFirst}
use Rattle.fax_queue.specs.declared.queue.EndedJob.{EndedJob}
use Rattle.fax_queue.specs.declared.queue.QueuedPage.{QueuedPage}
use Rattle.fax_queue.proofs.Naming.{names_first, says_of}
use Rattle.fax_queue.proofs.queue.first_job.Goals as goal

pub returns-clause-names : goal.returns-clause-names
returns-clause-names c =
    let waits = c.args.waits.now in
    let first = c.in_ok-first.first.now in
    let last = c.in_ok-last.last.now in
    let n = c.in_ok-checked_sub.field-0 in
    let ended : EndedJob = record { life = first.life; call = first.call; first = first.number; pages = c.in_ok-checked_add.field-0; stored = c.count_stored.result } in
    let less = c.in_ok-checked_sub.ensures in
    let span = c.in_ok-checked_sub-2.ensures in
    let more = c.in_ok-checked_add.ensures in
    let looked = c.in_ok-last.ensures.lookup in
    let at : slice_get waits n ≡ Some last = slice_get_read waits (length waits) n last refl looked.3.0 looked.1 in
    let all : suc n ≡ c.args.pages = omega (arith, less.0, less.1) in
    subst (λ (m : ℕ). NamesFirst m ended waits) all
    (names_first waits first last n ended c.requires (sym c.in_ok-first.ensures.value) at (c.if-first-last.false) (c.if-first-last-2.false) refl refl refl span.0 (omega (arith, span.0, span.1, more.1)) (c.count_stored.ensures ∙ ap (λ (m : ℕ). count_by (λ (page : QueuedPage). page.is_stored) (take m waits)) (sym all)))

on_none : {T : Type 0} {P : Type 0} (o : Option T) → P → IfNone o P
on_none None p = p
on_none (Some x) p = tt

pub returns-in_err-checked_sub-2-clause-none : goal.returns-in_err-checked_sub-2-clause-none
returns-in_err-checked_sub-2-clause-none c =
    let waits = c.args.waits.now in
    let first = c.in_ok-first.first.now in
    let last = c.in_ok-last.last.now in
    let n = c.in_ok-checked_sub.field-0 in
    let less = c.in_ok-checked_sub.ensures in
    let looked = c.in_ok-last.ensures.lookup in
    let same : n ≡ c.args.pages - 1 = omega (arith, less.0, less.1) in
    let at : slice_get waits (c.args.pages - 1) ≡ Some last = subst (λ (m : ℕ). slice_get waits m ≡ Some last) same (slice_get_read waits (length waits) n last refl looked.3.0 looked.1) in
    on_none c.from_residual-in_err-checked_sub-2.result (λ is. c.in_err-checked_sub-2.ensures (says_of c.args.pages waits first last c.requires (sym c.in_ok-first.ensures.value) at is).low)

pub returns-in_err-checked_add-clause-none : goal.returns-in_err-checked_add-clause-none
returns-in_err-checked_add-clause-none c =
    let waits = c.args.waits.now in
    let first = c.in_ok-first.first.now in
    let last = c.in_ok-last.last.now in
    let n = c.in_ok-checked_sub.field-0 in
    let less = c.in_ok-checked_sub.ensures in
    let looked = c.in_ok-last.ensures.lookup in
    let span = c.in_ok-checked_sub-2.ensures in
    let same : n ≡ c.args.pages - 1 = omega (arith, less.0, less.1) in
    let at : slice_get waits (c.args.pages - 1) ≡ Some last = subst (λ (m : ℕ). slice_get waits m ≡ Some last) same (slice_get_read waits (length waits) n last refl looked.3.0 looked.1) in
    on_none c.from_residual-in_err-checked_add.result (λ is.
    let counted = (says_of c.args.pages waits first last c.requires (sym c.in_ok-first.ensures.value) at is).counted in c.in_err-checked_add.ensures (omega (arith, counted, span.0, span.1)))

pub returns-clause-begins : goal.returns-clause-begins
returns-clause-begins c = record { first = c.in_ok-first.first.now; is_first = sym c.in_ok-first.ensures.value; life = refl; call = refl; number = refl }
