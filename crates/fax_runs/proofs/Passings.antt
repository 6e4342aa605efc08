-- What passes at the desk while the next order is asked for.
use Rattle.std.proofs.Common.{◌≡◌, ℕ, List, [], ◌∷◌, ◌++◌, Option, None, refl, sym, ◌∙◌, ap, subst, append_assoc, append-nil}
use Rattle.fax_line.specs.declared.asked.LineAnswer.{LineAnswer}
use Rattle.fax_line.specs.declared.order.Order.{Order as LoopOrder}
use Rattle.fax_desk.specs.declared.card.Card.{Card}
use Rattle.fax_desk.specs.declared.desk.LookOutcome.TheVariants as looked
use Rattle.fax_desk.specs.declared.desk.Waits.{Waits}
use Rattle.fax_desk.specs.declared.next.Next.{Next}
use Rattle.fax_desk.specs.declared.next.Next.TheVariants as next
use Rattle.fax_desk.specs.declared.next.Order.{Order}
use Rattle.fax_desk.specs.Desks.{done_of}
use Rattle.fax_desk.specs.Laws.{DeskEvent, Lapsed, Passes, Said, Told, told_of}
use Rattle.fax_desk.specs.Said.{unasked_if, waits_if}
use Rattle.fax_runs.specs.Desking.{GivesOrder, Hears, LineAsked, PaceValue, asked_by, given_by, ordered}
use Rattle.fax_runs.proofs.Desking.{orders_more, told_more}

some_are_not_none : (a : LineAsked) (l : List LineAsked) → a ∷ l ≡ [] → ⊥
some_are_not_none a l is = cc is

-- nothing passed, and no line is asked
pub none_given : (given : Option LoopOrder) (old new : PaceValue) → given_by given ≡ [] → new.waits ≡ old.waits → GivesOrder given old new
none_given given old new none same free = (
  record { passed = []; passes = λ earlier p. subst (λ (w : Option Waits). Passes earlier w) (sym same) p; orders = sym none; told_is = refl },
  λ _. same ∙ free,
)

-- a word was said, and came to this
pub said_given : (asker : ℕ) (came : Next) (given : Option LoopOrder) (old new : PaceValue) → new.waits ≡ waits_if asker came → ordered (Said asker came ∷ []) ≡ given_by given → GivesOrder given old new
said_given asker (next.Orders order) given old new waits is free = (
  record { passed = Said asker (next.Orders order) ∷ []; passes = λ earlier p. (subst (λ (w : Option Waits). Passes earlier w) free p, waits); orders = is; told_is = refl },
  λ none. absurd (some_are_not_none (asked_by order) [] (is ∙ none)),
)
said_given asker (next.Replies reply) given old new waits is free = (
  record { passed = Said asker (next.Replies reply) ∷ []; passes = λ earlier p. (subst (λ (w : Option Waits). Passes earlier w) free p, waits); orders = is; told_is = refl },
  λ _. waits,
)
said_given asker (next.Reports line) given old new waits is free = (
  record { passed = Said asker (next.Reports line) ∷ []; passes = λ earlier p. (subst (λ (w : Option Waits). Passes earlier w) free p, waits); orders = is; told_is = refl },
  λ _. waits,
)
said_given asker next.Status given old new waits is free = (
  record { passed = Said asker next.Status ∷ []; passes = λ earlier p. (subst (λ (w : Option Waits). Passes earlier w) free p, waits); orders = is; told_is = refl },
  λ _. waits,
)
said_given asker next.Metrics given old new waits is free = (
  record { passed = Said asker next.Metrics ∷ []; passes = λ earlier p. (subst (λ (w : Option Waits). Passes earlier w) free p, waits); orders = is; told_is = refl },
  λ _. waits,
)
said_given asker next.Events given old new waits is free = (
  record { passed = Said asker next.Events ∷ []; passes = λ earlier p. (subst (λ (w : Option Waits). Passes earlier w) free p, waits); orders = is; told_is = refl },
  λ _. waits,
)
said_given asker (next.Frames line) given old new waits is free = (
  record { passed = Said asker (next.Frames line) ∷ []; passes = λ earlier p. (subst (λ (w : Option Waits). Passes earlier w) free p, waits); orders = is; told_is = refl },
  λ _. waits,
)
said_given asker next.Reloads given old new waits is free = (
  record { passed = Said asker next.Reloads ∷ []; passes = λ earlier p. (subst (λ (w : Option Waits). Passes earlier w) free p, waits); orders = is; told_is = refl },
  λ _. waits,
)
said_given asker next.Undelivered given old new waits is free = (
  record { passed = Said asker next.Undelivered ∷ []; passes = λ earlier p. (subst (λ (w : Option Waits). Passes earlier w) free p, waits); orders = is; told_is = refl },
  λ _. waits,
)
said_given asker next.Discards given old new waits is free = (
  record { passed = Said asker next.Discards ∷ []; passes = λ earlier p. (subst (λ (w : Option Waits). Passes earlier w) free p, waits); orders = is; told_is = refl },
  λ _. waits,
)
said_given asker next.Retries given old new waits is free = (
  record { passed = Said asker next.Retries ∷ []; passes = λ earlier p. (subst (λ (w : Option Waits). Passes earlier w) free p, waits); orders = is; told_is = refl },
  λ _. waits,
)

-- a question was looked at, and nobody had answered it in its time
pub lapsed_given : (order : Order) (given : Option LoopOrder) (old new : PaceValue) → new.waits ≡ unasked_if (looked.Orders order) → asked_by order ∷ [] ≡ given_by given → GivesOrder given old new
lapsed_given order given old new waits is free = (
  record { passed = Lapsed order ∷ []; passes = λ earlier p. (subst (λ (w : Option Waits). Passes earlier w) free p, waits); orders = is; told_is = refl },
  λ none. absurd (some_are_not_none (asked_by order) [] (is ∙ none)),
)

-- one after the other, where the first gave no order
pub then_given : (given : Option LoopOrder) (old mid new : PaceValue) → GivesOrder None old mid → GivesOrder given mid new → GivesOrder given old new
then_given given old mid new first second free =
    let a = first free in
    let b = second (a.1 refl) in (
      record {
        passed = b.0.passed ++ a.0.passed;
        passes = λ earlier p. subst (λ (l : List DeskEvent). Passes l new.waits) (sym (append_assoc b.0.passed a.0.passed earlier)) (b.0.passes (a.0.passed ++ earlier) (a.0.passes earlier p));
        orders = orders_more b.0.passed a.0.passed ∙ ap (λ (l : List LineAsked). l ++ ordered a.0.passed) b.0.orders ∙ ap (λ (l : List LineAsked). given_by given ++ l) a.0.orders ∙ append-nil (given_by given);
        told_is = told_more b.0.passed a.0.passed ∙ ap (λ (l : List (Option LineAnswer)). l ++ told_of a.0.passed) b.0.told_is ∙ a.0.told_is;
      },
      b.1,
    )

-- what a line answered is told
pub told_heard : (cards : List Card) (answered : Option LineAnswer) (old new : PaceValue) → new.waits ≡ None → Hears answered old new
told_heard cards answered old new none = (
  record {
    passed = Told answered (done_of cards old.waits answered) ∷ [];
    passes = λ earlier p. (cards, old.waits, p, refl, none);
    orders = refl;
    told_is = refl;
  },
  none,
)
