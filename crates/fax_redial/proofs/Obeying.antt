-- An order of the desk is done at once.
use Rattle.std.proofs.Common.{◌≡◌, ℕ, false, List, ◌++◌, drop, length, take, Option, Some, slice_get, sym, ◌∙◌, ap, subst}
use Rattle.fax_control.specs.declared.word.Word.{Word}
use Rattle.fax_desk.specs.Desks.{looked_at, looked_cards, name_at, step_of, stop_then}
use Rattle.fax_desk.specs.Said.{any_after, unasked_if, waits_if}
use Rattle.fax_desk.specs.declared.desk.Desk.{Desk}
use Rattle.fax_desk.specs.declared.desk.LookOutcome.{LookOutcome}
use Rattle.fax_desk.specs.declared.desk.Waits.{Waits}
use Rattle.fax_desk.specs.declared.next.Next.{Next}
use Rattle.fax_desk.specs.declared.next.Reply.{Reply}
use Rattle.fax_desk.specs.declared.told.LineEvent.{LineEvent}
use Rattle.fax_desk.specs.declared.view.LineView.{LineView}
use Rattle.fax_redial.specs.Befalls.{Tries}
use Rattle.fax_redial.specs.Seeing.{seen_at, try_seen}
use Rattle.fax_redial.specs.Telling.{RedialsValue}
use Rattle.fax_redial.specs.Tries.{TryValue}
use Rattle.fax_redial.proofs.Redialling.{comes_back}
use Rattle.fax_redial.specs.Words.{LooksIf, ObeysIf, Steps, TellsIf, asked_in, order_in, reply_by}

-- of redial lines whose tries came back as a slice
pub as_seen : (P : RedialsValue → RedialsValue → Type 0) (n : ℕ) (left : Tries) (desk : Desk) (old all : RedialsValue) → old ≡ all → n ≡ length old.tries → length left ≡ length old.tries
    → P old (record { desk = desk; tries = left }) → P all (record { desk = desk; tries = take n (left ++ drop (length left) old.tries) })
as_seen P n left desk old all same whole as_many is =
    subst (λ (r : RedialsValue). P r (record { desk = desk; tries = take n (left ++ drop (length left) old.tries) })) same
    (subst (λ (t : Tries). P old (record { desk = desk; tries = t })) (sym (comes_back n left old.tries whole as_many)) is)

-- a word, and the order that it gave
pub steps_so : {L : Type 0} (tells : List ℕ → ℕ → LineEvent → L → L → Type 0) (asker now : ℕ) (said : Word) (next : Next) (done reply : Reply) (desk : Desk) (tries : Tries) (old new : RedialsValue) (before after : L)
    → tries ≡ old.tries → next ≡ step_of old.desk (seen_at tries) false said → desk.waits ≡ waits_if asker next → desk.stop ≡ stop_then said now old.desk.stop_ms old.desk.stop
    → desk.any_from ≡ any_after old.desk.any_from next → desk ≡ record old.desk { waits = desk.waits; stop = desk.stop; any_from = desk.any_from }
    → ObeysIf tells now (order_in desk.waits) done desk new.desk old.tries new.tries before after → reply ≡ reply_by next done → Steps tells asker now said reply old new before after
steps_so tells asker now said next done reply desk tries old new before after tries_is next_is waits stop any same obeys reply_is =
    let came : next ≡ step_of old.desk (seen_at old.tries) false said = next_is ∙ ap (λ (t : Tries). step_of old.desk (seen_at t) false said) tries_is in record {
      desk = desk;
      waits = waits ∙ ap (waits_if asker) came;
      desk_is = same ∙ ap (λ s. record old.desk { waits = desk.waits; stop = s; any_from = desk.any_from }) stop
          ∙ ap (λ (a : ℕ). record old.desk { waits = desk.waits; stop = stop_then said now old.desk.stop_ms old.desk.stop; any_from = a }) (any ∙ ap (any_after old.desk.any_from) came);
      done = done;
      obeys = obeys;
      reply_is = reply_is ∙ ap (λ (n : Next). reply_by n done) came;
    }

-- a question that is looked at, and the order that it gave
pub looks_so : {L : Type 0} (tells : List ℕ → ℕ → LineEvent → L → L → Type 0) (i now : ℕ) (held : TryValue) (line : LineView) (looked : LookOutcome) (asked : Option LineEvent) (desk : Desk) (reply : Reply)
    (old new : RedialsValue) (before told after : L) → slice_get old.tries i ≡ Some (Some held) → line ≡ try_seen (Some held) → looked ≡ looked_at old.desk i line → desk.cards.items ≡ looked_cards old.desk i line
    → desk.waits ≡ unasked_if looked → desk ≡ record old.desk { cards = desk.cards; waits = desk.waits } → asked ≡ asked_in held.job.tries looked → TellsIf tells (name_at desk.names.items i) asked now before told
    → ObeysIf tells now (order_in desk.waits) reply desk new.desk old.tries new.tries told after → LooksIf tells i now (slice_get old.tries i) old new before after
looks_so tells i now held line looked asked desk reply old new before told after there line_is looked_is cards waits same asked_is tells_so obeys =
    let came : looked ≡ looked_at old.desk i (try_seen (Some held)) = looked_is ∙ ap (λ (v : LineView). looked_at old.desk i v) line_is in
    subst (λ (o : Option (Option TryValue)). LooksIf tells i now o old new before after) (sym there) (record {
      desk = desk;
      cards = cards ∙ ap (λ (v : LineView). looked_cards old.desk i v) line_is;
      desk_is = same ∙ ap (λ (w : Option Waits). record old.desk { cards = desk.cards; waits = w }) (waits ∙ ap unasked_if came);
      told = told;
      tells_so = subst (λ (o : Option LineEvent). TellsIf tells (name_at old.desk.names.items i) o now before told) (asked_is ∙ ap (asked_in held.job.tries) came)
          (subst (λ (d : Desk). TellsIf tells (name_at d.names.items i) asked now before told) same tells_so);
      reply = reply;
      obeys = obeys;
    })
