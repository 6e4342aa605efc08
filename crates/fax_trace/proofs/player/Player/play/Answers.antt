use Rattle.std.proofs.Common.{◌≡◌, ℕ, List, [], ◌++◌, Option, None, length, refl, sym, ◌∙◌, ap, ap₂, arith}
use Rattle.fax_command.specs.RowLines.{text_of_lines}
use Rattle.fax_gateway.specs.Turns.{call_if_new}
use Rattle.fax_trace.specs.Told.{asked_lines}
use Rattle.fax_trace.proofs.PlayLemmas.{plays_on}
use Rattle.fax_trace.proofs.WantedLemmas.{none_new}
use Rattle.fax_trace.proofs.player.Player.play.Goals as goal

pub returns-clause-played : goal.returns-clause-played
returns-clause-played c = λ setup writes old written is.
    plays_on setup writes old c.args.event _ c.args.self.now c.answer.new.self _ _ _ is (c.in_ok-lines.ensures.answered setup writes old written is) refl refl
    (c.in_ok-extend_from_slice.ensures.items
    ∙ ap₂ (λ (a b : List ℕ). a ++ b) (ap (λ (v : _). v.items) c.in_ok-lines.ensures.text) (c.as_slice.ensures.value ∙ c.in_ok-push_asked.ensures.told))
    (c.asked-was_asked.ensures.told setup writes old.trace is.reached) (λ trace reached. c.asked.ensures.told setup writes trace reached)

pub returns-in_err-extend_from_slice-clause-memory : goal.returns-in_err-extend_from_slice-clause-memory
returns-in_err-extend_from_slice-clause-memory c = λ setup writes played is early.
    let same : c.asked.result ≡ c.asked-was_asked.result = c.asked.ensures.asked ∙ c.in_ok-lines.ensures.asked setup writes played is early ∙ sym c.asked-was_asked.ensures.asked in
    let none : call_if_new c.asked-was_asked.result c.asked.result ≡ None = none_new c.asked-was_asked.result c.asked.result same in
    let empty : c.push_asked.new.text.items ≡ [] = c.in_ok-push_asked.ensures.told
    ∙ ap₂ (λ (a b : List ℕ). a ++ b) (c.in_ok-lines.ensures.nothing setup writes played is early) (ap (λ (asked : Option ℕ). text_of_lines (asked_lines asked)) none) in
    let no_octets : length c.as_slice.result.now ≡ 0 = ap (λ (octets : List ℕ). length octets) (c.as_slice.ensures.value ∙ empty) in
    absurd (omega (arith, no_octets, c.in_err-extend_from_slice.ensures.full))
