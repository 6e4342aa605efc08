use Rattle.std.proofs.Common.{◌≡◌, All, length}
use Rattle.fax_desk.specs.Cards.{card_new}
use Rattle.fax_redial.proofs.redials.new_cards.Given as goal

abbrev pub invariant-loop : goal.invariant-loop
invariant-loop l = record {
  count : length l.cards.items ≡ l.counter;
  each : All (λ card. card ≡ card_new l.dial_seconds) l.cards.items;
}
