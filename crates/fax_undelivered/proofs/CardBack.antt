-- Cards are read back.
use Rattle.std.proofs.Common.{◌≡◌, ℕ, zero, suc, ◌≤◌, List, [], ◌∷◌, length, Option, Some, None, slice_get, refl, ◌∙◌, ap, arith}
use Rattle.std.proofs.lemmas.Nat.{from_be_bytes-to_be_bytes_4, from_be_bytes-to_be_bytes_8}
use Rattle.std.specs.Int.{w32, w64, to_be_bytes, from_be_bytes}
use Rattle.fax_jobs.specs.declared.outcome.Outcome.{Outcome}
use Rattle.fax_jobs.specs.declared.outcome.Outcome.TheVariants.{Delivered, NotReceiver, WidthLacking, FineLacking, RatesSpent, NoAnswer, NoReply, PageRefused, HungUp, NotPlaced}
use Rattle.fax_jobs.specs.Outcomes.{outcome_number}
use Rattle.fax_undelivered.specs.Cards.{CardsAreReadBack, CardValue, card_in, card_with, outcomes}

outcome_at : (o : Outcome) → slice_get outcomes (outcome_number o) ≡ Some o
outcome_at Delivered = refl
outcome_at NotReceiver = refl
outcome_at WidthLacking = refl
outcome_at FineLacking = refl
outcome_at RatesSpent = refl
outcome_at NoAnswer = refl
outcome_at NoReply = refl
outcome_at PageRefused = refl
outcome_at HungUp = refl
outcome_at NotPlaced = refl

card_same : (o : Outcome) (cause : List ℕ) (t u a b d e : ℕ) → t ≡ u → a ≡ b → d ≡ e → card_with (Some o) cause t a d ≡ card_with (Some o) cause u b e
card_same o cause t u a b d e tries at delivered = cc

pub cards_back : CardsAreReadBack
cards_back card fits =
    ap (λ (o : Option Outcome). card_with o card.cause (from_be_bytes w32 (to_be_bytes w32 card.tries)) (from_be_bytes w64 (to_be_bytes w64 card.at)) (from_be_bytes w32 (to_be_bytes w32 card.delivered))) (outcome_at card.outcome)
    ∙ card_same card.outcome card.cause _ card.tries _ card.at _ card.delivered (from_be_bytes-to_be_bytes_4 card.tries fits.tries) (from_be_bytes-to_be_bytes_8 card.at fits.at) (from_be_bytes-to_be_bytes_4 card.delivered fits.delivered)

-- no outcome has a number beyond these
pub no_outcome : (n : ℕ) → 10 ≤ n → slice_get outcomes n ≡ None
no_outcome zero le = absurd (omega (arith, le))
no_outcome (suc zero) le = absurd (omega (arith, le))
no_outcome (suc (suc zero)) le = absurd (omega (arith, le))
no_outcome (suc (suc (suc zero))) le = absurd (omega (arith, le))
no_outcome (suc (suc (suc (suc zero)))) le = absurd (omega (arith, le))
no_outcome (suc (suc (suc (suc (suc zero))))) le = absurd (omega (arith, le))
no_outcome (suc (suc (suc (suc (suc (suc zero)))))) le = absurd (omega (arith, le))
no_outcome (suc (suc (suc (suc (suc (suc (suc zero))))))) le = absurd (omega (arith, le))
no_outcome (suc (suc (suc (suc (suc (suc (suc (suc zero)))))))) le = absurd (omega (arith, le))
no_outcome (suc (suc (suc (suc (suc (suc (suc (suc (suc zero))))))))) le = absurd (omega (arith, le))
no_outcome (suc (suc (suc (suc (suc (suc (suc (suc (suc (suc n)))))))))) le = refl
