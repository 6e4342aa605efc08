-- The card that lies beside the pages of a call that could not be delivered: how its last job ended. (This project's profile; numbers have
-- their high octet first.)
use Rattle.std.specs.Prelude.{◌≡◌, ℕ, ◌<◌, ◌^◌, Bool, true, false, List, [], ◌∷◌, ◌++◌, Option, Some, None, codes, slice_get}
use Rattle.std.specs.Int.{w32, w64, to_be_bytes, from_be_bytes}
use Rattle.fax_runcodes.specs.declared.Width.TheVariants.{W1728}
use Rattle.fax_runcodes.specs.declared.format.Format.{Format}
use Rattle.fax_jobs.specs.declared.outcome.Outcome.{Outcome}
use Rattle.fax_jobs.specs.declared.outcome.Outcome.TheVariants.{Delivered, NotReceiver, WidthLacking, FineLacking, RatesSpent, NoAnswer, NoReply, PageRefused, HungUp, NotPlaced}
use Rattle.fax_jobs.specs.Outcomes.{outcome_number}
use Rattle.fax_spool.specs.RecordOctets.{PageValue}
use Rattle.fax_spool.specs.Torn.{CallName}

-- how a job ended, why, how often it was tried, and when last, in seconds since 1970; and how many of its pages, from the first that waits
-- on, were delivered by tries since they were put
pub record CardValue : Type 0 where
  pub outcome : Outcome
  pub cause : List ℕ
  pub tries : ℕ
  pub at : ℕ
  pub delivered : ℕ

-- its numbers have four octets, eight and four
pub record CardFits (card : CardValue) : Type 0 where
  pub tries : card.tries < 2 ^ 32
  pub at : card.at < 2 ^ 64
  pub delivered : card.delivered < 2 ^ 32

abbrev pub card_octets : CardValue → List ℕ
card_octets card = outcome_number card.outcome ∷ to_be_bytes w32 card.tries
    ++ to_be_bytes w64 card.at ++ to_be_bytes w32 card.delivered ++ card.cause

-- the outcomes, each at its number
abbrev pub outcomes : List Outcome
outcomes = Delivered ∷ NotReceiver ∷ WidthLacking
    ∷ FineLacking ∷ RatesSpent ∷ NoAnswer ∷ NoReply ∷ PageRefused ∷ HungUp ∷ NotPlaced ∷ []

abbrev pub card_with : Option Outcome
    → (cause : List ℕ) → (tries at delivered : ℕ) → Option CardValue
card_with None cause tries at delivered = None
card_with (Some outcome) cause tries at delivered = Some (record {
  outcome = outcome;
  cause = cause;
  tries = tries;
  at = at;
  delivered = delivered;
})

-- the card that octets are, where they are one
abbrev pub card_in : List ℕ → Option CardValue
card_in (n ∷ t0 ∷ t1 ∷ t2 ∷ t3 ∷ a0 ∷ a1 ∷ a2 ∷ a3 ∷ a4 ∷ a5 ∷ a6 ∷ a7 ∷ d0 ∷ d1 ∷ d2 ∷ d3
    ∷ cause) = card_with (slice_get outcomes n) cause (from_be_bytes w32 (t0 ∷ t1 ∷ t2 ∷ t3 ∷ []))
    (from_be_bytes w64 (a0 ∷ a1 ∷ a2 ∷ a3 ∷ a4 ∷ a5 ∷ a6 ∷ a7 ∷ []))
    (from_be_bytes w32 (d0 ∷ d1 ∷ d2 ∷ d3 ∷ []))
card_in octets = None

-- CARDS ARE READ BACK as they were written.
abbrev pub CardsAreReadBack : Type 0
CardsAreReadBack = (card : CardValue) → CardFits card → card_in (card_octets card) ≡ Some card

-- of a call whose card is not there: nothing is known of how it ended
abbrev pub unknown : CardValue
unknown = record { outcome = NotPlaced; cause = codes "unknown"; tries = 0; at = 0; delivered = 0 }

-- the format that the record of a card has
abbrev pub card_format : Format
card_format = record { width = W1728; fine = false }

-- A card is put as a page of number 0 of its call, whose text it is.
abbrev pub card_record : CallName → (tag text : List ℕ) → PageValue
card_record name tag text = record {
  life = name.life;
  call = name.call;
  number = 0;
  format = card_format;
  closes = true;
  line = name.line;
  tag = tag;
  text = text;
}

abbrev pub card_page : CallName → (tag : List ℕ) → CardValue → PageValue
card_page name tag card = card_record name tag (card_octets card)
