-- What is said to a running gateway: one control word, as a line (this project's profile).
use Rattle.std.specs.Prelude.{ℕ, ◌<◌, ◌≤◌, Bool, List, ◌∷◌, [], ◌++◌, length, codes, bytes_eq, nat_eq, ◌||◌}
use Rattle.std.specs.List.{starts_with}
use Rattle.fax_control.specs.ClientStreams.{HasNoLineFeed}
use Rattle.fax_say.specs.declared.saying.Unsayable.{Unsayable}
use Rattle.fax_say.specs.declared.saying.Unsayable.TheVariants.{LineFeed, TooLong}

-- The text can be said: it is one line of at most 256 octets.
pub record IsSayable (text : List ℕ) : Type 0 where
  pub fits : length text ≤ 256
  pub one_line : HasNoLineFeed text

-- why a text cannot be said
abbrev pub IsUnsayable : List ℕ → Unsayable → Type 0
IsUnsayable text LineFeed = ¬ (HasNoLineFeed text)
IsUnsayable text TooLong = 256 < length text

-- a line and its line feed
abbrev pub ended : List ℕ → List ℕ
ended line = line ++ 10 ∷ []

-- after these words events come: `events`, and with what happens in the calls of a line
abbrev pub wants_events : List ℕ → Bool
wants_events text =
    bytes_eq text (codes "events") || starts_with nat_eq text (codes "events frames ")

-- after the answers to these words more is waited for: after `stop` that the server is gone, after the others events
abbrev pub waits_after : List ℕ → Bool
waits_after text = bytes_eq text (codes "stop") || wants_events text
