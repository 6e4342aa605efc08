-- What happened, as an event (this project's profile).
use Rattle.std.specs.Prelude.{◌≡◌, ℕ, List, Option, Some, None, option_map}
use Rattle.std.specs.Str.{IsUtf8}
use Rattle.fax_control.specs.declared.events.event.What.{What}
use Rattle.fax_control.specs.declared.events.event.What.TheVariants as what
use Rattle.fax_desk.specs.declared.questions.Cause.{Cause}
use Rattle.fax_desk.specs.declared.tag.Tag.{Tag}
use Rattle.fax_desk.specs.declared.told.LineEvent.{LineEvent}
use Rattle.fax_desk.specs.declared.told.LineEvent.TheVariants as happened
use Rattle.fax_desk.specs.Questions.{cause_text}
use Rattle.fax_desk.specs.Tags.{tag_text}

-- The text that is shown of a tag, or of a cause, is its own; none where there is none.
abbrev pub TagShows : Option Tag → Option (List ℕ) → Type 0
TagShows None shown = shown ≡ None
TagShows (Some tag) shown = IsUtf8 (tag_text tag) → shown ≡ Some (tag_text tag)

abbrev pub CauseShows : Option Cause → Option (List ℕ) → Type 0
CauseShows None shown = shown ≡ None
CauseShows (Some why) shown = IsUtf8 (cause_text why) → shown ≡ Some (cause_text why)

abbrev pub Shows : LineEvent → What → Type 0
Shows (happened.Rung tagged) (what.Rung call tag) =
    (call ≡ tagged.call) × TagShows tagged.tag (option_map (λ text. text.now) tag)
Shows (happened.Rung tagged) other = ⊥
Shows (happened.NotStored tagged) (what.NotStored call tag) =
    (call ≡ tagged.call) × TagShows tagged.tag (option_map (λ text. text.now) tag)
Shows (happened.NotStored tagged) other = ⊥
Shows (happened.Page page said) (what.Page kept tag) =
    (kept ≡ page) × TagShows said (option_map (λ text. text.now) tag)
Shows (happened.Page page said) other = ⊥
Shows (happened.RefusedPage refused said) (what.RefusedPage call tag why) =
    (call ≡ refused.call) × (why ≡ refused.why) × TagShows said (option_map (λ text. text.now) tag)
Shows (happened.RefusedPage refused said) other = ⊥
Shows (happened.Ended tagged how) (what.Ended call tag ending) =
    (call ≡ tagged.call) × (ending ≡ how) × TagShows tagged.tag (option_map (λ text. text.now) tag)
Shows (happened.Ended tagged how) other = ⊥
Shows (happened.Job report said why) (what.Job told tag cause) =
    (told ≡ report) × TagShows said (option_map (λ text. text.now) tag)
    × CauseShows why (option_map (λ text. text.now) cause)
Shows (happened.Job report said why) other = ⊥
Shows (happened.Dial tagged) (what.Dial call tag) =
    (call ≡ tagged.call) × TagShows tagged.tag (option_map (λ text. text.now) tag)
Shows (happened.Dial tagged) other = ⊥
Shows (happened.Asked job said) (what.Asked asked tag) =
    (asked ≡ job) × TagShows said (option_map (λ text. text.now) tag)
Shows (happened.Asked job said) other = ⊥
Shows (happened.Connected tagged) (what.Connected call tag) =
    (call ≡ tagged.call) × TagShows tagged.tag (option_map (λ text. text.now) tag)
Shows (happened.Connected tagged) other = ⊥
