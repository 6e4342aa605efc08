-- LIVE LADDERS: what is told of a gateway as it runs, by the words of a script that is played. (This project's profile.)
use Rattle.std.specs.Prelude.{◌≡◌, ℕ, List}
use Rattle.fax_call.specs.Writings.{Writing}
use Rattle.fax_descriptions.specs.Tellings.{Description}
use Rattle.fax_explain.specs.Staged.{IsNew, IsStagedBy, PlaysEvent}
use Rattle.fax_explain.specs.declared.live.LiveLadder.{LiveLadder}
use Rattle.fax_gateway.specs.Events.{Event}
use Rattle.fax_gateway.specs.Setups.{Setup}
use Rattle.fax_gateway.specs.declared.settings.Settings.{Settings}
use Rattle.fax_trace.specs.declared.event.ScriptEvent.{ScriptEvent}

-- the trace led to a ladder, where this function gives the texts of pages
abbrev pub IsLadderOf : Setup → Writing → List Event → LiveLadder → Type 0
IsLadderOf setup writes trace ladder = IsStagedBy setup writes trace ladder.stage

-- nothing was played on the ladder of a gateway with these settings
pub record IsNewLadder (settings : Settings) (ladder : LiveLadder) : Type 0 where
  pub new : IsNew ladder.stage
  pub settings_are : ladder.stage.gateway.settings ≡ settings

-- AN EVENT WAS PLAYED: this is told of it, and it is what `Ladders` has told of that event after each trace that led to the ladder. What
-- comes has this moment, which need not be that of the event before it; a tick, and a call that is placed or not, have their own.
abbrev pub PlaysLive : ScriptEvent
    → (moment : ℕ) → (old : LiveLadder) → (told : List Description) → (new : LiveLadder) → Type 0
PlaysLive event moment old told new = PlaysEvent event moment old.stage told new.stage
