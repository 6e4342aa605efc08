-- What was played and told so far.
use Rattle.std.proofs.Common.{◌≡◌, ℕ, List, ◌∷◌, [], ◌++◌, map, sym, ◌∙◌, ap, subst}
use Rattle.fax_call.specs.Writings.{Writing}
use Rattle.fax_gateway.specs.Setups.{Setup}
use Rattle.fax_trace.specs.declared.event.ScriptEvent.{ScriptEvent}
use Rattle.fax_trace.specs.Playing.{PlayedScript, nothing_played, moment_at}
use Rattle.fax_explain.specs.Ladders.{TellAll}
use Rattle.fax_explain.specs.Explained.{AreExplained}
use Rattle.fax_explain.specs.declared.stage.Stage.{Stage}
use Rattle.fax_explain.specs.Staged.{IsStagedBy, PlaysOn}
use Rattle.fax_explain.proofs.LadderLemmas.{TellAll-push, moment_after}
use Rattle.fax_descriptions.specs.Tales.{line_text}
use Rattle.fax_descriptions.specs.Tellings.{Description}

-- events were played on a gateway, up to this moment, and lines tell them
pub record IsTold (setup : Setup) (writes : Writing) (events : List ScriptEvent) (lines : List (List ℕ)) (moment : ℕ) (stage : Stage) : Type 0 where
  pub played : PlayedScript
  pub told : TellAll setup writes nothing_played events played lines
  pub at : moment ≡ played.moment
  pub reached : IsStagedBy setup writes played.trace stage

pub explained : (setup : Setup) (writes : Writing) (events : List ScriptEvent) (lines : List (List ℕ)) (moment : ℕ) (stage : Stage)
    → IsTold setup writes events lines moment stage → AreExplained setup writes events lines
explained setup writes events lines moment stage t = record { played = t.played; told = t.told; is_trace = t.reached.reached.is_trace }

-- one event more
pub IsTold-push : (setup : Setup) (writes : Writing) (events : List ScriptEvent) (event : ScriptEvent) (lines : List (List ℕ)) (told : List Description)
    (last moment : ℕ) (old new : Stage) → (t : IsTold setup writes events lines last old) → moment ≡ moment_at event last
    → (moment ≡ moment_at event t.played.moment → PlaysOn setup writes t.played event told new)
    → IsTold setup writes (events ++ event ∷ []) (lines ++ map (line_text moment) told) moment new
IsTold-push setup writes events event lines told last moment old new t is plays =
    let now : moment ≡ moment_at event t.played.moment = is ∙ ap (moment_at event) t.at in
    let on : PlaysOn setup writes t.played event told new = plays now in
    let at : moment ≡ on.new.moment = now ∙ sym (moment_after setup writes t.played event on.new told on.tells) in
    record {
      played = on.new;
      told = subst (λ (m : ℕ). TellAll setup writes nothing_played (events ++ event ∷ []) on.new (lines ++ map (line_text m) told)) (sym at)
          (TellAll-push setup writes nothing_played events event t.played on.new lines told t.told on.tells);
      at = at;
      reached = on.reached;
    }
