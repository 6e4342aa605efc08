-- One event more.
use Rattle.std.proofs.Common.{◌≡◌, ℕ, List, [], ◌∷◌, ◌++◌, Option, None, Some, inl, inr, refl, sym, ◌∙◌, ap, ap₂, subst, append-nil}
use Rattle.fax_call.specs.Writings.{Writing}
use Rattle.fax_gateway.specs.Events.{Event, moment_of}
use Rattle.fax_gateway.specs.Reached.{GatewayValue, IsReachedBy}
use Rattle.fax_command.specs.RowLines.{text_of_lines}
use Rattle.fax_gateway.specs.Setups.{Setup}
use Rattle.fax_gateway.specs.Turns.{call_if_new}
use Rattle.fax_trace.specs.declared.event.ScriptEvent.{ScriptEvent}
use Rattle.fax_trace.specs.declared.player.Player.{Player}
use Rattle.fax_trace.specs.Told.{asked_lines, lines_told}
use Rattle.fax_trace.specs.Playing.{PlayedScript, Plays, PlaysAll, IsRefusal, call_after, scripted, moment_at}
use Rattle.fax_trace.specs.Rep.{HasAnswered, IsPlaying, PlaysOn}
use Rattle.fax_command.proofs.TellLemmas.{text_of_lines-append}

-- at the end of those that were played
pub PlaysAll-push : (setup : Setup) (writes : Writing) (old : PlayedScript) (events : List ScriptEvent) (event : ScriptEvent) (mid new : PlayedScript)
    → PlaysAll setup writes old events mid → Plays setup writes mid event new → PlaysAll setup writes old (events ++ event ∷ []) new
PlaysAll-push setup writes old [] event mid new all one = (new, subst (λ (p : PlayedScript). Plays setup writes p event new) all one, refl)
PlaysAll-push setup writes old (e ∷ events) event mid new all one = (all.0, all.1, PlaysAll-push setup writes all.0 events event mid new all.2 one)

-- it is accepted
pub answers_accepted : (setup : Setup) (writes : Writing) (old : PlayedScript) (event : ScriptEvent) (text : List ℕ) (player : Player) (accepted : Event)
    → scripted accepted ≡ event → moment_of accepted ≡ moment_at event old.moment → IsReachedBy setup writes (accepted ∷ old.trace) player.gateway
    → player.moment ≡ moment_of accepted → text ≡ text_of_lines (lines_told accepted) → HasAnswered setup writes old event text player
answers_accepted setup writes old event text player accepted is at reached moment told =
    inl (record { accepted = accepted; event_is = is; at = at; reached = reached; moment = moment; text_is = told })

-- or it is refused
pub answers_refused : (setup : Setup) (writes : Writing) (old : PlayedScript) (event : ScriptEvent) (text : List ℕ) (player : Player) (line : List ℕ)
    → IsRefusal setup writes old.trace event line → IsReachedBy setup writes old.trace player.gateway → player.moment ≡ moment_at event old.moment
    → text ≡ text_of_lines (line ∷ []) → HasAnswered setup writes old event text player
answers_refused setup writes old event text player line cause reached moment told =
    inr (record { line = line; cause = cause; reached = reached; moment = moment; text_is = told })

-- what is asked for before and after is not new
pub none_new : (asked : Option ℕ) → call_if_new asked asked ≡ None
none_new None = refl
none_new (Some call) = refl

-- a text goes on with two more
three_texts : (lines own last : List (List ℕ)) (old : List ℕ) → old ≡ text_of_lines lines
    → old ++ (text_of_lines own ++ text_of_lines last) ≡ text_of_lines (lines ++ (own ++ last))
three_texts lines own last old is =
    ap₂ (λ (a b : List ℕ). a ++ b) is (sym (text_of_lines-append own last)) ∙ sym (text_of_lines-append lines (own ++ last))

-- what it answered is told, and after it the call that is newly asked for: it is played
pub plays_on : (setup : Setup) (writes : Writing) (old : PlayedScript) (event : ScriptEvent) (own : List ℕ) (before mid after : Player) (was is : Option ℕ)
    → IsPlaying setup writes old before → HasAnswered setup writes old event own mid → after.gateway ≡ mid.gateway → after.moment ≡ mid.moment
    → after.text.items ≡ before.text.items ++ (own ++ text_of_lines (asked_lines (call_if_new was is)))
    → was ≡ call_after setup writes old.trace → ((trace : List Event) → IsReachedBy setup writes trace mid.gateway → is ≡ call_after setup writes trace)
    → PlaysOn setup writes old event after
plays_on setup writes old event own before mid after was is playing (inl a) same at told was_is is_is =
    let reached = subst (λ (g : GatewayValue). IsReachedBy setup writes (a.accepted ∷ old.trace) g) (sym same) a.reached in
    let asked : call_if_new was is ≡ call_if_new (call_after setup writes old.trace) (call_after setup writes (a.accepted ∷ old.trace)) =
    ap₂ call_if_new was_is (is_is (a.accepted ∷ old.trace) a.reached) in
    let lines : List (List ℕ) = asked_lines (call_if_new (call_after setup writes old.trace) (call_after setup writes (a.accepted ∷ old.trace))) in
    record {
      new = record { trace = a.accepted ∷ old.trace; moment = moment_of a.accepted; lines = old.lines ++ (lines_told a.accepted ++ lines) };
      plays = inl (record { accepted = a.accepted; event_is = a.event_is; at = a.at; new_is = refl });
      is_playing = record {
        reached = reached;
        at = at ∙ a.moment;
        told = told ∙ ap₂ (λ (a : List ℕ) (b : Option ℕ). before.text.items ++ (a ++ text_of_lines (asked_lines b))) a.text_is asked
            ∙ three_texts old.lines (lines_told a.accepted) lines before.text.items playing.told;
      };
    }
plays_on setup writes old event own before mid after was is playing (inr r) same at told was_is is_is =
    let reached = subst (λ (g : GatewayValue). IsReachedBy setup writes old.trace g) (sym same) r.reached in
    let asked : call_if_new was is ≡ None = ap₂ call_if_new was_is (is_is old.trace r.reached) ∙ none_new (call_after setup writes old.trace) in
    record {
      new = record { trace = old.trace; moment = moment_at event old.moment; lines = old.lines ++ r.line ∷ [] };
      plays = inr (record { line = r.line; cause = r.cause; new_is = refl });
      is_playing = record {
        reached = reached;
        at = at ∙ r.moment;
        told = told ∙ ap₂ (λ (a : List ℕ) (b : Option ℕ). before.text.items ++ (a ++ text_of_lines (asked_lines b))) r.text_is asked
            ∙ three_texts old.lines (r.line ∷ []) [] before.text.items playing.told ∙ ap (λ (more : List (List ℕ)). text_of_lines (old.lines ++ more)) (append-nil (r.line ∷ []));
      };
    }
