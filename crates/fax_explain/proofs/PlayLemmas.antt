-- One event more on a stage.
use Rattle.std.proofs.Common.{◌≡◌, ℕ, List, [], ◌∷◌, ◌++◌, Option, None, Result, Ok, Err, IfOk, OnOk, inl, inr, refl, ◌∙◌, ap, ap₂, append-nil}
use Rattle.fax_call.specs.Writings.{Writing}
use Rattle.fax_gateway.specs.Events.{Event, moment_of}
use Rattle.fax_gateway.specs.Setups.{Setup}
use Rattle.fax_gateway.specs.Turns.{call_if_new}
use Rattle.fax_trace.specs.declared.event.ScriptEvent.{ScriptEvent}
use Rattle.fax_trace.specs.Told.{asked_lines, lines_told}
use Rattle.fax_trace.specs.Playing.{PlayedScript, IsRefusal, call_after, newly_asked, scripted, moment_at}
use Rattle.fax_trace.proofs.PlayLemmas.{none_new}
use Rattle.fax_explain.specs.Ladders.{HasAnswer, asked_tellings}
use Rattle.fax_explain.specs.declared.stage.Stage.{Stage}
use Rattle.fax_explain.specs.Staged.{HasAnswered, IsStagedBy, PlaysOn}
use Rattle.fax_descriptions.specs.Tales.{inside}
use Rattle.fax_descriptions.specs.Tellings.{Description}

-- it is accepted, and the answer told
pub accepted_on : (setup : Setup) (writes : Writing) (old : PlayedScript) (event : ScriptEvent) (told : List Description) (stage : Stage) (accepted : Event)
    → scripted accepted ≡ event → moment_of accepted ≡ moment_at event old.moment → HasAnswer setup writes old.trace accepted told
    → IsStagedBy setup writes (accepted ∷ old.trace) stage → HasAnswered setup writes old event told stage
accepted_on setup writes old event told stage accepted is at answer reached =
    inl (record { accepted = accepted; event_is = is; at = at; answer = answer; reached = reached })

-- or it is refused, and why
pub refused_on : (setup : Setup) (writes : Writing) (old : PlayedScript) (event : ScriptEvent) (told : List Description) (stage : Stage) (line why : List ℕ)
    → IsRefusal setup writes old.trace event line → told ≡ inside (line ++ why) ∷ [] → IsStagedBy setup writes old.trace stage
    → HasAnswered setup writes old event told stage
refused_on setup writes old event told stage line why cause is reached = inr (record { line = line; cause = cause; why = why; told_is = is; reached = reached })

-- its answer is told, and after it the call that is newly asked for: it is played
pub plays_on : (setup : Setup) (writes : Writing) (old : PlayedScript) (event : ScriptEvent) (own told : List Description) (stage : Stage) (was is : Option ℕ)
    → HasAnswered setup writes old event own stage → told ≡ own ++ asked_tellings (call_if_new was is) → was ≡ call_after setup writes old.trace
    → ((trace : List Event) → IsStagedBy setup writes trace stage → is ≡ call_after setup writes trace) → PlaysOn setup writes old event told stage
plays_on setup writes old event own told stage was is (inl a) tells was_is is_is =
    let asked : call_if_new was is ≡ newly_asked setup writes old.trace a.accepted = ap₂ call_if_new was_is (is_is (a.accepted ∷ old.trace) a.reached) in
    record {
      new = record {
        trace = a.accepted ∷ old.trace;
        moment = moment_of a.accepted;
        lines = old.lines ++ (lines_told a.accepted ++ asked_lines (newly_asked setup writes old.trace a.accepted));
      };
      tells = inl (record {
        accepts = record { accepted = a.accepted; event_is = a.event_is; at = a.at; new_is = refl };
        own = own;
        answer = a.answer;
        told_is = tells ∙ ap (λ (call : Option ℕ). own ++ asked_tellings call) asked;
      });
      reached = a.reached;
    }
plays_on setup writes old event own told stage was is (inr r) tells was_is is_is =
    let asked : call_if_new was is ≡ None = ap₂ call_if_new was_is (is_is old.trace r.reached) ∙ none_new (call_after setup writes old.trace) in
    record {
      new = record { trace = old.trace; moment = moment_at event old.moment; lines = old.lines ++ r.line ∷ [] };
      tells = inr (record {
        refuses = record { line = r.line; cause = r.cause; new_is = refl };
        why = r.why;
        told_is = tells ∙ ap (λ (call : Option ℕ). own ++ asked_tellings call) asked ∙ append-nil own ∙ r.told_is;
      });
      reached = r.reached;
    }

-- what holds whatever a call answers
pub always : {T E P : Type 0} (r : Result T E) → P → OnOk r P
always (Ok done) p = p
always (Err fault) p = tt

-- what a call hands out, and what follows from that
pub each_ok : {T E : Type 0} {P Q : T → Type 0} (r : Result T E) → IfOk r P → ((x : T) → P x → Q x) → IfOk r Q
each_ok (Ok x) p f = f x p
each_ok (Err fault) p f = tt

-- two facts of a call that was answered
pub OnOk-both : {T E : Type 0} (P Q : Type 0) (r : Result T E) → OnOk r P → OnOk r Q → OnOk r (P × Q)
OnOk-both P Q (Ok done) p q = (p, q)
OnOk-both P Q (Err fault) p q = tt
