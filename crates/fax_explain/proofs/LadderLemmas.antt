-- What is told, and lines at their moments.
use Rattle.std.proofs.Common.{◌≡◌, ℕ, Bool, is_some, List, [], ◌∷◌, ◌++◌, Option, None, Some, inl, inr, map, refl, sym, ◌∙◌, ap, subst, append-nil, append_assoc}
use Rattle.fax_command.specs.RowLines.{text_of_lines}
use Rattle.fax_jobs.specs.Jobs.{JobValue}
use Rattle.fax_gateway.specs.Setups.{Setup}
use Rattle.fax_call.specs.Writings.{Writing}
use Rattle.fax_trace.specs.declared.event.ScriptEvent.{ScriptEvent}
use Rattle.fax_trace.specs.Playing.{PlayedScript, moment_at}
use Rattle.fax_descriptions.specs.Tales.{line_text, paragraph_text}
use Rattle.fax_descriptions.specs.Tellings.{Description}
use Rattle.fax_explain.specs.Ladders.{TellsPlay, TellAll, begun_tellings, newly_sent}
use Rattle.fax_explain.specs.Staged.{begun_if}

-- the lines of a paragraph
pub paragraph_lines : (moment : ℕ) (told : List Description) → paragraph_text moment told ≡ text_of_lines (map (line_text moment) told)
paragraph_lines moment [] = refl
paragraph_lines moment (telling ∷ told) =
    ap (λ (rest : List ℕ). (line_text moment telling ++ 10 ∷ []) ++ rest) (paragraph_lines moment told)

-- the moment after an event is that of the event
pub moment_after : (setup : Setup) (writes : Writing) (old : PlayedScript) (event : ScriptEvent) (new : PlayedScript) (told : List Description)
    → TellsPlay setup writes old event new told → new.moment ≡ moment_at event old.moment
moment_after setup writes old event new told (inl t) = ap (λ (p : PlayedScript). p.moment) t.accepts.new_is ∙ t.accepts.at
moment_after setup writes old event new told (inr t) = ap (λ (p : PlayedScript). p.moment) t.refuses.new_is

-- one event more
pub TellAll-push : (setup : Setup) (writes : Writing) (old : PlayedScript) (events : List ScriptEvent) (event : ScriptEvent) (mid new : PlayedScript) (lines : List (List ℕ))
    (told : List Description) → TellAll setup writes old events mid lines → TellsPlay setup writes mid event new told
    → TellAll setup writes old (events ++ event ∷ []) new (lines ++ map (line_text new.moment) told)
TellAll-push setup writes old [] event mid new lines told all one =
    let own : List (List ℕ) = map (line_text new.moment) told in
    (new, told, [], subst (λ (p : PlayedScript). TellsPlay setup writes p event new told) all.0 one, ap (λ l. l ++ own) all.1 ∙ sym (append-nil own), (refl, refl))
TellAll-push setup writes old (e ∷ events) event mid new lines told all one =
    let own : List (List ℕ) = map (line_text new.moment) told in (
      all.0,
      all.1,
      all.2 ++ own,
      all.3,
      ap (λ l. l ++ own) all.4 ∙ append_assoc (map (line_text all.0.moment) all.1) all.2 own,
      TellAll-push setup writes all.0 events event mid new all.2 told all.5 one,
    )

-- what goes on goes on
pub goes_both : (old mid new a b : List Description) → mid ≡ old ++ a → new ≡ mid ++ b → new ≡ old ++ (a ++ b)
goes_both old mid new a b p q = q ∙ ap (λ (t : List Description). t ++ b) p ∙ append_assoc old a b

-- the job whose call begins is told
pub begun_told : (was : Bool) (sending before after : Option JobValue) → was ≡ is_some before → sending ≡ after → begun_if was sending ≡ begun_tellings (newly_sent before after)
begun_told was sending None after w s = ap (λ (b : Bool). begun_if b sending) w ∙ ap begun_tellings s
begun_told was sending (Some job) after w s = ap (λ (b : Bool). begun_if b sending) w
