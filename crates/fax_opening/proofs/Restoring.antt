-- One more line of a configuration is restored.
use Rattle.std.proofs.Common.{◌≡◌, ◌+◌, ◌<◌, ℕ, List, [], ◌∷◌, ◌++◌, length, take, get_or, sym, ◌∙◌, ap, subst}
use Rattle.std.proofs.lemmas.List.{take_more}
use Rattle.fax_config.specs.declared.config.LineConfig.{LineConfig}
use Rattle.fax_line.specs.Places.{PlaceValue}
use Rattle.fax_spool.specs.RecordOctets as spool
use Rattle.fax_queue.specs.Queues.{QueueValue}
use Rattle.fax_opening.specs.Openings.{AddsRestored, AreRestored, IsRestored}

one_further : (pages : List spool.PageValue) (configs : List LineConfig) (places : List PlaceValue) (queues : List QueueValue) (config : LineConfig) (place : PlaceValue) (queue : QueueValue)
    → AreRestored pages configs places queues → IsRestored pages config place queue → AreRestored pages (configs ++ config ∷ []) (places ++ place ∷ []) (queues ++ queue ∷ [])
one_further pages [] [] [] config place queue are is = (is, tt)
one_further pages [] [] (s ∷ queues) config place queue are is = absurd are
one_further pages [] (p ∷ places) queues config place queue are is = absurd are
one_further pages (c ∷ configs) [] queues config place queue are is = absurd are
one_further pages (c ∷ configs) (p ∷ places) [] config place queue are is = absurd are
one_further pages (c ∷ configs) (p ∷ places) (s ∷ queues) config place queue are is = (are.0, one_further pages configs places queues config place queue are.1 is)

pub one_more : (pages : List spool.PageValue) (configs : List LineConfig) (n : ℕ) (config : LineConfig) (olds news : List PlaceValue) (before after : List QueueValue)
    → n < length configs → get_or configs n config ≡ config → AddsRestored pages config olds news before after
    → AreRestored pages (take n configs) olds before → AreRestored pages (take (n + 1) configs) news after
one_more pages configs n config olds news before after there got adds are =
    let more : take (n + 1) configs ≡ take n configs ++ config ∷ [] = take_more configs n config there ∙ ap (λ (c : LineConfig). take n configs ++ c ∷ []) got in
    subst (λ (l : List QueueValue). AreRestored pages (take (n + 1) configs) news l) (sym adds.queued)
    (subst (λ (l : List PlaceValue). AreRestored pages (take (n + 1) configs) l (before ++ adds.queue ∷ [])) (sym adds.added)
    (subst (λ (l : List LineConfig). AreRestored pages l (olds ++ adds.place ∷ []) (before ++ adds.queue ∷ [])) (sym more)
    (one_further pages (take n configs) olds before config adds.place adds.queue are adds.is)))
