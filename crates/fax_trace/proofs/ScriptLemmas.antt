-- Lines that tell events, one by one.
use Rattle.std.proofs.Common.{ℕ, List, [], ◌∷◌, ◌++◌}
use Rattle.fax_trace.specs.declared.event.ScriptEvent.{ScriptEvent}
use Rattle.fax_trace.specs.Scripts.{TellsEvent, TellEvents}

-- one line more, and its event
pub TellEvents-push : (lines : List (List ℕ)) (events : List ScriptEvent) (line : List ℕ) (event : ScriptEvent) → TellEvents lines events
    → TellsEvent line event → TellEvents (lines ++ line ∷ []) (events ++ event ∷ [])
TellEvents-push [] [] line event so_far more = (more, tt)
TellEvents-push [] (e ∷ events) line event so_far more = absurd so_far
TellEvents-push (l ∷ lines) [] line event so_far more = absurd so_far
TellEvents-push (l ∷ lines) (e ∷ events) line event so_far more = (so_far.0, TellEvents-push lines events line event so_far.1 more)
