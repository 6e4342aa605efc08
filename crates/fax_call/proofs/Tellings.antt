-- What is told of the pieces that come.
use Rattle.std.proofs.Common.{◌≡◌, ℕ, Bool, true, false, List, [], ◌∷◌, ◌++◌, Option, Some, None, refl, sym, ◌∙◌, ap, subst, if◌then◌else◌}
use Rattle.fax_timers.specs.Moments.{is_due}
use Rattle.fax_ifp.specs.Pieces.{Piece, Frame, Start, Octets, End, Gap}
use Rattle.fax_call.specs.declared.acting.ActingTimer.{ActingTimer}
use Rattle.fax_call.specs.declared.acting.ActingTimer.TheVariants.{T1, T4}
use Rattle.fax_call.specs.declared.decision.Decision.{Decision}
use Rattle.fax_call.specs.declared.state.State.{State}
use Rattle.fax_call.specs.declared.state.State.TheVariants.{Idle, AwaitDis, AwaitCfr, AwaitMcf, Closing}
use Rattle.fax_call.specs.Replies.{waits}
use Rattle.fax_call.specs.Table.{Move, Stays, Trains, Sends, AsksAgain, Turns, Closes, HangsUp, gives_up_dis, on_timers, tries_again, asks_again}
use Rattle.fax_call.specs.Calls.{CallerCore, came, came_all, heard, moved, timed}
use Rattle.fax_call.specs.Watching.{Telling, telling, telling_with, tellings, Watches, decision_of, IfPassedOver, TellsWhatIsDone, acting, acting_in, acted_by, moves_by_t4, TellsWhatActs}

-- A WATCHER
pub watches_none : {W : Type 0} → (tells : Telling → W → W → Type 0) (old : W) (told : List Telling) → told ≡ [] → Watches tells old old told
watches_none tells old told e = subst (λ (t : List Telling). Watches tells old old t) (sym e) refl

pub watches_more : {W : Type 0} → (tells : Telling → W → W → Type 0) (old mid new : W) (earlier later : List Telling) → Watches tells old mid earlier → Watches tells mid new later → Watches tells old new (earlier ++ later)
watches_more {W} tells old mid new [] later x y = subst (λ (w : W). Watches tells w new later) x y
watches_more tells old mid new (t ∷ earlier) later x y = (x.0, x.1, watches_more tells x.0 mid new earlier later x.2 y)

-- the state and what waits, told of a core
pub tells_of : {W : Type 0} → (tells : Telling → W → W → Type 0) (old new : W) (s t : State) (v w : Bool) (p : Piece) (d : Decision) → s ≡ t → v ≡ w
    → tells (record { state = s; waits = v; piece = p; verdict = d }) old new → tells (record { state = t; waits = w; piece = p; verdict = d }) old new
tells_of tells old new s t v w p d a b h =
    subst (λ (x : Bool). tells (record { state = t; waits = x; piece = p; verdict = d }) old new) b
    (subst (λ (x : State). tells (record { state = x; waits = v; piece = p; verdict = d }) old new) a h)

-- one piece, told of a core
pub watches_one : {W : Type 0} → (tells : Telling → W → W → Type 0) (old new : W) (s t : State) (v w : Bool) (p q : Piece) (d e : Decision) → s ≡ t → v ≡ w → p ≡ q → d ≡ e
    → tells (record { state = s; waits = v; piece = p; verdict = d }) old new
    → Watches tells old new (record { state = t; waits = w; piece = q; verdict = e } ∷ [])
watches_one tells old new s t v w p q d e a b c f h = (
  new,
  subst (λ (x : Decision). tells (record { state = t; waits = w; piece = q; verdict = x }) old new) f
      (subst (λ (x : Piece). tells (record { state = t; waits = w; piece = x; verdict = d }) old new) c
      (subst (λ (x : Bool). tells (record { state = t; waits = x; piece = p; verdict = d }) old new) b
      (subst (λ (x : State). tells (record { state = x; waits = v; piece = p; verdict = d }) old new) a h))),
  refl,
)

-- PIECES
told_append : (p : Piece) (t : Telling) (more later : List Telling) → telling_with p t (more ++ later) ≡ telling_with p t more ++ later
told_append (Frame octets) t more later = refl
told_append (Start kind) t more later = refl
told_append (Octets octets) t more later = refl
told_append (End whole) t more later = refl
told_append Gap t more later = refl

pub tellings_append : (a : CallerCore) (xs ys : List Piece) (now : ℕ) → tellings a (xs ++ ys) now ≡ tellings a xs now ++ tellings (came_all a xs now) ys now
tellings_append a [] ys now = refl
tellings_append a (p ∷ xs) ys now =
    ap (telling_with p (telling a p now)) (tellings_append (came a p now) xs ys now)
    ∙ told_append p (telling a p now) (tellings (came a p now) xs now) (tellings (came_all (came a p now) xs now) ys now)

-- WHAT IS TOLD IS WHAT WAS DONE
by_move : (a : CallerCore) (m : Move) → IfPassedOver (decision_of m) (moved a m ≡ a)
by_move a Stays = refl
by_move a (Trains dis dcs c) = tt
by_move a (Sends dis dcs c) = tt
by_move a (AsksAgain c) = tt
by_move a (Turns format t1 c) = tt
by_move a (Closes outcome c) = tt
by_move a HangsUp = tt

pub tells_what_is_done : TellsWhatIsDone
tells_what_is_done a piece now = by_move a (heard a piece now)

-- TIMERS
t1_acts : (b : Bool) (a : CallerCore) → moved a (if b then gives_up_dis a.counts else Stays) ≡ acted_by (if b then Some T1 else None) a
t1_acts true a = refl
t1_acts false a = refl

t4_acts : (b : Bool) (s : State) (a : CallerCore) (m : Move) → a.state ≡ s → m ≡ moves_by_t4 s a → moved a (if b then m else Stays) ≡ acted_by (if b then Some T4 else None) a
t4_acts true s a m e f = ap (moved a) (f ∙ ap (λ (x : State). moves_by_t4 x a) (sym e))
t4_acts false s a m e f = refl

in_state : (s : State) (a : CallerCore) (now : ℕ) → a.state ≡ s → moved a (on_timers (is_due a.t1 now) (is_due a.t4 now) s a.counts) ≡ acted_by (acting_in s (is_due a.t1 now) (is_due a.t4 now)) a
in_state Idle a now e = refl
in_state (Closing outcome) a now e = refl
in_state AwaitDis a now e = t1_acts (is_due a.t1 now) a
in_state (AwaitCfr dis dcs) a now e = t4_acts (is_due a.t4 now) (AwaitCfr dis dcs) a (tries_again dis dcs a.counts) e refl
in_state (AwaitMcf dis dcs) a now e = t4_acts (is_due a.t4 now) (AwaitMcf dis dcs) a (asks_again a.counts) e refl

waits_or : (b : Bool) (a : CallerCore) (m : Move) (o : Option ActingTimer) → moved a m ≡ acted_by o a → moved a (if b then Stays else m) ≡ acted_by (if b then None else o) a
waits_or true a m o e = refl
waits_or false a m o e = e

pub tells_what_acts : TellsWhatActs
tells_what_acts a now = waits_or (waits a.waiting) a _ (acting_in a.state (is_due a.t1 now) (is_due a.t4 now)) (in_state a.state a now refl)
