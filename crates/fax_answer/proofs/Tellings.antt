-- What is told of the pieces that come.
use Rattle.std.proofs.Common.{◌≡◌, ℕ, Bool, true, false, List, [], ◌∷◌, ◌++◌, Option, Some, None, refl, sym, ◌∙◌, ap, subst, if◌then◌else◌}
use Rattle.fax_timers.specs.Moments.{is_due}
use Rattle.fax_ifp.specs.Pieces.{Piece, Frame, Start, Octets, End, Gap}
use Rattle.fax_answer.specs.declared.state.State.{State}
use Rattle.fax_answer.specs.declared.state.State.TheVariants.{Idle, Identify, Listen, Train, Page, Again, Closing}
use Rattle.fax_answer.specs.declared.timers.ActingTimer.{ActingTimer}
use Rattle.fax_answer.specs.declared.timers.ActingTimer.TheVariants.{T1, T2, T4}
use Rattle.fax_answer.specs.History.{Decision}
use Rattle.fax_answer.specs.Table.{Reading, Question, decision}
use Rattle.fax_answer.specs.Replies.{is_waiting, reply_to}
use Rattle.fax_answer.specs.Calls.{AnswererCore, asked, came, came_all, first_asked, or_else, timed_in, says_goodbye, identifies_again, identifies_anew}
use Rattle.fax_answer.specs.Confirmation.{IfAsked, IsRead}
use Rattle.fax_answer.specs.Rep.{verdict_of}
use Rattle.fax_answer.specs.Watching.{Telling, telling, telling_with, tellings, Watches, CameTold, Shown, shown_with, shown_of, told_after, TellsTheHistory, acting_in, acts_by_t2, acted_by, TellsWhatActs}
use Rattle.fax_answer.proofs.Readings.{decision_same, came_same, waiting_asks, wait_more, wait_after, asked_waits}

-- A WATCHER
pub watches_one : {W : Type 0} → (tells : Telling → W → W → Type 0) (old new : W) (t : Telling) → tells t old new → Watches tells old new (t ∷ [])
watches_one tells old new t h = (new, h, refl)

pub watches_none : {W : Type 0} → (tells : Telling → W → W → Type 0) (old : W) (told : List Telling) → told ≡ [] → Watches tells old old told
watches_none tells old told e = subst (λ (t : List Telling). Watches tells old old t) (sym e) refl

pub watches_more : {W : Type 0} → (tells : Telling → W → W → Type 0) (old mid new : W) (earlier later : List Telling) → Watches tells old mid earlier → Watches tells mid new later → Watches tells old new (earlier ++ later)
watches_more {W} tells old mid new [] later x y = subst (λ (w : W). Watches tells w new later) x y
watches_more tells old mid new (t ∷ earlier) later x y = (x.0, x.1, watches_more tells x.0 mid new earlier later x.2 y)

-- PIECES
pub told_append : (p : Piece) (t : Telling) (more later : List Telling) → telling_with p t more ++ later ≡ telling_with p t (more ++ later)
told_append (Frame octets) t more later = refl
told_append (Start kind) t more later = refl
told_append (Octets octets) t more later = refl
told_append (End whole) t more later = refl
told_append Gap t more later = refl

pub came_told_one : (a : AnswererCore) (p : Piece) (now : ℕ) (read : Reading) → IfAsked (asked a p) read → CameTold a (p ∷ []) now (came read a p now) (telling_with p (telling read a p) [])
came_told_one a p now read right = (read, right, [], refl, (refl, refl))

pub came_told_append : (a b c : AnswererCore) (xs ys : List Piece) (now : ℕ) (s t : List Telling) → CameTold a xs now b s → CameTold b ys now c t → CameTold a (xs ++ ys) now c (s ++ t)
came_told_append a b c [] ys now s t x y =
    subst (λ (k : AnswererCore). CameTold k ys now c (s ++ t)) (sym x.0) (subst (λ (k : List Telling). CameTold b ys now c (k ++ t)) (sym x.1) y)
came_told_append a b c (p ∷ xs) ys now s t x y = (
  x.0,
  x.1,
  x.2 ++ t,
  ap (λ (k : List Telling). k ++ t) x.3 ∙ told_append p (telling x.0 a p) x.2 t,
  came_told_append (came x.0 a p now) b c xs ys now x.2 t x.4 y,
)

-- one reading for the pieces of a datagram
telling_same : (r s : Reading) (a : AnswererCore) (p : Piece) → asked a p ≡ None → telling r a p ≡ telling s a p
telling_same r s a p h =
    ap (λ (d : Decision). let t : Telling = record { state = a.state; waits = is_waiting a.waiting; piece = p; verdict = verdict_of d } in t)
    (decision_same r s a.state (is_waiting a.waiting) a.history p h)

told_by : (r s : Reading) (a : AnswererCore) (p : Piece) (ps : List Piece) (now : ℕ) (later : List Telling) → telling r a p ≡ telling s a p → tellings r (came r a p now) ps now ≡ later
    → tellings r a (p ∷ ps) now ≡ telling_with p (telling s a p) later
told_by r s a p ps now later same e =
    ap (λ (t : Telling). telling_with p t (tellings r (came r a p now) ps now)) same ∙ ap (telling_with p (telling s a p)) e

abbrev pub Joined : Reading → AnswererCore → List Piece → ℕ → AnswererCore → List Telling → Type 0
Joined read a ps now z told = (came_all read a ps now ≡ z) × (tellings read a ps now ≡ told)

joined_by : (r s : Reading) (a : AnswererCore) (p : Piece) (ps : List Piece) (now : ℕ) (z : AnswererCore) (told later : List Telling) → asked a p ≡ None
    → told ≡ telling_with p (telling s a p) later → Joined r (came s a p now) ps now z later → Joined r a (p ∷ ps) now z told
joined_by r s a p ps now z told later none e j =
    let same : came r a p now ≡ came s a p now = came_same r s a p now none in (
      ap (λ (x : AnswererCore). came_all r x ps now) same ∙ j.0,
      told_by r s a p ps now later (telling_same r s a p none) (ap (λ (x : AnswererCore). tellings r x ps now) same ∙ j.1) ∙ sym e,
    )

quiet_told : (a : AnswererCore) (ps : List Piece) (now : ℕ) (z : AnswererCore) (told : List Telling) (r : Reading) → is_waiting a.waiting ≡ true → CameTold a ps now z told → Joined r a ps now z told
quiet_told a [] now z told r w s = (s.0, sym s.1)
quiet_told a (p ∷ ps) now z told r w s =
    let more : is_waiting (came s.0 a p now).waiting ≡ true = wait_more a.waiting (reply_to (decision s.0 a.state (is_waiting a.waiting) a.history p)) w in
    joined_by r s.0 a p ps now z told s.2 (waiting_asks a.state (is_waiting a.waiting) a.history p w) s.3 (quiet_told (came s.0 a p now) ps now z s.2 r more s.4)

pub tellings_join : (a : AnswererCore) (ps : List Piece) (now : ℕ) (z : AnswererCore) (told : List Telling) → CameTold a ps now z told
    → (read : Reading) × IsRead (first_asked a ps now) read × Joined read a ps now z told
tellings_join a [] now z told s = (None, refl, (s.0, sym s.1))
tellings_join a (p ∷ ps) now z told s = by (asked a p) refl s.1 (tellings_join (came s.0 a p now) ps now z s.2 s.4)
  where
    c : AnswererCore
    c = came s.0 a p now

    by : (o : Option Question) → asked a p ≡ o → IfAsked o s.0 → ((read : Reading) × IsRead (first_asked c ps now) read × Joined read c ps now z s.2) →
        (read : Reading) × IsRead (or_else o (first_asked (came None a p now) ps now)) read × Joined read a (p ∷ ps) now z told
    by None e k j = (
      j.0,
      subst (λ (x : AnswererCore). IsRead (first_asked x ps now) j.0) (came_same s.0 None a p now e) j.1,
      joined_by j.0 s.0 a p ps now z told s.2 e s.3 j.2,
    )
    by (Some q) e k j =
        let quiet : Joined s.0 c ps now z s.2 = quiet_told c ps now z s.2 s.0 (wait_after a.waiting (reply_to (decision s.0 a.state (is_waiting a.waiting) a.history p)) (asked_waits s.0 q a.state (is_waiting a.waiting) a.history p e)) s.4 in
        (s.0, k, (quiet.0, told_by s.0 s.0 a p ps now s.2 refl quiet.1 ∙ sym s.3))

-- WHAT IS TOLD IS WHAT WAS DONE
told_one : (p : Piece) (s : Telling) (later : List Telling) (before : List Shown) → s.piece ≡ p
    → told_after (telling_with p s later) before ≡ told_after later (shown_with p (record { piece = p; verdict = s.verdict }) before)
told_one (Frame octets) s later before e = ap (λ (q : Piece). told_after later (record { piece = q; verdict = s.verdict } ∷ before)) e
told_one (Start kind) s later before e = ap (λ (q : Piece). told_after later (record { piece = q; verdict = s.verdict } ∷ before)) e
told_one (Octets octets) s later before e = ap (λ (q : Piece). told_after later (record { piece = q; verdict = s.verdict } ∷ before)) e
told_one (End whole) s later before e = ap (λ (q : Piece). told_after later (record { piece = q; verdict = s.verdict } ∷ before)) e
told_one Gap s later before e = refl

pub tells_the_history : TellsTheHistory
tells_the_history read a [] now = refl
tells_the_history read a (p ∷ ps) now =
    tells_the_history read (came read a p now) ps now ∙ sym (told_one p (telling read a p) (tellings read (came read a p now) ps now) (shown_of a.history) refl)

-- TIMERS
t1_or_t4 : (b c : Bool) (a : AnswererCore) (now : ℕ) → (if b then says_goodbye a else if c then identifies_again a else a) ≡ acted_by (if b then Some T1 else if c then Some T4 else None) a now
t1_or_t4 true c a now = refl
t1_or_t4 false true a now = refl
t1_or_t4 false false a now = refl

by_t2 : (b : Bool) (a : AnswererCore) (now : ℕ) → (if b then acts_by_t2 a.state a now else a) ≡ acted_by (if b then Some T2 else None) a now
by_t2 true a now = refl
by_t2 false a now = refl

t2_acts : (b : Bool) (s : State) (a : AnswererCore) (now : ℕ) (acts : AnswererCore) → a.state ≡ s → acts ≡ acts_by_t2 s a now → (if b then acts else a) ≡ acted_by (if b then Some T2 else None) a now
t2_acts b s a now acts e f =
    ap (λ (x : AnswererCore). if b then x else a) (f ∙ ap (λ (x : State). acts_by_t2 x a now) (sym e)) ∙ by_t2 b a now

in_state : (s : State) (a : AnswererCore) (now : ℕ) → a.state ≡ s → timed_in s a now ≡ acted_by (acting_in s a.timers now) a now
in_state Idle a now e = refl
in_state Closing a now e = refl
in_state Identify a now e = t1_or_t4 (is_due a.timers.t1 now) (is_due a.timers.t4 now) a now
in_state Listen a now e = t2_acts (is_due a.timers.t2 now) Listen a now (says_goodbye a) e refl
in_state (Train dcs) a now e = t2_acts (is_due a.timers.t2 now) (Train dcs) a now (says_goodbye a) e refl
in_state (Page dcs) a now e = t2_acts (is_due a.timers.t2 now) (Page dcs) a now (says_goodbye a) e refl
in_state Again a now e = t2_acts (is_due a.timers.t2 now) Again a now (identifies_anew a now) e refl

waits_or : (b : Bool) (a : AnswererCore) (now : ℕ) (t : AnswererCore) (o : Option ActingTimer) → t ≡ acted_by o a now → (if b then a else t) ≡ acted_by (if b then None else o) a now
waits_or true a now t o e = refl
waits_or false a now t o e = e

pub tells_what_acts : TellsWhatActs
tells_what_acts a now = waits_or (is_waiting a.waiting) a now (timed_in a.state a now) (acting_in a.state a.timers now) (in_state a.state a now refl)
