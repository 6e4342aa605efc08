-- Each image that a tick ends goes out under a DIS that allows its page's format.
use Rattle.std.proofs.Common.{◌≡◌, ℕ, max, Bool, true, false, is_some, List, [], ◌∷◌, ◌⊎◌, inl, inr, slice_get, Option, Some, None, refl, sym, ◌∙◌, ap, subst, if◌then◌else◌}
use Rattle.fax_pagestore.specs.Pages.{PageValue}
use Rattle.fax_ifp.specs.Elements as elements
use Rattle.fax_ifp.specs.Packets.{packet_of}
use Rattle.fax_jobs.specs.Jobs.{JobValue, IsJob}
use Rattle.fax_call.specs.Writings.{Writing, IsWriting}
use Rattle.fax_call.specs.Replies.{Packet, written}
use Rattle.fax_call.specs.Calls.{CallerCore, Ticks, after_events, started, ticked}
use Rattle.fax_call.specs.Emission.{Emission, Mark, Gave, emitted_at, elements_given, gave_all, marks_given, marks_after, frame_at, is_command, Reply, Unasked, Asked, Answered, reply_given, reply_or, replied, IsPageOf, IsAnswered, EmitsBy, Emits}
use Rattle.fax_call.specs.Refusals.{Allows, EndsImage, dis_taken}
use Rattle.fax_call.proofs.Lacking.{none_is_lacking}
use Rattle.fax_gateway.specs.Setups.{Setup}
use Rattle.fax_gateway.specs.Events.{Tick, Given, clock}
use Rattle.fax_gateway.specs.CalledLegs.{CalledLeg, begun_core, core_of, calls, told_by, told_called}
use Rattle.fax_gateway.specs.BothLegs.{BothLegs, book_of, in_tick}
use Rattle.fax_gateway.specs.Told.{elements_told, leg_marks, marks_before, IfEmits, EachEmission}
use Rattle.fax_gateway.specs.Forwards.{WasConfirmed}
use Rattle.fax_gateway.specs.Lacking.{IsAllowed, NoneIsLacking}
use Rattle.fax_gateway.proofs.Fitting.{FitGiven, ticked_fits, told_back}
use Rattle.fax_gateway.proofs.Forwarding.{each_emission}
use Rattle.fax_gateway.proofs.Held.{IfHolds, held}
use Rattle.fax_gateway.proofs.Confirmed.{tick_holds}
use Rattle.fax_gateway.proofs.InCalls.{InCall, IfInCall, before_call, in_call}
use Rattle.fax_gateway.proofs.Unplaced.{as_begun, emits_in, from_begun, gives_placed}

same_page : (pages : List PageValue) (n : ℕ) (p q : PageValue) → slice_get pages n ≡ Some p → slice_get pages n ≡ Some q → p ≡ q
same_page pages n p q a b = let e : Some p ≡ Some q = sym a ∙ b in cc

-- nothing answered the image that was emitted last
abbrev IsUnanswered : Reply → Type 0
IsUnanswered (Answered good) = ⊥
IsUnanswered r = Unit {0}

given_keeps : (command after : Bool) (r : Reply) → IsUnanswered r → IsUnanswered (reply_given command after r)
given_keeps true true r h = tt
given_keeps true false r h = tt
given_keeps false after Unasked h = tt
given_keeps false after Asked h = tt
given_keeps false after (Answered good) h = absurd h

or_keeps : (o : Option Emission) (r : Reply) → IsUnanswered r → IsUnanswered (reply_or o r)
or_keeps None r h = h
or_keeps (Some x) r h = tt

gave_keeps : (e : elements.Element) (marks : List Mark) → IsUnanswered (replied marks) → IsUnanswered (replied (Gave e ∷ marks))
gave_keeps e marks h =
    let before : List elements.Element = elements_given marks in
    or_keeps (emitted_at before e) _ (given_keeps (is_command (frame_at before e)) _ (replied marks) h)

asked_anew : (o : Option Emission) (x : Emission) (r : Reply) → o ≡ Some x → IsUnanswered (reply_or o r)
asked_anew None x r e = cc
asked_anew (Some y) x r e = tt

-- after an image that nothing answered no other one is emitted
record StaysLast (job : JobValue) (end : Option ℕ) (marks : List Mark) : Type 0 where
  last : Option ℕ
  emitted : Emits job marks last
  stays : (n : ℕ) → last ≡ Some n → end ≡ Some n

no_answer : (m n : ℕ) (r : Reply) → IsUnanswered r → IsAnswered (Some m) r n → ⊥
no_answer m n Unasked u a = a
no_answer m n Asked u a = a
no_answer m n (Answered good) u a = u

one_back : (job : JobValue) (end : Option ℕ) (o : Option Emission) (marks : List Mark) (last : Option ℕ) → IsUnanswered (replied marks) → ((n : ℕ) → last ≡ Some n → end ≡ Some n) → EmitsBy job o (replied marks) last (Emits job marks) →
    StaysLast job end marks
one_back job end None marks last u f h = record { last = last; emitted = h; stays = f }
one_back job end (Some x) marks None u f h = absurd h
one_back job end (Some x) marks (Some n) u f h = by h.1 h.2 h.3
  where
    by : (m : Option ℕ) → Emits job marks m → IsAnswered m (replied marks) n → StaysLast job end marks
    by None k a = record { last = None; emitted = k; stays = λ i e. cc }
    by (Some m) k a = absurd (no_answer m n (replied marks) u a)

stays_last : (job : JobValue) (end : Option ℕ) (es : List elements.Element) (marks : List Mark) → IsUnanswered (replied marks) → Emits job (gave_all es marks) end → StaysLast job end marks
stays_last job end [] marks u h = record { last = end; emitted = h; stays = λ n e. e }
stays_last job end (e ∷ es) marks u h =
    let r : StaysLast job end (Gave e ∷ marks) = stays_last job end es (Gave e ∷ marks) (gave_keeps e marks u) h in
    one_back job end (emitted_at (elements_given marks) e) marks r.last u r.stays r.emitted

-- so each image that these elements end is the page emitted last
record IsLast (job : JobValue) (end : Option ℕ) (Ends : Type 0) (marks : List Mark) (emission : Emission) : Type 0 where
  n : ℕ
  is_page : IsPageOf job n emission
  is_last : end ≡ Some n
  ends : Ends

emitted_now : (job : JobValue) (end : Option ℕ) (Ends : Type 0) (o : Option Emission) (x : Emission) (marks : List Mark) (last : Option ℕ) → o ≡ Some x → ((n : ℕ) → last ≡ Some n → end ≡ Some n) → Ends → EmitsBy job o (replied marks) last (Emits job marks) →
    IsLast job end Ends marks x
emitted_now job end Ends None x marks last e f g h = cc
emitted_now job end Ends (Some y) x marks None e f g h = absurd h
emitted_now job end Ends (Some y) x marks (Some n) e f g h =
    let same : y ≡ x = cc in
    record { n = n; is_page = subst (λ (z : Emission). IsPageOf job n z) same h.0; is_last = f n refl; ends = g }

each_is_last : (job : JobValue) (end : Option ℕ) (Ends : Type 0) (es : List elements.Element) (marks : List Mark) → (EndsImage es marks → Ends) → Emits job (gave_all es marks) end → EachEmission (IsLast job end Ends) marks es
each_is_last job end Ends [] marks f h = tt
each_is_last job end Ends (e ∷ es) marks f h = (by (emitted_at (elements_given marks) e) refl, each_is_last job end Ends es (Gave e ∷ marks) (λ k. f (inr k)) h)
  where
    by : (o : Option Emission) → emitted_at (elements_given marks) e ≡ o → IfEmits (IsLast job end Ends) marks o
    by None q = tt
    by (Some x) q =
        let r : StaysLast job end (Gave e ∷ marks) = stays_last job end es (Gave e ∷ marks) (asked_anew (emitted_at (elements_given marks) e) x _ q) h in
        emitted_now job end Ends (emitted_at (elements_given marks) e) x marks r.last q r.stays (f (inl (ap (λ (o : Option Emission). is_some o) q))) r.emitted

-- what a tick gives in the call of a job
packet_allowed : (writes : Writing) (l : CalledLeg) (now : ℕ) (old : List Mark) (packet : Packet) → IsWriting writes → IsJob l.job → (calls writes l now).given ≡ Some packet →
    EachEmission (IsAllowed writes (Some l)) (marks_after writes l.job old (begun_core l) l.events) (elements.elements_in (packet_of (written packet)))
packet_allowed writes l now old packet w is given =
    let marks : List Mark = marks_after writes l.job old (begun_core l) l.events in
    let es : List elements.Element = elements.elements_in (packet_of (written packet)) in
    let after : List Mark = marks_after writes l.job old (begun_core l) (Ticks now ∷ l.events) in
    let placed : l.placed ≡ true = gives_placed writes l now packet given in
    let begun_gives : (ticked writes l.job (after_events writes l.job (started l.before l.job l.begun) l.events) now).given ≡ Some packet =
    from_begun (λ (a : CallerCore). (ticked writes l.job (after_events writes l.job a l.events) now).given ≡ Some packet) l placed given in
    let e = emits_in writes l old (Ticks now ∷ l.events) placed w is in
    let here : after ≡ gave_all es marks = ap (λ (o : Option Packet). marks_given o marks) given in
    each_emission (IsLast l.job e.0 (EndsImage es marks)) (IsAllowed writes (Some l)) marks es
    (λ ms x k.
    let r = none_is_lacking writes l.job old l.before l.begun l.events now packet k.n w is begun_gives
    (from_begun (λ (a : CallerCore). EndsImage es (marks_after writes l.job old a l.events)) l placed k.ends)
    (from_begun (λ (a : CallerCore). Emits l.job (marks_after writes l.job old a (Ticks now ∷ l.events)) (Some k.n)) l placed (subst (λ (o : Option ℕ). Emits l.job after o) k.is_last e.1)) in
    let same : r.0 ≡ k.is_page.page = same_page l.job.pages k.n r.0 k.is_page.page r.1 k.is_page.is_page in
    record { l = l; is_leg = refl; n = k.n; is_page = k.is_page; dis = r.2; taken = as_begun (λ (a : CallerCore). dis_taken writes l.job a l.events ≡ Some r.2) l placed r.3; allows = subst (λ (p : PageValue). Allows r.2 p.format) same r.4 })
    (each_is_last l.job e.0 (EndsImage es marks) es marks (λ k. k) (subst (λ (ms : List Mark). Emits l.job ms e.0) here e.1))

in_call_allowed : (setup : Setup) (writes : Writing) (l : CalledLeg) (now : ℕ) (sending : Option JobValue) (marks : List Mark) → IsWriting writes → IsJob l.job → InCall writes l sending marks →
    EachEmission (IsAllowed writes (Some l)) marks (elements_told (told_by setup l.given (calls writes l now).given))
in_call_allowed setup writes l now sending marks w is i = by (calls writes l now).given refl (ticked_fits writes l.job (core_of writes l) now i.fits).given
  where
    by : (o : Option Packet) → (calls writes l now).given ≡ o → FitGiven o → EachEmission (IsAllowed writes (Some l)) marks (elements_told (told_by setup l.given o))
    by None e f = tt
    by (Some packet) e f =
        subst (EachEmission (IsAllowed writes (Some l)) marks) (sym (told_back setup l.given (written packet) i.short f))
        (subst (λ (ms : List Mark). EachEmission (IsAllowed writes (Some l)) ms (elements.elements_in (packet_of (written packet)))) (sym i.marks_are) (packet_allowed writes l now i.old packet w is e))

by_leg : (setup : Setup) (writes : Writing) (now : ℕ) (leg : Option CalledLeg) (sending : Option JobValue) (P : ℕ → PageValue → Type 0) (marks : List Mark) → IsWriting writes → IfHolds P sending → IfInCall writes leg sending marks →
    EachEmission (IsAllowed writes leg) marks (elements_told (told_called setup writes leg now))
by_leg setup writes now None sending P marks w h i = tt
by_leg setup writes now (Some l) sending P marks w h i = by l.entered i.sends
  where
    by : (b : Bool) → sending ≡ (if◌then◌else◌ {A = Option JobValue} b None (Some l.job)) →
        EachEmission (IsAllowed writes (Some l)) marks (elements_told (if◌then◌else◌ {A = Option (List ℕ)} b None (told_by setup l.given (calls writes l now).given)))
    by true e = tt
    by false e = in_call_allowed setup writes l now sending marks w (subst (IfHolds P) e h).is_job i

pub none_lacking : NoneIsLacking
none_lacking setup writes earlier at given w t =
    let now : ℕ = max at (clock earlier) in
    let z : BothLegs = in_tick setup writes earlier at in
    let old : List Mark = leg_marks setup writes earlier in
    let marks : List Mark = marks_before setup writes earlier at old in
    subst (λ (told : Option (List ℕ)). EachEmission (IsAllowed writes z.leg) marks (elements_told told)) (sym (ap (λ (g : Given). g.on_called) t.0))
    (by_leg setup writes now z.leg (book_of z).sending (WasConfirmed setup (Tick at given ∷ earlier)) marks w
    (held (WasConfirmed setup (Tick at given ∷ earlier)) z.steps (tick_holds setup writes earlier at given t)).sending (before_call setup writes earlier at old (in_call setup writes earlier t.1)))
