-- The pieces that come are those of the core that an answerer stands for.
use Rattle.std.proofs.Common.{◌≡◌, ℕ, ◌/◌, ◌&&◌, not, Bool, true, false, List, [], ◌∷◌, Option, None, ◌⊎◌, inl, inr, refl, sym, ◌∙◌, ap, subst, if◌then◌else◌}
use Rattle.fax_ifp.specs.Pieces.{Piece, Frame, Start, Octets, End, Gap}
use Rattle.fax_answer.specs.declared.image.Accepted.{Accepted}
use Rattle.fax_answer.specs.declared.state.State.{State}
use Rattle.fax_answer.specs.declared.state.State.TheVariants.{Idle, Identify, Listen, Train, Page, Again, Closing}
use Rattle.fax_answer.specs.History.{Entry, Decision, PassesOver, GivesCfr, GivesFtt, octets_since, missing_in_training}
use Rattle.fax_answer.specs.Table.{Reading, has_zero_run, decision, state_after}
use Rattle.fax_answer.specs.Replies.{ConfirmedPage, WaitingPacket, reply_to, is_waiting}
use Rattle.fax_answer.specs.Calls.{AnswererCore, asked, decided}
use Rattle.fax_answer.specs.Images.{ImageValue, begun, TakesIn, Confirms}
use Rattle.fax_answer.specs.Following.{Rests, CanDecide, Follows, confirmed_after}
use Rattle.fax_frames.specs.declared.dcs.Dcs.{Dcs}
use Rattle.fax_frames.specs.Rates.{bits_a_second}
use Rattle.fax_answer.specs.declared.decision.Decision as code
use Rattle.fax_answer.specs.declared.decision.Decision.TheVariants as verdicts
use Rattle.fax_answer.specs.declared.pending.Pending.{Pending}
use Rattle.fax_answer.specs.declared.pending.Pending.TheVariants as pendings
use Rattle.fax_answer.specs.Pending.{waiting_of}
use Rattle.fax_answer.specs.declared.procedure.Procedure.{Procedure}
use Rattle.fax_answer.specs.Rep.{verdict_of}
use Rattle.fax_answer.specs.Confirmation.{IfAsked}
use Rattle.fax_answer.specs.Reached.{Holds, Rep, Stands, Takes}
use Rattle.fax_answer.specs.Watching.{Telling, telling, telling_with}
use Rattle.fax_answer.specs.declared.refusal.Refusal.{Refusal}
use Rattle.fax_answer.specs.Refusals.{HasReason, IsWhy}
use Rattle.fax_answer.proofs.Held.{holds_start, holds_octets, holds_end, holds_gap, confirms_begun, confirms_fed}
use Rattle.fax_answer.proofs.Refused.{end_at, reason_after, reason_over}
use Rattle.fax_answer.proofs.Rests.{rests_after}

-- WHAT CAN BE DECIDED
silent_if : (read : Reading) (state : State) (ws : List WaitingPacket) (before : List Entry) (piece : Piece) → Rests state ws → (ws ≡ []) ⊎ (reply_to (decision read state (is_waiting ws) before piece) ≡ [])
silent_if read state [] before piece r = inl refl
silent_if read state (w ∷ ws) before (Frame octets) r = inr refl
silent_if read Idle (w ∷ ws) before (End whole) r = inr refl
silent_if read Identify (w ∷ ws) before (End whole) r = inr refl
silent_if read Listen (w ∷ ws) before (End whole) r = inr refl
silent_if read (Train dcs) (w ∷ ws) before (End whole) r = inl r
silent_if read (Page dcs) (w ∷ ws) before (End whole) r = inr refl
silent_if read Again (w ∷ ws) before (End whole) r = inr refl
silent_if read Closing (w ∷ ws) before (End whole) r = inr refl
silent_if read state (w ∷ ws) before (Start kind) r = inr refl
silent_if read state (w ∷ ws) before (Octets octets) r = inr refl
silent_if read state (w ∷ ws) before Gap r = inr refl

pub can_decide : (read : Reading) (core : AnswererCore) (piece : Piece) → Rests core.state core.waiting → CanDecide core (decision read core.state (is_waiting core.waiting) core.history piece)
can_decide read core piece r =
    record { free = silent_if read core.state core.waiting core.history piece r; rests = rests_after read core.state core.waiting core.history piece r }

-- TRAINING
abbrev pub is_good : Bool → Dcs → List Entry → Bool
is_good whole dcs before = whole && (not (missing_in_training before) && has_zero_run (bits_a_second dcs.rate / 8) (octets_since before))

verdict_if : (b : Bool) (dcs : Dcs) → verdict_of (if b then GivesCfr dcs else GivesFtt) ≡ (if b then verdicts.Cfr dcs else verdicts.Ftt)
verdict_if true dcs = refl
verdict_if false dcs = refl

pub trained : (s : State) (waits : Bool) (before : List Entry) (whole : Bool) (dcs : Dcs) (b : Bool) → s ≡ Train dcs → b ≡ is_good whole dcs before
    → verdict_of (decision None s waits before (End whole)) ≡ (if b then verdicts.Cfr dcs else verdicts.Ftt)
trained s waits before whole dcs b e h =
    ap (λ (x : State). verdict_of (decision None x waits before (End whole))) e ∙ verdict_if (is_good whole dcs before) dcs
    ∙ ap (λ (x : Bool). if◌then◌else◌ {A = code.Decision} x (verdicts.Cfr dcs) verdicts.Ftt) (sym h)

-- A PIECE, and what is told of it where this was decided
abbrev pub told_as : AnswererCore → Piece → code.Decision → List Telling
told_as core piece verdict = record { state = core.state; waits = is_waiting core.waiting; piece = piece; verdict = verdict } ∷ []

pub taken : (Tells : List Telling → Type 0) (core : AnswererCore) (piece : Piece) (now : ℕ) (read : Reading) (new : Rep) (c : Option ConfirmedPage) → IfAsked (asked core piece) read
    → (let d : Decision = decision read core.state (is_waiting core.waiting) core.history piece in Confirms new.image.accepted new.image.readers new.confirmed c
    → Follows (decided core piece d now) c new.procedure
    → HasReason (decided core piece d now) new.refused
    → Holds (state_after core.state d) (record { piece = piece; decision = d } ∷ core.history) new.image
    → Tells (telling_with piece (telling read core piece) [])
    → Takes Tells piece now core new)
taken Tells core piece now read new c right confirms f r h t = record { read = read; right = right; tells = t; stands = record { confirmed = c; confirms = confirms; follows = f; reason = r; holds = h } }

-- a piece that is passed over
pub over_can : (core : AnswererCore) → Rests core.state core.waiting → CanDecide core PassesOver
over_can core r = can_decide None core Gap r

waits_by : (p : Pending) (c : Option ConfirmedPage) → (p ≡ pendings.Nothing → ⊥) → is_waiting (waiting_of p c) ≡ true
waits_by pendings.Nothing c n = absurd (n refl)
waits_by pendings.Tone c n = refl
waits_by (pendings.Preamble reply) c n = refl
waits_by (pendings.Frame reply) c n = refl

pub waits_shown : (core : AnswererCore) (c : Option ConfirmedPage) (p : Procedure) → Follows core c p → (p.pending ≡ pendings.Nothing → ⊥) → is_waiting core.waiting ≡ true
waits_shown core c p f n = ap is_waiting (sym f.waiting) ∙ waits_by p.pending c n

pub rests_shown : (core : AnswererCore) (c : Option ConfirmedPage) (p : Procedure) → Follows core c p → p.pending ≡ pendings.Nothing → is_waiting core.waiting ≡ false
rests_shown core c p f e = ap is_waiting (sym f.waiting) ∙ ap (λ (x : Pending). is_waiting (waiting_of x c)) e

-- EACH PIECE, as it is heard: what is new of what is kept
pub record Heard (old new : Rep) (procedure : Procedure) (image : ImageValue) (told : Option Refusal) : Type 0 where
  pub procedure_is : new.procedure ≡ procedure
  pub confirmed : new.confirmed ≡ old.confirmed
  pub refused : new.refused ≡ told
  pub image_is : new.image ≡ image

abbrev pub begun_image : State → ImageValue → ImageValue
begun_image state i = record { readers = begun state i.readers; accepted = i.accepted; run = 0; longest = 0 }

pub follows_now : (core : AnswererCore) (c : Option ConfirmedPage) (procedure : Procedure) (new : Rep) → new.procedure ≡ procedure → Follows core c procedure → Follows core c new.procedure
follows_now core c procedure new e f = subst (Follows core c) (sym e) f

pub confirms_now : (i : ImageValue) (old new : Rep) (c : Option ConfirmedPage) → new.confirmed ≡ old.confirmed → new.image ≡ i → Confirms i.accepted i.readers old.confirmed c → Confirms new.image.accepted new.image.readers new.confirmed c
confirms_now i old new c e f k = subst (λ (j : ImageValue). Confirms j.accepted j.readers new.confirmed c) (sym f) (subst (λ (o : Option ConfirmedPage). Confirms i.accepted i.readers o c) (sym e) k)

pub reason_now : (core : AnswererCore) (told : Option Refusal) (new : Rep) → new.refused ≡ told → HasReason core told → HasReason core new.refused
reason_now core told new e r = subst (HasReason core) (sym e) r

pub hears_start : (Tells : List Telling → Type 0) (core : AnswererCore) (kind now : ℕ) (piece : Piece) (old new : Rep) (procedure : Procedure) → piece ≡ Start kind → (s : Stands core old)
    → (CanDecide core PassesOver → Follows (decided core (Start kind) PassesOver now) s.confirmed procedure)
    → Heard old new procedure (begun_image procedure.state old.image) old.refused
    → Tells (told_as core (Start kind) verdicts.PassOver)
    → Takes Tells piece now core new
hears_start Tells core kind now piece old new procedure e s f n t =
    let g : Follows (decided core (Start kind) PassesOver now) s.confirmed procedure = f (over_can core s.follows.rests) in
    let i : ImageValue = begun_image core.state old.image in
    let is : new.image ≡ i = n.image_is ∙ ap (λ (x : State). begun_image x old.image) g.state in
    subst (λ (p : Piece). Takes Tells p now core new) (sym e)
    (taken Tells core (Start kind) now None new s.confirmed tt
    (confirms_now i old new s.confirmed n.confirmed is (confirms_begun core.state old.image.accepted old.image.readers old.confirmed s.confirmed s.confirms))
    (follows_now (decided core (Start kind) PassesOver now) s.confirmed procedure new n.procedure_is g)
    (reason_now (decided core (Start kind) PassesOver now) old.refused new n.refused (reason_over core (Start kind) now old.refused s.reason))
    (subst (λ (j : ImageValue). Holds core.state (record { piece = Start kind; decision = PassesOver } ∷ core.history) j) (sym is) (holds_start core.state core.history old.image kind)) t)

pub hears_octets : (Tells : List Telling → Type 0) (core : AnswererCore) (octets : List ℕ) (now : ℕ) (piece : Piece) (old new : Rep) (procedure : Procedure) (image : ImageValue) → piece ≡ Octets octets → (s : Stands core old)
    → (CanDecide core PassesOver → Follows (decided core (Octets octets) PassesOver now) s.confirmed procedure)
    → TakesIn old.procedure.state octets old.image image
    → Heard old new procedure image old.refused
    → Tells (told_as core (Octets octets) verdicts.PassOver)
    → Takes Tells piece now core new
hears_octets Tells core octets now piece old new procedure image e s f t n told =
    let g : Follows (decided core (Octets octets) PassesOver now) s.confirmed procedure = f (over_can core s.follows.rests) in
    let u : TakesIn core.state octets old.image image = subst (λ (x : State). TakesIn x octets old.image image) s.follows.state t in
    let k : Confirms image.accepted image.readers old.confirmed s.confirmed =
    subst (λ (a : Option Accepted). Confirms a image.readers old.confirmed s.confirmed) (sym u.accepted) (confirms_fed core.state octets old.image.accepted old.image.readers image.readers old.confirmed s.confirmed u.readers s.confirms) in
    subst (λ (p : Piece). Takes Tells p now core new) (sym e)
    (taken Tells core (Octets octets) now None new s.confirmed tt
    (confirms_now image old new s.confirmed n.confirmed n.image_is k)
    (follows_now (decided core (Octets octets) PassesOver now) s.confirmed procedure new n.procedure_is g)
    (reason_now (decided core (Octets octets) PassesOver now) old.refused new n.refused (reason_over core (Octets octets) now old.refused s.reason))
    (subst (λ (j : ImageValue). Holds core.state (record { piece = Octets octets; decision = PassesOver } ∷ core.history) j) (sym n.image_is) (holds_octets core.state core.history old.image image octets s.holds u)) told)

pub hears_end : (Tells : List Telling → Type 0) (core : AnswererCore) (whole : Bool) (now : ℕ) (piece : Piece) (old new : Rep) (procedure : Procedure) (verdict : code.Decision) → piece ≡ End whole → (s : Stands core old)
    → (let d : Decision = decision None core.state (is_waiting core.waiting) core.history (End whole) in CanDecide core d → Follows (decided core (End whole) d now) (confirmed_after d s.confirmed) procedure)
    → Heard old new procedure (begun_image procedure.state old.image) old.refused
    → verdict_of (decision None core.state (is_waiting core.waiting) core.history (End whole)) ≡ verdict
    → Tells (told_as core (End whole) verdict)
    → Takes Tells piece now core new
hears_end Tells core whole now piece old new procedure verdict e s f n decides t =
    let d : Decision = decision None core.state (is_waiting core.waiting) core.history (End whole) in
    let g : Follows (decided core (End whole) d now) (confirmed_after d s.confirmed) procedure = f (can_decide None core (End whole) s.follows.rests) in
    let page : confirmed_after d s.confirmed ≡ s.confirmed = end_keeps core.state (is_waiting core.waiting) core.history whole s.confirmed in
    let i : ImageValue = begun_image (state_after core.state d) old.image in
    let is : new.image ≡ i = n.image_is ∙ ap (λ (x : State). begun_image x old.image) g.state in
    subst (λ (p : Piece). Takes Tells p now core new) (sym e)
    (taken Tells core (End whole) now None new s.confirmed tt
    (confirms_now i old new s.confirmed n.confirmed is (confirms_begun (state_after core.state d) old.image.accepted old.image.readers old.confirmed s.confirmed s.confirms))
    (follows_now (decided core (End whole) d now) s.confirmed procedure new n.procedure_is (subst (λ (c : Option ConfirmedPage). Follows (decided core (End whole) d now) c procedure) page g))
    (reason_now (decided core (End whole) d now) old.refused new n.refused
    (reason_after core (End whole) d now old.refused (can_decide None core (End whole) s.follows.rests) (end_at core.state (is_waiting core.waiting) core.history whole (IsWhy core.state core.history old.refused)) s.reason))
    (subst (λ (j : ImageValue). Holds (state_after core.state d) (record { piece = End whole; decision = d } ∷ core.history) j) (sym is) (holds_end core.state core.history old.image whole d old.confirmed s.confirmed s.holds s.confirms))
    (subst (λ (v : code.Decision). Tells (told_as core (End whole) v)) (sym decides) t))
  where
    check_keeps : (b : Bool) (dcs : Dcs) (c : Option ConfirmedPage) → confirmed_after (if b then GivesCfr dcs else GivesFtt) c ≡ c
    check_keeps true dcs c = refl
    check_keeps false dcs c = refl

    end_keeps : (s : State) (waits : Bool) (before : List Entry) (whole : Bool) (c : Option ConfirmedPage) → confirmed_after (decision None s waits before (End whole)) c ≡ c
    end_keeps Idle waits before whole c = refl
    end_keeps Identify waits before whole c = refl
    end_keeps Listen waits before whole c = refl
    end_keeps (Train dcs) waits before whole c = check_keeps (is_good whole dcs before) dcs c
    end_keeps (Page dcs) waits before whole c = refl
    end_keeps Again waits before whole c = refl
    end_keeps Closing waits before whole c = refl

pub hears_gap : (Tells : List Telling → Type 0) (core : AnswererCore) (now : ℕ) (piece : Piece) (old new : Rep) (procedure : Procedure) → piece ≡ Gap → (s : Stands core old)
    → (CanDecide core PassesOver → Follows (decided core Gap PassesOver now) s.confirmed procedure) → Heard old new procedure old.image old.refused
    → Tells []
    → Takes Tells piece now core new
hears_gap Tells core now piece old new procedure e s f n t =
    subst (λ (p : Piece). Takes Tells p now core new) (sym e)
    (taken Tells core Gap now None new s.confirmed tt
    (confirms_now old.image old new s.confirmed n.confirmed n.image_is s.confirms)
    (follows_now (decided core Gap PassesOver now) s.confirmed procedure new n.procedure_is (f (over_can core s.follows.rests)))
    (reason_now (decided core Gap PassesOver now) old.refused new n.refused (reason_over core Gap now old.refused s.reason))
    (subst (λ (i : ImageValue). Holds core.state (record { piece = Gap; decision = PassesOver } ∷ core.history) i) (sym n.image_is) (holds_gap core.state core.history old.image s.holds)) t)
