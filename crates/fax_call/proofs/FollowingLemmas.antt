-- What a procedure does is what the core does that it stands for.
use Rattle.std.proofs.Common.{◌≡◌, ◌≢◌, ◌↔◌, IsTrue, ℕ, zero, suc, ◌-◌, ◌<◌, Bool, true, false, ◌&&◌, nat_le, List, [], ◌∷◌, length, Option, Some, None, refl, sym, ◌∙◌, ap, subst, arith, if◌then◌else◌}
use Rattle.fax_runcodes.specs.declared.format.Format.{Format}
use Rattle.fax_frames.specs.declared.frame.Frame.{Frame}
use Rattle.fax_frames.specs.declared.frame.Frame.TheVariants as frames
use Rattle.fax_frames.specs.declared.writing.Plain.{Plain}
use Rattle.fax_frames.specs.Frames.{frame_of}
use Rattle.fax_timers.specs.Moments.{is_due}
use Rattle.fax_timers.specs.Paces.{PaceValue, pace_allows}
use Rattle.fax_ifp.specs.Pieces as pieces
use Rattle.fax_jobs.specs.Jobs.{JobValue}
use Rattle.fax_pagestore.specs.Writers.{WriterValue}
use Rattle.fax_call.specs.declared.pending.Message.TheVariants as messages
use Rattle.fax_call.specs.declared.pending.Pending.{Pending}
use Rattle.fax_call.specs.declared.pending.Pending.TheVariants.{Nothing, Tone, Preamble, Training, Check, Image, Text}
use Rattle.fax_call.specs.declared.pending.Pending.TheVariants as pendings
use Rattle.fax_call.specs.declared.procedure.Procedure.{Procedure}
use Rattle.fax_call.specs.declared.state.State.{State}
use Rattle.fax_call.specs.declared.state.State.TheVariants.{Idle, AwaitDis, AwaitCfr, AwaitMcf, Closing}
use Rattle.fax_call.specs.Writings.{Writing}
use Rattle.fax_call.specs.Replies.{Due, waits, parts_of, check_length, turn_after, command_after}
use Rattle.fax_call.specs.Table.{Counts, Move, Stays, on_frame, on_timers}
use Rattle.fax_call.specs.Calls.{CallerCore, moved, came, heard, timed}
use Rattle.fax_call.specs.Rep.{counts_shown, waiting_of, FitsPending}
use Rattle.fax_call.specs.Following.{IsFit, Follows, KeepsTurn, gives_now}
use Rattle.fax_call.specs.Watching.{acting, acting_in}

waits_if : (b : Bool) (d e : Due) (due : List Due) → waits (if b then d ∷ [] else e ∷ due) ≡ true
waits_if true d e due = refl
waits_if false d e due = refl

parts_wait : (most kind n : ℕ) (os : List ℕ) → 0 < most → waits (parts_of most kind n os) ≡ true
parts_wait zero kind n os some = absurd (omega arith)
parts_wait (suc most) kind n os some = waits_if (nat_le (length os) n) _ _ _

-- a packet waits
pub pending_waits : (p : Pending) (asks : Plain) (page from : ℕ) → FitsPending p → (p ≡ Nothing → ⊥) → waits (waiting_of p asks page from) ≡ true
pending_waits Nothing asks page from fits some = absurd (some refl)
pending_waits Tone asks page from fits some = refl
pending_waits (Preamble message) asks page from fits some = refl
pending_waits (pendings.Frame (messages.Dcs dcs)) asks page from fits some = refl
pending_waits (pendings.Frame (messages.Plain plain)) asks page from fits some = refl
pending_waits (Training dcs) asks page from fits some = refl
pending_waits (Check dcs given) asks page from fits some = let left : 0 < check_length dcs - given = omega arith in parts_wait _ _ _ _ left
pending_waits (Image dcs) asks page from fits some = refl
pending_waits (Text dcs plain) asks page from fits some = refl

pub core_waits : (writes : Writing) (job : JobValue) (core : CallerCore) (writer : WriterValue) (p : Procedure) → IsFit p → Follows writes job core writer p
    → (p.pending ≡ Nothing → ⊥) → waits core.waiting ≡ true
core_waits writes job core writer p fit f some =
    sym (ap waits f.waiting) ∙ pending_waits p.pending (command_after core.formats core.pages p.counts.page) p.counts.page f.from fit.pending some

pub core_rests : (writes : Writing) (job : JobValue) (core : CallerCore) (writer : WriterValue) (p : Procedure) → Follows writes job core writer p
    → p.pending ≡ Nothing → waits core.waiting ≡ false
core_rests writes job core writer p f none =
    sym (ap waits f.waiting) ∙ ap (λ (q : Pending). waits (waiting_of q (command_after core.formats core.pages p.counts.page) p.counts.page f.from)) none

-- whether a packet waits is seen by what is kept
pub waits_is : (writes : Writing) (job : JobValue) (core : CallerCore) (writer : WriterValue) (p : Procedure) (b : Bool) → IsFit p → Follows writes job core writer p
    → IsTrue b ↔ (p.pending ≢ Nothing) → (b ≡ false → p.pending ≡ Nothing) → b ≡ waits core.waiting
waits_is writes job core writer p true fit f some none = sym (core_waits writes job core writer p fit f (some.0 refl))
waits_is writes job core writer p false fit f some none = sym (core_rests writes job core writer p f (none refl))

pub gives_is : (writes : Writing) (job : JobValue) (core : CallerCore) (writer : WriterValue) (p : Procedure) (now : ℕ) → IsFit p → Follows writes job core writer p
    → (p.pending ≡ Nothing → ⊥) → pace_allows p.pace.last now ≡ gives_now core now
gives_is writes job core writer p now fit f some =
    ap (λ (v : PaceValue). pace_allows v.last now) f.pace
    ∙ sym (ap (λ (b : Bool). b && pace_allows core.pace.last now) (core_waits writes job core writer p fit f some))

stays_if : (core : CallerCore) (b : Bool) (m : Move) → b ≡ true → moved core (if b then Stays else m) ≡ core
stays_if core true m e = refl
stays_if core false m e = cc

-- frames are passed over while packets wait, and timers do not act
pub passed_over : (core : CallerCore) (octets : List ℕ) (now : ℕ) → waits core.waiting ≡ true → came core (pieces.Frame octets) now ≡ core
passed_over core octets now w = stays_if core (waits core.waiting) _ w

pub waits_decides : (core : CallerCore) (octets : List ℕ) (now : ℕ) → waits core.waiting ≡ true → heard core (pieces.Frame octets) now ≡ Stays
waits_decides core octets now w = stays (waits core.waiting) _ w
  where
    stays : (b : Bool) (m : Move) → b ≡ true → (if b then Stays else m) ≡ Stays
    stays true m e = refl
    stays false m e = cc

pub not_timed : (core : CallerCore) (now : ℕ) → waits core.waiting ≡ true → timed core now ≡ core
not_timed core now w = stays_if core (waits core.waiting) _ w

pub no_frame : (now : ℕ) (format : Format) (turn : Option Format) (pages : ℕ) (state : State) (c : Counts) → on_frame now format turn pages state c None ≡ Stays
no_frame now format turn pages Idle c = refl
no_frame now format turn pages AwaitDis c = refl
no_frame now format turn pages (AwaitCfr dis dcs) c = refl
no_frame now format turn pages (AwaitMcf dis dcs) c = refl
no_frame now format turn pages (Closing outcome) c = refl

acts_if : (core : CallerCore) (b : Bool) (m : Move) → b ≡ false → moved core (if b then Stays else m) ≡ moved core m
acts_if core true m e = cc
acts_if core false m e = refl

-- octets that are no frame bring nothing about
pub nothing_heard : (core : CallerCore) (octets : List ℕ) (now : ℕ) → waits core.waiting ≡ false → frame_of octets ≡ None → came core (pieces.Frame octets) now ≡ core
nothing_heard core octets now w none =
    acts_if core (waits core.waiting) _ w
    ∙ ap (λ (f : Option Frame). moved core (on_frame now core.format (turn_after core.formats core.counts.page) core.pages core.state core.counts f)) none
    ∙ ap (moved core) (no_frame now core.format (turn_after core.formats core.counts.page) core.pages core.state core.counts)

-- after an image and its command the next page's format is kept, and elsewhere the table does not look at it
turn_known : (now : ℕ) (format : Format) (pages : ℕ) (state : State) (c : Counts) (o : Option Frame) (formats : List Format) (page : ℕ) (turn : Option Format) → KeepsTurn state Nothing formats page turn
    → on_frame now format turn pages state c o ≡ on_frame now format (turn_after formats page) pages state c o
turn_known now format pages Idle c o formats page turn k = refl
turn_known now format pages AwaitDis c o formats page turn k = by o
  where
    by : (o : Option Frame) → on_frame now format turn pages AwaitDis c o ≡ on_frame now format (turn_after formats page) pages AwaitDis c o
    by (Some (frames.Dis d)) = refl
    by (Some frames.Dcn) = refl
    by o = refl
turn_known now format pages (AwaitCfr dis dcs) c o formats page turn k = by o
  where
    by : (o : Option Frame) → on_frame now format turn pages (AwaitCfr dis dcs) c o ≡ on_frame now format (turn_after formats page) pages (AwaitCfr dis dcs) c o
    by (Some frames.Cfr) = refl
    by (Some frames.Ftt) = refl
    by (Some (frames.Dis d)) = refl
    by (Some frames.Dcn) = refl
    by o = refl
turn_known now format pages (AwaitMcf dis dcs) c o formats page turn k = ap (λ (t : Option Format). on_frame now format t pages (AwaitMcf dis dcs) c o) k
turn_known now format pages (Closing x) c o formats page turn k = refl

-- what a frame brings about, told of what is kept
pub frame_decides : (writes : Writing) (job : JobValue) (core : CallerCore) (writer : WriterValue) (p : Procedure) (octets : List ℕ) (now : ℕ) (m : Move)
    → Follows writes job core writer p → p.pending ≡ Nothing
    → m ≡ on_frame now p.format p.turn p.pages p.state (counts_shown p.counts) (frame_of octets)
    → heard core (pieces.Frame octets) now ≡ m
frame_decides writes job core writer p octets now m f none decided =
    decides_if (waits core.waiting) _ (core_rests writes job core writer p f none) ∙ sym (decided ∙ same)
  where
    o : Option Frame
    o = frame_of octets

    decides_if : (b : Bool) (m : Move) → b ≡ false → (if b then Stays else m) ≡ m
    decides_if true m e = cc
    decides_if false m e = refl

    kept : KeepsTurn p.state Nothing core.formats p.counts.page p.turn
    kept = subst (λ (q : Pending). KeepsTurn p.state q core.formats p.counts.page p.turn) none f.turn

    page : p.counts.page ≡ core.counts.page
    page = ap (λ (c : Counts). c.page) f.counts

    same : on_frame now p.format p.turn p.pages p.state (counts_shown p.counts) o ≡ on_frame now core.format (turn_after core.formats core.counts.page) core.pages core.state core.counts o
    same =
        turn_known now p.format p.pages p.state (counts_shown p.counts) o core.formats p.counts.page p.turn kept
        ∙ ap (λ (n : ℕ). on_frame now p.format (turn_after core.formats n) p.pages p.state (counts_shown p.counts) o) page
        ∙ ap (λ (x : Format). on_frame now x (turn_after core.formats core.counts.page) p.pages p.state (counts_shown p.counts) o) f.format
        ∙ ap (λ (x : ℕ). on_frame now core.format (turn_after core.formats core.counts.page) x p.state (counts_shown p.counts) o) f.pages
        ∙ ap (λ (x : State). on_frame now core.format (turn_after core.formats core.counts.page) core.pages x (counts_shown p.counts) o) f.state
        ∙ ap (λ (x : Counts). on_frame now core.format (turn_after core.formats core.counts.page) core.pages core.state x o) f.counts

-- the timer that acts, by what is kept
pub acting_is : (writes : Writing) (job : JobValue) (core : CallerCore) (writer : WriterValue) (p : Procedure) (now : ℕ) → Follows writes job core writer p → p.pending ≡ Nothing
    → acting_in p.state (is_due p.t1 now) (is_due p.t4 now) ≡ acting core now
acting_is writes job core writer p now f none =
    ap (λ (x : Option ℕ). acting_in p.state (is_due x now) (is_due p.t4 now)) f.t1
    ∙ ap (λ (x : Option ℕ). acting_in p.state (is_due core.t1 now) (is_due x now)) f.t4
    ∙ ap (λ (x : State). acting_in x (is_due core.t1 now) (is_due core.t4 now)) f.state
    ∙ sym (ap (λ (b : Bool). if b then None else acting_in core.state (is_due core.t1 now) (is_due core.t4 now)) (core_rests writes job core writer p f none))

pub acting_none : (core : CallerCore) (now : ℕ) → waits core.waiting ≡ true → None ≡ acting core now
acting_none core now w = sym (ap (λ (b : Bool). if b then None else acting_in core.state (is_due core.t1 now) (is_due core.t4 now)) w)

pub timers_acted : (writes : Writing) (job : JobValue) (core : CallerCore) (writer : WriterValue) (p : Procedure) (now : ℕ) (m : Move)
    → Follows writes job core writer p → p.pending ≡ Nothing
    → m ≡ on_timers (is_due p.t1 now) (is_due p.t4 now) p.state (counts_shown p.counts)
    → timed core now ≡ moved core m
timers_acted writes job core writer p now m f none decided =
    acts_if core (waits core.waiting) _ (core_rests writes job core writer p f none)
    ∙ ap (moved core) (sym (decided ∙ same))
  where
    same : on_timers (is_due p.t1 now) (is_due p.t4 now) p.state (counts_shown p.counts) ≡ on_timers (is_due core.t1 now) (is_due core.t4 now) core.state core.counts
    same =
        ap (λ (x : Option ℕ). on_timers (is_due x now) (is_due p.t4 now) p.state (counts_shown p.counts)) f.t1
        ∙ ap (λ (x : Option ℕ). on_timers (is_due core.t1 now) (is_due x now) p.state (counts_shown p.counts)) f.t4
        ∙ ap (λ (x : State). on_timers (is_due core.t1 now) (is_due core.t4 now) x (counts_shown p.counts)) f.state
        ∙ ap (λ (x : Counts). on_timers (is_due core.t1 now) (is_due core.t4 now) core.state x) f.counts
