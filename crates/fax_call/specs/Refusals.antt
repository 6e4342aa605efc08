-- What a DIS refuses: a job for which it leaves no choice, and each image that the called machine could not receive. (This
-- project's profile; the bits are those of ITU-T T.30, Table 2.)
use Rattle.std.specs.Prelude.{◌≡◌, ℕ, ◌⊎◌, Bool, true, false, IsSome, List, [], ◌∷◌, ◌++◌, slice_get, Option, Some, None, Err}
use Rattle.fax_runcodes.specs.declared.format.Format.{Format}
use Rattle.fax_frames.specs.declared.dis.Dis.{Dis}
use Rattle.fax_frames.specs.declared.frame.Frame.{Frame}
use Rattle.fax_frames.specs.declared.frame.Frame.TheVariants as frames
use Rattle.fax_frames.specs.declared.choice.Refusal.{Refusal}
use Rattle.fax_frames.specs.Capabilities.{has_width}
use Rattle.fax_frames.specs.Choice.{choice}
use Rattle.fax_frames.specs.FieldBits.{has_bit}
use Rattle.fax_frames.specs.Frames.{frame_of}
use Rattle.fax_ifp.specs.Elements as elements
use Rattle.fax_ifp.specs.Packets.{packet_of}
use Rattle.fax_ifp.specs.Pieces as pieces
use Rattle.fax_pagestore.specs.Pages.{PageValue}
use Rattle.fax_jobs.specs.Jobs.{JobValue, IsJob}
use Rattle.fax_call.specs.declared.state.State.{State}
use Rattle.fax_call.specs.declared.state.State.TheVariants.{Idle, AwaitDis, Closing}
use Rattle.fax_call.specs.Writings.{Writing, IsWriting}
use Rattle.fax_call.specs.Replies.{Packet, written, waits}
use Rattle.fax_call.specs.Table.{outcome_of}
use Rattle.fax_call.specs.Calls.{CallerCore, started, ticked, CallEvent, Comes, Ticks, after_events}
use Rattle.fax_call.specs.Emission.{Mark, Gave, elements_given, emitted_at, marks_after, Emits}

-- Where Await DIS takes a DIS that leaves no choice for the page due, the job ends with that refusal alone, whatever comes.
abbrev pub EndsByRefusal : Type 0
EndsByRefusal = (writes : Writing) (job : JobValue) (core : CallerCore)
    (start : ℕ) (later events : List CallEvent) (now : ℕ) (octets : List ℕ) (dis : Dis)
    (page : PageValue) (refusal : Refusal) → let begun : CallerCore = started core job start
    in let a : CallerCore = after_events writes job begun events
    in let z : CallerCore = after_events writes job begun (later
    ++ Comes (pieces.Frame octets) now ∷ events) in IsJob job → a.state ≡ AwaitDis → a.waiting ≡ []
    → frame_of octets ≡ Some (frames.Dis dis) → slice_get job.pages a.counts.page ≡ Some page
    → choice dis page.format 0 ≡ Err refusal → (z.state ≡ Closing (outcome_of refusal))
    ⊎ ((z.state ≡ Idle) × (z.outcome ≡ Some (outcome_of refusal)))

-- the DIS that Await DIS took last: the frame came there while no packet waited
abbrev pub dis_by : State → (waits : Bool) → Option Frame → Option Dis → Option Dis
dis_by AwaitDis false (Some (frames.Dis dis)) before = Some dis
dis_by state waits frame before = before

abbrev pub dis_with : CallerCore → pieces.Piece → Option Dis → Option Dis
dis_with a (pieces.Frame octets) before = dis_by a.state (waits a.waiting) (frame_of octets) before
dis_with a piece before = before

abbrev pub dis_taken : Writing → JobValue → CallerCore → List CallEvent → Option Dis
dis_taken writes job begun [] = None
dis_taken writes job begun (Comes piece now ∷ before) =
    dis_with (after_events writes job begun before) piece (dis_taken writes job begun before)
dis_taken writes job begun (Ticks now ∷ before) = dis_taken writes job begun before

-- no width or resolution of the format is lacking in a DIS
pub record Allows (dis : Dis) (format : Format) : Type 0 where
  pub receives : has_bit 10 dis.caps.0 ≡ true
  pub width : has_width format.width dis.caps.0 ≡ true
  pub fine : format.fine ≡ true → has_bit 15 dis.caps.0 ≡ true

-- these elements, given after that, end an image
abbrev pub EndsImage : List elements.Element → List Mark → Type 0
EndsImage [] marks = ⊥
EndsImage (e ∷ es) marks =
    IsSome (emitted_at (elements_given marks) e) ⊎ EndsImage es (Gave e ∷ marks)

-- An image is emitted only where the DIS that Await DIS took last before it allows the format of its page.
abbrev pub NoneIsLacking : Type 0
NoneIsLacking = (writes : Writing) (job : JobValue) (old : List Mark)
    (core : CallerCore) (start : ℕ) (before : List CallEvent) (now : ℕ) (packet : Packet) (n : ℕ)
    → let begun : CallerCore = started core job start in IsWriting writes
    → IsJob job → (ticked writes job (after_events writes job begun before) now).given ≡ Some packet
    → EndsImage (elements.elements_in (packet_of (written packet)))
    (marks_after writes job old begun before)
    → Emits job (marks_after writes job old begun (Ticks now ∷ before)) (Some n)
    → (page : PageValue) × (slice_get job.pages n ≡ Some page)
    × (dis : Dis) × (dis_taken writes job begun before ≡ Some dis) × Allows dis page.format
