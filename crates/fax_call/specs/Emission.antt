-- Emitted images: what the called leg was given, read by the grammars of packets, frames and images, and what it heard.
use Rattle.std.specs.Prelude.{◌≡◌, ℕ, ◌+◌, Bool, true, false, ◌&&◌, nat_eq, nat_lt, List, [], ◌∷◌, ◌++◌, slice_get, Option, Some, None, option_map, if◌then◌else◌}
use Rattle.fax_frames.specs.declared.dcs.Dcs.{Dcs}
use Rattle.fax_frames.specs.declared.frame.Frame.{Frame}
use Rattle.fax_frames.specs.declared.frame.Frame.TheVariants as frames
use Rattle.fax_frames.specs.Capabilities.{format_of, coding_of}
use Rattle.fax_frames.specs.Frames.{frame_of}
use Rattle.fax_pagestore.specs.Pages.{PageValue}
use Rattle.fax_pagestore.specs.PageTexts.{MeansPage}
use Rattle.fax_ifp.specs.Elements as elements
use Rattle.fax_ifp.specs.ImageOctets.{image_octets}
use Rattle.fax_ifp.specs.Packets.{packet_of}
use Rattle.fax_ifp.specs.Pieces as pieces
use Rattle.fax_jobs.specs.Jobs.{JobValue, IsJob}
use Rattle.fax_call.specs.Writings.{Writing, IsWriting}
use Rattle.fax_call.specs.Replies.{Packet, written}
use Rattle.fax_call.specs.Calls.{CallerCore, started, ticked, CallEvent, Comes, Ticks, after_events}

-- an image that was given to its end, and the DCS that was given before it
pub record Emission : Type 0 where
  pub octets : List ℕ
  pub dcs : Dcs

-- the last DCS frame, and how many high-speed signals began since
pub record SinceDcs : Type 0 where
  pub dcs : Dcs
  pub signals : ℕ

abbrev pub dcs_by : Option Frame → Option SinceDcs → Option SinceDcs
dcs_by (Some (frames.Dcs dcs)) before = Some (record { dcs = dcs; signals = 0 })
dcs_by frame before = before

abbrev pub one_more : SinceDcs → SinceDcs
one_more s = record { dcs = s.dcs; signals = s.signals + 1 }

-- the frame that a field of V.21 data ends
abbrev pub frame_by_end : ℕ → ℕ → Option (List ℕ) → Option Frame
frame_by_end kind what None = None
frame_by_end kind what (Some octets) =
    if pieces.is_frame_end kind what then frame_of octets else None

unfoldable pub ended_frame : ℕ → ℕ → List elements.Element → Option Frame
ended_frame kind what before = frame_by_end kind what (pieces.hdlc_since before)

abbrev pub since_dcs : List elements.Element → Option SinceDcs
since_dcs [] = None
since_dcs (elements.Missing ∷ before) = since_dcs before
since_dcs (elements.Signal code ∷ before) =
    if pieces.is_training code then option_map one_more (since_dcs before) else since_dcs before
since_dcs (elements.Field kind what octets ∷ before) =
    dcs_by (ended_frame kind what before) (since_dcs before)

-- The first high-speed signal after a DCS is the training check; each later one whose end was given is an image.
abbrev pub emitted_with : Option SinceDcs
    → Option pieces.Image → (begun : List ℕ) → ℕ → ℕ → List ℕ → Option Emission
emitted_with (Some s) (Some image) begun kind what octets =
    if nat_eq kind image.kind && (nat_eq what 7 && nat_lt 1 s.signals)
    then Some (record { octets = begun ++ octets; dcs = s.dcs }) else None
emitted_with s image begun kind what octets = None

abbrev pub emitted_at : List elements.Element → elements.Element → Option Emission
emitted_at before (elements.Field kind what octets) = emitted_with (since_dcs before)
    (pieces.open_image before) (image_octets before) kind what octets
emitted_at before e = None

-- What the called leg gave and heard: a packet's elements, the frames MCF and RTP that came, the frames RTN that came, and
-- where a job's call began; the newest first. It goes over all calls of the leg.
pub data Mark : Type 0 where
  Gave : (element : elements.Element) → Mark
  Acknowledged : Mark
  Refused : Mark
  Begins : Mark

abbrev pub gave_all : List elements.Element → List Mark → List Mark
gave_all [] marks = marks
gave_all (e ∷ es) marks = gave_all es (Gave e ∷ marks)

abbrev pub elements_given : List Mark → List elements.Element
elements_given [] = []
elements_given (Gave e ∷ marks) = e ∷ elements_given marks
elements_given (Acknowledged ∷ marks) = elements_given marks
elements_given (Refused ∷ marks) = elements_given marks
elements_given (Begins ∷ marks) = elements_given marks

abbrev pub acknowledged_by : Option Frame → List Mark → List Mark
acknowledged_by (Some frames.Mcf) marks = Acknowledged ∷ marks
acknowledged_by (Some frames.Rtp) marks = Acknowledged ∷ marks
acknowledged_by (Some frames.Rtn) marks = Refused ∷ marks
acknowledged_by frame marks = marks

abbrev pub marks_heard : pieces.Piece → List Mark → List Mark
marks_heard (pieces.Frame octets) marks = acknowledged_by (frame_of octets) marks
marks_heard piece marks = marks

-- a packet that is given, by what its octets say
abbrev pub marks_given : Option Packet → List Mark → List Mark
marks_given None marks = marks
marks_given (Some packet) marks = gave_all (elements.elements_in (packet_of (written packet))) marks

-- over a call; `old` stood before it
abbrev pub marks_after : Writing → JobValue → List Mark → CallerCore → List CallEvent → List Mark
marks_after writes job old a [] = Begins ∷ old
marks_after writes job old a (Comes piece now ∷ before) =
    marks_heard piece (marks_after writes job old a before)
marks_after writes job old a (Ticks now ∷ before) =
    marks_given (ticked writes job (after_events writes job a before) now).given
    (marks_after writes job old a before)

-- the image means page n of the job, its format included
pub record IsPageOf (job : JobValue) (n : ℕ) (emission : Emission) : Type 0 where
  pub page : PageValue
  pub is_page : slice_get job.pages n ≡ Some page
  pub means : MeansPage (format_of emission.dcs) (coding_of emission.dcs) emission.octets page

-- the frame that an element ends
abbrev pub frame_at : List elements.Element → elements.Element → Option Frame
frame_at before (elements.Field kind what octets) = ended_frame kind what before
frame_at before e = None

abbrev pub is_command : Option Frame → Bool
is_command (Some frames.Eom) = true
is_command (Some frames.Mps) = true
is_command (Some frames.Eop) = true
is_command frame = false

-- whether the last indicator is the preamble, so that no image stands open
abbrev pub is_preamble : Option pieces.Since → Bool
is_preamble None = false
is_preamble (Some s) = nat_eq s.code 3

-- Whether the image emitted last was asked about and answered: a command (EOM, MPS or EOP) was given since, after its preamble,
-- and the first frame MCF, RTP or RTN that came after the last command says so. Whatever is given next closes the
-- question, and a frame that comes then answers nothing.
pub data Reply : Type 0 where
  Unasked : Reply
  Asked : Reply
  Answered : (good : Bool) → Reply

abbrev pub closed : Reply → Reply
closed Asked = Unasked
closed r = r

-- what is given: whether it is a command, and whether that stands after the preamble
abbrev pub reply_given : Bool → Bool → Reply → Reply
reply_given true true r = Asked
reply_given true false r = Unasked
reply_given false after r = closed r

abbrev pub reply_or : Option Emission → Reply → Reply
reply_or (Some e) r = Unasked
reply_or None r = r

abbrev pub reply_heard : Bool → Reply → Reply
reply_heard good Asked = Answered good
reply_heard good r = r

abbrev pub replied : List Mark → Reply
replied [] = Unasked
replied (Begins ∷ marks) = Unasked
replied (Acknowledged ∷ marks) = reply_heard true (replied marks)
replied (Refused ∷ marks) = reply_heard false (replied marks)
replied (Gave e ∷ marks) = let before = elements_given marks
    in reply_or (emitted_at before e) (reply_given (is_command (frame_at before e))
    (is_preamble (pieces.since_indicator before)) (replied marks))

-- the first page is page 0; after MCF or RTP the next, after RTN the same again; and nothing without an answer
abbrev pub IsAnswered : Option ℕ → Reply → ℕ → Type 0
IsAnswered None r n = n ≡ 0
IsAnswered (Some m) (Answered true) n = n ≡ m + 1
IsAnswered (Some m) (Answered false) n = n ≡ m
IsAnswered (Some m) r n = ⊥

-- Each image emitted in the call means a page of the job: the first is page 0, and each later one is the next page where
-- MCF or RTP answered, and the same page where RTN did. `last` is the page emitted last, which is fixed by what was given
-- and heard (see Numbers).
abbrev pub EmitsBy : JobValue → Option Emission → Reply → Option ℕ → (Option ℕ → Type 0) → Type 0
EmitsBy job None r last before = before last
EmitsBy job (Some emission) r None before = ⊥
EmitsBy job (Some emission) r (Some n) before =
    IsPageOf job n emission × (m : Option ℕ) × before m × IsAnswered m r n

abbrev pub Emits : JobValue → List Mark → Option ℕ → Type 0
Emits job [] None = Unit {0}
Emits job [] (Some n) = ⊥
Emits job (Begins ∷ marks) None = Unit {0}
Emits job (Begins ∷ marks) (Some n) = ⊥
Emits job (Acknowledged ∷ marks) last = Emits job marks last
Emits job (Refused ∷ marks) last = Emits job marks last
Emits job (Gave e ∷ marks) last =
    EmitsBy job (emitted_at (elements_given marks) e) (replied marks) last (Emits job marks)

-- In every call over one unchanged job, whatever the called machine answers, the images emitted are pages of the job, in
-- order.
abbrev pub EmitsThePages : Type 0
EmitsThePages = (writes : Writing) (job : JobValue) (old : List Mark) (core : CallerCore)
    (start : ℕ) (events : List CallEvent) → IsWriting writes → IsJob job → (last : Option ℕ)
    × Emits job (marks_after writes job old (started core job start) events) last
