-- LISTENING: the lines of the pieces that come or are given on a direction of a leg, by what the gateway took each as. (ITU-T T.30,
-- 5.3.6.1; the words are this project's profile.)
use Rattle.std.specs.Prelude.{◌≡◌, ℕ, ◌==◌, ◌&&◌, Bool, true, false, List, [], ◌∷◌, ◌++◌, drop, Option, Some, None, if◌then◌else◌, codes, decimal}
use Rattle.fax_frames.specs.declared.dcs.Dcs.{Dcs}
use Rattle.fax_frames.specs.declared.dis.Dis.{Dis as Offer}
use Rattle.fax_frames.specs.declared.frame.Frame.{Frame}
use Rattle.fax_frames.specs.declared.frame.Frame.TheVariants.{Dis, Csi, Nsf, Tsi, Eom, Mps, Eop, Crp, Other}
use Rattle.fax_descriptions.specs.Words.{frame_text, kind_name}
use Rattle.fax_descriptions.specs.declared.lane.Lane.{Lane}
use Rattle.fax_descriptions.specs.declared.lane.Lane.TheVariants.{FromCaller}
use Rattle.fax_explain.specs.declared.listener.Listener.{Listener}
use Rattle.fax_explain.specs.declared.mark.Mark.{Mark}
use Rattle.fax_explain.specs.declared.mark.Passed.{Passed}
use Rattle.fax_explain.specs.declared.mark.Passed.TheVariants as passed
use Rattle.fax_explain.specs.declared.mark.Signal.{Signal}
use Rattle.fax_explain.specs.declared.mark.Signal.TheVariants.{Strange, Unasked, Outside, Ending, Check, Page, Late}
use Rattle.fax_ifp.specs.Pieces.{Piece, Frame as FramePiece, Start, Octets, End, Gap}

-- the commands after a page
abbrev pub is_command : Frame → Bool
is_command Mps = true
is_command Eom = true
is_command Eop = true
is_command frame = false

-- the frames that are heard in some state of a call
abbrev pub is_heard : Frame → Bool
is_heard Csi = false
is_heard Nsf = false
is_heard Tsi = false
is_heard Crp = false
is_heard Other = false
is_heard frame = true

-- why a frame is passed over that came on this way, after its words: one that is heard in no state is so without a word
abbrev pub unasked_text : Lane → Frame → List ℕ
unasked_text FromCaller frame = if is_command frame
    then codes ", passed over: no page is due" else codes ", passed over: it is no command"
unasked_text lane frame = codes ", passed over: it answers nothing"

-- or that a training goes out again, for a DIS in place of an answer
abbrev pub training_text : (trains_again : Bool) → Frame → List ℕ
training_text true (Dis dis) = codes ", and no answer: the training goes out again"
training_text trains_again frame = []

abbrev pub passed_as : Passed → (trains_again : Bool) → Lane → Frame → List ℕ
passed_as passed.Heard trains_again lane frame = training_text trains_again frame
passed_as passed.Outside trains_again lane frame = codes ", passed over: no call is on"
passed_as passed.Sending trains_again lane frame =
    if is_heard frame then codes ", passed over while the gateway sends" else []
passed_as passed.Unasked trains_again lane frame =
    if is_heard frame then unasked_text lane frame else []

-- what a frame was taken as, after its words
abbrev pub taken_text : Mark → Lane → Option Frame → List ℕ
taken_text mark lane None = []
taken_text mark lane (Some frame) = passed_as mark.passed mark.trains_again lane frame

-- why a signal is passed over, after its words: where no call is on, each line says that
abbrev pub strange_text : Signal → (is_outside : Bool) → List ℕ
strange_text Outside is_outside = codes ", passed over: no call is on"
strange_text Ending is_outside = codes ", passed over while the gateway sends"
strange_text Unasked is_outside = codes ", passed over: it answers nothing"
strange_text signal true = []
strange_text signal false = codes ", passed over: no DCS is before it, or FTT answered it"

-- the DCS under which a signal is read as a page
abbrev pub page_dcs : Signal → Option Dcs
page_dcs (Page dcs) = Some dcs
page_dcs signal = None

-- the last DIS, after a frame
abbrev pub dis_after : Option Offer → Option Frame → Option Offer
dis_after last (Some (Dis dis)) = Some dis
dis_after last frame = last

abbrev pub is_same : Option Offer → Offer → Bool
is_same None dis = false
is_same (Some last) dis = last.caps.0 == dis.caps.0

-- what a frame says: a DIS like the last one is told as such
abbrev pub words_after : Option Offer → (octets : List ℕ) → Option Frame → List ℕ
words_after last octets (Some (Dis dis)) =
    if is_same last dis then codes "DIS as before" else frame_text octets
words_after last octets frame = frame_text octets

-- what a signal is called, and what a training check was
abbrev pub signal_name : Signal → List ℕ
signal_name Strange = codes "a signal"
signal_name Unasked = codes "a signal"
signal_name Outside = codes "a signal"
signal_name Ending = codes "a signal"
signal_name (Check dcs) = codes "training check"
signal_name (Page dcs) = codes "image"
signal_name Late = codes "image"

abbrev pub verdict_name : (is_good : Bool) → List ℕ
verdict_name true = codes "good"
verdict_name false = codes "bad"

-- ---- marks

-- HOW A DIRECTION IS HEARD: its lane, whether no call is on, and what a piece is taken as that has no mark
pub record Ear : Type 0 where
  pub lane : Lane
  pub is_outside : Bool
  pub usual : Mark

-- the marks that a listener has not handed out
abbrev pub marks_left : Listener → List Mark
marks_left listener = drop listener.taken listener.marks.items

-- no call is on from now on
abbrev pub outside : Listener → Listener
outside listener = record listener { is_outside = true }

-- the mark of the next piece
abbrev pub first_mark : (usual : Mark) → List Mark → Mark
first_mark usual [] = usual
first_mark usual (mark ∷ marks) = mark

-- Each frame, each beginning and each end of a signal has a mark of its own, in their order: those that are left after a piece
abbrev pub marks_after : Piece → List Mark → List Mark
marks_after (FramePiece octets) marks = drop 1 marks
marks_after (Start kind) marks = drop 1 marks
marks_after (Octets octets) marks = marks
marks_after (End whole) marks = drop 1 marks
marks_after Gap marks = marks

abbrev pub has_mark : Piece → Bool
has_mark (FramePiece octets) = true
has_mark (Start kind) = true
has_mark (Octets octets) = false
has_mark (End whole) = true
has_mark Gap = false

-- and after pieces
abbrev pub later_marks : List Piece → List Mark → List Mark
later_marks [] marks = marks
later_marks (piece ∷ pieces) marks = later_marks pieces (marks_after piece marks)

-- a piece of which nothing is told is taken as a signal before which there is no DCS
abbrev pub unmarked : Mark
unmarked = record { signal = Strange; passed = passed.Heard; is_good = false; trains_again = false }

-- what comes in a call
abbrev pub in_call : Lane → Ear
in_call lane = record { lane = lane; is_outside = false; usual = unmarked }

-- what comes while no call is on
abbrev pub outside_call : Lane → Ear
outside_call lane = record (in_call lane) { is_outside = true }

-- ---- the lines of pieces, by the mark of each

-- where no call is on each line says that
abbrev pub outside_text : (is_outside : Bool) → List ℕ
outside_text true = codes ", passed over: no call is on"
outside_text false = []

-- a signal that begins
abbrev pub marked_start : Mark → (kind : ℕ) → List ℕ
marked_start mark kind = signal_name mark.signal ++ (codes " begins, " ++ kind_name kind)

-- a signal that ends, of so many octets: what its line begins with. A training check of the caller's is good where CFR answers it.
abbrev pub is_judged : Lane → Bool
is_judged FromCaller = true
is_judged lane = false

abbrev pub check_text : (is_judged : Bool) → (is_good : Bool) → List ℕ
check_text true is_good = codes "training check " ++ (verdict_name is_good ++ codes ": ")
check_text false is_good = codes "training check, "

-- an image of so many octets, and whether it is whole
abbrev pub image_text : (octets : ℕ) → (whole : Bool) → List ℕ
image_text octets true = codes "image of " ++ (decimal octets ++ codes " octets, whole: ")
image_text octets false = codes "image of " ++ (decimal octets ++ codes " octets, not whole, ")

abbrev pub signal_text : (octets : ℕ) → Signal → (is_outside : Bool) → List ℕ
signal_text octets signal is_outside =
    codes "a signal of " ++ (decimal octets ++ (codes " octets" ++ strange_text signal is_outside))

abbrev pub end_text : Signal
    → (is_good : Bool) → Lane → (is_outside : Bool) → (octets : ℕ) → (whole : Bool) → List ℕ
end_text (Check dcs) is_good lane is_outside octets whole =
    check_text (is_judged lane) (whole && is_good)
end_text (Page dcs) is_good lane is_outside octets whole = image_text octets whole
end_text Late is_good lane is_outside octets whole = image_text octets whole
end_text signal is_good lane is_outside octets whole = signal_text octets signal is_outside

abbrev pub marked_end : Mark → Lane → (is_outside : Bool) → (octets : ℕ) → (whole : Bool) → List ℕ
marked_end mark lane is_outside octets whole =
    end_text mark.signal mark.is_good lane is_outside octets whole

-- words begin with a text
abbrev pub StartsWith : (text words : List ℕ) → Type 0
StartsWith text words = (more : List ℕ) × (words ≡ text ++ more)
