-- What waits can be given: which elements it gives, and what they leave of the emitted images and of the reply.
use Rattle.std.proofs.Common.{◌≡◌, ℕ, zero, suc, ◌+◌, ◌/◌, ◌*◌, ◌<◌, ◌≤◌, Bool, true, false, not, ◌&&◌, ◌||◌, nat_eq, nat_lt, nat_le, List, [], ◌∷◌, ◌++◌, length, take, drop, replicate, Option, Some, None, inl, inr, refl, sym, ◌∙◌, ap, subst, arith, if◌then◌else◌, slice_get}
use Rattle.std.proofs.Common.{length-drop, length-take, append_assoc}
use Rattle.std.proofs.lemmas.List.{take-append-drop}
use Rattle.std.proofs.lemmas.List.Elements.{recursion_from_All}
use Rattle.std.proofs.Math.Seq.{take-add}
use Rattle.std.specs.List.{AllByRecursion, list_any, list_all}
use Rattle.std.specs.Prelude.{option_map}
use Rattle.fax_bits.specs.Bits.{bits_of}
use Rattle.fax_bits.specs.Writing.{IsPadded}
use Rattle.fax_runcodes.specs.declared.format.Format.{Format}
use Rattle.fax_runcodes.specs.declared.format.Coding.{Coding}
use Rattle.fax_runcodes.specs.declared.Width.{Width}
use Rattle.fax_runcodes.specs.declared.Width.TheVariants.{W1728, W2048, W2432}
use Rattle.fax_runcodes.specs.Rows.{IsWidth}
use Rattle.fax_runcodes.specs.Widths.{elements_of}
use Rattle.fax_pagestore.specs.Pages.{PageValue, IsPage}
use Rattle.fax_pagestore.specs.PageTexts.{end_of_line, MeansRows, MeansPage}
use Rattle.fax_pagestore.specs.WrittenPages.{tag_bits, ends_of_line, WritesPage}
use Rattle.fax_pagestore.proofs.WrittenLemmas.{written_pages_mean}
use Rattle.fax_frames.specs.declared.dcs.Dcs.{Dcs}
use Rattle.fax_frames.specs.declared.rate.Rate.{Rate}
use Rattle.fax_frames.specs.declared.rate.Rate.TheVariants.{V27At2400, V27At4800, V29At7200, V29At9600, V17At7200, V17At9600, V17At12000, V17At14400}
use Rattle.fax_frames.specs.declared.frame.Frame.{Frame}
use Rattle.fax_frames.specs.Rates.{bits_a_second, kind_of, training_of}
use Rattle.fax_frames.specs.Capabilities.{format_of, coding_of, least_bits_of}
use Rattle.fax_frames.specs.Frames.{frame_of}
use Rattle.fax_frames.specs.Written.{written_plain, written_dcs}
use Rattle.fax_ifp.specs.Elements as elements
use Rattle.fax_ifp.specs.ImageOctets.{image_octets, octets_in_image}
use Rattle.fax_ifp.specs.Pieces as pieces
use Rattle.fax_jobs.specs.Jobs.{JobValue, IsJob}
use Rattle.fax_call.specs.declared.state.State.{State}
use Rattle.fax_call.specs.declared.state.State.TheVariants.{AwaitCfr, AwaitMcf}
use Rattle.fax_call.specs.Writings.{Writing, IsWrittenAs, IsWriting}
use Rattle.fax_call.specs.Replies.{Signals, Tells, Part, Due, One, Text, part_length, parts_of, check_length, training_check, frame_reply, training, command, image, command_by}
use Rattle.fax_call.specs.Calls.{text_if, text_at, formats_of}
use Rattle.fax_call.proofs.Due.{DueAt, format_at}
use Rattle.fax_call.specs.Emission.{Emission, SinceDcs, since_dcs, dcs_by, ended_frame, frame_by_end, one_more, emitted_with, emitted_at, Mark, Gave, gave_all, elements_given, IsPageOf, frame_at, is_command, is_preamble, Reply, Asked, Unasked, Answered, closed, reply_given, reply_or, replied, IsAnswered, EmitsBy, Emits}
use Rattle.fax_call.proofs.PacketsBack.{elements_in, signal_back, frame_back, part_back, read_dcs, dcs_back}

-- a function that gives the text of each page
pub record Texts : Type 0 where
  pub writes : Writing
  pub are : IsWriting writes

-- nothing is emitted by these elements
abbrev pub Quiet : List elements.Element → List elements.Element → Type 0
Quiet before [] = Unit {0}
Quiet before (e ∷ es) = (emitted_at before e ≡ None) × Quiet (e ∷ before) es

abbrev pub pushed : List elements.Element → List elements.Element → List elements.Element
pushed [] before = before
pushed (e ∷ es) before = pushed es (e ∷ before)

pub pushed_given : (es : List elements.Element) (marks : List Mark) → elements_given (gave_all es marks) ≡ pushed es (elements_given marks)
pushed_given [] marks = refl
pushed_given (e ∷ es) marks = pushed_given es (Gave e ∷ marks)

pub quiet_emits : (job : JobValue) (es : List elements.Element) (marks : List Mark) (last : Option ℕ) → Quiet (elements_given marks) es → Emits job marks last → Emits job (gave_all es marks) last
quiet_emits job [] marks last q h = h
quiet_emits job (e ∷ es) marks last q h =
    quiet_emits job es (Gave e ∷ marks) last q.1 (subst (λ (o : Option Emission). EmitsBy job o (replied marks) last (Emits job marks)) (sym q.0) h)

-- none of these elements ends a command
abbrev pub NoCommand : List elements.Element → List elements.Element → Type 0
NoCommand before [] = Unit {0}
NoCommand before (e ∷ es) = (is_command (frame_at before e) ≡ false) × NoCommand (e ∷ before) es

-- an answer stays one until an image is emitted or a command is given
pub closed_answered : (last : Option ℕ) (r : Reply) (n : ℕ) → IsAnswered last r n → IsAnswered last (closed r) n
closed_answered None r n h = h
closed_answered (Some m) Unasked n h = absurd h
closed_answered (Some m) Asked n h = absurd h
closed_answered (Some m) (Answered good) n h = h

-- the reply after an element that emits nothing
abbrev pub after_one : List elements.Element → elements.Element → Reply → Reply
after_one before e r = reply_given (is_command (frame_at before e)) (is_preamble (pieces.since_indicator before)) r

pub quiet_answered : (es : List elements.Element) (marks : List Mark) (last : Option ℕ) (n : ℕ) → Quiet (elements_given marks) es → NoCommand (elements_given marks) es →
    IsAnswered last (replied marks) n → IsAnswered last (replied (gave_all es marks)) n
quiet_answered [] marks last n q c h = h
quiet_answered (e ∷ es) marks last n q c h =
    quiet_answered es (Gave e ∷ marks) last n q.1 c.1
    (subst (λ (o : Option Emission). IsAnswered last (reply_or o (after_one (elements_given marks) e (replied marks))) n) (sym q.0)
    (subst (λ (t : Bool). IsAnswered last (reply_given t (is_preamble (pieces.since_indicator (elements_given marks))) (replied marks)) n) (sym c.0) (closed_answered last (replied marks) n h)))

-- what the reply is after elements that emit nothing
abbrev pub reply_after : List elements.Element → List elements.Element → Reply → Reply
reply_after before [] r = r
reply_after before (e ∷ es) r = reply_after (e ∷ before) es (after_one before e r)

pub quiet_replied : (es : List elements.Element) (marks : List Mark) → Quiet (elements_given marks) es → replied (gave_all es marks) ≡ reply_after (elements_given marks) es (replied marks)
quiet_replied [] marks q = refl
quiet_replied (e ∷ es) marks q =
    quiet_replied es (Gave e ∷ marks) q.1
    ∙ ap (λ (o : Option Emission). reply_after (e ∷ elements_given marks) es (reply_or o (after_one (elements_given marks) e (replied marks)))) q.0

-- the DCS told, and the signals since
abbrev pub Told : List elements.Element → Dcs → ℕ → Type 0
Told before read n = since_dcs before ≡ Some (record { dcs = read; signals = n })

-- the data type of the short training indicator
abbrev pub signal_kind : Rate → ℕ
signal_kind rate = pieces.kind_of_training (training_of rate false)

-- the page, where the job has it, is of the format that the DCS tells
abbrev pub IsFormatOf : JobValue → (page : ℕ) → Dcs → Type 0
IsFormatOf job n dcs = DueAt (formats_of job) n (format_of dcs)

-- within the image of a page: its octets so far are the front of the text
pub record TextReady (texts : Texts) (job : JobValue) (page : ℕ) (dcs : Dcs) (from : ℕ) (before : List elements.Element) : Type 0 where
  pub later : List elements.Element
  pub n : ℕ
  pub told : Told before (read_dcs dcs) (suc (suc n))
  pub signal : pieces.since_indicator before ≡ Some (record { code = training_of dcs.rate false; later = later })
  pub no_end : list_any (pieces.is_image_end (signal_kind dcs.rate)) later ≡ false
  pub octets : image_octets before ≡ take from (text_at texts.writes job page dcs)
  pub left : from < length (text_at texts.writes job page dcs)
  pub format_is : IsFormatOf job page dcs

pub record AfterText (dcs : Dcs) (before : List elements.Element) : Type 0 where
  pub n : ℕ
  pub told : Told before (read_dcs dcs) (suc n)

-- what waits can be given: nothing but the text of the page due emits an image, and in the end Post holds
abbrev pub SafeTo : Texts → JobValue → ℕ → (List elements.Element → Type 0) → List Due → List elements.Element → Type 0
SafeTo texts job page Post [] before = Post before
SafeTo texts job page Post (One p ∷ due) before = Quiet before (elements_in p) × SafeTo texts job page Post due (pushed (elements_in p) before)
SafeTo texts job page Post (Text n dcs from ∷ due) before =
    (n ≡ page) × TextReady texts job page dcs from before × ((after : List elements.Element) → AfterText dcs after → SafeTo texts job page Post due after)

-- after the waiting packets: in AwaitCfr and AwaitMcf the DCS is told and a signal began
abbrev pub PostOf : State → List elements.Element → Type 0
PostOf (AwaitCfr dis dcs) before = AfterText dcs before
PostOf (AwaitMcf dis dcs) before = AfterText dcs before
PostOf state before = Unit {0}

pub no_image : (s : Option SinceDcs) (begun : List ℕ) (kind what : ℕ) (octets : List ℕ) → emitted_with s None begun kind what octets ≡ None
no_image None begun kind what octets = refl
no_image (Some s) begun kind what octets = refl

-- a signal
pub signal_safe : (texts : Texts) (job : JobValue) (page : ℕ) (Post : List elements.Element → Type 0) (code : ℕ) (due : List Due) (before : List elements.Element) → code < 16 →
    SafeTo texts job page Post due (elements.Signal code ∷ before) → SafeTo texts job page Post (One (Signals code) ∷ due) before
signal_safe texts job page Post code due before h s =
    subst (λ (es : List elements.Element). Quiet before es × SafeTo texts job page Post due (pushed es before)) (sym (signal_back code h)) ((refl, tt), s)

-- a frame, after the preamble
pub frame_safe : (texts : Texts) (job : JobValue) (page : ℕ) (Post : List elements.Element → Type 0) (f : List ℕ) (due : List Due) (before : List elements.Element) → 1 ≤ length f → length f ≤ 256 →
    SafeTo texts job page Post due (elements.Field 0 4 [] ∷ elements.Field 0 0 f ∷ elements.Signal 3 ∷ before) → SafeTo texts job page Post (frame_reply f ++ due) before
frame_safe texts job page Post f due before h k s =
    signal_safe texts job page Post 3 (One (Tells f) ∷ due) before (omega arith)
    (subst (λ (es : List elements.Element). Quiet (elements.Signal 3 ∷ before) es × SafeTo texts job page Post due (pushed es (elements.Signal 3 ∷ before))) (sym (frame_back f h k))
    ((no_image (since_dcs before) (image_octets before) 0 0 f, (no_image (since_dcs (elements.Field 0 0 f ∷ elements.Signal 3 ∷ before)) (image_octets (elements.Field 0 0 f ∷ elements.Signal 3 ∷ before)) 0 4 [], tt)), s))

-- what the DCS is after a frame
pub after_frame : (f : List ℕ) (before : List elements.Element) → since_dcs (elements.Field 0 4 [] ∷ elements.Field 0 0 f ∷ elements.Signal 3 ∷ before) ≡ dcs_by (frame_of f) (since_dcs before)
unfolding ended_frame
after_frame f before = refl

-- data of an image ends no frame
abbrev pub IsHighSpeed : Rate → ℕ → Type 0
IsHighSpeed rate what = (before : List elements.Element) → ended_frame (kind_of rate) what before ≡ None

pub frame_none : (o : Option (List ℕ)) (kind what : ℕ) → nat_eq kind 0 ≡ false → frame_by_end kind what o ≡ None
frame_none None kind what h = refl
frame_none (Some octets) kind what h = ap (λ (t : Bool). if t && (nat_eq what 2 || nat_eq what 4) then frame_of octets else None) h

pub kind_not_0 : (rate : Rate) → nat_eq (kind_of rate) 0 ≡ false
kind_not_0 V27At2400 = refl
kind_not_0 V27At4800 = refl
kind_not_0 V29At7200 = refl
kind_not_0 V29At9600 = refl
kind_not_0 V17At7200 = refl
kind_not_0 V17At9600 = refl
kind_not_0 V17At12000 = refl
kind_not_0 V17At14400 = refl

pub high_speed : (rate : Rate) (what : ℕ) → IsHighSpeed rate what
unfolding ended_frame
high_speed rate what before = frame_none (pieces.hdlc_since before) (kind_of rate) what (kind_not_0 rate)

pub told_part : (rate : Rate) (what : ℕ) (os : List ℕ) (before : List elements.Element) (read : Dcs) (n : ℕ) → Told before read n → Told (elements.Field (kind_of rate) what os ∷ before) read n
told_part rate what os before read n t = ap (λ (o : Option Frame). dcs_by o (since_dcs before)) (high_speed rate what before) ∙ t

pub is_training_of : (rate : Rate) (long : Bool) → pieces.is_training (training_of rate long) ≡ true
is_training_of V27At2400 long = refl
is_training_of V27At4800 long = refl
is_training_of V29At7200 long = refl
is_training_of V29At9600 long = refl
is_training_of V17At7200 true = refl
is_training_of V17At7200 false = refl
is_training_of V17At9600 true = refl
is_training_of V17At9600 false = refl
is_training_of V17At12000 true = refl
is_training_of V17At12000 false = refl
is_training_of V17At14400 true = refl
is_training_of V17At14400 false = refl

pub same_kind : (rate : Rate) → nat_eq (kind_of rate) (signal_kind rate) ≡ true
same_kind V27At2400 = refl
same_kind V27At4800 = refl
same_kind V29At7200 = refl
same_kind V29At9600 = refl
same_kind V17At7200 = refl
same_kind V17At9600 = refl
same_kind V17At12000 = refl
same_kind V17At14400 = refl

pub code_fits : (rate : Rate) (long : Bool) → training_of rate long < 16
code_fits V27At2400 long = omega arith
code_fits V27At4800 long = omega arith
code_fits V29At7200 long = omega arith
code_fits V29At9600 long = omega arith
code_fits V17At7200 true = omega arith
code_fits V17At7200 false = omega arith
code_fits V17At9600 true = omega arith
code_fits V17At9600 false = omega arith
code_fits V17At12000 true = omega arith
code_fits V17At12000 false = omega arith
code_fits V17At14400 true = omega arith
code_fits V17At14400 false = omega arith

pub told_signal : (rate : Rate) (long : Bool) (before : List elements.Element) (read : Dcs) (n : ℕ) → Told before read n → Told (elements.Signal (training_of rate long) ∷ before) read (n + 1)
told_signal rate long before read n t =
    ap (λ (t : Bool). if t then option_map one_more (since_dcs before) else since_dcs before) (is_training_of rate long)
    ∙ ap (option_map one_more) t

-- the training check
abbrev pub AreParts : Rate → List Due → Type 0
AreParts rate [] = Unit {0}
AreParts rate (One (Part kind end os) ∷ due) = (kind ≡ kind_of rate) × (1 ≤ length os) × (length os ≤ 65535) × AreParts rate due
AreParts rate (One (Signals c) ∷ due) = ⊥
AreParts rate (One (Tells f) ∷ due) = ⊥
AreParts rate (Text p d f ∷ due) = ⊥

pub parts_are : (fuel : ℕ) (rate : Rate) (n : ℕ) (os : List ℕ) → 1 ≤ n → n ≤ 65535 → 1 ≤ length os → AreParts rate (parts_of fuel (kind_of rate) n os)
parts_are zero rate n os a b c = tt
parts_are (suc fuel) rate n os a b c = by (nat_le (length os) n) refl (λ l. parts_are fuel rate n (drop n os) a b l)
  where
    by : (t : Bool) → nat_le (length os) n ≡ t → (1 ≤ length (drop n os) → AreParts rate (parts_of fuel (kind_of rate) n (drop n os))) →
        AreParts rate (if t then One (Part (kind_of rate) true os) ∷ [] else One (Part (kind_of rate) false (take n os)) ∷ parts_of fuel (kind_of rate) n (drop n os))
    by true h f = let l : length os ≤ n = grind (arith) in (refl, c, omega arith, tt)
    by false h f =
        let l : n < length os = grind (arith) in
        let t : length (take n os) ≡ n = grind (arith, length-take) in
        (refl, omega arith, omega arith, f (omega (arith, length-drop n os)))

pub and_false : (a c : Bool) → (a && (c && false)) ≡ false
and_false true true = refl
and_false true false = refl
and_false false c = refl

pub check_quiet : (o : Option pieces.Image) (begun : List ℕ) (read : Dcs) (kind what : ℕ) (os : List ℕ) → emitted_with (Some (record { dcs = read; signals = 1 })) o begun kind what os ≡ None
check_quiet None begun read kind what os = refl
check_quiet (Some i) begun read kind what os =
    ap (λ (t : Bool). if t then Some (record { octets = begun ++ os; dcs = read }) else None) (and_false (nat_eq kind i.kind) (nat_eq what 7))

pub quiet_at : (before : List elements.Element) (read : Dcs) (kind what : ℕ) (os : List ℕ) → Told before read 1 → emitted_at before (elements.Field kind what os) ≡ None
quiet_at before read kind what os t =
    ap (λ (s : Option SinceDcs). emitted_with s (pieces.open_image before) (image_octets before) kind what os) t ∙ check_quiet (pieces.open_image before) (image_octets before) read kind what os

pub parts_safe : (texts : Texts) (job : JobValue) (page : ℕ) (Post : List elements.Element → Type 0) (rate : Rate) (due : List Due) (before : List elements.Element) (read : Dcs) →
    AreParts rate due → Told before read 1 → ((after : List elements.Element) → Told after read 1 → Post after) → SafeTo texts job page Post due before
parts_safe texts job page Post rate [] before read a t f = f before t
parts_safe texts job page Post rate (One (Part kind end os) ∷ due) before read a t f =
    subst (λ (k : ℕ). SafeTo texts job page Post (One (Part k end os) ∷ due) before) (sym a.0)
    (subst (λ (es : List elements.Element). Quiet before es × SafeTo texts job page Post due (pushed es before)) (sym (part_back rate end os a.1 a.2)) (
      (quiet_at before read (kind_of rate) (if end then 7 else 6) os t, tt),
      parts_safe texts job page Post rate due (elements.Field (kind_of rate) (if end then 7 else 6) os ∷ before) read a.3 (told_part rate (if end then 7 else 6) os before read 1 t) f,
    ))
parts_safe texts job page Post rate (One (Signals c) ∷ due) before read a t f = absurd a
parts_safe texts job page Post rate (One (Tells g) ∷ due) before read a t f = absurd a
parts_safe texts job page Post rate (Text p d g ∷ due) before read a t f = absurd a

pub check_length_some : (dcs : Dcs) → 1 ≤ check_length dcs
check_length_some dcs = by dcs.rate
  where
    by : (rate : Rate) → 1 ≤ bits_a_second rate * 3 / 16
    by V27At2400 = omega arith
    by V27At4800 = omega arith
    by V29At7200 = omega arith
    by V29At9600 = omega arith
    by V17At7200 = omega arith
    by V17At9600 = omega arith
    by V17At12000 = omega arith
    by V17At14400 = omega arith

pub part_some : (rate : Rate) → (1 ≤ bits_a_second rate / 200) × (bits_a_second rate / 200 ≤ 65535)
part_some V27At2400 = (omega arith, omega arith)
part_some V27At4800 = (omega arith, omega arith)
part_some V29At7200 = (omega arith, omega arith)
part_some V29At9600 = (omega arith, omega arith)
part_some V17At7200 = (omega arith, omega arith)
part_some V17At9600 = (omega arith, omega arith)
part_some V17At12000 = (omega arith, omega arith)
part_some V17At14400 = (omega arith, omega arith)

pub length_zeros : (n : ℕ) → length {A = ℕ} (replicate n 0) ≡ n
length_zeros zero = refl
length_zeros (suc n) = grind (arith, length_zeros n)

pub check_parts : (dcs : Dcs) → AreParts dcs.rate (training_check dcs)
unfolding training_check
check_parts dcs =
    parts_are (check_length dcs) dcs.rate (part_length dcs) (replicate (check_length dcs) 0) (part_some dcs.rate).0 (part_some dcs.rate).1
    (let e : length {A = ℕ} (replicate (check_length dcs) 0) ≡ check_length dcs = length_zeros (check_length dcs) in let l : 1 ≤ check_length dcs = check_length_some dcs in omega arith)

-- training, from anywhere
pub training_safe : (texts : Texts) (job : JobValue) (page : ℕ) (dcs : Dcs) (before : List elements.Element) → SafeTo texts job page (AfterText dcs) (training dcs) before
training_safe texts job page dcs before =
    let f : List ℕ = written_dcs dcs in
    let front : List elements.Element = elements.Field 0 4 [] ∷ elements.Field 0 0 f ∷ elements.Signal 3 ∷ before in
    let told : Told front (read_dcs dcs) 0 = after_frame f before ∙ ap (λ (o : Option Frame). dcs_by o (since_dcs before)) (dcs_back dcs) in
    frame_safe texts job page (AfterText dcs) f (One (Signals (training_of dcs.rate true)) ∷ training_check dcs) before (omega arith) (omega arith)
    (signal_safe texts job page (AfterText dcs) (training_of dcs.rate true) (training_check dcs) front (code_fits dcs.rate true)
    (parts_safe texts job page (AfterText dcs) dcs.rate (training_check dcs) (elements.Signal (training_of dcs.rate true) ∷ front) (read_dcs dcs) (check_parts dcs)
    (told_signal dcs.rate true front (read_dcs dcs) 0 told)
    (λ after t. record { n = 0; told = t })))

-- What waits and asks nothing: a training, or what comes before a text.
abbrev pub Keeps : List Due → List elements.Element → Type 0
Keeps [] before = Unit {0}
Keeps (One p ∷ due) before = NoCommand before (elements_in p) × Keeps due (pushed (elements_in p) before)
Keeps (Text n dcs from ∷ due) before = ⊥

pub signal_asks_nothing : (code : ℕ) (before : List elements.Element) → code < 16 → NoCommand before (elements_in (Signals code))
signal_asks_nothing code before h = subst (NoCommand before) (sym (signal_back code h)) (refl, tt)

pub signal_keeps : (code : ℕ) (due : List Due) (before : List elements.Element) → code < 16 → Keeps due (elements.Signal code ∷ before) → Keeps (One (Signals code) ∷ due) before
signal_keeps code due before h k = subst (λ (es : List elements.Element). NoCommand before es × Keeps due (pushed es before)) (sym (signal_back code h)) ((refl, tt), k)

pub no_frame : (o : Option (List ℕ)) → frame_by_end 0 0 o ≡ None
no_frame None = refl
no_frame (Some octets) = refl

pub data_ends_nothing : (f : List ℕ) (before : List elements.Element) → frame_at before (elements.Field 0 0 f) ≡ None
unfolding ended_frame
data_ends_nothing f before = no_frame (pieces.hdlc_since before)

pub frame_ends : (f : List ℕ) (before : List elements.Element) → frame_at (elements.Field 0 0 f ∷ elements.Signal 3 ∷ before) (elements.Field 0 4 []) ≡ frame_of f
unfolding ended_frame
frame_ends f before = refl

pub frame_keeps : (f : List ℕ) (due : List Due) (before : List elements.Element) → 1 ≤ length f → length f ≤ 256 → is_command (frame_of f) ≡ false →
    Keeps due (elements.Field 0 4 [] ∷ elements.Field 0 0 f ∷ elements.Signal 3 ∷ before) → Keeps (frame_reply f ++ due) before
frame_keeps f due before h k c s =
    signal_keeps 3 (One (Tells f) ∷ due) before (omega arith)
    (subst (λ (es : List elements.Element). NoCommand (elements.Signal 3 ∷ before) es × Keeps due (pushed es (elements.Signal 3 ∷ before))) (sym (frame_back f h k))
    ((ap is_command (data_ends_nothing f (elements.Signal 3 ∷ before)), (ap is_command (frame_ends f before) ∙ c, tt)), s))

pub parts_keep : (rate : Rate) (due : List Due) (before : List elements.Element) → AreParts rate due → Keeps due before
parts_keep rate [] before a = tt
parts_keep rate (One (Part kind end os) ∷ due) before a =
    subst (λ (k : ℕ). Keeps (One (Part k end os) ∷ due) before) (sym a.0)
    (subst (λ (es : List elements.Element). NoCommand before es × Keeps due (pushed es before)) (sym (part_back rate end os a.1 a.2)) (
      (ap is_command (high_speed rate (if end then 7 else 6) before), tt),
      parts_keep rate due (elements.Field (kind_of rate) (if end then 7 else 6) os ∷ before) a.3,
    ))
parts_keep rate (One (Signals c) ∷ due) before a = absurd a
parts_keep rate (One (Tells g) ∷ due) before a = absurd a
parts_keep rate (Text p d g ∷ due) before a = absurd a

pub training_keeps : (dcs : Dcs) (before : List elements.Element) → Keeps (training dcs) before
training_keeps dcs before =
    let f : List ℕ = written_dcs dcs in
    let front : List elements.Element = elements.Field 0 4 [] ∷ elements.Field 0 0 f ∷ elements.Signal 3 ∷ before in
    frame_keeps f (One (Signals (training_of dcs.rate true)) ∷ training_check dcs) before (omega arith) (omega arith) (ap is_command (dcs_back dcs))
    (signal_keeps (training_of dcs.rate true) (training_check dcs) front (code_fits dcs.rate true)
    (parts_keep dcs.rate (training_check dcs) (elements.Signal (training_of dcs.rate true) ∷ front) (check_parts dcs)))

-- the command, where the DCS was told
pub passes_on : (end : Bool) (turn : Option Format) (o : Option SinceDcs) → dcs_by (frame_of (written_plain (command_by end turn) true)) o ≡ o
passes_on true turn o = refl
passes_on false (Some format) o = refl
passes_on false None o = refl

command_told : (end : Bool) (turn : Option Format) (dcs : Dcs) (before : List elements.Element) → AfterText dcs before →
    AfterText dcs (elements.Field 0 4 [] ∷ elements.Field 0 0 (written_plain (command_by end turn) true) ∷ elements.Signal 3 ∷ before)
command_told end turn dcs before a =
    record { n = a.n; told = after_frame (written_plain (command_by end turn) true) before ∙ passes_on end turn (since_dcs before) ∙ a.told }

pub command_safe : (texts : Texts) (job : JobValue) (page : ℕ) (end : Bool) (turn : Option Format) (dcs : Dcs) (before : List elements.Element) → AfterText dcs before → SafeTo texts job page (AfterText dcs) (command (command_by end turn)) before
command_safe texts job page end turn dcs before a =
    frame_safe texts job page (AfterText dcs) (written_plain (command_by end turn) true) [] before (omega arith) (omega arith) (command_told end turn dcs before a)

abbrev pub no_text : List Due → Bool
no_text [] = true
no_text (One p ∷ due) = no_text due
no_text (Text p d f ∷ due) = false

-- What waits and ends with a command: whatever was heard, in the end it was asked.
abbrev pub Asks : List Due → List elements.Element → Type 0
Asks [] before = ⊥
Asks (Text n dcs from ∷ due) before = (no_text due ≡ true) × ((after : List elements.Element) → Asks due after)
Asks (One p ∷ []) before = (r : Reply) → reply_after before (elements_in p) r ≡ Asked
Asks (One p ∷ d ∷ due) before = NoCommand before (elements_in p) × Asks (d ∷ due) (pushed (elements_in p) before)

pub frame_asks : (f : List ℕ) (before : List elements.Element) → 1 ≤ length f → length f ≤ 256 → is_command (frame_of f) ≡ true → Asks (frame_reply f) before
frame_asks f before h k c =
    subst (λ (es : List elements.Element). NoCommand before es × ((r : Reply) → reply_after (pushed es before) (elements_in (Tells f)) r ≡ Asked)) (sym (signal_back 3 (omega arith))) (
      (refl, tt),
      λ r. subst (λ (es : List elements.Element). reply_after (elements.Signal 3 ∷ before) es r ≡ Asked) (sym (frame_back f h k))
          (ap (λ (t : Bool). reply_given t true (after_one (elements.Signal 3 ∷ before) (elements.Field 0 0 f) r)) (ap is_command (frame_ends f before) ∙ c)),
    )

is_asked : (end : Bool) (turn : Option Format) → is_command (frame_of (written_plain (command_by end turn) true)) ≡ true
is_asked true turn = refl
is_asked false (Some format) = refl
is_asked false None = refl

pub command_asks : (end : Bool) (turn : Option Format) (before : List elements.Element) → Asks (command (command_by end turn)) before
command_asks end turn before = frame_asks (written_plain (command_by end turn) true) before (omega arith) (omega arith) (is_asked end turn)

pub image_asks : (end : Bool) (turn : Option Format) (page : ℕ) (dcs : Dcs) (before : List elements.Element) → Asks (image (command_by end turn) page dcs) before
image_asks end turn page dcs before =
    (signal_asks_nothing (training_of dcs.rate false) before (code_fits dcs.rate false), (refl, λ after. command_asks end turn after))

-- the image of a page that the job has, where the DCS was told
pub page_at : (pages : List PageValue) (n : ℕ) → n < length pages → (page : PageValue) × (slice_get pages n ≡ Some page)
page_at [] n h = absurd (omega arith)
page_at (p ∷ pages) zero h = (p, refl)
page_at (p ∷ pages) (suc n) h = page_at pages n (omega arith)

-- what holds of each page holds of the page at a place
pub all_at : (P : PageValue → Type 0) (pages : List PageValue) (n : ℕ) (page : PageValue) → AllByRecursion P pages → slice_get pages n ≡ Some page → P page
all_at P [] n page a h = cc
all_at P (p ∷ pages) zero page a h = let e : p ≡ page = cc in subst P e a.0
all_at P (p ∷ pages) (suc n) page a h = all_at P pages n page a.1 h

pub page_is : (job : JobValue) (n : ℕ) (page : PageValue) → IsJob job → slice_get job.pages n ≡ Some page → IsPage page
page_is job n page is h = all_at IsPage job.pages n page (recursion_from_All IsPage job.pages is.are_pages) h

-- a text begins with an EOL, so it has an octet
begins_so : (more : List Bool) → bits_of [] ≡ end_of_line ++ more → ⊥
unfolding bits_of end_of_line
begins_so more h = cc

some_octet : (octets : List ℕ) (more : List Bool) → bits_of octets ≡ end_of_line ++ more → 0 < length octets
some_octet [] more h = absurd (begins_so more h)
some_octet (o ∷ octets) more h = omega arith

pub text_some : (texts : Texts) (page : PageValue) (coding : Coding) (least : ℕ) → IsPage page → 0 < length (texts.writes page coding least)
text_some texts page coding least is =
    let w : IsWrittenAs page coding least (texts.writes page coding least) = texts.are page coding least is in
    by (texts.writes page coding least) w.text w.writes w.padded
  where
    by : (octets : List ℕ) (text : List Bool) → WritesPage coding page.format.fine least page.rows text → IsPadded octets text → 0 < length octets
    by octets text (lines, rows, e) (zeros, few, p) =
        let rest : List Bool = tag_bits coding true ++ (lines ++ ends_of_line coding 5) in
        some_octet octets (rest ++ replicate zeros false) (p ∙ ap (λ (bits : List Bool). bits ++ replicate zeros false) e ∙ append_assoc end_of_line rest (replicate zeros false))

pub text_left : (texts : Texts) (job : JobValue) (n : ℕ) (dcs : Dcs) → IsJob job → n < length job.pages → 0 < length (text_at texts.writes job n dcs)
text_left texts job n dcs is h =
    let p = page_at job.pages n h in
    subst (λ (o : Option PageValue). 0 < length (text_if texts.writes dcs o)) (sym p.1) (text_some texts p.0 (coding_of dcs) (least_bits_of dcs) (page_is job n p.0 is p.1))

pub suc_one : (n : ℕ) → n + 1 ≡ suc n
suc_one n = omega arith

pub image_safe : (texts : Texts) (job : JobValue) (page : ℕ) (end : Bool) (turn : Option Format) (dcs : Dcs) (before : List elements.Element) → IsJob job → AfterText dcs before → page < length job.pages → IsFormatOf job page dcs →
    SafeTo texts job page (AfterText dcs) (image (command_by end turn) page dcs) before
image_safe texts job page end turn dcs before is a h f =
    signal_safe texts job page (AfterText dcs) (training_of dcs.rate false) (Text page dcs 0 ∷ command (command_by end turn)) before (code_fits dcs.rate false) (
      refl,
      record {
        later = [];
        n = a.n;
        told = subst (Told (elements.Signal (training_of dcs.rate false) ∷ before) (read_dcs dcs)) (suc_one (suc a.n)) (told_signal dcs.rate false before (read_dcs dcs) (suc a.n) a.told);
        signal = refl;
        no_end = refl;
        octets = ap (λ (t : Bool). if t then [] else image_octets before) (is_training_of dcs.rate false);
        left = text_left texts job page dcs is h;
        format_is = f;
      },
      λ after t. command_safe texts job page end turn dcs after t,
    )

-- one more part of the text
-- the image that is open after a training indicator
pub image_at : (before : List elements.Element) (code : ℕ) (later : List elements.Element) → pieces.since_indicator before ≡ Some (record { code = code; later = later }) →
    pieces.is_training code ≡ true → list_any (pieces.is_image_end (pieces.kind_of_training code)) later ≡ false →
    (i : pieces.Image) × (pieces.open_image before ≡ Some i) × (i.kind ≡ pieces.kind_of_training code)
image_at before code later h t n =
    let k : ℕ = pieces.kind_of_training code in
    let i : pieces.Image = record { kind = k; started = list_any (pieces.is_image_octets k) later; whole = list_all (pieces.is_image_part k) later } in (
      i,
      ap pieces.image_since h
          ∙ ap (λ (x : Bool). if not x || list_any (pieces.is_image_end k) later then None else Some i) t
          ∙ ap (λ (x : Bool). if x then None else Some i) n,
      refl,
    )

pub part_octets : (rate : Rate) (i : pieces.Image) (os : List ℕ) → i.kind ≡ signal_kind rate → octets_in_image (Some i) (kind_of rate) 6 os ≡ os
part_octets rate i os h = ap (λ (t : Bool). if t && true then os else []) (ap (nat_eq (kind_of rate)) h ∙ same_kind rate)

pub part_no_end : (rate : Rate) (os : List ℕ) → pieces.is_image_end (signal_kind rate) (elements.Field (kind_of rate) 6 os) ≡ false
part_no_end rate os = ap (λ (t : Bool). t && false) (same_kind rate)

pub text_goes_on : (texts : Texts) (job : JobValue) (page : ℕ) (dcs : Dcs) (from n : ℕ) (before : List elements.Element) → TextReady texts job page dcs from before → n < length (drop from (text_at texts.writes job page dcs)) →
    TextReady texts job page dcs (from + n) (elements.Field (kind_of dcs.rate) 6 (take n (drop from (text_at texts.writes job page dcs))) ∷ before)
text_goes_on texts job page dcs from n before t h =
    let text : List ℕ = text_at texts.writes job page dcs in
    let part : List ℕ = take n (drop from text) in
    let e : elements.Element = elements.Field (kind_of dcs.rate) 6 part in
    let g = image_at before (training_of dcs.rate false) t.later t.signal (is_training_of dcs.rate false) t.no_end in
    record {
      later = e ∷ t.later;
      n = t.n;
      told = told_part dcs.rate 6 part before (read_dcs dcs) (suc (suc t.n)) t.told;
      signal = ap (pieces.with_later e) t.signal;
      no_end = ap (λ (x : Bool). x || list_any (pieces.is_image_end (signal_kind dcs.rate)) t.later) (part_no_end dcs.rate part) ∙ t.no_end;
      octets = ap (λ (o : Option pieces.Image). image_octets before ++ octets_in_image o (kind_of dcs.rate) 6 part) g.1
          ∙ ap (λ (r : List ℕ). image_octets before ++ r) (part_octets dcs.rate g.0 part g.2)
          ∙ ap (λ (r : List ℕ). r ++ part) t.octets ∙ sym (take-add from n text);
      left = omega (arith, length-drop from text);
      format_is = t.format_is;
    }

-- the last part: the image is emitted
pub more_than_one : (n : ℕ) → nat_lt 1 (suc (suc n)) ≡ true
more_than_one n = grind (arith)

pub emits_with : (read : Dcs) (n : ℕ) (i : pieces.Image) (begun : List ℕ) (kind : ℕ) (os : List ℕ) → nat_eq kind i.kind ≡ true →
    emitted_with (Some (record { dcs = read; signals = suc (suc n) })) (Some i) begun kind 7 os ≡ Some (record { octets = begun ++ os; dcs = read })
emits_with read n i begun kind os h =
    ap (λ (x : Bool). if x && (nat_eq 7 7 && nat_lt 1 (suc (suc n))) then Some (record { octets = begun ++ os; dcs = read }) else None) h
    ∙ ap (λ (x : Bool). if x then Some (record { octets = begun ++ os; dcs = read }) else None) (more_than_one n)

pub emits_text : (texts : Texts) (job : JobValue) (page : ℕ) (dcs : Dcs) (from : ℕ) (before : List elements.Element) → TextReady texts job page dcs from before →
    emitted_at before (elements.Field (kind_of dcs.rate) 7 (drop from (text_at texts.writes job page dcs))) ≡ Some (record { octets = text_at texts.writes job page dcs; dcs = read_dcs dcs })
emits_text texts job page dcs from before t =
    let text : List ℕ = text_at texts.writes job page dcs in
    let read : Dcs = read_dcs dcs in
    let g = image_at before (training_of dcs.rate false) t.later t.signal (is_training_of dcs.rate false) t.no_end in
    let i : pieces.Image = g.0 in
    let same : nat_eq (kind_of dcs.rate) i.kind ≡ true = ap (nat_eq (kind_of dcs.rate)) g.2 ∙ same_kind dcs.rate in
    ap (λ (s : Option SinceDcs). emitted_with s (pieces.open_image before) (image_octets before) (kind_of dcs.rate) 7 (drop from text)) t.told
    ∙ ap (λ (o : Option pieces.Image). emitted_with (Some (record { dcs = read; signals = suc (suc t.n) })) o (image_octets before) (kind_of dcs.rate) 7 (drop from text)) g.1
    ∙ emits_with read t.n i (image_octets before) (kind_of dcs.rate) (drop from text) same
    ∙ ap (λ (os : List ℕ). Some (record { octets = os ++ drop from text; dcs = read })) t.octets
    ∙ ap (λ (os : List ℕ). Some (record { octets = os; dcs = read })) (take-append-drop from text)

width_is : (width : Width) → IsWidth (elements_of width)
width_is W1728 = inl refl
width_is W2048 = inr (inl refl)
width_is W2432 = inr (inr refl)

-- the image means the page
pub means_page : (texts : Texts) (job : JobValue) (n : ℕ) (dcs : Dcs) → IsJob job → n < length job.pages → IsFormatOf job n dcs →
    IsPageOf job n (record { octets = text_at texts.writes job n dcs; dcs = read_dcs dcs })
means_page texts job n dcs is h f =
    let p = page_at job.pages n h in
    let page : PageValue = p.0 in
    let coding : Coding = coding_of dcs in
    let least : ℕ = least_bits_of dcs in
    let octets : List ℕ = texts.writes page coding least in
    let is_page : IsPage page = page_is job n page is p.1 in
    let w : IsWrittenAs page coding least octets = texts.are page coding least is_page in
    let same : page.format ≡ format_of dcs = f page.format (format_at job.pages n page p.1) in
    let means : MeansRows (elements_of page.format.width) coding octets page.rows =
    written_pages_mean (elements_of page.format.width) coding page.format.fine least page.rows w.text octets (width_is page.format.width) is_page w.writes w.padded in
    record {
      page = page;
      is_page = p.1;
      means = subst (λ (os : List ℕ). MeansPage (format_of dcs) coding os page) (sym (ap (text_if texts.writes dcs) p.1))
          (same, subst (λ (format : Format). MeansRows (elements_of format.width) coding octets page.rows) same means);
    }
