-- Lines that are told one after another, by what each begins with.
use Rattle.std.proofs.Common.{◌≡◌, ◌&&◌, ◌+◌, ◌-◌, ◌%◌, ◌^◌, ◌<◌, ◌≤◌, ℕ, zero, suc, min, Bool, true, false, List, [], ◌∷◌, ◌++◌, Option, Some, None, Result, Ok, Err, IfOk, OnOk, nat_lt, get_or, length, drop, take, map, reverse, replicate, codes, decimal, refl, sym, ◌∙◌, ap, ap₂, subst, arith, append-nil, append_assoc, length-append, if◌then◌else◌}
use Rattle.std.proofs.Math.Seq.{drop-append_seam}
use Rattle.std.proofs.lemmas.List.{drop-drop, drop_all, drop_more, map-append, reverse-append, take_more}
use Rattle.fax_frames.specs.declared.dcs.Dcs.{Dcs}
use Rattle.fax_frames.specs.declared.dis.Dis.{Dis as Offer}
use Rattle.fax_frames.specs.declared.frame.Frame.{Frame}
use Rattle.fax_frames.specs.declared.frame.Frame.TheVariants.{Dis}
use Rattle.fax_ifp.specs.Elements.{Slot}
use Rattle.fax_ifp.specs.ImageOctets.{octets_since}
use Rattle.fax_ifp.specs.Packets.{Packet, Indicator, Message, packet_of}
use Rattle.fax_ifp.specs.Seen.{head_of}
use Rattle.fax_ifp.specs.declared.fault.IfpFault.{IfpFault}
use Rattle.fax_udptl.specs.declared.fault.UdptlFault.{UdptlFault}
use Rattle.fax_udptl.specs.Datagrams.{DatagramValue, datagram_of}
use Rattle.fax_udptl.specs.Slots.{newest_slots, slots}
use Rattle.fax_udptl.specs.Taking.{DecidedValue, Decides, IsAfter, Takes, slots_in}
use Rattle.fax_udptl.specs.Reading.{texts}
use Rattle.std.specs.Borrow.{Bor}
use Rattle.fax_explain.specs.declared.frame_ends.FrameEnds.{FrameEnds}
use Rattle.fax_explain.specs.FrameEnds.{AreEnds, frames_in}
use Rattle.fax_ifp.specs.Pieces.{Piece, Gap, pieces}
use Rattle.fax_ifp.specs.declared.piece.Piece as code_pieces
use Rattle.fax_ifp.specs.Shown.{piece_of, pieces_shown}
use Rattle.fax_ifp.specs.Tracked.{TrackState, IsTracked, Tracks, Gives, TracksRun, GivesRun, lost_slots}
use Rattle.fax_descriptions.specs.declared.lane.Lane.{Lane}
use Rattle.fax_descriptions.specs.Tales.{last_with}
use Rattle.fax_descriptions.specs.Tellings.{Description}
use Rattle.fax_descriptions.specs.Words.{frame_text, numbers_text, wholeness_text}
use Rattle.fax_explain.specs.declared.listener.Listener.{Listener}
use Rattle.fax_explain.specs.declared.mark.Signal.{Signal}
use Rattle.fax_explain.specs.declared.mark.Mark.{Mark}
use Rattle.fax_explain.specs.declared.mark.Signal.TheVariants.{Page}
use Rattle.fax_explain.specs.Listening.{Ear, StartsWith, check_text, end_text, first_mark, image_text, is_same, later_marks, marked_end, marks_after, marks_left, outside_text, signal_text, strange_text, verdict_name, words_after}
use Rattle.fax_explain.specs.Openings.{Opening, back_openings, begins, datagram_openings, decided_openings, frame_texts, head_openings, late_openings, line_if, lost_openings, marks_past, octets_counted, packet_openings, packets_openings, piece_openings, pieces_after, pieces_openings, slots_openings, tail_openings, tone_at, tone_openings, unread_opening}
use Rattle.fax_explain.specs.Heard.{AddsLine, Adds, AreOpened, BeginsAsOneOf, EndsIf, HasHeard, Hears, HearsOn, HearsThese, IsEar, IsHearing, KeepsEar, Stays, TellsComing, TellsDatagram, arrived_with}

-- these words, in this lane
abbrev pub line_of : Lane → List ℕ → Description
line_of lane words = record { lane = lane; words = words }

pub opened_both : (ear : Ear) (xs ys : List Opening) (a b : List Description) → AreOpened ear xs a → AreOpened ear ys b → AreOpened ear (xs ++ ys) (a ++ b)
opened_both ear [] ys [] b p q = q
opened_both ear [] ys (t ∷ a) b p q = absurd p
opened_both ear (x ∷ xs) ys [] b p q = absurd p
opened_both ear (x ∷ xs) ys (t ∷ a) b p q = (p.0, opened_both ear xs ys a b p.1 q)

-- lines after lines
pub adds_both : (ear : Ear) (xs ys : List Opening) (old mid new : List Description) → Adds ear xs old mid → Adds ear ys mid new → Adds ear (xs ++ ys) old new
adds_both ear xs ys old mid new p q = record {
  own = p.own ++ q.own;
  opened = opened_both ear xs ys p.own q.own p.opened q.opened;
  is = q.is ∙ ap (λ (t : List Description). t ++ q.own) p.is ∙ append_assoc old p.own q.own;
}

pub adds_none : (ear : Ear) (old new : List Description) → new ≡ old → Adds ear [] old new
adds_none ear old new same = record { own = []; opened = tt; is = same ∙ sym (append-nil old) }

-- what ends after nothing more, and what goes on
ends_both : (a : Bool) (x y last : List ℕ) → EndsIf a [] x → y ≡ last → EndsIf a last (x ++ y)
ends_both true x y last p q = ap₂ (λ (l m : List ℕ). l ++ m) p q
ends_both false x y last p q = tt

-- one line, whose words begin as the opening says
pub adds_line : (ear : Ear) (opening : Opening) (words : List ℕ) (l : Listener) (old new : List Description) → IsEar ear l → BeginsAsOneOf [] opening words → AddsLine l words old new
    → Adds ear (opening ∷ []) old new
adds_line ear opening words l old new h b line =
    let more : List ℕ = outside_text l.is_outside in
    let telling : Description = record { lane = l.lane; words = words ++ more } in
    record {
      own = telling ∷ [];
      opened = (
        (
          h.lane,
          record {
            text = b.text;
            is_one = b.is_one;
            more = b.more ++ more;
            words_are = ap (λ (w : List ℕ). w ++ more) b.words_are ∙ append_assoc b.text b.more more;
            ended = ends_both opening.ends b.more more (outside_text ear.is_outside) b.ended (ap outside_text h.is_outside);
          },
        ),
        tt,
      );
      is = line.is;
    }

-- the last of the lines goes on
goes_on : (more : List ℕ) (old : List Description) (t : Description) (own : List Description) → last_with more (old ++ t ∷ own) ≡ old ++ last_with more (t ∷ own)
goes_on more [] t own = refl
goes_on more (x ∷ []) t own = refl
goes_on more (x ∷ y ∷ old) t own = ap (λ (l : List Description). x ∷ l) (goes_on more (y ∷ old) t own)

-- ---- what is heard

-- a listener that stays in these hears as before
pub same_ear : (ear : Ear) (a b : Listener) → b.lane ≡ a.lane → b.is_outside ≡ a.is_outside → b.usual ≡ a.usual → IsEar ear a → IsEar ear b
same_ear ear a b lane outside usual h = record { lane = lane ∙ h.lane; is_outside = outside ∙ h.is_outside; usual = usual ∙ h.usual }

-- and has heard what it had
pub same_hearing : (arrived : List DatagramValue) (a b : Listener) → b.receiver ≡ a.receiver → b.signals ≡ a.signals → b.image.octets ≡ a.image.octets → IsHearing arrived a → IsHearing arrived b
same_hearing arrived a b receiver signals octets h = record {
  after = subst (λ r. IsAfter arrived r) (sym receiver) h.after;
  heard = record { tracked = subst (λ s. IsTracked (newest_slots arrived) s) (sym signals) h.heard.tracked; counted = octets ∙ h.heard.counted };
}

-- one way in which a listener hears
pub ear_of : Listener → Ear
ear_of l = record { lane = l.lane; is_outside = l.is_outside; usual = l.usual }

pub has_ear : (l : Listener) → IsEar (ear_of l) l
unfolding ear_of
has_ear l = record { lane = refl; is_outside = refl; usual = refl }

-- it goes on with its lane, and its usual mark
pub keeps_lane : (old new : Listener) (arrived : List DatagramValue) → KeepsEar old new → IsHearing arrived old → (new.lane ≡ old.lane) × (new.usual ≡ old.usual)
unfolding ear_of
keeps_lane old new arrived stays h = let is = stays (ear_of old) (has_ear old) arrived h in (is.lane, is.usual)

-- a listener to which the marks of another one were given hears as before
abbrev pub with_marks : Listener → Listener → Listener
with_marks l other = record l { marks = other.marks; taken = other.taken }

ear_marked : (ear : Ear) (old mid other : Listener) → mid ≡ with_marks old other → IsEar ear old → IsEar ear mid
ear_marked ear old mid other is h = same_ear ear old mid (ap (λ (l : Listener). l.lane) is) (ap (λ (l : Listener). l.is_outside) is) (ap (λ (l : Listener). l.usual) is) h

pub marked_hearing : (arrived : List DatagramValue) (old mid other : Listener) → mid ≡ with_marks old other → IsHearing arrived old → IsHearing arrived mid
marked_hearing arrived old mid other is h =
    same_hearing arrived old mid (ap (λ (l : Listener). l.receiver) is) (ap (λ (l : Listener). l.signals) is) (ap (λ (l : Listener). l.image.octets) is) h

pub told_marked : (old mid other : Listener) (r : Result DatagramValue UdptlFault) (marks : List Mark) (before told : List Description) → mid ≡ with_marks old other → marks_left other ≡ marks
    → TellsComing mid (marks_left mid) r before told → TellsComing old marks r before told
told_marked old mid other r marks before told is kept comes = λ ear is_ear arrived h.
    subst (λ (ms : List Mark). TellsDatagram ear ms arrived r before told) (ap marks_left is ∙ kept) (comes ear (ear_marked ear old mid other is is_ear) arrived (marked_hearing arrived old mid other is h))

pub keeps_marked : (old mid other new : Listener) → mid ≡ with_marks old other → KeepsEar mid new → KeepsEar old new
keeps_marked old mid other new is stays = λ ear is_ear arrived h. stays ear (ear_marked ear old mid other is is_ear) arrived (marked_hearing arrived old mid other is h)

pub hears_both : (ear : Ear) (xs ys : List Opening) (a b c : Listener) (old mid new : List Description) → Hears ear xs a b old mid → Hears ear ys b c mid new → Hears ear (xs ++ ys) a c old new
hears_both ear xs ys a b c old mid new p q = record {
  adds = adds_both ear xs ys old mid new p.adds q.adds;
  is_ear = q.is_ear;
  receiver = q.receiver ∙ p.receiver;
}

-- nothing is told
pub hears_none : (ear : Ear) (a b : Listener) (old new : List Description) → IsEar ear b → b.receiver ≡ a.receiver → new ≡ old → Hears ear [] a b old new
hears_none ear a b old new is_ear receiver same = record { adds = adds_none ear old new same; is_ear = is_ear; receiver = receiver }

-- a line
pub hears_told : (ear : Ear) (opening : Opening) (words : List ℕ) (a l b : Listener) (old new : List Description) → IsEar ear l → IsEar ear b → b.receiver ≡ a.receiver
    → BeginsAsOneOf [] opening words → AddsLine l words old new → Hears ear (opening ∷ []) a b old new
hears_told ear opening words a l b old new at is_ear receiver begun line = record { adds = adds_line ear opening words l old new at begun line; is_ear = is_ear; receiver = receiver }

-- words that go on from a text, and words that are one
pub begins_with : (text words more : List ℕ) → words ≡ text ++ more → BeginsAsOneOf [] (begins text) words
begins_with text words more is = record { text = text; is_one = (0, omega arith, refl); more = more; words_are = is; ended = tt }

pub begins_as : (text words : List ℕ) → words ≡ text → BeginsAsOneOf [] (begins text) words
begins_as text words is = begins_with text words [] (is ∙ sym (append-nil text))

abbrev pub one_of : List (List ℕ) → Opening
one_of texts = record { texts = texts; ends = true }

pub says_first : (text : List ℕ) (others : List (List ℕ)) (words : List ℕ) → words ≡ text → BeginsAsOneOf [] (one_of (text ∷ others)) words
says_first text others words is = record { text = text; is_one = (0, omega arith, refl); more = []; words_are = is ∙ sym (append-nil text); ended = refl }

pub says_later : (text : List ℕ) (others : List (List ℕ)) (words : List ℕ) → BeginsAsOneOf [] (one_of others) words → BeginsAsOneOf [] (one_of (text ∷ others)) words
says_later text others words b = record { text = b.text; is_one = (suc b.is_one.0, omega (arith, b.is_one.1), b.is_one.2); more = b.more; words_are = b.words_are; ended = b.ended }

-- what follows where a call was answered
pub ok_then : {T E : Type 0} {P Q : Type 0} (r : Result T E) → OnOk r P → (P → Q) → OnOk r Q
ok_then (Ok x) p f = f p
ok_then (Err e) p f = tt

pub ok_both : {T E : Type 0} {P Q R : Type 0} (r : Result T E) → OnOk r P → OnOk r Q → (P → Q → R) → OnOk r R
ok_both (Ok x) p q f = f p q
ok_both (Err e) p q f = tt

-- ---- lines of a direction

-- a line goes on
pub line_on : (lane : Lane) (text more : List ℕ) (old mid new : List Description) → mid ≡ old ++ line_of lane text ∷ [] → new ≡ last_with more mid → new ≡ old ++ line_of lane (text ++ more) ∷ []
line_on lane text more old mid new told is = is ∙ ap (last_with more) told ∙ goes_on more old (line_of lane text) []

-- and one that says where it is
pub line_outside : (l : Listener) (text : List ℕ) (old mid new : List Description) → l.is_outside ≡ true → mid ≡ old ++ line_of l.lane text ∷ [] → new ≡ last_with (codes ", passed over: no call is on") mid
    → AddsLine l text old new
line_outside l text old mid new is told on = record {
  is = line_on l.lane text (codes ", passed over: no call is on") old mid new told on
      ∙ ap (λ (o : Bool). old ++ line_of l.lane (text ++ outside_text o) ∷ []) (sym is);
}

-- a training check
pub check_given : (judged is_good : Bool) (words rest : List ℕ) → judged ≡ false → words ≡ codes "training check, " ++ rest → StartsWith (check_text judged is_good) words
check_given true is_good words rest other is = absurd (cc)
check_given false is_good words rest other is = (rest, is)

pub check_judged : (judged is_good : Bool) (verdict words rest : List ℕ) → judged ≡ true → verdict ≡ verdict_name is_good
    → words ≡ codes "training check " ++ (verdict ++ (codes ": " ++ rest)) → StartsWith (check_text judged is_good) words
check_judged false is_good verdict words rest so said is = absurd (cc)
check_judged true is_good verdict words rest so said is = (
  rest,
  is ∙ ap (λ (v : List ℕ). codes "training check " ++ (v ++ (codes ": " ++ rest))) said
      ∙ ap (λ (l : List ℕ). codes "training check " ++ l) (sym (append_assoc (verdict_name is_good) (codes ": ") rest)),
)

-- an image
image_read : (octets : ℕ) (whole : Bool) (missing meaning words : List ℕ)
    → words ≡ codes "image of " ++ (decimal octets ++ (codes " octets, " ++ (wholeness_text whole missing ++ (codes ": " ++ meaning))))
    → StartsWith (image_text octets whole) words
image_read octets true missing meaning words is =
    (meaning, is ∙ ap (λ (l : List ℕ). codes "image of " ++ l) (sym (append_assoc (decimal octets) (codes " octets, whole: ") meaning)))
image_read octets false [] meaning words is =
    let rest : List ℕ = codes "something else stands in it: " ++ meaning in
    (rest, is ∙ ap (λ (l : List ℕ). codes "image of " ++ l) (sym (append_assoc (decimal octets) (codes " octets, not whole, ") rest)))
image_read octets false (m ∷ missing) meaning words is =
    let rest : List ℕ = codes "missing" ++ ((m ∷ missing) ++ (codes ": " ++ meaning)) in
    (rest, is ∙ ap (λ (l : List ℕ). codes "image of " ++ l) (sym (append_assoc (decimal octets) (codes " octets, not whole, ") rest)))

pub image_heard : (n octets : ℕ) (whole : Bool) (wholeness missing meaning words : List ℕ) → n ≡ octets → wholeness ≡ wholeness_text whole missing
    → words ≡ codes "image of " ++ (decimal n ++ (codes " octets, " ++ (wholeness ++ (codes ": " ++ meaning))))
    → StartsWith (image_text octets whole) words
image_heard n octets whole wholeness missing meaning words count said is =
    image_read octets whole missing meaning words
    (is ∙ ap (λ (m : ℕ). codes "image of " ++ (decimal m ++ (codes " octets, " ++ (wholeness ++ (codes ": " ++ meaning))))) count
    ∙ ap (λ (w : List ℕ). codes "image of " ++ (decimal octets ++ (codes " octets, " ++ (w ++ (codes ": " ++ meaning))))) said)

-- the end of a signal is told as one
pub end_heard : (text words : List ℕ) → StartsWith text words → BeginsAsOneOf [] (begins text) words
end_heard text words s = begins_with text words s.0 s.1

-- an image that a mark says
pub page_marked : (signal : Signal) (dcs : Dcs) (is_good : Bool) (lane : Lane) (is_outside : Bool) (n octets : ℕ) (whole : Bool) (words : List ℕ) → signal ≡ Page dcs → n ≡ octets
    → StartsWith (image_text n whole) words → StartsWith (end_text signal is_good lane is_outside octets whole) words
page_marked signal dcs is_good lane is_outside n octets whole words is count s =
    subst (λ (g : Signal). StartsWith (end_text g is_good lane is_outside octets whole) words) (sym is)
    (subst (λ (m : ℕ). StartsWith (image_text m whole) words) count s)

-- a mark, however it is heard
pub marked_ear : (ear : Ear) (old : Listener) (whole : Bool) (words : List ℕ) → IsEar ear old
    → StartsWith (marked_end (first_mark old.usual (marks_left old)) old.lane old.is_outside old.image.octets whole) words
    → StartsWith (marked_end (first_mark ear.usual (marks_left old)) ear.lane ear.is_outside old.image.octets whole) words
marked_ear ear old whole words h s =
    subst (λ (usual : Mark). StartsWith (marked_end (first_mark usual (marks_left old)) ear.lane ear.is_outside old.image.octets whole) words) h.usual
    (subst (λ (lane : Lane). StartsWith (marked_end (first_mark old.usual (marks_left old)) lane ear.is_outside old.image.octets whole) words) h.lane
    (subst (λ (o : Bool). StartsWith (marked_end (first_mark old.usual (marks_left old)) old.lane o old.image.octets whole) words) h.is_outside s))

-- words that go on
pub begins_more : (text words more new : List ℕ) → words ≡ text → new ≡ words ++ more → BeginsAsOneOf [] (begins text) new
begins_more text words more new is on = begins_with text new more (on ∙ ap (λ (w : List ℕ). w ++ more) is)

-- a frame
pub frame_heard : (last : Option Offer) (octets why : List ℕ) (frame : Option Frame) (words : List ℕ) → words ≡ words_after last octets frame ++ why
    → BeginsAsOneOf [] (one_of (frame_texts octets why frame)) words
frame_heard last octets why None words is = says_first _ _ words is
frame_heard last octets why (Some (Dis dis)) words is = dis_heard (is_same last dis) octets why words is
  where
    dis_heard : (same : Bool) (octets why words : List ℕ) → words ≡ (if same then codes "DIS as before" else frame_text octets) ++ why
        → BeginsAsOneOf [] (one_of ((frame_text octets ++ why) ∷ (codes "DIS as before" ++ why) ∷ [])) words
    dis_heard true octets why words is = says_later _ _ words (says_first _ _ words is)
    dis_heard false octets why words is = says_first _ _ words is
frame_heard last octets why (Some frame) words is = says_first _ _ words is

-- the tone of a packet
pub head_told : (number : ℕ) (content : Packet) (read : Result Packet IfpFault) → read ≡ Ok content → head_openings number read ≡ tone_openings (tone_at (head_of content))
head_told number (Indicator code) read is = ap (head_openings number) is
head_told number (Message kind fields) read is = ap (head_openings number) is

-- datagrams that were brought back
pub back_line : (from number : ℕ) → (from ≡ number → ⊥)
    → back_openings from number ≡ begins (codes "lost: " ++ (numbers_text from ((number + (65536 - from)) % 65536) ++ (codes ", brought back by " ++ decimal number))) ∷ []
back_line from number other = grind (arith, other)

-- ---- octets that are counted

pub gaps_uncounted : (n : ℕ) (before : List Piece) → octets_since (replicate n Gap ++ before) ≡ octets_since before
gaps_uncounted zero before = refl
gaps_uncounted (suc n) before = gaps_uncounted n before

pub replicate_more : (n : ℕ) → replicate n Gap ++ Gap ∷ [] ≡ Gap ∷ replicate n Gap
replicate_more zero = refl
replicate_more (suc n) = ap (λ (s : List Piece). Gap ∷ s) (replicate_more n)

gaps_reversed : (n : ℕ) → reverse (replicate n Gap) ≡ replicate n Gap
gaps_reversed zero = refl
gaps_reversed (suc n) = reverse-append (Gap ∷ []) (replicate n Gap) ∙ ap (λ (s : List Piece). s ++ Gap ∷ []) (gaps_reversed n) ∙ replicate_more n

-- slots that are lost leave what is counted
pub lost_counted : (count : ℕ) (slots : List Slot) → pieces (lost_slots count ++ slots) ≡ pieces slots ++ replicate count Gap
    → octets_counted (reverse (pieces (lost_slots count ++ slots))) ≡ octets_counted (reverse (pieces slots))
lost_counted count slots is =
    ap (λ (ps : List Piece). octets_counted (reverse ps)) is
    ∙ ap octets_counted (reverse-append (pieces slots) (replicate count Gap) ∙ ap (λ (g : List Piece). g ++ reverse (pieces slots)) (gaps_reversed count))
    ∙ ap (λ (os : List ℕ). min (length os) (2 ^ 64 - 1)) (gaps_uncounted count (reverse (pieces slots)))

pub lost_heard : (count : ℕ) (slots : List Slot) (signals : TrackState) (old new : Listener) → TracksRun (lost_slots count) old.signals signals → GivesRun (lost_slots count) old.signals (replicate count Gap)
    → new.signals ≡ signals → new.image.octets ≡ old.image.octets → HasHeard slots old → HasHeard (lost_slots count ++ slots) new
lost_heard count slots signals old new tracks gives is octets h = record {
  tracked = subst (λ (t : TrackState). IsTracked (lost_slots count ++ slots) t) (sym is) (tracks slots h.tracked);
  counted = octets ∙ h.counted ∙ sym (lost_counted count slots (gives slots h.tracked));
}

-- ---- lists of pieces, one more

pub pieces_more : (ear : Ear) (marks : List Mark) (before ps : List Piece) (p : Piece)
    → pieces_openings ear marks before (ps ++ p ∷ []) ≡ pieces_openings ear marks before ps ++ piece_openings ear (first_mark ear.usual (later_marks ps marks)) (reverse ps ++ before) p
pieces_more ear marks before [] p = append-nil (piece_openings ear (first_mark ear.usual marks) before p)
pieces_more ear marks before (q ∷ ps) p =
    let first : List Opening = piece_openings ear (first_mark ear.usual marks) before q in
    let after : List Mark = marks_after q marks in
    let mark : Mark = first_mark ear.usual (later_marks ps after) in
    ap (λ (os : List Opening). first ++ os)
    (pieces_more ear after (q ∷ before) ps p ∙ ap (λ (b : List Piece). pieces_openings ear after (q ∷ before) ps ++ piece_openings ear mark b p)
    (sym (append_assoc (reverse ps) (q ∷ []) before) ∙ ap (λ (b : List Piece). b ++ before) (sym (reverse-append (q ∷ []) ps))))
    ∙ sym (append_assoc first (pieces_openings ear after (q ∷ before) ps) (piece_openings ear mark (reverse (q ∷ ps) ++ before) p))

-- and the marks that are left
pub later_more : (ps : List Piece) (p : Piece) (marks : List Mark) → later_marks (ps ++ p ∷ []) marks ≡ marks_after p (later_marks ps marks)
later_more [] p marks = refl
later_more (q ∷ ps) p marks = later_more ps p (marks_after q marks)

-- those that are left after packets
unfoldable pub packets_past : (before : List Slot) → List (List ℕ) → List Mark → List Mark
packets_past before [] marks = marks
packets_past before (packet ∷ packets) marks = packets_past (Some packet ∷ before) packets (marks_past before packet marks)

pub with_one : (before : List Slot) (q : List ℕ) (some : List Slot) → reverse some ++ Some q ∷ before ≡ reverse (Some q ∷ some) ++ before
with_one before q some = sym (append_assoc (reverse some) (Some q ∷ []) before) ∙ ap (λ (b : List Slot). b ++ before) (sym (reverse-append (Some q ∷ []) some))

pub past_more : (before : List Slot) (ps : List (List ℕ)) (p : List ℕ) (marks : List Mark)
    → packets_past before (ps ++ p ∷ []) marks ≡ marks_past (reverse (map (λ (x : List ℕ). Some x) ps) ++ before) p (packets_past before ps marks)
unfolding packets_past
past_more before [] p marks = refl
past_more before (q ∷ ps) p marks =
    past_more (Some q ∷ before) ps p (marks_past before q marks)
    ∙ ap (λ (b : List Slot). marks_past b p (packets_past (Some q ∷ before) ps (marks_past before q marks))) (with_one before q (map (λ (x : List ℕ). Some x) ps))

pub packets_more : (ear : Ear) (marks : List Mark) (before : List Slot) (number : ℕ) (ps : List (List ℕ)) (p : List ℕ)
    → packets_openings ear marks before number (ps ++ p ∷ [])
    ≡ packets_openings ear marks before number ps
    ++ packet_openings ear (packets_past before ps marks) (reverse (map (λ (x : List ℕ). Some x) ps) ++ before) ((number + length ps) % 65536) p
unfolding packets_past
packets_more ear marks before number [] p =
    append-nil (packet_openings ear marks before (number % 65536) p) ∙ ap (λ (n : ℕ). packet_openings ear marks before (n % 65536) p) (omega arith)
packets_more ear marks before number (q ∷ ps) p =
    let front : List Opening = packet_openings ear marks before (number % 65536) q in
    let some : List Slot = map (λ (x : List ℕ). Some x) ps in
    let after : List Mark = marks_past before q marks in
    let past : List Mark = packets_past (Some q ∷ before) ps after in
    let rest : List Opening = packets_openings ear after (Some q ∷ before) (number + 1) ps in
    ap (λ (os : List Opening). front ++ os)
    (packets_more ear after (Some q ∷ before) (number + 1) ps p
    ∙ ap (λ (n : ℕ). rest ++ packet_openings ear past (reverse some ++ Some q ∷ before) (n % 65536) p) (let e : (number + 1) + length ps ≡ number + length (q ∷ ps) = grind (arith) in e)
    ∙ ap (λ (b : List Slot). rest ++ packet_openings ear past b ((number + length (q ∷ ps)) % 65536) p) (with_one before q some))
    ∙ sym (append_assoc front rest (packet_openings ear past (reverse (map (λ (x : List ℕ). Some x) (q ∷ ps)) ++ before) ((number + length (q ∷ ps)) % 65536) p))

-- what a packet gives, by its pieces
pub given_is : (slots : List Slot) (packet : List ℕ) (given : List Piece) → pieces (Some packet ∷ slots) ≡ pieces slots ++ given → pieces_after slots packet ≡ given
given_is slots packet given is = ap (λ (ps : List Piece). drop (length (pieces slots)) ps) is ∙ drop-append_seam (pieces slots) given

pub packet_told : (ear : Ear) (marks : List Mark) (slots : List Slot) (number : ℕ) (packet : List ℕ) (given : List Piece) → pieces (Some packet ∷ slots) ≡ pieces slots ++ given
    → packet_openings ear marks slots number packet
    ≡ head_openings number (packet_of packet) ++ (pieces_openings ear marks (reverse (pieces slots)) given ++ tail_openings (packet_of packet) given)
packet_told ear marks slots number packet given is =
    ap (λ (g : List Piece). head_openings number (packet_of packet) ++ (pieces_openings ear marks (reverse (pieces slots)) g ++ tail_openings (packet_of packet) g))
    (given_is slots packet given is)

-- and so the marks that are left after it
pub packet_past : (slots : List Slot) (packet : List ℕ) (given : List Piece) (signals : TrackState) (old new marks : List Mark) → IsTracked slots signals → Gives (Some packet) signals given
    → marks ≡ old → new ≡ later_marks given marks → new ≡ marks_past slots packet old
packet_past slots packet given signals old new marks tracked gives same is =
    is ∙ ap₂ (λ (g : List Piece) (m : List Mark). later_marks g m) (sym (given_is slots packet given (gives slots tracked))) same

-- what holds whatever a call answers
pub always : {T E : Type 0} {P : Type 0} (r : Result T E) → P → OnOk r P
always (Ok done) p = p
always (Err fault) p = tt

pub shown_more : (ps : List code_pieces.Piece) (i : ℕ) (p : code_pieces.Piece) → i < length ps → p ≡ get_or ps i p → pieces_shown (take (i + 1) ps) ≡ pieces_shown (take i ps) ++ piece_of p ∷ []
shown_more ps i p h e =
    ap pieces_shown (take_more ps i p h ∙ ap (λ (x : code_pieces.Piece). take i ps ++ x ∷ []) (sym e)) ∙ map-append piece_of (take i ps) (p ∷ [])

-- one piece more
pub pieces_told : (ear : Ear) (marks : List Mark) (before : List Piece) (ps : List code_pieces.Piece) (i : ℕ) (p : code_pieces.Piece) → i < length ps → p ≡ get_or ps i p
    → pieces_openings ear marks before (pieces_shown (take (i + 1) ps))
    ≡ pieces_openings ear marks before (pieces_shown (take i ps))
    ++ piece_openings ear (first_mark ear.usual (later_marks (pieces_shown (take i ps)) marks)) (reverse (pieces_shown (take i ps)) ++ before) (piece_of p)
pieces_told ear marks before ps i p h e = ap (pieces_openings ear marks before) (shown_more ps i p h e) ∙ pieces_more ear marks before (pieces_shown (take i ps)) (piece_of p)

pub pieces_marked : (ps : List code_pieces.Piece) (i : ℕ) (p : code_pieces.Piece) (marks : List Mark) → i < length ps → p ≡ get_or ps i p
    → later_marks (pieces_shown (take (i + 1) ps)) marks ≡ marks_after (piece_of p) (later_marks (pieces_shown (take i ps)) marks)
pieces_marked ps i p marks h e = ap (λ (g : List Piece). later_marks g marks) (shown_more ps i p h e) ∙ later_more (pieces_shown (take i ps)) (piece_of p) marks

pub pieces_counted : (before : List Piece) (ps : List code_pieces.Piece) (i : ℕ) (p : code_pieces.Piece) → i < length ps → p ≡ get_or ps i p
    → octets_counted (reverse (pieces_shown (take (i + 1) ps)) ++ before) ≡ octets_counted (piece_of p ∷ (reverse (pieces_shown (take i ps)) ++ before))
pieces_counted before ps i p h e =
    ap (λ (x : List Piece). octets_counted (reverse x ++ before)) (shown_more ps i p h e)
    ∙ ap (λ (x : List Piece). octets_counted (x ++ before)) (reverse-append (pieces_shown (take i ps)) (piece_of p ∷ []))

-- what a call hands out, and what follows from that
pub each_ok : {T E : Type 0} {P Q : T → Type 0} (r : Result T E) → IfOk r P → ((x : T) → P x → Q x) → IfOk r Q
each_ok (Ok x) p f = f x p
each_ok (Err fault) p f = tt

-- the same lines, told from a listener that has heard the same
pub hears_from : (ear : Ear) (xs : List Opening) (a m b : Listener) (old new : List Description) → m.receiver ≡ a.receiver
    → Hears ear xs m b old new → Hears ear xs a b old new
hears_from ear xs a m b old new receiver h = record { adds = h.adds; is_ear = h.is_ear; receiver = h.receiver ∙ receiver }

-- ---- a packet

abbrev pub tail_lines : (lacking bad : ℕ) → List Opening
tail_lines lacking bad =
    line_if (nat_lt 0 lacking) (begins (codes "a frame in which something is missing, passed over"))
    ++ line_if (nat_lt 0 bad) (begins (codes "a frame with a wrong check sequence, passed over"))

nothing_less : (n : ℕ) → 0 - n ≡ 0
nothing_less n = omega arith

pub tail_told : (read : Result Packet IfpFault) (ends : FrameEnds) (given : List Piece) (lacking : ℕ) → AreEnds read ends → lacking ≡ ends.good - frames_in given
    → tail_openings read given ≡ tail_lines lacking ends.bad
tail_told (Ok packet) ends given lacking are is =
    sym (ap₂ tail_lines (is ∙ ap (λ (n : ℕ). n - frames_in given) are.0) are.1)
tail_told (Err fault) ends given lacking are is =
    sym (ap₂ tail_lines (is ∙ ap (λ (n : ℕ). n - frames_in given) are.0 ∙ nothing_less (frames_in given)) are.1)

-- what a packet brings is told: before its pieces, its pieces, and after them
pub packet_heard : (ear : Ear) (marks : List Mark) (slots : List Slot) (number : ℕ) (packet : List ℕ) (given : List Piece) (ends : FrameEnds) (lacking : ℕ) (a b m c : Listener)
    (t u v w : List Description) → Hears ear (head_openings number (packet_of packet)) a b t u → Stays a b → HasHeard slots a → Gives (Some packet) b.signals given
    → m.receiver ≡ b.receiver → ((before : List Piece) → b.image.octets ≡ octets_counted before → Hears ear (pieces_openings ear marks before given) m c u v)
    → AreEnds (packet_of packet) ends → lacking ≡ ends.good - frames_in given → HearsThese (tail_lines lacking ends.bad) c c v w
    → Hears ear (packet_openings ear marks slots number packet) a c t w
packet_heard ear marks slots number packet given ends lacking a b m c t u v w head stays h gives receiver body are lacks tail =
    let front = head_openings number (packet_of packet) in
    let mid = pieces_openings ear marks (reverse (pieces slots)) given in
    let after = tail_openings (packet_of packet) given in
    let tracked : IsTracked slots b.signals = subst (λ (s : TrackState). IsTracked slots s) (sym stays.0) h.tracked in
    let one : Hears ear mid b c u v = hears_from ear mid b m c u v receiver (body (reverse (pieces slots)) (stays.1 ∙ h.counted)) in
    let two : Hears ear after c c v w = subst (λ (os : List Opening). Hears ear os c c v w) (sym (tail_told (packet_of packet) ends given lacking are lacks)) (tail ear one.is_ear) in
    subst (λ (os : List Opening). Hears ear os a c t w) (sym (packet_told ear marks slots number packet given (gives slots tracked)))
    (hears_both ear front (mid ++ after) a b c t u w head (hears_both ear mid after b c c u v w one two))

-- and it is heard
pub packet_kept : (slots : List Slot) (packet : List ℕ) (given : List Piece) (signals : TrackState) (a b c : Listener)
    → Stays a b → HasHeard slots a → Tracks (Some packet) b.signals signals → Gives (Some packet) b.signals given → c.signals ≡ signals
    → ((before : List Piece) → b.image.octets ≡ octets_counted before → c.image.octets ≡ octets_counted (reverse given ++ before))
    → HasHeard (Some packet ∷ slots) c
packet_kept slots packet given signals a b c stays h tracks gives is counted =
    let tracked : IsTracked slots b.signals = subst (λ (s : TrackState). IsTracked slots s) (sym stays.0) h.tracked in
    record {
      tracked = subst (λ (s : TrackState). IsTracked (Some packet ∷ slots) s) (sym is) (tracks slots tracked);
      counted = counted (reverse (pieces slots)) (stays.1 ∙ h.counted)
          ∙ ap octets_counted (sym (ap (λ (ps : List Piece). reverse ps) (gives slots tracked) ∙ reverse-append (pieces slots) given));
    }

-- ---- packets in a row

pub next_at : (at first n : ℕ) → at ≡ (first + n) % 65536 → (at + 1) % 65536 ≡ (first + (n + 1)) % 65536
next_at at first n is = omega arith

pub texts_more : (ys : List (Bor (List ℕ))) (y : Bor (List ℕ)) → texts (ys ++ y ∷ []) ≡ texts ys ++ y.now ∷ []
texts_more ys y = map-append (λ (p : Bor (List ℕ)). p.now) ys (y ∷ [])

pub texts_length : (ys : List (Bor (List ℕ))) → length (texts ys) ≡ length ys
texts_length [] = refl
texts_length (y ∷ ys) = ap (λ (n : ℕ). suc n) (texts_length ys)

pub packets_told : (ear : Ear) (marks : List Mark) (slots : List Slot) (first at : ℕ) (ys : List (Bor (List ℕ))) (y : Bor (List ℕ)) → at ≡ (first + length ys) % 65536
    → packets_openings ear marks slots first (texts (ys ++ y ∷ []))
    ≡ packets_openings ear marks slots first (texts ys)
    ++ packet_openings ear (packets_past slots (texts ys) marks) (reverse (map (λ (x : List ℕ). Some x) (texts ys)) ++ slots) at y.now
packets_told ear marks slots first at ys y is =
    ap (packets_openings ear marks slots first) (texts_more ys y) ∙ packets_more ear marks slots first (texts ys) y.now
    ∙ ap (λ (n : ℕ). packets_openings ear marks slots first (texts ys)
    ++ packet_openings ear (packets_past slots (texts ys) marks) (reverse (map (λ (x : List ℕ). Some x) (texts ys)) ++ slots) n y.now)
    (ap (λ (n : ℕ). (first + n) % 65536) (texts_length ys) ∙ sym is)

pub packets_left : (slots : List Slot) (ys : List (Bor (List ℕ))) (y : Bor (List ℕ)) (marks new : List Mark)
    → new ≡ marks_past (reverse (map (λ (x : List ℕ). Some x) (texts ys)) ++ slots) y.now (packets_past slots (texts ys) marks) → new ≡ packets_past slots (texts (ys ++ y ∷ [])) marks
packets_left slots ys y marks new is =
    is ∙ sym (past_more slots (texts ys) y.now marks) ∙ ap (λ (ps : List (List ℕ)). packets_past slots ps marks) (sym (texts_more ys y))

pub slots_kept : (slots : List Slot) (ys : List (Bor (List ℕ))) (y : Bor (List ℕ)) (c : Listener)
    → HasHeard (Some y.now ∷ (reverse (map (λ (x : List ℕ). Some x) (texts ys)) ++ slots)) c → HasHeard (reverse (map (λ (x : List ℕ). Some x) (texts (ys ++ y ∷ []))) ++ slots) c
slots_kept slots ys y c h =
    let some : List Slot = map (λ (x : List ℕ). Some x) (texts ys) in
    let is : reverse (map (λ (x : List ℕ). Some x) (texts (ys ++ y ∷ []))) ≡ Some y.now ∷ reverse some =
    ap (λ (ps : List (List ℕ)). reverse (map (λ (x : List ℕ). Some x) ps)) (texts_more ys y)
    ∙ ap (λ (s : List Slot). reverse s) (map-append (λ (x : List ℕ). Some x) (texts ys) (y.now ∷ [])) ∙ reverse-append some (Some y.now ∷ []) in
    subst (λ (s : List Slot). HasHeard (s ++ slots) c) (sym is) h

-- ---- a datagram

one_more_lost : (n : ℕ) → lost_slots n ++ None ∷ [] ≡ None ∷ lost_slots n
one_more_lost zero = refl
one_more_lost (suc n) = ap (λ (s : List Slot). None ∷ s) (one_more_lost n)

reversed_lost : (n : ℕ) → reverse (lost_slots n) ≡ lost_slots n
reversed_lost zero = refl
reversed_lost (suc n) = reverse-append (None ∷ []) (lost_slots n) ∙ ap (λ (s : List Slot). s ++ None ∷ []) (reversed_lost n) ∙ one_more_lost n

pub slots_again : (decided : DecidedValue) (slots : List Slot)
    → reverse (slots_in decided) ++ slots ≡ reverse (map (λ (x : List ℕ). Some x) decided.packets) ++ (lost_slots decided.lost ++ slots)
slots_again decided slots =
    let some : List Slot = map (λ (x : List ℕ). Some x) decided.packets in
    ap (λ (s : List Slot). s ++ slots) (reverse-append (lost_slots decided.lost) some ∙ ap (λ (s : List Slot). reverse some ++ s) (reversed_lost decided.lost))
    ∙ append_assoc (reverse some) (lost_slots decided.lost) slots

pub decided_kept : (decided : DecidedValue) (lost : ℕ) (slots : List Slot) (c : Listener) → lost ≡ decided.lost
    → HasHeard (reverse (map (λ (x : List ℕ). Some x) decided.packets) ++ (lost_slots lost ++ slots)) c → HasHeard (reverse (slots_in decided) ++ slots) c
decided_kept decided lost slots c is h =
    let some : List Slot = map (λ (x : List ℕ). Some x) decided.packets in
    subst (λ (s : List Slot). HasHeard s c) (sym (slots_again decided slots ∙ ap (λ (n : ℕ). reverse some ++ (lost_slots n ++ slots)) (sym is))) h

slots_decided : (ear : Ear) (marks : List Mark) (before : List Slot) (number : ℕ) (decided : DecidedValue) (slots : List Slot) → (slots ≡ [] → ⊥)
    → slots_openings ear marks before number decided slots ≡ decided_openings ear marks before number decided
slots_decided ear marks before number decided [] some = absurd (some refl)
slots_decided ear marks before number decided (slot ∷ slots) some = refl

pub decided_told : (ear : Ear) (marks : List Mark) (slots : List Slot) (number : ℕ) (decided : DecidedValue) (from lost : ℕ) (a b c : Listener) (t u v w : List Description)
    → (slots_in decided ≡ [] → ⊥) → from ≡ decided.from → lost ≡ decided.lost
    → Hears ear (lost_openings from lost) a b t u → HearsThese (back_openings ((from + lost) % 65536) number) b b u v
    → (IsEar ear b → Hears ear (packets_openings ear marks (lost_slots lost ++ slots) ((from + lost) % 65536) decided.packets) b c v w)
    → Hears ear (datagram_openings ear marks slots number decided) a c t w
decided_told ear marks slots number decided from lost a b c t u v w some from_is lost_is p back rest =
    let xs = lost_openings from lost in
    let ys = back_openings ((from + lost) % 65536) number in
    let zs = packets_openings ear marks (lost_slots lost ++ slots) ((from + lost) % 65536) decided.packets in
    let q : Hears ear ys b b u v = back ear p.is_ear in
    let same : datagram_openings ear marks slots number decided ≡ xs ++ (ys ++ zs) =
    slots_decided ear marks slots number decided (slots_in decided) some
    ∙ ap₂ (λ (f l : ℕ). lost_openings f l ++ (back_openings ((f + l) % 65536) number ++ packets_openings ear marks (lost_slots l ++ slots) ((f + l) % 65536) decided.packets)) (sym from_is) (sym lost_is) in
    subst (λ (os : List Opening). Hears ear os a c t w) (sym same)
    (hears_both ear xs (ys ++ zs) a b c t u w p (hears_both ear ys zs b b c u v w q (rest p.is_ear)))

pub late_told : (ear : Ear) (marks : List Mark) (slots : List Slot) (number : ℕ) (decided : DecidedValue) (from : ℕ) (a : Listener) (t u : List Description) → slots_in decided ≡ [] → from ≡ decided.from
    → Hears ear (late_openings number from) a a t u → Hears ear (datagram_openings ear marks slots number decided) a a t u
late_told ear marks slots number decided from a t u none from_is p =
    subst (λ (os : List Opening). Hears ear os a a t u) (ap (late_openings number) from_is ∙ sym (ap (slots_openings ear marks slots number decided) none)) p

pub late_kept : (decided : DecidedValue) (slots : List Slot) (c : Listener) → slots_in decided ≡ [] → HasHeard slots c → HasHeard (reverse (slots_in decided) ++ slots) c
late_kept decided slots c none h = subst (λ (s : List Slot). HasHeard (reverse s ++ slots) c) (sym none) h

-- octets that came are told
pub datagram_told : (ear : Ear) (marks : List Mark) (arrived : List DatagramValue) (octets : List ℕ) (number : ℕ) (old new : Option ℕ) (decided : DecidedValue) (datagram : DatagramValue)
    (a b : List Description) → IsAfter arrived old → (t : Takes octets old new decided) → datagram_of octets ≡ Ok datagram → number ≡ datagram.number
    → Adds ear (datagram_openings ear marks (newest_slots arrived) number decided) a b → TellsDatagram ear marks arrived (datagram_of octets) a b
datagram_told ear marks arrived octets number old new decided datagram a b after t is numbered told =
    let same : Ok datagram ≡ Ok t.datagram = sym is ∙ t.is in
    let one : datagram ≡ t.datagram = cc in
    subst (λ (r : Result DatagramValue UdptlFault). TellsDatagram ear marks arrived r a b) (sym t.is)
    (decided, t.decides arrived after, subst (λ (n : ℕ). Adds ear (datagram_openings ear marks (newest_slots arrived) n decided) a b) (numbered ∙ ap (λ (d : DatagramValue). d.number) one) told)

pub newest_more : (arrived : List DatagramValue) (d : DatagramValue) (x : DecidedValue) → Decides arrived d x → newest_slots (d ∷ arrived) ≡ reverse (slots_in x) ++ newest_slots arrived
unfolding newest_slots
newest_more arrived d x h = ap (λ (ss : List Slot). reverse ss) h.slots ∙ reverse-append (slots arrived) (slots_in x)

-- and what came is known
pub datagram_kept : (arrived : List DatagramValue) (octets : List ℕ) (old : Option ℕ) (decided : DecidedValue) (c : Listener)
    → IsAfter arrived old → Takes octets old c.receiver decided → HasHeard (reverse (slots_in decided) ++ newest_slots arrived) c → IsHearing (arrived_with arrived (datagram_of octets)) c
datagram_kept arrived octets old decided c after t h =
    subst (λ (r : Result DatagramValue UdptlFault). IsHearing (arrived_with arrived r) c) (sym t.is)
    (record { after = t.after arrived after; heard = subst (λ (s : List Slot). HasHeard s c) (sym (newest_more arrived t.datagram decided (t.decides arrived after))) h })

-- octets that are no datagram
pub unread_told : (ear : Ear) (marks : List Mark) (arrived : List DatagramValue) (octets : List ℕ) (fault : UdptlFault) (a b : List Description) → datagram_of octets ≡ Err fault
    → Adds ear (unread_opening ∷ []) a b → TellsDatagram ear marks arrived (datagram_of octets) a b
unread_told ear marks arrived octets fault a b is told = subst (λ (r : Result DatagramValue UdptlFault). TellsDatagram ear marks arrived r a b) (sym is) told

pub unread_kept : (arrived : List DatagramValue) (octets : List ℕ) (fault : UdptlFault) (c : Listener) → datagram_of octets ≡ Err fault
    → IsHearing arrived c → IsHearing (arrived_with arrived (datagram_of octets)) c
unread_kept arrived octets fault c is h = subst (λ (r : Result DatagramValue UdptlFault). IsHearing (arrived_with arrived r) c) (sym is) h
