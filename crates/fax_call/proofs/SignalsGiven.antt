-- The image signals among packets that are given are those that these packets end.
use Rattle.std.proofs.lemmas.List.{map-append, reverse-append, length-reverse, length-map, reverse-reverse}
use mathlib.Core.List.{reverse_aux}
use Rattle.std.proofs.lemmas.Grind.{reverse_onto}
use Rattle.std.proofs.Common.{◌≡◌, ◌≢◌, ℕ, zero, suc, ◌<◌, ◌≤◌, Bool, true, false, nat_eq, ◌⊎◌, inl, inr, List, [], ◌∷◌, ◌++◌, length, map, reverse, drop, Option, Some, None, refl, sym, ◌∙◌, ap, subst, arith, if◌then◌else◌, option_map, slice_get, append_assoc, append-nil}
use Rattle.fax_frames.specs.declared.rate.Rate.{Rate}
use Rattle.fax_frames.specs.Rates.{kind_of}
use Rattle.fax_ifp.specs.Elements.{Element, Signal, Field}
use Rattle.fax_ifp.specs.Pieces.{Piece, Frame, Start, Octets, End, Gap, has_octet, end_if, octets_if, is_training, kind_of_training, pieces_at, pieces_of, pieces}
use Rattle.fax_ifp.specs.Schedules.{octets_to_end, first_signal, slots_of, signal_at, begins_signal, is_training_alone}
use Rattle.fax_ifp.proofs.SentSignals.{IsClean, joined, starts, since_of, end_gives, reads_on}
use Rattle.fax_call.specs.Replies.{Packet, Signals, Tells, Part, written}
use Rattle.fax_call.proofs.PacketsBack.{elements_in, signal_back, frame_back, part_back}
use Rattle.fax_call.proofs.ToldFrames.{IsFine, AreFine, said}

-- the octets of the signal that stands open, and its type of data
abbrev pub open_octets : List Packet → Option (List ℕ)
open_octets [] = None
open_octets (Signals code ∷ before) = if is_training code then Some [] else None
open_octets (Tells frame ∷ before) = None
open_octets (Part kind true octets ∷ before) = None
open_octets (Part kind false octets ∷ before) = option_map (λ front. front ++ octets) (open_octets before)

abbrev pub open_kind : List Packet → ℕ
open_kind [] = 0
open_kind (Signals code ∷ before) = kind_of_training code
open_kind (Tells frame ∷ before) = open_kind before
open_kind (Part kind last octets ∷ before) = open_kind before

-- what is given of a signal: its parts in a row, to the last; of the octets that the last one ends P holds
abbrev pub PartBy : (List Packet → List ℕ → Type 0) → ℕ → Bool → List ℕ → List Packet → Type 0
PartBy P kind last octets before =
    (front : List ℕ) × (open_octets before ≡ Some front) × (kind ≡ open_kind before) × (last ≡ true → P before (front ++ octets))

abbrev pub IsNeat : (List Packet → List ℕ → Type 0) → List Packet → Type 0
IsNeat P [] = Unit {0}
IsNeat P (Signals code ∷ before) = (open_octets before ≡ None) × IsNeat P before
IsNeat P (Tells frame ∷ before) = (open_octets before ≡ None) × IsNeat P before
IsNeat P (Part kind last octets ∷ before) = PartBy P kind last octets before × IsNeat P before

-- a signal that was heard to its end stays so
ends_on : (acc : List ℕ) (ps tail : List Piece) (octets : List ℕ) → octets_to_end acc ps ≡ Some octets → octets_to_end acc (ps ++ tail) ≡ Some octets
ends_on acc [] tail octets h = cc
ends_on acc (Octets more ∷ ps) tail octets h = ends_on (acc ++ more) ps tail octets h
ends_on acc (End true ∷ ps) tail octets h = h
ends_on acc (End false ∷ ps) tail octets h = cc
ends_on acc (Frame f ∷ ps) tail octets h = cc
ends_on acc (Start k ∷ ps) tail octets h = cc
ends_on acc (Gap ∷ ps) tail octets h = cc

first_on : (ps tail : List Piece) (octets : List ℕ) → first_signal ps ≡ Some octets → first_signal (ps ++ tail) ≡ Some octets
first_on [] tail octets h = cc
first_on (Start k ∷ ps) tail octets h = ends_on [] ps tail octets h
first_on (Octets more ∷ ps) tail octets h = cc
first_on (End w ∷ ps) tail octets h = cc
first_on (Frame f ∷ ps) tail octets h = cc
first_on (Gap ∷ ps) tail octets h = cc

more_elements : (more es : List Element) (octets : List ℕ) → first_signal (pieces_of es) ≡ Some octets → first_signal (pieces_of (more ++ es)) ≡ Some octets
more_elements [] es octets h = h
more_elements (e ∷ more) es octets h = first_on (pieces_of (more ++ es)) (pieces_at (more ++ es) e) octets (more_elements more es octets h)

-- no packet of these ends a signal
abbrev pub HasNoLast : List Packet → Type 0
HasNoLast [] = Unit {0}
HasNoLast (Part kind true octets ∷ packets) = ⊥
HasNoLast (p ∷ packets) = HasNoLast packets

-- the elements of packets from a training indicator on
record Running (later : List Packet) (code : ℕ) (before : List Packet) : Type 0 where
  elements : List Element
  said_so : said (later ++ Signals code ∷ []) ≡ elements ++ Signal code ∷ []
  clean : IsClean (kind_of_training code) elements
  octets : open_octets (later ++ Signals code ∷ before) ≡ Some (joined elements)
  kind : open_kind (later ++ Signals code ∷ before) ≡ kind_of_training code
  no_last : HasNoLast later

record Done (P : List Packet → List ℕ → Type 0) (later : List Packet) (code : ℕ) (before : List Packet) : Type 0 where
  octets : List ℕ
  heard : first_signal (pieces_of (said (later ++ Signals code ∷ []))) ≡ Some octets
  newer : List Packet
  kind : ℕ
  part : List ℕ
  older : List Packet
  split : later ++ Signals code ∷ before ≡ newer ++ Part kind true part ∷ older
  holds : P older octets
  row : List Packet
  row_is : older ≡ row ++ Signals code ∷ before
  no_last : HasNoLast row

same_kind : (a b : ℕ) → a ≡ b → nat_eq a b ≡ true
same_kind a b e = grind (arith, e)

some_octet : (xs os : List ℕ) → 1 ≤ length os → has_octet (xs ++ os) ≡ true
some_octet [] [] l = absurd (omega (arith, l))
some_octet [] (o ∷ os) l = refl
some_octet (x ∷ xs) os l = refl

differ : (o : Option (List ℕ)) (xs : List ℕ) → o ≡ None → o ≡ Some xs → ⊥
differ None xs e f = cc
differ (Some ys) xs e f = cc

one_front : (o : Option (List ℕ)) (xs ys : List ℕ) → o ≡ Some xs → o ≡ Some ys → ys ≡ xs
one_front o xs ys e f = let h : Some xs ≡ Some ys = sym e ∙ f in cc

-- a part that is read back
part_said : (rate : Rate) (kind : ℕ) (last : Bool) (os : List ℕ) (later : List Packet) → kind ≡ kind_of rate → 1 ≤ length os → length os ≤ 65535
    → said (Part kind last os ∷ later) ≡ Field kind (if last then 7 else 6) os ∷ said later
part_said rate kind last os later e some few =
    subst (λ (k : ℕ). said (Part k last os ∷ later) ≡ Field k (if last then 7 else 6) os ∷ said later) (sym e)
    (ap (λ (es : List Element). reverse es ++ said later) (part_back rate last os some few))

open_part : (kind : ℕ) (os : List ℕ) (later : List Packet) (code : ℕ) (before : List Packet) → Running later code before → kind ≡ kind_of_training code
    → said (Part kind false os ∷ later ++ Signals code ∷ []) ≡ Field kind 6 os ∷ said (later ++ Signals code ∷ []) → Running (Part kind false os ∷ later) code before
open_part kind os later code before r k s =
    record {
      elements = Field kind 6 os ∷ r.elements;
      said_so = s ∙ ap (λ (es : List Element). Field kind 6 os ∷ es) r.said_so;
      clean = (same_kind kind (kind_of_training code) k, refl, r.clean);
      octets = ap (option_map (λ (front : List ℕ). front ++ os)) r.octets;
      kind = r.kind;
      no_last = r.no_last;
    }

last_part : (P : List Packet → List ℕ → Type 0) (kind : ℕ) (os : List ℕ) (later : List Packet) (code : ℕ) (before : List Packet) → is_training code ≡ true → Running later code before → kind ≡ kind_of_training code
    → 1 ≤ length os → said (Part kind true os ∷ later ++ Signals code ∷ []) ≡ Field kind 7 os ∷ said (later ++ Signals code ∷ [])
    → ((front : List ℕ) → open_octets (later ++ Signals code ∷ before) ≡ Some front → P (later ++ Signals code ∷ before) (front ++ os)) → Done P (Part kind true os ∷ later) code before
last_part P kind os later code before t r k some s h =
    let es : List Element = r.elements ++ Signal code ∷ [] in
    let n : nat_eq kind (kind_of_training code) ≡ true = same_kind kind (kind_of_training code) k in
    let gives : pieces_at es (Field kind 7 os) ≡ octets_if os ++ end_if (has_octet (joined r.elements ++ os)) true =
    end_gives es (record { code = code; later = r.elements }) kind 7 os (since_of code (kind_of_training code) r.elements r.clean) t r.clean n refl in
    record {
      octets = joined r.elements ++ os;
      heard = ap (λ (xs : List Element). first_signal (pieces_of xs)) (s ∙ ap (λ (xs : List Element). Field kind 7 os ∷ xs) r.said_so)
          ∙ ap (λ (ps : List Piece). first_signal (pieces_of es ++ ps)) gives
          ∙ ap (λ (b : Bool). first_signal (pieces_of es ++ (octets_if os ++ end_if b true))) (some_octet (joined r.elements) os some)
          ∙ starts code t r.elements r.clean (octets_if os ++ End true ∷ [])
          ∙ reads_on os (joined r.elements) (End true ∷ []);
      newer = [];
      kind = kind;
      part = os;
      older = later ++ Signals code ∷ before;
      split = refl;
      holds = h (joined r.elements) r.octets;
      row = later;
      row_is = refl;
      no_last = r.no_last;
    }

more_done : (P : List Packet → List ℕ → Type 0) (p : Packet) (later : List Packet) (code : ℕ) (before : List Packet) → Done P later code before → Done P (p ∷ later) code before
more_done P p later code before d =
    record {
      octets = d.octets;
      heard = more_elements (reverse (elements_in p)) (said (later ++ Signals code ∷ [])) d.octets d.heard;
      newer = p ∷ d.newer;
      kind = d.kind;
      part = d.part;
      older = d.older;
      split = ap (λ (ps : List Packet). p ∷ ps) d.split;
      holds = d.holds;
      row = d.row;
      row_is = d.row_is;
      no_last = d.no_last;
    }

neat_rest : (P : List Packet → List ℕ → Type 0) (p : Packet) (rest : List Packet) → IsNeat P (p ∷ rest) → IsNeat P rest
neat_rest P (Signals code) rest n = n.1
neat_rest P (Tells frame) rest n = n.1
neat_rest P (Part kind last octets) rest n = n.1

step : (P : List Packet → List ℕ → Type 0) (p : Packet) (later : List Packet) (code : ℕ) (before : List Packet) → is_training code ≡ true → IsFine p → IsNeat P (p ∷ later ++ Signals code ∷ before)
    → Running later code before → Running (p ∷ later) code before ⊎ Done P (p ∷ later) code before
step P (Signals c) later code before t f n r = absurd (differ (open_octets (later ++ Signals code ∷ before)) (joined r.elements) n.0 r.octets)
step P (Tells frame) later code before t f n r = absurd (differ (open_octets (later ++ Signals code ∷ before)) (joined r.elements) n.0 r.octets)
step P (Part kind false os) later code before t f n r =
    inl (open_part kind os later code before r (n.0.2 ∙ r.kind) (part_said f.0 kind false os (later ++ Signals code ∷ []) f.1 f.2 f.3))
step P (Part kind true os) later code before t f n r =
    inr (last_part P kind os later code before t r (n.0.2 ∙ r.kind) f.2 (part_said f.0 kind true os (later ++ Signals code ∷ []) f.1 f.2 f.3)
    (λ front e. subst (λ (x : List ℕ). P (later ++ Signals code ∷ before) (x ++ os)) (one_front (open_octets (later ++ Signals code ∷ before)) front n.0.0 e n.0.1) (n.0.3 refl)))

walk : (P : List Packet → List ℕ → Type 0) (code : ℕ) (before later : List Packet) → is_training code ≡ true → AreFine (later ++ Signals code ∷ before) → IsNeat P (later ++ Signals code ∷ before)
    → Running later code before ⊎ Done P later code before
walk P code before [] t f n =
    inl (record {
      elements = [];
      said_so = ap (λ (es : List Element). reverse es ++ []) (signal_back code f.0);
      clean = tt;
      octets = ap (λ (b : Bool). if◌then◌else◌ {A = Option (List ℕ)} b (Some []) None) t;
      kind = refl;
      no_last = tt;
    })
walk P code before (p ∷ later) t f n = by (walk P code before later t f.1 (neat_rest P p (later ++ Signals code ∷ before) n))
  where
    by : Running later code before ⊎ Done P later code before → Running (p ∷ later) code before ⊎ Done P (p ∷ later) code before
    by (inl r) = step P p later code before t f.0 n r
    by (inr d) = inr (more_done P p later code before d)

-- THE SIGNAL AT A PLACE
pub record IsEnded (P : List Packet → List ℕ → Type 0) (packets : List Packet) (place : ℕ) (octets : List ℕ) : Type 0 where
  pub newer : List Packet
  pub kind : ℕ
  pub part : List ℕ
  pub older : List Packet
  pub split : packets ≡ newer ++ Part kind true part ∷ older
  pub holds : P older octets
  pub row : List Packet
  pub first : Packet
  pub earlier : List Packet
  pub row_is : older ≡ row ++ first ∷ earlier
  pub no_last : HasNoLast row
  pub at : length earlier ≡ place

same_octets : (xs ys : List ℕ) (o : Option (List ℕ)) → o ≡ Some xs → o ≡ Some ys → xs ≡ ys
same_octets xs ys o e f = let h : Some xs ≡ Some ys = sym e ∙ f in cc

running_none : (later : List Packet) (code : ℕ) (before : List Packet) → is_training code ≡ true → Running later code before → first_signal (pieces_of (said (later ++ Signals code ∷ []))) ≡ None
running_none later code before t r =
    ap (λ (es : List Element). first_signal (pieces_of es)) r.said_so
    ∙ ap first_signal (sym (append-nil (pieces_of (r.elements ++ Signal code ∷ []))))
    ∙ starts code t r.elements r.clean []

-- from a training indicator on
pub from_signal : (P : List Packet → List ℕ → Type 0) (code : ℕ) (before later : List Packet) (octets : List ℕ) → is_training code ≡ true → AreFine (later ++ Signals code ∷ before)
    → IsNeat P (later ++ Signals code ∷ before) → first_signal (pieces_of (said (later ++ Signals code ∷ []))) ≡ Some octets → IsEnded P (later ++ Signals code ∷ before) (length before) octets
from_signal P code before later octets t f n h = by (walk P code before later t f n)
  where
    by : Running later code before ⊎ Done P later code before → IsEnded P (later ++ Signals code ∷ before) (length before) octets
    by (inl r) = absurd (differ (first_signal (pieces_of (said (later ++ Signals code ∷ [])))) octets (running_none later code before t r) h)
    by (inr d) =
        record {
          newer = d.newer;
          kind = d.kind;
          part = d.part;
          older = d.older;
          split = d.split;
          holds = subst (λ (o : List ℕ). P d.older o) (same_octets d.octets octets (first_signal (pieces_of (said (later ++ Signals code ∷ [])))) d.heard h) d.holds;
          row = d.row;
          first = Signals code;
          earlier = before;
          row_is = d.row_is;
          no_last = d.no_last;
          at = refl;
        }

record SplitAt (xs : List Packet) (place : ℕ) : Type 0 where
  later : List Packet
  packet : Packet
  before : List Packet
  split : xs ≡ later ++ packet ∷ before
  at : length before ≡ place

split_at : (xs : List Packet) (place : ℕ) → place < length xs → SplitAt xs place
split_at [] place l = absurd (omega (arith, l))
split_at (x ∷ xs) place l = by (nat_eq (length xs) place) refl (λ m. split_at xs place m)
  where
    here : nat_eq (length xs) place ≡ true → length xs ≡ place
    here e = grind (arith, e)

    there : nat_eq (length xs) place ≡ false → place < length xs
    there e = let d : length xs ≢ place = (λ q. differs (length xs) place e q) in omega (arith, l, d)
      where
        differs : (m n : ℕ) → nat_eq m n ≡ false → m ≡ n → ⊥
        differs m n e q = grind (arith)

    by : (b : Bool) → nat_eq (length xs) place ≡ b → (place < length xs → SplitAt xs place) → SplitAt (x ∷ xs) place
    by true e go = record { later = []; packet = x; before = xs; split = refl; at = here e }
    by false e go =
        let s : SplitAt xs place = go (there e) in
        record { later = x ∷ s.later; packet = s.packet; before = s.before; split = ap (λ (ys : List Packet). x ∷ ys) s.split; at = s.at }

-- the sender's list from the place of a packet on
texts_back : List Packet → List (List ℕ)
texts_back packets = reverse (map written packets)

after_front : (xs ys : List (List ℕ)) → drop (length xs) (xs ++ ys) ≡ ys
after_front [] ys = refl
after_front (x ∷ xs) ys = after_front xs ys

get_after : (xs ys : List (List ℕ)) → slice_get (xs ++ ys) (length xs) ≡ slice_get ys 0
get_after [] ys = refl
get_after (x ∷ xs) ys = get_after xs ys

list_split : (later : List Packet) (p : Packet) (before : List Packet) → texts_back (later ++ p ∷ before) ≡ texts_back before ++ written p ∷ texts_back later
unfolding texts_back
list_split later p before =
    ap (λ (xs : List (List ℕ)). reverse xs) (map-append written later (p ∷ before))
    ∙ reverse-append (map written later) (written p ∷ map written before)
    ∙ ap (λ (xs : List (List ℕ)). xs ++ reverse (map written later)) (reverse_onto (map written before) (written p) [])
    ∙ append_assoc (reverse (map written before)) (written p ∷ []) (reverse (map written later))

back_length : (before : List Packet) → length (texts_back before) ≡ length before
unfolding texts_back
back_length before = length-reverse (map written before) ∙ length-map before written

map_onto : (xs ys : List (List ℕ)) → map Some (reverse_aux xs ys) ≡ reverse_aux (map Some xs) (map Some ys)
map_onto [] ys = refl
map_onto (x ∷ xs) ys = map_onto xs (x ∷ ys)

pub map_back : (xs : List (List ℕ)) → slots_of (reverse xs) ≡ map Some xs
map_back xs = ap (λ (ys : List (Option (List ℕ))). reverse ys) (map_onto xs []) ∙ reverse-reverse (map Some xs)

from_place : (later : List Packet) (p : Packet) → slots_of (written p ∷ texts_back later) ≡ map Some (map written (later ++ p ∷ []))
unfolding texts_back
from_place later p =
    ap slots_of (sym (ap (λ (xs : List (List ℕ)). reverse xs) (map-append written later (p ∷ [])) ∙ reverse-append (map written later) (written p ∷ [])))
    ∙ map_back (map written (later ++ p ∷ []))

-- a packet that begins a signal
record Begun (p : Packet) : Type 0 where
  code : ℕ
  is : p ≡ Signals code
  training : is_training code ≡ true

begun : (p : Packet) → IsFine p → is_training_alone (elements_in p) ≡ true → Begun p
begun (Signals code) f b = record { code = code; is = refl; training = sym (ap is_training_alone (signal_back code f)) ∙ b }
begun (Tells frame) f b = absurd (let e : false ≡ true = sym (ap is_training_alone (frame_back frame f.0 f.1)) ∙ b in cc)
begun (Part kind last os) f b =
    absurd (let e : false ≡ true = sym (ap is_training_alone (ap (λ (k : ℕ). elements_in (Part k last os)) f.1 ∙ part_back f.0 last os f.2 f.3)) ∙ b in cc)

fine_at : (later : List Packet) (p : Packet) (before : List Packet) → AreFine (later ++ p ∷ before) → IsFine p
fine_at [] p before f = f.0
fine_at (x ∷ later) p before f = fine_at later p before f.1

within : (packets : List (List ℕ)) (place : ℕ) → begins_signal (slice_get packets place) ≡ true → place < length packets
within [] place b = cc
within (p ∷ packets) zero b = omega arith
within (p ∷ packets) (suc place) b = let l : place < length packets = within packets place b in omega arith

begins_so : (b : Bool) (o : Option (List ℕ)) (octets : List ℕ) → if◌then◌else◌ {A = Option (List ℕ)} b o None ≡ Some octets → (b ≡ true) × (o ≡ Some octets)
begins_so true o octets h = (refl, h)
begins_so false o octets h = cc

-- The image signal at a place of the list that was given is one that a packet ended.
pub at_place : (P : List Packet → List ℕ → Type 0) (packets : List Packet) (place : ℕ) (octets : List ℕ) → AreFine packets → IsNeat P packets
    → signal_at (reverse (map written packets)) place ≡ Some octets → IsEnded P packets place octets
unfolding texts_back
at_place P packets place octets f n h =
    let list : List (List ℕ) = reverse (map written packets) in
    let b = begins_so (begins_signal (slice_get list place)) (first_signal (pieces (slots_of (drop place list)))) octets h in
    let l : place < length list = within list place b.0 in
    let count : length list ≡ length packets = length-reverse (map written packets) ∙ length-map packets written in
    let s : SplitAt packets place = split_at packets place (omega arith) in
    let list_is : list ≡ texts_back s.before ++ written s.packet ∷ texts_back s.later =
    ap (λ (ps : List Packet). texts_back ps) s.split ∙ list_split s.later s.packet s.before in
    let at : place ≡ length (texts_back s.before) = sym (back_length s.before ∙ s.at) in
    let got : slice_get list place ≡ Some (written s.packet) =
    ap (λ (xs : List (List ℕ)). slice_get xs place) list_is ∙ ap (slice_get (texts_back s.before ++ written s.packet ∷ texts_back s.later)) at ∙ get_after (texts_back s.before) (written s.packet ∷ texts_back s.later) in
    let rest : drop place list ≡ written s.packet ∷ texts_back s.later =
    ap (λ (xs : List (List ℕ)). drop place xs) list_is ∙ ap (λ (m : ℕ). drop m (texts_back s.before ++ written s.packet ∷ texts_back s.later)) at ∙ after_front (texts_back s.before) (written s.packet ∷ texts_back s.later) in
    let fine : AreFine (s.later ++ s.packet ∷ s.before) = subst AreFine s.split f in
    let neat : IsNeat P (s.later ++ s.packet ∷ s.before) = subst (IsNeat P) s.split n in
    let begins : Begun s.packet = begun s.packet (fine_at s.later s.packet s.before fine) (sym (ap begins_signal got) ∙ b.0) in
    let heard : first_signal (pieces_of (said (s.later ++ s.packet ∷ []))) ≡ Some octets =
    sym (ap (λ (xs : List (List ℕ)). first_signal (pieces (slots_of xs))) rest ∙ ap (λ (ss : List (Option (List ℕ))). first_signal (pieces ss)) (from_place s.later s.packet)) ∙ b.1 in
    subst (λ (ps : List Packet). IsEnded P ps place octets) (sym s.split)
    (subst (λ (p : Packet). IsEnded P (s.later ++ p ∷ s.before) place octets) (sym begins.is)
    (subst (λ (n : ℕ). IsEnded P (s.later ++ Signals begins.code ∷ s.before) n octets) s.at
    (from_signal P begins.code s.before s.later octets begins.training
    (subst (λ (p : Packet). AreFine (s.later ++ p ∷ s.before)) begins.is fine)
    (subst (λ (p : Packet). IsNeat P (s.later ++ p ∷ s.before)) begins.is neat)
    (subst (λ (p : Packet). first_signal (pieces_of (said (s.later ++ p ∷ []))) ≡ Some octets) begins.is heard))))
