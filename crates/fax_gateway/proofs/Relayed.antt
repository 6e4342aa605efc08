-- Each page that a second gateway confirms of a call of a first is a page that the first confirmed and emitted there, in order.
use Rattle.std.proofs.Common.{◌≡◌, ℕ, zero, suc, ◌<◌, ◌≤◌, Bool, true, false, inl, inr, List, [], ◌∷◌, ◌++◌, length, map, reverse, slice_get, Option, Some, None, refl, sym, ◌∙◌, ap, subst, arith}
use Rattle.std.specs.Prelude.{IfSome, Contains}
use Rattle.std.specs.List.{list_any}
use Rattle.fax_runcodes.specs.declared.format.Format.{Format}
use Rattle.fax_runcodes.specs.declared.format.Coding.{Coding}
use Rattle.fax_frames.specs.declared.dcs.Dcs.{Dcs}
use Rattle.fax_frames.specs.declared.frame.Frame.{Frame}
use Rattle.fax_frames.specs.declared.frame.Frame.TheVariants as frames
use Rattle.fax_frames.specs.Capabilities.{format_of, coding_of}
use Rattle.fax_frames.specs.Frames.{frame_of}
use Rattle.fax_pagestore.specs.Pages.{PageValue}
use Rattle.fax_pagestore.specs.PageTexts.{MeansPage}
use Rattle.fax_ifp.specs.Elements.{Slot}
use Rattle.fax_ifp.specs.Pieces as pieces
use Rattle.fax_ifp.specs.Schedules.{slots_of, signal_at}
use Rattle.fax_ifp.proofs.SentFrames.{Has, contains}
use Rattle.fax_jobs.specs.Jobs.{JobValue}
use Rattle.fax_answer.specs.Orders.{order_by, order_of}
use Rattle.fax_answer.specs.History.{Entry, Decision, PassesOver, Trains, HangsUp, GivesCfr, GivesFtt, GivesMcf, GivesRtn, dcs_asked, dcs_said, trained_with, trained_dcs, dcs_with, answered_dcs}
use Rattle.fax_answer.specs.Sent.{pieces_heard, IsOfSignal, page_accepted, RisesBy, Rises}
use Rattle.fax_call.specs.Writings.{Writing, IsWriting}
use Rattle.fax_call.specs.Replies.{Packet, written}
use Rattle.fax_call.specs.Calls.{CallerCore, CallEvent, Comes, Ticks, after_events, ticked}
use Rattle.fax_call.specs.Emission.{Mark, Gave, Acknowledged, Refused, Begins, marks_after}
use Rattle.fax_call.specs.Given as call
use Rattle.fax_call.specs.Given.{packets_with, told_dcs, EachDcs, IsOfKind, is_eom_frame}
use Rattle.fax_call.specs.GivenSignals.{dcs_or, last_dcs, IsImage}
use Rattle.fax_call.proofs.EmittedOrder.{HasNoBegin}
use Rattle.fax_call.proofs.FinePackets.{OneKind, one_kind}
use Rattle.fax_call.proofs.GivenSignals.{CheckOrImage, ComesAfter, signal_given}
use Rattle.fax_call.proofs.ImagesInOrder.{MarksOn, marks_on, later_page}
use Rattle.fax_call.proofs.SignalsGiven.{IsEnded, map_back}
use Rattle.fax_gateway.specs.Setups.{Setup}
use Rattle.fax_gateway.specs.Events.{Event}
use Rattle.fax_gateway.specs.CalledLegs.{CalledLeg, begun_core}
use Rattle.fax_gateway.specs.Forwards.{WasConfirmed}
use Rattle.fax_gateway.specs.BothLegs.{book_of, both_legs}
use Rattle.fax_gateway.specs.Told.{leg_marks}
use Rattle.fax_gateway.specs.CallingLegs.{CallingLeg}
use Rattle.fax_gateway.specs.Chain.{HasNoEom, IsJoined, IsOfTheFirst, history_of, is_begin, IsRelayed, RelaysBy, Relays, ChainsRelay}
use Rattle.fax_gateway.proofs.Chained.{call_packets, KeptLeg, kept_leg, chains_hear}
use Rattle.fax_gateway.proofs.Held.{page_at}
use Rattle.fax_gateway.proofs.InCalls.{InCall, IfInCall, in_call}
use Rattle.fax_gateway.proofs.ServedAlone.{same_page}
use Rattle.fax_gateway.proofs.Unplaced.{as_begun, from_begun, packets_none}
use Rattle.fax_gateway.proofs.Zeros.{zeros_mean_none}

-- THE DCS UNDER WHICH THE SECOND READS was heard
pub record HasDcs (h : List Entry) (dcs : Dcs) : Type 0 where
  pub octets : List ℕ
  pub heard : Has (pieces_heard h) octets
  pub says : frame_of octets ≡ Some (frames.Dcs dcs)

older_dcs : (e : Entry) (h : List Entry) (dcs : Dcs) → HasDcs h dcs → HasDcs (e ∷ h) dcs
older_dcs e h dcs x = record { octets = x.octets; heard = inr x.heard; says = x.says }

asked_dcs : (o : Option Frame) (dcs : Dcs) → dcs_asked (order_by o) ≡ Some dcs → o ≡ Some (frames.Dcs dcs)
asked_dcs (Some (frames.Dcs d)) dcs e = let same : d ≡ dcs = one d dcs e in ap (λ (x : Dcs). Some (frames.Dcs x)) same
  where
    one : (c d : Dcs) → ◌≡◌ {A = Option Dcs} (Some c) (Some d) → c ≡ d
    one c d e = cc
asked_dcs (Some frames.Eom) dcs e = cc
asked_dcs (Some frames.Mps) dcs e = cc
asked_dcs (Some frames.Eop) dcs e = cc
asked_dcs (Some frames.Dcn) dcs e = cc
asked_dcs other dcs e = cc

said_dcs : (e : Entry) (h : List Entry) (dcs : Dcs) (p : pieces.Piece) → e.piece ≡ p → dcs_said p ≡ Some dcs → HasDcs (e ∷ h) dcs
unfolding order_of
said_dcs e h dcs (pieces.Frame octets) is s = record { octets = octets; heard = inl is; says = asked_dcs (frame_of octets) dcs s }
said_dcs e h dcs (pieces.Start k) is s = cc
said_dcs e h dcs (pieces.Octets os) is s = cc
said_dcs e h dcs (pieces.End w) is s = cc
said_dcs e h dcs pieces.Gap is s = cc

trained_in : (h : List Entry) (dcs : Dcs) → trained_dcs h ≡ Some dcs → HasDcs h dcs
trained_in [] dcs s = cc
trained_in (e ∷ h) dcs s = by e.decision (trained_in h dcs) s
  where
    by : (d : Decision) → (trained_dcs h ≡ Some dcs → HasDcs h dcs) → trained_with d (dcs_said e.piece) (trained_dcs h) ≡ Some dcs → HasDcs (e ∷ h) dcs
    by (Trains d) f s = said_dcs e h dcs e.piece refl s
    by PassesOver f s = older_dcs e h dcs (f s)
    by HangsUp f s = older_dcs e h dcs (f s)
    by (GivesCfr d) f s = older_dcs e h dcs (f s)
    by GivesFtt f s = older_dcs e h dcs (f s)
    by (GivesMcf command page) f s = older_dcs e h dcs (f s)
    by GivesRtn f s = older_dcs e h dcs (f s)

pub answered_in : (h : List Entry) (dcs : Dcs) → answered_dcs h ≡ Some dcs → HasDcs h dcs
answered_in [] dcs s = cc
answered_in (e ∷ h) dcs s = by e.decision (answered_in h dcs) s
  where
    by : (d : Decision) → (answered_dcs h ≡ Some dcs → HasDcs h dcs) → dcs_with d (trained_dcs h) (answered_dcs h) ≡ Some dcs → HasDcs (e ∷ h) dcs
    by (Trains d) f s = older_dcs e h dcs (f s)
    by PassesOver f s = older_dcs e h dcs (f s)
    by HangsUp f s = older_dcs e h dcs (f s)
    by (GivesCfr d) f s = older_dcs e h dcs (trained_in h dcs s)
    by GivesFtt f s = older_dcs e h dcs (f s)
    by (GivesMcf command page) f s = older_dcs e h dcs (f s)
    by GivesRtn f s = older_dcs e h dcs (f s)

-- THE DCS OF AN IMAGE is one of those given
last_kind : (P : Dcs → Type 0) (packets : List Packet) (dcs : Dcs) → EachDcs P packets → last_dcs packets ≡ Some dcs → P dcs
last_kind P [] dcs k e = cc
last_kind P (p ∷ packets) dcs k e = by (told_dcs p) (last_kind P packets dcs k.1) k.0 e
  where
    by : (o : Option Dcs) → (last_dcs packets ≡ Some dcs → P dcs) → IfSome o P → dcs_or o (last_dcs packets) ≡ Some dcs → P dcs
    by None f i e = f e
    by (Some d) f i e = let same : d ≡ dcs = cc in subst P same i

with_each : (P : Dcs → Type 0) (o : Option Packet) (packets : List Packet) → EachDcs P (packets_with o packets) → EachDcs P packets
with_each P None packets k = k
with_each P (Some p) packets k = k.1

each_before : (P : Dcs → Type 0) (writes : Writing) (job : JobValue) (a : CallerCore) (more before : List CallEvent) → EachDcs P (call.packets_given writes job a (more ++ before)) → EachDcs P (call.packets_given writes job a before)
each_before P writes job a [] before k = k
each_before P writes job a (Comes piece now ∷ more) before k = each_before P writes job a more before k
each_before P writes job a (Ticks now ∷ more) before k =
    each_before P writes job a more before (with_each P (ticked writes job (after_events writes job a (more ++ before)) now).given (call.packets_given writes job a (more ++ before)) k)

pub image_kind : (P : Dcs → Type 0) (writes : Writing) (job : JobValue) (old : List Mark) (a : CallerCore) (events : List CallEvent) (octets : List ℕ) (i : IsImage writes job old a events octets)
    → EachDcs P (call.packets_given writes job a events) → P i.dcs
image_kind P writes job old a events octets i k =
    last_kind P (call.packets_given writes job a i.before) i.dcs
    (with_each P (ticked writes job (after_events writes job a i.before) i.now).given (call.packets_given writes job a i.before)
    (each_before P writes job a i.later (Ticks i.now ∷ i.before) (subst (λ (es : List CallEvent). EachDcs P (call.packets_given writes job a es)) i.split k)))
    i.told

-- under two DCS of one kind octets mean one page
pub means_as : (f : Format) (c : Coding) (dcs : Dcs) (octets : List ℕ) (page : PageValue) → IsOfKind f c dcs → MeansPage (format_of dcs) (coding_of dcs) octets page → MeansPage f c octets page
means_as f c dcs octets page k m =
    subst (λ (x : Coding). MeansPage f x octets page) k.coding_is (subst (λ (x : Format). MeansPage x (coding_of dcs) octets page) k.format_is m)

-- MARKS OF THE CALL
none_begins : (marks : List Mark) → HasNoBegin marks → list_any is_begin marks ≡ false
none_begins [] h = refl
none_begins (Begins ∷ marks) h = absurd h
none_begins (Gave e ∷ marks) h = none_begins marks h
none_begins (Acknowledged ∷ marks) h = none_begins marks h
none_begins (Refused ∷ marks) h = none_begins marks h

place_within : (pages : List PageValue) (n : ℕ) (page : PageValue) → slice_get pages n ≡ Some page → n ≤ length pages
place_within [] n page e = cc
place_within (p ∷ pages) zero page e = omega arith
place_within (p ∷ pages) (suc n) page e = let l : n ≤ length pages = place_within pages n page e in omega arith

-- ONE CALL OF THE FIRST, without EOM: `old` stood before it, and its DCS have one coding
record Call (setup : Setup) (writes : Writing) (first : List Event) (leg : CalledLeg) : Type 0 where
  are_texts : IsWriting writes
  placed : leg.placed ≡ true
  kept : KeptLeg writes (WasConfirmed setup first) leg
  old : List Mark
  marks_are : leg_marks setup writes first ≡ marks_after writes leg.job old (begun_core leg) leg.events
  one : OneKind writes leg.job leg.before leg.begun leg.events

-- a signal that it gave to its end at a place, and an image among these
abbrev Signal : (setup : Setup) (writes : Writing) (first : List Event) (leg : CalledLeg) → Call setup writes first leg → ℕ → List ℕ → Type 0
Signal setup writes first leg c place octets = IsEnded (CheckOrImage writes leg.job c.old (begun_core leg) leg.events) (call_packets writes leg leg.events) place octets

signal_is : (setup : Setup) (writes : Writing) (first : List Event) (leg : CalledLeg) (c : Call setup writes first leg) (place : ℕ) (octets : List ℕ) → signal_at (reverse leg.given) place ≡ Some octets → Signal setup writes first leg c place octets
signal_is setup writes first leg c place octets h =
    as_begun (λ (a : CallerCore). IsEnded (CheckOrImage writes leg.job c.old a leg.events) (call.packets_given writes leg.job a leg.events) place octets) leg c.placed
    (signal_given writes leg.job c.old leg.before leg.begun leg.events place octets c.are_texts c.kept.holds.is_job
    (from_begun (λ (a : CallerCore). signal_at (reverse (map written (call.packets_given writes leg.job a leg.events))) place ≡ Some octets) leg c.placed
    (subst (λ (packets : List (List ℕ)). signal_at (reverse packets) place ≡ Some octets) c.kept.given_is h)))

abbrev ImageOf : (setup : Setup) (writes : Writing) (first : List Event) (leg : CalledLeg) (c : Call setup writes first leg) (place : ℕ) (octets : List ℕ) → Signal setup writes first leg c place octets → Type 0
ImageOf setup writes first leg c place octets x = ComesAfter writes leg.job c.old (begun_core leg) leg.events x.older octets

-- the images at places before `bound` are of pages up to `next`
abbrev Before : (setup : Setup) (writes : Writing) (first : List Event) (leg : CalledLeg) → Call setup writes first leg → (bound next : ℕ) → Type 0
Before setup writes first leg c bound next =
    (place : ℕ) (octets : List ℕ) (x : Signal setup writes first leg c place octets) (b : ImageOf setup writes first leg c place octets x) → place < bound → b.image.page ≤ next

-- each DCS that was heard is of the call's kind
abbrev Kinds : (setup : Setup) (writes : Writing) (first : List Event) (leg : CalledLeg) → Call setup writes first leg → List Entry → Type 0
Kinds setup writes first leg c h = (octets : List ℕ) (dcs : Dcs) → Has (pieces_heard h) octets → frame_of octets ≡ Some (frames.Dcs dcs) → IsOfKind leg.job.format c.one.coding dcs

-- an image that the second read as a page is the image of that page
image_relayed : (setup : Setup) (writes : Writing) (first : List Event) (leg : CalledLeg) (c : Call setup writes first leg) (octets : List ℕ) (page : PageValue) (dcs : Dcs) (i : IsImage writes leg.job c.old (begun_core leg) leg.events octets)
    → IsOfKind leg.job.format c.one.coding dcs → MeansPage (format_of dcs) (coding_of dcs) octets page → IsRelayed setup writes first leg page i.page
image_relayed setup writes first leg c octets page dcs i k m =
    let f : Format = leg.job.format in
    let n : Coding = c.one.coding in
    let own : IsOfKind f n i.dcs = image_kind (IsOfKind f n) writes leg.job c.old (begun_core leg) leg.events octets i
    (as_begun (λ (a : CallerCore). EachDcs (IsOfKind f n) (call.packets_given writes leg.job a leg.events)) leg c.placed c.one.given) in
    let same : i.means.page ≡ page = same_page f n octets i.means.page page (means_as f n i.dcs octets i.means.page own i.means.means) (means_as f n dcs octets page k m) in
    let is : slice_get leg.job.pages i.page ≡ Some page = i.means.is_page ∙ ap (λ (p : PageValue). Some p) same in
    let on : MarksOn (marks_after writes leg.job c.old (begun_core leg) (i.later ++ Ticks i.now ∷ i.before)) (marks_after writes leg.job c.old (begun_core leg) (Ticks i.now ∷ i.before)) =
    marks_on writes leg.job c.old (begun_core leg) i.later (Ticks i.now ∷ i.before) in
    record {
      is_page = is;
      confirmed = page_at (WasConfirmed setup first leg.job.call) leg.job.pages i.page page c.kept.holds.pages is;
      later = on.more;
      before = marks_after writes leg.job c.old (begun_core leg) (Ticks i.now ∷ i.before);
      split = c.marks_are ∙ ap (λ (es : List CallEvent). marks_after writes leg.job c.old (begun_core leg) es) i.split ∙ on.is;
      in_call = none_begins on.more on.none;
      emitted = i.emitted;
    }

-- THE SECOND'S PAGES, from the last to the first
step : (setup : Setup) (writes : Writing) (first : List Event) (leg : CalledLeg) (c : Call setup writes first leg) (h : List Entry) (page : PageValue) (place bound next : ℕ) → Kinds setup writes first leg c h → Before setup writes first leg c bound next
    → place < bound → IsOfSignal (reverse leg.given) h page place → ((n : ℕ) → Before setup writes first leg c place n → Relays setup writes first leg h n) → RelaysBy setup writes first leg (Some page) next (Relays setup writes first leg h)
step setup writes first leg c h page place bound next k f l s go =
    let x : Signal setup writes first leg c place s.octets = signal_is setup writes first leg c place s.octets s.signal in
    of x x.holds
  where
    of : (x : Signal setup writes first leg c place s.octets) → CheckOrImage writes leg.job c.old (begun_core leg) leg.events x.older s.octets → RelaysBy setup writes first leg (Some page) next (Relays setup writes first leg h)
    of x (inl check) = absurd (zeros_mean_none check.0 (format_of s.dcs) (coding_of s.dcs) page (subst (λ (os : List ℕ). MeansPage (format_of s.dcs) (coding_of s.dcs) os page) check.1 s.means))
    of x (inr b) =
        let d : HasDcs h s.dcs = answered_in h s.dcs s.answered in (
          b.image.page,
          f place s.octets x b l,
          image_relayed setup writes first leg c s.octets page s.dcs b.image (k d.octets s.dcs d.heard d.says) s.means,
          go b.image.page (λ other octets y e m.
              later_page writes leg.job c.old (begun_core leg) leg.events (CheckOrImage writes leg.job c.old (begun_core leg) leg.events) other place octets s.octets y x e b m),
        )

rises_relay : (setup : Setup) (writes : Writing) (first : List Event) (leg : CalledLeg) (c : Call setup writes first leg) (h : List Entry) (bound next : ℕ) → Kinds setup writes first leg c h → Before setup writes first leg c bound next
    → Rises (reverse leg.given) h bound → Relays setup writes first leg h next
rises_relay setup writes first leg c [] bound next k f r = tt
rises_relay setup writes first leg c (e ∷ h) bound next k f r =
    by (page_accepted e.decision) (λ b n before rest. rises_relay setup writes first leg c h b n older before rest) r
  where
    older : Kinds setup writes first leg c h
    older octets dcs has says = k octets dcs (inr has) says

    by : (o : Option PageValue) → ((b n : ℕ) → Before setup writes first leg c b n → Rises (reverse leg.given) h b → Relays setup writes first leg h n)
        → RisesBy (reverse leg.given) h o bound (Rises (reverse leg.given) h) → RelaysBy setup writes first leg o next (Relays setup writes first leg h)
    by None go r = go bound next f r
    by (Some page) go r = step setup writes first leg c h page r.0 bound next older f r.1 r.2 (λ n before. go r.0 n before r.3)

-- of a call that was placed
relay : (setup other : Setup) (writes others : Writing) (first second : List Event) (leg : CalledLeg) (l : CallingLeg) → IsWriting writes → IsJoined setup other writes others first second leg l → HasNoEom (reverse leg.given)
    → leg.placed ≡ true → KeptLeg writes (WasConfirmed setup first) leg → IsOfTheFirst leg l → Relays setup writes first leg (history_of l) (length leg.job.pages)
relay setup other writes others first second leg l w j none placed kept hears =
    let i : InCall writes leg (book_of (both_legs setup writes first)).sending (leg_marks setup writes first) =
    subst (λ (o : Option CalledLeg). IfInCall writes o (book_of (both_legs setup writes first)).sending (leg_marks setup writes first)) j.is_leg (in_call setup writes first j.is_first) in
    let slots : slots_of (reverse leg.given) ≡ map Some (map written (call_packets writes leg leg.events)) =
    map_back leg.given ∙ ap (λ (packets : List (List ℕ)). let ss : List Slot = map Some packets in ss) kept.given_is in
    let one : OneKind writes leg.job leg.before leg.begun leg.events =
    one_kind writes leg.job leg.before leg.begun leg.events w kept.holds.is_job
    (from_begun (λ (a : CallerCore). list_any is_eom_frame (pieces.pieces (map Some (map written (call.packets_given writes leg.job a leg.events)))) ≡ false) leg placed
    (subst (λ (ss : List Slot). list_any is_eom_frame (pieces.pieces ss) ≡ false) slots none)) in
    let c : Call setup writes first leg = record { are_texts = w; placed = placed; kept = kept; old = i.old; marks_are = i.marks_are; one = one } in
    rises_relay setup writes first leg c (history_of l) (length (reverse leg.given)) (length leg.job.pages)
    (λ octets dcs has says. one.heard octets dcs
    (from_begun (λ (a : CallerCore). Contains (pieces.pieces (map Some (map written (call.packets_given writes leg.job a leg.events)))) (pieces.Frame octets)) leg placed
    (subst (λ (ss : List Slot). Contains (pieces.pieces ss) (pieces.Frame octets)) slots (hears.frames octets (contains (pieces_heard (history_of l)) octets has)))) says)
    (λ place octets x b m. place_within leg.job.pages b.image.page b.image.means.page b.image.means.is_page)
    hears.signals

-- a call that was not placed gave nothing, so that no page is of it
none_rises : (setup : Setup) (writes : Writing) (first : List Event) (leg : CalledLeg) (h : List Entry) (bound next : ℕ) → bound ≡ 0
    → Rises (reverse leg.given) h bound → Relays setup writes first leg h next
none_rises setup writes first leg [] bound next none r = tt
none_rises setup writes first leg (e ∷ h) bound next none r = by (page_accepted e.decision) (none_rises setup writes first leg h bound next none) r
  where
    by : (o : Option PageValue) → (Rises (reverse leg.given) h bound → Relays setup writes first leg h next) → RisesBy (reverse leg.given) h o bound (Rises (reverse leg.given) h)
        → RelaysBy setup writes first leg o next (Relays setup writes first leg h)
    by None earlier k = earlier k
    by (Some page) earlier k = let l : k.0 < bound = k.1 in absurd (omega (arith, none, l))

given_none : (writes : Writing) (leg : CalledLeg) → leg.placed ≡ false → leg.given ≡ map written (call_packets writes leg leg.events) → length (reverse leg.given) ≡ 0
given_none writes leg unplaced given =
    ap (λ (packets : List (List ℕ)). length (reverse packets)) (given ∙ ap (λ (packets : List Packet). map written packets) (packets_none writes leg unplaced))

pub chains_relay : ChainsRelay
chains_relay setup other writes others first second leg l w j none = by leg.placed refl
  where
    kept : KeptLeg writes (WasConfirmed setup first) leg
    kept = kept_leg setup writes first leg w j.is_first j.is_leg

    hears : IsOfTheFirst leg l
    hears = chains_hear setup other writes others first second leg l w j

    by : (b : Bool) → leg.placed ≡ b → Relays setup writes first leg (history_of l) (length leg.job.pages)
    by false unplaced = none_rises setup writes first leg (history_of l) (length (reverse leg.given)) (length leg.job.pages) (given_none writes leg unplaced kept.given_is) hears.signals
    by true placed = relay setup other writes others first second leg l w j none placed kept hears
