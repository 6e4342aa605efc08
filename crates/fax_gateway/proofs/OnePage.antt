-- What is confirmed of a call of a job whose pages are all one page is that page.
use Rattle.std.proofs.Common.{◌≡◌, ℕ, zero, suc, ◌+◌, Bool, true, false, ◌&&◌, List, [], ◌∷◌, map, reverse, slice_get, Option, Some, None, inl, inr, refl, ◌∙◌, ap, subst, if◌then◌else◌}
use Rattle.std.specs.Prelude.{Contains, IfSome}
use Rattle.fax_runcodes.specs.declared.Width.{Width}
use Rattle.fax_runcodes.specs.declared.Width.TheVariants.{W1728, W2048, W2432}
use Rattle.fax_runcodes.specs.declared.format.Format.{Format}
use Rattle.fax_frames.specs.declared.dcs.Dcs.{Dcs}
use Rattle.fax_frames.specs.Capabilities.{format_of, coding_of}
use Rattle.fax_pagestore.specs.Pages.{PageValue}
use Rattle.fax_pagestore.specs.PageTexts.{MeansPage}
use Rattle.fax_ifp.specs.Elements.{Slot}
use Rattle.fax_ifp.specs.Pieces as pieces
use Rattle.fax_ifp.specs.Schedules.{slots_of, signal_at}
use Rattle.fax_ifp.proofs.SentFrames.{Has}
use Rattle.fax_jobs.specs.Jobs.{JobValue}
use Rattle.fax_answer.specs.History.{Entry}
use Rattle.fax_answer.specs.Sent.{pieces_heard, IsOfSignal, page_accepted, RisesBy, Rises}
use Rattle.fax_call.specs.Writings.{Writing, IsWriting}
use Rattle.fax_call.specs.Replies.{written, same_width, same_bool, same_format, turn_if}
use Rattle.fax_call.specs.Calls.{CallerCore, formats_of, started}
use Rattle.fax_call.specs.Given.{IsOfKind, packets_given}
use Rattle.fax_call.specs.GivenSignals.{IsImage}
use Rattle.fax_call.proofs.FinePackets.{OneKind}
use Rattle.fax_call.proofs.GivenSignals.{CheckOrImage, signal_given}
use Rattle.fax_call.proofs.SignalsGiven.{IsEnded, map_back}
use Rattle.fax_gateway.specs.CalledLegs.{CalledLeg}
use Rattle.fax_gateway.proofs.Chained.{KeptLeg}
use Rattle.fax_gateway.proofs.Held.{EachPage, page_at}
use Rattle.fax_gateway.proofs.Relayed.{HasDcs, answered_in, image_kind, means_as}
use Rattle.fax_gateway.proofs.ServedAlone.{same_page}
use Rattle.fax_gateway.proofs.Unplaced.{from_begun}
use Rattle.fax_gateway.proofs.Zeros.{zeros_mean_none}
use Rattle.fax_call.proofs.NoEom.{IsOneFormat, one_kind_of}

-- ---- pages that are all one
abbrev pub IsThe : PageValue → ℕ → PageValue → Type 0
IsThe page call p = p ≡ page

abbrev pub AreAll : PageValue → List PageValue → Type 0
AreAll page pages = EachPage (IsThe page 0) pages

-- have one format
width_same : (w : Width) → same_width w w ≡ true
width_same W1728 = refl
width_same W2048 = refl
width_same W2432 = refl

bool_same : (b : Bool) → same_bool b b ≡ true
bool_same true = refl
bool_same false = refl

format_same : (f : Format) → same_format f f ≡ true
format_same f = by (same_width f.width f.width) (same_bool f.fine f.fine) (width_same f.width) (bool_same f.fine)
  where
    by : (a b : Bool) → a ≡ true → b ≡ true → (a && b) ≡ true
    by true true e g = refl
    by true false e g = g
    by false b e g = cc

none_turns : (f g h : Format) → g ≡ f → h ≡ f → turn_if (Some g) (Some h) ≡ None
none_turns f g h a b =
    ap (λ (x : Format). turn_if (Some x) (Some h)) a ∙ ap (λ (x : Format). turn_if (Some f) (Some x)) b ∙ by (same_format f f) (format_same f)
  where
    by : (t : Bool) → t ≡ true → (if t then None else Some f) ≡ None
    by true e = refl
    by false e = cc

if_format : (page : PageValue) (pages : List PageValue) (n : ℕ) → AreAll page pages → IfSome (slice_get (map (λ p. p.format) pages) n) (λ f. f ≡ page.format)
if_format page [] n a = tt
if_format page (p ∷ pages) zero a = ap (λ (x : PageValue). x.format) a.0
if_format page (p ∷ pages) (suc n) a = if_format page pages n a.1

turn_none : (f : Format) (o next : Option Format) → IfSome o (λ g. g ≡ f) → IfSome next (λ g. g ≡ f) → turn_if o next ≡ None
turn_none f None next a b = refl
turn_none f (Some g) None a b = refl
turn_none f (Some g) (Some h) a b = none_turns f g h a b

pub one_format : (page : PageValue) (job : JobValue) → AreAll page job.pages → IsOneFormat (formats_of job)
one_format page job a n = turn_none page.format (slice_get (formats_of job) n) (slice_get (formats_of job) (n + 1)) (if_format page job.pages n a) (if_format page job.pages (n + 1) a)

-- ---- A LEG whose call was placed, that gave what the call of its job gives, and whose pages are all one
abbrev pub call_begun : CalledLeg → CallerCore
call_begun l = started l.before l.job l.begun

pub record Gives (writes : Writing) (page : PageValue) (l : CalledLeg) : Type 0 where
  pub placed : l.placed ≡ true
  pub kept : KeptLeg writes (IsThe page) l

pub call_gave : (writes : Writing) (page : PageValue) (l : CalledLeg) → Gives writes page l → l.given ≡ map written (packets_given writes l.job (call_begun l) l.events)
call_gave writes page l g = from_begun (λ (a : CallerCore). l.given ≡ map written (packets_given writes l.job a l.events)) l g.placed g.kept.given_is

-- ---- WHO HEARS IT: each page for which MCF is decided is the one
abbrev pub Accepts : PageValue → List Entry → Type 0
Accepts page [] = Unit {0}
Accepts page (e ∷ before) = IfSome (page_accepted e.decision) (λ p. p ≡ page) × Accepts page before

-- a signal that it gave to its end at a place
abbrev Signal : (writes : Writing) (l : CalledLeg) → ℕ → List ℕ → Type 0
Signal writes l place octets = IsEnded (CheckOrImage writes l.job [] (call_begun l) l.events) (packets_given writes l.job (call_begun l) l.events) place octets

signal_is : (writes : Writing) (page : PageValue) (l : CalledLeg) (place : ℕ) (octets : List ℕ) → IsWriting writes → Gives writes page l → signal_at (reverse l.given) place ≡ Some octets → Signal writes l place octets
signal_is writes page l place octets w g h =
    signal_given writes l.job [] l.before l.begun l.events place octets w g.kept.holds.is_job (subst (λ (packets : List (List ℕ)). signal_at (reverse packets) place ≡ Some octets) (call_gave writes page l g) h)

-- each DCS that was heard is of the call's kind
abbrev Kinds : (writes : Writing) (l : CalledLeg) → OneKind writes l.job l.before l.begun l.events → List Entry → Type 0
Kinds writes l one h = (dcs : Dcs) → HasDcs h dcs → IsOfKind l.job.format one.coding dcs

of_signal : (writes : Writing) (page : PageValue) (l : CalledLeg) (one : OneKind writes l.job l.before l.begun l.events) (h : List Entry) (p : PageValue) (place : ℕ)
    → IsWriting writes → Gives writes page l → Kinds writes l one h → IsOfSignal (reverse l.given) h p place → p ≡ page
of_signal writes page l one h p place w g k s =
    let x : Signal writes l place s.octets = signal_is writes page l place s.octets w g s.signal in
    by x x.holds
  where
    by : (x : Signal writes l place s.octets) → CheckOrImage writes l.job [] (call_begun l) l.events x.older s.octets → p ≡ page
    by x (inl check) = absurd (zeros_mean_none check.0 (format_of s.dcs) (coding_of s.dcs) p (subst (λ (os : List ℕ). MeansPage (format_of s.dcs) (coding_of s.dcs) os p) check.1 s.means))
    by x (inr b) =
        let i : IsImage writes l.job [] (call_begun l) l.events s.octets = b.image in
        let own : IsOfKind l.job.format one.coding i.dcs = image_kind (IsOfKind l.job.format one.coding) writes l.job [] (call_begun l) l.events s.octets i one.given in
        same_page l.job.format one.coding s.octets p i.means.page (means_as l.job.format one.coding s.dcs s.octets p (k s.dcs (answered_in h s.dcs s.answered)) s.means)
        (means_as l.job.format one.coding i.dcs s.octets i.means.page own i.means.means)
        ∙ page_at (IsThe page l.job.call) l.job.pages i.page i.means.page g.kept.holds.pages i.means.is_page

rises_accept : (writes : Writing) (page : PageValue) (l : CalledLeg) (one : OneKind writes l.job l.before l.begun l.events) (h : List Entry) (bound : ℕ)
    → IsWriting writes → Gives writes page l → Kinds writes l one h → Rises (reverse l.given) h bound → Accepts page h
rises_accept writes page l one [] bound w g k r = tt
rises_accept writes page l one (e ∷ h) bound w g k r = by (page_accepted e.decision) (λ b rest. rises_accept writes page l one h b w g older rest) r
  where
    older : Kinds writes l one h
    older dcs x = k dcs (record { octets = x.octets; heard = inr x.heard; says = x.says })

    by : (o : Option PageValue) → ((b : ℕ) → Rises (reverse l.given) h b → Accepts page h) → RisesBy (reverse l.given) h o bound (Rises (reverse l.given) h) → IfSome o (λ p. p ≡ page) × Accepts page h
    by None go r = (tt, go bound r)
    by (Some p) go r = (of_signal writes page l one h p r.0 w g older r.2, go r.0 r.3)

pub accepts_the_page : (writes : Writing) (page : PageValue) (l : CalledLeg) (h : List Entry) (bound : ℕ) → IsWriting writes → Gives writes page l → Rises (reverse l.given) h bound
    → ((octets : List ℕ) → Has (pieces_heard h) octets → Contains (pieces.pieces (slots_of (reverse l.given))) (pieces.Frame octets)) → Accepts page h
accepts_the_page writes page l h bound w g r frames =
    let one : OneKind writes l.job l.before l.begun l.events = one_kind_of writes l.job l.before l.begun l.events w g.kept.holds.is_job (one_format page l.job g.kept.holds.pages) in
    let slots : slots_of (reverse l.given) ≡ map Some (map written (packets_given writes l.job (call_begun l) l.events)) =
    map_back l.given ∙ ap (λ (packets : List (List ℕ)). let ss : List Slot = map Some packets in ss) (call_gave writes page l g) in
    rises_accept writes page l one h bound w g
    (λ dcs x. one.heard x.octets dcs (subst (λ (ss : List Slot). Contains (pieces.pieces ss) (pieces.Frame x.octets)) slots (frames x.octets x.heard)) x.says) r
