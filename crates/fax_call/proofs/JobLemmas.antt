-- The formats that are kept of a job stay those of its pages.
use Rattle.std.proofs.Common.{◌≡◌, ℕ, zero, suc, ◌<◌, false, List, [], ◌∷◌, length, slice_get, Option, Some, None, refl, sym, ◌∙◌, ap, subst, arith}
use Rattle.std.proofs.lemmas.List.{length-map}
use Rattle.std.proofs.lemmas.List.Elements.{All-nil}
use Rattle.fax_bits.proofs.BitsLemmas.{bits_of-nil}
use Rattle.fax_runcodes.specs.declared.Width.TheVariants.{W1728}
use Rattle.fax_runcodes.specs.declared.format.Coding.TheVariants.{Mh}
use Rattle.fax_runcodes.specs.declared.format.Format.{Format}
use Rattle.fax_frames.specs.declared.dcs.Dcs.{Dcs}
use Rattle.fax_pagestore.specs.declared.writer.Place.TheVariants.{End}
use Rattle.fax_pagestore.specs.Pages.{PageValue}
use Rattle.fax_pagestore.specs.Writers.{WriterValue, HasLeft}
use Rattle.fax_ifp.specs.Pieces.{Piece}
use Rattle.fax_jobs.specs.Jobs.{JobValue}
use Rattle.fax_call.specs.declared.pending.Pending.{Pending}
use Rattle.fax_call.specs.declared.pending.Pending.TheVariants.{Nothing, Tone, Preamble, Frame, Training, Check, Image, Text}
use Rattle.fax_call.specs.declared.procedure.Procedure.{Procedure}
use Rattle.fax_call.specs.Writings.{Writing}
use Rattle.fax_call.specs.Replies.{command_after}
use Rattle.fax_call.specs.Table.{Counts, Move, Stays, Trains, Sends, AsksAgain, Turns, Closes, HangsUp}
use Rattle.fax_call.specs.Calls.{CallerCore, formats_of, text_at, moved, came, came_all, timed}
use Rattle.fax_call.specs.Rep.{counts_shown, waiting_of}
use Rattle.fax_call.specs.Following.{IsFit, IsLeft, KeepsTurn, Follows, HasFormats}
use Rattle.fax_call.proofs.Due.{IsDue, came_due, timed_due}

-- ---- a core for which a procedure stands

core_of : Procedure → JobValue → CallerCore
core_of p job =
    record {
      state = p.state;
      format = p.format;
      formats = formats_of job;
      pages = p.pages;
      counts = counts_shown p.counts;
      waiting = waiting_of p.pending (command_after (formats_of job) p.pages p.counts.page) p.counts.page 0;
      t1 = p.t1;
      t4 = p.t4;
      pace = p.pace;
      outcome = p.outcome;
    }

-- where no page has a text, none is left
empty : Writing
empty page coding least = []

no_text : (job : JobValue) (page : ℕ) (dcs : Dcs) → text_at empty job page dcs ≡ []
unfolding empty
no_text job page dcs = by (slice_get job.pages page)
  where
    by : (o : Option PageValue) → Rattle.fax_call.specs.Calls.text_if empty dcs o ≡ []
    by None = refl
    by (Some p) = refl

-- a writer of a page that has given all of it
done : Option PageValue → WriterValue
done None = record { format = record { width = W1728; fine = false }; coding = Mh; least = 0; place = End; waiting = [] }
done (Some page) = record { format = page.format; coding = Mh; least = 0; place = End; waiting = [] }

done_of : Procedure → JobValue → WriterValue
done_of p job = done (slice_get job.pages p.counts.page)

done_has : (page : PageValue) → HasLeft page [] (done (Some page))
unfolding done
done_has page = record { are_octets = All-nil (λ (o : ℕ). o < 256); same_format = refl; text = []; written = refl; padded = (0, omega arith, bits_of-nil) }

none_left : (job : JobValue) (page : ℕ) (q : Pending) → IsLeft empty job page 0 q (done (slice_get job.pages page))
none_left job page Nothing = tt
none_left job page Tone = tt
none_left job page (Preamble m) = tt
none_left job page (Frame m) = tt
none_left job page (Training dcs) = tt
none_left job page (Check dcs given) = tt
none_left job page (Image dcs) = tt
none_left job page (Text dcs plain) = λ value at.
    subst (λ (octets : List ℕ). HasLeft value octets (done (slice_get job.pages page))) (sym (no_text job page dcs))
    (subst (λ (o : Option PageValue). HasLeft value [] (done o)) (sym at) (done_has value))

follows_itself : (job : JobValue) (p : Procedure) → HasFormats p job → Follows empty job (core_of p job) (done_of p job) p
unfolding core_of done_of
follows_itself job p h =
    record {
      state = refl;
      format = refl;
      formats = λ on. refl;
      turn = h.turn;
      pages = refl;
      counts = refl;
      from = 0;
      waiting = refl;
      left = none_left job p.counts.page p.pending;
      t1 = refl;
      t4 = refl;
      pace = refl;
      outcome = refl;
    }

pages_itself : (job : JobValue) (p : Procedure) → HasFormats p job → (core_of p job).pages ≡ length job.pages
unfolding core_of
pages_itself job p h = sym h.pages

due_itself : (job : JobValue) (p : Procedure) → HasFormats p job → IsDue (formats_of job) (core_of p job)
unfolding core_of
due_itself job p h = record { formats = refl; due = λ f k. let e : Some f ≡ Some p.format = sym k ∙ h.due in cc }

-- ---- and back

some_at : (fs : List Format) (n : ℕ) → n < length fs → (f : Format) × (slice_get fs n ≡ Some f)
some_at [] n h = absurd (omega arith)
some_at (f ∷ fs) zero h = (f, refl)
some_at (f ∷ fs) (suc n) h = some_at fs n (omega arith)

has_formats : (writes : Writing) (job : JobValue) (core : CallerCore) (writer : WriterValue) (p : Procedure) → Follows writes job core writer p → IsDue (formats_of job) core → core.pages ≡ length job.pages → IsFit p
    → HasFormats p job
has_formats writes job core writer p f d pages fit =
    record {
      pages = sym pages ∙ sym f.pages;
      due = at.1 ∙ ap (λ (x : Format). Some x) (d.due at.0 (sym (ap (slice_get (formats_of job)) page) ∙ at.1) ∙ sym f.format);
      turn = subst (λ (fs : List Format). KeepsTurn p.state p.pending fs p.counts.page p.turn) d.formats f.turn;
    }
  where
    page : p.counts.page ≡ core.counts.page
    page = ap (λ (c : Counts). c.page) f.counts

    within : p.counts.page < length (formats_of job)
    within =
        let all : length (formats_of job) ≡ length job.pages = length-map job.pages (λ (x : PageValue). x.format) in
        let as_many : p.pages ≡ length job.pages = f.pages ∙ pages in
        let less : p.counts.page < p.pages = fit.within in
        omega arith

    at : (x : Format) × (slice_get (formats_of job) p.counts.page ≡ Some x)
    at = some_at (formats_of job) p.counts.page within

-- ---- what comes, and the timers

moved_pages : (a : CallerCore) (m : Move) → (moved a m).pages ≡ a.pages
moved_pages a Stays = refl
moved_pages a (Trains dis dcs c) = refl
moved_pages a (Sends dis dcs c) = refl
moved_pages a (AsksAgain c) = refl
moved_pages a (Turns format t1 c) = refl
moved_pages a (Closes outcome c) = refl
moved_pages a HangsUp = refl

all_due : (fs : List Format) (a : CallerCore) (ps : List Piece) (now : ℕ) → IsDue fs a → IsDue fs (came_all a ps now)
all_due fs a [] now d = d
all_due fs a (p ∷ ps) now d = all_due fs (came a p now) ps now (came_due fs a p now d)

all_pages : (a : CallerCore) (ps : List Piece) (now : ℕ) → (came_all a ps now).pages ≡ a.pages
all_pages a [] now = refl
all_pages a (p ∷ ps) now = all_pages (came a p now) ps now ∙ moved_pages a _

pub heard_job : (old new : Procedure) (job : JobValue) (ps : List Piece) (now : ℕ)
    → ((writes : Writing) (job : JobValue) (core : CallerCore) (writer : WriterValue) → Follows writes job core writer old → Follows writes job (came_all core ps now) writer new)
    → IsFit new → HasFormats old job → HasFormats new job
heard_job old new job ps now heard fit h =
    let core : CallerCore = core_of old job in
    has_formats empty job (came_all core ps now) (done_of old job) new (heard empty job core (done_of old job) (follows_itself job old h)) (all_due (formats_of job) core ps now (due_itself job old h))
    (all_pages core ps now ∙ pages_itself job old h) fit

pub acted_job : (old new : Procedure) (job : JobValue) (now : ℕ)
    → ((writes : Writing) (job : JobValue) (core : CallerCore) (writer : WriterValue) → Follows writes job core writer old → Follows writes job (timed core now) writer new)
    → IsFit new → HasFormats old job → HasFormats new job
acted_job old new job now acted fit h =
    let core : CallerCore = core_of old job in
    has_formats empty job (timed core now) (done_of old job) new (acted empty job core (done_of old job) (follows_itself job old h)) (timed_due (formats_of job) core now (due_itself job old h))
    (moved_pages core _ ∙ pages_itself job old h) fit
