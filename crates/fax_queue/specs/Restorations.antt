-- What a line is restored with after a crash: the pages of its own that wait, in the calls that they came in. Lists have the
-- oldest first. (This project's profile.)
use Rattle.std.specs.Prelude.{◌≡◌, ℕ, ◌⊎◌, Bool, true, false, not, ◌&&◌, nat_eq, bytes_eq, List, [], ◌∷◌, ◌++◌, length, map, if◌then◌else◌}
use Rattle.std.specs.Str.{is_utf8}
use Rattle.std.specs.List.{All, filter}
use Rattle.fax_runcodes.specs.declared.format.Coding.TheVariants.{Mr}
use Rattle.fax_pagestore.specs.Pages.{PageValue}
use Rattle.fax_pagestore.specs.PageTexts.{MeansPage}
use Rattle.fax_jobs.specs.Cuts.{Confirmation}
use Rattle.fax_spool.specs.RecordOctets as spool
use Rattle.fax_spool.specs.Torn.{CallName, is_of_any}
use Rattle.fax_gateway.specs.Restored.{RestoredCall, call_shown}
use Rattle.fax_queue.specs.Queues.{AreInOrder, TagValue}
use Rattle.fax_queue.specs.declared.queue.Aside.{Aside}
use Rattle.fax_queue.specs.declared.queue.QueuedPage.{QueuedPage}
use Rattle.fax_queue.specs.declared.restored.RestoredLine.{RestoredLine}

-- of the pages that wait, those of a line
abbrev pub own_pages : List ℕ → List spool.PageValue → List spool.PageValue
own_pages line pages = filter (λ page. bytes_eq page.line line) pages

-- A FAX THAT LACKS A PAGE IS NOT SENT: of the pages that wait, those of calls of which no page is known to be lost.
abbrev pub whole_pages : List CallName → List spool.PageValue → List spool.PageValue
whole_pages torn pages = filter (λ page. not (is_of_any torn page)) pages

-- what the text of its record means: a page of its format, in two-dimensional coding
abbrev pub Means : spool.PageValue → PageValue → Type 0
Means waits page = MeansPage waits.format Mr waits.text page

abbrev pub MeansNone : spool.PageValue → Type 0
MeansNone waits = (page : PageValue) → Means waits page → ⊥

-- a page that waits, and the page that its text means
pub record ReadPage : Type 0 where
  pub waits : spool.PageValue
  pub page : PageValue

-- Each is read, in their order; one whose text means no page is set aside.
abbrev pub AreRead : List spool.PageValue → List ReadPage → Type 0
AreRead [] read = read ≡ []
AreRead (w ∷ waits) [] = MeansNone w × AreRead waits []
AreRead (w ∷ waits) (r ∷ read) =
    ((r.waits ≡ w) × Means w r.page × AreRead waits read) ⊎ (MeansNone w × AreRead waits (r ∷ read))

abbrev pub confirmation_of : ReadPage → Confirmation
confirmation_of r = record { page = r.page; closes = r.waits.closes }

-- Pages after one another that came in one call of one life are of one call.
abbrev pub in_one_call : spool.PageValue → spool.PageValue → Bool
in_one_call page next = nat_eq page.life next.life && nat_eq page.call next.call

abbrev pub call_with : ReadPage → RestoredCall
call_with r = record { number = r.waits.call; confirmed = confirmation_of r ∷ [] }

abbrev pub before_all : ReadPage → List RestoredCall → List RestoredCall
before_all r [] = []
before_all r (call ∷ calls) =
    record { number = call.number; confirmed = confirmation_of r ∷ call.confirmed } ∷ calls

abbrev pub before : ReadPage → List ReadPage → List RestoredCall → List RestoredCall
before r [] calls = call_with r ∷ calls
before r (next ∷ read) calls =
    if in_one_call r.waits next.waits then before_all r calls else call_with r ∷ calls

abbrev pub calls_of : List ReadPage → List RestoredCall
calls_of [] = []
calls_of (r ∷ read) = before r read (calls_of read)

-- what is known of a page that waits on the disk
abbrev pub waiting_of : ReadPage → QueuedPage
waiting_of r =
    record { life = r.waits.life; call = r.waits.call; number = r.waits.number; is_stored = true }

-- a page begins a call, where these wait before it
abbrev pub begins : List QueuedPage → spool.PageValue → Bool
begins [] page = true
begins (w ∷ []) page = not (nat_eq w.life page.life && nat_eq w.call page.call)
begins (w ∷ v ∷ waits) page = begins (v ∷ waits) page

-- the tag of the call that a page came in, where it has one that is text
abbrev pub own_tag : spool.PageValue → List TagValue
own_tag page = if is_utf8 page.tag && not (nat_eq (length page.tag) 0)
    then record { life = page.life; call = page.call; tag = page.tag } ∷ [] else []

-- The tags of the calls of these pages, where others wait before them: that of a call is its first page's.
abbrev pub tags_after : List QueuedPage → List ReadPage → List TagValue
tags_after before [] = []
tags_after before (r ∷ read) = (if begins before r.waits then own_tag r.waits else [])
    ++ tags_after (before ++ waiting_of r ∷ []) read

abbrev pub tags_of : List ReadPage → List TagValue
tags_of read = tags_after [] read

abbrev pub aside_of : spool.PageValue → Aside
aside_of w = record { life = w.life; call = w.call; number = w.number }

-- of these pages, those whose texts mean none
abbrev pub AreAside : List spool.PageValue → List Aside → Type 0
AreAside [] aside = aside ≡ []
AreAside (w ∷ waits) [] = ((page : PageValue) × Means w page) × AreAside waits []
AreAside (w ∷ waits) (a ∷ aside) =
    (((page : PageValue) × Means w page) × AreAside waits (a ∷ aside))
    ⊎ (MeansNone w × (a ≡ aside_of w) × AreAside waits aside)

-- These pages are in the calls, and on the queue of the line, and no others. The queue is whole where they are in their order.
pub record AreIn (line : List ℕ) (read : List ReadPage) (restored : RestoredLine) : Type 0 where
  pub named : restored.queue.line ≡ line
  pub calls : map call_shown restored.calls.items ≡ calls_of read
  pub waits : restored.queue.waits ≡ map waiting_of read
  pub whole : AreInOrder restored.queue.waits → restored.queue.is_whole ≡ true
  pub tags : restored.queue.tags ≡ tags_of read

-- THE CALLS OF A LINE THAT IS RESTORED are those of its own pages that wait, and so are the pages of its queue and the tags of
-- their calls; a page whose text means none is set aside.
pub record Restores (line : List ℕ) (pages : List spool.PageValue) (restored : RestoredLine) :
    Type 0 where
  pub read : List ReadPage
  pub own : AreRead (own_pages line pages) read
  pub are : AreIn line read restored
  pub aside : AreAside (own_pages line pages) restored.queue.aside

-- each of a line's own pages that wait is of a whole call
abbrev pub NoneIsTorn : List ℕ → List CallName → List spool.PageValue → Type 0
NoneIsTorn line torn pages = All (λ page. is_of_any torn page ≡ false) (own_pages line pages)

-- WHERE NONE OF A LINE'S CALLS IS TORN it is restored with all of its pages, whatever became of other lines.
abbrev pub WholeLinesAreRestored : Type 0
WholeLinesAreRestored =
    (line : List ℕ) (torn : List CallName) (pages : List spool.PageValue) (restored : RestoredLine)
    → NoneIsTorn line torn pages
    → Restores line (whole_pages torn pages) restored → Restores line pages restored

-- ---- one more page

-- the call that it begins, with no page so far
abbrev pub begun : spool.PageValue → RestoredCall
begun page = record { number = page.call; confirmed = [] }

-- it is the last of the last call
abbrev pub onto_last : Confirmation → List RestoredCall → List RestoredCall
onto_last c [] = []
onto_last c (call ∷ []) = record { number = call.number; confirmed = call.confirmed ++ c ∷ [] } ∷ []
onto_last c (call ∷ next ∷ calls) = call ∷ onto_last c (next ∷ calls)
