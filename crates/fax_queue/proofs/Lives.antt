-- What is owed waits on the disk, and is restored.
use Rattle.std.proofs.Common.{◌≡◌, ◌≢◌, ◌∙◌, ℕ, zero, suc, ◌+◌, ◌⊎◌, inl, inr, Bool, true, false, not, ◌||◌, ◌&&◌, rules, cond, if◌then◌else◌, List, [], ◌∷◌, ◌++◌, map, take, drop, count_by, Some, nat_eq, bytes_eq, refl, sym, ap, subst, arith, append_assoc}
use Rattle.std.specs.List.{filter, list_any}
use Rattle.std.proofs.lemmas.List.Sums.{sum_by-cons}
use Rattle.std.proofs.lemmas.List.{append-nil, drop-map, map-append}
use Rattle.std.proofs.lemmas.Slice.Eq.{bytes_eq-Decides}
use Rattle.fax_runcodes.specs.declared.format.Coding.TheVariants.{Mr}
use Rattle.fax_runcodes.specs.declared.format.Format.{Format}
use Rattle.fax_runcodes.specs.Rows.{Elements, IsWidth}
use Rattle.fax_runcodes.specs.Widths.{elements_of}
use Rattle.fax_runcodes.specs.declared.Width.{Width}
use Rattle.fax_runcodes.specs.declared.Width.TheVariants.{W1728, W2048, W2432}
use Rattle.fax_pagestore.specs.Pages.{PageValue}
use Rattle.fax_pagestore.specs.PageLaws.{PagesAreUnique, WrittenPagesMean}
use Rattle.fax_pagestore.specs.PageRows.{AreRows}
use Rattle.fax_pagestore.specs.PageTexts.{MeansRows}
use Rattle.fax_pagestore.specs.WrittenPages.{WritesPage}
use Rattle.fax_wires.specs.holding.Storing.{went_out, silenced_after, with_given}
use Rattle.fax_gateway.specs.declared.given.Kept.{Kept}
use Rattle.fax_spool.specs.declared.spool_record.SpoolRecord.TheVariants.{Page}
use Rattle.fax_spool.specs.RecordOctets as spool
use Rattle.fax_spool.specs.Opened.{closed, closing, same_call}
use Rattle.fax_spool.specs.Waits.{PageName, ends, name_of, without}
use Rattle.fax_queue.specs.declared.queue.QueuedPage.{QueuedPage}
use Rattle.fax_queue.specs.Restorations.{AreRead, Means, ReadPage, calls_of, own_pages, waiting_of}
use Rattle.fax_queue.specs.Queues.{AreAmong, IsAmong, left_by, name_in}
use Rattle.fax_queue.specs.Lives.{PageAction, EndsAreActions, Entry, Goes, StoredPagesAreRead, OthersAreBeside, OwedIsRestored, OwedStays, PutFirst, Puts, PutsAreActions, RestartsAreActions, RestoredQueuesAgree, State, WaitsAreOwed, WasDone, are_there, closed_read, owed, placed, on_leg, queue_of}
use Rattle.fax_queue.specs.Lives.{Turns, Begins, Stores, Refuses, Ends, Leaves, Lets, Beside, Stops}
use Rattle.fax_queue.proofs.Calls.{own_more}
use Rattle.fax_queue.proofs.Cut.{none_after, none_before}
use Rattle.fax_queue.proofs.Waits.{ends_none_of}

abbrev pages_there : List Entry → List ReadPage
pages_there entries = map (λ e. e.page) (are_there entries)

abbrev records_there : List Entry → List spool.PageValue
records_there entries = map (λ r. r.waits) (pages_there entries)

abbrev queued : Entry → QueuedPage
queued e = placed e.page e.is_there

-- each is a page of this line, which its record means
abbrev AreOf : List ℕ → List Entry → Type 0
AreOf line [] = Unit {0}
AreOf line (e ∷ entries) = (e.page.waits.line ≡ line) × Means e.page.waits e.page.page × AreOf line entries

of_more : (line : List ℕ) (entries : List Entry) (e : Entry) → AreOf line entries → e.page.waits.line ≡ line → Means e.page.waits e.page.page → AreOf line (entries ++ e ∷ [])
of_more line [] e are named means = (named, means, tt)
of_more line (x ∷ entries) e are named means = (are.0, are.1, of_more line entries e are.2 named means)

of_drop : (line : List ℕ) (n : ℕ) (entries : List Entry) → AreOf line entries → AreOf line (drop n entries)
of_drop line zero entries are = are
of_drop line (suc n) [] are = tt
of_drop line (suc n) (e ∷ entries) are = of_drop line n entries are.2

of_one : (line : List ℕ) (e : Entry) (rest : List Entry) (b : Bool) → e.page.waits.line ≡ line → Means e.page.waits e.page.page → AreOf line rest → AreOf line (cond b (e ∷ rest) rest)
of_one line e rest true named means are = (named, means, are)
of_one line e rest false named means are = are

of_there : (line : List ℕ) (entries : List Entry) → AreOf line entries → AreOf line (are_there entries)
of_there line [] are = tt
of_there line (e ∷ entries) are = of_one line e (are_there entries) e.is_there are.0 are.1 (of_there line entries are.2)

-- ---- one page more

if_one : (page : ReadPage) (b : Bool) → pages_there (record { page = page; is_there = b } ∷ []) ≡ (if b then page ∷ [] else [])
if_one page true = refl
if_one page false = refl

there_if : (e : Entry) (olds news : List Entry) (more : List ReadPage) (t : Bool) → map (λ x. x.page) news ≡ map (λ x. x.page) olds ++ more
    → map (λ x. x.page) (cond t (e ∷ news) news) ≡ map (λ x. x.page) (cond t (e ∷ olds) olds) ++ more
there_if e olds news more true rest = ap (λ (l : List ReadPage). e.page ∷ l) rest
there_if e olds news more false rest = rest

there_more : (entries : List Entry) (page : ReadPage) (b : Bool) → pages_there (entries ++ record { page = page; is_there = b } ∷ []) ≡ pages_there entries ++ (if b then page ∷ [] else [])
there_more [] page b = if_one page b
there_more (e ∷ entries) page b =
    there_if e (are_there entries) (are_there (entries ++ record { page = page; is_there = b } ∷ [])) (if b then page ∷ [] else []) e.is_there (there_more entries page b)

again_if : (e : Entry) (entries : List Entry) (t : Bool) → e.is_there ≡ t → are_there entries ≡ entries → are_there (cond t (e ∷ entries) entries) ≡ cond t (e ∷ entries) entries
again_if e entries true is rest = ap (λ (c : Bool). cond c (e ∷ are_there entries) (are_there entries)) is ∙ ap (λ (l : List Entry). e ∷ l) rest
again_if e entries false is rest = rest

there_again : (entries : List Entry) → are_there (are_there entries) ≡ are_there entries
there_again [] = refl
there_again (e ∷ entries) = again_if e (are_there entries) e.is_there refl (there_again entries)

named_own : (line : List ℕ) (w : spool.PageValue) → w.line ≡ line → own_pages line (w ∷ []) ≡ w ∷ []
named_own line w named = ap (λ (b : Bool). cond b (w ∷ []) []) ((bytes_eq-Decides w.line line).1 named)

own_put : (line : List ℕ) (page : ReadPage) (b : Bool) (olds news : List spool.PageValue) (entries : List Entry) → page.waits.line ≡ line
    → news ≡ (if b then olds ++ page.waits ∷ [] else olds) → own_pages line olds ≡ records_there entries → own_pages line news ≡ records_there (entries ++ record { page = page; is_there = b } ∷ [])
own_put line page true olds news entries named is was =
    ap (λ (l : List spool.PageValue). own_pages line l) is ∙ own_more line olds page.waits ∙ ap (λ (l : List spool.PageValue). own_pages line olds ++ l) (named_own line page.waits named)
    ∙ ap (λ (l : List spool.PageValue). l ++ page.waits ∷ []) was
    ∙ sym (ap (λ (l : List ReadPage). map (λ r. r.waits) l) (there_more entries page true) ∙ map-append (λ (r : ReadPage). r.waits) (pages_there entries) (page ∷ []))
own_put line page false olds news entries named is was =
    ap (λ (l : List spool.PageValue). own_pages line l) is ∙ was
    ∙ sym (ap (λ (l : List ReadPage). map (λ r. r.waits) l) (there_more entries page false ∙ append-nil (pages_there entries)))

-- ---- the end of a job

commute_one : {X : Type 0} (p q : X → Bool) (x : X) (xs : List X) (a b : Bool) → p x ≡ a → q x ≡ b → filter p (filter q xs) ≡ filter q (filter p xs)
    → filter p (cond b (x ∷ filter q xs) (filter q xs)) ≡ filter q (cond a (x ∷ filter p xs) (filter p xs))
commute_one {X} p q x xs true true is too rest =
    ap (λ (c : Bool). cond c (x ∷ filter p (filter q xs)) (filter p (filter q xs))) is ∙ ap (λ (l : List X). x ∷ l) rest
    ∙ sym (ap (λ (c : Bool). cond c (x ∷ filter q (filter p xs)) (filter q (filter p xs))) too)
commute_one {X} p q x xs true false is too rest = rest ∙ sym (ap (λ (c : Bool). cond c (x ∷ filter q (filter p xs)) (filter q (filter p xs))) too)
commute_one {X} p q x xs false true is too rest = ap (λ (c : Bool). cond c (x ∷ filter p (filter q xs)) (filter p (filter q xs))) is ∙ rest
commute_one {X} p q x xs false false is too rest = rest

pub commute : {X : Type 0} (p q : X → Bool) (xs : List X) → filter p (filter q xs) ≡ filter q (filter p xs)
commute p q [] = refl
commute p q (x ∷ xs) = commute_one p q x xs (p x) (q x) refl refl (commute p q xs)

abbrev stays_by : spool.EndedValue → List ℕ → QueuedPage → Bool
stays_by ended line w = not (ends ended (name_in line w))

-- the queue tells of a page what its record does
same_end : (line : List ℕ) (ended : spool.EndedValue) (e : Entry) → e.page.waits.line ≡ line → not (ends ended (name_of e.page.waits)) ≡ stays_by ended line (queued e)
same_end line ended e named =
    ap (λ (l : List ℕ). not (ends ended (record { life = e.page.waits.life; call = e.page.waits.call; number = e.page.waits.number; line = l }))) named

with_if : (line : List ℕ) (ended : spool.EndedValue) (e : Entry) (entries : List Entry) (t : Bool) → not (ends ended (name_of e.page.waits)) ≡ true
    → without ended (map (λ r. r.waits) (map (λ x. x.page) entries)) ≡ map (λ r. r.waits) (map (λ x. x.page) entries)
    → without ended (map (λ r. r.waits) (map (λ x. x.page) (cond t (e ∷ entries) entries))) ≡ map (λ r. r.waits) (map (λ x. x.page) (cond t (e ∷ entries) entries))
with_if line ended e entries true stays rest =
    let left : List spool.PageValue = without ended (map (λ r. r.waits) (map (λ x. x.page) entries)) in
    ap (λ (c : Bool). cond c (e.page.waits ∷ left) left) stays ∙ ap (λ (l : List spool.PageValue). e.page.waits ∷ l) rest
with_if line ended e entries false stays rest = rest

with_one : (line : List ℕ) (ended : spool.EndedValue) (e : Entry) (entries : List Entry) → e.page.waits.line ≡ line → stays_by ended line (queued e) ≡ true
    → without ended (records_there entries) ≡ records_there entries → without ended (records_there (e ∷ entries)) ≡ records_there (e ∷ entries)
with_one line ended e entries named stays rest = with_if line ended e (are_there entries) e.is_there (same_end line ended e named ∙ stays) rest

without_if : (line : List ℕ) (ended : spool.EndedValue) (e : Entry) (entries : List Entry) (t : Bool) → not (ends ended (name_of e.page.waits)) ≡ false
    → without ended (map (λ r. r.waits) (map (λ x. x.page) (cond t (e ∷ entries) entries))) ≡ without ended (map (λ r. r.waits) (map (λ x. x.page) entries))
without_if line ended e entries true goes =
    let left : List spool.PageValue = without ended (map (λ r. r.waits) (map (λ x. x.page) entries)) in
    ap (λ (c : Bool). cond c (e.page.waits ∷ left) left) goes
without_if line ended e entries false goes = refl

without_one : (line : List ℕ) (ended : spool.EndedValue) (e : Entry) (entries : List Entry) → e.page.waits.line ≡ line → stays_by ended line (queued e) ≡ false
    → without ended (records_there (e ∷ entries)) ≡ without ended (records_there entries)
without_one line ended e entries named goes = without_if line ended e (are_there entries) e.is_there (same_end line ended e named ∙ goes)

all_stay_if : (line : List ℕ) (ended : spool.EndedValue) (e : Entry) (entries : List Entry) (t : Bool) → stays_by ended line (queued e) ≡ t → e.page.waits.line ≡ line
    → cond t (queued e ∷ left_by ended line (map queued entries)) (left_by ended line (map queued entries)) ≡ queued e ∷ map queued entries
    → (left_by ended line (map queued entries) ≡ map queued entries → without ended (records_there entries) ≡ records_there entries)
    → without ended (records_there (e ∷ entries)) ≡ records_there (e ∷ entries)
all_stay_if line ended e entries true is named same rest = with_one line ended e entries named is (rest (ap (λ (l : List QueuedPage). drop 1 l) same))
all_stay_if line ended e entries false is named same rest = absurd (none_after (stays_by ended line) (queued e) (map queued entries) same)

all_stay : (line : List ℕ) (ended : spool.EndedValue) (entries : List Entry) → AreOf line entries → left_by ended line (map queued entries) ≡ map queued entries
    → without ended (records_there entries) ≡ records_there entries
all_stay line ended [] are same = refl
all_stay line ended (e ∷ entries) are same = all_stay_if line ended e entries (stays_by ended line (queued e)) refl are.0 same (all_stay line ended entries are.2)

first_goes : (line : List ℕ) (ended : spool.EndedValue) (n : ℕ) (e : Entry) (entries : List Entry) (t : Bool) → stays_by ended line (queued e) ≡ t → e.page.waits.line ≡ line
    → cond t (queued e ∷ left_by ended line (map queued entries)) (left_by ended line (map queued entries)) ≡ drop n (map queued entries)
    → (left_by ended line (map queued entries) ≡ drop n (map queued entries) → without ended (records_there entries) ≡ records_there (drop n entries))
    → without ended (records_there (e ∷ entries)) ≡ records_there (drop n entries)
first_goes line ended n e entries true is named same rest = absurd (none_before (stays_by ended line) n (queued e) (map queued entries) is same)
first_goes line ended n e entries false is named same rest = without_one line ended e entries named is ∙ rest same

-- so the record of the end of a job takes the first pages away, where it leaves just those after them on the queue
gone : (line : List ℕ) (ended : spool.EndedValue) (n : ℕ) (entries : List Entry) → AreOf line entries → left_by ended line (map queued entries) ≡ drop n (map queued entries)
    → without ended (records_there entries) ≡ records_there (drop n entries)
gone line ended zero entries are same = all_stay line ended entries are same
gone line ended (suc n) [] are same = refl
gone line ended (suc n) (e ∷ entries) are same = first_goes line ended n e entries (stays_by ended line (queued e)) refl are.0 same (gone line ended n entries are.2)

none_if : (n : ℕ) (e : Entry) (entries : List Entry) (t : Bool) → cond t 1 0 + count_by (λ (w : QueuedPage). w.is_stored) (take n (map queued entries)) ≡ 0
    → (count_by (λ (w : QueuedPage). w.is_stored) (take n (map queued entries)) ≡ 0 → pages_there (drop n entries) ≡ pages_there entries)
    → pages_there (drop n entries) ≡ map (λ x. x.page) (cond t (e ∷ are_there entries) (are_there entries))
none_if n e entries true none rest = absurd (omega (arith, none))
none_if n e entries false none rest = rest (omega (arith, none))

none_there : (n : ℕ) (entries : List Entry) → count_by (λ (w : QueuedPage). w.is_stored) (take n (map queued entries)) ≡ 0 → pages_there (drop n entries) ≡ pages_there entries
none_there zero entries none = refl
none_there (suc n) [] none = refl
none_there (suc n) (e ∷ entries) none =
    none_if n e entries e.is_there (sym (sum_by-cons (λ (w : QueuedPage). cond w.is_stored 1 0) (queued e) (take n (map queued entries))) ∙ none) (none_there n entries)

-- ---- a life begins

bool_differs : true ≡ false → ⊥
bool_differs same = cc

and_false : (a b : Bool) → b ≡ false → (a && b) ≡ false
and_false true b unlike = unlike
and_false false b unlike = refl

differs_if : (line one other : List ℕ) (b : Bool) → bytes_eq one other ≡ b → one ≡ line → bytes_eq other line ≡ false → b ≡ false
differs_if line one other true same is unlike = absurd (bool_differs (sym ((bytes_eq-Decides other line).1 (sym ((bytes_eq-Decides one other).0 same) ∙ is)) ∙ unlike))
differs_if line one other false same is unlike = refl

other_call : (line : List ℕ) (page other : spool.PageValue) → page.line ≡ line → bytes_eq other.line line ≡ false → same_call page other ≡ false
other_call line page other named unlike = and_false (nat_eq page.life other.life && nat_eq page.call other.call) (bytes_eq page.line other.line) (differs_if line page.line other.line (bytes_eq page.line other.line) refl named unlike)

in_call_if : (line : List ℕ) (page other : spool.PageValue) (pages : List spool.PageValue) (b : Bool) → bytes_eq other.line line ≡ b → page.line ≡ line
    → list_any (same_call page) pages ≡ list_any (same_call page) (own_pages line pages)
    → (same_call page other || list_any (same_call page) pages) ≡ list_any (same_call page) (cond b (other ∷ own_pages line pages) (own_pages line pages))
in_call_if line page other pages true is named rest = ap (λ (t : Bool). same_call page other || t) rest
in_call_if line page other pages false is named rest = ap (λ (t : Bool). t || list_any (same_call page) pages) (other_call line page other named is) ∙ rest

-- whether a page of its call waits after a page, the pages of its line tell
in_call : (line : List ℕ) (page : spool.PageValue) (pages : List spool.PageValue) → page.line ≡ line → list_any (same_call page) pages ≡ list_any (same_call page) (own_pages line pages)
in_call line page [] named = refl
in_call line page (other ∷ pages) named = in_call_if line page other pages (bytes_eq other.line line) refl named (in_call line page pages named)

own_closed_if : (line : List ℕ) (page : spool.PageValue) (pages : List spool.PageValue) (b : Bool) → bytes_eq page.line line ≡ b → own_pages line (closed pages) ≡ closed (own_pages line pages)
    → cond b (closing (page.closes || not (list_any (same_call page) pages)) page ∷ own_pages line (closed pages)) (own_pages line (closed pages))
    ≡ closed (cond b (page ∷ own_pages line pages) (own_pages line pages))
own_closed_if line page pages true is rest =
    ap (λ (t : Bool). closing (page.closes || not t) page ∷ own_pages line (closed pages)) (in_call line page pages ((bytes_eq-Decides page.line line).0 is))
    ∙ ap (λ (l : List spool.PageValue). closing (page.closes || not (list_any (same_call page) (own_pages line pages))) page ∷ l) rest
own_closed_if line page pages false is rest = rest

own_closed : (line : List ℕ) (pages : List spool.PageValue) → own_pages line (closed pages) ≡ closed (own_pages line pages)
own_closed line [] = refl
own_closed line (page ∷ pages) = own_closed_if line page pages (bytes_eq page.line line) refl (own_closed line pages)

-- ---- what is read of it

abbrev AreMeant : List ReadPage → Type 0
AreMeant [] = Unit {0}
AreMeant (r ∷ read) = Means r.waits r.page × AreMeant read

same_page : (page other : PageValue) → page.format ≡ other.format → page.rows ≡ other.rows → page ≡ other
same_page page other format rows = ap (λ (f : Format). record { format = f; rows = page.rows }) format ∙ ap (λ (r : List Elements). record { format = other.format; rows = r }) rows

is_width : (w : Width) → IsWidth (elements_of w)
is_width W1728 = search rules
is_width W2048 = search rules
is_width W2432 = search rules

pub one_page : PagesAreUnique → (w : spool.PageValue) (page other : PageValue) → Means w page → Means w other → page ≡ other
one_page unique w page other means too =
    same_page page other (means.0 ∙ sym too.0) (unique (elements_of w.format.width) Mr w.text page.rows other.rows (is_width w.format.width) means.1 too.1)

same_read : (r : ReadPage) (w : spool.PageValue) (page : PageValue) → r.waits ≡ w → r.page ≡ page → r ≡ record { waits = w; page = page }
same_read r w page is too = ap (λ (v : spool.PageValue). record { waits = v; page = r.page }) is ∙ ap (λ (p : PageValue). record { waits = w; page = p }) too

abbrev closing_read : ReadPage → List ReadPage → spool.PageValue
closing_read r read = closing (r.waits.closes || not (list_any (same_call r.waits) (map (λ s. s.waits) read))) r.waits

read_one : PagesAreUnique → (r s : ReadPage) (read all : List ReadPage) → s.waits ≡ closing_read r read → Means (closing_read r read) s.page → Means r.waits r.page → all ≡ closed_read read → s ∷ all ≡ closed_read (r ∷ read)
read_one unique r s read all is means meant rest =
    ap (λ (x : ReadPage). x ∷ all) (same_read s (closing_read r read) r.page is (one_page unique r.waits s.page r.page means meant))
    ∙ ap (λ (l : List ReadPage). record { waits = closing_read r read; page = r.page } ∷ l) rest

read_is : PagesAreUnique → (read all : List ReadPage) → AreMeant read → AreRead (closed (map (λ r. r.waits) read)) all → all ≡ closed_read read
read_is unique [] all meant are = are
read_is unique (r ∷ read) [] meant are = absurd (are.0 r.page meant.0)
read_is unique (r ∷ read) (s ∷ all) meant (inl is) = read_one unique r s read all is.0 is.1 meant.0 (read_is unique read all meant.1 is.2)
read_is unique (r ∷ read) (s ∷ all) meant (inr none) = absurd (none.0 r.page meant.0)

meant_if : (e : Entry) (entries : List Entry) (t : Bool) → Means e.page.waits e.page.page → AreMeant (map (λ x. x.page) entries) → AreMeant (map (λ x. x.page) (cond t (e ∷ entries) entries))
meant_if e entries true means rest = (means, rest)
meant_if e entries false means rest = rest

meant_there : (line : List ℕ) (entries : List Entry) → AreOf line entries → AreMeant (pages_there entries)
meant_there line [] are = tt
meant_there line (e ∷ entries) are = meant_if e (are_there entries) e.is_there are.1 (meant_there line entries are.2)

queue_if : (e : Entry) (entries : List Entry) (t : Bool) → e.is_there ≡ t → map waiting_of (closed_read (map (λ x. x.page) entries)) ≡ map queued entries
    → map waiting_of (closed_read (map (λ x. x.page) (cond t (e ∷ entries) entries))) ≡ map queued (cond t (e ∷ entries) entries)
queue_if e entries true is rest = ap (λ (l : List QueuedPage). placed e.page true ∷ l) rest ∙ ap (λ (b : Bool). placed e.page b ∷ map queued entries) (sym is)
queue_if e entries false is rest = rest

queue_is : (entries : List Entry) → map waiting_of (closed_read (pages_there entries)) ≡ map queued (are_there entries)
queue_is [] = refl
queue_is (e ∷ entries) = queue_if e (are_there entries) e.is_there refl (queue_is entries)

-- ---- all actions

record Stands (line : List ℕ) (entries : List Entry) (state : State) : Type 0 where
  own : own_pages line state.pages ≡ records_there entries
  are : AreOf line entries
  queue : state.notes ≡ true → state.waits ≡ map queued entries

restored_is : PagesAreUnique → (line : List ℕ) (entries : List Entry) (pages : List spool.PageValue) (read : List ReadPage) → own_pages line pages ≡ records_there entries → AreOf line entries
    → AreRead (own_pages line (closed pages)) read → read ≡ closed_read (pages_there entries)
restored_is unique line entries pages read own are reads =
    read_is unique (pages_there entries) read (meant_there line entries are)
    (subst (λ (l : List spool.PageValue). AreRead l read) (own_closed line pages ∙ ap (λ (l : List spool.PageValue). closed l) own) reads)

put : (line : List ℕ) (entries : List Entry) (page : ReadPage) (b : Bool) (old new : State) → Puts line page b old new → Stands line entries old → Stands line (entries ++ record { page = page; is_there = b } ∷ []) new
put line entries page b old new puts was = record {
  own = own_put line page b old.pages new.pages entries puts.line_is puts.there was.own;
  are = of_more line entries (record { page = page; is_there = b }) was.are puts.line_is puts.means;
  queue = λ notes.
      (puts.queued notes).1 ∙ ap (λ (l : List QueuedPage). l ++ placed page b ∷ []) (was.queue (puts.queued notes).0)
      ∙ sym (map-append queued entries (record { page = page; is_there = b } ∷ []));
}

stands : PagesAreUnique → (line : List ℕ) (action : PageAction) (actions : List PageAction) (old new : State) → Stands line (queue_of actions) old → Goes line action old new → Stands line (queue_of (action ∷ actions)) new
stands unique line (Turns given) actions old new was goes = subst (λ (s : State). Stands line (queue_of actions) s) (sym goes) was
stands unique line Begins actions old new was goes = subst (λ (s : State). Stands line (queue_of actions) s) (sym goes) was
stands unique line (Stores given page) actions old new was goes = put line (queue_of actions) page true old new goes was
stands unique line (Refuses given page is_there) actions old new was goes = put line (queue_of actions) page is_there old new goes.0 was
stands unique line (Ends pages) actions old new was goes =
    let entries = queue_of actions in
    let same = was.queue goes.sure in
    record {
      own =
          ap (λ (l : List spool.PageValue). own_pages line l) goes.gone ∙ commute (λ (p : spool.PageValue). bytes_eq p.line line) (λ (p : spool.PageValue). not (ends goes.ended (name_of p))) old.pages
          ∙ ap (λ (l : List spool.PageValue). without goes.ended l) was.own
          ∙ gone line goes.ended pages entries was.are (subst (λ (l : List QueuedPage). left_by goes.ended line l ≡ drop pages l) same goes.leaves);
      are = of_drop line pages entries was.are;
      queue = λ notes. goes.queued notes ∙ ap (λ (l : List QueuedPage). drop pages l) same ∙ drop-map queued pages entries;
    }
stands unique line (Leaves pages) actions old new was goes = record {
  own = ap (λ (l : List spool.PageValue). own_pages line l) goes.0 ∙ was.own;
  are = was.are;
  queue = λ notes. absurd (bool_differs (sym notes ∙ goes.1));
}
stands unique line (Lets pages) actions old new was goes =
    let entries = queue_of actions in
    let same = was.queue goes.sure in
    record {
      own =
          ap (λ (l : List spool.PageValue). own_pages line l) goes.same ∙ was.own
          ∙ sym (ap (λ (l : List ReadPage). map (λ r. r.waits) l) (none_there pages entries (subst (λ (l : List QueuedPage). count_by (λ (w : QueuedPage). w.is_stored) (take pages l) ≡ 0) same goes.none)));
      are = of_drop line pages entries was.are;
      queue = λ notes. goes.queued notes ∙ ap (λ (l : List QueuedPage). drop pages l) same ∙ drop-map queued pages entries;
    }
stands unique line Beside actions old new was goes = record {
  own = goes.same ∙ was.own;
  are = was.are;
  queue = λ notes. (goes.queued notes).1 ∙ was.queue (goes.queued notes).0;
}
stands unique line Stops actions old new was goes =
    let entries = queue_of actions in
    record {
      own = goes.same ∙ was.own ∙ sym (ap (λ (l : List Entry). map (λ r. r.waits) (map (λ e. e.page) l)) (there_again entries));
      are = of_there line entries was.are;
      queue = λ notes. goes.queued ∙ ap (λ (l : List ReadPage). map waiting_of l) (restored_is unique line entries old.pages goes.read was.own was.are goes.own) ∙ queue_is entries;
    }

all_stand : PagesAreUnique → (line : List ℕ) (actions : List PageAction) (state : State) → WasDone line actions state → Stands line (queue_of actions) state
all_stand unique line [] state done = record { own = done.1; are = tt; queue = λ notes. done.0 }
all_stand unique line (action ∷ actions) state done = stands unique line action actions done.0 state (all_stand unique line actions done.0 done.1) done.2

pub waits_are_owed : PagesAreUnique → WaitsAreOwed
waits_are_owed unique line actions state done = (all_stand unique line actions state done).own

pub owed_is_restored : PagesAreUnique → OwedIsRestored
owed_is_restored unique line actions state restored done restores =
    let was = all_stand unique line actions state done in
    restores.are.calls ∙ ap (λ (l : List ReadPage). calls_of l) (restored_is unique line (queue_of actions) state.pages restores.read was.own was.are restores.own)

-- ---- what is owed stays

one_more : (page : ReadPage) (b : Bool) (olds more : List ReadPage) (entries : List Entry) → pages_there entries ≡ olds ++ more
    → pages_there (entries ++ record { page = page; is_there = b } ∷ []) ≡ olds ++ (more ++ (if b then page ∷ [] else []))
one_more page b olds more entries was = there_more entries page b ∙ ap (λ (l : List ReadPage). l ++ (if b then page ∷ [] else [])) was ∙ append_assoc olds more (if b then page ∷ [] else [])

pub owed_stays : OwedStays
owed_stays [] actions none = ([], sym (append-nil (owed actions)))
owed_stays (Turns given ∷ later) actions none = owed_stays later actions none
owed_stays (Begins ∷ later) actions none = owed_stays later actions none
owed_stays (Stores given page ∷ later) actions none =
    let was = owed_stays later actions none in
    (was.0 ++ page ∷ [], one_more page true (owed actions) was.0 (queue_of (later ++ actions)) was.1)
owed_stays (Refuses given page is_there ∷ later) actions none =
    let was = owed_stays later actions none in
    (was.0 ++ (if is_there then page ∷ [] else []), one_more page is_there (owed actions) was.0 (queue_of (later ++ actions)) was.1)
owed_stays (Ends pages ∷ later) actions none = absurd none
owed_stays (Leaves pages ∷ later) actions none = owed_stays later actions none
owed_stays (Lets pages ∷ later) actions none = absurd none
owed_stays (Beside ∷ later) actions none = owed_stays later actions none
owed_stays (Stops ∷ later) actions none =
    let was = owed_stays later actions none in
    (was.0, ap (λ (l : List Entry). map (λ e. e.page) l) (there_again (queue_of (later ++ actions))) ∙ was.1)

-- ---- the calling leg

silenced_so : (b : Bool) (x y : List (List ℕ)) → (if b || true then x else y) ≡ x
silenced_so true x y = refl
silenced_so false x y = refl

pub put_first : PutFirst
put_first given page is_there actions =
    (silenced_so (silenced_after (on_leg actions)) (went_out (on_leg actions)) (with_given given (went_out (on_leg actions))), there_more (queue_of actions) page true)

-- ---- the calls are actions

pub puts_are_actions : PutsAreActions
puts_are_actions given page old new before after pages named means queued notes = record {
  line_is = named;
  means = means;
  there = refl;
  queued = λ still. ((notes still).0, (queued.whole (notes still).1).1);
}

pub ends_are_actions : EndsAreActions
ends_are_actions count ended old new after pages named left leaves = record {
  ended = ended;
  named = named;
  sure = refl;
  leaves = leaves ∙ left;
  gone = refl;
  queued = λ still. left;
}

other_own : (line : List ℕ) (page : spool.PageValue) (b : Bool) → bytes_eq page.line line ≡ b → page.line ≢ line → b ≡ false
other_own line page true same other = absurd (other ((bytes_eq-Decides page.line line).0 same))
other_own line page false same other = refl

own_beside : (line : List ℕ) (pages : List spool.PageValue) (page : spool.PageValue) → page.line ≢ line → own_pages line (pages ++ page ∷ []) ≡ own_pages line pages
own_beside line pages page other =
    own_more line pages page
    ∙ ap (λ (b : Bool). own_pages line pages ++ cond b (page ∷ []) []) (other_own line page (bytes_eq page.line line) refl other) ∙ append-nil (own_pages line pages)

not_its : (line : List ℕ) (ended : spool.EndedValue) (page : spool.PageValue) (b : Bool) → bytes_eq ended.line page.line ≡ b → page.line ≡ line → ended.line ≢ line → b ≡ false
not_its line ended page true same named other = absurd (other ((bytes_eq-Decides ended.line page.line).0 same ∙ named))
not_its line ended page false same named other = refl

stays_own : (line : List ℕ) (ended : spool.EndedValue) (page : spool.PageValue) → page.line ≡ line → ended.line ≢ line → not (ends ended (name_of page)) ≡ true
stays_own line ended page named other = ap (λ (b : Bool). not b) (ends_none_of ended (name_of page) (not_its line ended page (bytes_eq ended.line page.line) refl named other))

own_stays_if : (line : List ℕ) (ended : spool.EndedValue) (page : spool.PageValue) (pages : List spool.PageValue) (b : Bool) → bytes_eq page.line line ≡ b → ended.line ≢ line
    → without ended (own_pages line pages) ≡ own_pages line pages
    → without ended (cond b (page ∷ own_pages line pages) (own_pages line pages)) ≡ cond b (page ∷ own_pages line pages) (own_pages line pages)
own_stays_if line ended page pages true is other rest =
    ap (λ (c : Bool). cond c (page ∷ without ended (own_pages line pages)) (without ended (own_pages line pages))) (stays_own line ended page ((bytes_eq-Decides page.line line).0 is) other)
    ∙ ap (λ (l : List spool.PageValue). page ∷ l) rest
own_stays_if line ended page pages false is other rest = rest

own_stays : (line : List ℕ) (ended : spool.EndedValue) (pages : List spool.PageValue) → ended.line ≢ line → without ended (own_pages line pages) ≡ own_pages line pages
own_stays line ended [] other = refl
own_stays line ended (page ∷ pages) other = own_stays_if line ended page pages (bytes_eq page.line line) refl other (own_stays line ended pages other)

pub others_are_beside : OthersAreBeside
others_are_beside line queue notes pages = (
  λ page other. record { same = own_beside line pages page other; queued = λ still. (still, refl) },
  λ ended other. record {
    same = commute (λ (p : spool.PageValue). bytes_eq p.line line) (λ (p : spool.PageValue). not (ends ended (name_of p))) pages ∙ own_stays line ended pages other;
    queued = λ still. (still, refl);
  },
)

pub restarts_are_actions : RestartsAreActions
restarts_are_actions line restored old after restores = record { read = restores.read; own = restores.own; same = refl; queued = restores.are.waits }

same_newest : (page other : PageValue) → Some page ≡ Some other → page ≡ other
same_newest page other same = cc

same_record : (value other : spool.PageValue) → Page value ≡ Page other → value ≡ other
same_record value other same = cc

pub stored_pages_are_read : WrittenPagesMean → StoredPagesAreRead
stored_pages_are_read mean kept page to_store value is_page format is recorded =
    let its : is.page ≡ page = sym (same_newest page is.page is.newest_is) in
    let its_value : recorded.value ≡ value = sym (same_record value recorded.value recorded.is_page) in
    let rows : AreRows (elements_of page.format.width) page.rows = is_page in
    let writes : WritesPage Mr page.format.fine 0 page.rows is.text = subst (λ (p : PageValue). WritesPage Mr p.format.fine 0 p.rows is.text) its is.writes in
    let meant : MeansRows (elements_of page.format.width) Mr to_store.text page.rows = mean (elements_of page.format.width) Mr page.format.fine 0 page.rows is.text to_store.text (is_width page.format.width) rows writes is.octets in
    let same : page.format ≡ value.format = sym format ∙ ap (λ (k : Kept). k.format) (sym is.told) ∙ sym recorded.format ∙ ap (λ (v : spool.PageValue). v.format) its_value in
    let text : to_store.text ≡ value.text = sym recorded.text ∙ ap (λ (v : spool.PageValue). v.text) its_value in
    (same, subst (λ (f : Format). MeansRows (elements_of f.width) Mr value.text page.rows) same (subst (λ (t : List ℕ). MeansRows (elements_of page.format.width) Mr t page.rows) text meant))

-- ---- as a life begins

own_among_if : (name : PageName) (page : spool.PageValue) (own pages : List spool.PageValue) (b : Bool) → (IsAmong name (map name_of own) → IsAmong name (map name_of pages))
    → IsAmong name (map name_of (cond b (page ∷ own) own)) → (name_of page ≡ name) ⊎ IsAmong name (map name_of pages)
own_among_if name page own pages true rest (inl same) = inl same
own_among_if name page own pages true rest (inr among) = inr (rest among)
own_among_if name page own pages false rest among = inr (rest among)

own_among : (line : List ℕ) (name : PageName) (pages : List spool.PageValue) → IsAmong name (map name_of (own_pages line pages)) → IsAmong name (map name_of pages)
own_among line name [] among = among
own_among line name (page ∷ pages) among = own_among_if name page (own_pages line pages) pages (bytes_eq page.line line) (own_among line name pages) among

all_among : (line : List ℕ) (waits : List QueuedPage) (pages : List spool.PageValue) → AreAmong line waits (map name_of (own_pages line pages)) → AreAmong line waits (map name_of pages)
all_among line [] pages are = tt
all_among line (w ∷ waits) pages are = (λ kept. own_among line (name_in line w) pages (are.0 kept), all_among line waits pages are.1)

abbrev AreNamed : List ℕ → List spool.PageValue → Type 0
AreNamed line [] = Unit {0}
AreNamed line (page ∷ pages) = (page.line ≡ line) × AreNamed line pages

own_named_if : (line : List ℕ) (page : spool.PageValue) (own : List spool.PageValue) (b : Bool) → bytes_eq page.line line ≡ b → AreNamed line own → AreNamed line (cond b (page ∷ own) own)
own_named_if line page own true is named = ((bytes_eq-Decides page.line line).0 is, named)
own_named_if line page own false is named = named

own_named : (line : List ℕ) (pages : List spool.PageValue) → AreNamed line (own_pages line pages)
own_named line [] = tt
own_named line (page ∷ pages) = own_named_if line page (own_pages line pages) (bytes_eq page.line line) refl (own_named line pages)

among_after : (line : List ℕ) (waits : List QueuedPage) (name : PageName) (names : List PageName) → AreAmong line waits names → AreAmong line waits (name ∷ names)
among_after line [] name names are = tt
among_after line (w ∷ waits) name names are = (λ kept. inr (are.0 kept), among_after line waits name names are.1)

same_name : (line : List ℕ) (r : ReadPage) (w : spool.PageValue) → r.waits ≡ w → w.line ≡ line → name_of w ≡ name_in line (waiting_of r)
same_name line r w is named =
    ap (λ (l : List ℕ). record { life = w.life; call = w.call; number = w.number; line = l }) named
    ∙ ap (λ (v : spool.PageValue). record { life = v.life; call = v.call; number = v.number; line = line }) (sym is)

read_among : (line : List ℕ) (waits : List spool.PageValue) (read : List ReadPage) → AreNamed line waits → AreRead waits read → AreAmong line (map waiting_of read) (map name_of waits)
read_among line [] [] named are = tt
read_among line [] (r ∷ read) named are = absurd (cc)
read_among line (w ∷ waits) [] named are = tt
read_among line (w ∷ waits) (r ∷ read) named (inl is) =
    (λ kept. inl (same_name line r w is.0 named.0), among_after line (map waiting_of read) (name_of w) (map name_of waits) (read_among line waits read named.1 is.2))
read_among line (w ∷ waits) (r ∷ read) named (inr none) = among_after line (map waiting_of (r ∷ read)) (name_of w) (map name_of waits) (read_among line waits (r ∷ read) named.1 none.1)

names_closed : (pages : List spool.PageValue) → map name_of (closed pages) ≡ map name_of pages
names_closed [] = refl
names_closed (page ∷ pages) = ap (λ (l : List PageName). name_of page ∷ l) (names_closed pages)

pub restored_queues_agree : RestoredQueuesAgree
restored_queues_agree line pages restored is =
    let names : List PageName = map name_of pages in
    subst (λ (l : List ℕ). AreAmong l restored.queue.waits names) (sym is.are.named)
    (subst (λ (w : List QueuedPage). AreAmong line w names) (sym is.are.waits)
    (subst (λ (n : List PageName). AreAmong line (map waiting_of is.read) n) (names_closed pages)
    (all_among line (map waiting_of is.read) (closed pages) (read_among line (own_pages line (closed pages)) is.read (own_named line (closed pages)) is.own))))
