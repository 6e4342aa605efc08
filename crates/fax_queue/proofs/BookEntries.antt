-- What is told of a line's pages, by its actions and by the lives of its gateway: what was confirmed, and how much of it was reported.
use Rattle.std.proofs.Common.{◌≡◌, ◌∙◌, ℕ, zero, suc, ◌+◌, ◌≤◌, Bool, true, false, ◌&&◌, nat_eq, List, [], ◌∷◌, ◌++◌, length, map, drop, Option, Some, None, refl, sym, ap, subst, arith, append_assoc, length-append, if◌then◌else◌}
use Rattle.std.proofs.lemmas.List.{append-nil, drop-append-le, drop-drop, map-append}
use Rattle.fax_pagestore.specs.Pages.{PageValue}
use Rattle.fax_jobs.specs.declared.report.Report.{Report}
use Rattle.fax_jobs.specs.Jobs.{JobValue}
use Rattle.fax_answer.specs.Replies.{ConfirmedPage}
use Rattle.fax_call.specs.Writings.{Writing}
use Rattle.fax_gateway.specs.Restored.{CallPage, RestoredCall, pages_restored, pages_with}
use Rattle.fax_gateway.specs.Setups.{Setup}
use Rattle.fax_gateway.specs.Events.{Event, Ring, FromCalling, FromCalled, Tick, Placed, clock}
use Rattle.fax_gateway.specs.CallingLegs.{CallingLeg, calling_leg}
use Rattle.fax_gateway.specs.Cuts.{JobsAreCut, confirmed_at}
use Rattle.fax_gateway.specs.Lives.{Life, page_list, pages_at, pages_confirmed, pages_in, pages_left_in, pages_of_jobs}
use Rattle.fax_gateway.specs.Reports.{JobsHaveStates, report_list, reports_given}
use Rattle.fax_gateway.specs.BothLegs.{book_of, both_legs, past_of}
use Rattle.fax_gateway.specs.Traces.{IsTrace}
use Rattle.fax_queue.specs.Restorations.{ReadPage, before, before_all, call_with, calls_of, in_one_call}
use Rattle.fax_queue.specs.Lives.{Entry, PageAction, State, WasDone, closed_read, owed, queue_of}
use Rattle.fax_queue.specs.Lives.{Turns, Begins, Stores, Refuses, Ends, Leaves, Lets, Beside, Stops}
use Rattle.fax_queue.specs.Book.{AreTraces, BookEntry, Confirms, Reports, Restores, confirms, confirms_on, noted, page_of, reports, sizes, told_by, told_in, told_over, unnoted}
use Rattle.fax_queue.proofs.BookOfLife.{counts_of, life_pages, life_sizes}

-- ---- restored calls have the pages that they are made of

both : (a b : Bool) → (a && b) ≡ true → b ≡ true
both true b h = h
both false b h = cc

same_number : (m n : ℕ) → nat_eq m n ≡ true → m ≡ n
same_number m n h = grind (arith)

in_same_call : (r next : ReadPage) → in_one_call r.waits next.waits ≡ true → r.waits.call ≡ next.waits.call
in_same_call r next h = same_number r.waits.call next.waits.call (both (nat_eq r.waits.life next.waits.life) (nat_eq r.waits.call next.waits.call) h)

-- the first call has this number
abbrev Starts : ℕ → List RestoredCall → Type 0
Starts n [] = ⊥
Starts n (call ∷ calls) = call.number ≡ n

before_starts : (r : ReadPage) (n : ℕ) (calls : List RestoredCall) → Starts n calls → n ≡ r.waits.call → Starts r.waits.call (before_all r calls)
before_starts r n [] is same = absurd is
before_starts r n (call ∷ calls) is same = is ∙ same

starts_if : (r next : ReadPage) (calls : List RestoredCall) (b : Bool) → in_one_call r.waits next.waits ≡ b → Starts next.waits.call calls
    → Starts r.waits.call (if◌then◌else◌ {A = List RestoredCall} b (before_all r calls) (call_with r ∷ calls))
starts_if r next calls true one is = before_starts r next.waits.call calls is (sym (in_same_call r next one))
starts_if r next calls false one is = refl

starts : (r : ReadPage) (read : List ReadPage) → Starts r.waits.call (calls_of (r ∷ read))
starts r [] = refl
starts r (next ∷ read) = starts_if r next (calls_of (next ∷ read)) (in_one_call r.waits next.waits) refl (starts next read)

before_pages : (r : ReadPage) (n : ℕ) (calls : List RestoredCall) → Starts n calls → n ≡ r.waits.call → pages_restored (before_all r calls) ≡ page_of r ∷ pages_restored calls
before_pages r n [] is same = absurd is
before_pages r n (call ∷ calls) is same =
    ap (λ (m : ℕ). record { call = m; page = r.page } ∷ (pages_with call.number call.confirmed ++ pages_restored calls)) (is ∙ same)

pages_if : (r next : ReadPage) (calls : List RestoredCall) (b : Bool) → in_one_call r.waits next.waits ≡ b → Starts next.waits.call calls
    → pages_restored (if◌then◌else◌ {A = List RestoredCall} b (before_all r calls) (call_with r ∷ calls)) ≡ page_of r ∷ pages_restored calls
pages_if r next calls true one is = before_pages r next.waits.call calls is (sym (in_same_call r next one))
pages_if r next calls false one is = refl

pages_of_calls : (read : List ReadPage) → pages_restored (calls_of read) ≡ map page_of read
pages_of_calls [] = refl
pages_of_calls (r ∷ []) = refl
pages_of_calls (r ∷ next ∷ read) =
    pages_if r next (calls_of (next ∷ read)) (in_one_call r.waits next.waits) refl (starts next read)
    ∙ ap (λ (x : List CallPage). page_of r ∷ x) (pages_of_calls (next ∷ read))

closed_pages : (read : List ReadPage) → map page_of (closed_read read) ≡ map page_of read
closed_pages [] = refl
closed_pages (r ∷ read) = ap (λ (x : List CallPage). page_of r ∷ x) (closed_pages read)

pub restored_pages : (read : List ReadPage) → pages_restored (calls_of (closed_read read)) ≡ map page_of read
restored_pages read = pages_of_calls (closed_read read) ∙ closed_pages read

-- ---- what entries come to

-- the pages that the last life had: those that it was restored with, and those that it confirmed
abbrev pub pages_by : List BookEntry → List CallPage
pages_by [] = []
pages_by (Confirms given page closes ∷ before) = pages_by before ++ page ∷ []
pages_by (Reports pages ∷ before) = pages_by before
pages_by (Restores calls ∷ before) = pages_restored calls

-- how many pages each job had that it reported
abbrev pub counts_by : List BookEntry → List ℕ
counts_by [] = []
counts_by (Confirms given page closes ∷ before) = counts_by before
counts_by (Reports pages ∷ before) = counts_by before ++ pages ∷ []
counts_by (Restores calls ∷ before) = []

abbrev pub total : List ℕ → ℕ
total [] = 0
total (n ∷ ns) = n + total ns

pub total_more : (ns : List ℕ) (n : ℕ) → total (ns ++ n ∷ []) ≡ total ns + n
total_more [] n = omega arith
total_more (m ∷ ns) n = let e : total (ns ++ n ∷ []) ≡ total ns + n = total_more ns n in omega arith

-- in each life never more pages were reported than it had
abbrev IsBound : List BookEntry → Type 0
IsBound told = total (counts_by told) ≤ length (pages_by told)

abbrev pub AreSound : List BookEntry → Type 0
AreSound [] = Unit {0}
AreSound (Confirms given page closes ∷ before) = AreSound before
AreSound (Reports pages ∷ before) = IsBound (Reports pages ∷ before) × AreSound before
AreSound (Restores calls ∷ before) = AreSound before

-- ---- by the gateway

confirms_pages : (given : Option (List ℕ)) (number : ℕ) (o : Option ConfirmedPage) (before : List BookEntry) → pages_by (confirms given number o before) ≡ pages_by before ++ page_list number o
confirms_pages given number None before = sym (append-nil (pages_by before))
confirms_pages given number (Some c) before = refl

confirms_on_pages : (o : Option CallingLeg) (now : ℕ) (given : Option (List ℕ)) (before : List BookEntry) → pages_by (confirms_on o now given before) ≡ pages_by before ++ pages_at o now
confirms_on_pages None now given before = sym (append-nil (pages_by before))
confirms_on_pages (Some l) now given before = confirms_pages given l.number (confirmed_at (Some l) now) before

reports_pages : (o : Option Report) (before : List BookEntry) → pages_by (reports o before) ≡ pages_by before
reports_pages None before = refl
reports_pages (Some report) before = refl

pub pages_in_life : (setup : Setup) (trace : List Event) (before : List BookEntry) → pages_by (told_in setup trace before) ≡ pages_restored setup.restored ++ pages_confirmed setup trace
pages_in_life setup [] before = sym (append-nil (pages_restored setup.restored))
pages_in_life setup (Ring at number ∷ earlier) before = pages_in_life setup earlier before
pages_in_life setup (FromCalling octets at decided read ∷ earlier) before = pages_in_life setup earlier before
pages_in_life setup (FromCalled octets at decided ∷ earlier) before = pages_in_life setup earlier before
pages_in_life setup (Placed at connected ∷ earlier) before = pages_in_life setup earlier before
pages_in_life setup (Tick at given ∷ earlier) before =
    let now : ℕ = clock (Tick at given ∷ earlier) in
    let leg : Option CallingLeg = calling_leg setup earlier in
    let told : List BookEntry = told_in setup earlier before in
    reports_pages given.report (confirms_on leg now given.on_calling told) ∙ confirms_on_pages leg now given.on_calling told
    ∙ ap (λ (x : List CallPage). x ++ pages_at leg now) (pages_in_life setup earlier before)
    ∙ append_assoc (pages_restored setup.restored) (pages_confirmed setup earlier) (pages_at leg now)

confirms_counts : (given : Option (List ℕ)) (number : ℕ) (o : Option ConfirmedPage) (before : List BookEntry) → counts_by (confirms given number o before) ≡ counts_by before
confirms_counts given number None before = refl
confirms_counts given number (Some c) before = refl

confirms_on_counts : (o : Option CallingLeg) (now : ℕ) (given : Option (List ℕ)) (before : List BookEntry) → counts_by (confirms_on o now given before) ≡ counts_by before
confirms_on_counts None now given before = refl
confirms_on_counts (Some l) now given before = confirms_counts given l.number (confirmed_at (Some l) now) before

reports_counts : (o : Option Report) (before : List BookEntry) → counts_by (reports o before) ≡ counts_by before ++ counts_of (report_list o)
reports_counts None before = sym (append-nil (counts_by before))
reports_counts (Some report) before = refl

pub counts_in_life : (setup : Setup) (trace : List Event) (before : List BookEntry) → counts_by (told_in setup trace before) ≡ counts_of (reports_given trace)
counts_in_life setup [] before = refl
counts_in_life setup (Ring at number ∷ earlier) before = counts_in_life setup earlier before
counts_in_life setup (FromCalling octets at decided read ∷ earlier) before = counts_in_life setup earlier before
counts_in_life setup (FromCalled octets at decided ∷ earlier) before = counts_in_life setup earlier before
counts_in_life setup (Placed at connected ∷ earlier) before = counts_in_life setup earlier before
counts_in_life setup (Tick at given ∷ earlier) before =
    let now : ℕ = clock (Tick at given ∷ earlier) in
    let leg : Option CallingLeg = calling_leg setup earlier in
    let told : List BookEntry = told_in setup earlier before in
    reports_counts given.report (confirms_on leg now given.on_calling told)
    ∙ ap (λ (x : List ℕ). x ++ counts_of (report_list given.report)) (confirms_on_counts leg now given.on_calling told ∙ counts_in_life setup earlier before)
    ∙ sym (map-append (λ (r : Report). r.pages) (reports_given earlier) (report_list given.report))

pages_length : (call : ℕ) (ps : List PageValue) → length (pages_in call ps) ≡ length ps
pages_length call [] = refl
pages_length call (p ∷ ps) = ap suc (pages_length call ps)

pub total_sizes : (jobs : List JobValue) → length (pages_of_jobs jobs) ≡ total (sizes jobs)
total_sizes [] = refl
total_sizes (job ∷ jobs) =
    length-append (pages_in job.call job.pages) (pages_of_jobs jobs) ∙ ap (λ (n : ℕ). n + length (pages_of_jobs jobs)) (pages_length job.call job.pages)
    ∙ ap (λ (n : ℕ). length job.pages + n) (total_sizes jobs)

-- WHAT A LIFE COMES TO: its jobs that ended, by their sizes and their pages
pub record LifeIs (setup : Setup) (writes : Writing) (trace : List Event) (told : List BookEntry) : Type 0 where
  pub counts : sizes (past_of (both_legs setup writes trace)).ended ≡ counts_by told
  pub pages : pages_by told ≡ pages_of_jobs (past_of (both_legs setup writes trace)).ended ++ pages_left_in (book_of (both_legs setup writes trace))

pub life_is : JobsAreCut → JobsHaveStates → (setup : Setup) (writes : Writing) (trace : List Event) (before : List BookEntry) → IsTrace setup writes trace
    → LifeIs setup writes trace (told_in setup trace before)
life_is cut states setup writes trace before t = record {
  counts = life_sizes states setup writes trace t ∙ sym (counts_in_life setup trace before);
  pages = pages_in_life setup trace before ∙ life_pages cut setup writes trace t;
}

within : (xs ys : List CallPage) (n m : ℕ) → length xs ≡ n → length (xs ++ ys) ≡ m → n ≤ m
within xs ys n m is all = let e : length (xs ++ ys) ≡ length xs + length ys = length-append xs ys in omega (arith, e, is, all)

bound_of : (setup : Setup) (writes : Writing) (trace : List Event) (told : List BookEntry) → LifeIs setup writes trace told → IsBound told
bound_of setup writes trace told is =
    let jobs : List JobValue = (past_of (both_legs setup writes trace)).ended in
    within (pages_of_jobs jobs) (pages_left_in (book_of (both_legs setup writes trace))) (total (counts_by told)) (length (pages_by told))
    (total_sizes jobs ∙ ap (λ (ns : List ℕ). total ns) is.counts) (ap (λ (ps : List CallPage). length ps) (sym is.pages))

confirms_sound : (given : Option (List ℕ)) (number : ℕ) (o : Option ConfirmedPage) (before : List BookEntry) → AreSound before → AreSound (confirms given number o before)
confirms_sound given number None before are = are
confirms_sound given number (Some c) before are = are

confirms_on_sound : (o : Option CallingLeg) (now : ℕ) (given : Option (List ℕ)) (before : List BookEntry) → AreSound before → AreSound (confirms_on o now given before)
confirms_on_sound None now given before are = are
confirms_on_sound (Some l) now given before are = confirms_sound given l.number (confirmed_at (Some l) now) before are

reports_sound : (o : Option Report) (before : List BookEntry) → AreSound before → IsBound (reports o before) → AreSound (reports o before)
reports_sound None before are is = are
reports_sound (Some report) before are is = (is, are)

sound_in_life : JobsAreCut → JobsHaveStates → (setup : Setup) (writes : Writing) (trace : List Event) (before : List BookEntry) → IsTrace setup writes trace → AreSound before → AreSound (told_in setup trace before)
sound_in_life cut states setup writes [] before t are = are
sound_in_life cut states setup writes (Ring at number ∷ earlier) before t are = sound_in_life cut states setup writes earlier before t.1 are
sound_in_life cut states setup writes (FromCalling octets at decided read ∷ earlier) before t are = sound_in_life cut states setup writes earlier before t.1 are
sound_in_life cut states setup writes (FromCalled octets at decided ∷ earlier) before t are = sound_in_life cut states setup writes earlier before t.1 are
sound_in_life cut states setup writes (Placed at connected ∷ earlier) before t are = sound_in_life cut states setup writes earlier before t.1 are
sound_in_life cut states setup writes (Tick at given ∷ earlier) before t are =
    let now : ℕ = clock (Tick at given ∷ earlier) in
    let leg : Option CallingLeg = calling_leg setup earlier in
    let told : List BookEntry = told_in setup earlier before in
    reports_sound given.report (confirms_on leg now given.on_calling told)
    (confirms_on_sound leg now given.on_calling told (sound_in_life cut states setup writes earlier before t.1 are))
    (bound_of setup writes (Tick at given ∷ earlier) (told_in setup (Tick at given ∷ earlier) before) (life_is cut states setup writes (Tick at given ∷ earlier) before t))

pub sound_over : JobsAreCut → JobsHaveStates → (writes : Writing) (lives : List Life) → AreTraces writes lives → AreSound (told_over lives)
sound_over cut states writes [] t = tt
sound_over cut states writes (life ∷ earlier) t = sound_in_life cut states life.setup writes life.trace (told_over earlier) t.0 (sound_over cut states writes earlier t.1)

-- ---- by the actions

-- the pages of a queue, each with its call
abbrev pub pages_of : List Entry → List CallPage
pages_of entries = map page_of (map (λ e. e.page) entries)

pub pages-append : (entries others : List Entry) → pages_of (entries ++ others) ≡ pages_of entries ++ pages_of others
pages-append [] others = refl
pages-append (e ∷ entries) others = ap (λ (x : List CallPage). page_of e.page ∷ x) (pages-append entries others)

pub pages-drop : (n : ℕ) (entries : List Entry) → pages_of (drop n entries) ≡ drop n (pages_of entries)
pages-drop zero entries = refl
pages-drop (suc n) [] = refl
pages-drop (suc n) (e ∷ entries) = pages-drop n entries

-- the queue is what is after the jobs whose ends were noted, of which there are no more than were reported
pub record QueueIs (actions : List PageAction) : Type 0 where
  pub queued : pages_of (queue_of actions) ≡ drop (total (noted actions)) (pages_by (told_by actions))
  pub few : total (noted actions) ≤ length (pages_by (told_by actions))
  pub all : total (noted actions) + total (unnoted actions) ≡ total (counts_by (told_by actions))

more_within : (n : ℕ) (xs : List CallPage) (p : CallPage) → n ≤ length xs → n ≤ length (xs ++ p ∷ [])
more_within n xs p few = let e : length (xs ++ p ∷ []) ≡ length xs + length (p ∷ []) = length-append xs (p ∷ []) in omega (arith, e, few)

queue_more : (actions : List PageAction) (entry : Entry) (news : List PageAction) → queue_of news ≡ queue_of actions ++ entry ∷ [] → noted news ≡ noted actions → unnoted news ≡ unnoted actions
    → pages_by (told_by news) ≡ pages_by (told_by actions) ++ page_of entry.page ∷ [] → counts_by (told_by news) ≡ counts_by (told_by actions) → QueueIs actions → QueueIs news
queue_more actions entry news is same other pages counts was =
    let n : ℕ = total (noted actions) in
    let p : CallPage = page_of entry.page in
    let had : List CallPage = pages_by (told_by actions) in
    record {
      queued =
          ap (λ (q : List Entry). pages_of q) is ∙ pages-append (queue_of actions) (entry ∷ []) ∙ ap (λ (x : List CallPage). x ++ p ∷ []) was.queued
          ∙ sym (drop-append-le n had (p ∷ []) was.few) ∙ ap (λ (x : List CallPage). drop n x) (sym pages) ∙ ap (λ (ns : List ℕ). drop (total ns) (pages_by (told_by news))) (sym same);
      few = subst (λ (ns : List ℕ). total ns ≤ length (pages_by (told_by news))) (sym same) (subst (λ (x : List CallPage). n ≤ length x) (sym pages) (more_within n had p was.few));
      all =
          ap (λ (ns : List ℕ). total ns + total (unnoted news)) same ∙ ap (λ (ns : List ℕ). total (noted actions) + total ns) other ∙ was.all
          ∙ ap (λ (ns : List ℕ). total ns) (sym counts);
    }

shift : (a b c n : ℕ) → a + b ≡ c → (a + n) + b ≡ c + n
shift a b c n e = omega (arith, e)

shift_after : (a b c n : ℕ) → a + b ≡ c → a + (b + n) ≡ c + n
shift_after a b c n e = omega (arith, e)

shift_within : (a b c n m : ℕ) → a + b ≡ c → c + n ≤ m → a + n ≤ m
shift_within a b c n m e few = omega (arith, e, few)

queue_less : (actions : List PageAction) (n : ℕ) (news : List PageAction) → queue_of news ≡ drop n (queue_of actions) → noted news ≡ noted actions ++ n ∷ [] → unnoted news ≡ unnoted actions
    → told_by news ≡ Reports n ∷ told_by actions → total (counts_by (told_by actions) ++ n ∷ []) ≤ length (pages_by (told_by actions)) → QueueIs actions → QueueIs news
queue_less actions n news is more same told few was =
    let old : ℕ = total (noted actions) in
    let had : List CallPage = pages_by (told_by actions) in
    let now : total (noted news) ≡ old + n = ap (λ (ns : List ℕ). total ns) more ∙ total_more (noted actions) n in
    let bound : total (counts_by (told_by actions)) + n ≤ length had = subst (λ (k : ℕ). k ≤ length had) (total_more (counts_by (told_by actions)) n) few in
    record {
      queued =
          ap (λ (q : List Entry). pages_of q) is ∙ pages-drop n (queue_of actions) ∙ ap (λ (x : List CallPage). drop n x) was.queued ∙ drop-drop n old had
          ∙ ap (λ (k : ℕ). drop k had) (sym now) ∙ ap (λ (t : List BookEntry). drop (total (noted news)) (pages_by t)) (sym told);
      few =
          subst (λ (t : List BookEntry). total (noted news) ≤ length (pages_by t)) (sym told)
          (subst (λ (k : ℕ). k ≤ length had) (sym now) (shift_within old (total (unnoted actions)) (total (counts_by (told_by actions))) n (length had) was.all bound));
      all =
          ap (λ (k : ℕ). k + total (unnoted news)) now ∙ ap (λ (ns : List ℕ). (old + n) + total ns) same
          ∙ shift old (total (unnoted actions)) (total (counts_by (told_by actions))) n was.all ∙ sym (total_more (counts_by (told_by actions)) n) ∙ ap (λ (t : List BookEntry). total (counts_by t)) (sym told);
    }

pub queue_is : (actions : List PageAction) → AreSound (told_by actions) → QueueIs actions
queue_is [] are = record { queued = refl; few = omega arith; all = refl }
queue_is (Turns given ∷ actions) are = let was : QueueIs actions = queue_is actions are in record { queued = was.queued; few = was.few; all = was.all }
queue_is (Begins ∷ actions) are = let was : QueueIs actions = queue_is actions are in record { queued = was.queued; few = was.few; all = was.all }
queue_is (Stores given page ∷ actions) are = queue_more actions (record { page = page; is_there = true }) (Stores given page ∷ actions) refl refl refl refl refl (queue_is actions are)
queue_is (Refuses given page is_there ∷ actions) are =
    queue_more actions (record { page = page; is_there = is_there }) (Refuses given page is_there ∷ actions) refl refl refl refl refl (queue_is actions are)
queue_is (Ends pages ∷ actions) are = queue_less actions pages (Ends pages ∷ actions) refl refl refl refl are.0 (queue_is actions are.1)
queue_is (Leaves pages ∷ actions) are =
    let was : QueueIs actions = queue_is actions are.1 in
    record {
      queued = was.queued;
      few = was.few;
      all =
          ap (λ (k : ℕ). total (noted actions) + k) (total_more (unnoted actions) pages)
          ∙ shift_after (total (noted actions)) (total (unnoted actions)) (total (counts_by (told_by actions))) pages was.all ∙ sym (total_more (counts_by (told_by actions)) pages);
    }
queue_is (Lets pages ∷ actions) are = queue_less actions pages (Lets pages ∷ actions) refl refl refl refl are.0 (queue_is actions are.1)
queue_is (Beside ∷ actions) are = let was : QueueIs actions = queue_is actions are in record { queued = was.queued; few = was.few; all = was.all }
queue_is (Stops ∷ actions) are = record { queued = sym (restored_pages (owed actions)); few = omega arith; all = refl }

-- ---- notes

-- in each life the ends that are noted come before those that have no record
pub record NotesAre (actions : List PageAction) (state : State) : Type 0 where
  pub counts : counts_by (told_by actions) ≡ noted actions ++ unnoted actions
  pub none : state.notes ≡ true → unnoted actions ≡ []

notes_more : (actions : List PageAction) (n : ℕ) (old : State) → old.notes ≡ true → NotesAre actions old → counts_by (told_by actions) ++ n ∷ [] ≡ (noted actions ++ n ∷ []) ++ unnoted actions
notes_more actions n old sure was =
    let e : unnoted actions ≡ [] = was.none sure in
    ap (λ (x : List ℕ). x ++ n ∷ []) (was.counts ∙ ap (λ (x : List ℕ). noted actions ++ x) e ∙ append-nil (noted actions))
    ∙ sym (append-nil (noted actions ++ n ∷ [])) ∙ ap (λ (x : List ℕ). (noted actions ++ n ∷ []) ++ x) (sym e)

bool_differs : true ≡ false → ⊥
bool_differs same = cc

pub notes_are : (line : List ℕ) (actions : List PageAction) (state : State) → WasDone line actions state → NotesAre actions state
notes_are line [] state done = record { counts = refl; none = λ sure. refl }
notes_are line (Turns given ∷ actions) state done =
    let was : NotesAre actions done.0 = notes_are line actions done.0 done.1 in
    record { counts = was.counts; none = λ sure. was.none (ap (λ (s : State). s.notes) (sym done.2) ∙ sure) }
notes_are line (Begins ∷ actions) state done =
    let was : NotesAre actions done.0 = notes_are line actions done.0 done.1 in
    record { counts = was.counts; none = λ sure. was.none (ap (λ (s : State). s.notes) (sym done.2) ∙ sure) }
notes_are line (Stores given page ∷ actions) state done =
    let was : NotesAre actions done.0 = notes_are line actions done.0 done.1 in
    record { counts = was.counts; none = λ sure. was.none (done.2.queued sure).0 }
notes_are line (Refuses given page is_there ∷ actions) state done =
    let was : NotesAre actions done.0 = notes_are line actions done.0 done.1 in
    record { counts = was.counts; none = λ sure. was.none (done.2.0.queued sure).0 }
notes_are line (Ends pages ∷ actions) state done =
    let was : NotesAre actions done.0 = notes_are line actions done.0 done.1 in
    record { counts = notes_more actions pages done.0 done.2.sure was; none = λ sure. was.none done.2.sure }
notes_are line (Leaves pages ∷ actions) state done =
    let was : NotesAre actions done.0 = notes_are line actions done.0 done.1 in
    record {
      counts = ap (λ (x : List ℕ). x ++ pages ∷ []) was.counts ∙ append_assoc (noted actions) (unnoted actions) (pages ∷ []);
      none = λ sure. absurd (bool_differs (sym sure ∙ done.2.1));
    }
notes_are line (Lets pages ∷ actions) state done =
    let was : NotesAre actions done.0 = notes_are line actions done.0 done.1 in
    record { counts = notes_more actions pages done.0 done.2.sure was; none = λ sure. was.none done.2.sure }
notes_are line (Beside ∷ actions) state done =
    let was : NotesAre actions done.0 = notes_are line actions done.0 done.1 in
    record { counts = was.counts; none = λ sure. was.none (done.2.queued sure).0 }
notes_are line (Stops ∷ actions) state done = record { counts = refl; none = λ sure. refl }
