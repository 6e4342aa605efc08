-- What is owed is what the gateway's book had left.
use Rattle.std.proofs.Common.{◌≡◌, ◌∙◌, ℕ, zero, suc, ◌+◌, inl, inr, Bool, true, false, cond, List, [], ◌∷◌, ◌++◌, length, map, take, drop, Option, Some, None, refl, sym, ap, subst, arith, append_assoc}
use Rattle.std.proofs.lemmas.List.{drop_at}
use Rattle.fax_jobs.specs.Jobs.{JobValue}
use Rattle.fax_call.specs.Writings.{Writing}
use Rattle.fax_gateway.specs.Restored.{CallPage, RestoredCall, pages_restored}
use Rattle.fax_gateway.specs.Setups.{Setup}
use Rattle.fax_gateway.specs.Events.{Event, Ring, FromCalling, FromCalled, Tick, Placed, clock}
use Rattle.fax_gateway.specs.CallingLegs.{CallingLeg, calling_leg}
use Rattle.fax_gateway.specs.Cuts.{JobsAreCut, confirmed_at}
use Rattle.fax_gateway.specs.Lives.{AreSomeOf, AreStored, Life, NoneIsLost, all_ended, pages_had, pages_left, pages_left_in, pages_of_jobs}
use Rattle.fax_gateway.specs.Reports.{JobsHaveStates}
use Rattle.fax_gateway.specs.BothLegs.{book_of, both_legs, past_of}
use Rattle.fax_answer.specs.Replies.{ConfirmedPage}
use Rattle.fax_jobs.specs.declared.report.Report.{Report}
use Rattle.fax_queue.specs.Restorations.{calls_of}
use Rattle.fax_queue.specs.Lives.{Entry, PageAction, are_there, closed_read, owed, queue_of}
use Rattle.fax_queue.specs.Lives.{Turns, Begins, Stores, Refuses, Ends, Leaves, Lets, Beside, Stops}
use Rattle.fax_queue.specs.Book.{AllIsPut, AreOfLives, QueueIsLeft, ServersAreLives, ServersLoseNone}
use Rattle.fax_queue.specs.Book.{BookEntry, Confirms, Reports, Restores, confirms, confirms_on, noted, page_of, pages_gone, reports, sizes, told_by, told_in, told_over, unnoted}
use Rattle.fax_queue.proofs.BookOfLife.{jobs-append}
use Rattle.fax_queue.proofs.BookEntries.{AreSound, LifeIs, NotesAre, QueueIs, counts_by, life_is, notes_are, pages_by, pages_in_life, pages_of, queue_is, restored_pages, sound_over, total, total_sizes}

-- ---- some of a list

pub none_of : (all : List CallPage) → AreSomeOf [] all
none_of [] = refl
none_of (p ∷ all) = tt

pub weaker : (p : CallPage) (some all : List CallPage) → AreSomeOf some all → AreSomeOf some (p ∷ all)
weaker p [] all are = tt
weaker p (q ∷ some) all are = inr are

pub all_of : (all : List CallPage) → AreSomeOf all all
all_of [] = refl
all_of (p ∷ all) = inl (refl, all_of all)

pub both_some : (some all others more : List CallPage) → AreSomeOf some all → AreSomeOf others more → AreSomeOf (some ++ others) (all ++ more)
both_some some [] others more are too = subst (λ (s : List CallPage). AreSomeOf (s ++ others) more) (sym are) too
both_some [] (p ∷ all) others more are too = weaker p others (all ++ more) (both_some [] all others more (none_of all) too)
both_some (q ∷ some) (p ∷ all) others more (inl are) too = inl (are.0, both_some some all others more are.1 too)
both_some (q ∷ some) (p ∷ all) others more (inr are) too = inr (both_some (q ∷ some) all others more are too)

pub some_some : (few some all : List CallPage) → AreSomeOf few some → AreSomeOf some all → AreSomeOf few all
some_some few some [] are too = subst (λ (s : List CallPage). AreSomeOf few s) too are
some_some few [] (p ∷ all) are too = subst (λ (s : List CallPage). AreSomeOf s (p ∷ all)) (sym are) tt
some_some [] (q ∷ some) (p ∷ all) are too = tt
some_some (r ∷ few) (q ∷ some) (p ∷ all) (inl are) (inl too) = inl (are.0 ∙ too.0, some_some few some all are.1 too.1)
some_some (r ∷ few) (q ∷ some) (p ∷ all) (inr are) (inl too) = inr (some_some (r ∷ few) some all are too.1)
some_some (r ∷ few) (q ∷ some) (p ∷ all) (inl are) (inr too) = inr (some_some (r ∷ few) (q ∷ some) all (inl are) too)
some_some (r ∷ few) (q ∷ some) (p ∷ all) (inr are) (inr too) = inr (some_some (r ∷ few) (q ∷ some) all (inr are) too)

some_drop : (n : ℕ) (all : List CallPage) → AreSomeOf (drop n all) all
some_drop zero all = all_of all
some_drop (suc n) [] = refl
some_drop (suc n) (p ∷ all) = weaker p (drop n all) all (some_drop n all)

pub some_take : (n : ℕ) (all : List CallPage) → AreSomeOf (take n all) all
some_take zero all = none_of all
some_take (suc n) [] = refl
some_take (suc n) (p ∷ all) = inl (refl, some_take n all)

there_if : (e : Entry) (entries others : List Entry) (b : Bool) → AreSomeOf (pages_of entries) (pages_of others) → AreSomeOf (pages_of (cond b (e ∷ entries) entries)) (pages_of (e ∷ others))
there_if e entries others true are = inl (refl, are)
there_if e entries others false are = weaker (page_of e.page) (pages_of entries) (pages_of others) are

pub some_there : (entries : List Entry) → AreSomeOf (pages_of (are_there entries)) (pages_of entries)
some_there [] = refl
some_there (e ∷ entries) = there_if e (are_there entries) entries e.is_there (some_there entries)

-- ---- the actions before a life, and those of it

-- what was told since a life began with these calls
abbrev IsSince : List RestoredCall → List BookEntry → List BookEntry → Type 0
IsSince calls before [] = ⊥
IsSince calls before (Confirms given page closes ∷ told) = IsSince calls before told
IsSince calls before (Reports pages ∷ told) = IsSince calls before told
IsSince calls before (Restores others ∷ told) = (others ≡ calls) × (told ≡ before)

since_confirms : (calls : List RestoredCall) (before : List BookEntry) (given : Option (List ℕ)) (number : ℕ) (o : Option ConfirmedPage) (told : List BookEntry) → IsSince calls before told
    → IsSince calls before (confirms given number o told)
since_confirms calls before given number None told is = is
since_confirms calls before given number (Some c) told is = is

since_confirms_on : (calls : List RestoredCall) (before : List BookEntry) (o : Option CallingLeg) (now : ℕ) (given : Option (List ℕ)) (told : List BookEntry) → IsSince calls before told
    → IsSince calls before (confirms_on o now given told)
since_confirms_on calls before None now given told is = is
since_confirms_on calls before (Some l) now given told is = since_confirms calls before given l.number (confirmed_at (Some l) now) told is

since_reports : (calls : List RestoredCall) (before : List BookEntry) (o : Option Report) (told : List BookEntry) → IsSince calls before told → IsSince calls before (reports o told)
since_reports calls before None told is = is
since_reports calls before (Some report) told is = is

since_in : (setup : Setup) (trace : List Event) (before : List BookEntry) → IsSince setup.restored before (told_in setup trace before)
since_in setup [] before = (refl, refl)
since_in setup (Ring at number ∷ earlier) before = since_in setup earlier before
since_in setup (FromCalling octets at decided read ∷ earlier) before = since_in setup earlier before
since_in setup (FromCalled octets at decided ∷ earlier) before = since_in setup earlier before
since_in setup (Placed at connected ∷ earlier) before = since_in setup earlier before
since_in setup (Tick at given ∷ earlier) before =
    let now : ℕ = clock (Tick at given ∷ earlier) in
    let leg : Option CallingLeg = calling_leg setup earlier in
    let told : List BookEntry = told_in setup earlier before in
    since_reports setup.restored before given.report (confirms_on leg now given.on_calling told)
    (since_confirms_on setup.restored before leg now given.on_calling told (since_in setup earlier before))

-- the pages that were gone before the last life
abbrev pub gone_before : List PageAction → List CallPage
gone_before [] = []
gone_before (Turns given ∷ actions) = gone_before actions
gone_before (Begins ∷ actions) = gone_before actions
gone_before (Stores given page ∷ actions) = gone_before actions
gone_before (Refuses given page is_there ∷ actions) = gone_before actions
gone_before (Ends pages ∷ actions) = gone_before actions
gone_before (Leaves pages ∷ actions) = gone_before actions
gone_before (Lets pages ∷ actions) = gone_before actions
gone_before (Beside ∷ actions) = gone_before actions
gone_before (Stops ∷ actions) = pages_gone actions

-- the actions before a life that began with these calls
pub record IsAfter (calls : List RestoredCall) (before : List BookEntry) (actions : List PageAction) : Type 0 where
  pub olds : List PageAction
  pub told : told_by olds ≡ before
  pub restored : calls ≡ calls_of (closed_read (owed olds))
  pub put : AllIsPut actions → AllIsPut olds
  pub gone : gone_before actions ≡ pages_gone olds

is_after : (calls : List RestoredCall) (before : List BookEntry) (actions : List PageAction) → IsSince calls before (told_by actions) → IsAfter calls before actions
is_after calls before [] is = absurd is
is_after calls before (Turns given ∷ actions) is =
    let was : IsAfter calls before actions = is_after calls before actions is in
    record { olds = was.olds; told = was.told; restored = was.restored; put = was.put; gone = was.gone }
is_after calls before (Begins ∷ actions) is =
    let was : IsAfter calls before actions = is_after calls before actions is in
    record { olds = was.olds; told = was.told; restored = was.restored; put = was.put; gone = was.gone }
is_after calls before (Stores given page ∷ actions) is =
    let was : IsAfter calls before actions = is_after calls before actions is in
    record { olds = was.olds; told = was.told; restored = was.restored; put = was.put; gone = was.gone }
is_after calls before (Refuses given page is_there ∷ actions) is =
    let was : IsAfter calls before actions = is_after calls before actions is in
    record { olds = was.olds; told = was.told; restored = was.restored; put = λ all. was.put all.1; gone = was.gone }
is_after calls before (Ends pages ∷ actions) is =
    let was : IsAfter calls before actions = is_after calls before actions is in
    record { olds = was.olds; told = was.told; restored = was.restored; put = was.put; gone = was.gone }
is_after calls before (Leaves pages ∷ actions) is =
    let was : IsAfter calls before actions = is_after calls before actions is in
    record { olds = was.olds; told = was.told; restored = was.restored; put = λ all. absurd all; gone = was.gone }
is_after calls before (Lets pages ∷ actions) is =
    let was : IsAfter calls before actions = is_after calls before actions is in
    record { olds = was.olds; told = was.told; restored = was.restored; put = was.put; gone = was.gone }
is_after calls before (Beside ∷ actions) is =
    let was : IsAfter calls before actions = is_after calls before actions is in
    record { olds = was.olds; told = was.told; restored = was.restored; put = was.put; gone = was.gone }
is_after calls before (Stops ∷ actions) is = record { olds = actions; told = is.1; restored = sym is.0; put = λ all. all; gone = refl }

pub before_life : (life : Life) (earlier : List Life) (actions : List PageAction) → told_by actions ≡ told_over (life ∷ earlier) → IsAfter life.setup.restored (told_over earlier) actions
before_life life earlier actions same =
    is_after life.setup.restored (told_over earlier) actions
    (subst (λ (told : List BookEntry). IsSince life.setup.restored (told_over earlier) told) (sym same) (since_in life.setup life.trace (told_over earlier)))

pub sound_actions : JobsAreCut → JobsHaveStates → (writes : Writing) (actions : List PageAction) (lives : List Life) → AreOfLives writes actions lives → AreSound (told_by actions)
sound_actions cut states writes actions lives are = subst (λ (told : List BookEntry). AreSound told) (sym are.same) (sound_over cut states writes lives are.traces)

pub actions_life : JobsAreCut → JobsHaveStates → (writes : Writing) (actions : List PageAction) (life : Life) (earlier : List Life) → AreOfLives writes actions (life ∷ earlier)
    → LifeIs life.setup writes life.trace (told_by actions)
actions_life cut states writes actions life earlier are =
    subst (λ (told : List BookEntry). LifeIs life.setup writes life.trace told) (sym are.same) (life_is cut states life.setup writes life.trace (told_over earlier) are.traces.0)

-- ---- the lives of a server are lives of a gateway

had_are : (lives : List Life) → pages_by (told_over lives) ≡ pages_had lives
had_are [] = refl
had_are (life ∷ earlier) = pages_in_life life.setup life.trace (told_over earlier)

owed_some : (actions : List PageAction) → QueueIs actions → AreSomeOf (map page_of (owed actions)) (pages_by (told_by actions))
owed_some actions is =
    let had : List CallPage = pages_by (told_by actions) in
    some_some (map page_of (owed actions)) (pages_of (queue_of actions)) had (some_there (queue_of actions))
    (subst (λ (pages : List CallPage). AreSomeOf pages had) (sym is.queued) (some_drop (total (noted actions)) had))

pub servers_are_lives : JobsAreCut → JobsHaveStates → ServersAreLives
servers_are_lives cut states writes actions [] are = tt
servers_are_lives cut states writes actions (life ∷ earlier) are =
    let after : IsAfter life.setup.restored (told_over earlier) actions = before_life life earlier actions are.same in
    let were : AreOfLives writes after.olds earlier = record { traces = are.traces.1; same = after.told } in
    let some : AreSomeOf (map page_of (owed after.olds)) (pages_by (told_by after.olds)) = owed_some after.olds (queue_is after.olds (sound_actions cut states writes after.olds earlier were)) in (
      are.traces.0,
      subst (λ (pages : List CallPage). AreSomeOf pages (pages_had earlier)) (sym (ap (λ (calls : List RestoredCall). pages_restored calls) after.restored ∙ restored_pages (owed after.olds)))
          (subst (λ (pages : List CallPage). AreSomeOf (map page_of (owed after.olds)) pages) (ap (λ (told : List BookEntry). pages_by told) after.told ∙ had_are earlier) some),
      servers_are_lives cut states writes after.olds earlier were,
    )

-- ---- where all is put

abbrev AllThere : List Entry → Type 0
AllThere [] = Unit {0}
AllThere (e ∷ entries) = (e.is_there ≡ true) × AllThere entries

one_there : (entries : List Entry) (e : Entry) → AllThere entries → e.is_there ≡ true → AllThere (entries ++ e ∷ [])
one_there [] e all is = (is, tt)
one_there (x ∷ entries) e all is = (all.0, one_there entries e all.1 is)

drop_there : (n : ℕ) (entries : List Entry) → AllThere entries → AllThere (drop n entries)
drop_there zero entries all = all
drop_there (suc n) [] all = tt
drop_there (suc n) (e ∷ entries) all = drop_there n entries all.1

all_are_there : (entries : List Entry) → AllThere entries → are_there entries ≡ entries
all_are_there [] all = refl
all_are_there (e ∷ entries) all = ap (λ (b : Bool). cond b (e ∷ are_there entries) (are_there entries)) all.0 ∙ ap (λ (x : List Entry). e ∷ x) (all_are_there entries all.1)

queue_there : (actions : List PageAction) → AllIsPut actions → AllThere (queue_of actions)
queue_there [] put = tt
queue_there (Turns given ∷ actions) put = queue_there actions put
queue_there (Begins ∷ actions) put = queue_there actions put
queue_there (Stores given page ∷ actions) put = one_there (queue_of actions) (record { page = page; is_there = true }) (queue_there actions put) refl
queue_there (Refuses given page is_there ∷ actions) put = one_there (queue_of actions) (record { page = page; is_there = is_there }) (queue_there actions put.1) put.0
queue_there (Ends pages ∷ actions) put = drop_there pages (queue_of actions) (queue_there actions put)
queue_there (Leaves pages ∷ actions) put = absurd put
queue_there (Lets pages ∷ actions) put = drop_there pages (queue_of actions) (queue_there actions put)
queue_there (Beside ∷ actions) put = queue_there actions put
queue_there (Stops ∷ actions) put = subst (λ (entries : List Entry). AllThere entries) (sym (all_are_there (queue_of actions) (queue_there actions put))) (queue_there actions put)

all_noted : (actions : List PageAction) → AllIsPut actions → unnoted actions ≡ []
all_noted [] put = refl
all_noted (Turns given ∷ actions) put = all_noted actions put
all_noted (Begins ∷ actions) put = all_noted actions put
all_noted (Stores given page ∷ actions) put = all_noted actions put
all_noted (Refuses given page is_there ∷ actions) put = all_noted actions put.1
all_noted (Ends pages ∷ actions) put = all_noted actions put
all_noted (Leaves pages ∷ actions) put = absurd put
all_noted (Lets pages ∷ actions) put = all_noted actions put
all_noted (Beside ∷ actions) put = all_noted actions put
all_noted (Stops ∷ actions) put = refl

-- where no life began, nothing is known
pub record NoneYet (actions : List PageAction) : Type 0 where
  pub queued : queue_of actions ≡ []
  pub gone : pages_gone actions ≡ []

pub none_yet : (actions : List PageAction) → told_by actions ≡ [] → NoneYet actions
none_yet [] none = record { queued = refl; gone = refl }
none_yet (Turns given ∷ actions) none = let was : NoneYet actions = none_yet actions none in record { queued = was.queued; gone = was.gone }
none_yet (Begins ∷ actions) none = let was : NoneYet actions = none_yet actions none in record { queued = was.queued; gone = was.gone }
none_yet (Stores given page ∷ actions) none = absurd (cc)
none_yet (Refuses given page is_there ∷ actions) none = absurd (cc)
none_yet (Ends pages ∷ actions) none = absurd (cc)
none_yet (Leaves pages ∷ actions) none = absurd (cc)
none_yet (Lets pages ∷ actions) none = absurd (cc)
none_yet (Beside ∷ actions) none = let was : NoneYet actions = none_yet actions none in record { queued = was.queued; gone = was.gone }
none_yet (Stops ∷ actions) none = absurd (cc)

sum_alone : (a b c d : ℕ) → a + b ≡ c → b ≡ 0 → d ≡ c → d ≡ a
sum_alone a b c d e none same = omega (arith, e, none, same)

left_is : (writes : Writing) (actions : List PageAction) (life : Life) → LifeIs life.setup writes life.trace (told_by actions) → QueueIs actions → AllIsPut actions
    → pages_of (queue_of actions) ≡ pages_left_in (book_of (both_legs life.setup writes life.trace))
left_is writes actions life is was put =
    let jobs : List JobValue = (past_of (both_legs life.setup writes life.trace)).ended in
    let left : List CallPage = pages_left_in (book_of (both_legs life.setup writes life.trace)) in
    let n : ℕ = total (noted actions) in
    let many : length (pages_of_jobs jobs) ≡ n =
    sum_alone n (total (unnoted actions)) (total (counts_by (told_by actions))) (length (pages_of_jobs jobs)) was.all (ap (λ (ns : List ℕ). total ns) (all_noted actions put))
    (total_sizes jobs ∙ ap (λ (ns : List ℕ). total ns) is.counts) in
    was.queued ∙ ap (λ (pages : List CallPage). drop n pages) is.pages ∙ drop_at (pages_of_jobs jobs) left n many

there_left : (actions : List PageAction) → AllIsPut actions → map page_of (owed actions) ≡ pages_of (queue_of actions)
there_left actions put = ap (λ (entries : List Entry). pages_of entries) (all_are_there (queue_of actions) (queue_there actions put))

owed_left : JobsAreCut → JobsHaveStates → (writes : Writing) (actions : List PageAction) (lives : List Life) → AreOfLives writes actions lives → AllIsPut actions → map page_of (owed actions) ≡ pages_left writes lives
owed_left cut states writes actions [] are put = there_left actions put ∙ ap (λ (entries : List Entry). pages_of entries) (none_yet actions are.same).queued
owed_left cut states writes actions (life ∷ earlier) are put =
    there_left actions put
    ∙ left_is writes actions life (actions_life cut states writes actions life earlier are) (queue_is actions (sound_actions cut states writes actions (life ∷ earlier) are)) put

are_stored : JobsAreCut → JobsHaveStates → (writes : Writing) (actions : List PageAction) (lives : List Life) → AreOfLives writes actions lives → AllIsPut actions → AreStored writes lives
are_stored cut states writes actions [] are put = tt
are_stored cut states writes actions (life ∷ earlier) are put =
    let after : IsAfter life.setup.restored (told_over earlier) actions = before_life life earlier actions are.same in
    let were : AreOfLives writes after.olds earlier = record { traces = are.traces.1; same = after.told } in (
      are.traces.0,
      ap (λ (calls : List RestoredCall). pages_restored calls) after.restored ∙ restored_pages (owed after.olds) ∙ owed_left cut states writes after.olds earlier were (after.put put),
      are_stored cut states writes after.olds earlier were (after.put put),
    )

pub servers_lose_none : JobsAreCut → JobsHaveStates → NoneIsLost → ServersLoseNone
servers_lose_none cut states lost writes actions lives are put =
    let left : map page_of (owed actions) ≡ pages_left writes lives = owed_left cut states writes actions lives are put in
    let kept : AreStored writes lives = are_stored cut states writes actions lives are put in
    record {
      owed_are = left;
      kept = kept;
      none_is_lost = lost writes lives kept ∙ ap (λ (pages : List CallPage). all_ended writes lives ++ pages) (sym left);
    }

-- ---- where something was not put, or not noted

record IsSplit (jobs : List JobValue) (ns ms : List ℕ) : Type 0 where
  gone : List JobValue
  stay : List JobValue
  jobs_are : jobs ≡ gone ++ stay
  are_noted : sizes gone ≡ ns
  are_unnoted : sizes stay ≡ ms

same_head : (n m : ℕ) (ns ms : List ℕ) → n ∷ ns ≡ m ∷ ms → n ≡ m
same_head n m ns ms same = cc

same_tail : (n m : ℕ) (ns ms : List ℕ) → n ∷ ns ≡ m ∷ ms → ns ≡ ms
same_tail n m ns ms same = cc

split : (jobs : List JobValue) (ns ms : List ℕ) → sizes jobs ≡ ns ++ ms → IsSplit jobs ns ms
split jobs [] ms same = record { gone = []; stay = jobs; jobs_are = refl; are_noted = refl; are_unnoted = same }
split [] (n ∷ ns) ms same = absurd (cc)
split (job ∷ jobs) (n ∷ ns) ms same =
    let was : IsSplit jobs ns ms = split jobs ns ms (same_tail (length job.pages) n (sizes jobs) (ns ++ ms) same) in
    record {
      gone = job ∷ was.gone;
      stay = was.stay;
      jobs_are = ap (λ (x : List JobValue). job ∷ x) was.jobs_are;
      are_noted = ap (λ (k : ℕ). k ∷ sizes was.gone) (same_head (length job.pages) n (sizes jobs) (ns ++ ms) same) ∙ ap (λ (x : List ℕ). n ∷ x) was.are_noted;
      are_unnoted = was.are_unnoted;
    }

pub queue_is_left : JobsAreCut → JobsHaveStates → QueueIsLeft
queue_is_left cut states line state writes actions life earlier done are =
    let is : LifeIs life.setup writes life.trace (told_by actions) = actions_life cut states writes actions life earlier are in
    let was : QueueIs actions = queue_is actions (sound_actions cut states writes actions (life ∷ earlier) are) in
    let notes : NotesAre actions state = notes_are line actions state done in
    let jobs : List JobValue = (past_of (both_legs life.setup writes life.trace)).ended in
    let left : List CallPage = pages_left_in (book_of (both_legs life.setup writes life.trace)) in
    let both : IsSplit jobs (noted actions) (unnoted actions) = split jobs (noted actions) (unnoted actions) (is.counts ∙ notes.counts) in
    let n : ℕ = total (noted actions) in
    record {
      gone = both.gone;
      stay = both.stay;
      ended = both.jobs_are;
      are_noted = both.are_noted;
      are_unnoted = both.are_unnoted;
      queued =
          was.queued
          ∙ ap (λ (pages : List CallPage). drop n pages)
          (is.pages ∙ ap (λ (x : List JobValue). pages_of_jobs x ++ left) both.jobs_are ∙ ap (λ (x : List CallPage). x ++ left) (jobs-append both.gone both.stay)
          ∙ append_assoc (pages_of_jobs both.gone) (pages_of_jobs both.stay) left)
          ∙ drop_at (pages_of_jobs both.gone) (pages_of_jobs both.stay ++ left) n (total_sizes both.gone ∙ ap (λ (ns : List ℕ). total ns) both.are_noted);
    }
