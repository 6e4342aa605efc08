-- Pages on the queues, and on the disk.
use Rattle.std.proofs.Common.{◌≡◌, ◌≢◌, ◌∙◌, ℕ, zero, suc, ◌+◌, inl, inr, Bool, true, false, not, cond, List, [], ◌∷◌, ◌++◌, map, take, Option, Some, None, slice_get, slice_index_or, ◌<◌, length, arith, Result, Ok, Err, OnOk, OnErr, MatchOption, refl, sym, ap, subst, append_assoc, append-nil, bytes_eq, option_map}
use Rattle.std.specs.Prelude.{slice_set}
use Rattle.std.specs.Bool.{⊤}
use Rattle.std.specs.Result.{is_ok}
use Rattle.std.proofs.lemmas.List.{length-take-le, map-append, take_more}
use Rattle.std.proofs.lemmas.Option.{slice_get-map}
use Rattle.std.proofs.lemmas.Slice.Eq.{bytes_eq-Decides}
use Rattle.fax_wires.specs.declared.holding.storing.StoreFault.{StoreFault}
use Rattle.fax_line.specs.declared.settling.PageToStore.{PageToStore}
use Rattle.fax_spool.specs.RecordOctets.{EndedValue, PageValue}
use Rattle.fax_spool.specs.Calls.{Accepts, Rests}
use Rattle.fax_spool.specs.Spools.{Stores}
use Rattle.fax_spool.specs.SpoolRecords.{page_record}
use Rattle.fax_spool.specs.Waits.{PageName, ends, name_of, waiting, without}
use Rattle.fax_spool.specs.declared.spool_record.SpoolRecord.{SpoolRecord}
use Rattle.fax_spool.specs.declared.spool.Spool.{Spool}
use Rattle.fax_queue.specs.declared.queue.QueuedPage.{QueuedPage}
use Rattle.fax_queue.specs.Queues.{AreAmong, IsAmong, IsQueued, QueueValue, left_by, lines_of, name_in}
use Rattle.fax_queue.specs.Jobs.{EndsJobAt, WaitSo}
use Rattle.fax_queue.specs.Storing.{AddAll, AddsAt, AddsTo, Agree, AllAreAmong, AllArePlaced, AllArePut, ArePut, AreRecordsUnder, HaveOwnNames, IsOther, IsPlaced, IsPut, IsRecordUnder, PutsRecords, noted_as, placed_as}
use Rattle.fax_spool.proofs.Order.{order_pages}
use Rattle.fax_queue.proofs.Waits.{ends_none_of, none_is_forgotten, put_after}

-- ---- what waits

pub wait_put :
    {D : Type 0} {seen : D → List ℕ} {may_leave : D → List ℕ → Type 0} {is_usable : D → Bool} (old new : Spool D) (values : List PageValue)
    → ((olds news : List SpoolRecord) → Stores seen may_leave is_usable old olds news → Stores seen may_leave is_usable new olds (news ++ map page_record values))
    → (waits : List PageValue) → Rests seen may_leave is_usable old waits → Rests seen may_leave is_usable new (waits ++ values)
wait_put old new values put waits was = record {
  olds = was.olds;
  news = was.news ++ map page_record values;
  kept = put was.olds was.news was.kept;
  in_order = order_pages was.olds was.news values was.in_order;
  wait = ap waiting (sym (append_assoc was.olds was.news (map page_record values))) ∙ put_after [] (was.olds ++ was.news) values ∙ ap (λ (l : List PageValue). l ++ values) was.wait;
}

-- ---- the names of the lines stay

set_line : (queues : List QueueValue) (place : ℕ) (old new : QueueValue) → slice_get queues place ≡ Some old → new.line ≡ old.line → lines_of (slice_set queues place new) ≡ lines_of queues
set_line [] place old new at line = cc
set_line (s ∷ queues) zero old new at line = let same : old ≡ s = cc in ap (λ (l : List ℕ). l ∷ lines_of queues) (line ∙ ap (λ (v : QueueValue). v.line) same)
set_line (s ∷ queues) (suc place) old new at line = ap (λ (l : List (List ℕ)). s.line ∷ l) (set_line queues place old new at line)

lines_stay : (page : QueuedPage) (place : ℕ) (olds news : List QueueValue) (o : Option QueueValue) → slice_get olds place ≡ o → AddsTo page place olds news o → lines_of news ≡ lines_of olds
lines_stay page place olds news None at adds = ap lines_of adds
lines_stay page place olds news (Some old) at adds = ap lines_of adds.1 ∙ set_line olds place old adds.0 at adds.2.line

-- ---- pages that are put

placed_so : (b : Bool) (page : PageValue) (life call number : ℕ) → page.life ≡ life → page.call ≡ call → page.number ≡ number → record { life = life; call = call; number = number; is_stored = b } ≡ placed_as page b
placed_so b page life call number lives calls numbers = cc

placed_at :
    (b : Bool) (life number : ℕ) (page : PageToStore) (value : PageValue) (olds news : List QueueValue) (o : Option QueueValue) → slice_get olds page.line ≡ o → slice_get (lines_of olds) page.line ≡ Some value.line
    → IsRecordUnder life page number value → AddsTo (noted_as life number b page) page.line olds news o → IsPlaced b page value olds news
placed_at b life number page value olds news None at line is adds =
    let none : None ≡ Some value.line = sym (slice_get-map (λ (s : QueueValue). s.line) olds page.line ∙ ap (option_map (λ (s : QueueValue). s.line)) at) ∙ line in cc
placed_at b life number page value olds news (Some old) at line is adds =
    let its : Some old.line ≡ Some value.line = sym (slice_get-map (λ (s : QueueValue). s.line) olds page.line ∙ ap (option_map (λ (s : QueueValue). s.line)) at) ∙ line in record {
      is_record = is.is_record;
      old = old;
      new = adds.0;
      was = at;
      are = adds.1;
      line_is = cc;
      queued = subst (λ (w : QueuedPage). IsQueued w old adds.0) (placed_so b value life page.kept.call number is.life_is is.call_is is.number_is) adds.2;
    }

pub all_placed :
    (life : ℕ) (b : Bool) (pages : List PageToStore) (numbers : List ℕ) (values : List PageValue) (olds news : List QueueValue) → AreRecordsUnder life (lines_of olds) pages numbers values
    → AddAll life b pages numbers olds news → AllArePlaced b pages values olds news
all_placed life b [] [] [] olds news are adds = adds
all_placed life b [] (n ∷ numbers) [] olds news are adds = adds
all_placed life b [] [] (v ∷ values) olds news are adds = absurd are
all_placed life b [] (n ∷ numbers) (v ∷ values) olds news are adds = absurd are
all_placed life b (p ∷ pages) [] values olds news are adds = absurd are
all_placed life b (p ∷ pages) (n ∷ numbers) [] olds news are adds = absurd are
all_placed life b (p ∷ pages) (n ∷ numbers) (v ∷ values) olds news are adds =
    let same : lines_of adds.0 ≡ lines_of olds = lines_stay (noted_as life n b p) p.line olds adds.0 (slice_get olds p.line) refl adds.1 in (
      adds.0,
      placed_at b life n p v olds adds.0 (slice_get olds p.line) refl are.0 are.1 adds.1,
      all_placed life b pages numbers values adds.0 news (subst (λ (l : List (List ℕ)). AreRecordsUnder life l pages numbers values) (sym same) are.2) adds.2,
    )

-- what else changes of a server's keeping leaves the pages put
pub put_through :
    {D : Type 0} (seen : D → List ℕ) (may_leave : D → List ℕ → Type 0) (is_usable : D → Bool) (answer : Result (Unit {0}) StoreFault) (life : ℕ) (pages : List PageToStore) (numbers numbers_1 numbers_2 : List ℕ) (b : Bool)
    (olds olds_1 olds_2 news : List QueueValue) (before before_1 put last : Spool D)
    → numbers_1 ≡ numbers → numbers_2 ≡ numbers → olds_1 ≡ olds → olds_2 ≡ olds → before_1 ≡ before → last ≡ put → OnOk answer (b ≡ true)
    → OnOk answer (PutsRecords seen may_leave is_usable life (lines_of olds_1) pages numbers_1 before_1 put)
    → AddAll life b pages numbers_2 olds_2 news
    → OnOk answer (ArePut seen may_leave is_usable pages olds news before last)
put_through {D = D} seen may_leave is_usable (Ok u) life pages numbers numbers_1 numbers_2 b olds olds_1 olds_2 news before before_1 put last e1 e2 e3 e4 e5 e6 kept puts adds = record {
  values = puts.values;
  queued = all_placed life true pages numbers puts.values olds news
      (subst (λ (l : List QueueValue). AreRecordsUnder life (lines_of l) pages numbers puts.values) e3 (subst (λ (n : List ℕ). AreRecordsUnder life (lines_of olds_1) pages n puts.values) e1 puts.are))
      (subst (λ (l : List QueueValue). AddAll life true pages numbers l news) e4
      (subst (λ (n : List ℕ). AddAll life true pages n olds_2 news) e2
      (subst (λ (t : Bool). AddAll life t pages numbers_2 olds_2 news) kept adds)));
  wait = λ waits was.
      subst (λ (s : Spool D). Rests seen may_leave is_usable s (waits ++ puts.values)) (sym e6)
      (wait_put before_1 put puts.values puts.put waits (subst (λ (s : Spool D). Rests seen may_leave is_usable s waits) (sym e5) was));
}
put_through seen may_leave is_usable (Err e) life pages numbers numbers_1 numbers_2 b olds olds_1 olds_2 news before before_1 put last e1 e2 e3 e4 e5 e6 kept puts adds = tt

-- ---- the queues among what waits

among_more : (name : PageName) (names more : List PageName) → IsAmong name names → IsAmong name (names ++ more)
among_more name [] more among = absurd among
among_more name (other ∷ names) more (inl same) = inl same
among_more name (other ∷ names) more (inr among) = inr (among_more name names more among)

among_last : (name : PageName) (names : List PageName) → IsAmong name (names ++ name ∷ [])
among_last name [] = inl refl
among_last name (other ∷ names) = inr (among_last name names)

are_more : (line : List ℕ) (pages : List QueuedPage) (names more : List PageName) → AreAmong line pages names → AreAmong line pages (names ++ more)
are_more line [] names more are = tt
are_more line (page ∷ pages) names more are = (λ kept. among_more (name_in line page) names more (are.0 kept), are_more line pages names more are.1)

all_more : (queues : List QueueValue) (names more : List PageName) → AllAreAmong queues names → AllAreAmong queues (names ++ more)
all_more [] names more are = tt
all_more (queue ∷ queues) names more are = (are_more queue.line queue.waits names more are.0, all_more queues names more are.1)

-- one page more on a queue
are_after : (line : List ℕ) (pages : List QueuedPage) (page : QueuedPage) (names : List PageName) → AreAmong line pages names → (page.is_stored ≡ true → IsAmong (name_in line page) names) → AreAmong line (pages ++ page ∷ []) names
are_after line [] page names are is = (is, tt)
are_after line (p ∷ pages) page names are is = (are.0, are_after line pages page names are.1 is)

queued_among : (page : QueuedPage) (old new : QueueValue) (names : List PageName) → IsQueued page old new → AreAmong old.line old.waits names → (page.is_stored ≡ true → IsAmong (name_in old.line page) names)
    → AreAmong new.line new.waits names
queued_among page old new names queued are is =
    subst (λ (l : List ℕ). AreAmong l new.waits names) (sym queued.line)
    (elim queued.waits [
      | inl more ↦ subst (λ (w : List QueuedPage). AreAmong old.line w names) (sym more) (are_after old.line old.waits page names are is)
      | inr same ↦ subst (λ (w : List QueuedPage). AreAmong old.line w names) (sym same) are
    ])

set_among : (queues : List QueueValue) (place : ℕ) (old new : QueueValue) (names : List PageName) → slice_get queues place ≡ Some old → (AreAmong old.line old.waits names → AreAmong new.line new.waits names)
    → AllAreAmong queues names → AllAreAmong (slice_set queues place new) names
set_among [] place old new names at more are = cc
set_among (queue ∷ queues) zero old new names at more are = let same : queue ≡ old = cc in (more (subst (λ (s : QueueValue). AreAmong s.line s.waits names) same are.0), are.1)
set_among (queue ∷ queues) (suc place) old new names at more are = (are.0, set_among queues place old new names at more are.1)

adds_to : (page : QueuedPage) (place : ℕ) (olds news : List QueueValue) (names : List PageName) (o : Option QueueValue) → page.is_stored ≡ false → slice_get olds place ≡ o → AddsTo page place olds news o
    → AllAreAmong olds names → AllAreAmong news names
adds_to page place olds news names None none at adds are = subst (λ (l : List QueueValue). AllAreAmong l names) (sym adds) are
adds_to page place olds news names (Some old) none at adds are =
    subst (λ (l : List QueueValue). AllAreAmong l names) (sym adds.1)
    (set_among olds place old adds.0 names at (λ among. queued_among page old adds.0 names adds.2 among (λ kept. absurd (let no : true ≡ false = sym kept ∙ none in cc))) are)

-- a page that is not on the disk changes nothing of that
pub adds_none : (page : QueuedPage) (place : ℕ) (olds news : List QueueValue) → page.is_stored ≡ false → AddsAt page place olds news → (names : List PageName) → AllAreAmong olds names → AllAreAmong news names
adds_none page place olds news none adds names are = adds_to page place olds news names (slice_get olds place) none refl adds are

pub all_none : (life : ℕ) (pages : List PageToStore) (numbers : List ℕ) (olds news : List QueueValue) → AddAll life false pages numbers olds news → (names : List PageName) → AllAreAmong olds names → AllAreAmong news names
all_none life [] numbers olds news adds names are = subst (λ (l : List QueueValue). AllAreAmong l names) (sym adds) are
all_none life (p ∷ pages) [] olds news adds names are =
    all_none life pages [] adds.1 news adds.3 names (adds_none (noted_as life adds.0 false p) p.line olds adds.1 refl adds.2 names are)
all_none life (p ∷ pages) (n ∷ numbers) olds news adds names are =
    all_none life pages numbers adds.0 news adds.2 names (adds_none (noted_as life n false p) p.line olds adds.0 refl adds.1 names are)

put_among : (page : PageToStore) (value : PageValue) (olds news : List QueueValue) (names : List PageName) → IsPut page value olds news → AllAreAmong olds names → AllAreAmong news (names ++ name_of value ∷ [])
put_among page value olds news names put are =
    let more : List PageName = names ++ name_of value ∷ [] in
    let last : IsAmong (name_in put.old.line (placed_as value true)) more =
    subst (λ (l : List ℕ). IsAmong (record { life = value.life; call = value.call; number = value.number; line = l }) more) put.line_is (among_last (name_of value) names) in
    subst (λ (l : List QueueValue). AllAreAmong l more) (sym put.are)
    (set_among olds page.line put.old put.new more put.was (λ among. queued_among (placed_as value true) put.old put.new more put.queued among (λ kept. last)) (all_more olds names (name_of value ∷ []) are))

all_put_among : (pages : List PageToStore) (values : List PageValue) (olds news : List QueueValue) (names : List PageName) → AllArePut pages values olds news → AllAreAmong olds names → AllAreAmong news (names ++ map name_of values)
all_put_among [] [] olds news names put are =
    subst (λ (l : List PageName). AllAreAmong news l) (sym (append-nil names)) (subst (λ (l : List QueueValue). AllAreAmong l names) (sym put) are)
all_put_among [] (v ∷ values) olds news names put are = absurd put
all_put_among (p ∷ pages) [] olds news names put are = absurd put
all_put_among (p ∷ pages) (v ∷ values) olds news names put are =
    subst (λ (l : List PageName). AllAreAmong news l) (append_assoc names (name_of v ∷ []) (map name_of values))
    (all_put_among pages values put.0 news (names ++ name_of v ∷ []) put.2 (put_among p v olds put.0 names put.1 are))

put_agrees :
    {D : Type 0} (seen : D → List ℕ) (may_leave : D → List ℕ → Type 0) (is_usable : D → Bool) (pages : List PageToStore) (olds news : List QueueValue) (before after : Spool D)
    → ArePut seen may_leave is_usable pages olds news before after → Agree seen may_leave is_usable before olds → Agree seen may_leave is_usable after news
put_agrees seen may_leave is_usable pages olds news before after put was = record {
  pages = was.pages ++ put.values;
  wait = put.wait was.pages was.wait;
  among = subst (λ (l : List PageName). AllAreAmong news l) (sym (map-append name_of was.pages put.values)) (all_put_among pages put.values olds news (map name_of was.pages) put.queued was.among);
}

-- ---- the end of a job

no_end : (ended : EndedValue) (line : List ℕ) (page : QueuedPage) (b : Bool) → bytes_eq ended.line line ≡ b → line ≢ ended.line → ends ended (name_in line page) ≡ false
no_end ended line page true same other = absurd (other (sym ((bytes_eq-Decides ended.line line).0 same)))
no_end ended line page false same other = ends_none_of ended (name_in line page) same

pub others_stay : (ended : EndedValue) (line : List ℕ) (pages : List QueuedPage) → line ≢ ended.line → left_by ended line pages ≡ pages
others_stay ended line [] other = refl
others_stay ended line (page ∷ pages) other =
    ap (λ (b : Bool). cond (not b) (page ∷ left_by ended line pages) (left_by ended line pages)) (no_end ended line page (bytes_eq ended.line line) refl other)
    ∙ ap (λ (l : List QueuedPage). page ∷ l) (others_stay ended line pages other)

others_among : (ended : EndedValue) (queues : List QueueValue) (waits : List PageValue) → IsOther ended.line queues → AllAreAmong queues (map name_of waits) → AllAreAmong queues (map name_of (without ended waits))
others_among ended [] waits other are = tt
others_among ended (queue ∷ queues) waits other are = (
  subst (λ (l : List QueuedPage). AreAmong queue.line l (map name_of (without ended waits))) (others_stay ended queue.line queue.waits other.0) (none_is_forgotten ended queue.line queue.waits waits are.0),
  others_among ended queues waits other.1 are.1,
)

is_other : (queue : QueueValue) (queues : List QueueValue) (place : ℕ) (old : QueueValue) → IsOther queue.line queues → slice_get queues place ≡ Some old → queue.line ≢ old.line
is_other queue [] place old other at = cc
is_other queue (s ∷ queues) zero old other at = let same : s ≡ old = cc in λ is. other.0 (ap (λ (v : QueueValue). v.line) same ∙ sym is)
is_other queue (s ∷ queues) (suc place) old other at = is_other queue queues place old other.1 at

ended_among : (ended : EndedValue) (queues : List QueueValue) (place : ℕ) (old new : QueueValue) (waits : List PageValue) → HaveOwnNames queues → slice_get queues place ≡ Some old → ended.line ≡ old.line
    → new.line ≡ old.line → left_by ended old.line old.waits ≡ new.waits → AllAreAmong queues (map name_of waits) → AllAreAmong (slice_set queues place new) (map name_of (without ended waits))
ended_among ended [] place old new waits own at named line leaves are = cc
ended_among ended (queue ∷ queues) zero old new waits own at named line leaves are =
    let same : queue ≡ old = cc in
    let its : AreAmong old.line old.waits (map name_of waits) = subst (λ (s : QueueValue). AreAmong s.line s.waits (map name_of waits)) same are.0 in (
      subst (λ (l : List ℕ). AreAmong l new.waits (map name_of (without ended waits))) (sym line)
          (subst (λ (w : List QueuedPage). AreAmong old.line w (map name_of (without ended waits))) leaves (none_is_forgotten ended old.line old.waits waits its)),
      others_among ended queues waits (subst (λ (l : List ℕ). IsOther l queues) (ap (λ (s : QueueValue). s.line) same ∙ sym named) own.0) are.1,
    )
ended_among ended (queue ∷ queues) (suc place) old new waits own at named line leaves are =
    let other : queue.line ≢ ended.line = λ is. is_other queue queues place old own.0 at (is ∙ named) in (
      subst (λ (l : List QueuedPage). AreAmong queue.line l (map name_of (without ended waits))) (others_stay ended queue.line queue.waits other) (none_is_forgotten ended queue.line queue.waits waits are.0),
      ended_among ended queues place old new waits own.1 at named line leaves are.1,
    )

pub end_agrees :
    {D : Type 0} (seen : D → List ℕ) (may_leave : D → List ℕ → Type 0) (is_usable : D → Bool) (pages place : ℕ) (olds news : List QueueValue) (before after : Spool D)
    → EndsJobAt seen may_leave is_usable pages place olds news before after → HaveOwnNames olds → Agree seen may_leave is_usable before olds → Accepts after → Agree seen may_leave is_usable after news
end_agrees seen may_leave is_usable pages place olds news before after ends own was accepts = record {
  pages = without ends.ends.ended was.pages;
  wait = as_told (without ends.ends.ended was.pages) (ends.ends.wait was.pages was.wait);
  among = subst (λ (l : List QueueValue). AllAreAmong l (map name_of (without ends.ends.ended was.pages))) (sym ends.are)
      (ended_among ends.ends.ended olds place ends.old ends.new was.pages own ends.was ends.ends.named ends.ends.line_is ends.ends.leaves was.among);
}
  where
    as_told : (left : List PageValue) → WaitSo seen may_leave is_usable after (λ told. told ≡ left) → Rests seen may_leave is_usable after left
    as_told left (inl is) = subst (λ (l : List PageValue). Rests seen may_leave is_usable after l) is.2 is.1
    as_told left (inr is) = let no : true ≡ false = sym is.0 ∙ accepts in absurd (cc)

-- ---- where an answer is an `Ok`

pub agrees_on :
    {D : Type 0} (seen : D → List ℕ) (may_leave : D → List ℕ → Type 0) (is_usable : D → Bool) (answer : Result (Unit {0}) StoreFault) (pages : List PageToStore) (olds news : List QueueValue) (before after : Spool D)
    → OnOk answer (ArePut seen may_leave is_usable pages olds news before after) → OnOk answer (Agree seen may_leave is_usable before olds → Agree seen may_leave is_usable after news)
agrees_on seen may_leave is_usable (Ok u) pages olds news before after put = put_agrees seen may_leave is_usable pages olds news before after put
agrees_on seen may_leave is_usable (Err e) pages olds news before after put = tt

pub names_on : (answer : Result (Unit {0}) StoreFault) (life : ℕ) (b : Bool) (pages : List PageToStore) (numbers : List ℕ) (olds olds_2 news : List QueueValue) → olds_2 ≡ olds → OnErr answer (b ≡ false)
    → AddAll life b pages numbers olds_2 news → OnErr answer ((names : List PageName) → AllAreAmong olds names → AllAreAmong news names)
names_on (Ok u) life b pages numbers olds olds_2 news same none adds = tt
names_on (Err e) life b pages numbers olds olds_2 news same none adds = λ names are.
    all_none life pages numbers olds_2 news (subst (λ (t : Bool). AddAll life t pages numbers olds_2 news) none adds) names (subst (λ (l : List QueueValue). AllAreAmong l names) (sym same) are)

pub ok_so : (answer : Result (Unit {0}) StoreFault) (b : Bool) → b ≡ is_ok answer → OnOk answer (b ≡ true)
ok_so (Ok u) b is = is
ok_so (Err e) b is = tt

pub err_so : (answer : Result (Unit {0}) StoreFault) (b : Bool) → b ≡ is_ok answer → OnErr answer (b ≡ false)
err_so (Ok u) b is = tt
err_so (Err e) b is = is

-- ---- one more page on its queue

all_more_added :
    (life : ℕ) (b : Bool) (pages : List PageToStore) (numbers : List ℕ) (page : PageToStore) (number : ℕ) (olds between news : List QueueValue) → MatchOption (slice_get numbers (length pages)) ⊤ (λ told. number ≡ told)
    → AddAll life b pages numbers olds between → AddsAt (noted_as life number b page) page.line between news → AddAll life b (pages ++ page ∷ []) numbers olds news
all_more_added life b [] [] page number olds between news told all adds =
    (number, news, subst (λ (l : List QueueValue). AddsAt (noted_as life number b page) page.line l news) all adds, refl)
all_more_added life b [] (n ∷ numbers) page number olds between news told all adds =
    (news, subst (λ (m : ℕ). AddsAt (noted_as life m b page) page.line olds news) told (subst (λ (l : List QueueValue). AddsAt (noted_as life number b page) page.line l news) all adds), refl)
all_more_added life b (p ∷ pages) [] page number olds between news told all adds = (all.0, all.1, all.2, all_more_added life b pages [] page number all.1 between news tt all.3 adds)
all_more_added life b (p ∷ pages) (n ∷ numbers) page number olds between news told all adds = (all.0, all.1, all_more_added life b pages numbers page number all.0 between news told all.2 adds)

pub next_added :
    (life : ℕ) (b : Bool) (pages : List PageToStore) (numbers : List ℕ) (k : ℕ) (page : PageToStore) (number : ℕ) (olds between news : List QueueValue) → k < length pages → page ≡ slice_index_or pages k page
    → MatchOption (slice_get numbers k) ⊤ (λ told. number ≡ told) → AddAll life b (take k pages) numbers olds between → AddsAt (noted_as life number b page) page.line between news
    → AddAll life b (take (k + 1) pages) numbers olds news
next_added life b pages numbers k page number olds between news low got told all adds =
    subst (λ (l : List PageToStore). AddAll life b l numbers olds news) (sym (take_more pages k page low))
    (subst (λ (p : PageToStore). AddAll life b (take k pages ++ p ∷ []) numbers olds news) got
    (all_more_added life b (take k pages) numbers page number olds between news
    (subst (λ (j : ℕ). MatchOption (slice_get numbers j) ⊤ (λ said. number ≡ said)) (sym (length-take-le k pages (omega (arith, low)))) told) all adds))

-- ---- one of the queues

pub get_at : (queues : List QueueValue) (place : ℕ) (queue : QueueValue) → place < length queues → queue ≡ slice_index_or queues place queue → slice_get queues place ≡ Some queue
get_at [] place queue low same = absurd (omega (arith, low))
get_at (s ∷ queues) zero queue low same = ap (λ (v : QueueValue). Some v) (sym same)
get_at (s ∷ queues) (suc place) queue low same = get_at queues place queue (omega (arith, low)) same

pub set_at : (queues : List QueueValue) (place : ℕ) (queue : QueueValue) → place < length queues → slice_get (slice_set queues place queue) place ≡ Some queue
set_at [] place queue low = absurd (omega (arith, low))
set_at (s ∷ queues) zero queue low = refl
set_at (s ∷ queues) (suc place) queue low = set_at queues place queue (omega (arith, low))
