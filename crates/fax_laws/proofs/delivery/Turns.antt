-- Turns and rounds, step by step.
use Rattle.std.proofs.Common.{◌≡◌, ℕ, zero, suc, ◌+◌, ◌-◌, ◌*◌, ◌/◌, ◌<◌, ◌≤◌, min, nat_le, Bool, true, false, List, [], ◌∷◌, Option, Some, None, refl, sym, ◌∙◌, ap, subst, arith, if◌then◌else◌}
use Rattle.fax_timers.specs.Moments.{moment_after, is_due}
use Rattle.fax_timers.specs.Paces.{pace_allows}
use Rattle.fax_timers.specs.declared.pace.LastPacket.{LastPacket}
use Rattle.fax_ifp.specs.Elements.{Slot}
use Rattle.fax_ifp.specs.Pieces.{Piece}
use Rattle.fax_jobs.specs.Jobs.{JobValue}
use Rattle.fax_answer.specs.Calls as answer
use Rattle.fax_answer.specs.Calls.{AnswererCore}
use Rattle.fax_answer.specs.Replies.{ConfirmedPage, WaitingPacket, is_waiting}
use Rattle.fax_call.specs.Calls as call
use Rattle.fax_call.specs.Calls.{CallerCore}
use Rattle.fax_call.specs.Delivery.{is_over}
use Rattle.fax_call.specs.Replies.{Due, waits}
use Rattle.fax_call.specs.Table.{Move, Stays, on_timers}
use Rattle.fax_call.specs.Writings.{Writing, IsWriting}
use Rattle.fax_gateway.specs.CallingLegs.{is_idle}
use Rattle.fax_laws.specs.delivery.Links.{Reader, IsReader, read_by, Link, slots_with, pieces_with, caller_turned, answerer_turned, packet_given, turned, round, rounds}

-- what a call is played with
pub record Env : Type 0 where
  pub writes : Writing
  pub reads : Reader
  pub job : JobValue
  pub is_writing : IsWriting writes
  pub is_reader : IsReader reads

abbrev pub job_in : Env → JobValue
job_in e = e.job

abbrev pub link : CallerCore → List Slot → AnswererCore → List Slot → Option (List ℕ) → List ConfirmedPage → Link
link a ts b us reply kept = record { caller = a; to_caller = ts; answerer = b; to_answerer = us; reply = reply; kept = kept }

-- ---- TIMERS AND THE PACE

le_false : (m n : ℕ) → n < m → nat_le m n ≡ false
le_false m n h = grind (arith)

le_true : (m n : ℕ) → m ≤ n → nat_le m n ≡ true
le_true m n h = grind (arith)

pub not_due : (at ms now : ℕ) → now < at + ms → now < 18446744073709551615 → is_due (Some (moment_after at ms)) now ≡ false
not_due at ms now h fits = le_false (min (at + ms) 18446744073709551615) now (omega arith)

pub allowed : (last : LastPacket) (now : ℕ) → last.at + last.span ≤ now → pace_allows (Some last) now ≡ true
allowed last now h = le_true (last.at + last.span) now h

pub not_yet : (last : LastPacket) (now : ℕ) → now < last.at + last.span → pace_allows (Some last) now ≡ false
not_yet last now h = le_false (last.at + last.span) now h

-- ---- THE CALLER'S TICK

pub caller_gives : (writes : Writing) (job : JobValue) (a : CallerCore) (now : ℕ) (d : Due) (due : List Due) → a.waiting ≡ d ∷ due → pace_allows a.pace.last now ≡ true
    → call.ticked writes job a now ≡ call.given_first writes job a now (d ∷ due)
caller_gives writes job a now d due w p =
    let held : call.timed a now ≡ a = ap (λ (ws : List Due). call.moved a (if◌then◌else◌ {A = Move} (waits ws) Stays (on_timers (is_due a.t1 now) (is_due a.t4 now) a.state a.counts))) w in
    ap (λ (b : CallerCore). call.paced writes job b now) held
    ∙ ap (λ (b : Bool). if◌then◌else◌ {A = call.TickResult} b (call.given_first writes job a now a.waiting) (record { core = a; given = None })) p
    ∙ ap (λ (ws : List Due). call.given_first writes job a now ws) w

abbrev pub CallerRests : Writing → JobValue → CallerCore → ℕ → Type 0
CallerRests writes job a now = call.ticked writes job a now ≡ record { core = a; given = None }

pub caller_holds : (writes : Writing) (job : JobValue) (a : CallerCore) (now : ℕ) (d : Due) (due : List Due) → a.waiting ≡ d ∷ due → pace_allows a.pace.last now ≡ false → CallerRests writes job a now
caller_holds writes job a now d due w p =
    let held : call.timed a now ≡ a = ap (λ (ws : List Due). call.moved a (if◌then◌else◌ {A = Move} (waits ws) Stays (on_timers (is_due a.t1 now) (is_due a.t4 now) a.state a.counts))) w in
    ap (λ (b : CallerCore). call.paced writes job b now) held
    ∙ ap (λ (b : Bool). if◌then◌else◌ {A = call.TickResult} b (call.given_first writes job a now a.waiting) (record { core = a; given = None })) p

pub caller_rests : (writes : Writing) (job : JobValue) (a : CallerCore) (now : ℕ) → a.waiting ≡ [] → on_timers (is_due a.t1 now) (is_due a.t4 now) a.state a.counts ≡ Stays → CallerRests writes job a now
caller_rests writes job a now w s =
    let held : call.timed a now ≡ a =
    ap (λ (ws : List Due). call.moved a (if◌then◌else◌ {A = Move} (waits ws) Stays (on_timers (is_due a.t1 now) (is_due a.t4 now) a.state a.counts))) w
    ∙ ap (λ (m : Move). call.moved a m) s in
    ap (λ (b : CallerCore). call.paced writes job b now) held
    ∙ ap (λ (ws : List Due). if◌then◌else◌ {A = call.TickResult} (pace_allows a.pace.last now) (call.given_first writes job a now ws) (record { core = a; given = None })) w
    ∙ same (pace_allows a.pace.last now)
  where
    same : (b : Bool) → if◌then◌else◌ {A = call.TickResult} b (record { core = a; given = None }) (record { core = a; given = None }) ≡ record { core = a; given = None }
    same true = refl
    same false = refl

-- ---- THE ANSWERER'S TICK

abbrev pub at_rest : AnswererCore → answer.TickResult
at_rest b = record { core = b; given = None; ended = false }

abbrev pub AnswererRests : AnswererCore → ℕ → Type 0
AnswererRests b now = answer.ticked b now ≡ at_rest b

pub answerer_gives : (b : AnswererCore) (now : ℕ) (w : WaitingPacket) (ws : List WaitingPacket) → b.waiting ≡ w ∷ ws → pace_allows b.pace.last now ≡ true
    → answer.ticked b now ≡ answer.given_first b now (w ∷ ws)
answerer_gives b now w ws is p =
    let held : answer.timed b now ≡ b = ap (λ (xs : List WaitingPacket). if◌then◌else◌ {A = AnswererCore} (is_waiting xs) b (answer.timed_in b.state b now)) is in
    ap (λ (x : AnswererCore). answer.paced x now) held
    ∙ ap (λ (x : Bool). if◌then◌else◌ {A = answer.TickResult} x (answer.given_first b now b.waiting) (at_rest b)) p
    ∙ ap (λ (xs : List WaitingPacket). answer.given_first b now xs) is

pub answerer_holds : (b : AnswererCore) (now : ℕ) (w : WaitingPacket) (ws : List WaitingPacket) → b.waiting ≡ w ∷ ws → pace_allows b.pace.last now ≡ false → AnswererRests b now
answerer_holds b now w ws is p =
    let held : answer.timed b now ≡ b = ap (λ (xs : List WaitingPacket). if◌then◌else◌ {A = AnswererCore} (is_waiting xs) b (answer.timed_in b.state b now)) is in
    ap (λ (x : AnswererCore). answer.paced x now) held
    ∙ ap (λ (x : Bool). if◌then◌else◌ {A = answer.TickResult} x (answer.given_first b now b.waiting) (at_rest b)) p

pub answerer_rests : (b : AnswererCore) (now : ℕ) → b.waiting ≡ [] → answer.timed_in b.state b now ≡ b → AnswererRests b now
answerer_rests b now is stays =
    let held : answer.timed b now ≡ b = ap (λ (xs : List WaitingPacket). if◌then◌else◌ {A = AnswererCore} (is_waiting xs) b (answer.timed_in b.state b now)) is ∙ stays in
    ap (λ (x : AnswererCore). answer.paced x now) held
    ∙ ap (λ (xs : List WaitingPacket). if◌then◌else◌ {A = answer.TickResult} (pace_allows b.pace.last now) (answer.given_first b now xs) (at_rest b)) is
    ∙ same (pace_allows b.pace.last now)
  where
    same : (x : Bool) → if◌then◌else◌ {A = answer.TickResult} x (at_rest b) (at_rest b) ≡ at_rest b
    same true = refl
    same false = refl

-- ---- TURNS

pub caller_turn : (writes : Writing) (job : JobValue) (now : ℕ) (l : Link) (ps : List Piece) (a : CallerCore) (c : call.TickResult) → pieces_with l.reply (is_over l.caller.state) l.to_caller ≡ ps → call.came_all l.caller ps now ≡ a
    → call.ticked writes job a now ≡ c → caller_turned writes job now l ≡ c
unfolding caller_turned
caller_turn writes job now l ps a c brought came ticked =
    ap (λ (xs : List Piece). call.ticked writes job (call.came_all l.caller xs now) now) brought ∙ ap (λ (x : CallerCore). call.ticked writes job x now) came ∙ ticked

pub answerer_turn : (reads : Reader) (now : ℕ) (packet : Option (List ℕ)) (l : Link) (ps : List Piece) (b : AnswererCore) (t : answer.TickResult) → pieces_with packet (is_idle l.answerer.state) l.to_answerer ≡ ps
    → answer.came_all (read_by reads (answer.first_asked l.answerer ps now)) l.answerer ps now ≡ b → answer.ticked b now ≡ t → answerer_turned reads now packet l ≡ t
unfolding answerer_turned
answerer_turn reads now packet l ps b t brought came ticked =
    ap (λ (xs : List Piece). answer.ticked (answer.came_all (read_by reads (answer.first_asked l.answerer xs now)) l.answerer xs now) now) brought
    ∙ ap (λ (x : AnswererCore). answer.ticked x now) came ∙ ticked

pub none_brings : (over : Bool) (before : List Slot) → pieces_with None over before ≡ []
unfolding pieces_with
none_brings over before = refl

pub round_is : (e : Env) (now : ℕ) (l : Link) (c : call.TickResult) (t : answer.TickResult) → caller_turned e.writes (job_in e) now l ≡ c → answerer_turned e.reads now (packet_given c.given) l ≡ t
    → round e.writes e.reads (job_in e) now l ≡ turned l c t
unfolding round
round_is e now l c t is later =
    ap (λ (x : call.TickResult). turned l x (answerer_turned e.reads now (packet_given x.given) l)) is ∙ ap (λ (x : answer.TickResult). turned l c x) later

-- the caller has nothing to say: the answerer gives what it has
pub answerer_alone : (e : Env) (now : ℕ) (l : Link) (t : answer.TickResult) → pieces_with l.reply (is_over l.caller.state) l.to_caller ≡ [] → CallerRests e.writes (job_in e) l.caller now → answer.ticked l.answerer now ≡ t
    → round e.writes e.reads (job_in e) now l ≡ turned l (record { core = l.caller; given = None }) t
answerer_alone e now l t silent rests ticks =
    round_is e now l (record { core = l.caller; given = None }) t
    (caller_turn e.writes (job_in e) now l [] l.caller (record { core = l.caller; given = None }) silent refl rests)
    (answerer_turn e.reads now None l [] l.answerer t (none_brings _ l.to_answerer) refl ticks)

-- neither has: the round changes nothing
pub both_rest : (e : Env) (now : ℕ) (a : CallerCore) (ts : List Slot) (b : AnswererCore) (us : List Slot) (kept : List ConfirmedPage) → CallerRests e.writes (job_in e) a now → AnswererRests b now
    → round e.writes e.reads (job_in e) now (link a ts b us None kept) ≡ link a ts b us None kept
both_rest e now a ts b us kept rests quiet = answerer_alone e now (link a ts b us None kept) (at_rest b) (none_brings _ ts) rests quiet

-- ---- ROUNDS

abbrev pub run : Env → (many now : ℕ) → Link → Link
run e many now l = rounds e.writes e.reads (job_in e) many now l

abbrev pub play : Env → (now : ℕ) → Link → Link
play e now l = round e.writes e.reads (job_in e) now l

pub run_none : (e : Env) (now : ℕ) (l : Link) → run e 0 now l ≡ l
unfolding rounds
run_none e now l = refl

pub run_more : (e : Env) (many now : ℕ) (l : Link) → run e (suc many) now l ≡ run e many (now + 40) (play e now l)
unfolding rounds
run_more e many now l = refl

pub run_on : (e : Env) (m n now : ℕ) (l : Link) → run e (m + n) now l ≡ run e n (now + 40 * m) (run e m now l)
run_on e zero n now l =
    let none : 0 + n ≡ n = omega arith in
    let same : now ≡ now + 40 * 0 = omega arith in
    ap (λ (k : ℕ). run e k now l) none ∙ ap (λ (t : ℕ). run e n t l) same ∙ ap (λ (x : Link). run e n (now + 40 * 0) x) (sym (run_none e now l))
run_on e (suc m) n now l =
    let more : suc m + n ≡ suc (m + n) = omega arith in
    let later : now + 40 + 40 * m ≡ now + 40 * suc m = omega arith in
    ap (λ (k : ℕ). run e k now l) more ∙ run_more e (m + n) now l ∙ run_on e m n (now + 40) (play e now l)
    ∙ ap (λ (t : ℕ). run e n t (run e m (now + 40) (play e now l))) later
    ∙ ap (λ (x : Link). run e n (now + 40 * suc m) x) (sym (run_more e m now l))

-- after some rounds, at most so many, it is so
pub record Gets (e : Env) (most now : ℕ) (l : Link) (P : ℕ → Link → Type 0) : Type 0 where
  pub many : ℕ
  pub few : many ≤ most
  pub there : P (now + 40 * many) (run e many now l)

pub gets_on : (e : Env) (m k now : ℕ) (l : Link) (P Q : ℕ → Link → Type 0) → Gets e m now l P → ((later : ℕ) (x : Link) → now ≤ later → later ≤ now + 40 * m → P later x → Gets e k later x Q) → Gets e (m + k) now l Q
gets_on e m k now l P Q g f =
    let few : g.many ≤ m = g.few in
    let later : ℕ = now + 40 * g.many in
    let h : Gets e k (now + 40 * g.many) (run e g.many now l) Q = f (now + 40 * g.many) (run e g.many now l) (omega arith) (omega arith) g.there in
    let also : h.many ≤ k = h.few in
    let at : now + 40 * g.many + 40 * h.many ≡ now + 40 * (g.many + h.many) = omega arith in
    record {
      many = g.many + h.many;
      few = omega arith;
      there = subst (λ (t : ℕ). Q t (run e (g.many + h.many) now l)) at
          (subst (λ (x : Link). Q (now + 40 * g.many + 40 * h.many) x) (sym (run_on e g.many h.many now l)) h.there);
    }

pub gets_one : (e : Env) (now : ℕ) (l x : Link) (Q : ℕ → Link → Type 0) → play e now l ≡ x → Q (now + 40) x → Gets e 1 now l Q
gets_one e now l x Q is q =
    let at : now + 40 ≡ now + 40 * 1 = omega arith in
    record {
      many = 1;
      few = omega arith;
      there = subst (λ (t : ℕ). Q t (run e 1 now l)) at
          (subst (λ (y : Link). Q (now + 40) y) (sym (run_more e 0 now l ∙ run_none e (now + 40) (play e now l) ∙ is)) q);
    }

pub gets_now : (e : Env) (now : ℕ) (l : Link) (Q : ℕ → Link → Type 0) → Q now l → Gets e 0 now l Q
gets_now e now l Q q =
    let at : now ≡ now + 40 * 0 = omega arith in
    record { many = 0; few = omega arith; there = subst (λ (t : ℕ). Q t (run e 0 now l)) at (subst (λ (x : Link). Q now x) (sym (run_none e now l)) q) }

pub gets_from : (e : Env) (m now : ℕ) (l x : Link) (Q : ℕ → Link → Type 0) → l ≡ x → Gets e m now x Q → Gets e m now l Q
gets_from e m now l x Q is g = subst (λ (y : Link). Gets e m now y Q) (sym is) g

pub gets_step : (e : Env) (k now : ℕ) (l x : Link) (Q : ℕ → Link → Type 0) → play e now l ≡ x → Gets e k (now + 40) x Q → Gets e (1 + k) now l Q
gets_step e k now l x Q is g =
    gets_on e 1 k now l (λ t y. (t ≡ now + 40) × (y ≡ x)) Q (gets_one e now l x (λ t y. (t ≡ now + 40) × (y ≡ x)) is (refl, refl))
    (λ later y lo hi p. subst (λ (t : ℕ). Gets e k t y Q) (sym p.0) (gets_from e k (now + 40) y x Q p.1 g))

pub gets_more : (e : Env) (m n now : ℕ) (l : Link) (Q : ℕ → Link → Type 0) → m ≤ n → Gets e m now l Q → Gets e n now l Q
gets_more e m n now l Q h g = let few : g.many ≤ m = g.few in record { many = g.many; few = omega arith; there = g.there }

-- rounds that change nothing
pub stays : (e : Env) (many now : ℕ) (l : Link) → ((j : ℕ) → j < many → play e (now + 40 * j) l ≡ l) → run e many now l ≡ l
stays e zero now l f = run_none e now l
stays e (suc many) now l f =
    let first : play e now l ≡ l = subst (λ (t : ℕ). play e t l ≡ l) (let z : now + 40 * 0 ≡ now = omega arith in z) (f 0 (omega arith)) in
    run_more e many now l ∙ ap (λ (x : Link). run e many (now + 40) x) first
    ∙ stays e many (now + 40) l (λ j h. subst (λ (t : ℕ). play e t l ≡ l) (let z : now + 40 * suc j ≡ now + 40 + 40 * j = omega arith in z) (f (suc j) (omega (arith, h))))

-- ---- WAITING for a moment: how many rounds

pub record Wait (target now most : ℕ) : Type 0 where
  pub many : ℕ
  pub few : many ≤ most
  pub enough : target ≤ now + 40 * many
  pub before : (j : ℕ) → j < many → now + 40 * j < target

pub wait_for : (target now most : ℕ) → target ≤ now + 40 * most → Wait target now most
wait_for target now most h =
    let k : ℕ = (target - now + 39) / 40 in
    record { many = (target - now + 39) / 40; few = omega arith; enough = omega arith; before = λ j below. omega (arith, below) }

-- what waits at the caller waits until the pace allows it
pub caller_waits : (e : Env) (k now : ℕ) (a : CallerCore) (ts : List Slot) (b : AnswererCore) (us : List Slot) (kept : List ConfirmedPage) (d : Due) (due : List Due) (last : LastPacket) (Q : ℕ → Link → Type 0)
    → a.waiting ≡ d ∷ due → a.pace.last ≡ Some last → last.at + last.span ≤ now + 40 * 49 → ((t : ℕ) → now ≤ t → t ≤ now + 40 * 49 → AnswererRests b t)
    → ((later : ℕ) → now ≤ later → later ≤ now + 40 * 49 → last.at + last.span ≤ later → Gets e k later (link a ts b us None kept) Q)
    → Gets e (49 + k) now (link a ts b us None kept) Q
caller_waits e k now a ts b us kept d due last Q w p soon quiet next =
    let l : Link = link a ts b us None kept in
    let wait : Wait (last.at + last.span) now 49 = wait_for (last.at + last.span) now 49 soon in
    let few : wait.many ≤ 49 = wait.few in
    let held : run e wait.many now (link a ts b us None kept) ≡ link a ts b us None kept =
    stays e wait.many now (link a ts b us None kept)
    (λ j h. both_rest e (now + 40 * j) a ts b us kept
    (caller_holds e.writes (job_in e) a (now + 40 * j) d due w (ap (λ (o : Option LastPacket). pace_allows o (now + 40 * j)) p ∙ not_yet last (now + 40 * j) (wait.before j h)))
    (quiet (now + 40 * j) (omega arith) (omega (arith, h)))) in
    gets_on e 49 k now (link a ts b us None kept) (λ t x. (last.at + last.span ≤ t) × (x ≡ link a ts b us None kept)) Q
    (record { many = wait.many; few = few; there = (wait.enough, held) })
    (λ later x lo hi q. gets_from e k later x (link a ts b us None kept) Q q.1 (next later lo hi q.0))

-- and so it is at the answerer
pub answerer_waits : (e : Env) (k now : ℕ) (a : CallerCore) (ts : List Slot) (b : AnswererCore) (us : List Slot) (r : Option (List ℕ)) (kept : List ConfirmedPage) (w : WaitingPacket) (ws : List WaitingPacket)
    (last : LastPacket) (heard : List Slot) (Q : ℕ → Link → Type 0) → pieces_with r (is_over a.state) ts ≡ [] → slots_with r (is_over a.state) ts ≡ heard
    → b.waiting ≡ w ∷ ws → b.pace.last ≡ Some last → last.at + last.span ≤ now + 40 * 49 → ((t : ℕ) → now ≤ t → t ≤ now + 40 * 49 → CallerRests e.writes (job_in e) a t)
    → ((later : ℕ) (r : Option (List ℕ)) (ts : List Slot) → now ≤ later → later ≤ now + 40 * 49 → last.at + last.span ≤ later → pieces_with r (is_over a.state) ts ≡ [] → slots_with r (is_over a.state) ts ≡ heard
    → Gets e k later (link a ts b us r kept) Q)
    → Gets e (49 + k) now (link a ts b us r kept) Q
answerer_waits e k now a ts b us r kept w ws last heard Q silent is waits p soon quiet next = by wait.many wait.few wait.enough wait.before
  where
    wait : Wait (last.at + last.span) now 49
    wait = wait_for (last.at + last.span) now 49 soon

    holds : (t : ℕ) → t < last.at + last.span → AnswererRests b t
    holds t h = answerer_holds b t w ws waits (ap (λ (o : Option LastPacket). pace_allows o t) p ∙ not_yet last t h)

    by : (many : ℕ) → many ≤ 49 → last.at + last.span ≤ now + 40 * many → ((j : ℕ) → j < many → now + 40 * j < last.at + last.span) → Gets e (49 + k) now (link a ts b us r kept) Q
    by zero few enough before = gets_more e k (49 + k) now (link a ts b us r kept) Q (omega arith) (next now r ts (omega arith) (omega arith) (omega arith) silent is)
    by (suc many) few enough before =
        let l : Link = link a heard b us None kept in
        let at_first : now < last.at + last.span = let z : now + 40 * 0 < last.at + last.span = before 0 (omega arith) in omega arith in
        let first : play e now (link a ts b us r kept) ≡ link a heard b us None kept =
        answerer_alone e now (link a ts b us r kept) (at_rest b) silent (quiet now (omega arith) (omega arith)) (holds now at_first)
        ∙ ap (λ (hs : List Slot). link a hs b us None kept) is in
        let held : run e (suc many) now (link a ts b us r kept) ≡ link a heard b us None kept =
        run_more e many now (link a ts b us r kept) ∙ ap (λ (x : Link). run e many (now + 40) x) first
        ∙ stays e many (now + 40) (link a heard b us None kept)
        (λ j h. both_rest e (now + 40 + 40 * j) a heard b us kept (quiet (now + 40 + 40 * j) (omega arith) (omega (arith, h)))
        (holds (now + 40 + 40 * j) (let z : now + 40 * suc j < last.at + last.span = before (suc j) (omega (arith, h)) in omega arith))) in
        gets_on e 49 k now (link a ts b us r kept) (λ t x. (last.at + last.span ≤ t) × (x ≡ link a heard b us None kept)) Q
        (record { many = suc many; few = few; there = (enough, held) })
        (λ later x lo hi q. gets_from e k later x (link a heard b us None kept) Q q.1 (next later None heard lo hi q.0 (none_brings _ heard) refl))
