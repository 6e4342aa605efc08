-- A gateway between two machines: before the last page is confirmed, and while they are being sent on.
use Rattle.std.proofs.Common.{◌≡◌, ℕ, ◌+◌, ◌≤◌, Bool, true, false, is_some, List, [], ◌∷◌, Option, Some, None, option_map, ◌⊎◌, inl, inr, refl, sym, ◌∙◌, ap, subst, arith, if◌then◌else◌}
use Rattle.fax_runcodes.specs.declared.format.Format.{Format}
use Rattle.fax_timers.specs.Paces.{pace_allows}
use Rattle.fax_pagestore.specs.Pages.{PageValue}
use Rattle.fax_jobs.specs.declared.outcome.Outcome.{Outcome}
use Rattle.fax_jobs.specs.Books.{Book, confirmed}
use Rattle.fax_jobs.specs.Jobs.{JobValue}
use Rattle.fax_jobs.specs.Pasts.{Step, Sends}
use Rattle.fax_answer.specs.declared.state.State.{State as Answering}
use Rattle.fax_answer.specs.declared.state.State.TheVariants as answering
use Rattle.fax_answer.specs.Calls as answer
use Rattle.fax_answer.specs.Calls.{AnswererCore}
use Rattle.fax_answer.specs.Replies.{ConfirmedPage, WaitingPacket}
use Rattle.fax_call.specs.declared.state.State.{State as Calling}
use Rattle.fax_call.specs.declared.state.State.TheVariants as calling
use Rattle.fax_call.specs.Calls as call
use Rattle.fax_call.specs.Calls.{CallerCore}
use Rattle.fax_call.specs.Delivery.{is_over}
use Rattle.fax_call.specs.Writings.{Writing}
use Rattle.fax_call.proofs.Silence.{IsTimely}
use Rattle.fax_call.proofs.Silence as timely
use Rattle.fax_gateway.specs.Setups.{Setup}
use Rattle.fax_gateway.specs.Events.{Event, Tick, Given, clock}
use Rattle.fax_gateway.specs.CallingLegs as answers
use Rattle.fax_gateway.specs.CallingLegs.{CallingLeg, calling_leg, confirmed_by, idle_after, is_idle, rung_leg}
use Rattle.fax_gateway.specs.CalledLegs as calls
use Rattle.fax_gateway.specs.CalledLegs.{CalledLeg, begun_leg, core_left, leg_ticked, outcome_of, told_called, with_tick}
use Rattle.fax_gateway.specs.BothLegs.{BothLegs, before_serving, book_of, both_legs, enters, heard_in_tick, in_tick, serves}
use Rattle.fax_laws.specs.delivery.Links.{Reader}
use Rattle.fax_laws.specs.delivery.Datagrams.{Legs, caller_with, answerer_with, by_caller, legs_round, legs_begun}
use Rattle.fax_laws.specs.delivery.Gateways.{Relay, with_calling, given_at, machine_with, by_machine, relay_round}
use Rattle.fax_laws.proofs.delivery.Turns.{CallerRests}
use Rattle.fax_laws.proofs.delivery.Short.{stays_idle}
use Rattle.fax_laws.proofs.delivery.CallingLeg.{OnCalling, max_is, calling_clock, came_in, came_clock, heard_leg, leg_heard, only_heard}
use Rattle.fax_laws.proofs.delivery.CalledLeg.{book_in, book_with, busy, comes_called, comes_calling, comes_going, confirming_tick, going_tick, opened_book, ended_with, enters_none, leg_with, middle, none_begins, one_begins, over_rests, quiet_tick, same_over, sends_with, waits_with, with_job, with_timely, z_of}

-- ---- THE TICK of a gateway, by the leg that heard

tick_middle : (setup : Setup) (writes : Writing) (now : ℕ) (h : List Event) (l : CallingLeg) → clock h ≤ now → calling_leg setup h ≡ Some l
    → in_tick setup writes h now ≡ middle setup writes now (heard_in_tick (Some l) now (both_legs setup writes h).steps) (both_legs setup writes h).leg
tick_middle setup writes now h l soon leg =
    ap (λ (m : ℕ). before_serving setup writes (calling_leg setup h) m (both_legs setup writes h)) (max_is now (clock h) soon)
    ∙ ap (λ (k : Option CallingLeg). before_serving setup writes k now (both_legs setup writes h)) leg

tick_legs : (setup : Setup) (writes : Writing) (now : ℕ) (h : List Event) (l : CallingLeg) (g : Given) → clock h ≤ now → calling_leg setup h ≡ Some l
    → both_legs setup writes (Tick now g ∷ h) ≡ serves writes now (middle setup writes now (heard_in_tick (Some l) now (both_legs setup writes h).steps) (both_legs setup writes h).leg)
tick_legs setup writes now h l g soon leg =
    ap (λ (m : ℕ). serves writes m (before_serving setup writes (calling_leg setup h) m (both_legs setup writes h))) (max_is now (clock h) soon)
    ∙ ap (λ (k : Option CallingLeg). serves writes now (before_serving setup writes k now (both_legs setup writes h))) leg

-- what the gateway heard in a round leaves the book, and the called leg hears
record Hears (first gateway : Setup) (writes : Writing) (reads : Reader) (now : ℕ) (r : Relay) (b : Book) : Type 0 where
  book : book_of (both_legs gateway writes (came_in first gateway writes reads now r)) ≡ b
  leg : (both_legs gateway writes (came_in first gateway writes reads now r)).leg ≡ leg_with writes now r.to_gateway (both_legs gateway writes r.trace).leg

hears : (first gateway : Setup) (writes : Writing) (reads : Reader) (now : ℕ) (r : Relay) (b : Book) → clock r.trace ≤ now → book_of (both_legs gateway writes r.trace) ≡ b → b.open_job ≡ None → Hears first gateway writes reads now r b
hears first gateway writes reads now r b soon is none =
    let o : Option (List ℕ) = by_caller first writes now (caller_with writes now r.to_caller r.caller) in
    let one = comes_calling gateway writes reads now o r.trace b is none in
    let two = comes_called gateway writes now r.to_gateway (with_calling gateway reads now o r.trace) (calling_clock gateway reads now o r.trace soon) in
    record { book = two.0 ∙ one.0; leg = two.1 ∙ ap (λ (k : Option CalledLeg). leg_with writes now r.to_gateway k) one.1 }

-- and so it is where the calling leg's call does not end
hears_on : (first gateway : Setup) (writes : Writing) (reads : Reader) (now : ℕ) (r : Relay) (x : Legs) (b : Book) → OnCalling gateway now r x → book_of (both_legs gateway writes r.trace) ≡ b
    → is_idle (answers.core_of (leg_heard first writes reads now x)).state ≡ false → Hears first gateway writes reads now r b
hears_on first gateway writes reads now r x b on is awake =
    let o : Option (List ℕ) = by_caller first writes now (caller_with writes now r.to_caller r.caller) in
    let one = comes_going gateway writes reads now o r.trace (ap (λ (k : Option CallingLeg). idle_after k) (only_heard first gateway writes reads now r x on) ∙ awake) in
    let two = comes_called gateway writes now r.to_gateway (with_calling gateway reads now o r.trace) (calling_clock gateway reads now o r.trace on.soon) in
    record { book = two.0 ∙ one.0 ∙ is; leg = two.1 ∙ ap (λ (k : Option CalledLeg). leg_with writes now r.to_gateway k) one.1 }

-- a tick that does not leave the answerer idle ends no call, and found it so
first_goes : (a : AnswererCore) (now : ℕ) (ws : List WaitingPacket) → is_idle (answer.given_first a now ws).core.state ≡ false → (answer.given_first a now ws).ended ≡ false
first_goes a now [] h = refl
first_goes a now (w ∷ []) h = by a.state h
  where
    by : (s : Answering) → is_idle (answer.state_when_given s) ≡ false → answer.is_closing s ≡ false
    by answering.Closing e = cc
    by answering.Idle e = refl
    by answering.Identify e = refl
    by answering.Listen e = refl
    by (answering.Train d) e = refl
    by (answering.Page d) e = refl
    by answering.Again e = refl
first_goes a now (w ∷ v ∷ ws) h = refl

tick_goes : (a : AnswererCore) (now : ℕ) → is_idle (answer.ticked a now).core.state ≡ false → (answer.ticked a now).ended ≡ false
tick_goes a now h = by (pace_allows (answer.timed a now).pace.last now) h
  where
    by : (b : Bool)
        → is_idle (if◌then◌else◌ {A = answer.TickResult} b (answer.given_first (answer.timed a now) now (answer.timed a now).waiting) (record { core = answer.timed a now; given = None; ended = false })).core.state ≡ false
        → (if◌then◌else◌ {A = answer.TickResult} b (answer.given_first (answer.timed a now) now (answer.timed a now).waiting) (record { core = answer.timed a now; given = None; ended = false })).ended ≡ false
    by true e = first_goes (answer.timed a now) now (answer.timed a now).waiting e
    by false e = refl

-- ---- BEFORE the last page is confirmed: these were

pub record Before (gateway : Setup) (writes : Writing) (format : Format) (pages : List PageValue) (r : Relay) : Type 0 where
  pub leg : (both_legs gateway writes r.trace).leg ≡ None
  pub book : book_of (both_legs gateway writes r.trace) ≡ opened_book format pages
  pub answerer : r.answerer ≡ None
  pub reply : r.to_gateway ≡ None

abbrev pub confirms : (first : Setup) → Writing → Reader → ℕ → Legs → Option ConfirmedPage
confirms first writes reads now x = confirmed_by (answers.answers (leg_heard first writes reads now x) now).given

still_none : (first gateway : Setup) (writes : Writing) (reads : Reader) (now : ℕ) (r : Relay) (b : Book) (format : Format) (pages : List PageValue) → Hears first gateway writes reads now r b → Before gateway writes format pages r
    → (both_legs gateway writes (came_in first gateway writes reads now r)).leg ≡ None
still_none first gateway writes reads now r b format pages h before =
    h.leg ∙ ap (λ (o : Option (List ℕ)). leg_with writes now o (both_legs gateway writes r.trace).leg) before.reply ∙ before.leg

pub before_on : (first gateway last : Setup) (writes : Writing) (reads : Reader) (now : ℕ) (r : Relay) (x : Legs) (format : Format) (pages after : List PageValue) (o : Option ConfirmedPage) → gateway.asks ≡ false → OnCalling gateway now r x
    → Before gateway writes format pages r → confirms first writes reads now x ≡ o → (leg_heard first writes reads now x).number ≡ 0 → book_with o (opened_book format pages) ≡ opened_book format after
    → is_idle (answers.answers (leg_heard first writes reads now x) now).core.state ≡ false
    → Before gateway writes format after (relay_round first gateway last writes reads now r)
unfolding relay_round
before_on first gateway last writes reads now r x format pages after o asks on before told number goes_on awake =
    let h : List Event = came_in first gateway writes reads now r in
    let l : CallingLeg = leg_heard first writes reads now x in
    let b : Book = opened_book format after in
    let soon : clock (came_in first gateway writes reads now r) ≤ now = came_clock first gateway writes reads now r on.soon in
    let leg : calling_leg gateway h ≡ Some l = heard_leg first gateway writes reads now r x on in
    let hear : Hears first gateway writes reads now r (opened_book format pages) =
    hears_on first gateway writes reads now r x (opened_book format pages) on before.book (stays_idle None (answers.core_of (leg_heard first writes reads now x)) [] now awake) in
    let steps : List Step = heard_in_tick (Some l) now (both_legs gateway writes h).steps in
    let quiet : book_in steps ≡ b = going_tick l now (both_legs gateway writes h).steps (opened_book format pages) o told (tick_goes (answers.core_of l) now awake) number hear.book ∙ goes_on in
    let begins = none_begins gateway writes now steps None b asks refl quiet (refl, refl) in
    let goes : middle gateway writes now steps (both_legs gateway writes h).leg ≡ z_of (Sends ∷ steps) None =
    ap (λ (k : Option CalledLeg). middle gateway writes now steps k) (still_none first gateway writes reads now r (opened_book format pages) format pages hear before) ∙ begins.0 in
    let silent : told_called gateway writes (in_tick gateway writes h now).leg now ≡ None =
    ap (λ (m : BothLegs). told_called gateway writes m.leg now) (tick_middle gateway writes now h l soon leg ∙ goes) in
    let both : both_legs gateway writes (Tick now (given_at gateway writes now h) ∷ h) ≡ serves writes now (z_of (Sends ∷ steps) None) =
    tick_legs gateway writes now h l (given_at gateway writes now h) soon leg ∙ ap (λ (m : BothLegs). serves writes now m) goes in
    record {
      leg = ap (λ (s : BothLegs). s.leg) both;
      book = ap book_of both ∙ begins.1;
      answerer =
          ap (λ (k : Option (List ℕ)). option_map (λ (c : CallingLeg). answers.leg_ticked c now) (machine_with last reads now k r.answerer)) silent
          ∙ ap (λ (k : Option CallingLeg). option_map (λ (c : CallingLeg). answers.leg_ticked c now) k) before.answerer;
      reply = ap (λ (k : Option (List ℕ)). by_machine last now (machine_with last reads now k r.answerer)) silent ∙ ap (λ (k : Option CallingLeg). by_machine last now k) before.answerer;
    }

-- ---- WHILE IT IS SENT ON, and after that

pub record IsOn (gateway : Setup) (writes : Writing) (job : JobValue) (r : Relay) (x : Legs) : Type 0 where
  pub leg : (both_legs gateway writes r.trace).leg ≡ Some x.caller
  pub entered : x.caller.entered ≡ false
  pub book : book_of (both_legs gateway writes r.trace) ≡ sends_with job
  pub going : outcome_of (calls.core_of writes x.caller) ≡ None

pub record IsReported (gateway : Setup) (writes : Writing) (job : JobValue) (r : Relay) (x : Legs) : Type 0 where
  pub l : CalledLeg
  pub leg : (both_legs gateway writes r.trace).leg ≡ Some l
  pub entered : l.entered ≡ true
  pub outcome : Outcome
  pub delivered : ℕ
  pub book : book_of (both_legs gateway writes r.trace) ≡ ended_with job outcome delivered
  pub over : (calls.core_of writes x.caller).state ≡ calling.Idle
  pub told : (calls.core_of writes x.caller).outcome ≡ Some outcome
  pub counted : (calls.core_of writes x.caller).counts.delivered ≡ delivered

pub record Sending (gateway : Setup) (writes : Writing) (job : JobValue) (now : ℕ) (r : Relay) (x : Legs) : Type 0 where
  pub answerer : r.answerer ≡ Some x.answerer
  pub reply : r.to_gateway ≡ x.reply
  pub timely : IsTimely now (calls.core_of writes x.caller)
  pub is_job : x.caller.job ≡ job
  pub state : IsOn gateway writes job r x ⊎ IsReported gateway writes job r x

machine_some : (setup : Setup) (reads : Reader) (now : ℕ) (o : Option (List ℕ)) (l : CallingLeg) → machine_with setup reads now o (Some l) ≡ Some (answerer_with reads now o l)
machine_some setup reads now None l = refl
machine_some setup reads now (Some octets) l = refl

leg_some : (writes : Writing) (now : ℕ) (o : Option (List ℕ)) (l : CalledLeg) → leg_with writes now o (Some l) ≡ Some (caller_with writes now o l)
leg_some writes now None l = refl
leg_some writes now (Some octets) l = refl

over_by : (a : CallerCore) (o : Outcome) → outcome_of a ≡ Some o → (a.state ≡ calling.Idle) × (a.outcome ≡ Some o)
over_by a o h = by a.state refl h
  where
    by : (s : Calling) → a.state ≡ s → (if◌then◌else◌ {A = Option Outcome} (is_over s) a.outcome None) ≡ Some o → (a.state ≡ calling.Idle) × (a.outcome ≡ Some o)
    by calling.Idle e k = (e, k)
    by calling.AwaitDis e k = cc
    by (calling.AwaitCfr dis dcs) e k = cc
    by (calling.AwaitMcf dis dcs) e k = cc
    by (calling.Closing x) e k = cc

-- the tick in which the last page is confirmed begins the job's call
pub sending_begins : (first gateway last : Setup) (writes : Writing) (reads : Reader) (job : JobValue) (now : ℕ) (r : Relay) (x : Legs) (format : Format) (pages : List PageValue) (c : ConfirmedPage) → gateway.asks ≡ false
    → OnCalling gateway now r x → Before gateway writes format pages r → confirms first writes reads now x ≡ Some c → (leg_heard first writes reads now x).number ≡ 0
    → is_idle (answers.answers (leg_heard first writes reads now x) now).core.state ≡ false → confirmed (opened_book format pages) 0 c.page c.closes ≡ waits_with job
    → Sending gateway writes job (now + 40) (relay_round first gateway last writes reads now r) (legs_round gateway last writes reads now (legs_begun gateway last writes job now))
unfolding relay_round legs_round
sending_begins first gateway last writes reads job now r x format pages confirms_it asks o before some number awake closes =
    let h : List Event = came_in first gateway writes reads now r in
    let l : CallingLeg = leg_heard first writes reads now x in
    let soon : clock (came_in first gateway writes reads now r) ≤ now = came_clock first gateway writes reads now r o.soon in
    let leg : calling_leg gateway h ≡ Some l = heard_leg first gateway writes reads now r x o in
    let hear : Hears first gateway writes reads now r (opened_book format pages) =
    hears_on first gateway writes reads now r x (opened_book format pages) o before.book (stays_idle None (answers.core_of (leg_heard first writes reads now x)) [] now awake) in
    let steps : List Step = heard_in_tick (Some l) now (both_legs gateway writes h).steps in
    let waits : book_in steps ≡ waits_with job = confirming_tick l now (both_legs gateway writes h).steps confirms_it (opened_book format pages) job some number hear.book closes in
    let begun : CalledLeg = begun_leg job (core_left gateway writes None) now in
    let begins = one_begins gateway writes now steps job asks waits in
    let goes : middle gateway writes now steps (both_legs gateway writes h).leg ≡ z_of (Sends ∷ steps) (Some begun) =
    ap (λ (k : Option CalledLeg). middle gateway writes now steps k) (still_none first gateway writes reads now r (opened_book format pages) format pages hear before) ∙ begins.0 in
    let told : told_called gateway writes (in_tick gateway writes h now).leg now ≡ by_caller gateway writes now begun =
    ap (λ (m : BothLegs). told_called gateway writes m.leg now) (tick_middle gateway writes now h l soon leg ∙ goes) in
    let both : both_legs gateway writes (Tick now (given_at gateway writes now h) ∷ h) ≡ serves writes now (z_of (Sends ∷ steps) (Some begun)) =
    tick_legs gateway writes now h l (given_at gateway writes now h) soon leg ∙ ap (λ (m : BothLegs). serves writes now m) goes in
    record {
      answerer =
          ap (λ (k : Option (List ℕ)). option_map (λ (c : CallingLeg). answers.leg_ticked c now) (machine_with last reads now k r.answerer)) told
          ∙ ap (λ (k : Option CallingLeg). option_map (λ (c : CallingLeg). answers.leg_ticked c now) (machine_with last reads now (by_caller gateway writes now begun) k)) before.answerer;
      reply =
          ap (λ (k : Option (List ℕ)). by_machine last now (machine_with last reads now k r.answerer)) told
          ∙ ap (λ (k : Option CallingLeg). by_machine last now (machine_with last reads now (by_caller gateway writes now begun) k)) before.answerer;
      timely =
          timely.later now (now + 40) (calls.calls writes begun now).core (omega arith)
          (timely.ticked_timely now now writes job (calls.core_of writes begun) (omega arith) (timely.until_timely writes job (core_left gateway writes None) now now [] (omega arith) (omega arith) tt));
      is_job = refl;
      state = inl (record { leg = ap (λ (s : BothLegs). s.leg) both; entered = refl; book = ap book_of both ∙ begins.1; going = refl });
    }

-- a further round of a call that is on
abbrev ticked_so : Writing → ℕ → CalledLeg → List Step → Bool → BothLegs
ticked_so writes now c steps b =
    record {
      steps = enters (calls.calls writes c now).core.counts.delivered (if b then None else outcome_of (calls.calls writes c now).core) steps;
      leg = Some (if b then c else with_tick (calls.calls writes c now) now c);
    }

by_outcome : (gateway : Setup) (writes : Writing) (job : JobValue) (now : ℕ) (r : Relay) (x : Legs) (c : CalledLeg) (steps : List Step) → x.caller ≡ with_tick (calls.calls writes c now) now c
    → calls.core_of writes x.caller ≡ (calls.calls writes c now).core
    → both_legs gateway writes r.trace ≡ ticked_so writes now c steps false → book_in steps ≡ sends_with job → (k : Option Outcome) → outcome_of (calls.calls writes c now).core ≡ k
    → IsOn gateway writes job r x ⊎ IsReported gateway writes job r x
by_outcome gateway writes job now r x c steps is core both quiet None e =
    inl (record {
      leg = ap (λ (s : BothLegs). s.leg) both ∙ ap (λ (l : CalledLeg). Some l) (sym is);
      entered = ap (λ (l : CalledLeg). l.entered) is ∙ ap (λ (k : Option Outcome). is_some k) e;
      book = ap book_of both ∙ ap (λ (k : Option Outcome). book_in (enters (calls.calls writes c now).core.counts.delivered k steps)) e ∙ quiet;
      going = ap outcome_of core ∙ e;
    })
by_outcome gateway writes job now r x c steps is core both quiet (Some outcome) e =
    let delivered : ℕ = (calls.calls writes c now).core.counts.delivered in
    let over = over_by (calls.calls writes c now).core outcome e in
    inr (record {
      l = with_tick (calls.calls writes c now) now c;
      leg = ap (λ (s : BothLegs). s.leg) both;
      entered = ap (λ (k : Option Outcome). is_some k) e;
      outcome = outcome;
      delivered = delivered;
      book = ap book_of both ∙ ap (λ (k : Option Outcome). book_in (enters delivered k steps)) e ∙ enters_none steps job outcome delivered quiet;
      over = ap (λ (a : CallerCore). a.state) core ∙ over.0;
      told = ap (λ (a : CallerCore). a.outcome) core ∙ over.1;
      counted = ap (λ (a : CallerCore). a.counts.delivered) core;
    })

on_on : (first gateway last : Setup) (writes : Writing) (reads : Reader) (job : JobValue) (now : ℕ) (r : Relay) (x z : Legs) → gateway.asks ≡ false → OnCalling gateway now r x → confirms first writes reads now x ≡ None
    → Sending gateway writes job now r z → IsOn gateway writes job r z → Sending gateway writes job (now + 40) (relay_round first gateway last writes reads now r) (legs_round gateway last writes reads now z)
unfolding relay_round legs_round
on_on first gateway last writes reads job now r x z asks o none s i =
    let h : List Event = came_in first gateway writes reads now r in
    let l : CallingLeg = leg_heard first writes reads now x in
    let c : CalledLeg = caller_with writes now z.reply z.caller in
    let t : call.TickResult = calls.calls writes c now in
    let soon : clock (came_in first gateway writes reads now r) ≤ now = came_clock first gateway writes reads now r o.soon in
    let leg : calling_leg gateway h ≡ Some l = heard_leg first gateway writes reads now r x o in
    let hear : Hears first gateway writes reads now r (sends_with job) = hears first gateway writes reads now r (sends_with job) o.soon i.book refl in
    let steps : List Step = heard_in_tick (Some l) now (both_legs gateway writes h).steps in
    let quiet : book_in steps ≡ sends_with job = quiet_tick l now (both_legs gateway writes h).steps (sends_with job) none hear.book refl in
    let same = with_job writes now z.reply z.caller in
    let entered : c.entered ≡ false = same.1 ∙ i.entered in
    let called : (both_legs gateway writes h).leg ≡ Some c =
    hear.leg ∙ ap (λ (k : Option (List ℕ)). leg_with writes now k (both_legs gateway writes r.trace).leg) s.reply
    ∙ ap (λ (k : Option CalledLeg). leg_with writes now z.reply k) i.leg ∙ leg_some writes now z.reply z.caller in
    let goes : middle gateway writes now steps (both_legs gateway writes h).leg ≡ z_of steps (Some c) =
    ap (λ (k : Option CalledLeg). middle gateway writes now steps k) called ∙ busy gateway writes now steps c asks entered in
    let told : told_called gateway writes (in_tick gateway writes h now).leg now ≡ by_caller gateway writes now c =
    ap (λ (m : BothLegs). told_called gateway writes m.leg now) (tick_middle gateway writes now h l soon leg ∙ goes)
    ∙ ap (λ (b : Bool). if◌then◌else◌ {A = Option (List ℕ)} b None (by_caller gateway writes now c)) entered in
    let both : both_legs gateway writes (Tick now (given_at gateway writes now h) ∷ h) ≡ ticked_so writes now c steps false =
    tick_legs gateway writes now h l (given_at gateway writes now h) soon leg ∙ ap (λ (m : BothLegs). serves writes now m) goes ∙ ap (λ (b : Bool). ticked_so writes now c steps b) entered in
    let heard : machine_with last reads now (told_called gateway writes (in_tick gateway writes h now).leg now) r.answerer ≡ Some (answerer_with reads now (by_caller gateway writes now c) z.answerer) =
    ap (λ (k : Option (List ℕ)). machine_with last reads now k r.answerer) told ∙ ap (λ (k : Option CallingLeg). machine_with last reads now (by_caller gateway writes now c) k) s.answerer
    ∙ machine_some last reads now (by_caller gateway writes now c) z.answerer in
    record {
      answerer = ap (λ (k : Option CallingLeg). option_map (λ (a : CallingLeg). answers.leg_ticked a now) k) heard;
      reply = ap (λ (k : Option CallingLeg). by_machine last now k) heard;
      timely = timely.later now (now + 40) t.core (omega arith) (timely.ticked_timely now now writes c.job (calls.core_of writes c) (omega arith) (with_timely writes now z.reply z.caller s.timely));
      is_job = same.0 ∙ s.is_job;
      state = by_outcome gateway writes job now (relay_round first gateway last writes reads now r) (legs_round gateway last writes reads now z) c steps refl refl both quiet (outcome_of t.core) refl;
    }

-- a further round after it was reported
reported_on : (first gateway last : Setup) (writes : Writing) (reads : Reader) (job : JobValue) (now : ℕ) (r : Relay) (x z : Legs) → gateway.asks ≡ false → OnCalling gateway now r x → confirms first writes reads now x ≡ None
    → Sending gateway writes job now r z → IsReported gateway writes job r z → Sending gateway writes job (now + 40) (relay_round first gateway last writes reads now r) (legs_round gateway last writes reads now z)
unfolding relay_round legs_round
reported_on first gateway last writes reads job now r x z asks o none s p =
    let b : Book = ended_with job p.outcome p.delivered in
    let h : List Event = came_in first gateway writes reads now r in
    let l : CallingLeg = leg_heard first writes reads now x in
    let k : CalledLeg = caller_with writes now z.reply p.l in
    let c : CalledLeg = caller_with writes now z.reply z.caller in
    let soon : clock (came_in first gateway writes reads now r) ≤ now = came_clock first gateway writes reads now r o.soon in
    let leg : calling_leg gateway h ≡ Some l = heard_leg first gateway writes reads now r x o in
    let hear : Hears first gateway writes reads now r b = hears first gateway writes reads now r b o.soon p.book refl in
    let steps : List Step = heard_in_tick (Some l) now (both_legs gateway writes h).steps in
    let quiet : book_in steps ≡ b = quiet_tick l now (both_legs gateway writes h).steps b none hear.book refl in
    let entered : k.entered ≡ true = (with_job writes now z.reply p.l).1 ∙ p.entered in
    let called : (both_legs gateway writes h).leg ≡ Some k =
    hear.leg ∙ ap (λ (w : Option (List ℕ)). leg_with writes now w (both_legs gateway writes r.trace).leg) s.reply
    ∙ ap (λ (w : Option CalledLeg). leg_with writes now z.reply w) p.leg ∙ leg_some writes now z.reply p.l in
    let begins = none_begins gateway writes now steps (Some k) b asks entered quiet (refl, refl) in
    let goes : middle gateway writes now steps (both_legs gateway writes h).leg ≡ z_of (Sends ∷ steps) (Some k) = ap (λ (w : Option CalledLeg). middle gateway writes now steps w) called ∙ begins.0 in
    let told : told_called gateway writes (in_tick gateway writes h now).leg now ≡ None =
    ap (λ (m : BothLegs). told_called gateway writes m.leg now) (tick_middle gateway writes now h l soon leg ∙ goes)
    ∙ ap (λ (w : Bool). if◌then◌else◌ {A = Option (List ℕ)} w None (by_caller gateway writes now k)) entered in
    let both : both_legs gateway writes (Tick now (given_at gateway writes now h) ∷ h) ≡ ticked_so writes now k (Sends ∷ steps) true =
    tick_legs gateway writes now h l (given_at gateway writes now h) soon leg ∙ ap (λ (m : BothLegs). serves writes now m) goes ∙ ap (λ (w : Bool). ticked_so writes now k (Sends ∷ steps) w) entered in
    let same : c ≡ z.caller = same_over writes now z.reply z.caller p.over in
    let rests : CallerRests writes z.caller.job (calls.core_of writes z.caller) now = over_rests writes z.caller.job (calls.core_of writes z.caller) now now s.timely p.over in
    let ticks : calls.calls writes c now ≡ record { core = calls.core_of writes z.caller; given = None } = ap (λ (w : CalledLeg). calls.calls writes w now) same ∙ rests in
    let silent : by_caller gateway writes now c ≡ None = ap (λ (w : call.TickResult). calls.told_by gateway c.given w.given) ticks in
    let heard : machine_with last reads now (told_called gateway writes (in_tick gateway writes h now).leg now) r.answerer ≡ Some (answerer_with reads now (by_caller gateway writes now c) z.answerer) =
    ap (λ (w : Option (List ℕ)). machine_with last reads now w r.answerer) told ∙ s.answerer ∙ ap (λ (w : Option (List ℕ)). Some (answerer_with reads now w z.answerer)) (sym silent) in
    let core : (calls.calls writes c now).core ≡ calls.core_of writes z.caller = ap (λ (w : call.TickResult). w.core) ticks in
    record {
      answerer = ap (λ (w : Option CallingLeg). option_map (λ (a : CallingLeg). answers.leg_ticked a now) w) heard;
      reply = ap (λ (w : Option CallingLeg). by_machine last now w) heard;
      timely = subst (IsTimely (now + 40)) (sym core) (timely.later now (now + 40) (calls.core_of writes z.caller) (omega arith) s.timely);
      is_job = (with_job writes now z.reply z.caller).0 ∙ s.is_job;
      state = inr (record {
        l = k;
        leg = ap (λ (w : BothLegs). w.leg) both;
        entered = entered;
        outcome = p.outcome;
        delivered = p.delivered;
        book = ap book_of both ∙ begins.1;
        over = ap (λ (a : CallerCore). a.state) core ∙ p.over;
        told = ap (λ (a : CallerCore). a.outcome) core ∙ p.told;
        counted = ap (λ (a : CallerCore). a.counts.delivered) core ∙ p.counted;
      });
    }

pub sending_on : (first gateway last : Setup) (writes : Writing) (reads : Reader) (job : JobValue) (now : ℕ) (r : Relay) (x z : Legs) → gateway.asks ≡ false → OnCalling gateway now r x → confirms first writes reads now x ≡ None
    → Sending gateway writes job now r z → Sending gateway writes job (now + 40) (relay_round first gateway last writes reads now r) (legs_round gateway last writes reads now z)
sending_on first gateway last writes reads job now r x z asks o none s = by s.state
  where
    by : IsOn gateway writes job r z ⊎ IsReported gateway writes job r z → Sending gateway writes job (now + 40) (relay_round first gateway last writes reads now r) (legs_round gateway last writes reads now z)
    by (inl i) = on_on first gateway last writes reads job now r x z asks o none s i
    by (inr p) = reported_on first gateway last writes reads job now r x z asks o none s p
