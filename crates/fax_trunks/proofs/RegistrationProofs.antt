-- The laws of a registration, step by step.
use Rattle.std.proofs.Common.{◌≡◌, ℕ, ◌+◌, ◌≤◌, ◌<◌, min, Bool, true, false, nat_le, nat_lt, if◌then◌else◌, List, [], ◌∷◌, Option, None, Some, refl, subst, sym, arith}
use Rattle.fax_trunks.specs.declared.registration.Registration.{Registration}
use Rattle.fax_trunks.specs.declared.registration.Registration.TheVariants.{Waiting, Asking, Ending, Leaving, Over}
use Rattle.fax_trunks.specs.declared.registration_event.RegistrationAction.{RegistrationAction}
use Rattle.fax_trunks.specs.declared.registration_event.RegistrationAction.TheVariants.{Nothing, Register}
use Rattle.fax_trunks.specs.declared.registration_event.RegistrationEvent.{RegistrationEvent}
use Rattle.fax_trunks.specs.declared.registration_event.RegistrationEvent.TheVariants.{TimePassed, Granted, Challenged, TooBrief, Refused, Ended}
use Rattle.fax_trunks.specs.declared.stage.Stage.{Stage}
use Rattle.fax_trunks.specs.declared.stage.Stage.TheVariants.{First, Answering, Renewing}
use Rattle.fax_trunks.specs.declared.standing.Standing.{Standing}
use Rattle.fax_trunks.specs.Pauses.{answer_time, ending_time, expiry, first_pause, later, least_pause, longest_pause, refresh}
use Rattle.fax_trunks.specs.Registrations.{asking_row, begun, challenged, due_row, ending_row, failed, granted, leave_by, leaving_row, left, next_stage, overdue_row, row, too_brief, waiting_row}
use Rattle.fax_trunks.specs.RegistrationLaws.{has_credentials, has_none, is_register, AreBefore, Asks, CredentialsAreSentOnce, GoesOn, IsDueWithin, IsOn, RefreshesInTime, RefreshLeavesTime, RefusalsAreTriedAgain, RegistersApart, RegistrationEnds, RegistrationRests}
use Rattle.fax_trunks.specs.Runs.{count_of, is_stale, moments_of, one_if, stale_in, state_after, AreFrom, IsInOrder}
use Rattle.fax_trunks.proofs.Choices.{chosen, le_off, le_true, lt_false, lt_off, lt_true}

-- ---- it ends

-- it ends by a bound
abbrev pub EndsBy : ℕ → Registration → Type 0
EndsBy bound (Waiting due standing) = ⊥
EndsBy bound (Asking limit stage standing) = ⊥
EndsBy bound (Ending limit deadline) = deadline ≤ bound
EndsBy bound (Leaving stage deadline) = deadline ≤ bound
EndsBy bound Over = Unit {0}

abbrev pub ThenEndsBy : ℕ → Registration × RegistrationAction → Type 0
ThenEndsBy bound r = EndsBy bound r.0

pub left_ends : (bound deadline : ℕ) (stage : Option Stage) → deadline ≤ bound → ThenEndsBy bound (left stage deadline)
left_ends bound deadline None by = tt
left_ends bound deadline (Some stage) by = by

pub ending_ends : (bound limit deadline : ℕ) (event : RegistrationEvent) → deadline ≤ bound → ThenEndsBy bound (ending_row limit deadline event)
ending_ends bound limit deadline TimePassed by = by
ending_ends bound limit deadline Ended by = by
ending_ends bound limit deadline (Granted given) by = by
ending_ends bound limit deadline (Challenged stale) by = by
ending_ends bound limit deadline (TooBrief least) by = by
ending_ends bound limit deadline Refused by = by

pub leaving_ends : (bound : ℕ) (stage : Stage) (deadline : ℕ) (event : RegistrationEvent) → deadline ≤ bound → ThenEndsBy bound (leaving_row stage deadline event)
leaving_ends bound stage deadline TimePassed by = by
leaving_ends bound stage deadline Ended by = by
leaving_ends bound stage deadline (Granted given) by = tt
leaving_ends bound stage deadline (Challenged stale) by = left_ends bound deadline (next_stage stage stale) by
leaving_ends bound stage deadline (TooBrief least) by = tt
leaving_ends bound stage deadline Refused by = tt

pub row_ends : (bound : ℕ) (state : Registration) (now : ℕ) (event : RegistrationEvent) → EndsBy bound state → EndsBy bound (row state now event).0
row_ends bound (Waiting due standing) now event by = absurd by
row_ends bound (Asking limit stage standing) now event by = absurd by
row_ends bound (Ending limit deadline) now event by =
    chosen (ThenEndsBy bound) (nat_le deadline now) (Over, Nothing) _ (λ _. tt)
    (λ _. chosen (ThenEndsBy bound) (nat_le limit now) (leave_by deadline) (ending_row limit deadline event) (λ _. by) (λ _. ending_ends bound limit deadline event by))
row_ends bound (Leaving stage deadline) now event by =
    chosen (ThenEndsBy bound) (nat_le deadline now) (Over, Nothing) (leaving_row stage deadline event) (λ _. tt) (λ _. leaving_ends bound stage deadline event by)
row_ends bound Over now event by = tt

pub run_ends : (bound : ℕ) (state : Registration) (happened : List (ℕ × RegistrationEvent)) → EndsBy bound state → EndsBy bound (state_after state happened)
run_ends bound state [] by = by
run_ends bound state (happening ∷ happened) by = run_ends bound (row state happening.0 happening.1).0 happened (row_ends bound state happening.0 happening.1 by)

pub over : (bound : ℕ) (state : Registration) (now : ℕ) (event : RegistrationEvent) → EndsBy bound state → bound ≤ now → (row state now event).0 ≡ Over
over bound (Waiting due standing) now event by late = absurd by
over bound (Asking limit stage standing) now event by late = absurd by
over bound (Ending limit deadline) now event by late = let due : nat_le deadline now ≡ true = le_true deadline now (omega (arith, by)) in rw due refl
over bound (Leaving stage deadline) now event by late = let due : nat_le deadline now ≡ true = le_true deadline now (omega (arith, by)) in rw due refl
over bound Over now event by late = refl

pub end_ends : (state : Registration) (ended : ℕ) → IsOn state → EndsBy (ended + 64000) (row state ended Ended).0
end_ends (Waiting due standing) ended on = omega arith
end_ends (Asking limit stage standing) ended on =
    chosen (ThenEndsBy (ended + 64000)) (nat_le limit ended) (leave_by (later ended ending_time)) (Ending limit (later ended ending_time), Nothing) (λ _. omega arith) (λ _. omega arith)
end_ends (Ending limit deadline) ended on = absurd on
end_ends (Leaving stage deadline) ended on = absurd on
end_ends Over ended on = absurd on

pub registration_ends : RegistrationEnds
registration_ends state ended happened now event on late =
    over (ended + 64000) (state_after (row state ended Ended).0 happened) now event (run_ends (ended + 64000) (row state ended Ended).0 happened (end_ends state ended on)) late

-- ---- rest

pub registration_rests : RegistrationRests
registration_rests (Waiting due standing) now at e early = let is : due ≡ at = cc in let soon : nat_lt now due ≡ true = lt_true now due (omega arith) in rw soon refl
registration_rests (Asking limit stage standing) now at e early = let is : limit ≡ at = cc in let soon : nat_le limit now ≡ false = le_off limit now (omega arith) in rw soon refl
registration_rests (Ending limit deadline) now at e early =
    let is : min limit deadline ≡ at = cc in
    let on : nat_le deadline now ≡ false = le_off deadline now (omega arith) in
    let soon : nat_le limit now ≡ false = le_off limit now (omega arith) in rw (on, soon) refl
registration_rests (Leaving stage deadline) now at e early = let is : deadline ≡ at = cc in let soon : nat_le deadline now ≡ false = le_off deadline now (omega arith) in rw soon refl
registration_rests Over now at e early = cc

-- ---- it is refreshed

pub due_stays : (due : ℕ) (standing : Standing) (now : ℕ) (event : RegistrationEvent) → now < due → GoesOn event → (waiting_row due standing now event).0 ≡ Waiting due standing
due_stays due standing now TimePassed early on = let soon : nat_lt now due ≡ true = lt_true now due early in rw soon refl
due_stays due standing now (Granted given) early on = let soon : nat_lt now due ≡ true = lt_true now due early in rw soon refl
due_stays due standing now (Challenged stale) early on = let soon : nat_lt now due ≡ true = lt_true now due early in rw soon refl
due_stays due standing now (TooBrief least) early on = let soon : nat_lt now due ≡ true = lt_true now due early in rw soon refl
due_stays due standing now Refused early on = let soon : nat_lt now due ≡ true = lt_true now due early in rw soon refl
due_stays due standing now Ended early on = absurd on

pub quiet_stays : (due : ℕ) (standing : Standing) (happened : List (ℕ × RegistrationEvent)) → AreBefore due happened → state_after (Waiting due standing) happened ≡ Waiting due standing
quiet_stays due standing [] before = refl
quiet_stays due standing (happening ∷ happened) before =
    subst (λ (state : Registration). state_after state happened ≡ Waiting due standing) (sym (due_stays due standing happening.0 happening.1 before.0 before.1)) (quiet_stays due standing happened before.2)

pub due_sends : (due : ℕ) (standing : Standing) (now : ℕ) (event : RegistrationEvent) → due ≤ now → GoesOn event → is_register (waiting_row due standing now event).1 ≡ true
due_sends due standing now TimePassed late on = let soon : nat_lt now due ≡ false = lt_off now due late in rw soon refl
due_sends due standing now (Granted given) late on = let soon : nat_lt now due ≡ false = lt_off now due late in rw soon refl
due_sends due standing now (Challenged stale) late on = let soon : nat_lt now due ≡ false = lt_off now due late in rw soon refl
due_sends due standing now (TooBrief least) late on = let soon : nat_lt now due ≡ false = lt_off now due late in rw soon refl
due_sends due standing now Refused late on = let soon : nat_lt now due ≡ false = lt_off now due late in rw soon refl
due_sends due standing now Ended late on = absurd on

pub granted_waits : (limit : ℕ) (stage : Stage) (standing : Standing) (at given : ℕ) → at < limit → 10 ≤ given
    → (row (Asking limit stage standing) at (Granted given)).0 ≡ Waiting (refresh at given) (record { pause = first_pause; seconds = standing.seconds; until = expiry at given })
granted_waits limit stage standing at given early enough =
    let soon : nat_le limit at ≡ false = le_off limit at early in
    let much : nat_lt given 10 ≡ false = lt_off given 10 enough in rw (soon, much) refl

pub refreshes_in_time : RefreshesInTime
refreshes_in_time (Asking limit stage standing) at given happened now event asks enough before late on =
    let after : Standing = record { pause = first_pause; seconds = standing.seconds; until = expiry at given } in
    subst (λ (state : Registration). is_register (row (state_after state happened) now event).1 ≡ true) (sym (granted_waits limit stage standing at given asks enough))
    (subst (λ (state : Registration). is_register (row state now event).1 ≡ true) (sym (quiet_stays (refresh at given) after happened before)) (due_sends (refresh at given) after now event late on))
refreshes_in_time (Waiting due standing) at given happened now event asks enough before late on = absurd asks
refreshes_in_time (Ending limit deadline) at given happened now event asks enough before late on = absurd asks
refreshes_in_time (Leaving stage deadline) at given happened now event asks enough before late on = absurd asks
refreshes_in_time Over at given happened now event asks enough before late on = absurd asks

pub refresh_leaves_time : RefreshLeavesTime
refresh_leaves_time at given enough fits = (omega arith, λ more. omega arith)

-- ---- REGISTERs are apart

-- a pause is neither too short nor too long
abbrev pub IsPause : ℕ → Type 0
IsPause pause = (30000 ≤ pause) × (pause ≤ 1800000)

-- nothing is due before a moment, and each pause is one
abbrev pub IsSpaced : ℕ → Registration → Type 0
IsSpaced bound (Waiting due standing) = (bound ≤ due) × (IsPause standing.pause)
IsSpaced bound (Asking limit stage standing) = IsPause standing.pause
IsSpaced bound (Ending limit deadline) = Unit {0}
IsSpaced bound (Leaving stage deadline) = Unit {0}
IsSpaced bound Over = Unit {0}

-- a REGISTER was sent
abbrev pub WasSent : Registration → Type 0
WasSent (Waiting due standing) = ⊥
WasSent (Asking limit stage standing) = IsPause standing.pause
WasSent (Ending limit deadline) = ⊥
WasSent (Leaving stage deadline) = ⊥
WasSent Over = ⊥

-- what is sent now is in time
abbrev pub SendsSo : ℕ → ℕ → Bool → Registration → Type 0
SendsSo bound now true state = (bound ≤ now) × WasSent state
SendsSo bound now false state = Unit {0}

abbrev pub GoesSpaced : ℕ → ℕ → Registration × RegistrationAction → Type 0
GoesSpaced bound now r = SendsSo bound now (is_register r.1) r.0 × IsSpaced bound r.0

pub failed_spaced : (bound now : ℕ) (standing : Standing) → bound ≤ later now 5000 → IsPause standing.pause → GoesSpaced bound now (failed standing now)
failed_spaced bound now standing order paced = (tt, (omega (arith, paced.0), (omega (arith, paced.0), omega arith)))

pub granted_spaced : (bound now given : ℕ) (standing : Standing) → bound ≤ later now 5000 → IsPause standing.pause → GoesSpaced bound now (granted standing now given)
granted_spaced bound now given standing order paced =
    chosen (GoesSpaced bound now) (nat_lt given 10) (failed standing now) (Waiting (refresh now given) (record { pause = first_pause; seconds = standing.seconds; until = expiry now given }), Nothing)
    (λ _. failed_spaced bound now standing order paced)
    (λ e. let enough : 10 ≤ given = lt_false given 10 e in (tt, (omega arith, (omega arith, omega arith))))

pub challenged_spaced : (bound now : ℕ) (stage : Option Stage) (standing : Standing) → bound ≤ later now 5000 → IsPause standing.pause → GoesSpaced bound now (challenged stage standing now)
challenged_spaced bound now None standing order paced = failed_spaced bound now standing order paced
challenged_spaced bound now (Some stage) standing order paced = (tt, paced)

pub too_brief_spaced : (bound now least : ℕ) (standing : Standing) → bound ≤ later now 5000 → IsPause standing.pause → GoesSpaced bound now (too_brief standing now least)
too_brief_spaced bound now least standing order paced =
    chosen (GoesSpaced bound now) (nat_le least standing.seconds) (failed standing now) (Waiting (later now least_pause) (record { pause = standing.pause; seconds = least; until = standing.until }), Nothing)
    (λ _. failed_spaced bound now standing order paced) (λ _. (tt, (omega arith, paced)))

pub asking_spaced : (bound limit : ℕ) (stage : Stage) (standing : Standing) (now : ℕ) (event : RegistrationEvent) → bound ≤ later now 5000 → IsPause standing.pause
    → GoesSpaced bound now (asking_row limit stage standing now event)
asking_spaced bound limit stage standing now TimePassed order paced = (tt, paced)
asking_spaced bound limit stage standing now (Granted given) order paced = granted_spaced bound now given standing order paced
asking_spaced bound limit stage standing now (Challenged stale) order paced = challenged_spaced bound now (next_stage stage stale) standing order paced
asking_spaced bound limit stage standing now (TooBrief least) order paced = too_brief_spaced bound now least standing order paced
asking_spaced bound limit stage standing now Refused order paced = failed_spaced bound now standing order paced
asking_spaced bound limit stage standing now Ended order paced = (tt, tt)

pub overdue_spaced : (bound : ℕ) (standing : Standing) (now : ℕ) (event : RegistrationEvent) → bound ≤ later now 5000 → IsPause standing.pause → GoesSpaced bound now (overdue_row standing now event)
overdue_spaced bound standing now TimePassed order paced = failed_spaced bound now standing order paced
overdue_spaced bound standing now (Granted given) order paced = failed_spaced bound now standing order paced
overdue_spaced bound standing now (Challenged stale) order paced = failed_spaced bound now standing order paced
overdue_spaced bound standing now (TooBrief least) order paced = failed_spaced bound now standing order paced
overdue_spaced bound standing now Refused order paced = failed_spaced bound now standing order paced
overdue_spaced bound standing now Ended order paced = (tt, tt)

pub due_spaced : (bound due : ℕ) (standing : Standing) (now : ℕ) → IsSpaced bound (Waiting due standing) → GoesSpaced bound now (due_row due standing now)
due_spaced bound due standing now spaced =
    chosen (GoesSpaced bound now) (nat_lt now due) (Waiting due standing, Nothing) (Asking (later now answer_time) First standing, Register standing.seconds)
    (λ _. (tt, spaced)) (λ e. let late : due ≤ now = lt_false now due e in ((omega (arith, spaced.0), spaced.1), spaced.1))

pub waiting_spaced : (bound due : ℕ) (standing : Standing) (now : ℕ) (event : RegistrationEvent) → IsSpaced bound (Waiting due standing) → GoesSpaced bound now (waiting_row due standing now event)
waiting_spaced bound due standing now TimePassed spaced = due_spaced bound due standing now spaced
waiting_spaced bound due standing now (Granted given) spaced = due_spaced bound due standing now spaced
waiting_spaced bound due standing now (Challenged stale) spaced = due_spaced bound due standing now spaced
waiting_spaced bound due standing now (TooBrief least) spaced = due_spaced bound due standing now spaced
waiting_spaced bound due standing now Refused spaced = due_spaced bound due standing now spaced
waiting_spaced bound due standing now Ended spaced = (tt, tt)

pub ending_spaced : (bound now limit deadline : ℕ) (event : RegistrationEvent) → GoesSpaced bound now (ending_row limit deadline event)
ending_spaced bound now limit deadline TimePassed = (tt, tt)
ending_spaced bound now limit deadline Ended = (tt, tt)
ending_spaced bound now limit deadline (Granted given) = (tt, tt)
ending_spaced bound now limit deadline (Challenged stale) = (tt, tt)
ending_spaced bound now limit deadline (TooBrief least) = (tt, tt)
ending_spaced bound now limit deadline Refused = (tt, tt)

pub left_spaced : (bound now deadline : ℕ) (stage : Option Stage) → GoesSpaced bound now (left stage deadline)
left_spaced bound now deadline None = (tt, tt)
left_spaced bound now deadline (Some stage) = (tt, tt)

pub leaving_spaced : (bound now : ℕ) (stage : Stage) (deadline : ℕ) (event : RegistrationEvent) → GoesSpaced bound now (leaving_row stage deadline event)
leaving_spaced bound now stage deadline TimePassed = (tt, tt)
leaving_spaced bound now stage deadline Ended = (tt, tt)
leaving_spaced bound now stage deadline (Granted given) = (tt, tt)
leaving_spaced bound now stage deadline (Challenged stale) = left_spaced bound now deadline (next_stage stage stale)
leaving_spaced bound now stage deadline (TooBrief least) = (tt, tt)
leaving_spaced bound now stage deadline Refused = (tt, tt)

pub row_spaced : (bound : ℕ) (state : Registration) (now : ℕ) (event : RegistrationEvent) → bound ≤ later now 5000 → IsSpaced bound state → GoesSpaced bound now (row state now event)
row_spaced bound (Waiting due standing) now event order spaced = waiting_spaced bound due standing now event spaced
row_spaced bound (Asking limit stage standing) now event order spaced =
    chosen (GoesSpaced bound now) (nat_le limit now) (overdue_row standing now event) (asking_row limit stage standing now event)
    (λ _. overdue_spaced bound standing now event order spaced) (λ _. asking_spaced bound limit stage standing now event order spaced)
row_spaced bound (Ending limit deadline) now event order spaced =
    chosen (GoesSpaced bound now) (nat_le deadline now) (Over, Nothing) _ (λ _. (tt, tt))
    (λ _. chosen (GoesSpaced bound now) (nat_le limit now) (leave_by deadline) (ending_row limit deadline event) (λ _. (tt, tt)) (λ _. ending_spaced bound now limit deadline event))
row_spaced bound (Leaving stage deadline) now event order spaced =
    chosen (GoesSpaced bound now) (nat_le deadline now) (Over, Nothing) (leaving_row stage deadline event) (λ _. (tt, tt)) (λ _. leaving_spaced bound now stage deadline event)
row_spaced bound Over now event order spaced = (tt, tt)

-- each pause of a run is long enough
pub run_paced : (state : Registration) (happened : List (ℕ × RegistrationEvent)) → IsSpaced 0 state → IsSpaced 0 (state_after state happened)
run_paced state [] spaced = spaced
run_paced state (happening ∷ happened) spaced =
    run_paced (row state happening.0 happening.1).0 happened (row_spaced 0 state happening.0 happening.1 (omega arith) spaced).1

-- a moment that counts, and one that does not
pub onward : (b : Bool) (bound now : ℕ) (state : Registration) (moments : List ℕ) → SendsSo bound now b state → AreFrom bound moments → AreFrom bound (if b then now ∷ moments else moments)
onward true bound now state moments so on = (so.0, on)
onward false bound now state moments so on = on

pub run_spaced : (sent from : ℕ) (state : Registration) (happened : List (ℕ × RegistrationEvent)) → sent ≤ from → IsInOrder from happened → IsSpaced (later sent 5000) state
    → AreFrom (later sent 5000) (moments_of is_register state happened)
run_spaced sent from state [] order in_order spaced = tt
run_spaced sent from state (happening ∷ happened) order in_order spaced =
    let now : sent ≤ happening.0 = omega (arith, in_order.0) in
    let bound : later sent 5000 ≤ later happening.0 5000 = omega arith in
    let step : GoesSpaced (later sent 5000) happening.0 (row state happening.0 happening.1) = row_spaced (later sent 5000) state happening.0 happening.1 bound spaced in
    onward (is_register (row state happening.0 happening.1).1) (later sent 5000) happening.0 (row state happening.0 happening.1).0 (moments_of is_register (row state happening.0 happening.1).0 happened) step.0
    (run_spaced sent happening.0 (row state happening.0 happening.1).0 happened now in_order.1 step.1)

pub spaced_of_sent : (bound : ℕ) (state : Registration) → WasSent state → IsSpaced bound state
spaced_of_sent bound (Waiting due standing) sent = absurd sent
spaced_of_sent bound (Asking limit stage standing) sent = sent
spaced_of_sent bound (Ending limit deadline) sent = absurd sent
spaced_of_sent bound (Leaving stage deadline) sent = absurd sent
spaced_of_sent bound Over sent = absurd sent

pub registers_apart : RegistersApart
registers_apart began seconds before happened sent event is_sent in_order =
    let state : Registration = state_after (begun began seconds) before in
    let paced : IsSpaced 0 state = run_paced (begun began seconds) before (omega arith, (omega arith, omega arith)) in
    let step : GoesSpaced 0 sent (row state sent event) = row_spaced 0 state sent event (omega arith) paced in
    let sends : SendsSo 0 sent true (row state sent event).0 = subst (λ (b : Bool). SendsSo 0 sent b (row state sent event).0) is_sent step.0 in
    run_spaced sent sent (row state sent event).0 happened (omega arith) in_order (spaced_of_sent (later sent 5000) (row state sent event).0 sends.1)

-- ---- a refusal is tried again

pub refused_due : (state : Registration) (now : ℕ) → IsSpaced 0 state → Asks state now → IsDueWithin (later now first_pause) (later now longest_pause) (row state now Refused).0
refused_due (Waiting due standing) now spaced asks = absurd asks
refused_due (Asking limit stage standing) now spaced asks =
    let soon : nat_le limit now ≡ false = le_off limit now asks in rw soon (omega (arith, spaced.0), omega (arith, spaced.1))
refused_due (Ending limit deadline) now spaced asks = absurd asks
refused_due (Leaving stage deadline) now spaced asks = absurd asks
refused_due Over now spaced asks = absurd asks

pub refusals_are_tried_again : RefusalsAreTriedAgain
refusals_are_tried_again began seconds happened now asks =
    refused_due (state_after (begun began seconds) happened) now (run_paced (begun began seconds) happened (omega arith, (omega arith, omega arith))) asks

-- ---- credentials are sent once

-- a challenge may be answered still
abbrev pub spare_of : Stage → ℕ
spare_of First = 1
spare_of Answering = 0
spare_of Renewing = 0

abbrev pub spare : Registration → ℕ
spare (Waiting due standing) = 0
spare (Asking limit stage standing) = spare_of stage
spare (Ending limit deadline) = 0
spare (Leaving stage deadline) = spare_of stage
spare Over = 0

abbrev pub IsCovered : ℕ → Registration × RegistrationAction → Type 0
IsCovered budget r = one_if (has_credentials r.1) + spare r.0 ≤ one_if (has_none r.1) + budget

pub granted_covered : (budget now given : ℕ) (standing : Standing) → IsCovered budget (granted standing now given)
granted_covered budget now given standing =
    chosen (IsCovered budget) (nat_lt given 10) (failed standing now) (Waiting (refresh now given) (record { pause = first_pause; seconds = standing.seconds; until = expiry now given }), Nothing)
    (λ _. omega arith) (λ _. omega arith)

pub too_brief_covered : (budget now least : ℕ) (standing : Standing) → IsCovered budget (too_brief standing now least)
too_brief_covered budget now least standing =
    chosen (IsCovered budget) (nat_le least standing.seconds) (failed standing now) (Waiting (later now least_pause) (record { pause = standing.pause; seconds = least; until = standing.until }), Nothing)
    (λ _. omega arith) (λ _. omega arith)

pub challenged_covered : (stage : Stage) (stale : Bool) (standing : Standing) (now : ℕ) → IsCovered (one_if stale + spare_of stage) (challenged (next_stage stage stale) standing now)
challenged_covered First true standing now = omega arith
challenged_covered First false standing now = omega arith
challenged_covered Answering true standing now = omega arith
challenged_covered Answering false standing now = omega arith
challenged_covered Renewing true standing now = omega arith
challenged_covered Renewing false standing now = omega arith

pub left_covered : (stage : Stage) (stale : Bool) (deadline : ℕ) → IsCovered (one_if stale + spare_of stage) (left (next_stage stage stale) deadline)
left_covered First true deadline = omega arith
left_covered First false deadline = omega arith
left_covered Answering true deadline = omega arith
left_covered Answering false deadline = omega arith
left_covered Renewing true deadline = omega arith
left_covered Renewing false deadline = omega arith

pub due_covered : (budget due : ℕ) (standing : Standing) (now : ℕ) → IsCovered budget (due_row due standing now)
due_covered budget due standing now =
    chosen (IsCovered budget) (nat_lt now due) (Waiting due standing, Nothing) (Asking (later now answer_time) First standing, Register standing.seconds) (λ _. omega arith) (λ _. omega arith)

pub waiting_covered : (budget due : ℕ) (standing : Standing) (now : ℕ) (event : RegistrationEvent) → IsCovered budget (waiting_row due standing now event)
waiting_covered budget due standing now TimePassed = due_covered budget due standing now
waiting_covered budget due standing now (Granted given) = due_covered budget due standing now
waiting_covered budget due standing now (Challenged stale) = due_covered budget due standing now
waiting_covered budget due standing now (TooBrief least) = due_covered budget due standing now
waiting_covered budget due standing now Refused = due_covered budget due standing now
waiting_covered budget due standing now Ended = omega arith

pub overdue_covered : (budget : ℕ) (standing : Standing) (now : ℕ) (event : RegistrationEvent) → IsCovered budget (overdue_row standing now event)
overdue_covered budget standing now TimePassed = omega arith
overdue_covered budget standing now (Granted given) = omega arith
overdue_covered budget standing now (Challenged stale) = omega arith
overdue_covered budget standing now (TooBrief least) = omega arith
overdue_covered budget standing now Refused = omega arith
overdue_covered budget standing now Ended = omega arith

pub asking_covered : (limit : ℕ) (stage : Stage) (standing : Standing) (now : ℕ) (event : RegistrationEvent) → IsCovered (one_if (is_stale event) + spare_of stage) (asking_row limit stage standing now event)
asking_covered limit stage standing now TimePassed = omega arith
asking_covered limit stage standing now (Granted given) = granted_covered (0 + spare_of stage) now given standing
asking_covered limit stage standing now (Challenged stale) = challenged_covered stage stale standing now
asking_covered limit stage standing now (TooBrief least) = too_brief_covered (0 + spare_of stage) now least standing
asking_covered limit stage standing now Refused = omega arith
asking_covered limit stage standing now Ended = omega arith

pub ending_covered : (budget limit deadline : ℕ) (event : RegistrationEvent) → IsCovered budget (ending_row limit deadline event)
ending_covered budget limit deadline TimePassed = omega arith
ending_covered budget limit deadline (Granted given) = omega arith
ending_covered budget limit deadline (Challenged stale) = omega arith
ending_covered budget limit deadline (TooBrief least) = omega arith
ending_covered budget limit deadline Refused = omega arith
ending_covered budget limit deadline Ended = omega arith

pub leaving_covered : (stage : Stage) (deadline : ℕ) (event : RegistrationEvent) → IsCovered (one_if (is_stale event) + spare_of stage) (leaving_row stage deadline event)
leaving_covered stage deadline TimePassed = omega arith
leaving_covered stage deadline (Granted given) = omega arith
leaving_covered stage deadline (Challenged stale) = left_covered stage stale deadline
leaving_covered stage deadline (TooBrief least) = omega arith
leaving_covered stage deadline Refused = omega arith
leaving_covered stage deadline Ended = omega arith

pub row_covered : (state : Registration) (now : ℕ) (event : RegistrationEvent) → IsCovered (one_if (is_stale event) + spare state) (row state now event)
row_covered (Waiting due standing) now event = waiting_covered (one_if (is_stale event) + 0) due standing now event
row_covered (Asking limit stage standing) now event =
    chosen (IsCovered (one_if (is_stale event) + spare_of stage)) (nat_le limit now) (overdue_row standing now event) (asking_row limit stage standing now event)
    (λ _. overdue_covered (one_if (is_stale event) + spare_of stage) standing now event) (λ _. asking_covered limit stage standing now event)
row_covered (Ending limit deadline) now event =
    chosen (IsCovered (one_if (is_stale event) + 0)) (nat_le deadline now) (Over, Nothing) _ (λ _. omega arith)
    (λ _. chosen (IsCovered (one_if (is_stale event) + 0)) (nat_le limit now) (leave_by deadline) (ending_row limit deadline event)
    (λ _. omega arith) (λ _. ending_covered (one_if (is_stale event) + 0) limit deadline event))
row_covered (Leaving stage deadline) now event =
    chosen (IsCovered (one_if (is_stale event) + spare_of stage)) (nat_le deadline now) (Over, Nothing) (leaving_row stage deadline event)
    (λ _. omega arith) (λ _. leaving_covered stage deadline event)
row_covered Over now event = omega arith

covered_more : (left none stale before one rest some more : ℕ) → one + left ≤ none + (stale + before) → rest ≤ some + more + left → one + rest ≤ none + some + (stale + more) + before
covered_more left none stale before one rest some more e f = omega arith

pub run_covered : (state : Registration) (happened : List (ℕ × RegistrationEvent)) → count_of has_credentials state happened ≤ count_of has_none state happened + stale_in happened + spare state
run_covered state [] = omega arith
run_covered state (happening ∷ happened) =
    let next : Registration = (row state happening.0 happening.1).0 in
    covered_more (spare next) (one_if (has_none (row state happening.0 happening.1).1)) (one_if (is_stale happening.1)) (spare state) (one_if (has_credentials (row state happening.0 happening.1).1))
    (count_of has_credentials next happened) (count_of has_none next happened) (stale_in happened) (row_covered state happening.0 happening.1) (run_covered next happened)

pub credentials_are_sent_once : CredentialsAreSentOnce
credentials_are_sent_once began seconds happened = omega (arith, run_covered (begun began seconds) happened)
