-- Prompt ticks: what is not due, and ticks in between that change nothing.
use Rattle.std.proofs.Common.{◌≡◌, ℕ, ◌+◌, ◌-◌, ◌<◌, ◌≤◌, max, min, nat_le, Bool, true, false, List, [], ◌∷◌, Option, Some, None, option_map, refl, sym, ◌∙◌, ap, subst, arith, if◌then◌else◌}
use Rattle.fax_timers.specs.Moments.{earlier, is_due}
use Rattle.fax_call.specs.Writings.{Writing}
use Rattle.fax_gateway.specs.Setups.{Setup}
use Rattle.fax_gateway.specs.Events.{Event, Ring, FromCalling, FromCalled, Tick, Placed, Given, clock}
use Rattle.fax_gateway.specs.CallingLegs.{calling_leg, told_calling}
use Rattle.fax_gateway.specs.CalledLegs.{told_called, told_report}
use Rattle.fax_gateway.specs.BothLegs.{in_tick}
use Rattle.fax_gateway.specs.Due.{due_at}
use Rattle.fax_laws.specs.deadlines.Deadlines.{IsInTime, IsPrompt, IsSteady, PromptTracesGoOn, SteadyTicksArePrompt, deadline, last_tick, wanted}

-- a moment is before another, where that is set
abbrev pub IsBefore : ℕ → Option ℕ → Type 0
IsBefore now None = Unit {0}
IsBefore now (Some moment) = now < moment

pub before_left : (now : ℕ) (a b : Option ℕ) → IsBefore now (earlier a b) → IsBefore now a
before_left now None b h = tt
before_left now (Some x) None h = h
before_left now (Some x) (Some y) h = omega arith

pub before_right : (now : ℕ) (a b : Option ℕ) → IsBefore now (earlier a b) → IsBefore now b
before_right now None b h = h
before_right now (Some x) None h = tt
before_right now (Some x) (Some y) h = omega arith

pub not_due : (now : ℕ) (due : Option ℕ) → IsBefore now due → is_due due now ≡ false
not_due now None h = refl
not_due now (Some moment) h = grind (arith)

before_wanted : (setup : Setup) (writes : Writing) (trace : List Event) (now : ℕ) → IsBefore now (deadline setup writes trace) → IsBefore now (wanted setup writes trace)
before_wanted setup writes [] now h = h
before_wanted setup writes (Tick at given ∷ before) now h = h
before_wanted setup writes (Ring at number ∷ before) now h = before_right now (deadline setup writes before) (wanted setup writes (Ring at number ∷ before)) h
before_wanted setup writes (FromCalling octets at decided read ∷ before) now h =
    before_right now (deadline setup writes before) (wanted setup writes (FromCalling octets at decided read ∷ before)) h
before_wanted setup writes (FromCalled octets at decided ∷ before) now h = before_right now (deadline setup writes before) (wanted setup writes (FromCalled octets at decided ∷ before)) h
before_wanted setup writes (Placed at connected ∷ before) now h = before_right now (deadline setup writes before) (wanted setup writes (Placed at connected ∷ before)) h

-- after the clock and before the deadline no tick is due
pub before_due : (setup : Setup) (writes : Writing) (trace : List Event) (now : ℕ) → clock trace < now → IsBefore now (deadline setup writes trace) → IsBefore now (due_at setup writes trace)
before_due setup writes trace now late h = by (due_at setup writes trace) (before_wanted setup writes trace now h)
  where
    by : (due : Option ℕ) → IsBefore now (option_map (λ (d : ℕ). max d (clock trace)) due) → IsBefore now due
    by None g = tt
    by (Some d) g = omega arith

-- ---- Where the ticks stand that were put in between: `last` is the last of them, where the clock is `now` and the deadline this.

abbrev pub IsNear : (deadline : Option ℕ) → (now last : ℕ) → Type 0
IsNear None now last = last ≡ now
IsNear (Some moment) now last = (now < moment → last ≡ now) × (moment ≤ now → moment ≤ last + 1)

-- how far they may go on before the next event, at a moment
abbrev pub upto : (deadline : Option ℕ) → ℕ → ℕ
upto None next = next
upto (Some moment) next = min next (moment - 1)

pub upto_most : (d : Option ℕ) (next : ℕ) → upto d next ≤ next
upto_most None next = omega arith
upto_most (Some moment) next = omega arith

-- what is put in there comes after the clock, and before the deadline
pub between : (d : Option ℕ) (now last next y : ℕ) → IsNear d now last → last < y → y ≤ upto d next → (now < y) × IsBefore y d
between None now last next y n l h = (omega arith, tt)
between (Some moment) now last next y n l h = by (nat_le moment now) refl
  where
    by : (b : Bool) → nat_le moment now ≡ b → (now < y) × (y < moment)
    by true e = let m : moment ≤ now = grind (arith) in let k : moment ≤ last + 1 = n.1 m in absurd (omega arith)
    by false e = let m : now < moment = grind (arith) in let k : last ≡ now = n.0 m in (omega arith, omega arith)

-- where they stand then
abbrev pub reached : (d : Option ℕ) → (last next : ℕ) → ℕ
reached d last next = last + (upto d next - last)

pub reached_most : (d : Option ℕ) (now last next : ℕ) → last ≤ now → now ≤ next → reached d last next ≤ next
reached_most None now last next l n = omega arith
reached_most (Some moment) now last next l n = omega arith

-- the next event comes soon after them
pub comes_soon : (d : Option ℕ) (now last next from gap : ℕ) → IsNear d now last → last ≤ now → now ≤ next → from ≤ last → IsInTime d from gap next → next ≤ reached d last next + (gap + 1)
comes_soon None now last next from gap n l h f i = omega arith
comes_soon (Some moment) now last next from gap n l h f i = by (nat_le moment now) refl
  where
    by : (b : Bool) → nat_le moment now ≡ b → next ≤ last + (min next (moment - 1) - last) + (gap + 1)
    by true e = let m : moment ≤ now = grind (arith) in let k : moment ≤ last + 1 = n.1 m in omega arith
    by false e = let m : now < moment = grind (arith) in let k : last ≡ now = n.0 m in omega arith

-- and they stand near it, where no tick came, whatever is wanted from then on
pub near_next : (d w : Option ℕ) (now last next : ℕ) → IsNear d now last → last ≤ now → now ≤ next → IsNear (earlier d (option_map (λ (due : ℕ). max due next) w)) next (reached d last next)
near_next None None now last next n l h = omega arith
near_next None (Some due) now last next n l h = (λ g. omega arith, λ g. omega arith)
near_next (Some moment) None now last next n l h = by (nat_le moment now) refl
  where
    by : (b : Bool) → nat_le moment now ≡ b → IsNear (Some moment) next (reached (Some moment) last next)
    by true e = let m : moment ≤ now = grind (arith) in let k : moment ≤ last + 1 = n.1 m in (λ g. omega arith, λ g. omega arith)
    by false e = let m : now < moment = grind (arith) in let k : last ≡ now = n.0 m in (λ g. omega arith, λ g. omega arith)
near_next (Some moment) (Some due) now last next n l h = by (nat_le moment now) refl
  where
    by : (b : Bool) → nat_le moment now ≡ b → IsNear (Some (min moment (max due next))) next (reached (Some moment) last next)
    by true e = let m : moment ≤ now = grind (arith) in let k : moment ≤ last + 1 = n.1 m in (λ g. omega arith, λ g. omega arith)
    by false e = let m : now < moment = grind (arith) in let k : last ≡ now = n.0 m in (λ g. omega arith, λ g. omega arith)

-- after a tick they stand at it
pub near_tick : (w : Option ℕ) (now : ℕ) → IsNear (option_map (λ (due : ℕ). max due now) w) now now
near_tick None now = refl
near_tick (Some due) now = (λ g. refl, λ g. omega arith)

pub near_begin : (d : Option ℕ) (now : ℕ) → IsNear d now now
near_begin None now = refl
near_begin (Some moment) now = (λ g. refl, λ g. omega arith)

-- ---- There are such traces

pub prompt_go_on : PromptTracesGoOn
prompt_go_on setup writes trace gap from at t p i =
    let now : ℕ = max at (clock trace) in
    let given : Given = record {
      on_calling = told_calling setup (calling_leg setup trace) now;
      on_called = told_called setup writes (in_tick setup writes trace at).leg now;
      report = told_report writes (in_tick setup writes trace at).leg now;
    } in
    (Tick at given, (refl, t), (i, p))

-- ---- Steady ticks are prompt

last_most : (from : ℕ) (trace : List Event) → last_tick from trace ≤ max from (clock trace)
last_most from [] = omega arith
last_most from (Tick at given ∷ before) = omega arith
last_most from (Ring at number ∷ before) = let m : last_tick from before ≤ max from (clock before) = last_most from before in omega arith
last_most from (FromCalling octets at decided read ∷ before) = let m : last_tick from before ≤ max from (clock before) = last_most from before in omega arith
last_most from (FromCalled octets at decided ∷ before) = let m : last_tick from before ≤ max from (clock before) = last_most from before in omega arith
last_most from (Placed at connected ∷ before) = let m : last_tick from before ≤ max from (clock before) = last_most from before in omega arith

-- a deadline is no earlier than a moment, where that is past
abbrev NotBefore : (last from : ℕ) → Option ℕ → Type 0
NotBefore last from None = Unit {0}
NotBefore last from (Some moment) = last ≤ max moment from

wanted_late : (last from now : ℕ) (due : Option ℕ) → last ≤ max from now → NotBefore last from (option_map (λ (d : ℕ). max d now) due)
wanted_late last from now None h = tt
wanted_late last from now (Some d) h = omega arith

earlier_late : (last from : ℕ) (a b : Option ℕ) → NotBefore last from a → NotBefore last from b → NotBefore last from (earlier a b)
earlier_late last from None b h k = k
earlier_late last from (Some x) None h k = h
earlier_late last from (Some x) (Some y) h k = omega arith

deadline_late : (setup : Setup) (writes : Writing) (trace : List Event) (from : ℕ) → NotBefore (last_tick from trace) from (deadline setup writes trace)
deadline_late setup writes [] from = wanted_late from from 0 (due_at setup writes []) (omega arith)
deadline_late setup writes (Tick at given ∷ before) from =
    let trace : List Event = Tick at given ∷ before in wanted_late (last_tick from trace) from (clock trace) (due_at setup writes trace) (last_most from trace)
deadline_late setup writes (Ring at number ∷ before) from =
    let trace : List Event = Ring at number ∷ before in
    earlier_late (last_tick from before) from (deadline setup writes before) (wanted setup writes trace) (deadline_late setup writes before from) (wanted_late (last_tick from trace) from (clock trace) (due_at setup writes trace) (last_most from trace))
deadline_late setup writes (FromCalling octets at decided read ∷ before) from =
    let trace : List Event = FromCalling octets at decided read ∷ before in
    earlier_late (last_tick from before) from (deadline setup writes before) (wanted setup writes trace) (deadline_late setup writes before from) (wanted_late (last_tick from trace) from (clock trace) (due_at setup writes trace) (last_most from trace))
deadline_late setup writes (FromCalled octets at decided ∷ before) from =
    let trace : List Event = FromCalled octets at decided ∷ before in
    earlier_late (last_tick from before) from (deadline setup writes before) (wanted setup writes trace) (deadline_late setup writes before from) (wanted_late (last_tick from trace) from (clock trace) (due_at setup writes trace) (last_most from trace))
deadline_late setup writes (Placed at connected ∷ before) from =
    let trace : List Event = Placed at connected ∷ before in
    earlier_late (last_tick from before) from (deadline setup writes before) (wanted setup writes trace) (deadline_late setup writes before from) (wanted_late (last_tick from trace) from (clock trace) (due_at setup writes trace) (last_most from trace))

in_time : (d : Option ℕ) (last from gap now : ℕ) → NotBefore last from d → now ≤ last + gap → IsInTime d from gap now
in_time None last from gap now h l = tt
in_time (Some moment) last from gap now h l = omega arith

pub steady_are_prompt : SteadyTicksArePrompt
steady_are_prompt setup writes [] gap from s = tt
steady_are_prompt setup writes (e ∷ before) gap from s =
    (in_time (deadline setup writes before) (last_tick from before) from gap (clock (e ∷ before)) (deadline_late setup writes before from) s.0, steady_are_prompt setup writes before gap from s.1)
