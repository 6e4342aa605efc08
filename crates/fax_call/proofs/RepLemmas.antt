-- What is kept stands for what waits.
use Rattle.std.proofs.Common.{◌≡◌, ℕ, ◌<◌, ◌≤◌, Bool, true, false, not, ◌&&◌, List, [], ◌∷◌, length, Option, Some, None, Result, Ok, Err, refl, arith, if◌then◌else◌, slice_get}
use Rattle.std.specs.Prelude.{unwrap_or}
use Rattle.std.proofs.lemmas.Option.{slice_get_within}
use Rattle.fax_runcodes.specs.declared.format.Format.{Format}
use Rattle.fax_frames.specs.declared.dis.Dis.{Dis}
use Rattle.fax_frames.specs.declared.dcs.Dcs.{Dcs}
use Rattle.fax_frames.specs.declared.rate.Rate.{Rate}
use Rattle.fax_frames.specs.declared.choice.Refusal.{Refusal}
use Rattle.fax_frames.specs.declared.choice.Refusal.TheVariants as refusals
use Rattle.fax_frames.specs.FieldBits.{look_up, code_at, has_bit}
use Rattle.fax_frames.specs.Capabilities.{rates_in, dis_rates, read_as, has_width}
use Rattle.fax_frames.specs.Choice.{choice, dcs_at}

-- a choice is one of six at most
if_few : (b : Bool) (xs d : List Rate) (r : Option (List Rate)) → length xs ≤ 6 → length (unwrap_or r d) ≤ 6 → length (unwrap_or (if b then Some xs else r) d) ≤ 6
if_few true xs d r few rest = few
if_few false xs d r few rest = rest

abbrev Few : List (ℕ × List Rate) → Type 0
Few [] = true ≡ true
Few (entry ∷ table) = (length entry.1 ≤ 6) × Few table

look_up_few : (table : List (ℕ × List Rate)) (code : ℕ) (d : List Rate) → Few table → length d ≤ 6 → length (unwrap_or (look_up table code) d) ≤ 6
look_up_few [] code d few rest = rest
look_up_few (entry ∷ table) code d few rest = if_few _ entry.1 d (look_up table code) few.0 (look_up_few table code d few.1 rest)

table_few : Few dis_rates
table_few = (omega arith, (omega arith, (omega arith, (omega arith, (omega arith, refl)))))

rates_few : (caps : ℕ) → length (rates_in caps) ≤ 6
rates_few caps =
    look_up_few dis_rates (code_at 11 14 caps) _ table_few
    (look_up_few dis_rates (read_as (code_at 11 14 caps)) [] table_few (omega arith))

abbrev at_rate : Dis → Format → Option Rate → Result Dcs Refusal
at_rate dis format None = Err refusals.RatesSpent
at_rate dis format (Some rate) = Ok (dcs_at dis format rate)

rest_ok : (x y f z : Bool) (r : Result Dcs Refusal) (dcs : Dcs)
    → (if not x then Err refusals.NotReceiver else if not y then Err refusals.WidthLacking else if f && not z then Err refusals.FineLacking else r) ≡ Ok dcs
    → r ≡ Ok dcs
rest_ok false y f z r dcs e = cc
rest_ok true false f z r dcs e = cc
rest_ok true true true false r dcs e = cc
rest_ok true true true true r dcs e = e
rest_ok true true false z r dcs e = e

rate_some : (dis : Dis) (format : Format) (o : Option Rate) (dcs : Dcs) → at_rate dis format o ≡ Ok dcs → (rate : Rate) × (o ≡ Some rate)
rate_some dis format None dcs e = cc
rate_some dis format (Some rate) dcs e = (rate, refl)

pub step_few : (dis : Dis) (format : Format) (step : ℕ) (dcs : Dcs) → choice dis format step ≡ Ok dcs → step < 6
step_few dis format step dcs e =
    let r : Option Rate = slice_get (rates_in dis.caps.0) step in
    let h : at_rate dis format r ≡ Ok dcs = rest_ok (has_bit 10 dis.caps.0) (has_width format.width dis.caps.0) format.fine (has_bit 15 dis.caps.0) (at_rate dis format r) dcs e in
    let some : (rate : Rate) × (r ≡ Some rate) = rate_some dis format r dcs h in
    let within : step < length (rates_in dis.caps.0) = slice_get_within (rates_in dis.caps.0) step some.0 some.1 in
    let few : length (rates_in dis.caps.0) ≤ 6 = rates_few dis.caps.0 in
    omega arith
