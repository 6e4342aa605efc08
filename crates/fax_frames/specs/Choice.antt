-- The choice of a DCS.
use Rattle.std.specs.Prelude.{ℕ, ◌&&◌, not, Option, Some, None, Result, Ok, Err, if◌then◌else◌, slice_get}
use Rattle.fax_runcodes.specs.declared.format.Format.{Format}
use Rattle.fax_frames.specs.declared.rate.Rate.{Rate}
use Rattle.fax_frames.specs.declared.dis.Dis.{Dis}
use Rattle.fax_frames.specs.declared.dcs.Dcs.{Dcs}
use Rattle.fax_frames.specs.declared.choice.Refusal.{Refusal}
use Rattle.fax_frames.specs.declared.choice.Refusal.TheVariants.{NotReceiver, WidthLacking, FineLacking, RatesSpent}
use Rattle.fax_frames.specs.FieldBits.{has_bit}
use Rattle.fax_frames.specs.Capabilities.{rates_in, has_width, length_in, scan_time}

-- the DCS for pages of a format at a rate: two dimensions wherever the DIS has them, and its time of a
-- line at the format's resolution
abbrev pub dcs_at : Dis → Format → Rate → Dcs
dcs_at dis format rate =
    record {
      rate = rate;
      fine = format.fine;
      two_d = has_bit 16 dis.caps.0;
      width = format.width;
      length = length_in dis.caps.0;
      scan_ms = scan_time dis.caps.0 format.fine;
    }

-- the DCS at a step of the DIS's rates, counted from 0, or the first refusal that holds (this project's
-- profile; the bits are those of ITU-T T.30, Table 2)
abbrev pub choice : Dis → Format → ℕ → Result Dcs Refusal
choice dis format step =
    if not (has_bit 10 dis.caps.0) then Err NotReceiver
    else if not (has_width format.width dis.caps.0) then Err WidthLacking
    else if format.fine && not (has_bit 15 dis.caps.0) then Err FineLacking
    else at_rate (slice_get (rates_in dis.caps.0) step)
  where
    at_rate : Option Rate → Result Dcs Refusal
    at_rate None = Err RatesSpent
    at_rate (Some rate) = Ok (dcs_at dis format rate)

-- the numbers of the refusals (this project's profile)
abbrev pub refusal_number : Refusal → ℕ
refusal_number NotReceiver = 1
refusal_number WidthLacking = 2
refusal_number FineLacking = 3
refusal_number RatesSpent = 4
