-- The calling table: what a frame or a timer brings about, a row a line. (ITU-T T.30, figure 5-1, phases B to D of a
-- calling terminal; narrower where marked (own): this project's profile.)
use Rattle.std.specs.Prelude.{ℕ, ◌+◌, nat_eq, nat_lt, Bool, Option, Some, None, Result, Ok, Err, if◌then◌else◌}
use Rattle.fax_runcodes.specs.declared.format.Format.{Format}
use Rattle.fax_frames.specs.declared.dis.Dis.{Dis}
use Rattle.fax_frames.specs.declared.dcs.Dcs.{Dcs}
use Rattle.fax_frames.specs.declared.frame.Frame.{Frame}
use Rattle.fax_frames.specs.declared.frame.Frame.TheVariants as frames
use Rattle.fax_frames.specs.declared.choice.Refusal.{Refusal}
use Rattle.fax_frames.specs.declared.choice.Refusal.TheVariants as refusals
use Rattle.fax_frames.specs.Choice.{choice}
use Rattle.fax_timers.specs.Moments.{moment_after}
use Rattle.fax_timers.specs.Spans as spans
use Rattle.fax_jobs.specs.declared.outcome.Outcome.{Outcome}
use Rattle.fax_jobs.specs.declared.outcome.Outcome.TheVariants as outcomes
use Rattle.fax_call.specs.declared.state.State.{State}
use Rattle.fax_call.specs.declared.state.State.TheVariants.{Idle, AwaitDis, AwaitCfr, AwaitMcf, Closing}
use Rattle.fax_call.specs.Replies.{is_last_page}

-- the page due, the step of the DIS's rates, the trainings or commands sent for the same wait, the RTNs for the page, and
-- the pages answered MCF or RTP
pub record Counts : Type 0 where
  pub page : ℕ
  pub step : ℕ
  pub tries : ℕ
  pub refused : ℕ
  pub delivered : ℕ

abbrev pub no_counts : Counts
no_counts = record { page = 0; step = 0; tries = 0; refused = 0; delivered = 0 }

abbrev pub first_try : Counts → Counts
first_try c = record c { tries = 1 }

abbrev pub next_try : Counts → Counts
next_try c = record c { tries = c.tries + 1 }

abbrev pub next_step : Counts → Counts
next_step c = record c { step = c.step + 1; tries = 1 }

abbrev pub next_page : Counts → Counts
next_page c = record c { page = c.page + 1; tries = 1; refused = 0; delivered = c.delivered + 1 }

-- the next page, for which the rates of a DIS begin anew
abbrev pub next_exchange : Counts → Counts
next_exchange c = record (next_page c) { step = 0 }

abbrev pub one_delivered : Counts → Counts
one_delivered c = record c { delivered = c.delivered + 1 }

abbrev pub one_refused : Counts → Counts
one_refused c = record c { tries = 1; refused = c.refused + 1 }

-- what is done: nothing, a training, an image with its command, the command alone, a DIS is awaited for the next page, of
-- this format, with T1 due then, a DCN with which the call ends so, or the call is over at once
pub data Move : Type 0 where
  Stays : Move
  Trains : (dis : Dis) → (dcs : Dcs) → (counts : Counts) → Move
  Sends : (dis : Dis) → (dcs : Dcs) → (counts : Counts) → Move
  AsksAgain : (counts : Counts) → Move
  Turns : (format : Format) → (t1 : ℕ) → (counts : Counts) → Move
  Closes : (outcome : Outcome) → (counts : Counts) → Move
  HangsUp : Move

abbrev pub outcome_of : Refusal → Outcome
outcome_of refusals.NotReceiver = outcomes.NotReceiver
outcome_of refusals.WidthLacking = outcomes.WidthLacking
outcome_of refusals.FineLacking = outcomes.FineLacking
outcome_of refusals.RatesSpent = outcomes.RatesSpent

-- AWAIT DIS, a DIS; AWAIT CFR, an FTT, at the next step: a training by the DCS chosen, or DCN with the refusal
abbrev pub by_choice : Dis → Counts → Result Dcs Refusal → Move
by_choice dis c (Ok dcs) = Trains dis dcs c
by_choice dis c (Err refusal) = Closes (outcome_of refusal) c

-- AWAIT CFR, a DIS, or T4 due: the training again, three times in all (own)
abbrev pub most_tries : ℕ
most_tries = 3

abbrev pub tries_again : Dis → Dcs → Counts → Move
tries_again dis dcs c =
    if nat_lt c.tries most_tries then Trains dis dcs (next_try c) else Closes outcomes.NoReply c

-- AWAIT MCF, T4 due: the command again, three times in all
abbrev pub asks_again : Counts → Move
asks_again c =
    if nat_lt c.tries most_tries then AsksAgain (next_try c) else Closes outcomes.NoReply c

-- AWAIT MCF, an RTN: the training again, and the same page after it; at the third for a page DCN (own)
abbrev pub after_refusal : Dis → Dcs → Counts → Move
after_refusal dis dcs c =
    if nat_lt c.refused 2 then Trains dis dcs (one_refused c) else Closes outcomes.PageRefused c

-- AWAIT MCF, an MCF or RTP, where pages are left: after EOM, since the next page is of another format, a DIS is awaited
abbrev pub turns_or : (now : ℕ) → (turn : Option Format) → Counts → Move → Move
turns_or now (Some format) c m = Turns format (moment_after now spans.t1) (next_exchange c)
turns_or now None c m = m

-- A frame, in each state, with the format of the page due and that of the next, where it is another.
abbrev pub on_frame : (now : ℕ)
    → Format → (turn : Option Format) → (pages : ℕ) → State → Counts → Option Frame → Move
on_frame now format turn pages AwaitDis c (Some (frames.Dis dis)) =
    by_choice dis (first_try c) (choice dis format c.step)
on_frame now format turn pages AwaitDis c (Some frames.Dcn) = HangsUp
on_frame now format turn pages (AwaitCfr dis dcs) c (Some frames.Cfr) = Sends dis dcs (first_try c)
on_frame now format turn pages (AwaitCfr dis dcs) c (Some frames.Ftt) =
    by_choice dis (next_step c) (choice dis format (c.step + 1))
on_frame now format turn pages (AwaitCfr dis dcs) c (Some (frames.Dis other)) =
    tries_again dis dcs c
on_frame now format turn pages (AwaitCfr dis dcs) c (Some frames.Dcn) = HangsUp
on_frame now format turn pages (AwaitMcf dis dcs) c (Some frames.Mcf) =
    if is_last_page pages c.page then Closes outcomes.Delivered (one_delivered c)
    else turns_or now turn c (Sends dis dcs (next_page c))
on_frame now format turn pages (AwaitMcf dis dcs) c (Some frames.Rtp) =
    if is_last_page pages c.page then Closes outcomes.Delivered (one_delivered c)
    else turns_or now turn c (Trains dis dcs (next_page c))
on_frame now format turn pages (AwaitMcf dis dcs) c (Some frames.Rtn) = after_refusal dis dcs c
on_frame now format turn pages (AwaitMcf dis dcs) c (Some frames.Dcn) = HangsUp
on_frame now format turn pages state c frame = Stays

-- AWAIT DIS, T1 due: nobody answered, or, where a DIS was accepted before in the call, no reply came. One was exactly where a
-- page was delivered: only after EOM is a DIS awaited again.
abbrev pub gives_up_dis : Counts → Move
gives_up_dis c = Closes (if nat_eq c.delivered 0 then outcomes.NoAnswer else outcomes.NoReply) c

-- A timer that is due, in each state: T1 in Await DIS, T4 in Await CFR and Await MCF.
abbrev pub on_timers : (t1_due : Bool) → (t4_due : Bool) → State → Counts → Move
on_timers t1_due t4_due Idle c = Stays
on_timers t1_due t4_due (Closing outcome) c = Stays
on_timers t1_due t4_due AwaitDis c = if t1_due then gives_up_dis c else Stays
on_timers t1_due t4_due (AwaitCfr dis dcs) c = if t4_due then tries_again dis dcs c else Stays
on_timers t1_due t4_due (AwaitMcf dis dcs) c = if t4_due then asks_again c else Stays
