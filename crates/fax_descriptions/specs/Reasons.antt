-- REASONS: why a page is refused, which timer acts and why a job ended so, as a ladder tells it. (This project's profile.)
use Rattle.std.specs.Prelude.{ℕ, List, [], codes}
use Rattle.fax_jobs.specs.declared.outcome.Outcome.{Outcome}
use Rattle.fax_jobs.specs.declared.outcome.Outcome.TheVariants.{Delivered, NotReceiver, WidthLacking, FineLacking, RatesSpent, NoAnswer, NoReply, PageRefused, HungUp, NotPlaced}
use Rattle.fax_answer.specs.declared.refusal.Refusal.{Refusal}
use Rattle.fax_answer.specs.declared.refusal.Refusal.TheVariants.{Fault, NotWhole, GapAfter, SeveralImages, NoImage, Untrained}
use Rattle.fax_answer.specs.declared.state.State.{State}
use Rattle.fax_answer.specs.declared.state.State.TheVariants.{Again}
use Rattle.fax_answer.specs.declared.timers.ActingTimer.{ActingTimer}
use Rattle.fax_answer.specs.declared.timers.ActingTimer.TheVariants.{T1, T2, T4}

-- why a page is refused: what is wrong with what came since the last CFR or MCF
abbrev pub refusal_text : Refusal → List ℕ
refusal_text (Fault fault) = codes "the image means no page"
refusal_text NotWhole = codes "the image is not whole"
refusal_text GapAfter = codes "something is missing or began between the image and the command"
refusal_text SeveralImages = codes "more than one image came since the last CFR or MCF"
refusal_text NoImage = codes "no image came before the command"
refusal_text Untrained = codes "an image came after EOM, and no DCS before it"

-- what a timer does that acts on the calling leg (ITU-T T.30, 5.4.3): T1 gives the call up, and T2 but after an EOM; else our DIS goes
-- out again
abbrev pub silence_text : State → List ℕ
silence_text Again = codes "T2: nothing heard in 6 s after EOM, so DIS goes out again"
silence_text state = codes "T2: nothing heard in 6 s, so the call is given up"

abbrev pub timer_text : ActingTimer → State → List ℕ
timer_text T1 state = codes "T1: no DCS in 35 s, so the call is given up"
timer_text T2 state = silence_text state
timer_text T4 state = codes "T4: no DCS in 3 s, so DIS goes out again"

-- why a job ended so, after its report
abbrev pub ended_text : Outcome → List ℕ
ended_text Delivered = []
ended_text NotReceiver = codes ": its DIS says that it does not receive"
ended_text WidthLacking = codes ": its DIS lacks the width of the pages"
ended_text FineLacking = codes ": its DIS lacks the fine resolution of the pages"
ended_text RatesSpent = codes ": the training failed at each rate that it has"
ended_text NoAnswer = codes ": T1, no DIS in 35 s"
ended_text NoReply = codes ": the last command had no answer"
ended_text PageRefused = codes ": it refused a page three times"
ended_text HungUp = codes ": it ended the call"
ended_text NotPlaced = codes ": it could not be reached"
