-- Each RTN given refuses the last command, and no page joins the book.
use Rattle.std.proofs.Common.{◌≡◌, ℕ, max, true, false, List, ◌∷◌, ◌++◌, Option, Some, None, refl, sym, ◌∙◌, ap, subst}
use Rattle.fax_jobs.specs.Pasts.{Step}
use Rattle.fax_answer.proofs.Judging.{judges_each_command}
use Rattle.fax_answer.proofs.EachRtn.{each_rtn}
use Rattle.fax_call.specs.Writings.{Writing}
use Rattle.fax_gateway.specs.Setups.{Setup}
use Rattle.fax_gateway.specs.Events.{Event, Tick, Given, clock}
use Rattle.fax_gateway.specs.CallingLegs.{CallingLeg, core_of, calling_leg, answers, told_calling}
use Rattle.fax_gateway.specs.BothLegs.{BothLegs, serves, before_serving, both_legs}
use Rattle.fax_gateway.specs.Traces.{IsTrace}
use Rattle.fax_gateway.specs.Told.{gives_mcf, gives_rtn}
use Rattle.fax_gateway.specs.Rtns.{RefusesNow, EachRtnAnswers, CommandsAreJudged}
use Rattle.fax_gateway.proofs.LegsRead.{leg_is_read}
use Rattle.fax_gateway.proofs.McfAnswers.{if_none}
use Rattle.fax_gateway.proofs.Replied.{NeatLeg, IfNeat, neat_of, ticked_neat, rtn_only, rtn_is_no_mcf}

if_rtn : (setup : Setup) (writes : Writing) (earlier : List Event) (now : ℕ) (o : Option CallingLeg) (s : BothLegs) → IsTrace setup writes earlier → calling_leg setup earlier ≡ o → gives_rtn (told_calling setup o now) ≡ true →
    (leg : CallingLeg) × (o ≡ Some leg) × RefusesNow leg s.steps (serves writes now (before_serving setup writes o now s)).steps
if_rtn setup writes earlier now None s t is m = cc
if_rtn setup writes earlier now (Some l) s t is m =
    let n : NeatLeg l = subst IfNeat is (neat_of setup earlier) in
    let g = rtn_only setup l.given (answers l now).given n.short (ticked_neat (core_of l) now n.core).given m in
    let r = each_rtn l.before l.begun now l.events g.0 (leg_is_read setup writes earlier l t is) g.1 g.2 in
    let no : gives_mcf (told_calling setup (Some l) now) ≡ false = rtn_is_no_mcf setup l.given (answers l now).given g.0 n.short (ticked_neat (core_of l) now n.core).given g.1 g.2 in
    (l, refl, record { refused = r.0; judged = r.1; no_page = if_none setup writes earlier now (Some l) s t is no })

pub each_rtn_answers : EachRtnAnswers
each_rtn_answers setup writes earlier at given t m =
    let now : ℕ = max at (clock earlier) in
    let same : gives_rtn given.on_calling ≡ gives_rtn (told_calling setup (calling_leg setup earlier) now) = ap (λ (g : Given). gives_rtn g.on_calling) t.0 in
    if_rtn setup writes earlier now (calling_leg setup earlier) (both_legs setup writes earlier) t.1 refl (sym same ∙ m)

pub commands_are_judged : CommandsAreJudged
commands_are_judged setup writes trace leg later before octets d command t is split order not_passed =
    judges_each_command leg.before leg.begun leg.events later before octets d command (leg_is_read setup writes trace leg t is) split order not_passed
