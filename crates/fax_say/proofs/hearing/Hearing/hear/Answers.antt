use Rattle.std.proofs.Common.{sym, ◌∙◌, ap, subst}
use Rattle.std.specs.Prelude.{if◌then◌else◌}
use Rattle.fax_say.specs.Hearings.{HasBegun, HearingValue, waits}
use Rattle.fax_say.proofs.HearingLemmas.{begun_so, front_so, slice_so, told_so}
use Rattle.fax_say.proofs.hearing.Hearing.hear.Goals as goal

pub returns-clause-heard : goal.returns-clause-heard
returns-clause-heard c =
    let octets = c.args.octets.now in
    let (front, cut, answered) = c.in-Some.ensures.some in
    let w = waits c.self.inside.stays c.in-Some.last in
    let shown = c.told.ensures ∙ ap (λ l. if w then octets else l) (slice_so octets front c.in-Some.after.now cut) in
    λ before heard.
    told_so c.self.inside.stays c.in-Some.last octets front c.in-Some.after.now c.told.result.now before cut shown
    (answered before (subst (λ part. HasBegun part before) (sym (ap (λ (h : HearingValue). h.part) c.self.view_is)) (begun_so c.args.self.now before c.requires heard)))

pub returns-clause-front : goal.returns-clause-front
returns-clause-front c =
    let octets = c.args.octets.now in
    let (front, cut, answered) = c.in-Some.ensures.some in
    let w = waits c.self.inside.stays c.in-Some.last in
    front_so w octets front c.in-Some.after.now c.told.result.now cut
    (c.told.ensures ∙ ap (λ l. if w then octets else l) (slice_so octets front c.in-Some.after.now cut))
