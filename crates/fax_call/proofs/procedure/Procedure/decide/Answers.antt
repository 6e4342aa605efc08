use Rattle.std.proofs.Common.{◌≡◌, Option, Some, None, sym, ◌∙◌, ap, rules}
use Rattle.fax_frames.specs.declared.frame.Frame.{Frame}
use Rattle.fax_frames.specs.Frames.{frame_of}
use Rattle.fax_call.specs.Table.{on_frame}
use Rattle.fax_call.specs.Rep.{counts_shown}
use Rattle.fax_call.proofs.FollowingLemmas.{no_frame}
use Rattle.fax_call.proofs.procedure.Procedure.decide.Goals as goal

pub returns-in-Some-clause-decided : goal.returns-in-Some-clause-decided
returns-in-Some-clause-decided c now =
    let p = c.args.self.now in
    let read : frame_of c.args.octets.now ≡ Some c.in-Some.frame = search rules in
    c.on_frame.ensures.decided now ∙ ap (λ (o : Option Frame). on_frame now p.format p.turn p.pages p.state (counts_shown p.counts) o) (sym read)

pub returns-in-None-clause-decided : goal.returns-in-None-clause-decided
returns-in-None-clause-decided c now =
    let p = c.args.self.now in
    let read : frame_of c.args.octets.now ≡ None = search rules in
    sym (ap (λ (o : Option Frame). on_frame now p.format p.turn p.pages p.state (counts_shown p.counts) o) read ∙ no_frame now p.format p.turn p.pages p.state (counts_shown p.counts))
