use Rattle.std.proofs.Common.{◌≡◌, false, List, [], ◌∷◌, Some, sym, ◌∙◌, ap, subst, rules}
use Rattle.fax_ifp.specs.Pieces.{Octets}
use Rattle.fax_ifp.specs.Elements.{Slot}
use Rattle.fax_ifp.specs.Tracked.{TrackState, Tracks, Gives, lost_slots, with_octets}
use Rattle.fax_udptl.specs.Taking.{slots_in}
use Rattle.fax_answer.specs.Reached.{Rep, HearsSo}
use Rattle.fax_answer.specs.Watching.{TellsNothing, Watches}
use Rattle.fax_answer.proofs.SlotsLemmas.{empty_lost, packetless_lost, hears_alone, hears_so, if_right}
use Rattle.fax_answer.proofs.Tellings.{watches_none}
use Rattle.fax_answer.proofs.answerer.Answerer.hear_whole.Goals.{then-is_empty-via-then-is_empty, then-is_empty-via-else-is_empty+then-is_none}
use Rattle.fax_answer.proofs.answerer.Answerer.hear_whole.Goals as goal

pub returns-clause-heard : goal.returns-clause-heard
returns-clause-heard g c =
    let off : c.is_err.result ≡ false = search rules in
    if_right c.hear_slots-heard.result _ (sym c.is_err.ensures.value ∙ off) c.hear_slots-heard.ensures.heard

pub returns-in-Some-octets_in-clause-heard : goal.returns-in-Some-octets_in-clause-heard
returns-in-Some-octets_in-clause-heard g c =
    let tracked : c.self.inside.signals ≡ c.args.self.now.tracked = ap (λ (k : Rep). k.tracked) c.self.view_is in
    hears_alone (Watches g.W.Watcher.tells c.args.watcher.now c.hear_alone.new.watcher) c.hear_alone.result (slots_in c.args.decided.now) c.in-Some.packet.now c.in-Some-octets_in.octets.now c.args.now c.args.self.now c.hear_alone.new.self c.in-Some.ensures.some
    (subst (λ (t : TrackState). Tracks (Some c.in-Some.packet.now) t (with_octets t)) tracked c.in-Some-octets_in.ensures.tracked)
    (subst (λ (t : TrackState). Gives (Some c.in-Some.packet.now) t (Octets c.in-Some-octets_in.octets.now ∷ [])) tracked c.in-Some-octets_in.ensures.pieces)
    c.hear_alone.ensures.tracked c.hear_alone.ensures.heard

pub returns-then-is_empty-clause-heard : goal.returns-then-is_empty-clause-heard
returns-then-is_empty-clause-heard g c heard core r =
    let all : slots_in c.args.decided.now ≡ lost_slots c.args.decided.now.lost =
    elim c.then-is_empty.branch [
      | then-is_empty-via-then-is_empty w ↦ empty_lost c.args.decided.now (c.is_empty.ensures.0 w.if-is_empty.true)
      | then-is_empty-via-else-is_empty+then-is_none w ↦ packetless_lost c.args.decided.now (search rules)
    ] in
    subst (λ (s : List Slot). HearsSo (Watches g.W.Watcher.tells c.args.watcher.now c.args.watcher.now) s c.args.now heard core c.lose.new.self) (ap lost_slots c.lost.ensures ∙ sym all)
    (hears_so TellsNothing (Watches g.W.Watcher.tells c.args.watcher.now c.args.watcher.now) (lost_slots c.lost.result) c.args.now heard core c.lose.new.self
    (λ told e. watches_none g.W.Watcher.tells c.args.watcher.now told e) (c.lose.ensures.heard heard core r))
