use Rattle.std.proofs.Common.{◌≡◌, List, Some, sym, ap, subst}
use Rattle.fax_ifp.specs.Pieces.{Piece}
use Rattle.fax_ifp.specs.Tracked.{TrackState, Tracks, Gives}
use Rattle.fax_call.specs.Calls.{came_all}
use Rattle.fax_call.specs.Following.{Follows, IsJobOfCall}
use Rattle.fax_call.specs.Reached.{Rep}
use Rattle.fax_call.specs.Watching.{Watches, tellings}
use Rattle.fax_call.proofs.HearingLemmas.{hears_one}
use Rattle.fax_call.proofs.caller.Caller.hear_packet.Goals as goal

pub returns-clause-heard : goal.returns-clause-heard
returns-clause-heard g c writes job heard core r =
    let tracked : c.self.inside.signals ≡ c.args.self.now.tracked = ap (λ (k : Rep). k.tracked) c.self.view_is in
    let given : List Piece = c.slot_into.new.pieces in
    hears_one (Watches g.W.Watcher.tells c.args.watcher.now c.hear_all.new.watcher) writes job c.args.now c.args.packet.now heard core c.args.self.now c.hear_all.new.self c.slot_into.new.self given r
    (subst (λ (t : TrackState). Tracks (Some c.args.packet.now) t c.slot_into.new.self) tracked c.in_ok-slot_into.ensures.tracked)
    (subst (λ (t : TrackState). Gives (Some c.args.packet.now) t given) tracked c.in_ok-slot_into.ensures.pieces)
    c.hear_all.ensures.tracked
    (λ a f.
    subst (λ (ps : List Piece). Follows writes job (came_all a ps c.args.now) c.hear_all.new.self.writer c.hear_all.new.self.procedure) c.as_slice.ensures
    (c.hear_all.ensures.heard writes job a (subst (λ (k : Rep). Follows writes job a k.writer k.procedure) (sym c.self.view_is) f)))
    (λ a f.
    subst (λ (ps : List Piece). Watches g.W.Watcher.tells c.args.watcher.now c.hear_all.new.watcher (tellings a ps c.args.now)) c.as_slice.ensures
    (c.hear_all.ensures.told writes job a (subst (λ (k : Rep). Follows writes job a k.writer k.procedure) (sym c.self.view_is) f)))

pub returns-clause-job : goal.returns-clause-job
returns-clause-job g c job h = c.hear_all.ensures.job job (subst (λ (k : Rep). IsJobOfCall k.procedure job) (sym c.self.view_is) h)
