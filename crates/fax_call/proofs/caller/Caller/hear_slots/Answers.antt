use Rattle.std.proofs.Common.{◌≡◌, ◌++◌, ℕ, List, Some, map, sym, ◌∙◌, ap, subst, rules}
use Rattle.std.proofs.lemmas.Iterator.Consumers.{YieldsList-at, YieldsList-end, YieldsList-from_first}
use Rattle.std.proofs.lemmas.List.{append-nil}
use Rattle.std.proofs.lemmas.Result.{on_ok_weaker}
use Rattle.std.specs.Borrow.{Bor}
use Rattle.fax_ifp.specs.Elements.{Slot}
use Rattle.fax_ifp.specs.Pieces.{Piece}
use Rattle.fax_ifp.specs.Tracked.{TrackState, Tracks, Gives, lost_slots}
use Rattle.fax_udptl.specs.Reading.{texts}
use Rattle.fax_call.specs.Calls.{came_all}
use Rattle.fax_call.specs.Following.{Follows, IsJobOfCall}
use Rattle.fax_call.specs.Reached.{Rep, HearsTold}
use Rattle.fax_call.specs.Watching.{TellsNothing, Watches, tellings}
use Rattle.fax_call.proofs.Tellings.{watches_more, watches_none}
use Rattle.fax_call.proofs.HearingLemmas.{hears_more, hears_so, slots_more}
use Rattle.fax_call.proofs.caller.Caller.hear_slots.Goals as goal

pub loop-packet-preserved : goal.loop-packet-preserved
loop-packet-preserved g c =
    let before = c.loop-packet.invariant in
    let mid : Rep = c.loop-packet.self in
    let inside = c.self-in-loop-packet.inside in
    let tracked : inside.signals ≡ mid.tracked = ap (λ (k : Rep). k.tracked) c.self-in-loop-packet.view_is in
    let given : List Piece = c.slot_into.new.pieces in
    let told = c.as_slice.ensures in
    record {
      heard = λ writes job heard core r.
          subst (λ (s : List Slot). HearsTold (Watches g.W.Watcher.tells c.args.watcher.now c.hear_all.new.watcher) writes job s c.args.now heard core c.hear_all.new.self) (slots_more c.args.decided.now.lost c.loop-packet.yielded c.in-Some-packet.packet)
          (hears_more (Watches g.W.Watcher.tells c.args.watcher.now c.loop-packet.watcher) (Watches g.W.Watcher.tells c.loop-packet.watcher c.hear_all.new.watcher) (Watches g.W.Watcher.tells c.args.watcher.now c.hear_all.new.watcher)
          (λ s t x y. watches_more g.W.Watcher.tells c.args.watcher.now c.loop-packet.watcher c.hear_all.new.watcher s t x y) writes job (lost_slots c.args.decided.now.lost ++ map (λ (x : List ℕ). Some x) (texts c.loop-packet.yielded)) c.args.now c.in-Some-packet.packet.now heard core mid c.hear_all.new.self c.slot_into.new.self given (before.heard writes job heard core r)
          (subst (λ (t : TrackState). Tracks (Some c.in-Some-packet.packet.now) t c.slot_into.new.self) tracked c.in_ok-slot_into.ensures.tracked)
          (subst (λ (t : TrackState). Gives (Some c.in-Some-packet.packet.now) t given) tracked c.in_ok-slot_into.ensures.pieces)
          c.hear_all.ensures.tracked
          (λ a f.
          subst (λ (ps : List Piece). Follows writes job (came_all a ps c.args.now) c.hear_all.new.self.writer c.hear_all.new.self.procedure) told
          (c.hear_all.ensures.heard writes job a (subst (λ (k : Rep). Follows writes job a k.writer k.procedure) (sym c.self-in-loop-packet.view_is) f)))
          (λ a f.
          subst (λ (ps : List Piece). Watches g.W.Watcher.tells c.loop-packet.watcher c.hear_all.new.watcher (tellings a ps c.args.now)) told
          (c.hear_all.ensures.told writes job a (subst (λ (k : Rep). Follows writes job a k.writer k.procedure) (sym c.self-in-loop-packet.view_is) f))));
      job = λ job h. c.hear_all.ensures.job job (subst (λ (k : Rep). IsJobOfCall k.procedure job) (sym c.self-in-loop-packet.view_is) (before.job job h));
      writer = c.hear_all.ensures.writer ∙ ap (λ (k : Rep). k.writer) c.self-in-loop-packet.view_is ∙ before.writer;
      spare = c.hear_all.ensures.spare ∙ ap (λ (k : Rep). k.spare) c.self-in-loop-packet.view_is ∙ before.spare;
    }

pub returns-in_err-slot_into-clause-job : goal.returns-in_err-slot_into-clause-job
returns-in_err-slot_into-clause-job g c job h = subst (λ (k : Rep). IsJobOfCall k.procedure job) (sym c.self-in-loop-packet.view_is) (c.loop-packet.invariant.job job h)

pub returns-in-Some-clause-heard : goal.returns-in-Some-clause-heard
returns-in-Some-clause-heard g c =
    on_ok_weaker c.hear_packet.result
    (λ hears. λ writes job heard core r. subst (λ (s : List Slot). HearsTold (Watches g.W.Watcher.tells c.args.watcher.now c.hear_packet.new.watcher) writes job s c.args.now heard core c.hear_packet.new.self) (sym c.in-Some.ensures.some) (hears writes job heard core r))
    c.hear_packet.ensures.heard

pub loop-packet-init : goal.loop-packet-init
loop-packet-init g c = record {
  heard = λ writes job heard core r.
      subst (λ (s : List Slot). HearsTold (Watches g.W.Watcher.tells c.args.watcher.now c.args.watcher.now) writes job s c.args.now heard core c.lose.new.self) (ap lost_slots c.lost.ensures ∙ sym (append-nil (lost_slots c.args.decided.now.lost)))
      (hears_so TellsNothing (Watches g.W.Watcher.tells c.args.watcher.now c.args.watcher.now) writes job (lost_slots c.lost.result) c.args.now heard core c.lose.new.self
      (λ told e. watches_none g.W.Watcher.tells c.args.watcher.now told e) (c.lose.ensures.heard writes job c.args.now heard core r));
  job = search rules;
  writer = search rules;
  spare = search rules;
}

pub returns-clause-heard : goal.returns-clause-heard
returns-clause-heard g c writes job heard core r =
    let seen = YieldsList-end
    (YieldsList-at c.into_iter-packet-iterator.ensures.into_iter_gives
    (YieldsList-from_first (λ (p : Bor (List ℕ)). p.now) (λ (ps : List (List ℕ)). ps) {s = c.packets-packet-items.result} c.args.decided.now.packets c.packets-packet-items.ensures))
    c.loop-packet.yielded _ c.loop-packet.yielded_by _ _ c.in-None.is c.next.ensures.steps in
    let all : texts c.loop-packet.yielded ≡ c.args.decided.now.packets = seen.0 in
    subst (λ (ps : List (List ℕ)). HearsTold (Watches g.W.Watcher.tells c.args.watcher.now c.loop-packet.watcher) writes job (lost_slots c.args.decided.now.lost ++ map (λ (x : List ℕ). Some x) ps) c.args.now heard core c.loop-packet.self) all
    (c.loop-packet.invariant.heard writes job heard core r)
