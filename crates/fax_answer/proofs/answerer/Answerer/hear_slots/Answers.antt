use Rattle.std.proofs.Common.{rules, ◌≡◌, ◌++◌, ℕ, List, Some, map, sym, ◌∙◌, ap, subst}
use Rattle.std.proofs.lemmas.Iterator.Consumers.{YieldsList-at, YieldsList-end, YieldsList-from_first}
use Rattle.std.specs.Borrow.{Bor}
use Rattle.std.proofs.lemmas.List.{append-nil}
use Rattle.fax_ifp.specs.Elements.{Slot}
use Rattle.fax_ifp.specs.Tracked.{TrackState, Tracks, Gives, lost_slots}
use Rattle.fax_ifp.specs.Pieces.{Piece}
use Rattle.fax_udptl.specs.Reading.{texts}
use Rattle.fax_answer.specs.Images.{GoesOn}
use Rattle.fax_answer.specs.Reached.{Rep, HearsSo, Stands, TakesAll}
use Rattle.fax_answer.specs.Watching.{TellsNothing, Watches}
use Rattle.fax_answer.proofs.Tellings.{watches_more, watches_none}
use Rattle.fax_answer.proofs.ImageLemmas.{goes_same, goes_further}
use Rattle.fax_answer.proofs.SlotsLemmas.{hears_more, hears_so, slots_more}
use Rattle.fax_answer.proofs.answerer.Answerer.hear_slots.Goals as goal

pub loop-packet-preserved : goal.loop-packet-preserved
loop-packet-preserved g c =
    let before = c.loop-packet.invariant in
    let mid : Rep = c.loop-packet.self in
    let inside = c.self-in-loop-packet.inside in
    let tracked : inside.signals ≡ mid.tracked = ap (λ (k : Rep). k.tracked) c.self-in-loop-packet.view_is in
    let given : List Piece = c.slot_into.new.pieces in
    let told = c.as_slice.ensures in
    record {
      heard = λ heard core r.
          subst (λ (s : List Slot). HearsSo (Watches g.W.Watcher.tells c.args.watcher.now c.hear_all.new.watcher) s c.args.now heard core c.hear_all.new.self) (slots_more c.args.decided.now.lost c.loop-packet.yielded c.in-Some.packet)
          (hears_more (Watches g.W.Watcher.tells c.args.watcher.now c.loop-packet.watcher) (Watches g.W.Watcher.tells c.loop-packet.watcher c.hear_all.new.watcher) (Watches g.W.Watcher.tells c.args.watcher.now c.hear_all.new.watcher)
          (λ s t x y. watches_more g.W.Watcher.tells c.args.watcher.now c.loop-packet.watcher c.hear_all.new.watcher s t x y)
          (lost_slots c.args.decided.now.lost ++ map (λ (x : List ℕ). Some x) (texts c.loop-packet.yielded)) c.in-Some.packet.now c.args.now heard core mid c.hear_all.new.self c.slot_into.new.self given (before.heard heard core r)
          (subst (λ (t : TrackState). Tracks (Some c.in-Some.packet.now) t c.slot_into.new.self) tracked c.in_ok-slot_into.ensures.tracked)
          (subst (λ (t : TrackState). Gives (Some c.in-Some.packet.now) t given) tracked c.in_ok-slot_into.ensures.pieces)
          c.hear_all.ensures.tracked
          (λ a s.
          let k = subst (λ (x : Rep). Stands a x) (sym c.self-in-loop-packet.view_is) s in
          subst (λ (ps : List Piece). TakesAll (Watches g.W.Watcher.tells c.loop-packet.watcher c.hear_all.new.watcher) ps c.args.now a c.hear_all.new.self) told
          (c.in_ok-hear_all.ensures.heard a (record { confirmed = k.confirmed; confirms = k.confirms; follows = k.follows; reason = k.reason; holds = k.holds }))));
      goes_on =
          let here = subst (λ (k : Rep). GoesOn k.image.readers c.hear_all.new.self.image.readers) c.self-in-loop-packet.view_is c.hear_all.ensures.goes_on in
          goes_further c.args.self.now.image.readers mid.image.readers c.hear_all.new.self.image.readers before.goes_on here;
      confirmed = c.hear_all.ensures.confirmed ∙ ap (λ (k : Rep). k.confirmed) c.self-in-loop-packet.view_is ∙ before.confirmed;
      spare = c.hear_all.ensures.spare ∙ ap (λ (k : Rep). k.spare) c.self-in-loop-packet.view_is ∙ before.spare;
    }

pub loop-packet-init : goal.loop-packet-init
loop-packet-init g c = record {
  heard = λ heard core r.
      subst (λ (s : List Slot). HearsSo (Watches g.W.Watcher.tells c.args.watcher.now c.args.watcher.now) s c.args.now heard core c.lose.new.self) (ap lost_slots c.lost.ensures ∙ sym (append-nil (lost_slots c.args.decided.now.lost)))
      (hears_so TellsNothing (Watches g.W.Watcher.tells c.args.watcher.now c.args.watcher.now) (lost_slots c.lost.result) c.args.now heard core c.lose.new.self
      (λ told e. watches_none g.W.Watcher.tells c.args.watcher.now told e) (c.lose.ensures.heard heard core r));
  goes_on = goes_same _ _ (search rules);
  confirmed = search rules;
  spare = search rules;
}

pub returns-in_err-hear_all-clause-goes_on : goal.returns-in_err-hear_all-clause-goes_on
returns-in_err-hear_all-clause-goes_on g c =
    let mid : Rep = c.loop-packet.self in
    let here = subst (λ (k : Rep). GoesOn k.image.readers c.hear_all.new.self.image.readers) c.self-in-loop-packet.view_is c.hear_all.ensures.goes_on in
    goes_further c.args.self.now.image.readers mid.image.readers c.hear_all.new.self.image.readers c.loop-packet.invariant.goes_on here

pub returns-clause-heard : goal.returns-clause-heard
returns-clause-heard g c heard core r =
    let seen = YieldsList-end
    (YieldsList-at c.into_iter-packet-iterator.ensures.into_iter_gives
    (YieldsList-from_first (λ (p : Bor (List ℕ)). p.now) (λ (ps : List (List ℕ)). ps) {s = c.packets-packet-items.result} c.args.decided.now.packets c.packets-packet-items.ensures))
    c.loop-packet.yielded _ c.loop-packet.yielded_by _ _ c.in-None.is c.next.ensures.steps in
    let all : texts c.loop-packet.yielded ≡ c.args.decided.now.packets = seen.0 in
    subst (λ (ps : List (List ℕ)). HearsSo (Watches g.W.Watcher.tells c.args.watcher.now c.loop-packet.watcher) (lost_slots c.args.decided.now.lost ++ map (λ (x : List ℕ). Some x) ps) c.args.now heard core c.loop-packet.self) all
    (c.loop-packet.invariant.heard heard core r)
