use Rattle.std.proofs.Common.{◌≡◌, ◌+◌, ◌%◌, ℕ, List, [], ◌∷◌, ◌++◌, Some, length, length-append, map, reverse, refl, sym, ◌∙◌, ap, subst, rules}
use Rattle.std.proofs.lemmas.Iterator.Consumers.{YieldsList-at, YieldsList-end, YieldsList-from_first}
use Rattle.std.specs.Borrow.{Bor}
use Rattle.fax_ifp.specs.Elements.{Slot}
use Rattle.fax_udptl.specs.Reading.{texts}
use Rattle.fax_explain.specs.Heard.{Hears}
use Rattle.fax_explain.specs.Listening.{marks_left}
use Rattle.fax_explain.specs.Openings.{Opening, marks_past, packet_openings, packets_openings}
use Rattle.fax_explain.specs.declared.mark.Mark.{Mark}
use Rattle.fax_explain.proofs.OpenedLemmas.{hears_both, hears_none, next_at, packets_left, packets_past, packets_told, slots_kept}
use Rattle.fax_explain.proofs.listener.Listener.hear_packets.Goals as goal

pub loop-packet-preserved : goal.loop-packet-preserved
loop-packet-preserved c =
    let so_far = c.loop-packet.invariant in
    let ys = c.loop-packet.yielded in
    let y = c.in-Some.packet in
    let first = c.args.first in
    let at = c.loop-packet.at in
    let marks = marks_left c.args.self.now in
    record {
      at = next_at at first (length ys) so_far.at ∙ ap (λ (n : ℕ). (first + n) % 65536) (sym (length-append ys (y ∷ [])));
      told = λ ear is_ear slots h.
          let after : List Slot = reverse (map (λ (x : List ℕ). Some x) (texts ys)) ++ slots in
          let before = so_far.told ear is_ear slots h in
          subst (λ (os : List Opening). Hears ear os c.args.self.now c.hear_packet.new.self c.args.tale.now c.hear_packet.new.tale) (sym (packets_told ear marks slots first at ys y so_far.at))
          (hears_both ear (packets_openings ear marks slots first (texts ys)) (packet_openings ear (packets_past slots (texts ys) marks) after at y.now)
          c.args.self.now c.loop-packet.self c.hear_packet.new.self c.args.tale.now c.loop-packet.tale c.hear_packet.new.tale before
          (subst (λ (ms : List Mark). Hears ear (packet_openings ear ms after at y.now) c.loop-packet.self c.hear_packet.new.self c.loop-packet.tale c.hear_packet.new.tale) (so_far.marks slots h)
          (c.in_ok-hear_packet.ensures.told ear before.is_ear after (so_far.heard slots h))));
      heard = λ slots h.
          let after : List Slot = reverse (map (λ (x : List ℕ). Some x) (texts ys)) ++ slots in
          slots_kept slots ys y c.hear_packet.new.self (c.in_ok-hear_packet.ensures.heard after (so_far.heard slots h));
      marks = λ slots h.
          let after : List Slot = reverse (map (λ (x : List ℕ). Some x) (texts ys)) ++ slots in
          packets_left slots ys y marks (marks_left c.hear_packet.new.self)
          (c.in_ok-hear_packet.ensures.marks after (so_far.heard slots h) ∙ ap (λ (ms : List Mark). marks_past after y.now ms) (so_far.marks slots h));
    }

pub loop-packet-init : goal.loop-packet-init
unfolding packets_past
loop-packet-init c = record {
  at = search rules;
  told = λ ear is_ear slots h. hears_none ear c.args.self.now c.args.self.now c.args.tale.now c.args.tale.now is_ear refl refl;
  heard = λ slots h. h;
  marks = λ slots h. refl;
}

pub returns-clause-told : goal.returns-clause-told
returns-clause-told c = λ ear is_ear slots h.
    let seen = YieldsList-end
    (YieldsList-at c.into_iter-packet-iterator.ensures.into_iter_gives
    (YieldsList-from_first (λ (p : Bor (List ℕ)). p.now) (λ (ps : List (List ℕ)). ps) {s = c.args.packets} c.args.packets refl))
    c.loop-packet.yielded _ c.loop-packet.yielded_by _ _ c.in-None.is c.next.ensures.steps in
    let all : texts c.loop-packet.yielded ≡ c.args.packets = seen.0 in
    subst (λ (ps : List (List ℕ)). Hears ear (packets_openings ear (marks_left c.args.self.now) slots c.args.first ps) c.args.self.now c.loop-packet.self c.args.tale.now c.loop-packet.tale) all
    (c.loop-packet.invariant.told ear is_ear slots h)
