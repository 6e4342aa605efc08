use Rattle.std.proofs.Common.{[], ◌∷◌, subst}
use Rattle.fax_gateway.specs.declared.leg.Leg.TheVariants as legs
use Rattle.fax_gateway.specs.Wires.{Grows, HandedDatagram}
use Rattle.fax_wires.specs.repeat.Policies.{RepeatingValue}
use Rattle.fax_wires.specs.repeat.Repeats.{told_if}
use Rattle.fax_wires.proofs.repeat.Sending.{repeats_calling, tells_calling, within_kept}
use Rattle.fax_wires.proofs.repeat.repeating.RepeatingWire.send_on_calling.Goals as goal

pub invariant_of-self : goal.invariant_of-self
invariant_of-self g c = record {
  calling = within_kept c.self.inside.policy c.self.inside.clock c.args.octets.now c.hand-is_other.new.self c.hand-is_other.ensures.kept;
  called = c.self.invariant.called;
  repeats = repeats_calling c.self.inside.tells c.both-self-inside.result c.self.inside.policy c.self.inside.clock c.args.octets.now c.self.inside.calling c.hand-is_other.new.self c.self.inside.called
      (g.W.Wire.known c.self.inside.wire).sent (g.W.Wire.known c.send-answer.new.self).sent c.both-self-inside.ensures.first c.hand-is_other.ensures.kept
      (λ t. c.hand-is_other.ensures.short (c.both-self-inside.ensures.second t)) (λ t. c.hand-is_other.ensures.other (c.both-self-inside.ensures.second t)) c.self.invariant.repeats c.send-answer.ensures.sent;
}

pub returns-clause-told : goal.returns-clause-told
returns-clause-told g c =
    let h : HandedDatagram = record { leg = legs.Calling; octets = c.args.octets.now } in
    subst (λ (v : RepeatingValue). Grows (h ∷ []) (told_if v.tells v.wire.sent) (told_if c.both-self-inside.result (g.W.Wire.known c.send-answer.new.self).sent)) c.self.view_is
    (tells_calling c.self.inside.tells c.both-self-inside.result c.self.inside.policy c.args.octets.now c.self.inside.calling c.self.inside.called
    (g.W.Wire.known c.self.inside.wire).sent (g.W.Wire.known c.send-answer.new.self).sent c.both-self-inside.ensures.first
    (λ t. c.hand-is_other.ensures.other (c.both-self-inside.ensures.second t)) c.self.invariant.repeats c.send-answer.ensures.sent)
