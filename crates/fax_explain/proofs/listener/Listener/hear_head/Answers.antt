use Rattle.std.proofs.Common.{◌≡◌, List, Result, Err, sym, ◌∙◌, ap, subst, rules}
use Rattle.fax_ifp.specs.Packets.{Packet, packet_of}
use Rattle.fax_ifp.specs.declared.fault.IfpFault.{IfpFault}
use Rattle.fax_explain.specs.Heard.{Hears}
use Rattle.fax_explain.specs.Openings.{Opening, head_openings, tone_at, tone_openings}
use Rattle.fax_explain.proofs.OpenedLemmas.{head_told}
use Rattle.fax_explain.proofs.listener.Listener.hear_head.Goals as goal

pub returns-in_ok-hear_tone-in-Ok-clause-told : goal.returns-in_ok-hear_tone-in-Ok-clause-told
returns-in_ok-hear_tone-in-Ok-clause-told c = λ ear is_ear.
    subst (λ (os : List Opening). Hears ear os c.args.self.now c.hear_tone.new.self c.args.tale.now c.hear_tone.new.tale)
    (ap tone_openings (c.tone_of.ensures ∙ ap tone_at c.head.ensures) ∙ sym (head_told c.args.number _ (packet_of c.args.packet.now) c.in-Ok.ensures.read)) (c.in_ok-hear_tone-in-Ok.ensures.told ear is_ear)

pub returns-in_ok-refuse_packet-in-Err : goal.returns-in_ok-refuse_packet-in-Err
returns-in_ok-refuse_packet-in-Err c = record {
  told = λ ear is_ear.
      let refused : packet_of c.args.packet.now ≡ Err c.in-Err.fault = search rules in
      subst (λ (r : Result Packet IfpFault). Hears ear (head_openings c.args.number r) c.args.self.now c.refuse_packet.new.self c.args.tale.now c.refuse_packet.new.tale) (sym refused) (c.in_ok-refuse_packet-in-Err.ensures.told ear is_ear);
  stays = search rules;
  marks = search rules;
  ends = search rules;
}
