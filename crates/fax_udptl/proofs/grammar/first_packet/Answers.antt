use Rattle.std.proofs.Common.{ℕ, ap, arith, ◌∙◌}
use Rattle.fax_udptl.specs.Reading.{packets_in}
use Rattle.fax_udptl.proofs.PacketLemmas.{none_left, first_of_packets, has_after, has_a_first}
use Rattle.fax_udptl.proofs.grammar.first_packet.Goals as goal

pub returns-then-left-eq0-clause-none : goal.returns-then-left-eq0-clause-none
returns-then-left-eq0-clause-none c = ap (λ (n : ℕ). packets_in n c.args.octets.now) c.if-left-eq0.true ∙ none_left c.args.octets.now

pub returns-in-Ok-clause-first : goal.returns-in-Ok-clause-first
returns-in-Ok-clause-first c = first_of_packets c.args.left c.args.octets.now _ _ (omega arith) c.requires c.in-Ok.ensures

pub returns-in-Ok-clause-after : goal.returns-in-Ok-clause-after
returns-in-Ok-clause-after c = has_after c.args.left c.args.octets.now _ _ (omega arith) c.requires c.in-Ok.ensures

pub returns-in-Err-clause-none : goal.returns-in-Err-clause-none
returns-in-Err-clause-none c = absurd (has_a_first c.args.left c.args.octets.now c.in-Err.field-0 (omega arith) c.requires c.in-Err.ensures)
