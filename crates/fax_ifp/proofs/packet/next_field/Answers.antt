use Rattle.std.proofs.Common.{ℕ, ◌/◌, Some, get_or, sym, ◌∙◌, ap, arith}
use Rattle.std.proofs.lemmas.Nat.{and_mask}
use Rattle.fax_ifp.specs.Packets.{field_of}
use Rattle.fax_ifp.proofs.ReadingLemmas.{rest_from, field_at_none, field_at_octet, field_at_half}
use Rattle.fax_ifp.proofs.packet.next_field.Goals as goal

pub returns-in-Some-default : goal.returns-in-Some-default
returns-in-Some-default c = rw c.in-Some-default.is-0 (c.field_of.ensures ∙ sym (field_at_half c.in-Some-default.half c.args.place.octets.now))

pub returns-in-None-empty : goal.returns-in-None-empty
returns-in-None-empty c = rw c.in-None-empty.is-0 (sym (field_at_none c.args.place.octets.now (omega arith)))

pub returns-in-None-len1-up : goal.returns-in-None-len1-up
returns-in-None-len1-up c =
    let first : ℕ = get_or c.args.place.octets.now 0 0 in
    rw c.in-None-len1-up.is-0
    (c.field_of-in-None-len1-up.ensures
    ∙ ap (λ (n : ℕ). field_of (first / 16) (Some n) (rest_from 1 c.args.place.octets.now)) (and_mask first 4)
    ∙ sym (field_at_octet c.args.place.octets.now (omega arith)))
