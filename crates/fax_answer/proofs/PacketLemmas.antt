-- The packets of the answerer are short.
use Rattle.std.proofs.Common.{◌≡◌, ℕ, ◌≤◌, List, length, sym, subst, arith}
use Rattle.fax_ifp.specs.WrittenPackets.{written_after}
use Rattle.fax_answer.specs.declared.pending.Reply.TheVariants.{Dis, Plain}
use Rattle.fax_answer.specs.declared.pending.Pending.{Pending}
use Rattle.fax_answer.specs.declared.pending.Pending.TheVariants.{Nothing, Tone, Preamble, Frame}
use Rattle.fax_answer.specs.Pending.{packet_text}

pub packet_short : (p : Pending) → length (packet_text p) ≤ 12
unfolding written_after
packet_short Nothing = omega arith
packet_short Tone = omega arith
packet_short (Preamble reply) = omega arith
packet_short (Frame Dis) = omega arith
packet_short (Frame (Plain plain)) = omega arith

-- the same of octets that are one
pub short_as : (p : Pending) (octets : List ℕ) → octets ≡ packet_text p → length octets ≤ 12
short_as p octets is = subst (λ (o : List ℕ). length o ≤ 12) (sym is) (packet_short p)
