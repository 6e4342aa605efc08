use Rattle.std.proofs.Common.{◌≡◌, ◌<◌, ◌≤◌, ℕ, ap, length, vec_capacity, arith}
use Rattle.fax_udptl.proofs.WrittenLemmas.{datagram_size_within}
use Rattle.fax_udptl.proofs.sender.Sender.send.Goals as goal
use Rattle.fax_udptl.proofs.sender.Sender.send.Goals.{then-self-packet+in_ok-reserve_exact+in_ok-reserve_exact-2, else-self-packet}

pub put_datagram-requires-clause-room : goal.put_datagram-requires-clause-room
put_datagram-requires-clause-room c =
    let held : vec_capacity c.replace-datagram.result ≡ vec_capacity c.if-self-packet.self-inside.datagram = ap vec_capacity c.replace-datagram.ensures.value in
    elim c.if-self-packet.branch [
      | then-self-packet+in_ok-reserve_exact+in_ok-reserve_exact-2 w ↦ rw (held, w.self-inside-is) (omega (arith, w.datagram_size.ensures.size c.self.inside.count, w.in_ok-reserve_exact.ensures.ok, w.in_ok-reserve_exact.ensures.len, c.self.invariant))
      | else-self-packet w ↦ rw (held, w.self-inside-is) (omega (arith, datagram_size_within c.self.inside.count c.args.packet.now c.self.inside.last.items (omega (arith, c.len-few.ensures, c.self.invariant)), w.if-self-packet.false, c.self.invariant))
    ]
