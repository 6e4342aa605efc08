use Rattle.std.proofs.Common.{◌≡◌, ◌≢◌, ◌↔◌, List, ◌++◌, reverse, Result, Ok, Err, OnOk, IsErr}
use Rattle.fax_bits.specs.declared.memory.NoMemory.{NoMemory}
use Rattle.fax_ifp.specs.declared.fault.IfpFault.{IfpFault}
use Rattle.fax_ifp.specs.declared.fault.IfpFault.TheVariants as faults
use Rattle.fax_ifp.specs.Packets.{Packet, packet_of}
use Rattle.fax_ifp.specs.Elements.{Element, elements_in}
use Rattle.fax_ifp.specs.Pieces.{Piece}
use Rattle.fax_ifp.specs.Inside.Hearing.{HasGiven}
use Rattle.fax_ifp.specs.Shown.{pieces_shown}
use Rattle.fax_ifp.proofs.signals.Signals.packet.Goals as goal

pub returns-in-Ok-clause-given : goal.returns-in-Ok-clause-given
returns-in-Ok-clause-given c = rw c.in-Ok.ensures.read c.content.ensures.given

-- a packet is refused with its own fault, unless memory is wanted
with_own_fault : (r : Result (Unit {0}) NoMemory) (fault : IfpFault) (read : Result Packet IfpFault) (P : List Element → Type 0)
    → (IsErr r ↔ (fault ≡ faults.NoMemory)) → (fault ≢ faults.NoMemory → read ≡ Err fault) → OnOk r (P (elements_in (Err fault))) → OnOk r (P (elements_in read))
with_own_fault (Ok u) fault read P memory own h =
    let other : fault ≢ faults.NoMemory = λ e. let wrong = memory.1 e in cc in
    rw (own other) h
with_own_fault (Err e) fault read P memory own h = tt

pub returns-in-Err-clause-given : goal.returns-in-Err-clause-given
returns-in-Err-clause-given c =
    with_own_fault c.refused.result c.in-Err.fault (packet_of c.args.octets.now)
    (λ es. (heard : List Element) (earlier : List Piece) → HasGiven heard c.args.self.now earlier (pieces_shown c.args.pieces.now.items)
    → HasGiven (reverse es ++ heard) c.refused.new.self earlier (pieces_shown c.refused.new.pieces.items))
    c.refused.ensures.memory c.in-Err.ensures.refused c.refused.ensures.given
