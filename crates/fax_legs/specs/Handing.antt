-- What a leg was handed over in a call, while it had a peer and while it had none (this project's profile). The packets of a datagram are
-- its own and some of those before it (ITU-T T.38, UDPTL).
use Rattle.std.specs.Prelude.{ℕ, zero, suc, ◌+◌, ◌-◌, ◌*◌, ◌%◌, ◌^◌, min, Bool, true, false, List, [], ◌∷◌, Option, None, Some, if◌then◌else◌}
use Rattle.fax_legs.specs.HangUps.{is_late, newer_of}
use Rattle.fax_legs.specs.declared.bounding.Limits.{Limits}
use Rattle.fax_legs.specs.declared.handing.Handed.{Handed}

-- a count stops here: no datagram has so many packets
abbrev pub all_packets : ℕ
all_packets = 2 ^ 16 - 1

-- a call begins: none was handed over while there was no peer
abbrev pub nothing_handed : Handed
nothing_handed = record { newest = None; since = all_packets }

-- how far it is from a number to another one, modulo 65,536
abbrev pub steps : ℕ → ℕ → ℕ
steps from to = (65536 + to - from) % 65536

-- Of this many packets, the newest and those before it, each was handed over since there is a peer. SO MANY THEN OF A DATAGRAM OF THIS
-- NUMBER, its own and those before it.
abbrev pub since_of : Option ℕ → ℕ → ℕ → ℕ
since_of None since number = since
since_of (Some newest) since number = if is_late newest number
    then since - steps number newest else min (since + steps newest number) all_packets

-- and so many once it was handed over, of the newest and those before it
abbrev pub since_after : Option ℕ → ℕ → ℕ → ℕ
since_after None since number = since
since_after (Some newest) since number =
    if is_late newest number then since else min (since + steps newest number) all_packets

-- a datagram of this number is handed over, while there is a peer or not
abbrev pub noted : Bool → ℕ → Handed → Handed
noted true number old =
    record { newest = newer_of old.newest number; since = since_after old.newest old.since number }
noted false number old = record { newest = newer_of old.newest number; since = 0 }

-- the same of octets, whose first two are a number; fewer are no datagram
abbrev pub handed_over : Bool → List ℕ → Handed → Handed
handed_over has_peer [] old = old
handed_over has_peer (high ∷ []) old = old
handed_over has_peer (high ∷ low ∷ octets) old = noted has_peer (256 * high + low) old

abbrev pub before_own : ℕ → Option ℕ
before_own zero = None
before_own (suc before) = Some before

-- HOW MANY PACKETS BEFORE ITS OWN a datagram may have, so that each was handed over since there is a peer. None: not its own either.
abbrev pub may_have : Handed → List ℕ → Option ℕ
may_have handed [] = Some all_packets
may_have handed (high ∷ []) = Some all_packets
may_have handed (high ∷ low ∷ octets) =
    before_own (since_of handed.newest handed.since (256 * high + low))

-- with no more packets before its own than so many
abbrev pub with_at_most : ℕ → Limits → Limits
with_at_most before limits = record limits { redundancy = min limits.redundancy before }
