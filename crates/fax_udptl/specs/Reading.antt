-- What the reader's own parts are seen as.
use Rattle.std.specs.Prelude.{◌≡◌, ℕ, ◌<◌, ◌≤◌, length, List, [], ◌∷◌, map, flat_map, Option, None, Some, Result, Ok, Err}
use Rattle.std.specs.List.{AllByRecursion}
use Rattle.std.specs.Borrow.{Bor}
use Rattle.fax_udptl.specs.declared.fault.UdptlFault.{UdptlFault}
use Rattle.fax_udptl.specs.Datagrams.{packets_at}

-- what a call answered, seen by view, is what reading gives
abbrev pub Gives : {X Y : Type 0} → (X → Y) → Result X UdptlFault → Result Y UdptlFault → Type 0
Gives view (Ok x) read = read ≡ Ok (view x)
Gives view (Err e) read = read ≡ Err e

-- the fault of what was read, if there is one
abbrev pub fault_in : {X : Type 0} → Result X UdptlFault → Option UdptlFault
fault_in (Ok x) = None
fault_in (Err e) = Some e

-- the packets that were read, none where there was a fault
abbrev pub packets_read : Result (List (List ℕ)) UdptlFault → List (List ℕ)
packets_read (Ok packets) = packets
packets_read (Err e) = []

-- so many packets that stand in octets
unfoldable pub packets_in : ℕ → List ℕ → List (List ℕ)
packets_in count octets = packets_read (packets_at count octets)

-- so many packets stand in octets
unfoldable pub HasPackets : ℕ → List ℕ → Type 0
HasPackets count octets = fault_in (packets_at count octets) ≡ None

-- what references to octets show
abbrev pub texts : List (Bor (List ℕ)) → List (List ℕ)
texts packets = map (λ p. p.now) packets

abbrev pub text_list : Option (Bor (List ℕ)) → List (List ℕ)
text_list None = []
text_list (Some packet) = packet.now ∷ []

-- lists of 1 to 64 packets
abbrev pub AreBlocks : List (List (List ℕ)) → Type 0
AreBlocks blocks = AllByRecursion (λ block. (0 < length block) × (length block ≤ 64)) blocks

-- the packets of blocks, one block after the other
abbrev pub packets_of : List (List (List ℕ)) → List (List ℕ)
packets_of blocks = flat_map (λ block. block) blocks
