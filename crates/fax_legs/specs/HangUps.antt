-- How the end of a peer's call is brought in where a word says it (this project's profile).
use Rattle.std.specs.Prelude.{◌≡◌, ℕ, ◌+◌, ◌-◌, ◌*◌, ◌<◌, ◌%◌, nat_lt, Bool, true, false, List, [], ◌∷◌, ◌++◌, drop, Option, None, Some, if◌then◌else◌}
use Rattle.fax_frames.specs.declared.writing.Plain.TheVariants.{Dcn}
use Rattle.fax_frames.specs.Written.{written_plain}
use Rattle.fax_ifp.specs.Packets.{FieldText}
use Rattle.fax_ifp.specs.WrittenPackets.{frame_fields, written_message}
use Rattle.fax_udptl.specs.Datagrams.{DatagramValue, written_datagram}
use Rattle.fax_udptl.specs.Taking.{IsAfter}
use Rattle.fax_legs.specs.declared.hang_up.Standing.{Standing}
use Rattle.fax_legs.specs.declared.hang_up.Standing.TheVariants as standings
use Rattle.fax_legs.specs.declared.hang_up.PeerCall.{PeerCall}

-- What the peer would say last: a frame that it has begun is none, and a DCN follows. (ITU-T T.38: V.21 data, hdlc-sig-end,
-- and a frame; T.30, 5.3.6.1.6.)
abbrev pub goodbye_fields : List FieldText
goodbye_fields = record { what = 1; octets = None } ∷ frame_fields (written_plain Dcn false)

-- the datagram of this number that says so, and nothing else
unfoldable pub goodbye : ℕ → List ℕ
goodbye number = written_datagram (record {
  number = number;
  primary = written_message 0 goodbye_fields;
  secondaries = [];
})

-- A number is late where it lies at most 32,767 before the newest one, modulo 65,536; the same number is late.
abbrev pub is_late : ℕ → ℕ → Bool
is_late newest number = nat_lt ((65536 + newest - number) % 65536) 32768

abbrev pub newer_of : Option ℕ → ℕ → Option ℕ
newer_of None number = Some number
newer_of (Some newest) number = if is_late newest number then Some newest else Some number

-- the number of the newest datagram, once these octets have come: the first two are a number
abbrev pub newest_after : Option ℕ → List ℕ → Option ℕ
newest_after newest [] = newest
newest_after newest (high ∷ []) = newest
newest_after newest (high ∷ low ∷ octets) = newer_of newest (256 * high + low)

-- the number after the newest one
abbrev pub number_after : Option ℕ → ℕ
number_after None = 0
number_after (Some newest) = (newest + 1) % 65536

-- whether it is gone
abbrev pub is_over : Standing → Bool
is_over standings.There = false
is_over standings.Gone = true
is_over standings.Told = true

-- in the next turn it is to be handed out once more
abbrev pub due_again : Standing → Standing
due_again standings.There = standings.There
due_again standings.Gone = standings.Gone
due_again standings.Told = standings.Gone

-- The goodbye after the newest datagram is handed out, in the front of the buffer, and is the newest then.
pub record HandsOut (old new : PeerCall) (before after : List ℕ) : Type 0 where
  pub octets : after ≡ goodbye (number_after old.newest) ++ drop 14 before
  pub call : new ≡ record { newest = Some (number_after old.newest); standing = standings.Told }

-- the number of the newest of the datagrams that came, where the last of them stands first
abbrev pub newest_of : List DatagramValue → Option ℕ
newest_of [] = None
newest_of (d ∷ earlier) = newer_of (newest_of earlier) d.number

-- a number has 16 bits
abbrev pub HaveNumbers : List DatagramValue → Type 0
HaveNumbers [] = Unit {0}
HaveNumbers (d ∷ earlier) = (d.number < 65536) × HaveNumbers earlier

-- It is the greatest that a receiver knows of. So a goodbye has the number that the receiver expects: it is not late, and no
-- slot is missing before it.
abbrev pub GoodbyesAreExpected : Type 0
GoodbyesAreExpected = (arrived : List DatagramValue) (expected : ℕ) → HaveNumbers arrived
    → IsAfter arrived (Some expected) → number_after (newest_of arrived) ≡ expected
