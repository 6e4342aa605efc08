-- Hosts whose credentials were refused: each is answered more slowly. This project's profile.
use Rattle.std.specs.Prelude.{ℕ, ◌+◌, ◌==◌, ◌&&◌, min, not, nat_le, nat_lt, Bool, true, if◌then◌else◌, List, [], ◌∷◌, ◌++◌, length, filter, find, drop, Option, None, Some}
use Rattle.fax_trunks.specs.declared.host.Host.{Host}
use Rattle.fax_trunks.specs.declared.slow_host.SlowHost.{SlowHost}
use Rattle.fax_trunks.specs.Hosts.{is_same}
use Rattle.fax_trunks.specs.Pauses.{later}

-- the same family and the same bits
abbrev pub is_one : Host → Host → Bool
is_one host other = is_same host.family other.family && host.bits == other.bits

-- this is about the host
abbrev pub is_of : Host → SlowHost → Bool
is_of host slow = is_one host slow.host

-- what is remembered of a host, and of all others
abbrev pub slow_of : List SlowHost → Host → Option SlowHost
slow_of hosts host = find (is_of host) hosts

abbrev pub without : List SlowHost → Host → List SlowHost
without hosts host = filter (λ slow. not (is_of host slow)) hosts

-- it is answered from a moment on
abbrev pub is_answered : Option SlowHost → ℕ → Bool
is_answered None now = true
is_answered (Some slow) now = nat_le slow.until now

-- how long it is not answered after it failed once more
abbrev pub pause_after : Option SlowHost → ℕ
pause_after None = 1000
pause_after (Some slow) = min (slow.pause + slow.pause) 60000

-- the first is forgotten where there is no room
abbrev pub with_room : List SlowHost → List SlowHost
with_room hosts = if nat_lt (length hosts) 256 then hosts else drop 1 hosts

-- a host that failed, not answered for a pause
abbrev pub slowed : Host → ℕ → ℕ → SlowHost
slowed host now pause = record { host = host; pause = pause; until = later now pause }

abbrev pub after_failure : List SlowHost → Host → ℕ → List SlowHost
after_failure hosts host now =
    with_room (without hosts host) ++ slowed host now (pause_after (slow_of hosts host)) ∷ []
