-- What holds of a host whose credentials were refused.
use Rattle.std.specs.Prelude.{◌≡◌, ℕ, ◌<◌, false, List, length, None, Some}
use Rattle.fax_trunks.specs.declared.host.Host.{Host}
use Rattle.fax_trunks.specs.declared.slow_host.SlowHost.{SlowHost}
use Rattle.fax_trunks.specs.SlowHosts.{after_failure, is_one, pause_after, slow_of, slowed, without}

-- Whatever was remembered, what is remembered of a host that failed is this failure, with its pause.
-- Ruled out: an older failure that stands in front; a failure that a full list drops; a pause that begins anew.
abbrev pub FailureIsRemembered : Type 0
FailureIsRemembered = (hosts : List SlowHost) (host : Host) (now : ℕ)
    → slow_of (after_failure hosts host now) host
    ≡ Some (slowed host now (pause_after (slow_of hosts host)))

-- What is remembered of others stays, where there is room.
-- Ruled out: a failure that clears the list; one that slows another host.
abbrev pub FailureKeepsOthers : Type 0
FailureKeepsOthers = (hosts : List SlowHost) (host other : Host) (now : ℕ)
    → is_one other host ≡ false → length (without hosts host) < 256
    → slow_of (after_failure hosts host now) other ≡ slow_of hosts other

-- After its success nothing is remembered of it.
abbrev pub SuccessIsForgotten : Type 0
SuccessIsForgotten = (hosts : List SlowHost) (host : Host)
    → slow_of (without hosts host) host ≡ None

abbrev pub SuccessKeepsOthers : Type 0
SuccessKeepsOthers = (hosts : List SlowHost) (host other : Host)
    → is_one other host ≡ false → slow_of (without hosts host) other ≡ slow_of hosts other
