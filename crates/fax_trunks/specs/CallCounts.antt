-- How many calls are on a trunk, and how many may be. This project's profile.
use Rattle.std.specs.Prelude.{ℕ, ◌+◌, ◌-◌, nat_lt, if◌then◌else◌}

pub record CallCount : Type 0 where
  pub on : ℕ
  pub most : ℕ

-- one more, where there is room
abbrev pub after_take : CallCount → CallCount
after_take calls =
    if nat_lt calls.on calls.most then record { on = calls.on + 1; most = calls.most } else calls

-- one fewer, where there is one
abbrev pub after_release : CallCount → CallCount
after_release calls = record { on = calls.on - 1; most = calls.most }
