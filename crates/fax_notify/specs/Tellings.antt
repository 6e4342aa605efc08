-- What a service manager was told. Lists have the newest first. (This project's profile.)
use Rattle.std.specs.Prelude.{ℕ, List, ◌∷◌, Option, option_map}
use Rattle.fax_notify.specs.declared.notice.Notice.{Notice}
use Rattle.fax_notify.specs.declared.notice.Notice.TheVariants.{Ready}

-- this notice too, where that is told
abbrev pub told_after : Notice → Option (List Notice) → Option (List Notice)
told_after notice told = option_map (λ earlier. notice ∷ earlier) told

-- that so many lines are open too
abbrev pub ready_after : (lines : ℕ) → Option (List Notice) → Option (List Notice)
ready_after lines told = told_after (Ready lines) told
