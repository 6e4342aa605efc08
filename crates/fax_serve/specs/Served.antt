-- A server ran of a configuration. (This project's profile.)
use Rattle.std.specs.Prelude.{◌≡◌, true, List, length, is_some}
use Rattle.fax_config.specs.declared.config.Config.{Config}
use Rattle.fax_config.specs.declared.config.LineConfig.{LineConfig}
use Rattle.fax_runs.specs.Runs.{ServedAlone}

-- A SERVER RAN OF THIS CONFIGURATION: each of its lines by itself; and, where it has a spool, as is told of a server of such lines that keeps
-- its pages there.
pub record RanServer (kept_so : List LineConfig → Type 0) (config : Config) : Type 0 where
  pub alone : ServedAlone (length config.lines.items) (is_some config.spool)
  pub kept : is_some config.spool ≡ true → kept_so config.lines.items
