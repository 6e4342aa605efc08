-- A run over streams that reads an input of any length: what its exit status says of the streams, and when nothing is written
-- (this project's profile).
use Rattle.std.specs.Prelude.{◌≡◌, ◌≢◌, ℕ, ◌⊎◌, true, false}
use Rattle.std.specs.Io.KnownBytes.{Keeps}
use Rattle.fax_command.specs.Runs.{Sinks, Sources}
use Rattle.fax_command.specs.Streams.{greatest_count}

-- A run from this source and sink to these, with this exit status; 4 says that a stream failed. A source that was not read is
-- fresh: its counts are 0, and it has not failed.
pub record IsLongRun {I O : Type 0} (sources : Sources I)
    (sinks : Sinks O) (source read : I) (sink written : O) (status : ℕ) : Type 0 where
  pub handed_on : status ≢ 4 → sinks.held_back written ≡ false
  pub unwritten : status ≡ 4
      → sinks.failed written ≡ false → Keeps (sinks.contents sink) (sinks.contents written)
  pub failed_read : sources.failed source ≡ false → sources.failed read ≡ true
      → (status ≡ 4) × Keeps (sinks.contents sink) (sinks.contents written)
  pub failed_write : sinks.failed sink ≡ false → sinks.failed written ≡ true → status ≡ 4
  pub stream : sources.reads source ≡ 0 → status ≡ 4 → (sources.failed read ≡ true)
      ⊎ (sinks.failed written ≡ true) ⊎ (sources.reads read ≡ greatest_count)
