-- A run over streams, whatever it answers to what it reads: how far it reads, what its exit status says of the streams, and
-- when nothing is written (this project's profile).
use Rattle.std.specs.Prelude.{◌≡◌, ◌≢◌, ℕ, ◌+◌, ◌<◌, ◌≤◌, ◌⊎◌, Bool, true, false, List, length, Option, IfSome}
use Rattle.std.specs.Io.KnownBytes.{Keeps}
use Rattle.fax_command.specs.declared.stream.TheConstants.{MOST_AT_ONCE, MOST_OCTETS, MOST_READS}

-- how sources of a kind are seen, as `Source` says
pub record Sources (I : Type 0) : Type 0 where
  pub remaining : I → Option (List ℕ)
  pub reads : I → ℕ
  pub given : I → ℕ
  pub failed : I → Bool

-- how sinks of a kind are seen, as `Sink` says
pub record Sinks (O : Type 0) : Type 0 where
  pub contents : O → Option (List ℕ)
  pub failed : O → Bool
  pub held_back : O → Bool

-- A run from this source and sink to these, with this exit status; 4 says that a stream failed, or that the input went past
-- its bound.
pub record RunsOver {I O : Type 0} (sources : Sources I)
    (sinks : Sinks O) (source read : I) (sink written : O) (status : ℕ) : Type 0 where
  pub handed_on : status ≢ 4 → sinks.held_back written ≡ false
  pub unwritten : status ≡ 4
      → sinks.failed written ≡ false → Keeps (sinks.contents sink) (sinks.contents written)
  -- a known input past the bound is not answered; memory may be wanting before its end
  pub too_long : IfSome (sources.remaining source)
      (λ input. MOST_OCTETS < length input → (status ≡ 4) ⊎ (status ≡ 3))
  -- the source is read no further than its bounds
  pub reads : sources.reads read ≤ sources.reads source + MOST_READS
  pub given : sources.given read ≤ sources.given source + MOST_OCTETS + MOST_AT_ONCE
  -- each fault of a stream that is met gives status 4, and after those of a source nothing is written
  pub failed_read : sources.failed source ≡ false → sources.failed read ≡ true
      → (status ≡ 4) × Keeps (sinks.contents sink) (sinks.contents written)
  pub too_much : sources.given source ≡ 0 → MOST_OCTETS < sources.given read
      → (status ≡ 4) × Keeps (sinks.contents sink) (sinks.contents written)
  pub failed_write : sinks.failed sink ≡ false → sinks.failed written ≡ true → status ≡ 4

-- Such a run, in which nothing but a stream gives status 4. A source that was not read is fresh: its counts are 0, and it has not failed.
pub record IsRun {I O : Type 0} (sources : Sources I)
    (sinks : Sinks O) (source read : I) (sink written : O) (status : ℕ) : Type 0 where
  pub over : RunsOver sources sinks source read sink written status
  pub stream : sources.reads source ≡ 0 → sources.given source ≡ 0
      → status ≡ 4 → (sources.failed read ≡ true) ⊎ (sinks.failed written ≡ true)
      ⊎ (MOST_OCTETS < sources.given read) ⊎ (sources.reads read ≡ MOST_READS)
