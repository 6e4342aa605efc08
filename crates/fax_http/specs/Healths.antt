-- How a server is, in words (this project's profile).
use Rattle.std.specs.Prelude.{ℕ, ◌++◌, Bool, not, ◌&&◌, if◌then◌else◌, List, [], codes}
use Rattle.fax_http.specs.declared.answer.Status.{Status}
use Rattle.fax_http.specs.declared.answer.Status.TheVariants.{Good, NotWell}
use Rattle.fax_http.specs.declared.health.Health.{Health}

-- nothing is wrong
abbrev pub is_well : Health → Bool
is_well health = not health.is_stopping && not health.has_failed_disk && not health.is_late

abbrev pub status_by : Bool → Status
status_by well = if well then Good else NotWell

-- a line, where it says what is so
abbrev pub reason : Bool → List ℕ → List ℕ
reason is_so line = if is_so then line else []

-- a line for each thing that is wrong
abbrev pub reasons : Health → List ℕ
reasons health =
    reason health.is_stopping (codes "it was told to stop\n")
    ++ (reason health.has_failed_disk (codes "the spool's disk has failed\n")
    ++ reason health.is_late (codes "turns are late\n"))

abbrev pub health_text : Health → List ℕ
health_text health = if is_well health then codes "ok\n" else reasons health
