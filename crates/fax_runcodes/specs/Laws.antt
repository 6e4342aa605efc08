-- What holds of code words and of runs.
use Rattle.std.specs.Prelude.{◌≡◌, ◌⊎◌, ℕ, ◌<◌, Bool, List, ◌++◌, Contains}
use Rattle.fax_runcodes.specs.declared.Colour.{Colour}
use Rattle.fax_runcodes.specs.declared.fault.RunFault.{RunFault}
use Rattle.fax_runcodes.specs.CodeTables.{Word, words}
use Rattle.fax_runcodes.specs.RunFaults.{ReadsRun, FailsRun}
use Rattle.fax_runcodes.specs.Spelling.{SpellsRun, written_run}

-- no word of a colour begins another of it
abbrev pub WordsArePrefixFree : Type 0
WordsArePrefixFree = (colour : Colour) (v w : Word) (x y : List Bool)
    → Contains (words colour) v → Contains (words colour) w → v.word ++ x ≡ w.word ++ y → v ≡ w

-- bits spell at most one run of a colour, and a run's text is no proper front of another's
abbrev pub RunsAreUnique : Type 0
RunsAreUnique = (colour : Colour) (s t : List Bool) (m n : ℕ) (x y : List Bool)
    → SpellsRun colour s m → SpellsRun colour t n → s ++ x ≡ t ++ y → (s ≡ t) × (m ≡ n)

-- of any bits a run is read, or reading one meets a fault
abbrev pub RunsAreReadOrFail : Type 0
RunsAreReadOrFail = (colour : Colour) (bits : List Bool)
    → ((run : ℕ) × (rest : List Bool) × ReadsRun colour bits run rest)
    ⊎ ((fault : RunFault) × FailsRun colour bits fault)

-- the bits in which a run is written spell it
abbrev pub WrittenRunsAreSpelt : Type 0
WrittenRunsAreSpelt = (colour : Colour) (run : ℕ)
    → run < 2624 → SpellsRun colour (written_run colour run) run
