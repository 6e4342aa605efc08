-- Where no run can be read, and why.
use Rattle.std.specs.Prelude.{◌≡◌, ◌≢◌, ℕ, ◌+◌, ◌<◌, ◌≤◌, Bool, List, [], ◌++◌, All, Contains}
use Rattle.fax_runcodes.specs.declared.Colour.{Colour}
use Rattle.fax_runcodes.specs.declared.fault.RunFault.{RunFault}
use Rattle.fax_runcodes.specs.declared.fault.RunFault.TheVariants.{NoWord, TooLong, End}
use Rattle.fax_runcodes.specs.CodeTables.{Word, words, make_up_words}
use Rattle.fax_runcodes.specs.Spelling.{SpellsRun, text_of, run_of}

-- the longest run that is read: the greatest width
abbrev pub longest_run : ℕ
longest_run = 2432

-- bits begin with a word of the colour
abbrev pub BeginsWith : Colour → List Bool → Word → Type 0
BeginsWith colour bits w = Contains (words colour) w × (rest : List Bool) × (bits ≡ w.word ++ rest)

-- bits end inside a word of the colour: they are a proper prefix of it
abbrev pub EndsInside : Colour → List Bool → Type 0
EndsInside colour bits = (w : Word)
    × Contains (words colour) w × (more : List Bool) × (more ≢ []) × (w.word ≡ bits ++ more)

-- why no further word of a run is taken, where the words so far add to this run length
abbrev pub Stops : Colour → ℕ → List Bool → RunFault → Type 0
Stops colour run bits NoWord =
    ((w : Word) → BeginsWith colour bits w → ⊥) × (EndsInside colour bits → ⊥)
Stops colour run bits TooLong = (w : Word) × BeginsWith colour bits w × (longest_run < run + w.run)
Stops colour run bits End = EndsInside colour bits

-- Reading a run from these bits meets this fault: after make-up words that add to no more than the
-- longest run, no further word can be taken.
pub record FailsRun (colour : Colour) (bits : List Bool) (fault : RunFault) : Type 0 where
  pub make_up : List Word
  pub rest : List Bool
  pub are_make_up : All (λ w. Contains (make_up_words colour) w) make_up
  pub bits_are : bits ≡ text_of make_up ++ rest
  pub within : run_of make_up ≤ longest_run
  pub stops : Stops colour (run_of make_up) rest fault

-- a run that can be read: its spelling begins the bits, and it isn't too long
pub record ReadsRun (colour : Colour) (bits : List Bool) (run : ℕ) (rest : List Bool) : Type 0 where
  pub text : List Bool
  pub spelt : SpellsRun colour text run
  pub within : run ≤ longest_run
  pub bits_are : bits ≡ text ++ rest
