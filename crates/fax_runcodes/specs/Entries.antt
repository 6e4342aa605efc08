-- What the entries of the code's tables hold, and what is found in them. Not part of any public clause.
use Rattle.std.specs.Prelude.{◌≡◌, ◌⊎◌, ℕ, ◌^◌, ◌<◌, ◌≤◌, Bool, false, List, ◌++◌, Contains, length, replicate}
use Rattle.fax_bits.specs.Bits.{word_bits}
use Rattle.fax_bits.specs.Reading.{Place, Passes}
use Rattle.fax_runcodes.specs.declared.Colour.{Colour}
use Rattle.fax_runcodes.specs.declared.tables.CodeWord.{CodeWord}
use Rattle.fax_runcodes.specs.declared.run.FoundRun.{FoundRun}
use Rattle.fax_runcodes.specs.declared.tables.written.WrittenWord.{WrittenWord}
use Rattle.fax_runcodes.specs.CodeTables.{Word, words}
use Rattle.fax_runcodes.specs.Lookups.{IsFoundAt, no_run}
use Rattle.fax_runcodes.specs.RunFaults.{longest_run}
use Rattle.fax_runcodes.specs.Spelling.{SpellsRun}

-- The word that begins the bits; or none, as the bits begin with eight zeros. (The words of a colour
-- and eight zeros together are a complete prefix code.)
abbrev pub IsEntryAt : Colour → List Bool → CodeWord → Type 0
IsEntryAt colour bits found =
    ((found.run ≡ no_run) × (rest : List Bool) × (bits ≡ replicate 8 false ++ rest))
    ⊎ IsFoundAt colour bits found

-- from old to new one word of the colour was passed, which stands for this run
abbrev pub PassesWord : Colour → Place → Place → ℕ → Type 0
PassesWord colour old new run =
    (w : Word) × Contains (words colour) w × (w.run ≡ run) × Passes old new w.word

-- an entry of a table for writing holds these bits, of which there are no more than the longest word has
pub record IsWrittenAs (text : List Bool) (entry : WrittenWord) : Type 0 where
  pub text_is : word_bits entry.bits entry.word ≡ text
  pub below : entry.word < 2 ^ entry.bits
  pub few : entry.bits ≤ 13

-- a run that was found begins the bits, and isn't too long; its words have 26 bits at most
pub record IsRunAt (colour : Colour) (bits : List Bool) (found : FoundRun) : Type 0 where
  pub text : List Bool
  pub rest : List Bool
  pub spelt : SpellsRun colour text found.elements
  pub bits_are : bits ≡ text ++ rest
  pub size_is : length text ≡ found.bits
  pub few : length text ≤ 26
  pub within : found.elements ≤ longest_run
