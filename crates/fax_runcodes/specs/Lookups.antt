-- What a look-up of the word that begins bits answers.
use Rattle.std.specs.Prelude.{◌≡◌, ℕ, Bool, List, length}
use Rattle.fax_runcodes.specs.declared.Colour.{Colour}
use Rattle.fax_runcodes.specs.declared.tables.CodeWord.{CodeWord}
use Rattle.fax_runcodes.specs.CodeTables.{Word}
use Rattle.fax_runcodes.specs.RunFaults.{BeginsWith}

-- the run length of an answer that there is no word: no word stands for it
abbrev pub no_run : ℕ
no_run = 4095

-- no word of the colour begins the bits
abbrev pub BeginsWithNone : Colour → List Bool → Type 0
BeginsWithNone colour bits = (w : Word) → BeginsWith colour bits w → ⊥

-- a word of the colour begins the bits, and what was found says its run length and number of bits
pub record IsFoundAt (colour : Colour) (bits : List Bool) (found : CodeWord) : Type 0 where
  pub word : Word
  pub begins : BeginsWith colour bits word
  pub run_is : word.run ≡ found.run
  pub bits_is : length word.word ≡ found.bits
