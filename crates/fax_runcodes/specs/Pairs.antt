-- A white run and a black one after it, whose words are short (ITU-T T.4, 4.1.1).
use Rattle.std.specs.Prelude.{◌≡◌, ℕ, ◌+◌, ◌<◌, ◌≤◌, Bool, List, ◌++◌, Contains, length}
use Rattle.fax_runcodes.specs.declared.Colour.TheVariants.{White, Black}
use Rattle.fax_runcodes.specs.declared.tables.WordPair.{WordPair}
use Rattle.fax_runcodes.specs.CodeTables.{Word, terminating_words}

-- how many bits both words have at most
abbrev pub most_bits : ℕ
most_bits = 11

-- bits begin with the terminating words of a white run and of a black one, neither of them empty
pub record BeginsWithPair (bits : List Bool) (white black : Word) : Type 0 where
  pub white_ends : Contains (terminating_words White) white
  pub black_ends : Contains (terminating_words Black) black
  pub white_some : 0 < white.run
  pub black_some : 0 < black.run
  pub few : length white.word + length black.word ≤ most_bits
  pub rest : List Bool
  pub bits_are : bits ≡ (white.word ++ black.word) ++ rest

abbrev pub BeginsWithNoPair : List Bool → Type 0
BeginsWithNoPair bits = (white black : Word) → BeginsWithPair bits white black → ⊥

-- such words begin the bits, and what was found says their run lengths and their bits
pub record IsPairAt (bits : List Bool) (found : WordPair) : Type 0 where
  pub white : Word
  pub black : Word
  pub begins : BeginsWithPair bits white black
  pub white_is : white.run ≡ found.white
  pub black_is : black.run ≡ found.black
  pub bits_is : length white.word + length black.word ≡ found.bits
