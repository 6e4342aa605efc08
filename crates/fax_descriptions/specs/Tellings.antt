-- TELLINGS: a thing that happened, as it is told.
use Rattle.std.specs.Prelude.{ℕ, List, string_bytes}
use Rattle.fax_descriptions.specs.declared.lane.Lane.{Lane}
use Rattle.fax_descriptions.specs.declared.tale.Entry.{Entry}
use Rattle.fax_descriptions.specs.declared.tale.Told.{Told}

-- where it happened, and in which words it is told
pub record Description : Type 0 where
  pub lane : Lane
  pub words : List ℕ

abbrev pub telling_of : Entry → Description
telling_of entry = record { lane = entry.lane; words = string_bytes entry.words }

-- the same of one that is shown
abbrev pub shown_of : Told → Description
shown_of told = record { lane = told.lane; words = told.words.now }
