-- The tag of a line's call. (This project's profile.)
use Rattle.std.specs.Prelude.{ℕ, List}

pub record CallTagValue : Type 0 where
  pub line : ℕ
  pub tag : List ℕ
