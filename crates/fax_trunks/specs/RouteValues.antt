-- What contracts see of a route.
use Rattle.std.specs.Prelude.{ℕ, List}

pub record RouteValue : Type 0 where
  pub prefix : List ℕ
  pub trunk : ℕ
  pub strip : ℕ
  pub add : List ℕ
