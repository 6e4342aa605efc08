-- What passes between a server and what gives its orders. (This project's profile.)
use Rattle.std.specs.Prelude.{ℕ, Option}
use Rattle.fax_line.specs.declared.asked.LineAnswer.{LineAnswer}
use Rattle.fax_line.specs.declared.order.Order.{Order}

-- The server asks what is to be done next, and is told so, or that the run ends; and what was asked of a line is answered.
pub data Word : Type 0 where
  Asks : (order : Option Order) → Word
  Answers : (line : ℕ) → (answer : Option LineAnswer) → Word
