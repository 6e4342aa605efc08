-- What answers are by their definition: laws (this project's profile).
use Rattle.std.specs.Prelude.{◌≡◌, ◌≤◌, ℕ, List, ◌++◌, length, Some}
use Rattle.fax_control.specs.Answers.{answer_text}
use Rattle.fax_control.specs.declared.answer.Answer.{Answer}
use Rattle.fax_say.specs.declared.last.Last.{Last}
use Rattle.fax_say.specs.Answers.{IsAnswer, IsNoAnswer, last_of, last_of_answer}

-- Each answer of a server is known as the last line that it is, and says whether the word was done.
abbrev pub AnswersAreKnown : Type 0
AnswersAreKnown = (answer : Answer) → length (answer_text answer) ≤ 256
    → last_of (answer_text answer) ≡ Some (last_of_answer answer)

-- What comes has one answer at its front.
abbrev pub OneAnswer : Type 0
OneAnswer = (octets rest others after : List ℕ) (last other : Last) → IsAnswer octets last
    → IsAnswer others other → octets ++ rest ≡ others ++ after → (octets ≡ others) × (last ≡ other)

-- Where one stands there, what comes is not without an answer.
abbrev pub NoneIsPassedOver : Type 0
NoneIsPassedOver = (octets rest : List ℕ) (last : Last)
    → IsAnswer octets last → IsNoAnswer (octets ++ rest) → ⊥
