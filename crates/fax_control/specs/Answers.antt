-- The answers to control words (this project's profile).
use Rattle.std.specs.Prelude.{ℕ, List, ◌++◌, codes, decimal}
use Rattle.fax_control.specs.declared.refusal.Refusal.{Refusal}
use Rattle.fax_control.specs.declared.refusal.Refusal.TheVariants.{Busy, NoNumber, NoMemory, NoPeer, Stopping, InCall, NoLine, NoWord, TooLong, NoRoute, NoCall, Fixed, NoSpool, Full, NoReload}
use Rattle.fax_control.specs.declared.answer.Answer.{Answer}
use Rattle.fax_control.specs.declared.answer.Answer.TheVariants.{Done, Rung, RungOn, Refused}

abbrev pub number_of_refusal : Refusal → ℕ
number_of_refusal Busy = 1
number_of_refusal NoNumber = 2
number_of_refusal NoMemory = 3
number_of_refusal NoPeer = 4
number_of_refusal Stopping = 5
number_of_refusal InCall = 6
number_of_refusal NoLine = 7
number_of_refusal NoWord = 8
number_of_refusal TooLong = 9
number_of_refusal NoRoute = 10
number_of_refusal NoCall = 11
number_of_refusal Fixed = 12
number_of_refusal NoSpool = 13
number_of_refusal Full = 14
number_of_refusal NoReload = 15

abbrev pub name_of_refusal : Refusal → List ℕ
name_of_refusal Busy = codes "Busy"
name_of_refusal NoNumber = codes "NoNumber"
name_of_refusal NoMemory = codes "NoMemory"
name_of_refusal NoPeer = codes "NoPeer"
name_of_refusal Stopping = codes "Stopping"
name_of_refusal InCall = codes "InCall"
name_of_refusal NoLine = codes "NoLine"
name_of_refusal NoWord = codes "NoWord"
name_of_refusal TooLong = codes "TooLong"
name_of_refusal NoRoute = codes "NoRoute"
name_of_refusal NoCall = codes "NoCall"
name_of_refusal Fixed = codes "Fixed"
name_of_refusal NoSpool = codes "NoSpool"
name_of_refusal Full = codes "Full"
name_of_refusal NoReload = codes "NoReload"

-- the number, a space, the name
abbrev pub refusal_text : Refusal → List ℕ
refusal_text refusal = decimal (number_of_refusal refusal) ++ (codes " " ++ name_of_refusal refusal)

-- the line of an answer, its line feed aside
abbrev pub answer_text : Answer → List ℕ
answer_text Done = codes "ok"
answer_text (Rung call) = codes "ok " ++ decimal call
answer_text (RungOn line call) = codes "ok " ++ (line.now ++ (codes " " ++ decimal call))
answer_text (Refused refusal) = codes "refused " ++ refusal_text refusal
