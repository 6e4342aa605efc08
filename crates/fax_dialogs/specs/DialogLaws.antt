-- What holds of dialogs (RFC 3261, 12).
use Rattle.std.specs.Prelude.{◌≡◌, ℕ, suc, zero, ◌^◌, ◌++◌, ◌<◌, true, List, [], ◌∷◌, Result, Ok, Err}
use Rattle.fax_dialogs.specs.DialogValues.{DialogValue}
use Rattle.fax_dialogs.specs.declared.dialog_fault.DialogFault.{DialogFault}
use Rattle.fax_dialogs.specs.Dialogs.{is_of, number_after, numbered}
use Rattle.fax_sip.specs.Messages.{MessageText}

-- the number that is given, where one is
abbrev pub given : Result ℕ DialogFault → List ℕ
given (Ok number) = number ∷ []
given (Err fault) = []

-- the numbers of so many requests of ours, one after another
abbrev pub numbers_of : ℕ → DialogValue → List ℕ
numbers_of zero dialog = []
numbers_of (suc count) dialog =
    given (number_after dialog.local_number) ++ numbers_of count (numbered dialog)

-- each is above the one before, and below 2 ^ 31
abbrev pub Rising : ℕ → List ℕ → Type 0
Rising last [] = Unit {0}
Rising last (number ∷ numbers) = (last < number) × (number < 2 ^ 31) × Rising number numbers

-- The numbers of our requests rise.
-- Ruled out: a number that is given twice; one that begins anew after 2 ^ 31 - 1; one that goes back at an answer.
abbrev pub NumbersRise : Type 0
NumbersRise = (count : ℕ) (dialog : DialogValue)
    → Rising dialog.local_number (numbers_of count dialog)

-- A request is of one dialog at most: of two that take it, the Call-ID and both tags are the same.
-- Ruled out: a dialog that takes each request of its Call-ID; one that takes what has its own tag alone; one that takes tags in either order.
abbrev pub OneTakesIt : Type 0
OneTakesIt = (one other : DialogValue) (request : MessageText)
    → is_of one request ≡ true → is_of other request ≡ true → (one.call_id ≡ other.call_id)
    × (one.local_tag ≡ other.local_tag) × (one.remote_tag ≡ other.remote_tag)
