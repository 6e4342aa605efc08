-- The numbers of a dialog rise, and a request is of one dialog at most.
use Rattle.std.proofs.Common.{◌≡◌, ℕ, ◌+◌, ◌-◌, ◌^◌, ◌++◌, ◌<◌, ◌&&◌, Bool, true, false, nat_lt, if◌then◌else◌, zero, suc, List, [], ◌∷◌, Result, Ok, Err, refl, sym, ◌∙◌, arith}
use Rattle.std.specs.Str.{bytes_eq}
use Rattle.std.proofs.lemmas.Bool.Decides.{nat_tests}
use Rattle.std.proofs.lemmas.Slice.Eq.{bytes_eq-Decides}
use Rattle.fax_dialogs.specs.DialogValues.{DialogValue}
use Rattle.fax_dialogs.specs.declared.dialog_fault.DialogFault.TheVariants.{NumbersSpent}
use Rattle.fax_dialogs.specs.DialogLaws.{given, numbers_of, NumbersRise, OneTakesIt, Rising}
use Rattle.fax_dialogs.specs.Dialogs.{number_after, tag_of}

pub lt_holds : (a b : ℕ) → nat_lt a b ≡ true → a < b
lt_holds a b e = grind (arith, nat_tests)

-- where a number is given, it is the next one, and what follows rises from it
pub rising_if :
    (count : ℕ) (dialog : DialogValue) (b : Bool) → (b ≡ true → dialog.local_number < 2 ^ 31 - 1) → ((after : DialogValue) → Rising after.local_number (numbers_of count after))
    → Rising dialog.local_number (given (if b then Ok (dialog.local_number + 1) else Err NumbersSpent)
    ++ numbers_of count (if b then record dialog { local_number = dialog.local_number + 1 } else dialog))
rising_if count dialog true low rises =
    let small : dialog.local_number < 2 ^ 31 - 1 = low refl in (omega arith, omega arith, rises (record dialog { local_number = dialog.local_number + 1 }))
rising_if count dialog false low rises = rises dialog

pub numbers_rise : NumbersRise
numbers_rise zero dialog = tt
numbers_rise (suc count) dialog =
    rising_if count dialog (nat_lt dialog.local_number (2 ^ 31 - 1)) (lt_holds dialog.local_number (2 ^ 31 - 1)) (λ after. numbers_rise count after)

-- both hold of a conjunction
pub and_left : (a b : Bool) → a && b ≡ true → a ≡ true
and_left true b e = refl
and_left false b e = cc

pub and_right : (a b : Bool) → a && b ≡ true → b ≡ true
and_right true b e = e
and_right false b e = cc

pub same_text : (text other : List ℕ) → bytes_eq text other ≡ true → text ≡ other
same_text text other e = (bytes_eq-Decides text other).0 e

-- what a text is told to be twice is one
pub same_both : (text one other : List ℕ) → bytes_eq text one ≡ true → bytes_eq text other ≡ true → one ≡ other
same_both text one other e f = sym (same_text text one e) ∙ same_text text other f

pub one_takes_it : OneTakesIt
one_takes_it one other request e f =
    let to : List ℕ = tag_of request.to in
    let from : List ℕ = tag_of request.from in
    let tags : bytes_eq to one.local_tag && bytes_eq from one.remote_tag ≡ true =
    and_right (bytes_eq request.call_id one.call_id) (bytes_eq to one.local_tag && bytes_eq from one.remote_tag) e in
    let others : bytes_eq to other.local_tag && bytes_eq from other.remote_tag ≡ true =
    and_right (bytes_eq request.call_id other.call_id) (bytes_eq to other.local_tag && bytes_eq from other.remote_tag) f in (
      same_both request.call_id one.call_id other.call_id
          (and_left (bytes_eq request.call_id one.call_id) (bytes_eq to one.local_tag && bytes_eq from one.remote_tag) e)
          (and_left (bytes_eq request.call_id other.call_id) (bytes_eq to other.local_tag && bytes_eq from other.remote_tag) f),
      same_both to one.local_tag other.local_tag (and_left (bytes_eq to one.local_tag) (bytes_eq from one.remote_tag) tags)
          (and_left (bytes_eq to other.local_tag) (bytes_eq from other.remote_tag) others),
      same_both from one.remote_tag other.remote_tag (and_right (bytes_eq to one.local_tag) (bytes_eq from one.remote_tag) tags)
          (and_right (bytes_eq to other.local_tag) (bytes_eq from other.remote_tag) others),
    )
