-- Numbers as they are read of an option.
use Rattle.std.proofs.Common.{◌≡◌, ◌⊎◌, ◌∙◌, ◌^◌, ◌<◌, ◌≤◌, ℕ, Option, Some, None, ap, refl, sym, subst, arith, inl, inr}
use Rattle.std.specs.Prelude.{Ok, Err, Result, unwrap_or}
use Rattle.std.specs.Str.Parse.{ParsesUnsigned, IsNumeral, without_leading_plus}
use Rattle.clap.specs.Words.{ReadsOne, Text}
use Rattle.fax_request.specs.Given.{IsNumberOf, decimal_value}

-- what a text says as a number of 64 bits
pub record IsRead (text : Option Text) (value : Option ℕ) : Type 0 where
  pub said : (digits : Text) → text ≡ Some digits → IsNumeral 10 (without_leading_plus digits) → decimal_value digits < 2 ^ 64
      → value ≡ Some (decimal_value digits)
  pub unsaid : text ≡ None → value ≡ None

-- what `get_one` reads of a text, by the contract of `parse`
pub read_one : {E : Type 0} (G : Text → Result ℕ E → Type 0) → ((u : Text) (r : Result ℕ E) → G u r → ParsesUnsigned 64 10 u r)
    → (digits : Text) (value : Option ℕ) → ReadsOne G digits value → IsNumeral 10 (without_leading_plus digits)
    → decimal_value digits < 2 ^ 64 → value ≡ Some (decimal_value digits)
read_one G only digits (Some v) read numeral fits = ap Some (only digits (Ok v) read).1
read_one G only digits None read numeral fits = absurd (only digits (Err read.0) read.1 (numeral, fits))

pub some_is : (a b : ℕ) → Some a ≡ Some b → a ≡ b
some_is a b e = ap (λ o. unwrap_or o a) e

pub none_is : (a : ℕ) → Some a ≡ None → ⊥
none_is a e = cc

-- a number within its limits is the one that was said
pub number_within : (text : Option Text) (least most usual v : ℕ) → IsRead text (Some v) → least ≤ v → v ≤ most → most < 2 ^ 64
    → IsNumberOf text least most usual v
number_within text least most usual v read low high fits = record {
  said = λ digits e numeral low' high'. some_is _ _ (read.said digits e numeral (omega (arith, high', fits)));
  unsaid = λ e. absurd (none_is v (read.unsaid e));
  at_least = low;
  at_most = high;
}

-- where none within its limits was read, it is the usual one
pub usual_else : (text : Option Text) (value : Option ℕ) (least most usual : ℕ) → IsRead text value
    → ((v : ℕ) → value ≡ Some v → least ≤ v → v ≤ most → ⊥) → least ≤ usual → usual ≤ most → most < 2 ^ 64
    → IsNumberOf text least most usual usual
usual_else text value least most usual read outside low high fits = record {
  said = λ digits e numeral low' high'. absurd (outside (decimal_value digits) (read.said digits e numeral (omega (arith, high', fits))) low' high');
  unsaid = λ _. refl;
  at_least = low;
  at_most = high;
}
