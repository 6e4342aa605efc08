-- What the records of a spool say, and their octets. (This project's profile; numbers have four octets, the high one first.)
use Rattle.std.specs.Prelude.{ℕ, ◌<◌, ◌^◌, Bool, true, false, List, ◌∷◌, ◌++◌, length}
use Rattle.std.specs.Int.{w32, to_be_bytes}
use Rattle.fax_runcodes.specs.declared.Width.{Width}
use Rattle.fax_runcodes.specs.declared.Width.TheVariants.{W1728, W2048, W2432}
use Rattle.fax_runcodes.specs.declared.format.Format.{Format}
use Rattle.fax_jobs.specs.declared.outcome.Outcome.{Outcome}
use Rattle.fax_jobs.specs.Outcomes.{outcome_number}

-- a page that was confirmed: in which life and call, as which page of the call, in what format, whether it closed its job,
-- the names of its line and of its call, and its text in two-dimensional coding without fill
pub record PageValue : Type 0 where
  pub life : ℕ
  pub call : ℕ
  pub number : ℕ
  pub format : Format
  pub closes : Bool
  pub line : List ℕ
  pub tag : List ℕ
  pub text : List ℕ

-- a job that ended: in which life, its report, which page of the call was its first, and the name of its line
pub record EndedValue : Type 0 where
  pub life : ℕ
  pub call : ℕ
  pub first : ℕ
  pub pages : ℕ
  pub delivered : ℕ
  pub format : Format
  pub outcome : Outcome
  pub line : List ℕ

-- the numbers of a page's record have four octets each
pub record PageFits (page : PageValue) : Type 0 where
  pub life : page.life < 2 ^ 32
  pub call : page.call < 2 ^ 32
  pub number : page.number < 2 ^ 32

-- and those of the record of a job that ended
pub record EndFits (ended : EndedValue) : Type 0 where
  pub life : ended.life < 2 ^ 32
  pub call : ended.call < 2 ^ 32
  pub first : ended.first < 2 ^ 32
  pub pages : ended.pages < 2 ^ 32
  pub delivered : ended.delivered < 2 ^ 32

abbrev pub width_octet : Width → ℕ
width_octet W1728 = 0
width_octet W2048 = 1
width_octet W2432 = 2

abbrev pub flag_octet : Bool → ℕ
flag_octet false = 0
flag_octet true = 1

-- a name or a tag stands after its length, at most 255
abbrev pub short_octets : List ℕ → List ℕ
short_octets name = length name ∷ name

abbrev pub page_octets : PageValue → List ℕ
page_octets p =
    1 ∷ to_be_bytes w32 p.life ++ to_be_bytes w32 p.call ++ to_be_bytes w32 p.number
    ++ width_octet p.format.width ∷ flag_octet p.format.fine ∷ flag_octet p.closes
    ∷ short_octets p.line ++ (short_octets p.tag ++ p.text)

abbrev pub ended_octets : EndedValue → List ℕ
ended_octets e = 2 ∷ to_be_bytes w32 e.life ++ to_be_bytes w32 e.call ++ to_be_bytes w32 e.pages
    ++ to_be_bytes w32 e.delivered ++ width_octet e.format.width ∷ flag_octet e.format.fine
    ∷ outcome_number e.outcome ∷ to_be_bytes w32 e.first ++ short_octets e.line

-- the number of an epoch
abbrev pub epoch_octets : ℕ → List ℕ
epoch_octets number = 3 ∷ to_be_bytes w32 number
