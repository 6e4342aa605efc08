-- A spool between two calls.
use Rattle.std.specs.Prelude.{◌≡◌, ℕ, Bool, false, IsTrue, List, ◌++◌, length}
use Rattle.sqlite_disk.specs.Disk.{Only}
use Rattle.fax_spool.specs.Records.{AreRead, is_open}

-- a closed gate stands after the records, and all of it is on the disk
pub record IsSettled {D : Type 0} (seen : D → List ℕ) (may_leave : D → List ℕ → Type 0)
    (is_usable : D → Bool) (disk : D) (at : ℕ) (rs : List (List ℕ)) : Type 0 where
  pub front : List ℕ
  pub gate : List ℕ
  pub after : List ℕ
  pub file : seen disk ≡ front ++ (gate ++ after)
  pub read : AreRead front rs
  pub place : at ≡ length front
  pub three : length gate ≡ 3
  pub closed : is_open gate ≡ false
  pub durable : Only (seen disk) (may_leave disk)
  pub usable : IsTrue (is_usable disk)
