-- What a dialog is made of (RFC 3261, 12).
use Rattle.std.specs.Prelude.{ℕ, List, Option}
use Rattle.fax_dialogs.specs.declared.role.Role.{Role}

-- a tag that is empty is none; a number 0 of ours means that none was sent
pub record DialogValue : Type 0 where
  pub role : Role
  pub call_id : List ℕ
  pub local_tag : List ℕ
  pub remote_tag : List ℕ
  pub local_uri : List ℕ
  pub remote_uri : List ℕ
  pub local_number : ℕ
  pub remote_number : Option ℕ
  pub target : List ℕ
  pub routes : List (List ℕ)
