-- What a file was found to hold.
use Rattle.std.specs.Prelude.{◌≡◌, ◌≤◌, ℕ, nat_eq, nat_le, Bool, ◌&&◌, List, length, take, drop, map, if◌then◌else◌}
use Rattle.std.specs.List.{list_all}
use Rattle.fax_spool.specs.Records.{AreRead, Ends, Stands, is_open}
use Rattle.fax_spool.specs.declared.file.FileContents.{FileContents}

abbrev pub items_of : FileContents → List (List ℕ)
items_of found = map (λ v. v.items) found.items.items

-- How many octets are passed over after the records: none where a shut gate stands there as it is written, or where the file ends
-- there or in such a gate; else all of them.
abbrev pub passed_over : List ℕ → ℕ
passed_over end = if list_all (λ octet. nat_eq octet 0) (take 3 end) then 0 else length end

-- An open gate stands after the records, with room for a header, and no record can be read there: a header is destroyed. (Crashes
-- leave no open gate without its record.)
abbrev pub is_destroyed : List ℕ → Bool
is_destroyed end = nat_le 15 (length end) && is_open end

-- these are the records that the octets begin with, and after them is none
pub record IsFoundIn (octets : List ℕ) (found : FileContents) : Type 0 where
  pub place : found.end ≤ length octets
  pub read : AreRead (take found.end octets) (items_of found)
  pub no_more : Ends (drop found.end octets)
  pub passed_over : found.passed_over ≡ passed_over (drop found.end octets)
  pub destroyed : found.is_destroyed ≡ is_destroyed (drop found.end octets)

-- a file stands for what was found in it, so many octets of it are passed over after its records, and a header there is destroyed or not
pub record IsFoundOf (file : List ℕ) (found : FileContents) : Type 0 where
  pub stands : Stands file (items_of found)
  pub passed_over : found.passed_over ≡ passed_over stands.end
  pub destroyed : found.is_destroyed ≡ is_destroyed stands.end
