-- What a start finds in both pairs of files that cannot be read. (This project's profile.)
use Rattle.std.specs.Prelude.{ℕ, ◌+◌, ◌-◌, ◌^◌, min}
use Rattle.fax_spool.specs.declared.opening.OpenedSpool.{OpenedSpool}
use Rattle.fax_desk.specs.declared.spool.Damage.{Damage}

-- the damaged records of a pair of files
abbrev pub damaged_in : {D : Type 0} → OpenedSpool D → ℕ
damaged_in opened = opened.older_damaged + opened.newer_damaged

-- the octets of it that are passed over
abbrev pub passed_over_in : {D : Type 0} → OpenedSpool D → ℕ
passed_over_in opened = opened.older_passed_over + opened.newer_passed_over

-- THE DAMAGE THAT IS TOLD is that of both pairs together, up to the greatest count.
abbrev pub damage_found : {D U : Type 0} → OpenedSpool D → OpenedSpool U → Damage
damage_found opened kept =
    record {
      records = min (damaged_in opened + damaged_in kept) (2 ^ 64 - 1);
      octets = min (passed_over_in opened + passed_over_in kept) (2 ^ 64 - 1);
    }
