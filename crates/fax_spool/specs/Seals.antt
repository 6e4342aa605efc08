-- The seal of a record (this project's profile; the digest is that of FIPS 180-4, 6.2).
use Rattle.std.specs.Prelude.{ℕ, List, ◌++◌}
use Rattle.sha2.specs.Sha256.{sha256}

-- a record after its digest
abbrev pub sealed : List ℕ → List ℕ
sealed octets = sha256 octets ++ octets
