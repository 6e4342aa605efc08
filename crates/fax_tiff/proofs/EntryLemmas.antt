-- Fields of a directory, one after the other.
use Rattle.std.proofs.Common.{◌≡◌, ◌≢◌, ℕ, zero, suc, ◌-◌, ◌<◌, ◌==◌, true, false, if◌then◌else◌, List, take, drop, Option, Some, None, refl, sym, ◌∙◌, ap, arith, eq-eqb}
use Rattle.std.proofs.lemmas.Bool.{ne_eqb}
use Rattle.fax_tiff.specs.declared.number.ByteOrder.{ByteOrder}
use Rattle.fax_tiff.specs.Directories.{entry_of, number_16}

pub no_entry : (order : ByteOrder) (tag : ℕ) (entries : List ℕ) → entry_of order tag 0 entries ≡ None
unfolding entry_of
no_entry order tag entries = refl

pub entry_here : (order : ByteOrder) (tag n : ℕ) (entries : List ℕ) → 0 < n → number_16 order (take 12 entries) 0 ≡ tag → entry_of order tag n entries ≡ Some (take 12 entries)
unfolding entry_of
entry_here order tag zero entries some e = absurd (omega arith)
entry_here order tag (suc n) entries some e =
    ap (λ b. if b then Some (take 12 entries) else entry_of order tag n (drop 12 entries)) (eq-eqb (number_16 order (take 12 entries) 0) tag e)

entry_goes_on : (order : ByteOrder) (tag n : ℕ) (entries : List ℕ) → number_16 order (take 12 entries) 0 ≢ tag → entry_of order tag (suc n) entries ≡ entry_of order tag n (drop 12 entries)
unfolding entry_of
entry_goes_on order tag n entries e =
    ap (λ b. if b then Some (take 12 entries) else entry_of order tag n (drop 12 entries)) (ne_eqb (number_16 order (take 12 entries) 0) tag e)

pub entry_further : (order : ByteOrder) (tag n m : ℕ) (entries : List ℕ) → n ≡ suc m → number_16 order (take 12 entries) 0 ≢ tag
    → entry_of order tag n entries ≡ entry_of order tag m (drop 12 entries)
entry_further order tag n m entries is e = ap (λ (k : ℕ). entry_of order tag k entries) is ∙ entry_goes_on order tag m entries e
