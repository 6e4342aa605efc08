-- A name after its length tells where it ends.
use Rattle.std.proofs.Common.{◌≡◌, ◌≢◌, ℕ, List, ◌++◌, length, drop, get_or, refl, sym, ◌∙◌, ap}
use Rattle.std.proofs.lemmas.List.{drop_at}
use Rattle.fax_spool.specs.RecordOctets.{short_octets}

pub after_short : (a b x y : List ℕ) → short_octets a ++ x ≡ short_octets b ++ y → x ≡ y
after_short a b x y same =
    sym (drop_at a x (length a) refl)
    ∙ ap (λ (l : List ℕ). drop (length a) (drop 1 l)) same
    ∙ drop_at b y (length a) (sym (ap (λ (l : List ℕ). get_or l 0 0) same))

-- where none stands after the first, there are no two
pub no_second : (octets first rest : List ℕ) → octets ≡ short_octets first ++ rest → ((name after : List ℕ) → rest ≢ short_octets name ++ after)
    → (line tag text : List ℕ) → octets ≢ short_octets line ++ (short_octets tag ++ text)
no_second octets first rest is none line tag text same = none tag text (after_short first line rest (short_octets tag ++ text) (sym is ∙ same))
